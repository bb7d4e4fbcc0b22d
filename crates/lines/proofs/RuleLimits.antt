-- A rule line's answer by its form: what holds of the capped values holds of the values. Assumes nothing.
use mathlib.Core.Path.{◌≡◌, refl, sym, ◌∙◌, ap, ap₂}
use mathlib.Core.Bool.{Bool, true, false, cond, not, ◌&&◌, beq, and-true}
use mathlib.Core.List.{List}
use Prim.Native.Nat.{ℕ, ◌+◌, ◌≤◌, ◌<◌}
use native.Mathlib.Omega.{arith}
use lib.Dec.{leb, eqb}
use lib.IntN.{ℤ, pos, negsuc, neg_ℤ, nat_abs, ◌+ℤ◌, +ℤ_idr}
use lib.ListN.{drop}
use mir.Syntax.{w32, w64}
use mir.Val.{SFits, to_z, of_z}
use borrow.Author.Tests.{leb-true, eqb-true, eqb-false}
use Rattle.std.specs.Prelude.{Option, Some, None, Ok, Err}
use Rattle.std.specs.Option.{unwrap_or}
use Rattle.integers.proofs.Parts.{linear, positive_part, negative_part, parts_add, parts_neg, word_of, word_value}
use Rattle.numerals.specs.declared.read.Found.{Found}
use Rattle.numerals.specs.Decimal.{cap}
use Rattle.numerals.specs.Parsing.{Parsed, parsed, malformed, found_in}
use Rattle.numerals.proofs.Cases.{both_true}
use Rattle.numerals.proofs.Values.{capped_most, capped_least}
use Rattle.rules.specs.declared.refusal.Refusal.{Refusal}
use Rattle.rules.specs.declared.refusal.Refusal.TheVariants.{OutOfLimit, Cancelling}
use Rattle.rules.specs.declared.rule.Rule.{Rule}
use Rattle.rules.specs.Limits.{max_quantities}
use Rattle.rules.specs.Steps.{is_none, rule_of}
use Rattle.rules.specs.Literal.{quantity_within}
use Rattle.rules.specs.RuleWords.{rule_values}
use Rattle.rules.proofs.Quantities.{within_range, none_zero, none_other}
use Rattle.lines.specs.declared.spelled.Spelled.{Spelled}
use Rattle.lines.specs.Spelling.{Term, Written, one, two, rule_within, cancelling, signed_quantity, written_rule}
use Rattle.lines.specs.Lines.{rule_line, rule_judged}
use Rattle.lines.specs.Answers.{rule_answer, LineAnswered}
use Rattle.lines.specs.Inner.{capped_integer, well_formed, found_answer, form, second_within, form_within}
use Rattle.lines.proofs.Answered.{rule_answered}
use Rattle.lines.proofs.Judging.{line_malformed, line_outside, line_cancels, line_accepted}
use Rattle.lines.proofs.CappedIntegers.{nat_abs_capped, nat_abs_signed, capped_integer_exact, capped_word}

-- ---- limits

-- a quantity number, capped, is one of 1 to n where it is one
term_within : (n : ℕ) (x : Term) → n ≤ max_quantities → quantity_within n (nat_abs (capped_integer (signed_quantity x))) ≡ quantity_within n x.quantity
term_within n x h = rw (nat_abs_capped (signed_quantity x), nat_abs_signed x)
    (ap₂ ◌&&◌ (capped_least x.quantity 1 (omega arith)) (capped_most x.quantity n (omega arith)))

-- and then it is not changed
term_exact : (n : ℕ) (x : Term) → n ≤ max_quantities → quantity_within n x.quantity ≡ true → capped_integer (signed_quantity x) ≡ signed_quantity x
term_exact n x h e = capped_integer_exact (signed_quantity x)
    (omega (arith, within_range n (nat_abs (capped_integer (signed_quantity x))) (term_within n x h ∙ e)))

-- a bound, capped, is in its limit where it is
bound_within : (limit : ℕ) (c : ℤ) → limit < cap → leb (nat_abs (capped_integer c)) limit ≡ leb (nat_abs c) limit
bound_within limit c h = rw (nat_abs_capped c) (capped_most (nat_abs c) limit h)

-- and then it is not changed
bound_exact : (limit : ℕ) (c : ℤ) → limit < cap → leb (nat_abs c) limit ≡ true → capped_integer c ≡ c
bound_exact limit c h e = capped_integer_exact c (omega (arith, leb-true (nat_abs (capped_integer c)) limit (bound_within limit c h ∙ e)))

-- ---- cancelling

-- two numbers with opposite signs have the sum 0 where they are equal
opposite_none : (a b : ℕ) (z : ℤ) → (a ≡ b → z ≡ pos 0) → (z ≡ pos 0 → a ≡ b) → is_none z ≡ ◌&&◌ (eqb a b) true
opposite_none a b z to of = go (eqb a b) refl
  where
    go : (t : Bool) → eqb a b ≡ t → is_none z ≡ ◌&&◌ t true
    go true e = none_zero z (to (eqb-true a b e))
    go false e = none_other z (λ q. eqb-false a b e (of q))

-- with the same sign they never have it
same_none : (a b : ℕ) (z : ℤ) → (z ≡ pos 0 → ⊥) → is_none z ≡ ◌&&◌ (eqb a b) false
same_none a b z h = go (eqb a b)
  where
    go : (t : Bool) → is_none z ≡ ◌&&◌ t false
    go true = none_other z h
    go false = none_other z h

-- so they have it where they are equal and their signs are not
signs_none : (s t : Bool) (a b : ℕ) → 0 < a
    → is_none (cond s (neg_ℤ (pos a)) (pos a) +ℤ cond t (neg_ℤ (pos b)) (pos b)) ≡ ◌&&◌ (eqb a b) (not (beq s t))
unfolding positive_part negative_part
signs_none true true a b l = same_none a b (neg_ℤ (pos a) +ℤ neg_ℤ (pos b))
    (λ e. omega (linear, parts_add (neg_ℤ (pos a)) (neg_ℤ (pos b)), parts_neg (pos a), parts_neg (pos b)))
signs_none false false a b l = same_none a b (pos a +ℤ pos b) (λ e. omega (linear, parts_add (pos a) (pos b)))
signs_none true false a b l = opposite_none a b (neg_ℤ (pos a) +ℤ pos b)
    (λ e. omega (linear, parts_add (neg_ℤ (pos a)) (pos b), parts_neg (pos a)))
    (λ e. omega (linear, parts_add (neg_ℤ (pos a)) (pos b), parts_neg (pos a)))
signs_none false true a b l = opposite_none a b (pos a +ℤ neg_ℤ (pos b))
    (λ e. omega (linear, parts_add (pos a) (neg_ℤ (pos b)), parts_neg (pos b)))
    (λ e. omega (linear, parts_add (pos a) (neg_ℤ (pos b)), parts_neg (pos b)))

-- two signed quantity numbers cancel where they have the sum 0
sum_none : (x y : Term) (c : ℤ) → 0 < x.quantity → is_none (signed_quantity x +ℤ signed_quantity y) ≡ cancelling (two x y c)
unfolding cancelling
sum_none x y c h = signs_none x.negative y.negative x.quantity y.quantity h

-- ---- a rule by its form

module _ (n limit : ℕ) (r : Written) (h : n ≤ max_quantities) (l : limit < cap) where
  -- the limits of the form are those of the rule
  pub form_told : form_within n limit (form r) ≡ rule_within n limit r
  form_told = go r
    where
      go : (r : Written) → form_within n limit (form r) ≡ rule_within n limit r
      go (one x c) = rw (term_within n x h, bound_within limit c l, and-true (quantity_within n x.quantity))
      go (two x y c) = rw (term_within n x h, term_within n y h, bound_within limit c l)

-- a missing second term is 0, which no term that is in its limit cancels with
lone_sum : (n : ℕ) (x : Term) → quantity_within n x.quantity ≡ true → is_none (signed_quantity x +ℤ pos 0) ≡ false
lone_sum n x e = rw (+ℤ_idr (signed_quantity x)) (none_other (signed_quantity x)
    (λ q. omega (arith, within_range n x.quantity e, nat_abs_signed x, ap nat_abs q)))

-- so the sum of the form's terms tells whether the rule cancels
pub sum_told : (n limit : ℕ) (r : Written) → n ≤ max_quantities → rule_within n limit r ≡ true
    → is_none ((form r).first +ℤ unwrap_or (form r).second (pos 0)) ≡ cancelling r
unfolding cancelling
sum_told n limit (one x c) h e = let p = both_true (quantity_within n x.quantity) (leb (nat_abs c) limit) e in
    rw (term_exact n x h p.0) (lone_sum n x p.0)
sum_told n limit (two x y c) h e =
    let p = both_true (◌&&◌ (quantity_within n x.quantity) (quantity_within n y.quantity)) (leb (nat_abs c) limit) e in
    let q = both_true (quantity_within n x.quantity) (quantity_within n y.quantity) p.0 in
    rw (term_exact n x h q.0, term_exact n y h q.1) (sum_none x y c (within_range n x.quantity q.0).0)

-- and its numbers make the rule
pub rule_told : (n limit : ℕ) (r : Written) → n ≤ max_quantities → limit < cap → rule_within n limit r ≡ true
    → rule_of (form r).first (unwrap_or (form r).second (pos 0)) (form r).bound ≡ written_rule r
unfolding written_rule
rule_told n limit (one x c) h l e = let p = both_true (quantity_within n x.quantity) (leb (nat_abs c) limit) e in
    rw (term_exact n x h p.0, bound_exact limit c l p.1)
rule_told n limit (two x y c) h l e =
    let p = both_true (◌&&◌ (quantity_within n x.quantity) (quantity_within n y.quantity)) (leb (nat_abs c) limit) e in
    let q = both_true (quantity_within n x.quantity) (quantity_within n y.quantity) p.0 in
    rw (term_exact n x h q.0, term_exact n y h q.1, bound_exact limit c l p.1)

-- ---- the numbers of a form in its limits, as words

-- small numbers and their sums
pub small_narrow : (z : ℤ) → nat_abs z ≤ max_quantities → SFits w32 z
small_narrow (pos v) h = record { sfits = omega arith }
small_narrow (negsuc v) h = record { sfits = omega arith }

pub small_word : (z : ℤ) → nat_abs z ≤ max_quantities → SFits w64 z
small_word (pos v) h = record { sfits = omega arith }
small_word (negsuc v) h = record { sfits = omega arith }

small_sum : (x y : ℤ) → nat_abs x ≤ max_quantities → nat_abs y ≤ max_quantities → SFits w64 (x +ℤ y)
unfolding positive_part negative_part
small_sum x y h l = word_of (omega (arith, parts_add x y, sizes x, sizes y)) (omega (arith, parts_add x y, sizes x, sizes y))
  where
    sizes : (z : ℤ) → positive_part z + negative_part z ≡ nat_abs z
    sizes (pos v) = omega arith
    sizes (negsuc v) = omega arith

-- the second term, or 0
second_small : (n : ℕ) (o : Option ℤ) → second_within n o ≡ true → nat_abs (unwrap_or o (pos 0)) ≤ n
second_small n None e = omega arith
second_small n (Some y) e = omega (arith, within_range n (nat_abs y) e)

-- both terms of a form in its limits
pub record Small (x y : ℤ) : Type 0 where
  pub first : nat_abs x ≤ max_quantities
  pub second : nat_abs y ≤ max_quantities
  pub sum : SFits w64 (x +ℤ y)

pub form_small : (n limit : ℕ) (f : Spelled) → n ≤ max_quantities → form_within n limit f ≡ true → Small f.first (unwrap_or f.second (pos 0))
form_small n limit f h e =
    let p = both_true (◌&&◌ (quantity_within n (nat_abs f.first)) (second_within n f.second)) (leb (nat_abs f.bound) limit) e in
    let q = both_true (quantity_within n (nat_abs f.first)) (second_within n f.second) p.0 in
    let a : nat_abs f.first ≤ max_quantities = omega (arith, within_range n (nat_abs f.first) q.0) in
    let b : nat_abs (unwrap_or f.second (pos 0)) ≤ max_quantities = omega (arith, second_small n f.second q.1) in
    record { first = a; second = b; sum = small_sum f.first (unwrap_or f.second (pos 0)) a b }

-- the bits of a sum are 0 where the sum is
pub bits_zero : {x y : ℤ} → SFits w64 x → SFits w64 y → SFits w64 (x +ℤ y) → of_z w64 (to_z w64 (of_z w64 x) +ℤ to_z w64 (of_z w64 y)) ≡ 0 → x +ℤ y ≡ pos 0
bits_zero {x} {y} f g h e = sym (word_value h) ∙ ap (to_z w64) (ap₂ (λ (a b : ℤ). of_z w64 (a +ℤ b)) (sym (word_value f)) (sym (word_value g)) ∙ e)

pub bits_other : {x y : ℤ} → SFits w64 x → SFits w64 y → (of_z w64 (to_z w64 (of_z w64 x) +ℤ to_z w64 (of_z w64 y)) ≡ 0 → ⊥) → x +ℤ y ≡ pos 0 → ⊥
bits_other {x} {y} f g h e = h (ap₂ (λ (a b : ℤ). of_z w64 (a +ℤ b)) (word_value f) (word_value g) ∙ ap (of_z w64) e)

-- ---- the answer

-- the numbers of a form that was found are words
pub form_words : (s : List ℕ) (p : Parsed Written) (o : Option (Found Spelled)) (line : ℕ) (it : Found Spelled) → o ≡ found_answer form s p → Ok it ≡ well_formed line o
    → SFits w64 it.value.first × SFits w64 it.value.bound
form_words s p None line it e q = cc
form_words s malformed (Some x) line it e q = cc
form_words s (parsed r u) (Some x) line it e q =
    let same : it ≡ found_in s (form r) u = cc in rw same (words r)
  where
    words : (r : Written) → SFits w64 (form r).first × SFits w64 (form r).bound
    words (one x c) = (capped_word (signed_quantity x), capped_word c)
    words (two x y c) = (capped_word (signed_quantity x), capped_word c)

module _ (s : List ℕ) (at n limit line : ℕ) (o : Option (Found Spelled)) (found : o ≡ found_answer form s (rule_line (drop at s)))
    (h : n ≤ max_quantities) (l : limit < cap) where
  -- of a line that is malformed
  pub rule_malformed : (f : Refusal) → Err f ≡ well_formed line o → LineAnswered rule_values (rule_answer s) (rule_judged n limit line (drop at s)) (Err f)
  unfolding rule_answer rule_judged
  rule_malformed f e = rule_answered s (rule_judged n limit line (drop at s)) (Err f)
      (line_malformed form written_rule (rule_within n limit) cancelling s line (rule_line (drop at s)) o f found e)

  module _ (it : Found Spelled) (formed : Ok it ≡ well_formed line o) where
    -- of one with a number outside its limit
    pub rule_outside : form_within n limit it.value ≡ false → LineAnswered rule_values (rule_answer s) (rule_judged n limit line (drop at s)) (Err (OutOfLimit line))
    unfolding rule_answer rule_judged
    rule_outside e = rule_answered s (rule_judged n limit line (drop at s)) (Err (OutOfLimit line))
        (line_outside form written_rule (rule_within n limit) cancelling s line (rule_line (drop at s)) o it found formed
        (λ r q. sym (form_told n limit r h l) ∙ ap (form_within n limit) q ∙ e))

    module _ (within : form_within n limit it.value ≡ true) where
      inside : (r : Written) → form r ≡ it.value → rule_within n limit r ≡ true
      inside r q = sym (form_told n limit r h l) ∙ ap (form_within n limit) q ∙ within

      sum : (r : Written) → form r ≡ it.value → is_none (it.value.first +ℤ unwrap_or it.value.second (pos 0)) ≡ cancelling r
      sum r q = ap (λ (f : Spelled). is_none (f.first +ℤ unwrap_or f.second (pos 0))) (sym q) ∙ sum_told n limit r h (inside r q)

      -- of one whose terms cancel
      pub rule_cancels : it.value.first +ℤ unwrap_or it.value.second (pos 0) ≡ pos 0
          → LineAnswered rule_values (rule_answer s) (rule_judged n limit line (drop at s)) (Err (Cancelling line))
      unfolding rule_answer rule_judged
      rule_cancels e = rule_answered s (rule_judged n limit line (drop at s)) (Err (Cancelling line))
          (line_cancels form written_rule (rule_within n limit) cancelling s line (rule_line (drop at s)) o it found formed
          (λ r q. (inside r q, sym (sum r q) ∙ none_zero _ e)))

      -- of any other
      pub rule_accepted : (it.value.first +ℤ unwrap_or it.value.second (pos 0) ≡ pos 0 → ⊥) → (v : Rule)
          → v ≡ rule_of it.value.first (unwrap_or it.value.second (pos 0)) it.value.bound
          → LineAnswered rule_values (rule_answer s) (rule_judged n limit line (drop at s)) (Ok (record { value = v; next = it.next }))
      unfolding rule_answer rule_judged
      rule_accepted e v w = rule_answered s (rule_judged n limit line (drop at s)) (Ok (record { value = v; next = it.next }))
          (line_accepted form written_rule (rule_within n limit) cancelling s line (rule_line (drop at s)) o it found formed v
          (λ r q. (
            inside r q,
            sym (sum r q) ∙ none_other _ e,
            sym (rule_told n limit r h l (inside r q))
                ∙ ap (λ (f : Spelled). rule_of f.first (unwrap_or f.second (pos 0)) f.bound) q ∙ sym w,
          )))
