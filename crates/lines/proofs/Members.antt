-- The list of hidden quantities, number by number: at each number the line's form is that of the numbers so far and of what is left. Assumes nothing.
use mathlib.Core.Path.{◌≡◌, refl, sym, ◌∙◌, ap, ap₂}
use mathlib.Core.Bool.{Bool, true, false, cond, ◌&&◌, and-true}
use mathlib.Core.List.{List, [], ◌∷◌}
use Prim.Native.Nat.{ℕ, zero, suc, ◌+◌, ◌-◌, ◌*◌, ◌^◌, ◌≤◌, ◌<◌}
use native.Mathlib.Nat.{zero-add, add-zero}
use native.Mathlib.Numerals.{unary_clauses}
use native.Mathlib.Omega.{arith}
use lib.Dec.{leb}
use lib.ListN.{length, take, drop, length-drop, drop_of_length-le}
use lib.Seq.{drop-drop}
use borrow.Author.Tests.{leb-true, le-leb, ne_eqb, lt-ltb}
use Rattle.std.specs.Prelude.{Option, Some, None, Ok, Err}
use Rattle.numerals.specs.declared.read.Found.{Found}
use Rattle.numerals.specs.Bytes.{newline, comma}
use Rattle.numerals.specs.Decimal.{decimal}
use Rattle.numerals.specs.Order.{smaller_numeral}
use Rattle.numerals.specs.Parsing.{Parsed, parsed, malformed, and_then, expect, starts_with, numeral_of, found_in}
use Rattle.numerals.proofs.Cases.{both_true}
use Rattle.numerals.proofs.Decimals.{decimal_some}
use Rattle.numerals.proofs.Keys.{expect_key, expect_not, byte_first, byte_fails, byte_inside}
use Rattle.numerals.proofs.Cursors.{cursor_here}
use Rattle.numerals.proofs.Numerals.{NumeralFound, numeral_run}
use Rattle.numerals.proofs.Order.{smaller-numeral}
use Rattle.rules.specs.declared.refusal.Refusal.{Refusal}
use Rattle.rules.specs.declared.refusal.Refusal.TheVariants.{OutOfLimit}
use Rattle.rules.specs.Limits.{max_quantities}
use Rattle.rules.specs.Hidden.{set_of}
use Rattle.rules.specs.Literal.{quantity_within}
use Rattle.lines.specs.declared.hidden.Members.{Members}
use Rattle.lines.specs.Spelling.{hidden_key, all_within}
use Rattle.lines.specs.Lines.{ended, with_first, members_after, members_from, list_of, hidden_line, never, hidden_judged}
use Rattle.lines.specs.Answers.{hidden_answer, number_values, LineAnswered}
use Rattle.lines.specs.Inner.{well_formed, found_answer, ended_answer, member_bit, set_within, members_of, list_answer}
use Rattle.lines.proofs.Answered.{hidden_answered}
use Rattle.lines.proofs.AtCursors.{ended_told}
use Rattle.lines.proofs.Bits.{bit_inside, within_told, bit_told, room_told, room_more}
use Rattle.lines.proofs.Judging.{line_malformed, line_outside, line_accepted}

-- ---- the form of a list

-- where no numeral is, there is no list
members_none : (k least : ℕ) (u : List ℕ) → numeral_of u ≡ malformed → members_from k least u ≡ malformed
unfolding members_from and_then
members_none zero least u e = refl
members_none (suc k) least u e = rw e

-- a number that is not above the one before it is malformed, and after any other the line ends or goes on
members_number : (k least : ℕ) (u : List ℕ) (q : ℕ) (v : List ℕ) → 0 < k → numeral_of u ≡ parsed q v
    → members_from k least u ≡ cond (leb least q) (members_after (members_from (k - 1) (suc q)) q v) malformed
unfolding members_from and_then
members_number zero least u q v h e = let z : ⊥ = omega arith in absurd z
members_number (suc k) least u q v h e = rw e (simp unary_clauses)

-- it goes on after a comma
after_comma : (further : List ℕ → Parsed (List ℕ)) (q : ℕ) (s : List ℕ) (at : ℕ) → starts_with (comma ∷ []) (drop at s) ≡ true
    → members_after further q (drop at s) ≡ and_then (further (drop (at + 1) s)) (with_first q)
unfolding members_after
after_comma further q s at e = rw (byte_first comma s at e)

-- and else it has to end
after_other : (further : List ℕ → Parsed (List ℕ)) (q : ℕ) (u : List ℕ) → starts_with (comma ∷ []) u ≡ false → members_after further q u ≡ ended (q ∷ []) u
unfolding members_after ended expect
after_other further q [] e = refl
after_other further q (b ∷ u) e = rw (byte_fails comma b u e)

-- ---- numbers before and after a place of the list

-- numbers that gave these members, and those read after them
abbrev joined : ℕ → Members → List ℕ → Members
joined n m qs = record { set = m.set + set_within n qs; within = ◌&&◌ m.within (all_within n qs) }

-- what is found of them
abbrev pub finishing : ℕ → List ℕ → Members → Parsed (List ℕ) → Option (Found Members)
finishing n s m p = found_answer (joined n m) s p

abbrev made : ℕ → Bool → Members
made set within = record { set = set; within = within }

-- before the first number
finishing_all : (n : ℕ) (s : List ℕ) (p : Parsed (List ℕ)) → finishing n s (made 0 true) p ≡ found_answer (members_of n) s p
finishing_all n s malformed = refl
finishing_all n s (parsed qs u) = rw (zero-add (set_within n qs))

-- these with one number more
pub record With (n : ℕ) (m : Members) (q : ℕ) (more : Members) : Type 0 where
  pub set : more.set ≡ m.set + member_bit n q
  pub within : more.within ≡ ◌&&◌ (quantity_within n q) m.within

-- a number is one before the place or one after it
moved : {n : ℕ} {m : Members} {q : ℕ} {more : Members} → With n m q more → (qs : List ℕ) → joined n m (q ∷ qs) ≡ joined n more qs
moved {n} {m} {q} {more} w qs = ap₂ made (omega (arith, w.set)) (swapped (quantity_within n q) m.within ∙ ap (λ (t : Bool). ◌&&◌ t (all_within n qs)) (sym w.within))
  where
    swapped : (t w : Bool) → ◌&&◌ w (◌&&◌ t (all_within n qs)) ≡ ◌&&◌ (◌&&◌ t w) (all_within n qs)
    swapped true w = refl
    swapped false true = refl
    swapped false false = refl

-- so that what is found is the same
finishing_first : {n : ℕ} {m : Members} {q : ℕ} {more : Members} → With n m q more → (s : List ℕ) (p : Parsed (List ℕ))
    → finishing n s m (and_then p (with_first q)) ≡ finishing n s more p
unfolding and_then
finishing_first w s (parsed qs u) = ap (λ (x : Members). Some (found_in s x u)) (moved w qs)
finishing_first w s malformed = refl

-- after the last number
joined_last : {n : ℕ} {m : Members} {q : ℕ} {more : Members} → With n m q more → joined n m (q ∷ []) ≡ more
joined_last {n} {m} {q} {more} w = moved w [] ∙ rw (add-zero more.set, and-true more.within)

-- ---- within the list

-- at the cursor `from` of the text s a number has to be. The numbers before it gave these members. The last of them, with these digits, is below `least`,
-- and so is each number of the set. What is found of the line is `whole`.
pub record Reading (n : ℕ) (s : List ℕ) (whole : Option (Found Members)) (m : Members) (before : List ℕ) (from : ℕ) : Type 0 where
  pub least : ℕ
  pub fuel : ℕ
  pub order : (q : ℕ) → smaller_numeral before (decimal q) ≡ leb least q
  pub room : 2 * m.set < 2 ^ least
  pub enough : length s ≤ from + fuel
  pub is : whole ≡ finishing n s m (members_from fuel least (drop from s))

-- the empty numeral is smaller than all
empty_smaller : (q : ℕ) → smaller_numeral [] (decimal q) ≡ true
unfolding smaller_numeral
empty_smaller q = rw (ne_eqb 0 (length (decimal q)) (omega (arith, decimal_some q)), lt-ltb 0 (length (decimal q)) (decimal_some q))

-- the first number
pub reading_first : (n : ℕ) (s : List ℕ) (at : ℕ) → Reading n s (list_answer n s (drop at s)) (made 0 true) [] at
reading_first n s at = record {
  least = 0;
  fuel = length (drop at s);
  order = λ q. empty_smaller q ∙ sym (le-leb 0 q (omega arith));
  room = omega arith;
  enough = omega (arith, length-drop at s);
  is = sym (finishing_all n s (members_from (length (drop at s)) 0 (drop at s)));
}

module _ {n : ℕ} {s : List ℕ} {whole : Option (Found Members)} {m : Members} {before : List ℕ} {from : ℕ} (r : Reading n s whole m before from) where
  -- where no numeral is the line is malformed
  pub reading_none : numeral_of (drop from s) ≡ malformed → None ≡ whole
  reading_none e = sym (r.is ∙ rw (members_none r.fuel r.least (drop from s) e))

  -- and so it is at the end of the text
  pub reading_past : length s ≤ from → None ≡ whole
  unfolding numeral_of
  reading_past h = reading_none (ap numeral_of (drop_of_length-le s h))

  module _ {it : Found ℕ} (f : NumeralFound s from it) where
    -- the digits tell whether the number is above the one before it
    ordered : smaller_numeral before (take (it.next - from) (drop from s)) ≡ leb r.least f.value
    ordered = ap (smaller_numeral before) (numeral_run s from it.next f.value f.is (omega (arith, f.after)) f.inside) ∙ r.order f.value

    -- what is found of the line is that of the number and of what follows it
    number : whole ≡ finishing n s m (cond (leb r.least f.value) (members_after (members_from (r.fuel - 1) (suc f.value)) f.value (drop it.next s)) malformed)
    number = r.is ∙ ap (finishing n s m)
        (members_number r.fuel r.least (drop from s) f.value (drop it.next s) (omega (arith, r.enough, f.after, f.inside)) f.is)

    -- a number that is not above the one before it is malformed
    pub reading_unordered : smaller_numeral before (take (it.next - from) (drop from s)) ≡ false → None ≡ whole
    reading_unordered e = sym (number ∙ rw (sym ordered ∙ e))

    module _ (above : smaller_numeral before (take (it.next - from) (drop from s)) ≡ true) where
      -- any other is followed by others or by the line's end
      followed : whole ≡ finishing n s m (members_after (members_from (r.fuel - 1) (suc f.value)) f.value (drop it.next s))
      followed = number ∙ rw (sym ordered ∙ above)

      -- it is not below the least one
      least_value : r.least ≤ f.value
      least_value = leb-true r.least f.value (sym ordered ∙ above)

      -- the set has room for it, as far as it is told
      pub reading_room : n ≤ max_quantities → it.value ≤ n → 2 * m.set < 2 ^ it.value
      reading_room h l = rw f.told (room_told n f.value r.least m.set h least_value r.room (rw f.told at l))

      module _ (h : n ≤ max_quantities) {more : Members} (w : With n m it.value more) where
        -- as it is told it is the same
        same : With n m f.value more
        same = record {
          set = w.set ∙ ap (λ (x : ℕ). m.set + x) (ap (member_bit n) f.told ∙ bit_told n f.value h);
          within = w.within ∙ ap (λ (t : Bool). ◌&&◌ t m.within) (ap (quantity_within n) f.told ∙ within_told n f.value h);
        }

        -- where anything but a comma follows, the line has to end
        pub reading_end : starts_with (comma ∷ []) (drop it.next s) ≡ false → ended_answer s (record { value = more; next = it.next }) ≡ whole
        reading_end e = ended_told (joined n m) s (f.value ∷ []) (record { value = more; next = it.next }) (joined_last same)
            ∙ sym (followed ∙ ap (finishing n s m) (after_other (members_from (r.fuel - 1) (suc f.value)) f.value (drop it.next s) e))

        -- after a comma there has to be another number
        pub reading_more : starts_with (comma ∷ []) (drop it.next s) ≡ true → Reading n s whole more (take (it.next - from) (drop from s)) (it.next + 1)
        reading_more e = record {
          least = suc f.value;
          fuel = r.fuel - 1;
          order = λ q. rw (numeral_run s from it.next f.value f.is (omega (arith, f.after)) f.inside) (smaller-numeral f.value q);
          room = rw same.set (room_more n f.value r.least m.set least_value r.room);
          enough = omega (arith, r.enough, f.after);
          is = followed
              ∙ ap (finishing n s m) (after_comma (members_from (r.fuel - 1) (suc f.value)) f.value s it.next e)
              ∙ finishing_first same s (members_from (r.fuel - 1) (suc f.value) (drop (it.next + 1) s));
        }

-- ---- the line

-- a line without its key is malformed
pub hidden_unkeyed : (n : ℕ) (s : List ℕ) (at : ℕ) → starts_with hidden_key (drop at s) ≡ false → None ≡ found_answer (members_of n) s (hidden_line (drop at s))
unfolding hidden_line
hidden_unkeyed n s at e = rw (expect_not hidden_key (drop at s) list_of e)

-- a list that does not end at once has at least one number
list_some : (u : List ℕ) → starts_with (newline ∷ []) u ≡ false → list_of u ≡ members_from (length u) 0 u
unfolding list_of members_from
list_some [] e = refl
list_some (b ∷ u) e = rw (byte_fails newline b u e)

-- any other is empty
list_none : (s : List ℕ) (at : ℕ) → starts_with (newline ∷ []) (drop at s) ≡ true → list_of (drop at s) ≡ parsed [] (drop (at + 1) s)
unfolding list_of
list_none s at e = rw (byte_first newline s at e)

module _ (n : ℕ) (s : List ℕ) (at : ℕ) (here : starts_with hidden_key (drop at s) ≡ true) where
  keyed : hidden_line (drop at s) ≡ list_of (drop (at + 7) s)
  unfolding hidden_line
  keyed = expect_key hidden_key (drop at s) list_of here ∙ ap list_of (drop-drop 7 at s)

  -- what is found of such a list, and of an empty one
  pub hidden_some : starts_with (newline ∷ []) (drop (at + 7) s) ≡ false → list_answer n s (drop (at + 7) s) ≡ found_answer (members_of n) s (hidden_line (drop at s))
  hidden_some e = ap (found_answer (members_of n) s) (sym (keyed ∙ list_some (drop (at + 7) s) e))

  pub hidden_none : starts_with (newline ∷ []) (drop (at + 7) s) ≡ true
      → Some (record { value = made 0 true; next = at + 7 + 1 }) ≡ found_answer (members_of n) s (hidden_line (drop at s))
  hidden_none e = sym (rw (keyed, list_none s (at + 7) e)
      (ap (λ (x : ℕ). Some (record { value = made 0 true; next = x })) (cursor_here s (at + 7 + 1) (omega (arith, byte_inside newline s (at + 7) e)))))

-- ---- the answer

-- the bits of numbers within their limits are their set
set_told : (n : ℕ) (qs : List ℕ) → all_within n qs ≡ true → set_of qs ≡ set_within n qs
unfolding set_of
set_told n [] e = refl
set_told n (q ∷ qs) e = let p = both_true (quantity_within n q) (all_within n qs) e in omega (arith, bit_inside n q p.0, set_told n qs p.1)

module _ (n : ℕ) (s : List ℕ) (at line : ℕ) (o : Option (Found Members)) (found : o ≡ found_answer (members_of n) s (hidden_line (drop at s))) where
  -- of a line that is malformed
  pub hidden_malformed : (f : Refusal) → Err f ≡ well_formed line o → LineAnswered number_values (hidden_answer s) (hidden_judged n line (drop at s)) (Err f)
  unfolding hidden_answer hidden_judged
  hidden_malformed f e = hidden_answered s (hidden_judged n line (drop at s)) (Err f)
      (line_malformed (members_of n) set_of (all_within n) never s line (hidden_line (drop at s)) o f found e)

  module _ (it : Found Members) (formed : Ok it ≡ well_formed line o) where
    -- of one with a number outside its limits
    pub hidden_outside : it.value.within ≡ false → LineAnswered number_values (hidden_answer s) (hidden_judged n line (drop at s)) (Err (OutOfLimit line))
    unfolding hidden_answer hidden_judged
    hidden_outside e = hidden_answered s (hidden_judged n line (drop at s)) (Err (OutOfLimit line))
        (line_outside (members_of n) set_of (all_within n) never s line (hidden_line (drop at s)) o it found formed
        (λ qs q. ap (λ (x : Members). x.within) q ∙ e))

    -- of any other
    pub hidden_accepted : it.value.within ≡ true
        → LineAnswered number_values (hidden_answer s) (hidden_judged n line (drop at s)) (Ok (record { value = it.value.set; next = it.next }))
    unfolding hidden_answer hidden_judged
    hidden_accepted e = hidden_answered s (hidden_judged n line (drop at s)) (Ok (record { value = it.value.set; next = it.next }))
        (line_accepted (members_of n) set_of (all_within n) never s line (hidden_line (drop at s)) o it found formed it.value.set
        (λ qs q. let inside = ap (λ (x : Members). x.within) q ∙ e in (inside, refl, set_told n qs inside ∙ ap (λ (x : Members). x.set) q)))
