-- A text's size and header checked: each way of it, and what its answer tells of the text, whatever follows. Assumes nothing.
use mathlib.Core.Path.{◌≡◌, refl, sym, ◌∙◌, ap, subst}
use mathlib.Core.Bool.{Bool, true, false, cond}
use mathlib.Core.List.{List}
use Rattle.std.specs.Prelude.{Ok, Err}
use Prim.Native.Nat.{ℕ, ◌≤◌, ◌<◌}
use native.Mathlib.Omega.{arith}
use lib.Dec.{ltb}
use lib.ListN.{length, drop, length-drop}
use borrow.Author.Tests.{lt-ltb, le-ltb, ltb-false}
use Rattle.numerals.specs.declared.read.Found.{Found}
use Rattle.numerals.specs.Parsing.{cursor_of, found_in}
use Rattle.rules.specs.declared.refusal.Refusal.{Refusal}
use Rattle.rules.specs.declared.refusal.Refusal.TheVariants.{Size}
use Rattle.rules.specs.Hidden.{set_of}
use Rattle.rules.specs.Limits.{max_quantities, max_rules, max_text}
use Rattle.lines.specs.Spelling.{IncreasingFrom, quantities_key, rules_key, all_within}
use Rattle.lines.specs.Lines.{Judged, accepted, refused, count_judged, hidden_judged}
use Rattle.lines.specs.Answers.{Line as LineAnswer}
use Rattle.lines.specs.Answers.{number_values, count_answer, hidden_answer, LineAnswered}
use Rattle.lines.proofs.Found.{CountFound, HiddenFound, count_found, hidden_found, line_refused}
use Rattle.reading.specs.declared.check.Passed.{Passed}
use Rattle.reading.specs.Reading.{Checked, onward, after_header, Header, check_header, header_of}
use Rattle.reading.proofs.Answered.{not-failed, same_failed}
use Rattle.reading.proofs.RuleLines.{not-accepted, onward_accepted}

-- ---- each way of the check

-- the text is too long
pub size_header : (s : List ℕ) → max_text < length s → Err Size ≡ header_of s (check_header s)
unfolding check_header header_of
size_header s h = rw (lt-ltb max_text (length s) h)

-- what a line of a key and a number is answered with, and one of hidden quantities
abbrev pub CountTold : List ℕ → List ℕ → ℕ → ℕ → ℕ → ℕ → LineAnswer ℕ → Type 0
CountTold s key least most line at = LineAnswered number_values (count_answer s) (count_judged key least most line (drop at s))

abbrev pub HiddenTold : List ℕ → ℕ → ℕ → ℕ → LineAnswer ℕ → Type 0
HiddenTold s n line at = LineAnswered number_values (hidden_answer s) (hidden_judged n line (drop at s))

module _ (s : List ℕ) (h : length s ≤ max_text) where
  -- its first line is refused
  pub first_refused : (f : Refusal) → CountTold s quantities_key 1 max_quantities 1 0 (Err f) → Err f ≡ header_of s (check_header s)
  unfolding check_header header_of onward
  first_refused f a = rw (le-ltb max_text (length s) h, line_refused f a)

  module _ {n : Found ℕ} (a : CountTold s quantities_key 1 max_quantities 1 0 (Ok n)) where
    first : CountFound s quantities_key 1 max_quantities 1 0 n.value n.next
    first = count_found s quantities_key 1 max_quantities 1 0 n (sym a.reply)

    pub first_most : n.value ≤ max_quantities
    first_most = first.high

    -- its second line is
    pub second_refused : (f : Refusal) → HiddenTold s n.value 2 n.next (Err f) → Err f ≡ header_of s (check_header s)
    unfolding check_header header_of onward
    second_refused f b = rw (le-ltb max_text (length s) h, first.is, line_refused f b)

    module _ {hidden : Found ℕ} (b : HiddenTold s n.value 2 n.next (Ok hidden)) where
      second : HiddenFound s n.value 2 n.next hidden.value hidden.next
      second = hidden_found s n.value 2 n.next hidden (sym b.reply)

      -- its third line is
      pub third_refused : (f : Refusal) → CountTold s rules_key 0 max_rules 3 hidden.next (Err f) → Err f ≡ header_of s (check_header s)
      unfolding check_header header_of onward
      third_refused f c = rw (le-ltb max_text (length s) h, first.is, second.is, line_refused f c)

      -- none is
      pub header_done : {m : Found ℕ} → CountTold s rules_key 0 max_rules 3 hidden.next (Ok m)
          → Ok (record { quantities = n.value; hidden = hidden.value; rules = m.value; body = m.next }) ≡ header_of s (check_header s)
      unfolding check_header header_of onward
      header_done {m} c =
          let third = count_found s rules_key 0 max_rules 3 hidden.next m (sym c.reply) in
          let at : cursor_of s (drop m.next s) ≡ m.next = omega (arith, length-drop m.next s, third.inside) in
          rw (le-ltb max_text (length s) h, first.is, second.is, third.is, ← second.told, at)

-- ---- what it tells

-- what a header's lines make
abbrev made : ℕ → List ℕ → ℕ → List ℕ → Judged Header
made n qs m w = accepted (record { count = n; hiddens = qs; rules = m }) w

-- a header that is fine: its three lines, one after the other, with numbers in their limits
pub record HeaderFound (s : List ℕ) (p : Passed) : Type 0 where
  pub small : length s ≤ max_text
  pub members : List ℕ
  pub second : List ℕ
  pub third : List ℕ
  pub counts : count_judged quantities_key 1 max_quantities 1 s ≡ accepted p.quantities second
  pub hides : hidden_judged p.quantities 2 second ≡ accepted members third
  pub rules : count_judged rules_key 0 max_rules 3 third ≡ accepted p.rules (drop p.body s)
  pub told : p.hidden ≡ set_of members
  pub low : 1 ≤ p.quantities
  pub high : p.quantities ≤ max_quantities
  pub few : p.rules ≤ max_rules
  pub within : all_within p.quantities members ≡ true
  pub increase : IncreasingFrom 0 members
  pub inside : p.body ≤ length s

-- what follows a line of a key and a number that is accepted, and the number's range
record CountAfter (s : List ℕ) (least most v : ℕ) (rest : List ℕ) : Type 0 where
  follows : rest ≡ drop (cursor_of s rest) s
  low : least ≤ v
  high : v ≤ most
  inside : cursor_of s rest ≤ length s

count_after : (s key : List ℕ) (least most line at v : ℕ) (rest : List ℕ) → count_judged key least most line (drop at s) ≡ accepted v rest
    → CountAfter s least most v rest
unfolding count_answer
count_after s key least most line at v rest e =
    let a : CountFound s key least most line at v (cursor_of s rest) = count_found s key least most line at (found_in s v rest) (rw e) in
    let z : accepted v rest ≡ accepted v (drop (cursor_of s rest) s) = sym e ∙ a.is in
    record { follows = cc; low = a.low; high = a.high; inside = a.inside }

-- what follows a line of hidden quantities that is accepted, and what its list is
record HiddenAfter (s : List ℕ) (n : ℕ) (qs rest : List ℕ) : Type 0 where
  follows : rest ≡ drop (cursor_of s rest) s
  within : all_within n qs ≡ true
  increase : IncreasingFrom 0 qs

hidden_after : (s : List ℕ) (n line at : ℕ) (qs rest : List ℕ) → hidden_judged n line (drop at s) ≡ accepted qs rest → HiddenAfter s n qs rest
unfolding hidden_answer
hidden_after s n line at qs rest e =
    let a : HiddenFound s n line at (set_of qs) (cursor_of s rest) = hidden_found s n line at (found_in s (set_of qs) rest) (rw e) in
    let z : accepted qs rest ≡ accepted a.members (drop (cursor_of s rest) s) = sym e ∙ a.is in
    let same : a.members ≡ qs = cc in
    record { follows = cc; within = subst (λ (l : List ℕ). all_within n l ≡ true) same a.within; increase = subst (IncreasingFrom 0) same a.increase }

-- what is answered of a header's lines, with the bytes after them
abbrev header_at : List ℕ → ℕ → List ℕ → ℕ → List ℕ → Passed
header_at s n qs m w = record { quantities = n; hidden = set_of qs; rules = m; body = cursor_of s w }

-- lines that are accepted, one after the other, are a header
lines_found : (s : List ℕ) (n : ℕ) (u qs v : List ℕ) (m : ℕ) (w : List ℕ) → length s ≤ max_text
    → count_judged quantities_key 1 max_quantities 1 s ≡ accepted n u → hidden_judged n 2 u ≡ accepted qs v → count_judged rules_key 0 max_rules 3 v ≡ accepted m w
    → HeaderFound s (header_at s n qs m w)
lines_found s n u qs v m w small e d g = go (count_after s quantities_key 1 max_quantities 1 0 n u e)
  where
    last : CountAfter s 1 max_quantities n u → HiddenAfter s n qs v → CountAfter s 0 max_rules m w → HeaderFound s (header_at s n qs m w)
    last a b c = record {
      small = small;
      members = qs;
      second = u;
      third = v;
      counts = e;
      hides = d;
      rules = g ∙ ap (accepted m) c.follows;
      told = refl;
      low = a.low;
      high = a.high;
      few = c.high;
      within = b.within;
      increase = b.increase;
      inside = c.inside;
    }

    next : CountAfter s 1 max_quantities n u → HiddenAfter s n qs v → HeaderFound s (header_at s n qs m w)
    next a b = last a b (count_after s rules_key 0 max_rules 3 (cursor_of s v) m w
        (subst (λ (x : List ℕ). count_judged rules_key 0 max_rules 3 x ≡ accepted m w) b.follows g))

    go : CountAfter s 1 max_quantities n u → HeaderFound s (header_at s n qs m w)
    go a = next a (hidden_after s n 2 (cursor_of s u) qs v (subst (λ (x : List ℕ). hidden_judged n 2 x ≡ accepted qs v) a.follows d))

-- a text whose header passes has one
pub header_found : (s : List ℕ) (r : Checked) (p : Passed) → r ≡ header_of s (check_header s) → r ≡ Ok p → HeaderFound s p
unfolding check_header header_of
header_found s r p e q = size (ltb max_text (length s)) refl (sym q ∙ e)
  where
    lines : (j : Judged Header) → length s ≤ max_text → after_header s made ≡ j → Ok p ≡ header_of s j → HeaderFound s p
    lines (refused f) l d k = not-failed k
    lines (accepted h w) l d k =
        let a = onward_accepted (count_judged quantities_key 1 max_quantities 1 s) _ h w d in
        let b = onward_accepted (hidden_judged a.value 2 a.rest) _ h w a.then in
        let c = onward_accepted (count_judged rules_key 0 max_rules 3 b.rest) _ h w b.then in
        let t = c.then in
        let z : p ≡ header_at s a.value b.value c.value c.rest = cc in
        rw z (lines_found s a.value a.rest b.value b.rest c.value c.rest l a.first b.first c.first)

    size : (b : Bool) → ltb max_text (length s) ≡ b → Ok p ≡ header_of s (cond b (refused Size) (after_header s made)) → HeaderFound s p
    size true d k = not-failed k
    size false d k = lines (after_header s made) (ltb-false max_text (length s) d) refl k

-- one whose header is refused has that refusal
pub header_failed : (s : List ℕ) (r : Checked) (f : Refusal) → r ≡ header_of s (check_header s) → r ≡ Err f → check_header s ≡ refused f
unfolding header_of
header_failed s r f e q = go (check_header s) (sym q ∙ e)
  where
    go : (j : Judged Header) → Err f ≡ header_of s j → j ≡ refused f
    go (accepted h w) d = not-failed (sym d)
    go (refused g) d = ap refused (same_failed (sym d))

-- what is refused by its size or header is refused whatever follows
pub header_ends : {A : Type 0} (s : List ℕ) (next : ℕ → List ℕ → ℕ → List ℕ → Judged A) (f : Refusal) → check_header s ≡ refused f
    → cond (ltb max_text (length s)) (refused Size) (after_header s next) ≡ refused f
unfolding check_header onward
header_ends {A} s next f e = size (ltb max_text (length s)) e
  where
    third : (n : ℕ) (qs : List ℕ) (j : Judged ℕ) → onward j (made n qs) ≡ refused f → onward j (next n qs) ≡ refused f
    third n qs (refused g) d = let z : g ≡ f = cc in ap refused z
    third n qs (accepted m w) d = not-accepted (sym d)

    second : (n : ℕ) (j : Judged (List ℕ)) → onward j (λ qs v. onward (count_judged rules_key 0 max_rules 3 v) (made n qs)) ≡ refused f
        → onward j (λ qs v. onward (count_judged rules_key 0 max_rules 3 v) (next n qs)) ≡ refused f
    second n (refused g) d = let z : g ≡ f = cc in ap refused z
    second n (accepted qs v) d = third n qs (count_judged rules_key 0 max_rules 3 v) d

    first : (j : Judged ℕ)
        → onward j (λ n u. onward (hidden_judged n 2 u) (λ qs v. onward (count_judged rules_key 0 max_rules 3 v) (made n qs))) ≡ refused f
        → onward j (λ n u. onward (hidden_judged n 2 u) (λ qs v. onward (count_judged rules_key 0 max_rules 3 v) (next n qs))) ≡ refused f
    first (refused g) d = let z : g ≡ f = cc in ap refused z
    first (accepted n u) d = second n (hidden_judged n 2 u) d

    size : (b : Bool) → cond b (refused Size) (after_header s made) ≡ refused f → cond b (refused Size) (after_header s next) ≡ refused f
    size true d = let z : Size ≡ f = cc in ap refused z
    size false d = first (count_judged quantities_key 1 max_quantities 1 s) d

-- after one that is fine, what follows decides
pub header_goes : {A : Type 0} (s : List ℕ) (next : ℕ → List ℕ → ℕ → List ℕ → Judged A) (p : Passed) (h : HeaderFound s p)
    → cond (ltb max_text (length s)) (refused Size) (after_header s next) ≡ next p.quantities h.members p.rules (drop p.body s)
unfolding onward
header_goes s next p h = rw (le-ltb max_text (length s) h.small, h.counts, h.hides, h.rules)
