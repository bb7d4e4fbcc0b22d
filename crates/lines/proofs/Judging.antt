-- The answer of a line from its form, as the program has it: malformed, outside its limits, cancelling or accepted. Assumes nothing.
use mathlib.Core.Path.{◌≡◌, refl, sym, ap}
use mathlib.Core.Bool.{Bool, true, false}
use mathlib.Core.List.{List}
use Prim.Native.Nat.{ℕ}
use Rattle.std.specs.Prelude.{Option, Some, None, Ok, Err}
use Rattle.numerals.specs.declared.read.Found.{Found}
use Rattle.numerals.specs.Parsing.{Parsed, parsed, malformed, found_in}
use Rattle.rules.specs.declared.refusal.Refusal.{Refusal}
use Rattle.rules.specs.declared.refusal.Refusal.TheVariants.{Malformed, OutOfLimit, Cancelling}
use Rattle.lines.specs.Lines.{judged}
use Rattle.lines.specs.Answers.{answer_of}
use Rattle.lines.specs.Inner.{well_formed, found_answer}

module _ {A B C : Type 0} (tell : A → B) (make : A → C) (within cancels : A → Bool) (s : List ℕ) (line : ℕ) where
  -- a line that is not of its form
  pub line_malformed : (p : Parsed A) (o : Option (Found B)) (f : Refusal) → o ≡ found_answer tell s p → Err f ≡ well_formed line o
      → Err f ≡ answer_of make s (judged line within cancels p)
  unfolding judged
  line_malformed (parsed a u) None f e q = cc
  line_malformed (parsed a u) (Some x) f e q = cc
  line_malformed malformed None f e q = let same : f ≡ Malformed line = cc in ap Err same
  line_malformed malformed (Some x) f e q = cc

  -- what was read of any other
  by_form : {X : Type 0} (p : Parsed A) (o : Option (Found B)) (it : Found B) → o ≡ found_answer tell s p → Ok it ≡ well_formed line o
      → ((a : A) (u : List ℕ) → p ≡ parsed a u → found_in s (tell a) u ≡ it → X) → X
  by_form (parsed a u) None it e q told = absurd (cc)
  by_form (parsed a u) (Some x) it e q told = told a u refl (cc)
  by_form malformed None it e q told = absurd (cc)
  by_form malformed (Some x) it e q told = absurd (cc)

  module _ (p : Parsed A) (o : Option (Found B)) (it : Found B) (found : o ≡ found_answer tell s p) (formed : Ok it ≡ well_formed line o) where
    -- it is outside its limits
    pub line_outside : ((a : A) → tell a ≡ it.value → within a ≡ false) → Err (OutOfLimit line) ≡ answer_of make s (judged line within cancels p)
    unfolding judged
    line_outside h = by_form p o it found formed (λ a u e q. rw (e, h a (ap (λ (x : Found B). x.value) q)))

    -- it cancels
    pub line_cancels : ((a : A) → tell a ≡ it.value → (within a ≡ true) × (cancels a ≡ true))
        → Err (Cancelling line) ≡ answer_of make s (judged line within cancels p)
    unfolding judged
    line_cancels h = by_form p o it found formed (λ a u e q. let r = h a (ap (λ (x : Found B). x.value) q) in rw (e, r.0, r.1))

    -- or it is accepted
    pub line_accepted : (v : C) → ((a : A) → tell a ≡ it.value → (within a ≡ true) × (cancels a ≡ false) × (make a ≡ v))
        → Ok (record { value = v; next = it.next }) ≡ answer_of make s (judged line within cancels p)
    unfolding judged
    line_accepted v h = by_form p o it found formed (λ a u e q. let r = h a (ap (λ (x : Found B). x.value) q) in
        let n = ap (λ (x : Found B). x.next) q in rw (e, r.0, r.1, r.2, sym n))
