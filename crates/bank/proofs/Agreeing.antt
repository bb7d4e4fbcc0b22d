-- Rule lines read in bank order, beside the same lines read in any order: both read alike up to the first rule that is out of order. Assumes nothing.
use mathlib.Core.Path.{◌≡◌, refl, sym, ◌∙◌, ap}
use mathlib.Core.Bool.{Bool, true, false, cond}
use mathlib.Core.List.{List, [], ◌∷◌, ◌++◌}
use Prim.Native.Nat.{ℕ, zero, suc, ◌≤◌}
use native.Mathlib.Omega.{arith}
use Rattle.numerals.specs.Parsing.{Parsed, parsed, malformed}
use Rattle.rules.specs.declared.refusal.Refusal.{Refusal}
use Rattle.rules.specs.declared.refusal.Refusal.TheVariants.{Malformed, OutOfLimit, Cancelling}
use Rattle.rules.specs.Refusal.{refusal_line}
use Rattle.lines.specs.Spelling.{Written, rule, line_text, line_within, rule_within, cancelling}
use Rattle.lines.specs.Lines.{Judged, accepted, refused, judged, rule_line, rule_judged}
use Rattle.lines.proofs.Found.{by_accepted}
use Rattle.lines.proofs.Spellings.{rule_sound}
use Rattle.reading.specs.Meaning.{Fine}
use Rattle.reading.specs.Reading.{onward, rules_from}
use Rattle.reading.proofs.RuleLines.{not-accepted}

-- ---- a rule line

-- its refusal has the line's number
line_judged : (line : ℕ) (within cancels : Written → Bool) (p : Parsed Written) (f : Refusal) → judged line within cancels p ≡ refused f → refusal_line f ≡ line
unfolding judged
line_judged line within cancels malformed f e = let z : Malformed line ≡ f = cc in sym (ap refusal_line z)
line_judged line within cancels (parsed a u) f e = go (within a) (cancels a) e
  where
    go : (b c : Bool) → cond b (cond c (refused (Cancelling line)) (accepted a u)) (refused (OutOfLimit line)) ≡ refused f → refusal_line f ≡ line
    go true true d = let z : Cancelling line ≡ f = cc in sym (ap refusal_line z)
    go true false d = not-accepted (sym d)
    go false c d = let z : OutOfLimit line ≡ f = cc in sym (ap refusal_line z)

pub rule-line : (n limit line : ℕ) (u : List ℕ) (f : Refusal) → rule_judged n limit line u ≡ refused f → refusal_line f ≡ line
unfolding rule_judged
rule-line n limit line u f e = line_judged line (rule_within n limit) cancelling (rule_line u) f e

-- one that is accepted is spelled, and fine
pub record RuleHere (n limit : ℕ) (u : List ℕ) (w : Written) (v : List ℕ) : Type 0 where
  pub text : u ≡ line_text (rule w) ++ v
  pub fine : Fine n limit (rule w)

pub rule_here : (n limit line : ℕ) (u : List ℕ) (w : Written) (v : List ℕ) → rule_judged n limit line u ≡ accepted w v → RuleHere n limit u w v
unfolding rule_judged line_within
rule_here n limit line u w v e = by_accepted line (rule_within n limit) cancelling (rule_line u) w v e (λ p a b.
    record { text = rule_sound u w v p; fine = record { formed = tt; within = a; uncancelled = b } })

-- ---- one line more

-- in any order
pub any_ends : (n limit k line : ℕ) (u : List ℕ) (f : Refusal) → rule_judged n limit line u ≡ refused f → rules_from n limit (suc k) line u ≡ refused f
unfolding rules_from onward
any_ends n limit k line u f e = rw e

pub any_goes : (n limit k line : ℕ) (u : List ℕ) (w : Written) (v : List ℕ) → rule_judged n limit line u ≡ accepted w v
    → rules_from n limit (suc k) line u ≡ onward (rules_from n limit k (suc line) v) (λ rs. accepted (w ∷ rs))
unfolding rules_from onward
any_goes n limit k line u w v e = rw e

-- ---- lines that are refused

-- what goes on with a rule before it is refused where it is
pub rule_refused : (j : Judged (List Written)) (w : Written) (f : Refusal) → onward j (λ rs. accepted (w ∷ rs)) ≡ refused f → j ≡ refused f
unfolding onward
rule_refused (accepted rs v) w f d = not-accepted (sym d)
rule_refused (refused g) w f d = let z : g ≡ f = cc in ap refused z

-- no line before the first is
pub any_line : (n limit k line : ℕ) (u : List ℕ) (f : Refusal) → rules_from n limit k line u ≡ refused f → line ≤ refusal_line f
unfolding rules_from
any_line n limit zero line [] f e = not-accepted (sym e)
any_line n limit zero line (b ∷ u) f e = let z : Malformed line ≡ f = cc in let d = ap refusal_line z in omega arith
any_line n limit (suc k) line u f e = go (any_line n limit k (suc line)) (rule_judged n limit line u) refl
  where
    go : ((v : List ℕ) (g : Refusal) → rules_from n limit k (suc line) v ≡ refused g → suc line ≤ refusal_line g) → (j : Judged Written)
        → rule_judged n limit line u ≡ j → line ≤ refusal_line f
    go ih (refused g) d =
        let z : refused g ≡ refused f = sym (any_ends n limit k line u g d) ∙ e in
        let y : g ≡ f = cc in
        let l = rule-line n limit line u g d in
        omega (arith, ap refusal_line y)
    go ih (accepted w v) d =
        let l = ih v f (rule_refused (rules_from n limit k (suc line) v) w f (sym (any_goes n limit k line u w v d) ∙ e)) in omega arith
