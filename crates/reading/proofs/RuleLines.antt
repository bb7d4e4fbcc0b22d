-- The rule lines of a text, one after the other. Assumes nothing.
use mathlib.Core.Path.{◌≡◌, refl, sym, ◌∙◌, ap}
use mathlib.Core.List.{List, [], ◌∷◌}
use Rattle.std.specs.Prelude.{Ok, Err}
use Prim.Native.Nat.{ℕ, zero, suc, ◌+◌, ◌-◌, ◌≤◌, ◌<◌}
use native.Mathlib.Omega.{arith}
use lib.ListN.{length, drop, drop_of_length-le}
use lib.Seq.{drop-cons}
use Rattle.rules.specs.declared.refusal.Refusal.{Refusal}
use Rattle.rules.specs.declared.refusal.Refusal.TheVariants.{Malformed}
use Rattle.lines.specs.Spelling.{Written}
use Rattle.lines.specs.Lines.{Judged, accepted, refused, rule_judged}
use Rattle.reading.specs.declared.check.Passed.{Passed}
use Rattle.reading.specs.Reading.{onward, rules_from, checked_rules}

-- ---- one line after another

-- what is refused is not accepted
pub not-accepted {ℓ} : {X : Type ℓ} {A : Type 0} {f : Refusal} {a : A} {u : List ℕ} → refused f ≡ accepted a u → X
not-accepted e = let z : ◌≡◌ {A = ℕ} 0 1 = cc in let y : ⊥ = omega arith in absurd y

-- a line is accepted, and then what comes after it
pub record Follows {A B : Type 0} (j : Judged A) (next : A → List ℕ → Judged B) (b : B) (v : List ℕ) : Type 0 where
  pub value : A
  pub rest : List ℕ
  pub first : j ≡ accepted value rest
  pub then : next value rest ≡ accepted b v

pub onward_accepted : {A B : Type 0} (j : Judged A) (next : A → List ℕ → Judged B) (b : B) (v : List ℕ) → onward j next ≡ accepted b v
    → Follows j next b v
unfolding onward
onward_accepted (accepted a u) next b v e = record { value = a; rest = u; first = refl; then = e }
onward_accepted (refused f) next b v e = not-accepted e

-- where a line is accepted, what comes after it decides; its refusal ends it
onward_goes : {A B : Type 0} (j : Judged A) (next : A → List ℕ → Judged B) (a : A) (u : List ℕ) → j ≡ accepted a u → onward j next ≡ next a u
unfolding onward
onward_goes j next a u e = rw e

onward_ends : {A B : Type 0} (j : Judged A) (next : A → List ℕ → Judged B) (f : Refusal) → j ≡ refused f → onward j next ≡ refused f
unfolding onward
onward_ends j next f e = rw e

-- ---- i of m rule lines are read

-- one line fewer is left, the next one has the next number, or none is left
pub left_here : (m i : ℕ) → i < m → m - i ≡ suc (m - (i + 1))
left_here m i h = omega arith

pub next_line : (i : ℕ) → i + 1 + 4 ≡ suc (i + 4)
next_line i = omega arith

pub none_left : (m i : ℕ) → m ≤ i → m - i ≡ 0
none_left m i h = omega arith

-- a line that is refused ends it, and after one that is accepted the others are read
module _ (n limit m i : ℕ) (u : List ℕ) (h : i < m) where
  rules_ends : (f : Refusal) → rule_judged n limit (i + 4) u ≡ refused f → rules_from n limit (m - i) (i + 4) u ≡ refused f
  unfolding rules_from
  rules_ends f e = rw (left_here m i h) (onward_ends (rule_judged n limit (i + 4) u) _ f e)

  rules_goes : (w : Written) (v : List ℕ) → rule_judged n limit (i + 4) u ≡ accepted w v
      → rules_from n limit (m - i) (i + 4) u ≡ onward (rules_from n limit (m - (i + 1)) (i + 1 + 4) v) (λ rs. accepted (w ∷ rs))
  unfolding rules_from
  rules_goes w v e = rw (left_here m i h, next_line i) (onward_goes (rule_judged n limit (i + 4) u) _ w v e)

-- ---- what the checker has of it

-- which rules there are does not matter to it
pub checked_more : (header : Passed) (w : Written) (j : Judged (List Written))
    → checked_rules header (onward j (λ rs. accepted (w ∷ rs))) ≡ checked_rules header j
unfolding onward checked_rules
checked_more header w (accepted rs u) = refl
checked_more header w (refused f) = refl

module _ (header : Passed) (n limit m i : ℕ) where
  -- a line that is refused ends it
  pub checked_ends : (u : List ℕ) (f : Refusal) → i < m → rule_judged n limit (i + 4) u ≡ refused f
      → checked_rules header (rules_from n limit (m - i) (i + 4) u) ≡ Err f
  unfolding checked_rules
  checked_ends u f h e = rw (rules_ends n limit m i u h f e)

  -- after one that is accepted the others decide
  pub checked_goes : (u : List ℕ) (w : Written) (v : List ℕ) → i < m → rule_judged n limit (i + 4) u ≡ accepted w v
      → checked_rules header (rules_from n limit (m - i) (i + 4) u) ≡ checked_rules header (rules_from n limit (m - (i + 1)) (i + 1 + 4) v)
  checked_goes u w v h e = rw (rules_goes n limit m i u h w v e) (checked_more header w (rules_from n limit (m - (i + 1)) (i + 1 + 4) v))

  -- bytes after the last line refuse it
  pub checked_over : (s : List ℕ) (at : ℕ) → i ≤ m → m ≤ i → at < length s
      → checked_rules header (rules_from n limit (m - i) (i + 4) (drop at s)) ≡ Err (Malformed (m + 4))
  unfolding rules_from checked_rules
  checked_over s at h l k = rw (none_left m i l, drop-cons s at 0 k) (ap (λ (j : ℕ). Err (Malformed (j + 4))) (omega arith))

  -- where nothing follows, all is read
  pub checked_done : (s : List ℕ) (at : ℕ) → m ≤ i → length s ≤ at
      → checked_rules header (rules_from n limit (m - i) (i + 4) (drop at s)) ≡ Ok header
  unfolding rules_from checked_rules
  checked_done s at l k = rw (none_left m i l, drop_of_length-le s k)

-- ---- rule lines that are accepted

-- they are as many as were asked for, and nothing follows them
pub rules_count : (n limit k line : ℕ) (u : List ℕ) (ws : List Written) (v : List ℕ) → rules_from n limit k line u ≡ accepted ws v
    → (length ws ≡ k) × (v ≡ [])
unfolding rules_from
rules_count n limit zero line [] ws v e = (let z : [] ≡ ws = cc in ap length (sym z), cc)
rules_count n limit zero line (b ∷ u) ws v e = not-accepted e
rules_count n limit (suc k) line u ws v e =
    let p = onward_accepted (rule_judged n limit line u) _ ws v e in
    let q = onward_accepted (rules_from n limit k (suc line) p.rest) _ ws v p.then in
    let r = rules_count n limit k (suc line) p.rest q.value q.rest q.first in
    let z : p.value ∷ q.value ≡ ws = cc in
    (sym (ap length z) ∙ ap suc r.0, cc)

-- the rules that are left are the next one and the others
pub record Next (n limit m i : ℕ) (u : List ℕ) (ws : List Written) : Type 0 where
  pub first : Written
  pub others : List Written
  pub rest : List ℕ
  pub line : rule_judged n limit (i + 4) u ≡ accepted first rest
  pub further : rules_from n limit (m - (i + 1)) (i + 1 + 4) rest ≡ accepted others []
  pub all : ws ≡ first ∷ others

pub rules_next : (n limit m i : ℕ) (u : List ℕ) (ws : List Written) → i < m → rules_from n limit (m - i) (i + 4) u ≡ accepted ws []
    → Next n limit m i u ws
unfolding rules_from
rules_next n limit m i u ws h e =
    let p = onward_accepted (rule_judged n limit (i + 4) u) _ ws [] (rw (left_here m i h) at e) in
    let q = onward_accepted (rules_from n limit (m - (i + 1)) (suc (i + 4)) p.rest) _ ws [] p.then in
    let z : q.rest ≡ [] = cc in
    record {
      first = p.value;
      others = q.value;
      rest = p.rest;
      line = p.first;
      further = rw (next_line i) (q.first ∙ ap (accepted q.value) z);
      all = cc;
    }

-- at the end there are none
no_length : (ws : List Written) → length ws ≡ 0 → ws ≡ []
no_length [] e = refl
no_length (w ∷ ws) e = let z : ⊥ = omega arith in absurd z

pub rules_none : (n limit m i : ℕ) (u : List ℕ) (ws : List Written) → m ≤ i → rules_from n limit (m - i) (i + 4) u ≡ accepted ws [] → ws ≡ []
rules_none n limit m i u ws h e = no_length ws (omega (arith, (rules_count n limit (m - i) (i + 4) u ws [] e).0))
