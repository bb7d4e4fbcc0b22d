-- Rule lines read in place order, one after the other, each at the least place or after it; and read so or in any order, as they are to be. Assumes nothing.
use mathlib.Core.Path.{◌≡◌, refl, sym, ◌∙◌, ap}
use mathlib.Core.Bool.{Bool, true, false, cond}
use mathlib.Core.List.{List, [], ◌∷◌}
use Rattle.std.specs.Prelude.{Option, Some, None, Ok, Err}
use Prim.Native.Nat.{ℕ, zero, suc, ◌+◌, ◌-◌, ◌/◌, ◌≤◌, ◌<◌}
use native.Mathlib.Omega.{arith}
use lib.Dec.{leb}
use lib.ListN.{length, drop, drop_of_length-le}
use lib.Seq.{drop-cons}
use borrow.Author.Tests.{le-leb, lt-leb, lt-ltb, leb-true, ne_eqb}
use Rattle.places.specs.Numbering.{place_of_pair, place_of_two, find_two}
use Rattle.rules.specs.declared.refusal.Refusal.{Refusal}
use Rattle.rules.specs.declared.refusal.Refusal.TheVariants.{Malformed, NotCanonical}
use Rattle.rules.specs.declared.rule.Rule.{Rule}
use Rattle.tables.proofs.Tests.{clash}
use Rattle.lines.specs.Spelling.{Written, written_rule}
use Rattle.lines.specs.Lines.{Judged, accepted, refused, rule_judged}
use Rattle.reading.specs.declared.check.Passed.{Passed}
use Rattle.reading.specs.Reading.{onward, rules_from, checked_rules}
use Rattle.reading.specs.Ordered.{canonical_place, from_place, ordered_from, lines_by}
use Rattle.reading.specs.Inner.{least_of, not_before, place_after}
use Rattle.reading.proofs.Answered.{not-failed}
use Rattle.reading.proofs.RuleLines.{not-accepted, onward_accepted, left_here, next_line, none_left, checked_more, checked_ends, checked_goes, checked_over, checked_done}

-- ---- a place

-- two literals, that of the lower quantity first, stand where the pair does
pub lower_found : (x y : ℕ) → x / 2 < y / 2 → find_two x y ≡ Some (place_of_pair x y)
unfolding find_two place_of_two
lower_found x y l = rw (ne_eqb (x / 2) (y / 2) (omega arith), lt-ltb x y (omega arith))

-- no canonical place is 9, and so is one before the least
pub nowhere_refused : {A : Type 0} (least line : ℕ) (x : Option ℕ) (next : ℕ → Judged A) → x ≡ None → from_place least line x next ≡ refused (NotCanonical line)
unfolding from_place
nowhere_refused least line x next e = rw e

pub early_refused : {A : Type 0} (least line : ℕ) (x : Option ℕ) (k : ℕ) (next : ℕ → Judged A) → x ≡ Some k → k < least
    → from_place least line x next ≡ refused (NotCanonical line)
unfolding from_place
early_refused least line x k next e h = rw (e, lt-leb least k h)

-- ---- one line more

-- a line that is refused ends them
pub ordered_ends : (n limit least k line : ℕ) (u : List ℕ) (f : Refusal) → rule_judged n limit line u ≡ refused f
    → ordered_from n limit least (suc k) line u ≡ refused f
unfolding ordered_from onward
ordered_ends n limit least k line u f e = rw e

pub ordered_goes : (n limit least k line : ℕ) (u : List ℕ) (w : Written) (v : List ℕ) (p : ℕ) → rule_judged n limit line u ≡ accepted w v
    → canonical_place (written_rule w) ≡ Some p → least ≤ p
    → ordered_from n limit least (suc k) line u ≡ onward (ordered_from n limit (suc p) k (suc line) v) (λ rs. accepted (w ∷ rs))
unfolding ordered_from onward from_place
ordered_goes n limit least k line u w v p e d h = rw (e, d, le-leb least p h)

pub ordered_stops : (n limit least k line : ℕ) (u : List ℕ) (w : Written) (v : List ℕ) → rule_judged n limit line u ≡ accepted w v
    → ((next : ℕ → Judged (List Written)) → from_place least line (canonical_place (written_rule w)) next ≡ refused (NotCanonical line))
    → ordered_from n limit least (suc k) line u ≡ refused (NotCanonical line)
unfolding ordered_from onward
ordered_stops n limit least k line u w v e d = rw e (d _)

-- ---- rule lines that are accepted

-- a rule is accepted at its place, and then what comes after it
from_accepted : {A X : Type 0} (least line : ℕ) (x : Option ℕ) (next : ℕ → Judged A) (a : A) (v : List ℕ) → from_place least line x next ≡ accepted a v
    → ((k : ℕ) → next k ≡ accepted a v → X) → X
unfolding from_place
from_accepted least line None next a v e told = not-accepted e
from_accepted {A} {X} least line (Some k) next a v e told = go (leb least k) e
  where
    go : (b : Bool) → cond b (next k) (refused (NotCanonical line)) ≡ accepted a v → X
    go true d = told k d
    go false d = not-accepted d

-- they are as many as were asked for, and nothing follows them
pub ordered_count : (n limit least m line : ℕ) (u : List ℕ) (ws : List Written) (v : List ℕ) → ordered_from n limit least m line u ≡ accepted ws v
    → (length ws ≡ m) × (v ≡ [])
unfolding ordered_from
ordered_count n limit least zero line [] ws v e = (let z : [] ≡ ws = cc in ap length (sym z), cc)
ordered_count n limit least zero line (b ∷ u) ws v e = not-accepted e
ordered_count n limit least (suc m) line u ws v e =
    let p = onward_accepted (rule_judged n limit line u) _ ws v e in
    from_accepted least line (canonical_place (written_rule p.value)) _ ws v p.then (λ k d.
    let q = onward_accepted (ordered_from n limit (suc k) m (suc line) p.rest) _ ws v d in
    let r = ordered_count n limit (suc k) m (suc line) p.rest q.value q.rest q.first in
    let z : p.value ∷ q.value ≡ ws = cc in
    (sym (ap length z) ∙ ap suc r.0, cc))

-- ---- i of m rule lines are read, in place order or in any

-- a place that is not before the least one is what it was, and none is either none or before it
at_least : (least : ℕ) (x : Option ℕ) (k : ℕ) → not_before least x ≡ Some k → (x ≡ Some k) × (least ≤ k)
unfolding not_before
at_least least (Some j) k e = go (leb least j) refl e
  where
    go : (b : Bool) → leb least j ≡ b → cond b (Some j) None ≡ Some k → (Some j ≡ Some k) × (least ≤ k)
    go true q d = let same : j ≡ k = cc in (d, omega (arith, leb-true least j q))
    go false q d = let z : ⊥ = cc in absurd z
at_least least None k e = let z : ⊥ = cc in absurd z

out_of_order : {A : Type 0} (least line : ℕ) (x : Option ℕ) → not_before least x ≡ None → (next : ℕ → Judged A) → from_place least line x next ≡ refused (NotCanonical line)
unfolding not_before from_place
out_of_order least line (Some j) e next = go (leb least j) e
  where
    go : (b : Bool) → cond b (Some j) None ≡ None → cond b (next j) (refused (NotCanonical line)) ≡ refused (NotCanonical line)
    go true d = let z : ⊥ = cc in absurd z
    go false d = refl
out_of_order least line None e next = refl

-- a line that is refused ends it
pub by_ends : (ordered : Bool) (header : Passed) (n limit m i : ℕ) (last : Option ℕ) (u : List ℕ) (f : Refusal) → i < m → rule_judged n limit (i + 4) u ≡ refused f
    → checked_rules header (lines_by ordered n limit (least_of last) (m - i) (i + 4) u) ≡ Err f
unfolding checked_rules
by_ends true header n limit m i last u f h e = rw (left_here m i h, ordered_ends n limit (least_of last) (m - (i + 1)) (i + 4) u f e)
by_ends false header n limit m i last u f h e = checked_ends header n limit m i u f h e

-- so does a rule that is out of order
pub by_stops : (ordered : Bool) (header : Passed) (n limit m i : ℕ) (last : Option ℕ) (u : List ℕ) (w : Written) (v : List ℕ) → i < m → rule_judged n limit (i + 4) u ≡ accepted w v
    → ordered ≡ true → place_after last (written_rule w) ≡ None
    → checked_rules header (lines_by ordered n limit (least_of last) (m - i) (i + 4) u) ≡ Err (NotCanonical (i + 4))
unfolding checked_rules
by_stops true header n limit m i last u w v h e o p =
    rw (left_here m i h, ordered_stops n limit (least_of last) (m - (i + 1)) (i + 4) u w v e (out_of_order (least_of last) (i + 4) (canonical_place (written_rule w)) p))
by_stops false header n limit m i last u w v h e o p = clash {b = false} o refl

-- a rule has its place after the last one's, and is then the last one
pub record Placed (last next : Option ℕ) (r : Rule) : Type 0 where
  pub place : ℕ
  pub after : place_after last r ≡ Some place
  pub is : next ≡ Some place

-- after one that is not, the others decide
pub by_goes : (ordered : Bool) (header : Passed) (n limit m i : ℕ) (last next : Option ℕ) (u : List ℕ) (w : Written) (v : List ℕ) → i < m
    → rule_judged n limit (i + 4) u ≡ accepted w v → (ordered ≡ true → Placed last next (written_rule w))
    → checked_rules header (lines_by ordered n limit (least_of last) (m - i) (i + 4) u)
    ≡ checked_rules header (lines_by ordered n limit (least_of next) (m - (i + 1)) (i + 1 + 4) v)
by_goes true header n limit m i last next u w v h e p =
    let q = p refl in
    let a = at_least (least_of last) (canonical_place (written_rule w)) q.place q.after in
    rw (left_here m i h, next_line i, q.is, ordered_goes n limit (least_of last) (m - (i + 1)) (i + 4) u w v q.place e a.0 a.1)
    (checked_more header w (ordered_from n limit (suc q.place) (m - (i + 1)) (suc (i + 4)) v))
by_goes false header n limit m i last next u w v h e p = checked_goes header n limit m i u w v h e

-- bytes after the last line refuse it
pub by_over : (ordered : Bool) (header : Passed) (n limit m i least : ℕ) (s : List ℕ) (at : ℕ) → i ≤ m → m ≤ i → at < length s
    → checked_rules header (lines_by ordered n limit least (m - i) (i + 4) (drop at s)) ≡ Err (Malformed (m + 4))
unfolding ordered_from checked_rules
by_over true header n limit m i least s at h l k = rw (none_left m i l, drop-cons s at 0 k) (ap (λ (j : ℕ). Err (Malformed (j + 4))) (omega arith))
by_over false header n limit m i least s at h l k = checked_over header n limit m i s at h l k

-- where nothing follows, all is read
pub by_done : (ordered : Bool) (header : Passed) (n limit m i least : ℕ) (s : List ℕ) (at : ℕ) → m ≤ i → length s ≤ at
    → checked_rules header (lines_by ordered n limit least (m - i) (i + 4) (drop at s)) ≡ Ok header
unfolding ordered_from checked_rules
by_done true header n limit m i least s at l k = rw (none_left m i l, drop_of_length-le s k)
by_done false header n limit m i least s at l k = checked_done header n limit m i s at l k

-- ---- lines that are accepted, in place order or in any

-- those that are accepted in place order are accepted in any
ordered_any : (n limit least m line : ℕ) (u : List ℕ) (ws : List Written) (v : List ℕ) → ordered_from n limit least m line u ≡ accepted ws v
    → rules_from n limit m line u ≡ accepted ws v
unfolding ordered_from rules_from onward
ordered_any n limit least zero line [] ws v e = e
ordered_any n limit least zero line (b ∷ u) ws v e = e
ordered_any n limit least (suc m) line u ws v e =
    let p = onward_accepted (rule_judged n limit line u) _ ws v e in
    from_accepted least line (canonical_place (written_rule p.value)) _ ws v p.then (λ k d.
    let q = onward_accepted (ordered_from n limit (suc k) m (suc line) p.rest) _ ws v d in
    rw (p.first, ordered_any n limit (suc k) m (suc line) p.rest q.value q.rest q.first) q.then)

pub by_any : (ordered : Bool) (n limit m line : ℕ) (u : List ℕ) (ws : List Written) (v : List ℕ) → lines_by ordered n limit 0 m line u ≡ accepted ws v
    → rules_from n limit m line u ≡ accepted ws v
by_any true n limit m line u ws v e = ordered_any n limit 0 m line u ws v e
by_any false n limit m line u ws v e = e

-- where the answer is a refusal, they are not accepted
pub refused-passes {ℓ} : {X : Type ℓ} (header : Passed) (j : Judged (List Written)) (f : Refusal) → Err f ≡ checked_rules header j
    → (rs : List Written) → j ≡ accepted rs [] → X
unfolding checked_rules
refused-passes header j f e rs q = not-failed {a = header} (sym (e ∙ rw q))
