-- The rules that a table writes are in bank order, as its places are. Assumes nothing.
use mathlib.Core.Path.{◌≡◌, refl, ◌∙◌, ap}
use mathlib.Core.Bool.{Bool, true, false, cond}
use mathlib.Core.List.{List, [], ◌∷◌}
use Rattle.std.specs.Prelude.{Some}
use Prim.Native.Nat.{ℕ, suc, ◌≤◌}
use native.Mathlib.Omega.{arith}
use lib.IntN.{ℤ}
use lib.ListN.{take}
use Rattle.places.specs.Numbering.{block_start, is_one, higher_at, lower_at}
use Rattle.places.proofs.Numbering.{at_lower}
use Rattle.rules.specs.declared.rule.Rule.TheVariants.{One, Two}
use Rattle.tables.specs.Places.{rule_at, find_place}
use Rattle.tables.specs.Tables.{has_rule}
use Rattle.tables.proofs.Places.{rule_at_found}
use Rattle.lines.specs.Spelling.{Written, written_rule}
use Rattle.writing.specs.Writing.{written_of, rules_at, table_rules}
use Rattle.writing.proofs.Meanings.{written-rule}
use Rattle.bank.specs.Order.{LowerFirst, NextAfter, InBankOrder}

-- ---- rules from a place on

-- a rule has a place, which is the least one or after it
pub record PlaceFrom (least : ℕ) (w : Written) : Type 0 where
  pub place : ℕ
  pub found : find_place (written_rule w) ≡ Some place
  pub from : least ≤ place

-- the first of some rules has
abbrev pub NextFrom : ℕ → List Written → Type 0
NextFrom least [] = Unit {0}
NextFrom least (w ∷ ws) = PlaceFrom least w

-- so it has from any place before
pub next_sooner : (i least : ℕ) (ws : List Written) → i ≤ least → NextFrom least ws → NextFrom i ws
next_sooner i least [] h f = tt
next_sooner i least (w ∷ ws) h f = record { place = f.place; found = f.found; from = omega arith }

-- rules from after a rule's place on come next after it
pub next_after : (v : Written) (k : ℕ) (ws : List Written) → find_place (written_rule v) ≡ Some k → NextFrom (suc k) ws → NextAfter v ws
next_after v k [] e f = tt
next_after v k (w ∷ ws) e f = record { earlier = k; later = f.place; first = e; second = f.found; after = f.from }

-- and back
pub after_next : (v : Written) (k : ℕ) (ws : List Written) → find_place (written_rule v) ≡ Some k → NextAfter v ws → NextFrom (suc k) ws
after_next v k [] e f = tt
after_next v k (w ∷ ws) e f =
    let same : f.earlier ≡ k = cc in
    record { place = f.later; found = f.second; from = omega arith }

-- ---- the rules of words

-- the rule of a place has its lower quantity first
rule_at_lower : (k : ℕ) (c : ℤ) → LowerFirst (written_of (rule_at k c))
unfolding rule_at written_of
rule_at_lower k c = go (is_one k) refl
  where
    go : (b : Bool) → is_one k ≡ b → LowerFirst (written_of (cond b (One (higher_at k) c) (Two (lower_at k) (higher_at k) c)))
    go true e = tt
    go false e = omega (arith, at_lower k e)

-- and is found there
pub written_found : (k : ℕ) (c : ℤ) → find_place (written_rule (written_of (rule_at k c))) ≡ Some k
written_found k c = ap find_place (written-rule (rule_at k c)) ∙ rule_at_found k c

-- the rules of words from place i on are in bank order, and none is before that place
words_ordered : (i : ℕ) (t : List ℤ) → NextFrom i (rules_at i t) × InBankOrder (rules_at i t)
unfolding rules_at
words_ordered i [] = (tt, tt)
words_ordered i (c ∷ t) = go (words_ordered (suc i) t) (has_rule c)
  where
    later : List Written
    later = rules_at (suc i) t

    go : NextFrom (suc i) later × InBankOrder later → (b : Bool)
        → NextFrom i (cond b (written_of (rule_at i c) ∷ later) later) × InBankOrder (cond b (written_of (rule_at i c) ∷ later) later)
    go rest true = (
      record { place = i; found = written_found i c; from = omega arith },
      (rule_at_lower i c, next_after (written_of (rule_at i c)) i later (written_found i c) rest.0, rest.1),
    )
    go rest false = (next_sooner i (suc i) later (omega arith) rest.0, rest.1)

-- the rules that a table writes are in bank order
pub table_ordered : (n : ℕ) (t : List ℤ) → InBankOrder (table_rules n t)
table_ordered n t = (words_ordered 0 (take (block_start n) t)).1
