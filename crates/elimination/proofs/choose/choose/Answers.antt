-- `choose::choose` meets its contract: what the gathered bounds leave is what the table's do, it is a word, and so is its negation. Assumes nothing.
use mathlib.Core.Path.{◌≡◌, ◌∙◌, ap}
use mathlib.Core.List.{List}
use Prim.Native.Nat.{ℕ, ◌+◌, ◌*◌, ◌/◌, ◌<◌}
use native.Mathlib.Omega.{arith}
use lib.IntN.{ℤ, pos, neg_ℤ, ◌+ℤ◌}
use mir.Syntax.{w64}
use mir.Val.{to_z, of_z}
use Rattle.std.proofs.Common.{rules}
use Rattle.integers.specs.Bound.{Within}
use Rattle.integers.proofs.Parts.{positive_part, negative_part, held_value, word_value}
use Rattle.integers.proofs.Within.{within_of, within_neg}
use Rattle.words.specs.Change.{word_at}
use Rattle.places.specs.Numbering.{block_start}
use Rattle.rules.specs.Meaning.{literal_value}
use Rattle.tables.specs.Meaning.{assignment_of}
use Rattle.elimination.specs.Hiding.{pair_word, lone_word}
use Rattle.elimination.specs.Magnitude.{add_limit}
use Rattle.elimination.specs.Choosing.{bounded_by, chosen, choice}
use Rattle.elimination.specs.Inner.{among, Valued, Ready, Gathered}
use Rattle.elimination.proofs.Blocks.{one_plus, one_minus}
use Rattle.elimination.proofs.Feasible.{choice_chosen}
use Rattle.elimination.proofs.Projection.{bounded_within, bounded_same}
use Rattle.elimination.proofs.TermWords.{lone_within, pair_within}
use Rattle.elimination.proofs.Values.{literal_within, zero_less, zero_less_word}
use Rattle.elimination.proofs.Rows.{own_inside, table_adds, gathered_row}
use Rattle.elimination.proofs.choose.choose.Goals as goal

-- an integer of 2 ^ 63 - 1 at most in magnitude, which is a word, and so is its negation
abbrev Small : ℤ → Type 0
Small = Within (pos 9223372036854775807)

-- 0, where the bounds above begin, is one
zero_small : Small (pos 0)
unfolding positive_part negative_part
zero_small = within_of (omega arith) (omega arith)

module _ (n : ℕ) (live : List ℕ) (table values : List ℤ) (j : ℕ) where
  -- v lowered by every rule of the literal z, alone or with a live quantity
  abbrev left : ℕ → ℤ → ℤ
  left z v = bounded_by (among live) (literal_value (assignment_of values)) (pair_word table z) (lone_word table z) (2 * n) v

  -- what is left of 0 above, and of the negation of that below
  abbrev above : ℤ
  above = left (2 * j) (pos 0)

  abbrev below : ℤ
  below = left (2 * j + 1) (neg_ℤ above)

  -- what the rules of a literal of quantity j + 1 leave of a small integer is small
  left_small : (z : ℕ) (u : ℤ) → Ready n j table → Valued n live values → z / 2 ≡ j → Small u → Small (left z u)
  left_small z u r v e h =
      let own : z < 2 * n = omega (arith, r.one) in
      bounded_within 4611686018427387903 4611686018427387904 (among live) (literal_value (assignment_of values)) (pair_word table z) (lone_word table z) (2 * n) u
      (λ x l k. pair_within n add_limit table z x r.room r.words own k)
      (lone_within n add_limit table z r.room r.words own)
      (λ x l k. literal_within _ values x (v.each (x / 2) l))
      h

  above_small : Ready n j table → Valued n live values → Small above
  above_small r v = left_small (2 * j) (pos 0) r v (omega arith) zero_small

  below_small : Ready n j table → Valued n live values → Small below
  below_small r v = left_small (2 * j + 1) (neg_ℤ above) r v (omega arith) (within_neg (above_small r v))

  -- what the gathered rows leave is that, above
  above_told : (plus minus : List ℤ) (lone r : ℤ) → Gathered n j live table plus minus → lone ≡ word_at table (2 * (j * j))
      → r ≡ bounded_by (among live) (literal_value (assignment_of values)) (word_at plus) lone (2 * n) (pos 0) → r ≡ above
  unfolding block_start
  above_told plus minus lone r g e h =
      rw (e ∙ ap (word_at table) (one_plus j)) at h
      ∙ bounded_same (among live) (literal_value (assignment_of values)) (word_at plus) (pair_word table (2 * j)) (lone_word table (2 * j)) (2 * n) (pos 0) g.plus_bounds

  -- and below, given what they leave above
  below_told : (plus minus : List ℤ) (lone a r : ℤ) → Ready n j table → Valued n live values → Gathered n j live table plus minus → lone ≡ word_at table (2 * (j * j) + 1)
      → a ≡ above → r ≡ bounded_by (among live) (literal_value (assignment_of values)) (word_at minus) lone (2 * n) (to_z w64 (of_z w64 (pos 0 +ℤ neg_ℤ a)))
      → r ≡ below
  unfolding block_start
  below_told plus minus lone a r q v g e f h =
      rw (f, word_value (zero_less_word (omega arith) (above_small q v)), zero_less above, e ∙ ap (word_at table) (one_minus j)) at h
      ∙ bounded_same (among live) (literal_value (assignment_of values)) (word_at minus) (pair_word table (2 * j + 1)) (lone_word table (2 * j + 1)) (2 * n) (neg_ℤ above)
      g.minus_bounds

pub bounds-table-start : goal.bounds-table-start
bounds-table-start c = omega (arith, own_inside c.args.n c.args.j c.requires.0.ready.one, c.requires.0.ready.room)

pub bounded_by-above-requires : goal.bounded_by-above-requires
bounded_by-above-requires c =
    let s = c.args in
    let r = c.requires.0.ready in
    let inside = own_inside s.n s.j r.one in
    let rows = gathered_row s.n s.j s.live.now s.table.now c.gather.new.plus c.gather.new.minus r
    (omega (arith, c.gather.auto.plus, c.requires.0.plus_room)) (omega (arith, c.gather.auto.minus, c.requires.0.minus_room)) c.gather.ensures in
    let alone = table_adds s.n s.j s.table.now (2 * (s.j * s.j)) r (omega arith) in
    (c.requires.0.listed, rows.0, c.requires.1, search rules)

pub bounds-table-start-2 : goal.bounds-table-start-2
bounds-table-start-2 c = omega (arith, own_inside c.args.n c.args.j c.requires.0.ready.one, c.requires.0.ready.room)

pub overflow_sub-above : goal.overflow_sub-above
overflow_sub-above c =
    let s = c.args in
    let lone = to_z w64 (of_z w64 (word_at s.table.now (2 * (s.j * s.j)))) in
    let a = held_value c.bounded_by-above.type_inv ∙ above_told s.n s.live.now s.table.now s.values.now s.j _ _ lone _ c.gather.ensures (search rules) c.bounded_by-above.ensures in
    rw a (zero_less_word (omega arith) (above_small s.n s.live.now s.table.now s.values.now s.j c.requires.0.ready c.requires.1))

pub bounded_by-below-requires : goal.bounded_by-below-requires
bounded_by-below-requires c =
    let s = c.args in
    let r = c.requires.0.ready in
    let inside = own_inside s.n s.j r.one in
    let rows = gathered_row s.n s.j s.live.now s.table.now c.gather.new.plus c.gather.new.minus r
    (omega (arith, c.gather.auto.plus, c.requires.0.plus_room)) (omega (arith, c.gather.auto.minus, c.requires.0.minus_room)) c.gather.ensures in
    let alone = table_adds s.n s.j s.table.now (2 * (s.j * s.j) + 1) r (omega arith) in
    (c.requires.0.listed, rows.1, c.requires.1, search rules)

pub overflow_sub-result : goal.overflow_sub-result
overflow_sub-result c =
    let s = c.args in
    let r = c.requires.0.ready in
    let v = c.requires.1 in
    let p = to_z w64 (of_z w64 (word_at s.table.now (2 * (s.j * s.j)))) in
    let m = to_z w64 (of_z w64 (word_at s.table.now (2 * (s.j * s.j) + 1))) in
    let a = held_value c.bounded_by-above.type_inv ∙ above_told s.n s.live.now s.table.now s.values.now s.j _ _ p _ c.gather.ensures (search rules) c.bounded_by-above.ensures in
    let b = held_value c.bounded_by-below.type_inv
    ∙ below_told s.n s.live.now s.table.now s.values.now s.j _ _ m _ _ r v c.gather.ensures (search rules) a c.bounded_by-below.ensures in
    rw b (zero_less_word (omega arith) (below_small s.n s.live.now s.table.now s.values.now s.j r v))

-- so the reply is the choice
pub returns : goal.returns
unfolding choice chosen
returns c =
    let s = c.args in
    let r = c.requires.0.ready in
    let v = c.requires.1 in
    let p = to_z w64 (of_z w64 (word_at s.table.now (2 * (s.j * s.j)))) in
    let m = to_z w64 (of_z w64 (word_at s.table.now (2 * (s.j * s.j) + 1))) in
    let a = held_value c.bounded_by-above.type_inv ∙ above_told s.n s.live.now s.table.now s.values.now s.j _ _ p _ c.gather.ensures (search rules) c.bounded_by-above.ensures in
    let b = held_value c.bounded_by-below.type_inv
    ∙ below_told s.n s.live.now s.table.now s.values.now s.j _ _ m _ _ r v c.gather.ensures (search rules) a c.bounded_by-below.ensures in
    let reply : to_z w64 (of_z w64 (pos 0 +ℤ neg_ℤ (to_z w64 (of_z w64 c.bounded_by-below.result)))) ≡ choice (among s.live.now) s.n s.table.now s.j s.values.now =
    rw b (word_value (zero_less_word (omega arith) (below_small s.n s.live.now s.table.now s.values.now s.j r v)) ∙ zero_less (below s.n s.live.now s.table.now s.values.now s.j)) in
    choice_chosen (among s.live.now) s.n s.j s.table.now s.values.now _ r reply
