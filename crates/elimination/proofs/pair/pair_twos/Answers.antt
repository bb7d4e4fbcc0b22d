-- `pair::pair_twos` meets its contract: the lower quantities of the list are those of the block. Assumes nothing.
use mathlib.Core.Path.{◌≡◌, ◌∙◌, ap}
use Prim.Native.Nat.{ℕ, suc, ◌+◌, ◌*◌, ◌≤◌, ◌<◌}
use native.Mathlib.Numerals.{add-one}
use native.Mathlib.Omega.{arith}
use lib.ListN.{length, get_or}
use Rattle.std.proofs.lemmas.List.{length-take-le}
use Rattle.words.specs.Change.{word_at}
use Rattle.rules.specs.Limits.{max_quantities}
use Rattle.places.specs.Numbering.{block_start}
use Rattle.places.proofs.Numbering.{block_start_suc}
use Rattle.tables.proofs.Sizes.{small_start}
use Rattle.elimination.specs.Inner.{among}
use Rattle.elimination.proofs.Lists.{listed_at, lower_at}
use Rattle.elimination.proofs.Rows.{quantity_adds}
use Rattle.elimination.proofs.Blocks.{twos_first, twos_put, twos_next}
use Rattle.elimination.proofs.pair.pair_twos.Goals as goal

pub loop-a-init : goal.loop-a-init
loop-a-init c = λ p m. twos_first c.args.live.now c.requires.rising (word_at c.args.plus.now) (word_at c.args.minus.now) p m c.args.i c.args.table.now c.requires.some

-- the places of a lower quantity a in the block of b are in the table, which is small
inside : (a b m : ℕ) → a < b → b < max_quantities → block_start (suc b) ≤ m → let k = block_start b + 2 + 4 * a in (k + 3 < m) × (k + 3 ≤ 4096)
unfolding block_start
inside a b m p q r = omega (arith, p, q, r, block_start_suc b, small_start (suc b) (omega arith))

pub of-x-requires : goal.of-x-requires
of-x-requires c =
    let e = lower_at c.args.live.now c.requires.rising c.args.i c.loop-a.a-index c.requires.some (omega arith) in
    (omega (arith, e.is, e.below), omega (arith, e.is, e.below))

pub overflow_mul-a : goal.overflow_mul-a
overflow_mul-a c =
    let e = lower_at c.args.live.now c.requires.rising c.args.i c.loop-a.a-index c.requires.some (omega arith) in
    omega (arith, e.is, e.below)

pub overflow_add-start-in-loop-a : goal.overflow_add-start-in-loop-a
unfolding block_start
overflow_add-start-in-loop-a c =
    let e = lower_at c.args.live.now c.requires.rising c.args.i c.loop-a.a-index c.requires.some (omega arith) in
    rw e.is (omega (arith, inside _ _ _ e.below c.requires.most c.requires.room))

pub put_four-requires-clause-addable : goal.put_four-requires-clause-addable
unfolding block_start
put_four-requires-clause-addable c =
    let live = c.args.live.now in
    let r = c.requires in
    let e = lower_at live r.rising c.args.i c.loop-a.a-index r.some (omega arith) in
    let b = get_or live c.args.i 0 in (
      rw e.is (omega (arith, inside _ b _ e.below r.most r.room)),
      rw (c.of-x.ensures, e.is) (quantity_adds (suc b) live _ _ c.loop-a.a-index r.plus_row r.minus_row (omega arith) (omega arith)),
      rw c.of-y.ensures (quantity_adds (suc b) live _ _ c.args.i r.plus_row r.minus_row r.some (omega arith)),
    )

pub loop-a-preserved : goal.loop-a-preserved
unfolding block_start
loop-a-preserved c =
    let l = c.loop-a in
    let s = c.args in
    let r = c.requires in
    let live = s.live.now in
    let plus = word_at s.plus.now in
    let minus = word_at s.minus.now in
    let b = get_or live s.i 0 in
    let a = get_or live l.a-index 0 in
    let e = lower_at live r.rising s.i l.a-index r.some (omega arith) in
    let put = rw (c.of-x.ensures, c.of-y.ensures, e.is) at c.put_four.ensures in
    λ p m. rw (add-one l.a-index)
    (twos_put (among live) plus minus p m b a s.table.now l.table c.put_four.new.table
    (listed_at live l.a-index (omega arith)) (listed_at live s.i r.some) e.below (inside a b (length s.table.now) e.below r.most r.room).0 (l.invariant p m) put
    ∙ twos_next live r.rising plus minus p m s.i l.a-index s.table.now e.before r.some)

-- the block ends after the four places of the quantity before its own
last : (b : ℕ) → block_start b + 2 + 4 * b ≡ block_start (suc b)
last b = omega (arith, block_start_suc b)

pub returns : goal.returns
returns c =
    let l = c.loop-a in
    let live = c.args.live.now in
    let b = get_or live c.args.i 0 in
    let passed : l.a-index ≡ c.args.i = omega (arith, length-take-le c.args.i live (omega arith)) in
    let e : block_start b + 2 + 4 * get_or live l.a-index 0 ≡ block_start (suc b) = ap (λ (h : ℕ). block_start b + 2 + 4 * get_or live h 0) passed ∙ last b in
    record { table = λ p m. l.invariant p m ∙ rw e }
