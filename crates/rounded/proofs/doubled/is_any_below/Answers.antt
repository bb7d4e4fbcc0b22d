-- `doubled::is_any_below` meets its contract. Assumes nothing.
use Rattle.std.proofs.Common.{rules, arith, ◌≡◌, true, false, ◌+◌, ◌-◌, ◌*◌, sym, ◌∙◌}
use Rattle.words.specs.Change.{word_at}
use Rattle.rules.specs.Hidden.{hidden_in}
use Rattle.rounded.specs.Inner.{halves_below}
use Rattle.rounded.proofs.HalvesBelow.{block_room, none_left, one_passed, one_not_below, one_below}
use Rattle.rounded.proofs.doubled.is_any_below.Goals as goal
use Rattle.rounded.proofs.doubled.is_any_below.Goals.{else-is_hidden-via-then-is_hidden+else-are_halves_below, else-is_hidden-via-else-is_hidden}

pub bounds-table-start : goal.bounds-table-start
bounds-table-start c = omega (arith, block_room c.args.n (c.loop-j.j - 1) (omega arith))

pub bounds-table-start-then-is_hidden : goal.bounds-table-start-then-is_hidden
bounds-table-start-then-is_hidden c = omega (arith, block_room c.args.n (c.loop-j.j - 1) (omega arith))

pub returns-then-are_halves_below : goal.returns-then-are_halves_below
returns-then-are_halves_below c =
    let i = c.loop-j.j - 1 in
    let e : halves_below (word_at c.args.table.now (2 * (i * i))) (word_at c.args.table.now (2 * (i * i) + 1)) ≡ true = search rules in
    sym (sym c.loop-j.invariant ∙ one_below (hidden_in c.args.set) c.loop-j.j c.args.table.now (omega arith) (search rules) e)

pub loop-j-preserved : goal.loop-j-preserved
loop-j-preserved c = elim c.else-is_hidden.branch [
  | else-is_hidden-via-then-is_hidden+else-are_halves_below w ↦
      let i = c.loop-j.j - 1 in
      let e : halves_below (word_at c.args.table.now (2 * (i * i))) (word_at c.args.table.now (2 * (i * i) + 1)) ≡ false = search rules in
      sym (one_not_below (hidden_in c.args.set) c.loop-j.j c.args.table.now (omega arith) e) ∙ c.loop-j.invariant
  | else-is_hidden-via-else-is_hidden w ↦ sym (one_passed (hidden_in c.args.set) c.loop-j.j c.args.table.now (omega arith) (search rules)) ∙ c.loop-j.invariant
]

pub returns : goal.returns
returns c = sym (none_left (hidden_in c.args.set) c.loop-j.j c.args.table.now (omega arith)) ∙ c.loop-j.invariant
