-- `copies::clear_set` meets its contract. The loop's invariant: the places of the members passed are cleared. Assumes nothing.
use mathlib.Core.Path.{◌≡◌, sym, ◌∙◌}
use native.Mathlib.Omega.{arith}
use Rattle.rules.specs.Hidden.{hidden_in}
use Rattle.keys.proofs.KeyCopies.{clear_none, clear_other, clear_member, clear_all}
use Rattle.keys.proofs.copies.clear_set.Goals.{then-is_hidden, else-is_hidden}
use Rattle.keys.proofs.copies.clear_set.Goals as goal

pub loop-j-init : goal.loop-j-init
loop-j-init c = clear_none _ _ _

pub loop-j-preserved : goal.loop-j-preserved
loop-j-preserved c =
    let l = c.loop-j in
    elim c.if-is_hidden.branch [
      | then-is_hidden w ↦ w.table-is ∙ clear_member (hidden_in c.args.set) _ _ _ _ _ _ c.requires.0 c.loop-j-test.true c.requires.1
          (sym c.is_hidden.ensures ∙ w.if-is_hidden.true) l.invariant w.clear.ensures
      | else-is_hidden w ↦ w.table-is ∙ clear_other (hidden_in c.args.set) _ _ _ _ (sym c.is_hidden.ensures ∙ w.if-is_hidden.false) l.invariant
    ]

pub returns : goal.returns
returns c =
    let l = c.loop-j in
    let e : l.j ≡ c.args.n = omega arith in
    (rw e at l.invariant) ∙ clear_all c.args.set c.args.n c.args.table.now
