-- `key::hide_members` meets its contract. The loop's invariant: of the first j quantities those of the set are hidden, and no contradiction was met. Assumes nothing.
use mathlib.Core.Path.{◌≡◌}
use native.Mathlib.Numerals.{add-one}
use native.Mathlib.Omega.{arith}
use Rattle.rules.specs.Hidden.{hidden_in}
use Rattle.keys.proofs.Several.{hide_none}
use Rattle.keys.proofs.Hiding.{hide_ready, hide_gone, member_next, member_clear, set_clash, set_hidden}
use Rattle.keys.proofs.key.hide_members.Goals as goal

pub loop-j-init : goal.loop-j-init
loop-j-init g c = record { table = hide_none (hidden_in c.args.set) c.args.n c.args.table.now; none = λ i h e. absurd (omega arith) }

pub hide_member-requires : goal.hide_member-requires
hide_member-requires g c =
    let l = c.loop-j in
    let t = c.args.table.now in
    let ready = hide_ready _ c.args.set l.j t c.requires.0 c.loop-j-test.true in
    let gone = hide_gone _ c.args.set l.j t c.requires.0.sums.room (omega arith) in
    (omega arith, (rw l.invariant.table (record { ready = ready; gone = gone }), c.requires.1))

pub returns-then-hide_member : goal.returns-then-hide_member
returns-then-hide_member g c =
    let l = c.loop-j in
    let s = c.args in
    set_clash s.n s.set s.table.now c.requires.0 l.j l.table _ _ c.loop-j-test.true l.invariant.table c.hide_member.ensures c.if-hide_member.true

pub loop-j-preserved : goal.loop-j-preserved
loop-j-preserved g c =
    let l = c.loop-j in
    let s = c.args in
    let t = s.table.now in
    rw (add-one l.j) (record {
      table = member_next _ s.set t c.requires.0 l.j l.table _ _ c.loop-j-test.true l.invariant.table c.hide_member.ensures;
      none = member_clear _ s.set t c.requires.0 l.j l.table _ _ c.loop-j-test.true l.invariant.table c.hide_member.ensures c.if-hide_member.false l.invariant.none;
    })

pub returns : goal.returns
returns g c =
    let l = c.loop-j in
    let e : l.j ≡ c.args.n = omega arith in
    set_hidden c.args.n c.args.set c.args.table.now c.requires.0 _ (rw e at l.invariant.table) (rw e at l.invariant.none)
