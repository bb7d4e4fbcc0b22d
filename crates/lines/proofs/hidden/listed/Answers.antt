-- `hidden::listed` meets its contract. The loop's invariant: a number has to be at `from`, and what is found is that of the numbers before it and of what
-- is left. The measure is the rest of the text. Assumes nothing.
use mathlib.Core.Path.{refl, sym, ◌∙◌}
use native.Mathlib.Omega.{arith}
use Rattle.numerals.specs.declared.byte.Kind.TheVariants.{Comma}
use Rattle.numerals.proofs.Keys.{kind_holds, kind_fails}
use Rattle.numerals.proofs.Numerals.{numeral_found, numeral_none}
use Rattle.lines.proofs.Members.{reading_first, reading_none, reading_past, reading_unordered, reading_room, reading_end, reading_more}
use Rattle.lines.proofs.hidden.listed.Goals as goal

pub loop-from-init : goal.loop-from-init
loop-from-init c = let a = c.args in reading_first a.n a.s.now a.at

pub returns-in_err-found : goal.returns-in_err-found
returns-in_err-found c = rw c.from_residual.ensures (reading_none c.loop-from.invariant (numeral_none _ _ (sym c.in_err-found.ensures)))

pub slice_bounds-digits-count : goal.slice_bounds-digits-count
slice_bounds-digits-count c =
    let f = numeral_found c.args.s.now c.loop-from.from _ (sym c.in_ok-found.ensures) in omega (arith, f.after)

pub slice_bounds-digits-start : goal.slice_bounds-digits-start
slice_bounds-digits-start c =
    let f = numeral_found c.args.s.now c.loop-from.from _ (sym c.in_ok-found.ensures) in omega (arith, f.after, f.inside)

pub slice_bounds-digits-end : goal.slice_bounds-digits-end
slice_bounds-digits-end c =
    let f = numeral_found c.args.s.now c.loop-from.from _ (sym c.in_ok-found.ensures) in omega (arith, f.after, f.inside)

pub returns-then-not-is_smaller : goal.returns-then-not-is_smaller
returns-then-not-is_smaller c =
    let f = numeral_found c.args.s.now c.loop-from.from _ (sym c.in_ok-found.ensures) in
    reading_unordered c.loop-from.invariant f (sym c.is_smaller.ensures.reply ∙ c.if-not-is_smaller.true)

pub with-members-requires : goal.with-members-requires
with-members-requires c =
    let f = numeral_found c.args.s.now c.loop-from.from _ (sym c.in_ok-found.ensures) in
    (c.requires, reading_room c.loop-from.invariant f (sym c.is_smaller.ensures.reply ∙ c.if-not-is_smaller.false) c.requires)

pub returns-then-ne : goal.returns-then-ne
returns-then-ne c =
    let f = numeral_found c.args.s.now c.loop-from.from _ (sym c.in_ok-found.ensures) in
    c.ended.ensures
    ∙ reading_end c.loop-from.invariant f (sym c.is_smaller.ensures.reply ∙ c.if-not-is_smaller.false) c.requires
    (record { set = c.with-members.ensures.set; within = c.with-members.ensures.within })
    (kind_fails Comma c.args.s.now _ refl c.byte_at.ensures c.from.ensures c.ne.ensures c.if-ne.true)

pub loop-from-smaller : goal.loop-from-smaller
loop-from-smaller c =
    let f = numeral_found c.args.s.now c.loop-from.from _ (sym c.in_ok-found.ensures) in omega (arith, f.after)

pub loop-from-preserved : goal.loop-from-preserved
loop-from-preserved c =
    let f = numeral_found c.args.s.now c.loop-from.from _ (sym c.in_ok-found.ensures) in
    reading_more c.loop-from.invariant f (sym c.is_smaller.ensures.reply ∙ c.if-not-is_smaller.false) c.requires
    (record { set = c.with-members.ensures.set; within = c.with-members.ensures.within })
    (kind_holds Comma c.args.s.now _ refl c.byte_at.ensures c.from.ensures c.ne.ensures c.if-ne.false)

pub returns : goal.returns
returns c = reading_past c.loop-from.invariant c.loop-from-test.false
