-- `hidden::list_line` meets its contract: the key, and then a list or the line's end. Assumes nothing.
use mathlib.Core.Path.{refl, sym, ◌∙◌}
use Prim.Native.Nat.{◌+◌}
use native.Mathlib.Omega.{arith}
use lib.ListN.{drop, length-drop}
use Rattle.numerals.specs.declared.byte.Kind.TheVariants.{LineEnd}
use Rattle.numerals.specs.Bytes.{newline}
use Rattle.numerals.proofs.Keys.{kind_holds, kind_fails, byte_inside, starts_length}
use Rattle.lines.specs.Spelling.{hidden_key}
use Rattle.lines.proofs.Members.{hidden_unkeyed, hidden_some, hidden_none}
use Rattle.lines.proofs.hidden.list_line.Goals as goal

pub returns-then-not-has_key : goal.returns-then-not-has_key
returns-then-not-has_key c = hidden_unkeyed c.args.n c.args.s.now c.args.at (sym c.has_key.ensures ∙ c.if-not-has_key.true)

pub overflow_add-from : goal.overflow_add-from
overflow_add-from c = let a = c.args in
    omega (arith, starts_length hidden_key (drop a.at a.s.now) (sym c.has_key.ensures ∙ c.if-not-has_key.false), length-drop a.at a.s.now)

pub returns-then-ne : goal.returns-then-ne
returns-then-ne c = let a = c.args in
    c.listed.ensures ∙ hidden_some a.n a.s.now a.at (sym c.has_key.ensures ∙ c.if-not-has_key.false)
    (kind_fails LineEnd a.s.now _ refl c.byte_at.ensures c.from.ensures c.ne.ensures c.if-ne.true)

pub overflow_add-result : goal.overflow_add-result
overflow_add-result c =
    omega (arith, byte_inside newline c.args.s.now (c.args.at + 7) (kind_holds LineEnd c.args.s.now _ refl c.byte_at.ensures c.from.ensures c.ne.ensures c.if-ne.false))

pub returns : goal.returns
returns c = let a = c.args in
    hidden_none a.n a.s.now a.at (sym c.has_key.ensures ∙ c.if-not-has_key.false)
    (kind_holds LineEnd a.s.now _ refl c.byte_at.ensures c.from.ensures c.ne.ensures c.if-ne.false)
