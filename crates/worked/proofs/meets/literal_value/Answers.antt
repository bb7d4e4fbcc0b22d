-- `meets::literal_value` meets its contract: an even literal is worth its quantity's word, an odd one the negation. Assumes nothing.
use Rattle.std.proofs.Common.{◌≡◌, ◌/◌, rules}
use mathlib.Core.Path.{◌∙◌}
use Rattle.integers.proofs.Parts.{held_value, word_in_word}
use Rattle.words.specs.Change.{word_at}
use Rattle.worked.proofs.Values.{literal_plus, literal_minus}
use Rattle.worked.proofs.meets.literal_value.Goals as goal

pub returns-then-x-eq0 : goal.returns-then-x-eq0
returns-then-x-eq0 c =
    let e : c.unwrap_or-value.result ≡ word_at c.args.values.now (c.args.x / 2) = search rules in
    let h = c.unwrap_or-value.type_inv in
    held_value h ∙ e ∙ literal_plus c.args.values.now c.args.x c.if-x-eq0.true (word_in_word (record { sfits = rw e at h }))

pub returns-else-x-eq0 : goal.returns-else-x-eq0
returns-else-x-eq0 c =
    let e : c.unwrap_or-value.result ≡ word_at c.args.values.now (c.args.x / 2) = search rules in
    held_value c.saturating_add.type_inv
    ∙ rw (held_value c.opposite.type_inv, c.opposite.ensures, held_value c.unwrap_or-value.type_inv, e) at c.saturating_add.ensures
    ∙ literal_minus c.args.values.now c.args.x c.if-x-eq0.false
