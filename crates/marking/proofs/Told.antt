-- What a reply tells beside its number, as one number, is what `rules::refusal::value_of` gives of it. Assumes nothing.
use mathlib.Core.Path.{◌≡◌, refl}
use Rattle.std.specs.Prelude.{Ok, Err}
use Rattle.rules.specs.Refusal.{answer_value}
use Rattle.marking.specs.Verdicts.{Marking, marking_value}

pub value_told : (r : Marking) → answer_value r ≡ marking_value r
value_told (Ok verdict) = refl
value_told (Err f) = refl
