-- The number of a reply is what `rules::refusal::number_of` gives of it; what it tells beside is `writing::write::value`. Assumes nothing.
use mathlib.Core.Path.{◌≡◌, refl}
use Rattle.std.specs.Prelude.{Ok, Err}
use Rattle.rules.specs.Refusal.{answer_number}
use Rattle.writing.specs.Writing.{Writing, writing_number}

pub number_told : (r : Writing) → answer_number r ≡ writing_number r
number_told (Ok m) = refl
number_told (Err f) = refl
