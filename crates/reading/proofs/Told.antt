-- The number of a reply, and what it tells beside as one number, are what `rules::refusal::number_of` and `value_of` give of it. Assumes nothing.
use mathlib.Core.Path.{◌≡◌, refl}
use Rattle.std.specs.Prelude.{Ok, Err}
use Rattle.rules.specs.Refusal.{answer_number, answer_value}
use Rattle.reading.specs.Reading.{Reading, reading_number, reading_value}

pub number_told : (r : Reading) → answer_number r ≡ reading_number r
number_told (Ok sheet) = refl
number_told (Err f) = refl

pub value_told : (r : Reading) → answer_value r ≡ reading_value r
value_told (Ok sheet) = refl
value_told (Err f) = refl
