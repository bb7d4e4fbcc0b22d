-- The number of a reply, and what it tells beside as one number, are what `rules::refusal::number_of` and `value_of` give of it. Assumes nothing.
use mathlib.Core.Path.{◌≡◌, refl}
use Rattle.std.specs.Prelude.{Ok, Err}
use Rattle.rules.specs.Refusal.{answer_number, answer_value}
use Rattle.questions.specs.Replies.{Asked, asked_number, asked_value}

pub number_told : (r : Asked) → answer_number r ≡ asked_number r
number_told (Ok answers) = refl
number_told (Err f) = refl

pub value_told : (r : Asked) → answer_value r ≡ asked_value r
value_told (Ok answers) = refl
value_told (Err f) = refl
