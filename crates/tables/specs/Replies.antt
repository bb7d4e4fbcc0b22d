-- The reply of a call that has nothing beside to answer where it is done: done, or a refusal; as it is returned, and the check that makes it.
use Rattle.std.specs.Prelude.{Bool, true, false, cond, List, [], ℕ, ℤ, Result, Ok, Err}
use Rattle.rules.specs.declared.refusal.Refusal.{Refusal}
use Rattle.rules.specs.Refusal.{Returned, refusal_beside, beside_values, answer_number, answer_value}

abbrev pub Reply : Type 0
Reply = Result (Unit {0}) Refusal

abbrev pub is_done : Reply → Bool
is_done (Ok done) = true
is_done (Err f) = false

-- the values beside the number: those of the refusal, and none where the call is not refused
abbrev pub reply_values : Reply → List ℤ
reply_values (Ok done) = []
reply_values (Err f) = beside_values (refusal_beside f)

-- a reply as it is returned: 0 where the call is not refused
abbrev pub reply_returned : Reply → Returned
reply_returned r = record { number = answer_number r; values = reply_values r }

abbrev pub reply_number : Reply → ℕ
reply_number r = (reply_returned r).number

-- what is returned beside as one number, 0 where there is none
abbrev pub reply_value : Reply → ℕ
reply_value r = answer_value r

-- a check, and what follows where it passes: the first refusal stands
abbrev pub check : Bool → Refusal → Reply → Reply
check passes f next = cond passes next (Err f)
