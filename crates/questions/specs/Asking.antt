-- Asking: the checks in order, and the reply, which compute.
use Rattle.std.specs.Prelude.{Bool, true, not, ◌&&◌, List, ℕ, leb, eqb, ℤ, length, Ok, Err}
use Rattle.places.specs.Numbering.{block_start}
use Rattle.rules.specs.declared.paper.Paper.TheVariants.{Sheet}
use Rattle.rules.specs.declared.refusal.Refusal.TheVariants.{Size, OutOfLimit, Cancelling, NoAssignment, TooShort, ListSize}
use Rattle.rules.specs.Refusal.{refusal_number}
use Rattle.tables.specs.Tables.{serves}
use Rattle.tables.specs.Replies.{Reply, check}
use Rattle.keys.specs.Keys.{refuted, bounds_in_limit}
use Rattle.tightening.specs.Tightening.{tightened}
use Rattle.questions.specs.Replies.{Asked}
use Rattle.questions.specs.Questions.{max_questions, question_count, questions_within, none_cancels, yes_up_to}

-- the checks of asking, and what follows: 1, 8, 6, 3, 4
unfoldable pub ask_checks : ℕ → List ℤ → List ℤ → ℕ → Reply → Reply
ask_checks n t list w next =
    check (serves n (length t)) Size
    (check (leb 1 (question_count (length list)) && leb (question_count (length list)) max_questions) ListSize
    (check (leb (block_start n) w) (TooShort (block_start n))
    (check (bounds_in_limit Sheet n 0 t && questions_within n list (question_count (length list))) (OutOfLimit 0)
    (check (none_cancels list (question_count (length list))) (Cancelling 0) next))))

-- answers where the checks are done, else their refusal
abbrev pub answered_as : Reply → ℕ → ℕ → Asked
answered_as (Ok done) n bits = Ok (record { count = n; bits = bits })
answered_as (Err f) n bits = Err f

-- the reply: these checks, 5, and the answers from the sheet's tightest table, nothing hidden
unfoldable pub ask_reply : ℕ → List ℤ → List ℤ → ℕ → Asked
ask_reply n t list w =
    answered_as (ask_checks n t list w (check (not (refuted n t)) NoAssignment (Ok tt)))
    (question_count (length list)) (yes_up_to (tightened n t) list (question_count (length list)))

-- the replies after which the workspace may have changed: answers and 5
abbrev pub changes_workspace : Asked → Bool
changes_workspace (Ok a) = true
changes_workspace (Err f) = eqb (refusal_number f) 5
