-- The invariant of `list::check`: the questions so far are in their limits, and the flag says whether one of them is +q-q. Assumes nothing.
use Rattle.std.proofs.Common.{length}
use Rattle.std.specs.Slice.Iter.{chunks_exact_rest, chunks_exact_size}
use Rattle.questions.proofs.Cutting.{Left}
use Rattle.questions.proofs.Listing.{Checked}
use Rattle.questions.proofs.list.check.Given as goal

abbrev pub invariant-loop-question : goal.invariant-loop-question
invariant-loop-question l = record {
  left : Left l.questions (chunks_exact_rest l.question-iterator) (chunks_exact_size l.question-iterator) (length l.yielded);
  checked : Checked l.n l.questions (length l.yielded) l.cancels;
}
