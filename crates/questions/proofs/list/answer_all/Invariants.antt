-- The invariant of `list::answer_all`: the number is that of the answers so far. Assumes nothing.
use Rattle.std.proofs.Common.{◌≡◌, length}
use Rattle.std.specs.Iterator.Adapters.{enumerate_source, enumerate_count}
use Rattle.std.specs.Slice.Iter.{chunks_exact_rest, chunks_exact_size}
use Rattle.questions.specs.Questions.{yes_up_to}
use Rattle.questions.proofs.Cutting.{Left}
use Rattle.questions.proofs.list.answer_all.Given as goal

abbrev pub invariant-loop-i : goal.invariant-loop-i
invariant-loop-i l = record {
  left : Left l.questions (chunks_exact_rest (enumerate_source l.i-iterator)) (chunks_exact_size (enumerate_source l.i-iterator)) (length l.yielded);
  number : enumerate_count l.i-iterator ≡ length l.yielded;
  answers : l.bits ≡ yes_up_to l.tight l.questions (length l.yielded);
}
