-- The contract of hiding one quantity, from plain facts. Assumes nothing.
use mathlib.Core.Path.{◌≡◌, refl, sym, ◌∙◌, ap}
use mathlib.Core.Bool.{Bool, ◌||◌}
use mathlib.Core.List.{List}
use Prim.Native.Nat.{ℕ, suc, ◌+◌, ◌*◌, ◌≤◌, ◌<◌}
use native.Mathlib.Numerals.{add-one}
use native.Mathlib.Omega.{arith}
use lib.IntN.{ℤ}
use lib.ListN.{length}
use borrow.Author.Tests.{le-leb}
use Rattle.std.specs.Prelude.{Ok}
use Rattle.words.specs.Change.{word_at}
use Rattle.places.specs.Numbering.{block_start}
use Rattle.rules.specs.Limits.{max_quantities}
use Rattle.tables.specs.Replies.{Reply}
use Rattle.tables.specs.Tables.{clear_reply}
use Rattle.tables.specs.Promises.{Cleared}
use Rattle.tables.proofs.Sizes.{long_serves}
use Rattle.elimination.specs.Hiding.{bare_below, any_bare, every, eliminated}
use Rattle.elimination.specs.Promises.{Paired, QuantityHidden}
use Rattle.elimination.proofs.Step.{Adds, paired_length}
use Rattle.elimination.proofs.Exact.{eliminate_exact, eliminate_none}
use Rattle.elimination.proofs.Growth.{eliminated_within}
use Rattle.elimination.proofs.Document.{by_rules}
use Rattle.elimination.proofs.BlockOrder.{by_blocks}
use Rattle.elimination.proofs.SumOver.{sums_over}
use Rattle.elimination.specs.Inner.{among, Ready, NamesAlone, Gathered, BlocksPaired}
use Rattle.elimination.proofs.BareSums.{contradicts_rows}
use Rattle.elimination.proofs.Blocks.{one_plus, one_minus, paired_rows}
use Rattle.elimination.proofs.Fewer.{fewer_paired, fewer_contradicts}

clear_done : (n j words : ℕ) → j < n → n ≤ max_quantities → block_start n ≤ words → clear_reply n words (suc j) ≡ Ok tt
unfolding clear_reply
clear_done n j words h g l = rw (long_serves n words (omega arith) g l, le-leb 1 (suc j) (omega arith), le-leb (suc j) n (omega arith))

-- the sums that gathered rows give are those of the step, and so are the bare sums that they tell
pub rows_paired : (n j : ℕ) (live : List ℕ) (t plus minus u : List ℤ) (p m : ℤ) (r : Bool) → Gathered n j live t plus minus
    → p ≡ word_at t (2 * (j * j)) → m ≡ word_at t (2 * (j * j) + 1) → BlocksPaired n live plus minus p m t u
    → r ≡ (bare_below p m || any_bare (among live) (word_at plus) (word_at minus) (2 * n)) → Paired (among live) n j t r u
unfolding block_start
rows_paired n j live t plus minus u p m r g e f b h =
    let q = e ∙ ap (word_at t) (one_plus j) in
    let o = f ∙ ap (word_at t) (one_minus j) in
    record { reply = h ∙ contradicts_rows n j live t plus minus (bare_below p m) g (rw (q, o)); table = b.table ∙ paired_rows n j live t plus minus p m g q o }

-- where the rules name the quantity and live ones alone, a pairing of these is one of all
pub paired_alone : (n j : ℕ) (live : List ℕ) (t u : List ℤ) (r : Bool) → Ready n j t → NamesAlone n j live t → Paired (among live) n j t r u → Paired every n j t r u
paired_alone n j live t u r s a p = record {
  reply = p.reply ∙ sym (fewer_contradicts every (among live) n j t s.room s.one (λ i h e. refl) (λ i h d e f. a i h d f));
  table = p.table ∙ sym (fewer_paired every (among live) n j t s.room s.one (λ i h e. refl) (λ i h d e f. a i h d f));
}

-- the sums put in, then the quantity's places cleared
pub hidden_done : (n j : ℕ) (t u v : List ℤ) (r : Bool) (reply : Reply) → Ready n j t → Paired every n j t r u → Cleared n (j + 1) u reply v → QuantityHidden n j t r v
unfolding eliminated
hidden_done n j t u v r reply s p c = record {
  reply = p.reply;
  table = table;
  rules = by_rules n j t s.room s.one v r p.reply table;
  blocks = by_blocks n j t s.room s.one v table;
  sums = sums_over n j t s.words;
  growth = λ B w. rw table (eliminated_within n j B t s.room s.one w);
  meaning = λ e σ. rw table (eliminate_exact n j 4611686018427387903 t σ adds s.one (sym p.reply ∙ e));
  none = λ e σ. eliminate_none n j t σ s.room s.one (sym p.reply ∙ e);
}
  where
    adds : Adds n 4611686018427387903 t
    adds = record { room = s.room; words = s.words; fits = omega arith }

    room : block_start n ≤ length u
    room = rw (p.table, paired_length every n j t) s.room

    done : reply ≡ Ok tt
    done = c.reply ∙ rw (add-one j) (clear_done n j (length u) s.one s.most room)

    table : v ≡ eliminated n j t
    table = c.table ∙ rw (done, add-one j, p.table)
