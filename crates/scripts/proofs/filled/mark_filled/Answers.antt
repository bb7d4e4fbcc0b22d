-- `filled::mark_filled` meets its contract: the names of the script's rules decide, and then the verdict is the tables'. Assumes nothing.
use mathlib.Core.Path.{◌≡◌, refl, sym, ◌∙◌}
use mathlib.Core.List.{List, [], ◌∷◌}
use Prim.Native.Nat.{ℕ, zero, suc, ◌≤◌}
use native.Mathlib.Omega.{arith}
use lib.IntN.{ℤ}
use lib.ListN.{length, take}
use lib.Seq.{length-take-le}
use Rattle.tables.proofs.Tests.{clash}
use Rattle.tables.proofs.Sizes.{size_known}
use Rattle.scripts.proofs.Pairs.{filled_accepted}
use Rattle.scripts.proofs.filled.mark_filled.Goals as goal

-- a list whose front has so many words has no fewer
front_long : (k : ℕ) (t : List ℤ) → k ≤ length (take k t) → k ≤ length t
front_long zero t h = omega arith
front_long (suc k) [] h = h
front_long (suc k) (x ∷ t) h = omega (arith, front_long k t (omega arith))

-- so a front of as many words as that is the whole of it
front_whole : (k m : ℕ) (t : List ℤ) → m ≡ k → k ≤ length (take k t) → m ≡ length (take m t)
front_whole k m t e h = sym (length-take-le m t (rw e (front_long k t h)))

pub slice_bounds-script_table-end : goal.slice_bounds-script_table-end
slice_bounds-script_table-end c =
    front_whole _ _ _ (size_known _ _ c.requires.sized.most c.size-m.ensures) c.requires.sized.script_room

pub any_names_hidden-requires : goal.any_names_hidden-requires
any_names_hidden-requires c =
    let p = c.requires.sized in
    rw (size_known _ _ p.most c.size-m.ensures) (record { some = p.some; most = p.most; room = p.script_room })

pub returns-then-any_names_hidden : goal.returns-then-any_names_hidden
returns-then-any_names_hidden c =
    let told = sym (rw (size_known _ _ c.requires.sized.most c.size-m.ensures) at c.any_names_hidden.ensures.reply) in
    record {
      named = λ e. record { reply = refl; workspace_kept = refl; values_kept = refl };
      visible = λ e. clash (sym e ∙ told ∙ c.if-any_names_hidden.true) refl;
    }

pub slice_bounds-sheet_table-end : goal.slice_bounds-sheet_table-end
slice_bounds-sheet_table-end c =
    front_whole _ _ _ (size_known _ _ c.requires.sized.most c.size-m.ensures) c.requires.sized.sheet_room

pub verdict-verdict-requires : goal.verdict-verdict-requires
verdict-verdict-requires c =
    let e = size_known _ _ c.requires.sized.most c.size-m.ensures in
    let told = sym (rw e at c.any_names_hidden.ensures.reply) in
    rw e (filled_accepted c.requires (told ∙ c.if-any_names_hidden.false))

pub returns : goal.returns
returns c =
    let e = size_known _ _ c.requires.sized.most c.size-m.ensures in
    let told = sym (rw e at c.any_names_hidden.ensures.reply) in
    record {
      named = λ d. clash refl (sym d ∙ told ∙ c.if-any_names_hidden.false);
      visible = λ d. record { verdict = c.verdict-verdict.result; reply = refl; given = rw e at c.verdict-verdict.ensures.given };
    }
