-- The sheet reduced: its hidden quantities eliminated at the front of the workspace, its key copied to the back and made the tightest there; so 'no assignment' is decided. Assumes nothing.
use mathlib.Core.Path.{◌≡◌, refl, sym, ◌∙◌}
use mathlib.Core.Bool.{Bool, true, false, not}
use mathlib.Core.List.{List}
use Prim.Native.Nat.{ℕ, suc, ◌≤◌, ◌<◌}
use native.Mathlib.Omega.{arith}
use lib.IntN.{ℤ}
use lib.ListN.{length, take, drop, length-drop}
use borrow.Author.Tests.{le-leb}
use Rattle.words.specs.Change.{word_at, change, copying}
use Rattle.words.specs.Lent.{Lent}
use Rattle.words.proofs.Change.{change_length, change_drop}
use Rattle.places.specs.Numbering.{block_start}
use Rattle.rules.specs.declared.rule.Rule.{Rule}
use Rattle.rules.specs.Hidden.{hidden_in}
use Rattle.tables.specs.Places.{rule_at}
use Rattle.tables.specs.Tables.{table_size}
use Rattle.tables.specs.Meaning.{Satisfies, Satisfiable, Unsatisfiable, Breaks, NamesVisible}
use Rattle.tables.proofs.Sizes.{size_known}
use Rattle.tables.proofs.Tests.{clash}
use Rattle.elimination.specs.Hiding.{every}
use Rattle.keys.specs.declared.live.Part.TheVariants.{Inside, Outside}
use Rattle.keys.specs.Keys.{key_of}
use Rattle.keys.specs.Inner.{LiveListed, LiveAlone, Fits, PartFits, AtTurns, SetEliminated}
use Rattle.keys.specs.Copies.{KeyCopied}
use Rattle.keys.proofs.Several.{key_exact, key_visible, refuted_false, allows_own}
use Rattle.keys.proofs.Copying.{SameTable, copied, same_back, same_satisfies, same_fits, same_part, same_turns, same_unnamed}
use Rattle.keys.proofs.Fitting.{set_ample, hide_ample}
use Rattle.keys.proofs.Deciding.{turns_some, decides_refuted}
use Rattle.keys.proofs.Parts.{PartBack, front_word, back_word}
use Rattle.tightening.specs.Promises.{Tightened}
use Rattle.tightening.proofs.Least.{bound_least}
use Rattle.marking.specs.Meaning.{workspace_size}
use Rattle.marking.specs.Inner.{VisibleListed, SheetReducible, SheetReduced}
use Rattle.keys.proofs.Visible.{visible_unnamed}
use Rattle.marking.proofs.Lending.{lent_again, lent_wider, part_lent}

-- ---- the visible quantities, listed

pub listed_visible : (n set count : ℕ) (out : List ℕ) → LiveListed n set Outside 0 count out → VisibleListed n set (take count out)
listed_visible n set count out l = record { listed = l.listed; each = λ i h. l.each i h ∙ rw (le-leb 0 i (omega arith)) }

-- the rules of a table of visible quantities name them alone
pub visible_alone : (n set : ℕ) (visible : List ℕ) (t : List ℤ) → VisibleListed n set visible → NamesVisible n (hidden_in set) t → LiveAlone n visible t
visible_alone n set visible t v names_visible = record {
  listed = v.listed;
  rest = λ i h e. visible_unnamed (hidden_in set) n i t names_visible (go i (hidden_in set (suc i)) refl (sym (v.each i h) ∙ e));
}
  where
    go : (i : ℕ) → (b : Bool) → hidden_in set (suc i) ≡ b → not b ≡ false → b ≡ true
    go i true d e = refl
    go i false d e = clash refl e

-- ---- tables that hold the same words

pub same_breaks : (n : ℕ) (t u : List ℤ) (r : Rule) → SameTable n t u → Breaks (Satisfies n t) r → Breaks (Satisfies n u) r
same_breaks n t u r s b = record { assignment = b.assignment; satisfies = same_satisfies n t u b.assignment s b.satisfies; broken = b.broken }

pub same_alone : (n : ℕ) (live : List ℕ) (t u : List ℤ) → SameTable n t u → LiveAlone n live t → LiveAlone n live u
same_alone n live t u s a = record { listed = a.listed; rest = λ i h e. same_unnamed n i t u s (a.rest i h e) }

-- a front whose words stay is eliminated as before
pub same_front : (members : ℕ → Bool) (n : ℕ) (t u v : List ℤ) → ((k : ℕ) → k < block_start n → word_at v k ≡ word_at u k) → AtTurns members n n t u → AtTurns members n n t v
same_front members n t u v same a = record { words = λ k h. same k h ∙ a.words k h; clear = a.clear }

-- ---- the sheet copied, and its hidden quantities eliminated

module _ (n set m : ℕ) (visible : List ℕ) (sheet w u : List ℤ) (p : SheetReducible n set visible sheet w) (d : m ≡ table_size n) (e : u ≡ change m (copying sheet) w) where
  abbrev key : List ℤ
  key = key_of (hidden_in set) n sheet

  whole : u ≡ change (block_start n) (copying sheet) w
  whole = let s = size_known n m p.hides.most d in rw s at e

  copy : SameTable n sheet u
  copy = rw whole (copied n sheet w p.hides.room (omega (arith, p.room)))

  copy_lent : Lent (workspace_size n) true w u
  copy_lent =
      rw whole (lent_wider (block_start n) (workspace_size n) w (change (block_start n) (copying sheet) w) (omega arith)
      (change_length (block_start n) (copying sheet) w) (change_drop (block_start n) (copying sheet) w))

  pub copy_fits : PartFits n set Inside u
  copy_fits = same_part n set Inside sheet u copy (record { sums = p.hides; alone = λ i h f. clash (rw (le-leb 0 i (omega arith))) f })

  some_sheet : Satisfiable n key → (x : List ℤ) → AtTurns (hidden_in set) n n sheet x → Satisfiable n sheet
  unfolding key_of
  some_sheet s x a = turns_some (hidden_in set) n n sheet s.assignment (omega arith) (set_ample (hidden_in set) n sheet p.hides) a.clear s.satisfies

  module _ (x : List ℤ) (b : Bool) (q : SetEliminated (hidden_in set) n u b x) where
    reduced_lent : Lent (workspace_size n) true w x
    reduced_lent =
        lent_again (workspace_size n) true true w u x copy_lent
        (lent_wider (block_start n) (workspace_size n) u x (omega arith) q.lent.size q.lent.rest)

    -- a contradiction: no integers satisfy the sheet
    pub reduced_none : b ≡ true → SheetReduced n set sheet w true x
    reduced_none c = record {
      reply = decides_refuted n sheet true p.fits (λ f σ s. q.none c σ (same_satisfies n sheet u σ copy s)) (λ f. clash refl f);
      front = λ f. clash refl f;
      least = λ f. clash refl f;
      lent = reduced_lent;
    }

    module _ (c : b ≡ false) (y : List ℤ) (k : KeyCopied n set x y) where
      turns : AtTurns (hidden_in set) n n sheet x
      turns = same_turns (hidden_in set) n sheet u x copy (q.some c)

      y_room : workspace_size n ≤ length y
      y_room = omega (arith, k.lent.size, reduced_lent.size, p.room)

      -- the back has the key
      pub key_back : (part : List ℤ) → part ≡ drop (block_start n) y → SameTable n (key_of (hidden_in set) n sheet) part
      key_back part f = record {
        mine = key_there;
        theirs = rw (f, length-drop (block_start n) y) (omega (arith, y_room));
        words = λ i h. sym (back_word (block_start n) y part f i) ∙ k.key sheet p.hides.room turns i h;
      }
        where
          key_there : block_start n ≤ length key
          key_there = p.key_fits.sums.room

      pub back_fits : (part : List ℤ) → part ≡ drop (block_start n) y → Fits n part × LiveAlone n visible part
      back_fits part f = (
        same_fits n key part (key_back part f) p.key_fits,
        same_alone n visible key part (key_back part f) (visible_alone n set visible key p.listed (key_visible (hidden_in set) n sheet p.hides.room)),
      )

      -- and its least bounds decide the sheet
      pub reduced_some : (part part' z : List ℤ) (r : Bool) → PartBack (block_start n) y part part' z → Tightened n part r part' → SheetReduced n set sheet w r z
      reduced_some part part' z r g t = record {
        reply = decides_refuted n sheet r p.fits none some;
        front = λ f. same_front (hidden_in set) n sheet x z (λ i h. front_word (block_start n) y z g.front i h ∙ k.front i h) turns;
        least = λ f i h a j. (
          λ l. same_breaks n part key (rule_at i a) back ((bound_least n part i (word_at part' i) a (t.bounds f i h) j).0 (rw (← g.is) at l)),
          λ l. rw (← g.is) ((bound_least n part i (word_at part' i) a (t.bounds f i h) j).1 (same_breaks n key part (rule_at i a) same l)),
        );
        lent = lent_again (workspace_size n) true true w y z (lent_again (workspace_size n) true true w x y reduced_lent k.lent) (part_lent n y part part' z g t.lent);
      }
        where
          same : SameTable n key part
          same = key_back part g.was

          back : SameTable n part key
          back = same_back n key part same

          none : r ≡ true → Unsatisfiable n sheet
          none f σ s =
              t.none.0 f σ (same_satisfies n key part σ same
              ((key_exact (hidden_in set) n sheet σ (set_ample (hidden_in set) n sheet p.hides) s σ).1 (allows_own n (hidden_in set) sheet σ s)))

          some : r ≡ false → Satisfiable n sheet
          some f =
              let fit = (back_fits part g.was).0 in
              let s = refuted_false n part fit.sums.room (hide_ample every n part fit) (sym t.reply ∙ f) in
              some_sheet (record { assignment = s.assignment; satisfies = same_satisfies n part key s.assignment back s.satisfies }) x turns
