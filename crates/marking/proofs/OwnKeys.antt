-- A sheet's own key, plain or tight with bounds in a script's limit, is accepted as its script and found equal: its bounds are in that limit, it names visible quantities alone, and by demand 2
-- it allows what the sheet allows. Assumes nothing.
use mathlib.Core.Path.{◌≡◌, refl, ◌∙◌, ap}
use mathlib.Core.Bool.{true, false}
use mathlib.Core.List.{List}
use Prim.Native.Nat.{ℕ, ◌≤◌}
use native.Mathlib.Omega.{arith}
use lib.IntN.{ℤ}
use lib.ListN.{length, take}
use Rattle.places.specs.Numbering.{block_start}
use Rattle.rules.specs.declared.paper.Paper.TheVariants.{Script}
use Rattle.rules.specs.Hidden.{hidden_in}
use Rattle.rules.specs.Limits.{bound_limit}
use Rattle.rules.specs.Refusal.{refused_as}
use Rattle.rules.specs.Refusing.{AllMet, DecidedBy}
use Rattle.tables.specs.Meaning.{Satisfies, KeyLike}
use Rattle.keys.specs.Keys.{key_of}
use Rattle.keys.specs.Meaning.{SheetAccepted}
use Rattle.keys.specs.Inner.{Fits}
use Rattle.keys.specs.Promises.{KeyMade}
use Rattle.keys.proofs.Fitting.{sheet_fits}
use Rattle.keys.proofs.Several.{key_length}
use Rattle.keys.proofs.Copying.{SameTable, same_back, front_same, same_front, holds_same, same_satisfies, same_within, same_key}
use Rattle.keys.proofs.Promised.{key_made}
use Rattle.tightening.proofs.Tight.{tight_visible, tight_meaning, tight_solutions}
use Rattle.tables.proofs.Tests.{clash}
use Rattle.marking.specs.declared.verdict.Verdict.{Verdict}
use Rattle.marking.specs.declared.verdict.Verdict.TheVariants.{Equal, Loose, Tight}
use Rattle.marking.specs.Verdicts.{Marking, verdict_number, verdict_returned, marking_returned, is_marked}
use Rattle.marking.specs.Meaning.{AllowSame, VerdictMeans, workspace_size, mark_needs, KeyOfSheet, plain, tight, OwnKey}
use Rattle.std.specs.Prelude.{Ok, Err}

-- the number tells equal
pub is_equal : (v : Verdict) → verdict_number v ≡ 100 → v ≡ Equal
is_equal Equal e = refl
is_equal (Loose r) e = absurd (omega arith)
is_equal (Tight r) e = absurd (omega arith)

pub reply_equal : (r : Marking) → is_marked r ≡ true → (marking_returned r).number ≡ 100 → marking_returned r ≡ verdict_returned Equal
reply_equal (Ok v) m e = ap verdict_returned (is_equal v e)
reply_equal (Err f) m e = clash {b = false} m refl

-- ---- a key of a sheet that some integers satisfy

module _ (n set : ℕ) (sheet key : List ℤ) (a : SheetAccepted n set sheet) where
  fits : Fits n sheet
  fits = sheet_fits n set sheet a.sized.most a.sized.room a.within.1

  made : KeyMade n set sheet (key_of (hidden_in set) n sheet)
  made = key_made n set sheet fits a.within.1 a.some

  same_plain : take (block_start n) key ≡ take (block_start n) (key_of (hidden_in set) n sheet) → SameTable n (key_of (hidden_in set) n sheet) key
  same_plain = front_same n (key_of (hidden_in set) n sheet) key (omega (arith, key_length (hidden_in set) n sheet, a.sized.room))

  -- it has the words of a table,
  pub answer_room : KeyOfSheet n set sheet key → block_start n ≤ length key
  answer_room (plain e) = (same_plain e).theirs
  answer_room (tight x b) = x.room

  -- its bounds are in a script's limit, and it names visible quantities alone,
  pub answer_like : KeyOfSheet n set sheet key → KeyLike n set key
  answer_like (plain e) = record {
    visible = record { each = λ k p q d. made.like.visible.each k (holds_same n (key_of (hidden_in set) n sheet) key k (same_plain e) p) q (rw ((same_plain e).words k p.inside) at d) };
    within = same_within n (bound_limit Script n set) (key_of (hidden_in set) n sheet) key (same_plain e) made.like.within;
  }
  answer_like (tight x b) = record { visible = tight_visible (hidden_in set) n (Satisfies n sheet) key x; within = b }

  -- and it allows what the sheet allows
  pub answer_allows : KeyOfSheet n set sheet key → AllowSame (hidden_in set) (Satisfies n sheet) (Satisfies n key)
  answer_allows (plain e) σ = (
    λ b. (made.meaning σ).0 (same_satisfies n key (key_of (hidden_in set) n sheet) σ (same_back n (key_of (hidden_in set) n sheet) key (same_plain e)) b),
    λ b. same_satisfies n (key_of (hidden_in set) n sheet) key σ (same_plain e) ((made.meaning σ).1 b),
  )
  answer_allows (tight x b) σ = tight_meaning (hidden_in set) n sheet key x fits a.some σ

-- a key of a copy is one of the sheet
pub key_of_copy : (n set : ℕ) (sheet copy key : List ℤ) → block_start n ≤ length sheet → take (block_start n) copy ≡ take (block_start n) sheet → KeyOfSheet n set copy key
    → KeyOfSheet n set sheet key
key_of_copy n set sheet copy key room e (plain f) = plain (f ∙ same_front n _ _ (same_key (hidden_in set) n sheet copy (front_same n sheet copy room e)))
key_of_copy n set sheet copy key room e (tight x b) =
    let same = front_same n sheet copy room e in
    tight (tight_solutions (hidden_in set) n (Satisfies n copy) (Satisfies n sheet) key
    (λ σ. (same_satisfies n copy sheet σ (same_back n sheet copy same), same_satisfies n sheet copy σ same)) x) b

-- ---- handed in as the script

module _ (n set : ℕ) (sheet script : List ℤ) (o : OwnKey n set sheet script) where
  own : KeyOfSheet n set sheet script
  own = key_of_copy n set sheet o.copy script o.accepted.sized.room o.copied o.key

  like : KeyLike n set script
  like = answer_like n set sheet script o.accepted own

  pub own_met : (w v : ℕ) → workspace_size n ≤ w → n ≤ v → AllMet (mark_needs n set sheet script w v)
  own_met w v l h =
      let s = o.accepted.sized in
      ((s, record { some = s.some; most = s.most; room = answer_room n set sheet script o.accepted own }), (l, (h, ((o.accepted.within, like.within), (like.visible, tt)))))

  pub own_equal : (w v : List ℤ) (r : Marking) (v' : List ℤ)
      → DecidedBy (mark_needs n set sheet script (length w) (length v)) (λ f. marking_returned r ≡ refused_as f) (is_marked r ≡ true)
      → (is_marked r ≡ true → VerdictMeans n set (Satisfies n sheet) (Satisfies n script) sheet script (marking_returned r) v')
      → workspace_size n ≤ length w → n ≤ length v → marking_returned r ≡ verdict_returned Equal
  own_equal w v r v' d m l h =
      let marked = d.accepted.1 (own_met (length w) (length v) l h) in
      reply_equal r marked ((m marked).demand.equal.1 (answer_allows n set sheet script o.accepted own))
