-- Checks that compute, tied to what they need: one check's law makes 'refused exactly when' of any call. Assumes nothing.
use mathlib.Core.Path.{◌≡◌, refl, sym, ap}
use mathlib.Core.Bool.{Bool, true, false}
use mathlib.Core.Logic.Iff
use mathlib.Core.Logic.{◌↔◌, inl, inr, ⊎_elim}
use Rattle.rules.specs.declared.refusal.Refusal.{Refusal}
use Rattle.rules.specs.Refusal.{Returned, refused_as}
use Rattle.rules.specs.Refusing.{Needs, passed, ◌or◌then◌, DecidedBy}
use Rattle.rules.proofs.Refusals.{same_refusal, refusal-number}
use Rattle.tables.specs.Replies.{Reply}
use Rattle.std.specs.Prelude.{Result, Ok, Err}
use Rattle.tables.specs.Replies.{reply_returned, reply_number, check}
use Rattle.tables.proofs.Tests.{clash, refused_done}

-- a reply is refused by the first need that is not met, and done where all are
abbrev pub Tied : Needs → Reply → Type 0
Tied needs r = DecidedBy needs (λ f. r ≡ Err f) (r ≡ Ok tt)

pub refusal_in : {A : Type 0} {f g : Refusal} → ◌≡◌ {A = Result A Refusal} (Err f) (Err g) → g ≡ f
refusal_in e = cc

pub tied_done : Tied passed (Ok tt)
tied_done = record {
  refused = λ f. (λ e. refused_done (sym e), λ x. absurd x);
  accepted = (λ e. Prim.tt, λ x. refl);
}

-- one check more before the others, which matter only where it passes
pub tied_more : (b : Bool) (P : Type 0) (g : Refusal) (needs : Needs) (r : Reply) → (b ≡ true) ↔ P → (P → Tied needs r)
    → Tied (P or g then needs) (check b g r)
tied_more true P g needs r d t = record {
  refused = λ f. (
    λ e. inr (d.0 refl, ((t (d.0 refl)).refused f).0 e),
    λ x. ⊎_elim (λ y. absurd (y.0 (d.0 refl))) (λ y. ((t (d.0 refl)).refused f).1 y.1) x,
  );
  accepted = (λ e. (d.0 refl, (t (d.0 refl)).accepted.0 e), λ x. (t (d.0 refl)).accepted.1 x.1);
}
tied_more false P g needs r d t = record {
  refused = λ f. (λ e. inl (λ p. clash (d.1 p) refl, refusal_in e), λ x. ⊎_elim (λ y. rw y.1) (λ y. clash (d.1 y.0) refl) x);
  accepted = (λ e. absurd (refused_done e), λ x. clash (d.1 x.0) refl);
}

-- ---- checks, and then others

-- checks before a reply: their refusal stands whatever follows, and where they are done what follows is the reply
pub record Before (checks : Reply → Reply) : Type 0 where
  pub stands : (f : Refusal) → checks (Ok tt) ≡ Err f → (next : Reply) → checks next ≡ Err f
  pub goes_on : checks (Ok tt) ≡ Ok tt → (next : Reply) → checks next ≡ next

pub before_none : Before (λ next. next)
before_none = record { stands = λ f e. absurd (refused_done (sym e)); goes_on = λ e next. refl }

pub before_more : (b : Bool) (g : Refusal) (checks : Reply → Reply) → Before checks → Before (λ next. check b g (checks next))
before_more true g checks p = p
before_more false g checks p = record { stands = λ f e next. e; goes_on = λ e. absurd (refused_done e) }

-- ---- as it is returned

pub returned_refused : (r : Reply) (f : Refusal) → (reply_returned r ≡ refused_as f) ↔ (r ≡ Err f)
returned_refused r f = (go r, λ e. rw e)
  where
    go : (r : Reply) → reply_returned r ≡ refused_as f → r ≡ Err f
    go (Ok tt) e = absurd (refusal-number f (sym (ap (λ (x : Returned). x.number) e)))
    go (Err g) e = ap Err (same_refusal g f e)

pub number_done : (r : Reply) → (reply_number r ≡ 0) ↔ (r ≡ Ok tt)
number_done r = (go r, λ e. rw e)
  where
    go : (r : Reply) → reply_number r ≡ 0 → r ≡ Ok tt
    go (Ok tt) e = refl
    go (Err f) e = absurd (refusal-number f e)

-- what decides a call decides it, however it is told
pub decided_as : {needs : Needs} {P Q : Refusal → Type 0} {A B : Type 0} → DecidedBy needs P A → ((f : Refusal) → Q f ↔ P f) → B ↔ A → DecidedBy needs Q B
decided_as d p a = record {
  refused = λ f. Iff.trans (p f) (d.refused f);
  accepted = Iff.trans a d.accepted;
}

-- a reply that is tied to its needs, by what is returned of it
pub tied_decided : (needs : Needs) (r s : Reply) → r ≡ s → Tied needs s → DecidedBy needs (λ f. reply_returned r ≡ refused_as f) (reply_number r ≡ 0)
tied_decided needs r s d t = rw d (decided_as t (returned_refused s) (number_done s))
