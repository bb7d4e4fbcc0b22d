-- What the answers of a check and of a reading into a table tell of what a text writes, whichever lines are accepted. Assumes nothing.
use mathlib.Core.Path.{◌≡◌, refl, sym, ◌∙◌, ap, ap₂}
use mathlib.Core.Bool.{Bool, true, false}
use mathlib.Core.List.{List}
use mathlib.Core.Logic.{◌↔◌, ◌⊎◌, inl, inr}
use Rattle.std.specs.Prelude.{Result, Ok, Err}
use Prim.Native.Nat.{ℕ, ◌<◌, ◌≤◌}
use native.Mathlib.Omega.{arith}
use lib.Dec.{ltb}
use lib.ListN.{length}
use borrow.Author.Tests.{lt-ltb, le-ltb, ltb-true, ltb-false}
use Rattle.places.specs.Numbering.{block_start}
use Rattle.rules.specs.declared.refusal.Refusal.{Refusal}
use Rattle.rules.specs.declared.refusal.Refusal.TheVariants.{TooShort}
use Rattle.rules.specs.declared.sheet.Sheet.{Sheet}
use Rattle.rules.specs.Hidden.{set_of}
use Rattle.rules.specs.Refusing.{RefusedBy}
use Rattle.lines.specs.Lines.{Judged, accepted, refused}
use Rattle.reading.specs.declared.check.Passed.{Passed}
use Rattle.reading.specs.Texts.{Contents, header_text}
use Rattle.reading.specs.Meaning.{room_for}
use Rattle.reading.specs.Reading.{sheet_of, checked_of, reply_to}

-- what is answered is no refusal, and equal answers tell the same
pub not-failed {ℓ} : {X : Type ℓ} {A : Type 0} {a : A} {f : Refusal} → ◌≡◌ {A = Result A Refusal} (Ok a) (Err f) → X
not-failed e = let z : ⊥ = cc in absurd z

pub same_told : {A : Type 0} {a b : A} → ◌≡◌ {A = Result A Refusal} (Ok a) (Ok b) → a ≡ b
same_told e = cc

pub same_failed : {A : Type 0} {f g : Refusal} → ◌≡◌ {A = Result A Refusal} (Err f) (Err g) → f ≡ g
same_failed e = cc

-- what passed is what it tells
pub same_passed : (p q : Passed) → p.quantities ≡ q.quantities → p.hidden ≡ q.hidden → p.rules ≡ q.rules → p.body ≡ q.body → p ≡ q
same_passed p q a b c d =
    let make : ℕ → ℕ → ℕ → ℕ → Passed = λ n set m body. record { quantities = n; hidden = set; rules = m; body = body } in
    ap₂ (λ n set. make n set p.rules p.body) a b ∙ ap₂ (make q.quantities q.hidden) c d

-- ---- a check

-- it is refused as the text is
pub failed_judged : (j : Judged Contents) (f : Refusal) → (checked_of j ≡ Err f) ↔ (j ≡ refused f)
unfolding checked_of
failed_judged j f = (go j, λ e. rw e)
  where
    go : (j : Judged Contents) → checked_of j ≡ Err f → j ≡ refused f
    go (accepted c u) e = not-failed e
    go (refused g) e = ap refused (same_failed e)

-- where it passes, the text writes contents, of which the answer tells
pub record PassedWith (j : Judged Contents) (p : Passed) : Type 0 where
  pub contents : Contents
  pub rest : List ℕ
  pub is : j ≡ accepted contents rest
  pub counts : p.quantities ≡ contents.count
  pub hides : p.hidden ≡ set_of contents.hiddens
  pub rules : p.rules ≡ length contents.written
  pub begins : p.body ≡ length (header_text contents)

pub passed_judged : (j : Judged Contents) (p : Passed) → (checked_of j ≡ Ok p) ↔ PassedWith j p
unfolding checked_of
passed_judged j p =
    (go j, λ w. ap checked_of w.is ∙ ap Ok (sym (same_passed p _ w.counts w.hides w.rules w.begins)))
  where
    go : (j : Judged Contents) → checked_of j ≡ Ok p → PassedWith j p
    go (accepted c u) e = let z = same_told (sym e) in record {
      contents = c;
      rest = u;
      is = refl;
      counts = ap (λ (x : Passed). x.quantities) z;
      hides = ap (λ (x : Passed). x.hidden) z;
      rules = ap (λ (x : Passed). x.rules) z;
      begins = ap (λ (x : Passed). x.body) z;
    }
    go (refused g) e = not-failed (sym e)

-- ---- a reading into a table of so many words

-- where it is refused for its length, the text writes contents that need more
pub record ShortWith (j : Judged Contents) (words : ℕ) (f : Refusal) : Type 0 where
  pub contents : Contents
  pub rest : List ℕ
  pub is : j ≡ accepted contents rest
  pub short : RefusedBy (room_for contents words) f

-- the replies to contents
reply_short : (c : Contents) (u : List ℕ) (words : ℕ) → words < block_start c.count → reply_to words (accepted c u) ≡ Err (TooShort (block_start c.count))
unfolding reply_to
reply_short c u words h = rw (lt-ltb words (block_start c.count) h)

reply_done : (c : Contents) (u : List ℕ) (words : ℕ) → block_start c.count ≤ words → reply_to words (accepted c u) ≡ Ok (sheet_of c.count (set_of c.hiddens))
unfolding reply_to
reply_done c u words h = rw (le-ltb words (block_start c.count) h)

-- a table is long enough or not
enough-or-not {ℓ} : {X : Type ℓ} (c : Contents) (words : ℕ) → (words < block_start c.count → X) → (block_start c.count ≤ words → X) → X
enough-or-not {X} c words short enough = go (ltb words (block_start c.count)) refl
  where
    go : (b : Bool) → ltb words (block_start c.count) ≡ b → X
    go true e = short (ltb-true words (block_start c.count) e)
    go false e = enough (ltb-false words (block_start c.count) e)

pub refused_judged : (words : ℕ) (j : Judged Contents) (f : Refusal) → (reply_to words j ≡ Err f) ↔ ((j ≡ refused f) ⊎ ShortWith j words f)
unfolding reply_to
refused_judged words j f = (why j, back)
  where
    why : (j : Judged Contents) → reply_to words j ≡ Err f → (j ≡ refused f) ⊎ ShortWith j words f
    why (refused g) e = inl (ap refused (same_failed e))
    why (accepted c u) e = enough-or-not c words
        (λ h. inr (record {
          contents = c;
          rest = u;
          is = refl;
          short = inl (λ l. omega arith, same_failed (sym e ∙ reply_short c u words h));
        }))
        (λ h. not-failed (sym (reply_done c u words h) ∙ e))

    room : (c : Contents) (u : List ℕ) → RefusedBy (room_for c words) f → reply_to words (accepted c u) ≡ Err f
    room c u (inl h) = enough-or-not c words (λ l. reply_short c u words l ∙ ap Err (sym h.1)) (λ l. absurd (h.0 l))
    room c u (inr h) = absurd h.1

    back : (j ≡ refused f) ⊎ ShortWith j words f → reply_to words j ≡ Err f
    back (inl e) = ap (reply_to words) e
    back (inr s) = ap (reply_to words) s.is ∙ room s.contents s.rest s.short

-- where it is accepted, the text writes contents for which the table is long enough
pub record AcceptedWith (j : Judged Contents) (words n set : ℕ) : Type 0 where
  pub contents : Contents
  pub rest : List ℕ
  pub is : j ≡ accepted contents rest
  pub counts : n ≡ contents.count
  pub hides : set ≡ set_of contents.hiddens
  pub enough : block_start contents.count ≤ words

pub accepted_judged : (words : ℕ) (j : Judged Contents) (n set : ℕ) → (reply_to words j ≡ Ok (sheet_of n set)) ↔ AcceptedWith j words n set
unfolding reply_to
accepted_judged words j n set = (why j, λ p. ap (reply_to words) p.is ∙ reply_done p.contents p.rest words p.enough ∙ rw (p.counts, p.hides))
  where
    why : (j : Judged Contents) → reply_to words j ≡ Ok (sheet_of n set) → AcceptedWith j words n set
    why (refused g) e = not-failed (sym e)
    why (accepted c u) e = enough-or-not c words (λ h. not-failed (sym e ∙ reply_short c u words h))
        (λ h. let z = same_told (sym e ∙ reply_done c u words h) in record {
          contents = c;
          rest = u;
          is = refl;
          counts = ap (λ (x : Sheet). x.quantities) z;
          hides = ap (λ (x : Sheet). x.hidden) z;
          enough = h;
        })
