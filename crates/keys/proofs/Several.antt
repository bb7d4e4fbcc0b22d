-- Several quantities hidden in increasing number: demand 2 for tables, by induction over exact steps, and 'no assignment' for all quantities.
-- Assumes nothing.
use mathlib.Core.Path.{◌≡◌, refl, ◌∙◌, sym}
use mathlib.Core.Bool.{Bool, true, false, cond, ◌&&◌, ◌||◌, and-false, or-false}
use mathlib.Core.List.{List}
use mathlib.Core.Logic.{◌↔◌, ◌⊎◌, inl, inr}
use Prim.Native.Nat.{ℕ, zero, suc, ◌≤◌, ◌<◌}
use native.Mathlib.Omega.{arith}
use lib.Dec.{leb, eqb}
use lib.IntN.{ℤ, pos}
use lib.ListN.{length, drop}
use borrow.Author.Tests.{leb-true, leb-false, le-leb, lt-leb, eqb-true, eqb-false, eq-eqb, ne_eqb}
use Rattle.words.proofs.Change.{change_drop}
use Rattle.places.specs.Numbering.{block_start, block_of}
use Rattle.places.proofs.Numbering.{block_below}
use Rattle.rules.specs.Meaning.{Assignment, names}
use Rattle.tables.specs.Meaning.{HoldsRule, rule_in, Satisfies, Satisfiable, Unsatisfiable, joined, SheetAllows, NamesVisible}
use Rattle.tables.proofs.Tests.{clash, neither}
use Rattle.tables.proofs.Meanings.{in_range, satisfies_agree}
use Rattle.tables.proofs.Places.{own_named}
use Rattle.tables.specs.Tables.{cleared}
use Rattle.elimination.specs.Hiding.{every, paired, contradicts, eliminated}
use Rattle.elimination.specs.Magnitude.{Unnamed}
use Rattle.elimination.proofs.Step.{Adds}
use Rattle.elimination.proofs.Exact.{eliminate_exact, eliminate_none, eliminate_length}
use Rattle.elimination.proofs.Unnamed.{eliminated_unnamed, unnamed_eliminated}
use Rattle.keys.specs.Keys.{hide_up_to, key_of, refuted_up_to, refuted}

pub hide_up_to_length : (hidden : ℕ → Bool) (n m : ℕ) (t : List ℤ) → length (hide_up_to hidden n m t) ≡ length t
unfolding hide_up_to
hide_up_to_length hidden n zero t = refl
hide_up_to_length hidden n (suc j) t = go (hide_up_to_length hidden n j t) (hidden (suc j))
  where
    go : length (hide_up_to hidden n j t) ≡ length t → (b : Bool)
        → length (cond b (eliminated n j (hide_up_to hidden n j t)) (hide_up_to hidden n j t)) ≡ length t
    go ih true = eliminate_length n j (hide_up_to hidden n j t) ∙ ih
    go ih false = ih

-- words past the table's stay
pub rest_eliminated : (n j : ℕ) (t : List ℤ) → drop (block_start n) (eliminated n j t) ≡ drop (block_start n) t
unfolding eliminated cleared paired
rest_eliminated n j t = change_drop (block_start n) _ _ ∙ change_drop (block_start n) _ t

pub rest_hidden : (hidden : ℕ → Bool) (n m : ℕ) (t : List ℤ) → drop (block_start n) (hide_up_to hidden n m t) ≡ drop (block_start n) t
unfolding hide_up_to
rest_hidden hidden n zero t = refl
rest_hidden hidden n (suc j) t = go (rest_hidden hidden n j t) (hidden (suc j))
  where
    go : drop (block_start n) (hide_up_to hidden n j t) ≡ drop (block_start n) t → (b : Bool)
        → drop (block_start n) (cond b (eliminated n j (hide_up_to hidden n j t)) (hide_up_to hidden n j t)) ≡ drop (block_start n) t
    go ih true = rest_eliminated n j (hide_up_to hidden n j t) ∙ ih
    go ih false = ih

pub rest_key : (hidden : ℕ → Bool) (n : ℕ) (t : List ℤ) → drop (block_start n) (key_of hidden n t) ≡ drop (block_start n) t
unfolding key_of
rest_key hidden n t = rest_hidden hidden n n t

pub key_length : (hidden : ℕ → Bool) (n : ℕ) (t : List ℤ) → length (key_of hidden n t) ≡ length t
unfolding key_of
key_length hidden n t = hide_up_to_length hidden n n t

-- no quantity, one more, and all
pub hide_none : (hidden : ℕ → Bool) (n : ℕ) (t : List ℤ) → t ≡ hide_up_to hidden n 0 t
unfolding hide_up_to
hide_none hidden n t = refl

pub hide_more : (hidden : ℕ → Bool) (n j : ℕ) (t : List ℤ)
    → cond (hidden (suc j)) (eliminated n j (hide_up_to hidden n j t)) (hide_up_to hidden n j t) ≡ hide_up_to hidden n (suc j) t
unfolding hide_up_to
hide_more hidden n j t = refl

pub hide_all : (hidden : ℕ → Bool) (n : ℕ) (t : List ℤ) → hide_up_to hidden n n t ≡ key_of hidden n t
unfolding key_of
hide_all hidden n t = refl

-- ---- the hidden ones among the first m quantities

abbrev pub up_to : (ℕ → Bool) → ℕ → ℕ → Bool
up_to hidden m q = leb q m && hidden q

leb_next : (q j : ℕ) → (q ≡ suc j → ⊥) → leb q (suc j) ≡ leb q j
leb_next q j n = go (leb q j) refl
  where
    go : (b : Bool) → leb q j ≡ b → leb q (suc j) ≡ b
    go true e = le-leb q (suc j) (omega (arith, leb-true q j e))
    go false e = lt-leb q (suc j) (apart (leb-false q j e))
      where
        apart : j < q → suc j < q
        apart h = omega (arith, n)

up_to_skip : (hidden : ℕ → Bool) (j q : ℕ) → hidden (suc j) ≡ false → up_to hidden j q ≡ up_to hidden (suc j) q
up_to_skip hidden j q h = go (eqb q (suc j)) refl
  where
    go : (b : Bool) → eqb q (suc j) ≡ b → up_to hidden j q ≡ up_to hidden (suc j) q
    go true e = rw (eqb-true q (suc j) e, h, and-false (leb (suc j) j), and-false (leb (suc j) (suc j)))
    go false e = rw (leb_next q j (eqb-false q (suc j) e))

up_to_more : (hidden : ℕ → Bool) (j q : ℕ) → hidden (suc j) ≡ true → up_to hidden (suc j) q ≡ (up_to hidden j q || eqb (suc j) q)
up_to_more hidden j q h = go (eqb q (suc j)) refl
  where
    go : (b : Bool) → eqb q (suc j) ≡ b → up_to hidden (suc j) q ≡ (up_to hidden j q || eqb (suc j) q)
    go true e =
        rw (eqb-true q (suc j) e, h, le-leb (suc j) (suc j) (omega arith), lt-leb (suc j) j (omega arith), eq-eqb (suc j) (suc j) refl)
    go false e =
        rw (leb_next q j (eqb-false q (suc j) e), ne_eqb (suc j) q (λ d. eqb-false q (suc j) e (sym d)), or-false (leb q j && hidden q))

-- what a sheet allows is the same for two hidden sets that agree on the quantities 1 to n
pub allows_hidden : (n : ℕ) (h g : ℕ → Bool) (t : List ℤ) (σ : Assignment) → ((q : ℕ) → 1 ≤ q → q ≤ n → h q ≡ g q)
    → SheetAllows h (Satisfies n t) σ → SheetAllows g (Satisfies n t) σ
allows_hidden n h g t σ same a = record {
  hiddens = a.hiddens;
  complete = satisfies_agree n t (joined h σ a.hiddens) (joined g σ a.hiddens) (λ q l u. rw (same q l u)) a.complete;
}

pub cond_same : (b : Bool) (z : ℤ) → cond b z z ≡ z
cond_same true z = refl
cond_same false z = refl

-- what satisfies a sheet is allowed by it
pub allows_own : (n : ℕ) (h : ℕ → Bool) (t : List ℤ) (σ : Assignment) → Satisfies n t σ → SheetAllows h (Satisfies n t) σ
allows_own n h t σ s = record {
  hiddens = σ;
  complete = satisfies_agree n t σ (joined h σ σ) (λ q l u. sym (cond_same (h q) (σ q))) s;
}

-- hiding one more after others is hiding it with them
two_joined : (a b : Bool) (x y z : ℤ) → cond a x (cond b y z) ≡ cond (a || b) (cond a x y) z
two_joined true b x y z = refl
two_joined false b x y z = refl

one_joined : (a b : Bool) (x z : ℤ) → cond (a || b) x z ≡ cond a x (cond b x z)
one_joined true b x z = refl
one_joined false b x z = refl

-- a table whose bounds add, two by two
abbrev pub Ample : ℕ → List ℤ → Type 0
Ample n t = Adds n 4611686018427387903 t

-- the bounds fit at every step
abbrev pub AmpleUpTo : (ℕ → Bool) → ℕ → List ℤ → Type 0
AmpleUpTo hidden n t = (j : ℕ) → j < n → Ample n (hide_up_to hidden n j t)

-- hidden quantities of the first m hidden, and one more
more_exact : (hidden : ℕ → Bool) (n j : ℕ) (t u : List ℤ) (σ₀ : Assignment) → j < n → Ample n u → Satisfies n t σ₀ → hidden (suc j) ≡ true
    → ((σ : Assignment) → Satisfies n u σ ↔ SheetAllows (up_to hidden j) (Satisfies n t) σ)
    → (σ : Assignment) → Satisfies n (eliminated n j u) σ ↔ SheetAllows (up_to hidden (suc j)) (Satisfies n t) σ
more_exact hidden n j t u σ₀ h a s₀ e ih σ = (to, of)
  where
    go : (b : Bool) → contradicts every n j u ≡ b → b ≡ false
    go true c = absurd (eliminate_none n j u σ₀ a.room h c ((ih σ₀).1 (allows_own n (up_to hidden j) t σ₀ s₀)))
    go false c = refl

    exact : Satisfies n (eliminated n j u) σ ↔ SheetAllows (eqb (suc j)) (Satisfies n u) σ
    exact = eliminate_exact n j 4611686018427387903 u σ a h (go (contradicts every n j u) refl)

    to : Satisfies n (eliminated n j u) σ → SheetAllows (up_to hidden (suc j)) (Satisfies n t) σ
    to s =
        let one = exact.0 s in
        let v = joined (eqb (suc j)) σ one.hiddens in
        let rest = (ih v).0 one.complete in
        record {
          hiddens = joined (up_to hidden j) one.hiddens rest.hiddens;
          complete = satisfies_agree n t (joined (up_to hidden j) v rest.hiddens)
              (joined (up_to hidden (suc j)) σ (joined (up_to hidden j) one.hiddens rest.hiddens))
              (λ q l g. rw (up_to_more hidden j q e) (two_joined (up_to hidden j q) (eqb (suc j) q) (rest.hiddens q) (one.hiddens q) (σ q)))
              rest.complete;
        }

    of : SheetAllows (up_to hidden (suc j)) (Satisfies n t) σ → Satisfies n (eliminated n j u) σ
    of c =
        let v = joined (eqb (suc j)) σ c.hiddens in
        let rest : SheetAllows (up_to hidden j) (Satisfies n t) v = record {
          hiddens = c.hiddens;
          complete = satisfies_agree n t (joined (up_to hidden (suc j)) σ c.hiddens) (joined (up_to hidden j) v c.hiddens)
              (λ q l g. rw (up_to_more hidden j q e) (one_joined (up_to hidden j q) (eqb (suc j) q) (c.hiddens q) (σ q)))
              c.complete;
        } in
        exact.1 (record { hiddens = c.hiddens; complete = (ih v).1 rest })

-- demand 2, for the hidden ones of the first m quantities
pub several_exact : (hidden : ℕ → Bool) (n m : ℕ) (t : List ℤ) (σ₀ : Assignment) → m ≤ n → AmpleUpTo hidden n t → Satisfies n t σ₀
    → (σ : Assignment) → Satisfies n (hide_up_to hidden n m t) σ ↔ SheetAllows (up_to hidden m) (Satisfies n t) σ
unfolding hide_up_to
several_exact hidden n zero t σ₀ h a s₀ σ = (
  allows_own n (up_to hidden 0) t σ,
  λ c. satisfies_agree n t (joined (up_to hidden 0) σ c.hiddens) σ (λ q l g. rw (lt-leb q 0 (omega arith))) c.complete,
)
several_exact hidden n (suc j) t σ₀ h a s₀ σ =
    go (several_exact hidden n j t σ₀ (omega arith) a s₀) (hidden (suc j)) refl σ
  where
    u : List ℤ
    u = hide_up_to hidden n j t

    go : ((σ : Assignment) → Satisfies n u σ ↔ SheetAllows (up_to hidden j) (Satisfies n t) σ) → (b : Bool) → hidden (suc j) ≡ b
        → (σ : Assignment) → Satisfies n (cond b (eliminated n j u) u) σ ↔ SheetAllows (up_to hidden (suc j)) (Satisfies n t) σ
    go ih true e σ = more_exact hidden n j t u σ₀ (omega arith) (a j (omega arith)) s₀ e ih σ
    go ih false e σ = (
      λ s. allows_hidden n (up_to hidden j) (up_to hidden (suc j)) t σ (λ q l g. up_to_skip hidden j q e) ((ih σ).0 s),
      λ c. (ih σ).1 (allows_hidden n (up_to hidden (suc j)) (up_to hidden j) t σ (λ q l g. sym (up_to_skip hidden j q e)) c),
    )

-- and no step on the way meets a contradiction
pub never_contradicts : (hidden : ℕ → Bool) (n j : ℕ) (t : List ℤ) (σ₀ : Assignment) → j < n → AmpleUpTo hidden n t → Satisfies n t σ₀
    → contradicts every n j (hide_up_to hidden n j t) ≡ false
never_contradicts hidden n j t σ₀ h a s₀ = go (contradicts every n j (hide_up_to hidden n j t)) refl
  where
    go : (b : Bool) → contradicts every n j (hide_up_to hidden n j t) ≡ b → b ≡ false
    go true c =
        absurd (eliminate_none n j (hide_up_to hidden n j t) σ₀ (a j h).room h c
        ((several_exact hidden n j t σ₀ (omega arith) a s₀ σ₀).1 (allows_own n (up_to hidden j) t σ₀ s₀)))
    go false c = refl

-- demand 2: the key allows visible integers exactly when hidden ones complete them, where some integers satisfy the sheet
pub key_exact : (hidden : ℕ → Bool) (n : ℕ) (t : List ℤ) (σ₀ : Assignment) → AmpleUpTo hidden n t → Satisfies n t σ₀
    → (σ : Assignment) → Satisfies n (key_of hidden n t) σ ↔ SheetAllows hidden (Satisfies n t) σ
unfolding key_of
key_exact hidden n t σ₀ a s₀ σ =
    let p = several_exact hidden n n t σ₀ (omega arith) a s₀ σ in (
      λ s. allows_hidden n (up_to hidden n) hidden t σ (λ q l g. rw (le-leb q n g)) (p.0 s),
      λ c. p.1 (allows_hidden n hidden (up_to hidden n) t σ (λ q l g. rw (le-leb q n g)) c),
    )

-- ---- the key names visible quantities alone

up_to_own : (hidden : ℕ → Bool) (j q : ℕ) → up_to hidden (suc j) q ≡ true → (q ≡ suc j → ⊥) → up_to hidden j q ≡ true
up_to_own hidden j q e n = rw (leb_next q j n) at e

pub hide_up_to_unnamed : (hidden : ℕ → Bool) (n m i : ℕ) (t : List ℤ) → m ≤ n → block_start n ≤ length t → up_to hidden m (suc i) ≡ true
    → Unnamed n i (hide_up_to hidden n m t)
unfolding hide_up_to
hide_up_to_unnamed hidden n zero i t h l e = clash e (rw (lt-leb (suc i) 0 (omega arith)))
hide_up_to_unnamed hidden n (suc j) i t h l e =
    go (hide_up_to_unnamed hidden n j i t (omega arith) l) (hidden (suc j)) refl (eqb i j) refl
  where
    u : List ℤ
    u = hide_up_to hidden n j t

    room : block_start n ≤ length u
    room = omega (arith, hide_up_to_length hidden n j t)

    go : (up_to hidden j (suc i) ≡ true → Unnamed n i u) → (b : Bool) → hidden (suc j) ≡ b → (c : Bool) → eqb i j ≡ c
        → Unnamed n i (cond b (eliminated n j u) u)
    go ih true f true g = rw (eqb-true i j g) (eliminated_unnamed n j u room)
    go ih true f false g =
        unnamed_eliminated n j i u room (omega arith) (ih (up_to_own hidden j (suc i) e (λ d. eqb-false i j g (omega arith))))
    go ih false f c g = ih (up_to_skip hidden j (suc i) f ∙ e)

pub key_visible : (hidden : ℕ → Bool) (n : ℕ) (t : List ℤ) → block_start n ≤ length t → NamesVisible n hidden (key_of hidden n t)
unfolding key_of
key_visible hidden n t l = record { each = λ k p q e. go k p q e (hidden q) refl }
  where
    hides : (k : ℕ) → HoldsRule n (hide_up_to hidden n n t) k → (q : ℕ) → 1 ≤ q → q ≤ n → hidden q ≡ true → names q (rule_in (hide_up_to hidden n n t) k) ≡ false
    hides k p zero a b f = let z : ⊥ = omega arith in absurd z
    hides k p (suc i) a b f = (hide_up_to_unnamed hidden n n i t (omega arith) l (rw (le-leb (suc i) n b) f)).each k p

    go : (k : ℕ) → (p : HoldsRule n (hide_up_to hidden n n t) k) → (q : ℕ) → names q (rule_in (hide_up_to hidden n n t) k) ≡ true
        → (b : Bool) → hidden q ≡ b → b ≡ false
    go k p q e true f =
        let g = in_range n (hide_up_to hidden n n t) k p q e in clash e (hides k p q g.0 g.1 f)
    go k p q e false f = refl

-- ---- 'no assignment'

-- with every quantity hidden no rule is left
nothing_left : (n : ℕ) (t : List ℤ) (σ : Assignment) → block_start n ≤ length t → Satisfies n (hide_up_to every n n t) σ
nothing_left n t σ l = record { each = λ k p. clash (named k p) (unnamed k p) }
  where
    named : (k : ℕ) → HoldsRule n (hide_up_to every n n t) k → names (suc (block_of k)) (rule_in (hide_up_to every n n t) k) ≡ true
    named k p = own_named (block_of k) k _ refl

    unnamed : (k : ℕ) → HoldsRule n (hide_up_to every n n t) k → names (suc (block_of k)) (rule_in (hide_up_to every n n t) k) ≡ false
    unnamed k p =
        (hide_up_to_unnamed every n n (block_of k) t (omega arith) l (rw (le-leb (suc (block_of k)) n (omega (arith, block_below n k p.inside))))
        ).each k p

pub or_either : (a b : Bool) → (a || b) ≡ true → (a ≡ true) ⊎ (b ≡ true)
or_either true b e = inl refl
or_either false b e = inr e

-- a contradiction on the way: no integers satisfy the table
refuted_none : (n m : ℕ) (t : List ℤ) (σ : Assignment) → m ≤ n → AmpleUpTo every n t → refuted_up_to n m t ≡ true → Satisfies n t σ → ⊥
unfolding refuted_up_to
refuted_none n zero t σ h a e s = clash e refl
refuted_none n (suc j) t σ h a e s =
    go (or_either (refuted_up_to n j t) (contradicts every n j (hide_up_to every n j t)) e) (λ d. refuted_none n j t σ (omega arith) a d s)
  where
    u : List ℤ
    u = hide_up_to every n j t

    go : (refuted_up_to n j t ≡ true) ⊎ (contradicts every n j u ≡ true) → (refuted_up_to n j t ≡ true → ⊥) → ⊥
    go (inl d) ih = ih d
    go (inr d) ih =
        eliminate_none n j u σ (a j (omega arith)).room (omega arith) d
        ((several_exact every n j t σ (omega arith) a s σ).1 (allows_own n (up_to every j) t σ s))

-- none on the way: what satisfies the table with quantities hidden is completed step by step
refuted_some : (n m : ℕ) (t : List ℤ) (σ : Assignment) → m ≤ n → AmpleUpTo every n t → refuted_up_to n m t ≡ false
    → Satisfies n (hide_up_to every n m t) σ → Satisfiable n t
unfolding refuted_up_to hide_up_to
refuted_some n zero t σ h a e s = record { assignment = σ; satisfies = s }
refuted_some n (suc j) t σ h a e s =
    let p = (neither (refuted_up_to n j t) (contradicts every n j (hide_up_to every n j t))).0 e in
    let c = (eliminate_exact n j 4611686018427387903 (hide_up_to every n j t) σ (a j (omega arith)) (omega arith) p.1).0 s in
    refuted_some n j t (joined (eqb (suc j)) σ c.hiddens) (omega arith) a p.0 c.complete

-- 5 exactly when no integers satisfy the table
pub refuted_true : (n : ℕ) (t : List ℤ) → AmpleUpTo every n t → refuted n t ≡ true → Unsatisfiable n t
unfolding refuted
refuted_true n t a e σ s = refuted_none n n t σ (omega arith) a e s

pub refuted_false : (n : ℕ) (t : List ℤ) → block_start n ≤ length t → AmpleUpTo every n t → refuted n t ≡ false → Satisfiable n t
unfolding refuted
refuted_false n t l a e = refuted_some n n t (λ q. pos 0) (omega arith) a e (nothing_left n t (λ q. pos 0) l)
