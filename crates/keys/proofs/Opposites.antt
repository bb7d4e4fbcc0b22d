-- The opposite of a rule put into a table: it is satisfied exactly by what satisfies the table and breaks the rule. With all quantities outside a set eliminated in it, values are read back
-- from it that do so. Assumes nothing.
use mathlib.Core.Path.{◌≡◌, refl, ◌∙◌, ap}
use mathlib.Core.Bool.{Bool, true, false}
use mathlib.Core.List.{List}
use mathlib.Core.Logic.{◌↔◌}
use Prim.Native.Nat.{ℕ, ◌≤◌, ◌<◌}
use native.Mathlib.Omega.{arith}
use lib.IntN.{ℤ}
use lib.ListN.{length, drop}
use lib.Seq.{drop-set-lt}
use borrow.Author.Tests.{lt-ltb, ne_eqb}
use Rattle.std.specs.Prelude.{Ok}
use Rattle.integers.specs.Bound.{opposite_bound}
use Rattle.words.specs.Change.{lowered}
use Rattle.places.specs.Numbering.{block_start}
use Rattle.places.proofs.Numbering.{block_below}
use Rattle.rules.specs.declared.rule.Rule.{Rule}
use Rattle.rules.specs.declared.rule.Rule.TheVariants.{One, Two, Nothing}
use Rattle.rules.specs.Literal.{negated}
use Rattle.rules.specs.Meaning.{Assignment, Meets, bound_of}
use Rattle.rules.specs.Steps.{opposite_of, halved_of}
use Rattle.rules.proofs.Meanings.{opposite-bound, opposite_meaning}
use Rattle.tables.specs.Replies.{Reply}
use Rattle.tables.specs.Places.{rule_at, HasPlace}
use Rattle.tables.specs.Tables.{has_rule, serves, rule_reply, put_reply, put_rule}
use Rattle.tables.specs.Meaning.{Satisfies, assignment_of}
use Rattle.tables.specs.Promises.{Put}
use Rattle.tables.proofs.Lists.{put_length}
use Rattle.tables.proofs.Places.{place_of, rule_at_bound, rule_at_has_place, has_place_below}
use Rattle.tables.proofs.Putting.{has_place_put}
use Rattle.tables.proofs.Sizes.{long_serves}
use Rattle.tables.proofs.Tests.{clash}
use Rattle.keys.specs.declared.live.Part.TheVariants.{Outside}
use Rattle.keys.specs.Breaking.{RuleBreakable, RuleBroken}
use Rattle.keys.specs.Inner.{member_of, RestFits, SetEliminated, Reduced, Fillable, Filled}
use Rattle.keys.proofs.Puts.{put_lowers, opposite_has_place}

-- ---- the opposite of a rule, put in

-- the bound of the opposite of a place's rule is the opposite bound
pub opposed_bound : (k : ℕ) (c : ℤ) → bound_of (opposite_of (rule_at k c)) ≡ opposite_bound c
opposed_bound k c = opposite-bound (rule_at k c) ∙ ap opposite_bound (rule_at_bound k c)

-- with the opposite of a place's rule put in, a table is satisfied exactly by what satisfies it and breaks the rule
pub opposed_satisfies : (n : ℕ) (t : List ℤ) (k : ℕ) (c : ℤ) → block_start n ≤ length t → k < block_start n → has_rule (opposite_bound c) ≡ true
    → (σ : Assignment) → Satisfies n (put_rule t (opposite_of (rule_at k c))) σ ↔ (Satisfies n t σ × (Meets σ (rule_at k c) → ⊥))
opposed_satisfies n t k c l h e σ =
    let u = opposite_has_place n (rule_at k c) (rule_at_has_place n k c h) in
    let p = has_place_put n t (opposite_of (rule_at k c)) σ l u (rw (opposed_bound k c) e) in
    let o = opposite_meaning σ (rule_at k c) in
    rw (put_lowers n t (opposite_of (rule_at k c)) u) (λ s. ((p.0 s).0, o.0 (p.0 s).1), λ s. p.1 (s.0, o.1 s.1))

-- a rule that has a place, with a bound, is accepted
placed_accepted : (n : ℕ) (r : Rule) → HasPlace n r → has_rule (bound_of r) ≡ true → rule_reply n (halved_of r) ≡ Ok tt
unfolding rule_reply halved_of
placed_accepted n (One x c) u e = rw (lt-ltb x _ u, e)
placed_accepted n (Two x y c) u e =
    rw (ne_eqb x y (λ d. u.2 (omega arith)), lt-ltb x _ u.0, lt-ltb y _ u.1, e, ne_eqb y (negated x) (λ d. u.2 (omega arith)))
placed_accepted n (Nothing c) u e = absurd u

-- and changes no word past the table's
put_rest : (n : ℕ) (t : List ℤ) (r : Rule) → HasPlace n r → drop (block_start n) (put_rule t r) ≡ drop (block_start n) t
unfolding lowered
put_rest n t r h = rw (put_lowers n t r h) (drop-set-lt (block_start n) t (place_of r) _ (has_place_below n r h))

-- ---- an assignment that breaks the rule

module _ (n set : ℕ) (t : List ℤ) (r : Rule) (v : List ℤ) (p : RuleBreakable n set t r v) where
  -- the table with the rule's opposite put in
  abbrev opposed : List ℤ
  opposed = put_rule t (opposite_of r)

  -- the opposite has a place
  placed : HasPlace n (opposite_of r)
  placed = opposite_has_place n r (rw p.is (rule_at_has_place n p.place p.bound p.inside))

  -- and a bound
  bounded : has_rule (bound_of (opposite_of r)) ≡ true
  bounded = rw (p.is, opposed_bound p.place p.bound) p.small

  -- the table serves n quantities
  serving : serves n (length t) ≡ true
  serving = long_serves n (length t) (omega (arith, block_below n p.place p.inside)) p.fits.sums.most p.room

  -- an assignment satisfies the table with the opposite put in exactly when it satisfies the table and breaks the rule
  satisfied : (σ : Assignment) → Satisfies n opposed σ ↔ (Satisfies n t σ × (Meets σ r → ⊥))
  satisfied σ = rw p.is (opposed_satisfies n t p.place p.bound p.room p.inside p.small σ)

  -- ---- as the program goes

  -- put in, it is accepted
  pub put_opposed : (s : Rule) (a : Reply) (x : List ℤ) → s ≡ opposite_of r → Put n s t a x → x ≡ opposed
  unfolding put_reply
  put_opposed s a x f q = rw done at q.table ∙ rw f
    where
      done : a ≡ Ok tt
      done = q.reply ∙ rw (f, serving) (placed_accepted n (opposite_of r) placed bounded)

  -- then sums fit
  pub opposed_fits : (x : List ℤ) → x ≡ opposed → RestFits n set x
  opposed_fits x e = rw e p.fits

  -- and some assignment satisfies it, so no contradiction is met
  clear : (x x' : List ℤ) (b : Bool) → x ≡ opposed → SetEliminated (member_of set Outside) n x b x' → b ≡ false
  clear x x' b e q = go b refl
    where
      go : (c : Bool) → b ≡ c → c ≡ false
      go true d =
          let σ = p.breaks.assignment in
          absurd (q.none d σ (rw e ((satisfied σ).1 (p.breaks.satisfies, p.breaks.broken))))
      go false d = refl

  -- all quantities outside the set are eliminated
  reduced : (x x' : List ℤ) (b : Bool) → x ≡ opposed → SetEliminated (member_of set Outside) n x b x' → RestFits n set opposed → Reduced n set opposed x'
  reduced x x' b e q f = record {
    fits = f;
    at = rw e at (q.some (clear x x' b e q));
    room = rw (q.lent.size, e, put_length t (opposite_of r)) p.room;
  }

  -- so that values can be read back
  pub opposed_fillable : (x x' : List ℤ) (b : Bool) → x ≡ opposed → SetEliminated (member_of set Outside) n x b x' → Fillable n set x' v
  opposed_fillable x x' b e q = record { from = opposed; reduced = reduced x x' b e q p.fits; values_room = p.values_room }

  -- and these satisfy the table and break the rule
  pub opposed_broken : (x x' v' : List ℤ) (b : Bool) → x ≡ opposed → SetEliminated (member_of set Outside) n x b x' → Filled n set x' v v' → RuleBroken n set t r v x' v'
  unfolding reduced
  opposed_broken x x' v' b e q k =
      let s = (satisfied (assignment_of v')).0 (k.meaning opposed (reduced x x' b e q p.fits)) in
      record {
        lent = record {
          size = q.lent.size ∙ rw e (put_length t (opposite_of r));
          rest = q.lent.rest ∙ rw e (put_rest n t (opposite_of r) placed);
          kept = λ c. clash refl c;
        };
        written = k.lent;
        satisfies = s.0;
        broken = s.1;
        zero = k.zero;
        within = λ f. k.within opposed (reduced x x' b e q f);
      }
