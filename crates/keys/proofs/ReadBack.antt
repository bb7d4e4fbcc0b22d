-- Values read back for the members of a set, the last first, each from its rules as at its turn: with the values of the others they satisfy the table, and they fit. Assumes nothing.
use mathlib.Core.Path.{◌≡◌, refl, sym, ◌∙◌}
use mathlib.Core.Bool.{Bool, true, false, cond, and-false}
use mathlib.Core.List.{List}
use mathlib.Core.Logic.{◌⊎◌, inl, inr, ⊎_elim}
use Prim.Native.Nat.{ℕ, zero, suc, ◌+◌, ◌-◌, ◌*◌, ◌/◌, ◌≤◌, ◌<◌}
use native.Mathlib.Omega.{arith}
use lib.Dec.{eqb, ltb}
use lib.IntN.{ℤ, pos}
use lib.ListN.{length, drop, length-set}
use lib.ListN.{set as put}
use lib.Seq.{get_or-set_same, get_or-set_other, drop-set-lt}
use borrow.Author.Tests.{eqb-true, eqb-false, ltb-true, ltb-false, le-leb}
use Rattle.integers.specs.Bound.{Within}
use Rattle.integers.proofs.Within.{within_mono}
use Rattle.words.specs.Change.{word_at}
use Rattle.places.specs.Numbering.{block_start, place_of_one, place_of_pair}
use Rattle.places.proofs.Numbering.{one_below, pair_below}
use Rattle.rules.specs.Meaning.{Assignment, literal_value}
use Rattle.tables.specs.Meaning.{Satisfies, WordsWithin, assignment_of}
use Rattle.tables.proofs.Tests.{clash}
use Rattle.elimination.specs.Hiding.{every, pair_word, lone_word, paired, eliminated}
use Rattle.elimination.specs.Choosing.{chosen, choice}
use Rattle.elimination.specs.Magnitude.{Unnamed}
use Rattle.elimination.proofs.Terms.{Live}
use Rattle.elimination.proofs.Projection.{bounded_same, chosen_within}
use Rattle.elimination.proofs.TermWords.{quantity_cases, pair_same, pair_first, pair_second, pair_sym, lone_within, pair_within}
use Rattle.elimination.proofs.Terms.{TermsMet, Others, satisfies_met, met_some, sums_some}
use Rattle.elimination.proofs.PairedWords.{live_one, live_pair}
use Rattle.elimination.proofs.Step.{step_lower, step_sums}
use Rattle.elimination.proofs.Exact.{eliminated_met, upward_choose}
use Rattle.elimination.proofs.Unnamed.{unnamed_lone, unnamed_pair}
use Rattle.elimination.proofs.Values.{literal_within}
use Rattle.keys.specs.Keys.{hide_up_to, key_of}
use Rattle.keys.specs.declared.live.Part.{Part}
use Rattle.keys.specs.Inner.{member_of, still_live, AtTurns, Readable, read_one, read_back, PartReadable, PartRead}
use Rattle.keys.proofs.Several.{Ample, hide_up_to_length, hide_up_to_unnamed}
use Rattle.keys.proofs.Fitting.{member_limit, limit_step, limit_stays, limit_rises, hidden_within, set_ample, hide_unnamed}
use Rattle.keys.proofs.Turning.{not_yet, turn_had, turn_own, yet_later, yet_before, had_yet}
use Rattle.keys.proofs.AtTurns.{LiveNow, live_part}

-- ---- a value that depends on live literals alone

-- rows that are the same there leave the same integer
pub chosen_alike : (live : ℕ → Bool) (value plus minus plus' minus' : ℕ → ℤ) (p m p' m' : ℤ) (x : ℕ)
    → ((y : ℕ) → y < x → live (y / 2) ≡ true → plus y ≡ plus' y) → ((y : ℕ) → y < x → live (y / 2) ≡ true → minus y ≡ minus' y) → p ≡ p' → m ≡ m'
    → chosen live value plus minus p m x ≡ chosen live value plus' minus' p' m' x
unfolding chosen
chosen_alike live value plus minus plus' minus' p m p' m' x e d a b =
    rw (a, b, bounded_same live value plus plus' p' x (pos 0) e, bounded_same live value minus minus' m' x _ d)

-- a value set gives an assignment that differs at its quantity alone
set_other : (values : List ℤ) (j : ℕ) (v : ℤ) (q : ℕ) → (q ≡ suc j → ⊥) → assignment_of (put values j v) q ≡ assignment_of values q
set_other values j v zero n = refl
set_other values j v (suc i) n = get_or-set_other values j i v (pos 0) (λ e. n (omega arith))

-- ---- a member

module _ (members : ℕ → Bool) (n j : ℕ) (t table : List ℤ) (l : block_start n ≤ length t) (h : j < n) (e : members (suc j) ≡ true) (a : AtTurns members n n t table)
    (live : ℕ → Bool) (now : LiveNow members live n (suc j) t) where
  abbrev at_turn : List ℤ
  at_turn = hide_up_to members n j t

  room : block_start n ≤ length at_turn
  room = omega (arith, hide_up_to_length members n j t)

  -- it has had its turn at j + 1, and is not live
  shut : not_yet members (suc j) j ≡ false
  shut = had_yet members (suc j) j e (omega arith)

  pub not_live : live j ≡ false
  not_live = go (live j) refl
    where
      go : (b : Bool) → live j ≡ b → b ≡ false
      go true d = clash (now.yet j h d) shut
      go false d = refl

  -- its rules, alone and with live ones, are those of its turn
  own_alone : (z : ℕ) → z / 2 ≡ j → lone_word table z ≡ lone_word at_turn z
  own_alone z q =
      let b : z < 2 * n = omega arith in
      a.words (place_of_one z) (one_below n z b)
      ∙ rw (turn_own members n j (place_of_one z) h (live_one (not_yet members j) z ∙ rw q (yet_later members j j (omega arith))) (live_one (not_yet members (suc j)) z ∙ rw q shut))

  own_pair : (z x : ℕ) → z / 2 ≡ j → x < 2 * n → live (x / 2) ≡ true → pair_word table z x ≡ pair_word at_turn z x
  own_pair z x q b d =
      quantity_cases (pair_word table z x ≡ pair_word at_turn z x) z x
      (λ s. pair_same table z x s ∙ sym (pair_same at_turn z x s))
      (λ o. pair_first table z x o ∙ a.words (place_of_pair z x) (pair_below n z x o b)
      ∙ rw (turn_own members n j (place_of_pair z x) h (live_pair (not_yet members j) z x o ∙ rw (yet, q) mine) (live_pair (not_yet members (suc j)) z x o ∙ rw (q, shut) (and-false (not_yet members (suc j) (x / 2)))))
      (sym (pair_first at_turn z x o)))
      (λ o. pair_second table x z o ∙ a.words (place_of_pair x z) (pair_below n x z o (omega arith))
      ∙ rw (turn_own members n j (place_of_pair x z) h (live_pair (not_yet members j) x z o ∙ rw (yet, q) (rw mine)) (live_pair (not_yet members (suc j)) x z o ∙ rw (q, shut)))
      (sym (pair_second at_turn x z o)))
    where
      mine : not_yet members j j ≡ true
      mine = yet_later members j j (omega arith)

      yet : not_yet members j (x / 2) ≡ true
      yet = yet_before members j (x / 2) (now.yet (x / 2) (omega arith) d)

  -- so the value chosen is that of its turn
  pub choice_turn : (values : List ℤ) → choice live n table j values ≡ choice live n at_turn j values
  unfolding choice
  choice_turn values =
      chosen_alike live (literal_value (assignment_of values)) _ _ _ _ _ _ _ _ (2 * n)
      (λ x b d. own_pair (2 * j) x (omega arith) b d) (λ x b d. own_pair (2 * j + 1) x (omega arith) b d)
      (own_alone (2 * j) (omega arith)) (own_alone (2 * j + 1) (omega arith))

  -- a literal that is neither its own nor live is named by no rule at its turn
  others_gone : (i : ℕ) → i < n → (i ≡ j → ⊥) → live i ≡ false → Unnamed n i at_turn
  others_gone i g d f = go (not_yet members (suc j) i) refl
    where
      go : (b : Bool) → not_yet members (suc j) i ≡ b → Unnamed n i at_turn
      go true y = hide_unnamed members n j i t (omega arith) l (now.rest i g y f)
      go false y =
          let p = turn_had members (suc j) i y in
          hide_up_to_unnamed members n j i t (omega arith) l (rw (p.1, le-leb (suc i) j (omega (arith, p.2, d))))

  -- the literals that its turn's rules name
  abbrev Named : ℕ → Type 0
  Named x = (x < 2 * n) × ((live (x / 2) ≡ true) ⊎ (x / 2 ≡ j))

  named_all : (σ : Assignment) → TermsMet Named at_turn σ → Satisfies n at_turn σ
  named_all σ m = (satisfies_met n at_turn σ room).1 (record {
    one = λ x i r. m.one x (named x i.1 (λ u. clash r (unnamed_lone n (x / 2) at_turn room u x i.1 refl))) r;
    two = λ x y i k r. m.two x y
        (named x i.1 (λ u. clash r (unnamed_pair n (x / 2) at_turn room u x y i.1 k.1 refl)))
        (named y k.1 (λ u. clash r (rw (pair_sym at_turn x y) (unnamed_pair n (y / 2) at_turn room u y x k.1 i.1 refl)))) r;
  })
    where
      named : (x : ℕ) → x < 2 * n → (Unnamed n (x / 2) at_turn → ⊥) → Named x
      named x b none = (b, go (live (x / 2)) refl (eqb (x / 2) j) refl)
        where
          go : (c : Bool) → live (x / 2) ≡ c → (d : Bool) → eqb (x / 2) j ≡ d → (live (x / 2) ≡ true) ⊎ (x / 2 ≡ j)
          go true f d g = inl f
          go false f true g = inr (eqb-true (x / 2) j g)
          go false f false g = absurd (none (others_gone (x / 2) (omega arith) (eqb-false (x / 2) j g) f))

  -- what satisfies the table with it hidden satisfies the table of its turn, with the value chosen
  pub chosen_satisfies : Ample n at_turn → (σ τ : Assignment) → Satisfies n (eliminated n j at_turn) σ → ((q : ℕ) → (q ≡ suc j → ⊥) → τ q ≡ σ q)
      → τ (suc j) ≡ chosen live (literal_value σ) (pair_word at_turn (2 * j)) (pair_word at_turn (2 * j + 1)) (lone_word at_turn (2 * j)) (lone_word at_turn (2 * j + 1)) (2 * n)
      → Satisfies n at_turn τ
  chosen_satisfies ample σ τ s rest value =
      named_all τ (upward_choose live n j at_turn σ not_live
      (met_some (Live live n) (Others every n j) at_turn σ other (step_lower every n j at_turn (Others every n j) σ room (λ x i. i.1) met))
      (sums_some (Live live n) (Others every n j) _ _ _ _ _ other (step_sums every n j 4611686018427387903 at_turn σ ample h met (a.clear j h e)))
      τ rest value Named (λ x i. ⊎_elim (λ d. inl (d, i.0)) (λ d. inr d) i.1))
    where
      met : TermsMet (Others every n j) (paired every n j at_turn) σ
      met = (eliminated_met n j at_turn σ room).0 s

      other : (x : ℕ) → Live live n x → Others every n j x
      other x i = (refl, i.1, λ d. clash i.0 (rw d not_live))

-- ---- all members, as the program goes

module _ (set : ℕ) (part : Part) (n wide : ℕ) (t table values : List ℤ) (r : Readable (member_of set part) n wide t table values)
    (alone : (i : ℕ) → i < n → still_live set part 0 i ≡ false → Unnamed n i t) where
  abbrev members : ℕ → Bool
  members = member_of set part

  abbrev L : ℕ
  L = r.fits.limit

  -- the quantities that are live when quantity j + 1 is chosen
  pub live_now : (j : ℕ) → LiveNow members (still_live set part (suc j)) n (suc j) t
  live_now j = live_part set part n (suc j) t alone

  -- the values have the same room
  pub read_length : (m : ℕ) → length (read_back set part n table m values) ≡ length values
  unfolding read_back read_one
  read_length zero = refl
  read_length (suc m) = go (members (suc (n - suc m))) (read_length m)
    where
      v : List ℤ
      v = read_back set part n table m values

      go : (b : Bool) → length v ≡ length values → length (cond b (put v (n - suc m) (choice (still_live set part (suc (n - suc m))) n table (n - suc m) v)) v) ≡ length values
      go true h = length-set v (n - suc m) _ ∙ h
      go false h = h

  -- words past the first n stay
  pub read_rest : (m : ℕ) → m ≤ n → drop n (read_back set part n table m values) ≡ drop n values
  unfolding read_back read_one
  read_rest zero h = refl
  read_rest (suc m) h = go (members (suc (n - suc m))) (read_rest m (omega arith))
    where
      v : List ℤ
      v = read_back set part n table m values

      go : (b : Bool) → drop n v ≡ drop n values
          → drop n (cond b (put v (n - suc m) (choice (still_live set part (suc (n - suc m))) n table (n - suc m) v)) v) ≡ drop n values
      go true e = drop-set-lt n v (n - suc m) _ (omega arith) ∙ e
      go false e = e

  -- and so do those of the others
  pub read_others : (m : ℕ) → m ≤ n → (i : ℕ) → members (suc i) ≡ false → word_at (read_back set part n table m values) i ≡ word_at values i
  unfolding read_back read_one
  read_others zero h i e = refl
  read_others (suc m) h i e = go (members (suc (n - suc m))) refl (read_others m (omega arith) i e)
    where
      v : List ℤ
      v = read_back set part n table m values

      go : (b : Bool) → members (suc (n - suc m)) ≡ b → word_at v i ≡ word_at values i
          → word_at (cond b (put v (n - suc m) (choice (still_live set part (suc (n - suc m))) n table (n - suc m) v)) v) i ≡ word_at values i
      go true d k = get_or-set_other v (n - suc m) i _ (pos 0) (λ q. clash d (rw (← q) e)) ∙ k
      go false d k = k

  -- ---- they satisfy the table

  pub read_satisfies : Satisfies n (key_of members n t) (assignment_of values) → (m : ℕ) → m ≤ n
      → Satisfies n (hide_up_to members n (n - m) t) (assignment_of (read_back set part n table m values))
  unfolding read_back read_one key_of hide_up_to choice
  read_satisfies s zero h = rw none s
    where
      none : n - 0 ≡ n
      none = omega arith
  read_satisfies s (suc m) h = go (members (suc (n - suc m))) refl (rw next at (read_satisfies s m (omega arith)))
    where
      v : List ℤ
      v = read_back set part n table m values

      j : ℕ
      j = n - suc m

      next : n - m ≡ suc (n - suc m)
      next = omega arith

      live : ℕ → Bool
      live = still_live set part (suc j)

      go : (b : Bool) → members (suc j) ≡ b → Satisfies n (hide_up_to members n (suc j) t) (assignment_of v)
          → Satisfies n (hide_up_to members n j t) (assignment_of (cond b (put v j (choice live n table j v)) v))
      go true e w =
          chosen_satisfies members n j t table r.fits.room (omega arith) e r.at live (live_now j) (set_ample members n t r.fits j (omega arith))
          (assignment_of v) (assignment_of (put v j (choice live n table j v))) (rw e at w)
          (set_other v j (choice live n table j v))
          (get_or-set_same v j (choice live n table j v) (pos 0) (omega (arith, read_length m, r.values_room))
          ∙ choice_turn members n j t table r.fits.room (omega arith) e r.at live (live_now j) v)
      go false e w = rw e at w

  -- ---- they fit

  -- the value of a member is within its turn's limit and the values of the live ones
  turn_within : (j W : ℕ) (v : List ℤ) → j < n → members (suc j) ≡ true → ((i : ℕ) → i < n → still_live set part (suc j) i ≡ true → Within (pos W) (word_at v i))
      → Within (pos (member_limit members L j + W)) (choice (still_live set part (suc j)) n table j v)
  unfolding choice
  turn_within j W v h e later =
      rw (choice_turn members n j t table r.fits.room h e r.at live (live_now j) v)
      (chosen_within (member_limit members L j) W live (literal_value (assignment_of v)) (pair_word u (2 * j)) (pair_word u (2 * j + 1)) (lone_word u (2 * j))
      (lone_word u (2 * j + 1)) (2 * n)
      (λ x d b. pair_within n (pos (member_limit members L j)) u (2 * j) x room within (omega arith) b)
      (λ x d b. pair_within n (pos (member_limit members L j)) u (2 * j + 1) x room within (omega arith) b)
      (lone_within n (pos (member_limit members L j)) u (2 * j) room within (omega arith))
      (lone_within n (pos (member_limit members L j)) u (2 * j + 1) room within (omega arith))
      (λ x d b. literal_within W v x (later (x / 2) (omega arith) d)))
    where
      live : ℕ → Bool
      live = still_live set part (suc j)

      u : List ℤ
      u = hide_up_to members n j t

      room : block_start n ≤ length u
      room = omega (arith, hide_up_to_length members n j t, r.fits.room)

      within : WordsWithin (block_start n) (pos (member_limit members L j)) u
      within = hidden_within members members n j L t (omega arith) r.fits.room r.fits.within (λ i g d. inl d)

  -- the limit when the members past the first c have their values
  abbrev read_limit : ℕ → ℕ
  read_limit c = wide + (member_limit members L n - member_limit members L c)

  pub read_within : (m : ℕ) → m ≤ n → (i : ℕ) → i < n → (members (suc i) ≡ false) ⊎ (n - m ≤ i)
      → Within (pos (read_limit (n - m))) (word_at (read_back set part n table m values) i)
  unfolding read_back read_one
  read_within zero h i g (inl e) = within_mono (omega arith) (r.others i g e)
  read_within zero h i g (inr l) = let z : ⊥ = omega arith in absurd z
  read_within (suc m) h i g c = go (λ k p d. read_within m (omega arith) k p d) (members (suc j)) refl (eqb i j) refl
    where
      v : List ℤ
      v = read_back set part n table m values

      j : ℕ
      j = n - suc m

      next : n - m ≡ suc (n - suc m)
      next = omega arith

      live : ℕ → Bool
      live = still_live set part (suc j)

      rises : member_limit members L (suc j) ≤ member_limit members L n
      rises = limit_rises members L (suc j) n (omega arith)

      Before : Type 0
      Before = (i : ℕ) → i < n → (members (suc i) ≡ false) ⊎ (n - m ≤ i) → Within (pos (read_limit (n - m))) (word_at v i)

      before : Before → (i : ℕ) → i < n → (members (suc i) ≡ false) ⊎ (suc j ≤ i) → Within (pos (read_limit (suc j))) (word_at v i)
      before ih i g c = rw next at (ih i g (rw next c))

      -- a quantity that is live has a value
      valued : (i : ℕ) → i < n → live i ≡ true → (members (suc i) ≡ false) ⊎ (suc j ≤ i)
      valued i g d = had (members (suc i)) refl (ltb i (suc j)) refl
        where
          had : (b : Bool) → members (suc i) ≡ b → (q : Bool) → ltb i (suc j) ≡ q → (members (suc i) ≡ false) ⊎ (suc j ≤ i)
          had false e q f = inl e
          had true e false f = inr (ltb-false i (suc j) f)
          had true e true f = clash ((live_now j).yet i g d) (had_yet members (suc j) i e (ltb-true i (suc j) f))

      -- of the others and of those past j + 1
      kept : (i ≡ j → ⊥) → (members (suc i) ≡ false) ⊎ (j ≤ i) → (members (suc i) ≡ false) ⊎ (suc j ≤ i)
      kept d (inl e) = inl e
      kept d (inr l) = inr (omega arith)

      go : Before → (b : Bool) → members (suc j) ≡ b → (q : Bool) → eqb i j ≡ q
          → Within (pos (read_limit j)) (word_at (cond b (put v j (choice live n table j v)) v) i)
      go ih true e true q =
          rw (eqb-true i j q, get_or-set_same v j (choice live n table j v) (pos 0) (omega (arith, read_length m, r.values_room)))
          (within_mono (omega (arith, limit_step members L j e, rises))
          (turn_within j (read_limit (suc j)) v (omega arith) e (λ k p d. before ih k p (valued k p d))))
      go ih true e false q =
          rw (get_or-set_other v j i (choice live n table j v) (pos 0) (eqb-false i j q))
          (within_mono (omega (arith, limit_step members L j e, rises)) (before ih i g (kept (eqb-false i j q) c)))
      go ih false e true q = within_mono (omega (arith, limit_stays members L j e)) (before ih i g (inl (rw (eqb-true i j q) e)))
      go ih false e false q = within_mono (omega (arith, limit_stays members L j e)) (before ih i g (kept (eqb-false i j q) c))

-- ---- in the program's words

pub part_read : (n set : ℕ) (part : Part) (table values values' : List ℤ) → PartReadable n set part table values → values' ≡ read_back set part n table n values
    → PartRead n set part table values values'
unfolding hide_up_to
part_read n set part table values values' p e = rw e (record {
  words = refl;
  others = λ i d. read_others set part n p.wide p.from table values p.readable p.alone n (omega arith) i d;
  rest = read_rest set part n p.wide p.from table values p.readable p.alone n (omega arith);
  meaning = λ wide t r a s. rw none at (read_satisfies set part n wide t table values r a s n (omega arith));
})
  where
    none : n - n ≡ 0
    none = omega arith
