-- One turn as the program takes it, with the live quantities in a list: what it does to the table and to the values. Assumes nothing.
use mathlib.Core.Path.{◌≡◌, refl, sym, ◌∙◌}
use mathlib.Core.Bool.{Bool, true, false, cond, ◌&&◌}
use mathlib.Core.List.{List}
use mathlib.Core.Logic.{◌⊎◌, inl, inr}
use Prim.Native.Nat.{ℕ, suc, ◌+◌, ◌-◌, ◌*◌, ◌/◌, ◌≤◌, ◌<◌}
use native.Mathlib.Omega.{arith}
use lib.Dec.{ltb}
use lib.IntN.{ℤ, pos}
use lib.ListN.{length, take, drop}
use lib.ListN.{set as put}
use borrow.Author.Tests.{ltb-true, ltb-false}
use Rattle.integers.specs.Bound.{Within}
use Rattle.integers.proofs.Within.{within_mono}
use Rattle.words.specs.Change.{word_at}
use Rattle.words.proofs.Change.{change_drop}
use Rattle.places.specs.Numbering.{block_start}
use Rattle.rules.specs.Hidden.{member_count}
use Rattle.rules.specs.Meaning.{literal_value}
use Rattle.tables.specs.Tables.{has_rule}
use Rattle.tables.specs.Meaning.{assignment_of}
use Rattle.tables.proofs.Tests.{clash}
use Rattle.elimination.specs.Hiding.{pair_word, lone_word, paired, contradicts}
use Rattle.elimination.specs.Choosing.{chosen, choice}
use Rattle.elimination.specs.Magnitude.{add_limit}
use Rattle.elimination.specs.Inner.{among, Ready, Valued}
use Rattle.elimination.specs.Promises.{Paired, Chosen}
use Rattle.elimination.proofs.Projection.{bounded_live}
use Rattle.elimination.proofs.Lists.{listed_below}
use Rattle.elimination.proofs.Fewer.{fewer_paired, fewer_contradicts}
use Rattle.keys.specs.declared.live.Part.{Part}
use Rattle.keys.specs.Keys.{hide_up_to}
use Rattle.keys.specs.Inner.{member_of, still_live, LiveListed, PartFits, turn_at, AtTurns, ContradictionMet, SetEliminated, TurnTaken, ChoiceReady, PartReadable, read_one, read_back}
use Rattle.keys.proofs.Several.{hide_up_to_length}
use Rattle.keys.proofs.Fitting.{limit_rises, hidden_within, set_ample}
use Rattle.keys.proofs.Turning.{turn_most, had_yet}
use Rattle.keys.proofs.AtTurns.{LiveNow, live_part, skip_turn, next_turn, turn_met, met_none}
use Rattle.keys.proofs.ReadBack.{read_length, read_within}

-- ---- sets that agree on n quantities

module _ (live other : ℕ → Bool) (n j : ℕ) (t : List ℤ) (l : block_start n ≤ length t) (h : j < n) (same : (i : ℕ) → i < n → live i ≡ other i) where
  pub agree_paired : paired live n j t ≡ paired other n j t
  agree_paired = fewer_paired live other n j t l h (λ i g e. same i g ∙ e) (λ i g d e f. clash (sym (same i g) ∙ e) f)

  pub agree_contradicts : contradicts live n j t ≡ contradicts other n j t
  agree_contradicts = fewer_contradicts live other n j t l h (λ i g e. same i g ∙ e) (λ i g d e f. clash (sym (same i g) ∙ e) f)

agree_choice : (live other : ℕ → Bool) (n j : ℕ) (t values : List ℤ) → ((i : ℕ) → i < n → live i ≡ other i) → choice live n t j values ≡ choice other n t j values
unfolding choice chosen
agree_choice live other n j t values same =
    rw (
      bounded_live live other (literal_value (assignment_of values)) (pair_word t (2 * j)) (lone_word t (2 * j)) (2 * n) (pos 0) (λ x g. same (x / 2) (omega arith)),
      bounded_live live other (literal_value (assignment_of values)) (pair_word t (2 * j + 1)) (lone_word t (2 * j + 1)) (2 * n) _ (λ x g. same (x / 2) (omega arith)),
    )

-- ---- a turn

-- of a member
pub turn_taken : (n set : ℕ) (part : Part) (j count from : ℕ) (t : List ℤ) (out : List ℕ) (r : Bool) (u : List ℤ) → Ready n j t
    → from ≡ suc j → LiveListed n set part from count out → member_of set part (suc j) ≡ true → Paired (among (take count out)) n j t r u → TurnTaken n set part j t r u
turn_taken n set part j count from t out r u y q l e p =
    let listed : LiveListed n set part (suc j) count out = rw q at l in record {
      reply = p.reply ∙ agree_contradicts (among (take count out)) (still_live set part (suc j)) n j t y.room y.one listed.each ∙ rw e;
      table = p.table ∙ agree_paired (among (take count out)) (still_live set part (suc j)) n j t y.room y.one listed.each ∙ rw e;
    }

-- it leaves the words past the table alone, and its length
pub turn_rest : (n set : ℕ) (part : Part) (j : ℕ) (t : List ℤ) (r : Bool) (u : List ℤ) → TurnTaken n set part j t r u → drop (block_start n) u ≡ drop (block_start n) t
unfolding paired
turn_rest n set part j t r u y = go (member_of set part (suc j)) y.table
  where
    go : (b : Bool) → u ≡ cond b (paired (still_live set part (suc j)) n j t) t → drop (block_start n) u ≡ drop (block_start n) t
    go true e = rw e (change_drop (block_start n) _ t)
    go false e = rw e

-- ---- members eliminated, as the loop goes

module _ (n set : ℕ) (part : Part) (t : List ℤ) (f : PartFits n set part t) where
  -- one turn more, taken or passed
  pub turn_more : (j : ℕ) (u v : List ℤ) (r : Bool) → j < n → length u ≡ length t → AtTurns (member_of set part) n j t u → TurnTaken n set part j u r v → r ≡ false
      → AtTurns (member_of set part) n (suc j) t v
  turn_more j u v r h s a y e = go (member_of set part (suc j)) refl y.reply y.table
    where
      live : ℕ → Bool
      live = still_live set part (suc j)

      room : block_start n ≤ length u
      room = omega (arith, f.sums.room)

      go : (b : Bool) → member_of set part (suc j) ≡ b → r ≡ (b && contradicts live n j u) → v ≡ cond b (paired live n j u) u
          → AtTurns (member_of set part) n (suc j) t v
      go true d p q =
          rw q (next_turn (member_of set part) n j t u f.sums.room h room a live d (live_part set part n (suc j) t f.alone) (sym p ∙ e))
      go false d p q = rw q (skip_turn (member_of set part) n j t u f.sums.room h room a d)

  -- a contradiction
  pub turn_clash : (j : ℕ) (u v : List ℤ) (r : Bool) → j < n → length u ≡ length t → AtTurns (member_of set part) n j t u → TurnTaken n set part j u r v → r ≡ true
      → ContradictionMet (member_of set part) n t
  turn_clash j u v r h s a y e = go (member_of set part (suc j)) refl y.reply
    where
      live : ℕ → Bool
      live = still_live set part (suc j)

      room : block_start n ≤ length u
      room = omega (arith, f.sums.room)

      go : (b : Bool) → member_of set part (suc j) ≡ b → r ≡ (b && contradicts live n j u) → ContradictionMet (member_of set part) n t
      go true d p = turn_met (member_of set part) n j t u f.sums.room h room a live d (live_part set part n (suc j) t f.alone) (sym p ∙ e)
      go false d p = clash e p

  -- a table on the way is ready for its next turn
  pub turn_ready : (j : ℕ) (u : List ℤ) → j < n → length u ≡ length t → AtTurns (member_of set part) n j t u → Ready n j u
  turn_ready j u h s a = record {
    most = f.sums.most;
    one = h;
    room = omega (arith, f.sums.room);
    words = record { each = λ k b g r. rw (a.words k b) (word k b (rw (a.words k b) at r)) };
  }
    where
      word : (k : ℕ) → k < block_start n → has_rule (word_at (hide_up_to (member_of set part) n (turn_at (member_of set part) j k) t) k) ≡ true
          → Within add_limit (word_at (hide_up_to (member_of set part) n (turn_at (member_of set part) j k) t) k)
      word k b r =
          let q = turn_most (member_of set part) j k in
          let c : turn_at (member_of set part) j k < n = omega arith in
          let y = set_ample (member_of set part) n t f.sums (turn_at (member_of set part) j k) c in
          y.words.each k b (omega (arith, y.room)) r

  -- at the end, or stopped
  pub set_done : (u : List ℤ) → length u ≡ length t → drop (block_start n) u ≡ drop (block_start n) t → AtTurns (member_of set part) n n t u
      → SetEliminated (member_of set part) n t false u
  set_done u s e a = record { met = λ c. clash c refl; none = λ c. clash c refl; some = λ c. a; lent = record { size = s; rest = e; kept = λ c. clash refl c } }

  pub set_none : (u : List ℤ) → length u ≡ length t → drop (block_start n) u ≡ drop (block_start n) t → ContradictionMet (member_of set part) n t
      → SetEliminated (member_of set part) n t true u
  set_none u s e a = record {
    met = λ c. a;
    none = λ c. met_none (member_of set part) n t (set_ample (member_of set part) n t f.sums) a;
    some = λ c. clash refl c;
    lent = record { size = s; rest = e; kept = λ c. clash refl c };
  }

-- ---- a value

-- a quantity that is not of the part keeps its word
pub value_passed : (n set : ℕ) (part : Part) (j : ℕ) (t values : List ℤ) → member_of set part (suc j) ≡ false → values ≡ read_one set part n t j values
unfolding read_one
value_passed n set part j t values e = rw e

-- one of it gets the value chosen
pub value_chosen : (n set : ℕ) (part : Part) (j count from : ℕ) (t values : List ℤ) (out : List ℕ) (r : ℤ) → from ≡ suc j → LiveListed n set part from count out
    → member_of set part (suc j) ≡ true → Chosen (among (take count out)) n j t values r → put values j r ≡ read_one set part n t j values
unfolding read_one
value_chosen n set part j count from t values out r q l e c =
    let listed : LiveListed n set part (suc j) count out = rw q at l in
    rw (e, c.reply, agree_choice (among (take count out)) (still_live set part (suc j)) n j t values listed.each)

pub value_ready : (n set : ℕ) (part : Part) (j count from : ℕ) (values : List ℤ) (out : List ℕ) → from ≡ suc j → LiveListed n set part from count out
    → ChoiceReady n set part j values → Valued n (take count out) values
value_ready n set part j count from values out q l c =
    let listed : LiveListed n set part (suc j) count out = rw q at l in
    record { room = c.room; each = λ i d. let b = listed_below n (take count out) listed.listed i d in c.each i b (sym (listed.each i b) ∙ d) }

-- ---- values read back, as the loop goes

pub read_none : (set : ℕ) (part : Part) (n : ℕ) (t values : List ℤ) → values ≡ read_back set part n t (n - n) values
unfolding read_back
read_none set part n t values = let e : n - n ≡ 0 = omega arith in rw e

pub read_more : (set : ℕ) (part : Part) (n j : ℕ) (t values u : List ℤ) → 0 < j → j ≤ n → u ≡ read_back set part n t (n - j) values
    → read_one set part n t (j - 1) u ≡ read_back set part n t (n - (j - 1)) values
unfolding read_back
read_more set part n j t values u h g e =
    let next : n - (j - 1) ≡ suc (n - j) = omega arith in
    let place : n - suc (n - j) ≡ j - 1 = omega arith in
    rw (next, place, ← e)

pub read_ready : (n set : ℕ) (part : Part) (t values u : List ℤ) (j : ℕ) → PartReadable n set part t values → 0 < j → j ≤ n → u ≡ read_back set part n t (n - j) values
    → ChoiceReady n set part (j - 1) u
unfolding member_count
read_ready n set part t values u j r h g e = rw e (record {
  room = omega (arith, read_length set part n r.wide r.from t values r.readable r.alone (n - j), r.readable.values_room);
  each = λ i b d. within_mono (omega (arith, r.readable.last, limit_rises (member_of set part) r.readable.fits.limit 0 (n - (n - j)) (omega arith)))
      (read_within set part n r.wide r.from t values r.readable r.alone (n - j) (omega arith) i b (valued i b d));
})
  where
    back : n - (n - j) ≡ j
    back = omega arith

    valued : (i : ℕ) → i < n → still_live set part (suc (j - 1)) i ≡ true → (member_of set part (suc i) ≡ false) ⊎ (n - (n - j) ≤ i)
    valued i b d = go (member_of set part (suc i)) refl (ltb i j) refl
      where
        now : LiveNow (member_of set part) (still_live set part (suc (j - 1))) n (suc (j - 1)) r.from
        now = live_part set part n (suc (j - 1)) r.from r.alone

        go : (m : Bool) → member_of set part (suc i) ≡ m → (q : Bool) → ltb i j ≡ q → (member_of set part (suc i) ≡ false) ⊎ (n - (n - j) ≤ i)
        go false m q f = inl m
        go true m false f = inr (omega (arith, ltb-false i j f))
        go true m true f = clash (now.yet i b d) (had_yet (member_of set part) (suc (j - 1)) i m (omega (arith, ltb-true i j f)))

-- the table that is read from is ready for each quantity
pub table_ready : (n set : ℕ) (part : Part) (t values : List ℤ) (j : ℕ) → PartReadable n set part t values → j < n → Ready n j t
table_ready n set part t values j r h = record {
  most = r.readable.fits.most;
  one = h;
  room = r.readable.room;
  words = record { each = λ k b g d. rw (r.readable.at.words k b) (word k b (rw (r.readable.at.words k b) at d)) };
}
  where
    members : ℕ → Bool
    members = member_of set part

    word : (k : ℕ) → k < block_start n → has_rule (word_at (hide_up_to members n (turn_at members n k) r.from) k) ≡ true
        → Within add_limit (word_at (hide_up_to members n (turn_at members n k) r.from) k)
    word k b d =
        let w = hidden_within members members n (turn_at members n k) r.readable.fits.limit r.from (turn_most members n k) r.readable.fits.room r.readable.fits.within (λ i g e. inl e) in
        within_mono (omega (arith, limit_rises members r.readable.fits.limit (turn_at members n k) n (turn_most members n k), r.readable.fits.last))
        (w.each k b (omega (arith, hide_up_to_length members n (turn_at members n k) r.from, r.readable.fits.room)) d)
