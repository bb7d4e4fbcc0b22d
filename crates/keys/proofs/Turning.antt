-- The turn of a place: that of the lowest member that it names. Assumes nothing.
use mathlib.Core.Path.{◌≡◌, refl, ◌∙◌}
use mathlib.Core.Bool.{Bool, true, false, cond, not, ◌&&◌, ◌||◌, and-false}
use Prim.Native.Nat.{ℕ, zero, suc, ◌/◌, ◌≤◌, ◌<◌}
use native.Mathlib.Omega.{arith}
use lib.Dec.{leb, ltb}
use borrow.Author.Tests.{ltb-true, ltb-false, lt-ltb, le-ltb, le-leb, lt-leb}
use Rattle.places.specs.Numbering.{place_of_one, is_one, higher_at, lower_at}
use Rattle.places.proofs.Numbering.{one_is_one, one_higher, at_lower}
use Rattle.tables.proofs.Tests.{clash}
use Rattle.elimination.specs.Hiding.{live_at}
use Rattle.keys.specs.Inner.{turn_of, turn_at}

-- quantity i + 1 has had no turn yet when the members among the first m have had theirs
abbrev pub not_yet : (ℕ → Bool) → ℕ → ℕ → Bool
not_yet members m i = not (members (suc i) && ltb i m)

-- ---- of a quantity

-- one that has had no turn yet has it at m
pub turn_yet : (members : ℕ → Bool) (m i : ℕ) → not_yet members m i ≡ true → turn_of members m i ≡ m
turn_yet members m i e = go (members (suc i) && ltb i m) refl
  where
    go : (b : Bool) → (members (suc i) && ltb i m) ≡ b → cond b i m ≡ m
    go true d = clash e (rw d)
    go false d = refl

-- one that has had it, at its own number, before m
pub turn_had : (members : ℕ → Bool) (m i : ℕ) → not_yet members m i ≡ false → (turn_of members m i ≡ i) × (members (suc i) ≡ true) × (i < m)
turn_had members m i e = go (members (suc i)) refl (ltb i m) refl
  where
    go : (b : Bool) → members (suc i) ≡ b → (c : Bool) → ltb i m ≡ c → (turn_of members m i ≡ i) × (members (suc i) ≡ true) × (i < m)
    go true d true f = (rw (d, f), d, ltb-true i m f)
    go true d false f = clash (rw (d, f)) e
    go false d c f = clash (rw d) e

-- and has had it at m
pub had_yet : (members : ℕ → Bool) (m i : ℕ) → members (suc i) ≡ true → i < m → not_yet members m i ≡ false
had_yet members m i e h = rw (e, lt-ltb i m h)

pub yet_later : (members : ℕ → Bool) (m i : ℕ) → m ≤ i → not_yet members m i ≡ true
yet_later members m i h = rw (le-ltb i m h) (go (members (suc i)))
  where
    go : (b : Bool) → not (b && false) ≡ true
    go true = refl
    go false = refl

-- who has had none at a later time had none before
pub yet_before : (members : ℕ → Bool) (j i : ℕ) → not_yet members (suc j) i ≡ true → not_yet members j i ≡ true
yet_before members j i e = go (not_yet members j i) refl
  where
    go : (b : Bool) → not_yet members j i ≡ b → b ≡ true
    go true d = refl
    go false d = let h = turn_had members j i d in clash e (had_yet members (suc j) i h.1 (omega (arith, h.2)))

-- and who has had it has had it later
pub had_later : (members : ℕ → Bool) (m c i : ℕ) → m ≤ c → not_yet members m i ≡ false → not_yet members c i ≡ false
had_later members m c i h e = let d = turn_had members m i e in had_yet members c i d.1 (omega (arith, d.2))

-- ---- of a place

-- a place that is shut stays so
pub shut_later : (members : ℕ → Bool) (m c k : ℕ) → m ≤ suc c → live_at (not_yet members m) k ≡ false → live_at (not_yet members (suc c)) k ≡ false
unfolding live_at
shut_later members m c k h e = go (is_one k) (not_yet members m (higher_at k / 2)) refl (not_yet members m (lower_at k / 2)) refl e
  where
    go : (o : Bool) → (a : Bool) → not_yet members m (higher_at k / 2) ≡ a → (b : Bool) → not_yet members m (lower_at k / 2) ≡ b → (a && (o || b)) ≡ false
        → (not_yet members (suc c) (higher_at k / 2) && (o || not_yet members (suc c) (lower_at k / 2))) ≡ false
    go true true f b g d = clash refl d
    go o false f b g d = rw (had_later members m (suc c) (higher_at k / 2) h f)
    go false true f true g d = clash refl d
    go false true f false g d = rw (had_later members m (suc c) (lower_at k / 2) h g, and-false (not_yet members (suc c) (higher_at k / 2)))

-- at the place of one literal
pub turn_one : (members : ℕ → Bool) (m x : ℕ) → turn_at members m (place_of_one x) ≡ turn_of members m (x / 2)
unfolding turn_at
turn_one members m x = rw (one_is_one x, one_higher x)

-- a place whose quantities have had no turn yet has it at m
pub turn_open : (members : ℕ → Bool) (m k : ℕ) → live_at (not_yet members m) k ≡ true → turn_at members m k ≡ m
unfolding turn_at live_at
turn_open members m k e = go (is_one k) refl (not_yet members m (higher_at k / 2)) refl (not_yet members m (lower_at k / 2)) refl e
  where
    go : (o : Bool) → is_one k ≡ o → (a : Bool) → not_yet members m (higher_at k / 2) ≡ a → (b : Bool) → not_yet members m (lower_at k / 2) ≡ b → (a && (o || b)) ≡ true
        → cond (o || leb m (turn_of members m (lower_at k / 2))) (turn_of members m (higher_at k / 2)) (turn_of members m (lower_at k / 2)) ≡ m
    go true o true f b g d = turn_yet members m (higher_at k / 2) f
    go false o true f true g d =
        rw (turn_yet members m (lower_at k / 2) g, le-leb m m (omega arith)) (turn_yet members m (higher_at k / 2) f)
    go false o true f false g d = clash d refl
    go o q false f b g d = clash d refl

-- a turn comes no later than the end
pub turn_most : (members : ℕ → Bool) (m k : ℕ) → turn_at members m k ≤ m
unfolding turn_at
turn_most members m k = go (is_one k || leb m (turn_of members m (lower_at k / 2)))
  where
    each : (i : ℕ) → turn_of members m i ≤ m
    each i = case (members (suc i)) (ltb i m) refl
      where
        case : (b c : Bool) → ltb i m ≡ c → cond (b && c) i m ≤ m
        case true true e = omega (arith, ltb-true i m e)
        case true false e = omega arith
        case false c e = omega arith

    go : (b : Bool) → cond b (turn_of members m (higher_at k / 2)) (turn_of members m (lower_at k / 2)) ≤ m
    go true = each (higher_at k / 2)
    go false = each (lower_at k / 2)

-- a quantity that has had its turn keeps it,
had_same : (members : ℕ → Bool) (j i : ℕ) → not_yet members (suc j) i ≡ false → turn_of members (suc j) i ≡ turn_of members j i
had_same members j i e = go (ltb i j) refl
  where
    go : (b : Bool) → ltb i j ≡ b → turn_of members (suc j) i ≡ turn_of members j i
    go true d = let h = turn_had members (suc j) i e in rw (h.1, d, lt-ltb i (suc j) h.2)
    go false d =
        let h = turn_had members (suc j) i e in
        let q : i ≡ j = omega (arith, ltb-false i j d, h.2) in
        rw (h.1, d, lt-ltb i (suc j) h.2) q

-- and so does a place one of whose quantities has
pub turn_closed : (members : ℕ → Bool) (j k : ℕ) → live_at (not_yet members (suc j)) k ≡ false → turn_at members (suc j) k ≡ turn_at members j k
unfolding turn_at live_at
turn_closed members j k e =
    go (is_one k) refl (not_yet members (suc j) (higher_at k / 2)) refl (not_yet members (suc j) (lower_at k / 2)) refl e
  where
    high : ℕ
    high = higher_at k / 2

    low : ℕ
    low = lower_at k / 2

    -- the lower one has had it: before j, or at j, when the higher one has it later
    lower : is_one k ≡ false → not_yet members (suc j) low ≡ false → (b : Bool) → ltb low j ≡ b
        → cond (leb (suc j) (turn_of members (suc j) low)) (turn_of members (suc j) high) (turn_of members (suc j) low)
        ≡ cond (leb j (turn_of members j low)) (turn_of members j high) (turn_of members j low)
    lower o f true d =
        let h = turn_had members (suc j) low f in
        let l = ltb-true low j d in
        rw (h.1, d, lt-ltb low (suc j) h.2, lt-leb (suc j) low h.2, lt-leb j low l)
    lower o f false d =
        let h = turn_had members (suc j) low f in
        let q : low ≡ j = omega (arith, ltb-false low j d, h.2) in
        let above : j ≤ high = omega (arith, at_lower k o) in
        rw (h.1, d, lt-ltb low (suc j) h.2, lt-leb (suc j) low h.2, le-leb j j (omega arith), turn_yet members j high (yet_later members j high above)) q

    go : (o : Bool) → is_one k ≡ o → (a : Bool) → not_yet members (suc j) high ≡ a → (b : Bool) → not_yet members (suc j) low ≡ b → (a && (o || b)) ≡ false
        → cond (o || leb (suc j) (turn_of members (suc j) low)) (turn_of members (suc j) high) (turn_of members (suc j) low)
        ≡ cond (o || leb j (turn_of members j low)) (turn_of members j high) (turn_of members j low)
    go true o true f b g d = clash refl d
    go true o false f b g d = had_same members j high f
    go false o a f false g d = lower o g (ltb low j) refl
    go false o true f true g d = clash refl d
    go false o false f true g d =
        rw (
          turn_yet members (suc j) low g,
          le-leb (suc j) (suc j) (omega arith),
          turn_yet members j low (yet_before members j low g),
          le-leb j j (omega arith),
        ) (had_same members j high f)

-- at the place of a member at its turn and a literal of a quantity that has it later, or of another: the member's
pub turn_own : (members : ℕ → Bool) (n j k : ℕ) → j < n → live_at (not_yet members j) k ≡ true
    → live_at (not_yet members (suc j)) k ≡ false → turn_at members n k ≡ j
turn_own members n j k h free shut = ended n h
  where
    -- from j + 1 on the turn stays
    ended : (m : ℕ) → suc j ≤ m → turn_at members m k ≡ j
    ended zero g = let z : ⊥ = omega arith in absurd z
    ended (suc i) g = pick (ltb j i) refl (ended i)
      where
        pick : (b : Bool) → ltb j i ≡ b → (suc j ≤ i → turn_at members i k ≡ j) → turn_at members (suc i) k ≡ j
        pick true d ih = turn_closed members i k (shut_later members (suc j) i k (omega arith) shut) ∙ ih (ltb-true j i d)
        pick false d ih =
            let q : i ≡ j = omega (arith, ltb-false j i d) in
            rw q (turn_closed members j k shut ∙ turn_open members j k free)
