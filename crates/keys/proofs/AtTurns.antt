-- Members eliminated one after the other, nothing cleared: each place is as at its turn, and contradictions are those of hiding. Assumes nothing.
use mathlib.Core.Path.{◌≡◌, refl, sym, ◌∙◌}
use mathlib.Core.Bool.{Bool, true, false, not, ◌&&◌, ◌||◌, and-false}
use mathlib.Core.List.{List}
use Prim.Native.Nat.{ℕ, zero, suc, ◌+◌, ◌*◌, ◌/◌, ◌≤◌, ◌<◌}
use native.Mathlib.Omega.{arith}
use lib.Dec.{eqb, leb, ltb}
use lib.IntN.{ℤ}
use lib.ListN.{length}
use borrow.Author.Tests.{eqb-true, eqb-false, leb-true, leb-false, le-leb, lt-ltb, le-ltb}
use Rattle.words.specs.Change.{word_at}
use Rattle.places.specs.Numbering.{block_start, place_of_one, place_of_pair, is_one, higher_at, lower_at}
use Rattle.places.proofs.Numbering.{one_below, pair_below, at_lower, at_below}
use Rattle.rules.specs.Hidden.{hidden_in}
use Rattle.rules.specs.Meaning.{names}
use Rattle.tables.specs.Places.{rule_at}
use Rattle.tables.specs.Meaning.{Unsatisfiable}
use Rattle.tables.proofs.Tests.{clash}
use Rattle.tables.proofs.Without.{cleared_word}
use Rattle.elimination.specs.Hiding.{every, pair_word, lone_word, live_at, paired, contradicts, eliminated}
use Rattle.elimination.specs.Magnitude.{Unnamed}
use Rattle.elimination.proofs.TermWords.{quantity_cases, pair_same, pair_first, pair_second}
use Rattle.elimination.proofs.Terms.{place_unnamed}
use Rattle.elimination.proofs.PairedWords.{live_one, live_pair, paired_dead}
use Rattle.elimination.proofs.Step.{paired_length}
use Rattle.elimination.proofs.Fewer.{fewer_paired, fewer_contradicts}
use Rattle.elimination.proofs.Alike.{alike_word, alike_contradicts}
use Rattle.keys.specs.declared.live.Part.{Part}
use Rattle.keys.specs.declared.live.Part.TheVariants.{Inside, Outside}
use Rattle.keys.specs.Keys.{hide_up_to}
use Rattle.keys.specs.Inner.{member_of, still_live, turn_at, AtTurns, ContradictionMet}
use Rattle.keys.proofs.Several.{AmpleUpTo, hide_up_to_length, hide_up_to_unnamed, never_contradicts}
use Rattle.keys.proofs.Fitting.{hide_unnamed}
use Rattle.keys.proofs.Turning.{not_yet, turn_had, turn_open, turn_closed, turn_most, yet_before, yet_later, had_yet}

-- a set of live quantities, some of those that have had no turn yet; the others are named by no rule
pub record LiveNow (members live : ℕ → Bool) (n m : ℕ) (t : List ℤ) : Type 0 where
  pub yet : (i : ℕ) → i < n → live i ≡ true → not_yet members m i ≡ true
  pub rest : (i : ℕ) → i < n → not_yet members m i ≡ true → live i ≡ false → Unnamed n i t

-- the quantities still live are so, where the part is outside a set those in which no rule names
pub live_part : (set : ℕ) (part : Part) (n m : ℕ) (t : List ℤ) → ((i : ℕ) → i < n → still_live set part 0 i ≡ false → Unnamed n i t)
    → LiveNow (member_of set part) (still_live set part m) n m t
live_part set Inside n m t alone = record { yet = λ i g. yet i (hidden_in set (suc i)) refl (leb m i) refl; rest = λ i g. rest i (hidden_in set (suc i)) refl (leb m i) refl }
  where
    yet : (i : ℕ) → (b : Bool) → hidden_in set (suc i) ≡ b → (c : Bool) → leb m i ≡ c → (c || not b) ≡ true → not (b && ltb i m) ≡ true
    yet i false e c f d = refl
    yet i true e true f d = rw (le-ltb i m (leb-true m i f))
    yet i true e false f d = clash d refl

    rest : (i : ℕ) → (b : Bool) → hidden_in set (suc i) ≡ b → (c : Bool) → leb m i ≡ c → not (b && ltb i m) ≡ true → (c || not b) ≡ false → Unnamed n i t
    rest i b e true f d g = clash refl g
    rest i false e false f d g = clash refl g
    rest i true e false f d g = clash (rw (lt-ltb i m (leb-false m i f)) at d) refl
live_part set Outside n m t alone = record { yet = λ i g. yet i (hidden_in set (suc i)) refl (leb m i) refl; rest = λ i g. rest i g (hidden_in set (suc i)) refl (leb m i) refl }
  where
    yet : (i : ℕ) → (b : Bool) → hidden_in set (suc i) ≡ b → (c : Bool) → leb m i ≡ c → (c && not b) ≡ true → not (not b && ltb i m) ≡ true
    yet i true e c f d = refl
    yet i false e true f d = rw (le-ltb i m (leb-true m i f))
    yet i false e false f d = clash d refl

    rest : (i : ℕ) → i < n → (b : Bool) → hidden_in set (suc i) ≡ b → (c : Bool) → leb m i ≡ c → not (not b && ltb i m) ≡ true → (c && not b) ≡ false → Unnamed n i t
    rest i h true e c f d g = alone i h (rw e (and-false (leb 0 i)))
    rest i h false e true f d g = clash refl g
    rest i h false e false f d g = clash (rw (lt-ltb i m (leb-false m i f)) at d) refl

-- ---- places

-- a place is live where its literals are
live_some : (live fewer : ℕ → Bool) (n k : ℕ) → k < block_start n → ((i : ℕ) → i < n → fewer i ≡ true → live i ≡ true) → live_at fewer k ≡ true → live_at live k ≡ true
unfolding live_at
live_some live fewer n k h some e = go (is_one k) refl (fewer (higher_at k / 2)) refl (fewer (lower_at k / 2)) refl e
  where
    high : higher_at k / 2 < n
    high = let g = at_below n k h in omega arith

    go : (o : Bool) → is_one k ≡ o → (a : Bool) → fewer (higher_at k / 2) ≡ a → (b : Bool) → fewer (lower_at k / 2) ≡ b → (a && (o || b)) ≡ true
        → (live (higher_at k / 2) && (o || live (lower_at k / 2))) ≡ true
    go true o true f b g d = rw (some (higher_at k / 2) high f)
    go false o true f true g d =
        let low : lower_at k / 2 < n = omega (arith, at_lower k o, high) in rw (some (higher_at k / 2) high f, some (lower_at k / 2) low g)
    go false o true f false g d = clash d refl
    go o q false f b g d = clash d refl

live_fewer : (live fewer : ℕ → Bool) (n k : ℕ) → k < block_start n → ((i : ℕ) → i < n → fewer i ≡ true → live i ≡ true) → live_at live k ≡ false → live_at fewer k ≡ false
live_fewer live fewer n k h some e = go (live_at fewer k) refl
  where
    go : (b : Bool) → live_at fewer k ≡ b → b ≡ false
    go true d = clash (live_some live fewer n k h some d) e
    go false d = refl

-- a place that is open after quantity j + 1 has had its turn does not name it, where it is a member
open_unnamed : (members : ℕ → Bool) (j k : ℕ) (c : ℤ) → members (suc j) ≡ true → live_at (not_yet members (suc j)) k ≡ true → names (suc j) (rule_at k c) ≡ false
unfolding live_at
open_unnamed members j k c e free = go (is_one k) refl (not_yet members (suc j) (higher_at k / 2)) refl (not_yet members (suc j) (lower_at k / 2)) refl free
  where
    shut : not_yet members (suc j) j ≡ false
    shut = had_yet members (suc j) j e (omega arith)

    go : (o : Bool) → is_one k ≡ o → (a : Bool) → not_yet members (suc j) (higher_at k / 2) ≡ a → (b : Bool) → not_yet members (suc j) (lower_at k / 2) ≡ b
        → (a && (o || b)) ≡ true → names (suc j) (rule_at k c) ≡ false
    go o q true f true g d = place_unnamed j k c (λ r. clash (rw r at f) shut) (λ s r. clash (rw r at g) shut)
    go true q true f false g d = place_unnamed j k c (λ r. clash (rw r at f) shut) (λ s. clash q s)
    go false q true f false g d = clash d refl
    go o q false f b g d = clash d refl

-- ---- one quantity more

module _ (members : ℕ → Bool) (n j : ℕ) (t u : List ℤ) (l : block_start n ≤ length t) (h : j < n) (m : block_start n ≤ length u) (a : AtTurns members n j t u) where
  abbrev before : List ℤ
  before = hide_up_to members n j t

  room : block_start n ≤ length before
  room = omega (arith, hide_up_to_length members n j t)

  -- a place that is open has the word with the members before hidden
  open_word : (k : ℕ) → k < block_start n → live_at (not_yet members j) k ≡ true → word_at u k ≡ word_at before k
  open_word k b e = a.words k b ∙ rw (turn_open members j k e)

  open_lone : (z : ℕ) → z < 2 * n → not_yet members j (z / 2) ≡ true → lone_word u z ≡ lone_word before z
  open_lone z b e = open_word (place_of_one z) (one_below n z b) (live_one (not_yet members j) z ∙ e)

  open_pair : (z x : ℕ) → z < 2 * n → x < 2 * n → not_yet members j (z / 2) ≡ true → not_yet members j (x / 2) ≡ true → pair_word u z x ≡ pair_word before z x
  open_pair z x b c e f =
      quantity_cases (pair_word u z x ≡ pair_word before z x) z x
      (λ s. pair_same u z x s ∙ sym (pair_same before z x s))
      (λ o. pair_first u z x o ∙ open_word (place_of_pair z x) (pair_below n z x o c) (live_pair (not_yet members j) z x o ∙ rw (e, f)) ∙ sym (pair_first before z x o))
      (λ o. pair_second u x z o ∙ open_word (place_of_pair x z) (pair_below n x z o b) (live_pair (not_yet members j) x z o ∙ rw (e, f)) ∙ sym (pair_second before x z o))

  -- ---- that is no member

  pub skip_turn : members (suc j) ≡ false → AtTurns members n (suc j) t u
  unfolding hide_up_to
  skip_turn e = record { words = λ k b. word k b (live_at (not_yet members (suc j)) k) refl; clear = λ i g d. clear i g d (eqb i j) refl }
    where
      word : (k : ℕ) → k < block_start n → (c : Bool) → live_at (not_yet members (suc j)) k ≡ c → word_at u k ≡ word_at (hide_up_to members n (turn_at members (suc j) k) t) k
      word k b true o =
          rw (turn_open members (suc j) k o, e)
          (open_word k b (live_some (not_yet members j) (not_yet members (suc j)) n k b (λ i g. yet_before members j i) o))
      word k b false o = rw (turn_closed members j k o) (a.words k b)

      clear : (i : ℕ) → i < suc j → members (suc i) ≡ true → (c : Bool) → eqb i j ≡ c → contradicts every n i (hide_up_to members n i t) ≡ false
      clear i g d true q = clash d (rw (eqb-true i j q) e)
      clear i g d false q = a.clear i (omega (arith, eqb-false i j q)) d

  -- ---- that is one

  module _ (live : ℕ → Bool) (e : members (suc j) ≡ true) (now : LiveNow members live n (suc j) t) where
    yet_now : (x : ℕ) → x < 2 * n → live (x / 2) ≡ true → not_yet members j (x / 2) ≡ true
    yet_now x b d = yet_before members j (x / 2) (now.yet (x / 2) (omega arith) d)

    own : (z : ℕ) → z / 2 ≡ j → not_yet members j (z / 2) ≡ true
    own z q = rw q (yet_later members j j (omega arith))

    -- those that are not live are named by no rule where the members before are hidden
    gone : (i : ℕ) → i < n → (i ≡ j → ⊥) → live i ≡ false → Unnamed n i before
    gone i g d f = go (not_yet members (suc j) i) refl
      where
        go : (b : Bool) → not_yet members (suc j) i ≡ b → Unnamed n i before
        go true y = hide_unnamed members n j i t (omega arith) l (now.rest i g y f)
        go false y =
            let p = turn_had members (suc j) i y in
            hide_up_to_unnamed members n j i t (omega arith) l (rw (p.1, le-leb (suc i) j (omega (arith, p.2, d))))

    -- so the step there is document 01's,
    step_all : paired every n j before ≡ paired live n j before
    step_all = fewer_paired every live n j before room h (λ i g f. refl) (λ i g d f y. gone i g d y)

    plus : (x : ℕ) → x < 2 * n → live (x / 2) ≡ true → pair_word u (2 * j) x ≡ pair_word before (2 * j) x
    plus x b d = open_pair (2 * j) x (omega arith) b (own (2 * j) (omega arith)) (yet_now x b d)

    minus : (x : ℕ) → x < 2 * n → live (x / 2) ≡ true → pair_word u (2 * j + 1) x ≡ pair_word before (2 * j + 1) x
    minus x b d = open_pair (2 * j + 1) x (omega arith) b (own (2 * j + 1) (omega arith)) (yet_now x b d)

    plus_alone : lone_word u (2 * j) ≡ lone_word before (2 * j)
    plus_alone = open_lone (2 * j) (omega arith) (own (2 * j) (omega arith))

    minus_alone : lone_word u (2 * j + 1) ≡ lone_word before (2 * j + 1)
    minus_alone = open_lone (2 * j + 1) (omega arith) (own (2 * j + 1) (omega arith))

    -- and its contradictions are those of hiding
    pub turn_contradicts : contradicts live n j u ≡ contradicts every n j before
    turn_contradicts =
        alike_contradicts live n j before u plus minus plus_alone minus_alone
        ∙ sym (fewer_contradicts every live n j before room h (λ i g f. refl) (λ i g d f y. gone i g d y))

    -- the word of an open place after the step
    after_word : (k : ℕ) → k < block_start n → live_at (not_yet members (suc j)) k ≡ true → word_at (paired live n j u) k ≡ word_at (eliminated n j before) k
    unfolding eliminated
    after_word k b o =
        alike_word live n j before u room m k b
        (open_word k b (live_some (not_yet members j) (not_yet members (suc j)) n k b (λ i g. yet_before members j i) o)) plus minus plus_alone minus_alone
        ∙ rw (← step_all)
        (sym (cleared_word n (suc j) (paired every n j before) k (omega (arith, paired_length every n j before, room)) b
        ∙ rw (open_unnamed members j k (word_at (paired every n j before) k) e o)))

    pub next_turn : contradicts live n j u ≡ false → AtTurns members n (suc j) t (paired live n j u)
    unfolding hide_up_to
    next_turn c = record { words = λ k b. word k b (live_at (not_yet members (suc j)) k) refl; clear = λ i g d. clear i g d (eqb i j) refl }
      where
        word : (k : ℕ) → k < block_start n → (d : Bool) → live_at (not_yet members (suc j)) k ≡ d
            → word_at (paired live n j u) k ≡ word_at (hide_up_to members n (turn_at members (suc j) k) t) k
        word k b true o = rw (turn_open members (suc j) k o, e) (after_word k b o)
        word k b false o =
            rw (turn_closed members j k o, paired_dead live n j u m k b (live_fewer (not_yet members (suc j)) live n k b now.yet o)) (a.words k b)

        clear : (i : ℕ) → i < suc j → members (suc i) ≡ true → (d : Bool) → eqb i j ≡ d → contradicts every n i (hide_up_to members n i t) ≡ false
        clear i g d true q = rw (eqb-true i j q) (sym turn_contradicts ∙ c)
        clear i g d false q = a.clear i (omega (arith, eqb-false i j q)) d

    -- a contradiction with the live ones is one with all
    pub turn_met : contradicts live n j u ≡ true → ContradictionMet members n t
    turn_met c = record { turn = j; inside = h; member = e; met = sym turn_contradicts ∙ c }

-- where one is met, no integers satisfy the table
pub met_none : (members : ℕ → Bool) (n : ℕ) (t : List ℤ) → AmpleUpTo members n t → ContradictionMet members n t → Unsatisfiable n t
met_none members n t ample c σ s = clash c.met (never_contradicts members n c.turn t σ c.inside ample s)

-- ---- before the first

pub no_turn : (members : ℕ → Bool) (n : ℕ) (t : List ℤ) → AtTurns members n 0 t t
unfolding hide_up_to
no_turn members n t = record { words = λ k b. go k (turn_at members 0 k) (turn_most members 0 k); clear = λ j h. let z : ⊥ = omega arith in absurd z }
  where
    go : (k c : ℕ) → c ≤ 0 → word_at t k ≡ word_at (hide_up_to members n c t) k
    go k zero h = refl
    go k (suc c) h = let z : ⊥ = omega arith in absurd z
