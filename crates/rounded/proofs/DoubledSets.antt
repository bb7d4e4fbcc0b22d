-- The set hidden in one table of doubled words, taken apart in the end: the key and its marks. Assumes nothing.
use mathlib.Core.Path.{◌≡◌, refl, sym, ◌∙◌, ap, ap₂}
use mathlib.Core.Bool.{Bool, true, false, ◌&&◌, ◌||◌}
use mathlib.Core.List.{List}
use Prim.Native.Nat.{ℕ, zero, suc, ◌+◌, ◌-◌, ◌*◌, ◌/◌, ◌≤◌, ◌<◌}
use native.Mathlib.Omega.{arith}
use lib.Dec.{ltb}
use lib.IntN.{ℤ, pos}
use lib.ListN.{length, drop}
use lib.Seq.{get_or-drop, ext_get_or}
use borrow.Author.Tests.{lt-ltb, ltb-true, ltb-false}
use Rattle.integers.specs.Bound.{bit}
use Rattle.words.specs.Change.{word_at}
use Rattle.words.specs.Lent.{Lent}
use Rattle.words.proofs.Change.{change_length, change_below, change_drop}
use Rattle.places.specs.Numbering.{block_start, place_of_one}
use Rattle.places.proofs.Numbering.{one_below}
use Rattle.rules.specs.Hidden.{hidden_in}
use Rattle.tables.proofs.Tests.{clash, neither}
use Rattle.elimination.specs.Hiding.{lone_word}
use Rattle.marks.specs.Marks.{Marked, byte_at, marked_of}
use Rattle.marks.specs.Doubled.{doubled_word, split_word, Doubles, TableDoubled, TableSplit}
use Rattle.marks.proofs.Splitting.{split_bound, split_mark}
use Rattle.keys.specs.Keys.{hide_up_to}
use Rattle.keys.specs.Inner.{AtTurns, ContradictionMet}
use Rattle.keys.specs.Copies.{clearing_set, set_cleared}
use Rattle.keys.proofs.Several.{hide_up_to_length, rest_hidden, hide_all}
use Rattle.keys.proofs.Fitting.{set_ample}
use Rattle.keys.proofs.AtTurns.{met_none}
use Rattle.keys.proofs.Deciding.{NoneMet}
use Rattle.keys.proofs.Turning.{turn_one}
use Rattle.keys.proofs.KeyCopies.{yet_last, key_word}
use Rattle.keys.proofs.Hiding.{set_hidden}
use Rattle.rounded.specs.Hiding.{marked_up_to, marked_key}
use Rattle.rounded.specs.Inner.{MarkedFits, SomeVisible, PairsUnmarked, MarkedHidden, halves_below, any_halves_below}
use Rattle.rounded.proofs.Bounds.{Agrees, start_agrees, start_bare, start_below, keeps_agrees, keeps_bare, keeps_below}
use Rattle.rounded.proofs.DoubledWords.{tame_large}
use Rattle.rounded.proofs.Doubling.{PairsClear, AllTame}
use Rattle.rounded.proofs.DoubledTurns.{doubled_met, halves_met, doubled_clear, turn_tame, turn_clear, turn_doubles}
use Rattle.rounded.proofs.MarkedFits.{marked_sums, marked_fits}
use Rattle.rounded.proofs.DoubledFits.{plain_small, pairs_clear}

-- ---- lists

-- lists with the same first m words and the same rest are the same
same_lists : (m : ℕ) (a b : List ℤ) → length a ≡ length b → ((k : ℕ) → k < m → word_at a k ≡ word_at b k) → drop m a ≡ drop m b → a ≡ b
same_lists m a b e front rest = ext_get_or (pos 0) a b e (λ k h. go k (ltb k m) refl)
  where
    go : (k : ℕ) (c : Bool) → ltb k m ≡ c → word_at a k ≡ word_at b k
    go k true q = front k (ltb-true k m q)
    go k false q =
        let s : m + (k - m) ≡ k = omega (arith, ltb-false k m q) in
        rw (← s) (sym (get_or-drop m a (k - m) (pos 0)) ∙ ap (λ (l : List ℤ). word_at l (k - m)) rest ∙ get_or-drop m b (k - m) (pos 0))

-- clearing keeps the length
pub cleared_length : (n set : ℕ) (t : List ℤ) → length (set_cleared n set t) ≡ length t
unfolding set_cleared
cleared_length n set t = change_length (block_start n) (clearing_set set) t

-- ---- halves below 0

-- there are some of a member,
any_some : (P : Type 0) (members : ℕ → Bool) (m : ℕ) (t : List ℤ) → any_halves_below members m t ≡ true
    → ((j : ℕ) → j < m → members (suc j) ≡ true → halves_below (lone_word t (2 * j)) (lone_word t (2 * j + 1)) ≡ true → P) → P
unfolding any_halves_below
any_some P members zero t e take = clash e refl
any_some P members (suc j) t e take =
    go (members (suc j)) refl (halves_below (lone_word t (2 * j)) (lone_word t (2 * j + 1))) refl e (λ f. any_some P members j t f (λ i h. take i (omega arith)))
  where
    go : (a : Bool) → members (suc j) ≡ a → (b : Bool) → halves_below (lone_word t (2 * j)) (lone_word t (2 * j + 1)) ≡ b
        → ((a && b) || any_halves_below members j t) ≡ true → (any_halves_below members j t ≡ true → P) → P
    go true p true q f rest = take j (omega arith) p q
    go true p false q f rest = rest f
    go false p b q f rest = rest f

-- or none of any
any_none : (members : ℕ → Bool) (m : ℕ) (t : List ℤ) → any_halves_below members m t ≡ false
    → (j : ℕ) → j < m → members (suc j) ≡ true → halves_below (lone_word t (2 * j)) (lone_word t (2 * j + 1)) ≡ false
unfolding any_halves_below
any_none members zero t e j h o = let z : ⊥ = omega arith in absurd z
any_none members (suc m) t e j h o =
    let p = (neither (members (suc m) && halves_below (lone_word t (2 * m)) (lone_word t (2 * m + 1))) (any_halves_below members m t)).0 e in
    go (ltb j m) refl p.0 (λ l. any_none members m t p.1 j l o)
  where
    go : (b : Bool) → ltb j m ≡ b → (members (suc m) && halves_below (lone_word t (2 * m)) (lone_word t (2 * m + 1))) ≡ false
        → (j < m → halves_below (lone_word t (2 * j)) (lone_word t (2 * j + 1)) ≡ false) → halves_below (lone_word t (2 * j)) (lone_word t (2 * j + 1)) ≡ false
    go true q own rest = rest (ltb-true j m q)
    go false q own rest =
        let s : j ≡ m = omega (arith, ltb-false j m q) in
        let a : members (suc m) ≡ true = rw s at o in
        rw s (rw a at own)

-- a member's words alone stay as they are at its turn
lone_turn : (members : ℕ → Bool) (n j z : ℕ) (t u : List ℤ) → j < n → z / 2 ≡ j → z < 2 * n → members (suc j) ≡ true → AtTurns members n n t u
    → lone_word u z ≡ lone_word (hide_up_to members n j t) z
lone_turn members n j z t u h e l o a =
    a.words (place_of_one z) (one_below n z l)
    ∙ ap (λ (m : ℕ). word_at (hide_up_to members n m t) (place_of_one z)) (turn_one members n z ∙ rw (e, o, lt-ltb j n h))

-- ---- the set hidden

module _ (n set : ℕ) (t : List ℤ) (marks : List ℕ) (f : MarkedFits n t marks) (v : SomeVisible n set) (c : PairsUnmarked n marks)
    (u : List ℤ) (d : TableDoubled (block_start n) t marks u) where
  abbrev hidden : ℕ → Bool
  hidden q = hidden_in set q

  abbrev start : ℕ → Marked
  start = marked_of t marks

  room : block_start n ≤ length u
  room = omega (arith, f.room, d.size)

  -- the turns of both tables
  agrees : (m : ℕ) → m ≤ n → Agrees n (marked_up_to (hidden_in set) m start) (hide_up_to (hidden_in set) n m t)
  agrees m h = keeps_agrees (hidden_in set) n m start t f.room h (start_agrees n t marks)

  tame : (m : ℕ) → m ≤ n → AllTame n (marked_up_to (hidden_in set) m start)
  tame = turn_tame (hidden_in set) n start t u f.room room (start_agrees n t marks) (pairs_clear n t marks c) d.words f.limit f.within (plain_small n set t marks f v)

  clear : (m : ℕ) → m ≤ n → PairsClear n (marked_up_to (hidden_in set) m start)
  clear = turn_clear (hidden_in set) n start t u f.room room (start_agrees n t marks) (pairs_clear n t marks c) d.words f.limit f.within (plain_small n set t marks f v)

  doubles : (m : ℕ) → m ≤ n → Doubles (block_start n) (marked_up_to (hidden_in set) m start) (hide_up_to (hidden_in set) n m u)
  doubles = turn_doubles (hidden_in set) n start t u f.room room (start_agrees n t marks) (pairs_clear n t marks c) d.words f.limit f.within (plain_small n set t marks f v)

  -- a contradiction met is one of the bounds
  met_plain : ContradictionMet (hidden_in set) n u → ContradictionMet (hidden_in set) n t
  met_plain m =
      let j = m.turn in
      let h : j ≤ n = let i = m.inside in omega arith in record {
        turn = j;
        inside = m.inside;
        member = m.member;
        met = doubled_met n j (marked_up_to (hidden_in set) j start) (hide_up_to (hidden_in set) n j t) (hide_up_to (hidden_in set) n j u) m.inside (agrees j h) (clear j h) (tame j h) (doubles j h) m.met;
      }

  module _ (w : List ℤ) (lent : Lent (block_start n) true u w) where
    -- where one is met, the words are free
    clashes : ContradictionMet (hidden_in set) n t → MarkedHidden n set t marks true w marks
    clashes m = record {
      hidden = record {
        met = (λ e. m, λ e. refl);
        none = λ e. met_none (hidden_in set) n t (set_ample (hidden_in set) n t (marked_sums n t marks f (hidden_in set))) m;
        key = λ e. clash refl e;
        some = λ e. clash refl e;
        lent = record { size = lent.size ∙ d.size; rest = lent.rest ∙ d.rest; kept = λ e. clash refl e };
      };
      marked = λ e. clash refl e;
      size = refl;
      rest = refl;
    }

    pub turns_clash : ContradictionMet (hidden_in set) n u → MarkedHidden n set t marks true w marks
    turns_clash m = clashes (met_plain m)

    module _ (a : AtTurns (hidden_in set) n n u w) where
      halves_turn : (j : ℕ) → j < n → hidden_in set (suc j) ≡ true
          → halves_below (lone_word w (2 * j)) (lone_word w (2 * j + 1))
          ≡ halves_below (lone_word (hide_up_to (hidden_in set) n j u) (2 * j)) (lone_word (hide_up_to (hidden_in set) n j u) (2 * j + 1))
      halves_turn j h o =
          ap₂ halves_below (lone_turn (hidden_in set) n j (2 * j) u w h (omega arith) (omega arith) o a) (lone_turn (hidden_in set) n j (2 * j + 1) u w h (omega arith) (omega arith) o a)

      pub halves_clash : any_halves_below (hidden_in set) n w ≡ true → MarkedHidden n set t marks true w marks
      halves_clash e = clashes (any_some (ContradictionMet (hidden_in set) n t) (hidden_in set) n w e at_turn)
        where
          at_turn : (j : ℕ) → j < n → hidden_in set (suc j) ≡ true → halves_below (lone_word w (2 * j)) (lone_word w (2 * j + 1)) ≡ true → ContradictionMet (hidden_in set) n t
          at_turn j h o b =
              let l : j ≤ n = omega arith in record {
                turn = j;
                inside = h;
                member = o;
                met = halves_met n j (marked_up_to (hidden_in set) j start) (hide_up_to (hidden_in set) n j t) (hide_up_to (hidden_in set) n j u) h (agrees j l) (clear j l) (tame j l) (doubles j l)
                    (sym (halves_turn j h o) ∙ b);
              }

      module _ (e : any_halves_below (hidden_in set) n w ≡ false) where
        none_met : NoneMet (hidden_in set) n n t
        none_met j h o =
            let l : j ≤ n = omega arith in
            doubled_clear n j (marked_up_to (hidden_in set) j start) (hide_up_to (hidden_in set) n j t) (hide_up_to (hidden_in set) n j u) h (agrees j l) (clear j l) (tame j l) (doubles j l)
            (a.clear j h o) (sym (halves_turn j h o) ∙ any_none (hidden_in set) n w e j h o)

        -- the words with the places of the set cleared are those of the marked key
        key_doubled : (k : ℕ) → k < block_start n → word_at (set_cleared n set w) k ≡ doubled_word (marked_up_to (hidden_in set) n start k)
        unfolding set_cleared
        key_doubled k h =
            change_below (block_start n) (clearing_set set) w k h (omega (arith, lent.size, room))
            ∙ rw (← yet_last (hidden_in set) n k h) (key_word (hidden_in set) n u w k room a h)
            ∙ ap (λ (l : List ℤ). word_at l k) (sym (hide_all (hidden_in set) n u))
            ∙ (doubles n (omega arith)).each k h

        cleared_size : length (set_cleared n set w) ≡ length t
        cleared_size = cleared_length n set w ∙ lent.size ∙ d.size

        cleared_rest : drop (block_start n) (set_cleared n set w) ≡ drop (block_start n) t
        unfolding set_cleared
        cleared_rest = change_drop (block_start n) (clearing_set set) w ∙ lent.rest ∙ d.rest

        pub set_split : (x : List ℤ) (marks' : List ℕ) → TableSplit (block_start n) (set_cleared n set w) marks x marks' → MarkedHidden n set t marks false x marks'
        set_split x marks' s = record {
          hidden = set_hidden n set t (marked_fits n t marks f) x key none_met;
          marked = λ q. record { size = s.marks_size; each = each; rest = s.marks_rest };
          size = s.marks_size;
          rest = s.marks_rest;
        }
          where
            word : (k : ℕ) → k < block_start n → word_at x k ≡ word_at (hide_up_to (hidden_in set) n n t) k
            word k h =
                let g : n ≤ n = omega arith in
                let b = agrees n g k h in
                s.words k h ∙ ap (λ (z : ℤ). (split_word z).bound) (key_doubled k h)
                ∙ split_bound (marked_up_to (hidden_in set) n start k) (tame_large (marked_up_to (hidden_in set) n start k) (tame n g k h)) (keeps_below (hidden_in set) n n start (start_below n t marks f.none_above) (start_bare n t marks) k h)
                ∙ b

            key : x ≡ hide_up_to (hidden_in set) n n t
            key =
                same_lists (block_start n) x (hide_up_to (hidden_in set) n n t) (s.size ∙ cleared_size ∙ sym (hide_up_to_length (hidden_in set) n n t)) word
                (s.rest ∙ cleared_rest ∙ sym (rest_hidden (hidden_in set) n n t))

            each : (k : ℕ) → k < block_start n → byte_at marks' k ≡ bit (marked_key (hidden_in set) n start k).mark
            each k h =
                let g : n ≤ n = omega arith in
                s.bytes k h
                ∙ ap (λ (z : ℤ). bit (split_word z).mark) (key_doubled k h)
                ∙ ap bit (split_mark (marked_up_to (hidden_in set) n start k) (tame_large (marked_up_to (hidden_in set) n start k) (tame n g k h)) (keeps_bare (hidden_in set) n n start g (start_below n t marks f.none_above) (start_bare n t marks) k h))
