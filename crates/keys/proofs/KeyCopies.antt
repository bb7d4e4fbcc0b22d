-- The key copied from a table in which the hidden quantities are eliminated: a place that names none of them has the key's word, and at any other the key has no rule. Assumes nothing.
use mathlib.Core.Path.{◌≡◌, refl, sym, ◌∙◌, ap}
use mathlib.Core.Bool.{Bool, true, false, cond, not, ◌&&◌, ◌||◌, and-true}
use mathlib.Core.List.{List}
use Prim.Native.Nat.{ℕ, zero, suc, ◌+◌, ◌-◌, ◌*◌, ◌/◌, ◌≤◌, ◌<◌}
use native.Mathlib.Numerals.{add-one}
use native.Mathlib.Omega.{arith}
use lib.Dec.{eqb, ltb}
use lib.IntN.{ℤ}
use lib.ListN.{length, drop, length-drop}
use borrow.Author.Tests.{eqb-true, eqb-false, eq-eqb, ne_eqb, lt-ltb, le-ltb, ltb-true, ltb-false, le-leb}
use borrow.Rule.Slice.PartMut.{mid_of, put_mid}
use Rattle.std.specs.Prelude.{Ok}
use Rattle.words.specs.Change.{word_at, change, starting_at}
use Rattle.words.proofs.Change.{change_length, change_below, change_is, change_same, change_nothing, change_past, change_drop}
use Rattle.places.specs.Numbering.{block_start, is_one, higher_at, lower_at}
use Rattle.places.proofs.Numbering.{at_lower, at_below}
use Rattle.rules.specs.declared.rule.Rule.TheVariants.{One, Two}
use Rattle.rules.specs.Hidden.{hidden_in}
use Rattle.rules.specs.Limits.{no_rule, max_quantities}
use Rattle.rules.specs.Literal.{quantity_of}
use Rattle.rules.specs.Meaning.{names}
use Rattle.tables.specs.Replies.{Reply}
use Rattle.tables.specs.Places.{rule_at}
use Rattle.tables.specs.Tables.{table_size, clearing, cleared, clear_reply}
use Rattle.tables.specs.Promises.{Cleared}
use Rattle.tables.proofs.Sizes.{long_serves, size_known}
use Rattle.tables.proofs.Tests.{clash}
use Rattle.tables.proofs.Without.{cleared_word}
use Rattle.elimination.specs.Hiding.{every, live_at, paired, eliminated}
use Rattle.elimination.proofs.PairedWords.{paired_dead}
use Rattle.elimination.proofs.Step.{paired_length}
use Rattle.elimination.proofs.Fewer.{fewer_paired}
use Rattle.keys.specs.Keys.{hide_up_to, key_of}
use Rattle.keys.specs.Inner.{AtTurns}
use Rattle.keys.specs.Copies.{clearing_set, set_cleared, KeyCopied}
use Rattle.keys.proofs.Several.{hide_up_to_length, hide_up_to_unnamed, hide_all}
use Rattle.keys.proofs.Turning.{not_yet, turn_had, turn_open, had_yet, yet_later}
use Rattle.keys.proofs.Parts.{PartBack, part_back, drop_twice, front_word, back_word}

-- ---- the places that name no member among the first m

-- two sets that agree on n quantities agree on their places
pub live_same : (live other : ℕ → Bool) (n k : ℕ) → k < block_start n → ((i : ℕ) → i < n → live i ≡ other i) → live_at live k ≡ live_at other k
unfolding live_at
live_same live other n k h same = go (is_one k) refl
  where
    high : higher_at k / 2 < n
    high = let g = at_below n k h in omega arith

    go : (o : Bool) → is_one k ≡ o → (live (higher_at k / 2) && (o || live (lower_at k / 2))) ≡ (other (higher_at k / 2) && (o || other (lower_at k / 2)))
    go true o = rw (same (higher_at k / 2) high)
    go false o =
        let low : lower_at k / 2 < n = omega (arith, at_lower k o, high) in rw (same (higher_at k / 2) high, same (lower_at k / 2) low)

-- at first no quantity has had its turn
yet_first : (members : ℕ → Bool) (k : ℕ) → live_at (not_yet members 0) k ≡ true
unfolding live_at
yet_first members k = rw (yet_later members 0 (higher_at k / 2) (omega arith), yet_later members 0 (lower_at k / 2) (omega arith)) (go (is_one k))
  where
    go : (o : Bool) → (o || true) ≡ true
    go true = refl
    go false = refl

-- in the end all members have
pub yet_last : (members : ℕ → Bool) (n k : ℕ) → k < block_start n → live_at (not_yet members n) k ≡ live_at (λ i. not (members (suc i))) k
yet_last members n k h = live_same (not_yet members n) (λ i. not (members (suc i))) n k h (λ i g. rw (lt-ltb i n g, and-true (members (suc i))))

below_next : (i j : ℕ) → (i ≡ j → ⊥) → ltb i (suc j) ≡ ltb i j
below_next i j apart = go (ltb i j) refl
  where
    go : (b : Bool) → ltb i j ≡ b → ltb i (suc j) ≡ b
    go true e = lt-ltb i (suc j) (omega (arith, ltb-true i j e))
    go false e = le-ltb i (suc j) (omega (arith, ltb-false i j e, apart))

-- a quantity that is no member closes no place
yet_skip : (members : ℕ → Bool) (n j k : ℕ) → k < block_start n → members (suc j) ≡ false → live_at (not_yet members (suc j)) k ≡ live_at (not_yet members j) k
yet_skip members n j k h e = live_same (not_yet members (suc j)) (not_yet members j) n k h (λ i g. go i (eqb i j) refl)
  where
    go : (i : ℕ) (b : Bool) → eqb i j ≡ b → not_yet members (suc j) i ≡ not_yet members j i
    go i true q = let s = eqb-true i j q in rw (s, e)
    go i false q = rw (below_next i j (eqb-false i j q))

-- a member has its turn at its own number,
own_turn : (members : ℕ → Bool) (j i : ℕ) → members (suc j) ≡ true → not_yet members (suc j) i ≡ (not_yet members j i && not (eqb (i + 1) (suc j)))
own_turn members j i e = go (eqb i j) refl
  where
    go : (b : Bool) → eqb i j ≡ b → not_yet members (suc j) i ≡ (not_yet members j i && not (eqb (i + 1) (suc j)))
    go true q =
        let s = eqb-true i j q in
        rw (s, had_yet members (suc j) j e (omega arith), yet_later members j j (omega arith), eq-eqb (j + 1) (suc j) (add-one j))
    go false q =
        rw (ne_eqb (i + 1) (suc j) (λ d. eqb-false i j q (omega arith)), below_next i j (eqb-false i j q)) (sym (and-true (not (members (suc i) && ltb i j))))

-- which closes the places that name it
yet_more : (members : ℕ → Bool) (j k : ℕ) (c : ℤ) → members (suc j) ≡ true
    → live_at (not_yet members (suc j)) k ≡ (live_at (not_yet members j) k && not (names (suc j) (rule_at k c)))
unfolding live_at names rule_at
yet_more members j k c e = rw (own_turn members j (higher_at k / 2) e, own_turn members j (lower_at k / 2) e) (go (is_one k))
  where
    one : (a x : Bool) → ((a && not x) && true) ≡ ((a && true) && not x)
    one true true = refl
    one true false = refl
    one false x = refl

    two : (a b x y : Bool) → ((a && not x) && (b && not y)) ≡ ((a && b) && not (y || x))
    two true true true true = refl
    two true true true false = refl
    two true true false true = refl
    two true true false false = refl
    two true false true y = refl
    two true false false y = refl
    two false b x y = refl

    high : ℕ
    high = higher_at k

    low : ℕ
    low = lower_at k

    go : (o : Bool)
        → ((not_yet members j (high / 2) && not (eqb (quantity_of high) (suc j))) && (o || (not_yet members j (low / 2) && not (eqb (quantity_of low) (suc j)))))
        ≡ ((not_yet members j (high / 2) && (o || not_yet members j (low / 2)))
        && not (names (suc j) (cond o (One high c) (Two low high c))))
    go true = one (not_yet members j (high / 2)) (eqb (quantity_of high) (suc j))
    go false = two (not_yet members j (high / 2)) (not_yet members j (low / 2)) (eqb (quantity_of high) (suc j)) (eqb (quantity_of low) (suc j))

-- ---- the words copied on

-- as a change: the word that a list has m places before
abbrev word_before : ℕ → List ℤ → ℕ → ℤ → ℤ
word_before m t k w = word_at t (k - m)

-- the first m words copied over the next m
unfoldable pub copied_on : ℕ → List ℤ → List ℤ
copied_on m t = change (2 * m) (starting_at m (word_before m t)) t

-- a list with the first m words again as the next m, and else as it was
pub copied_is : (m : ℕ) (t u : List ℤ) → length u ≡ length t → ((k : ℕ) → k < m → word_at u k ≡ word_at t k)
    → ((k : ℕ) → m ≤ k → k < m + (m - 0) → word_at u k ≡ word_at t (0 + (k - m))) → ((k : ℕ) → m + (m - 0) ≤ k → word_at u k ≡ word_at t k) → u ≡ copied_on m t
unfolding copied_on
copied_is m t u e front next past = change_is (2 * m) (starting_at m (word_before m t)) t u e (λ k h l. go k h (ltb k m) refl) (λ k h l. past k (omega arith))
  where
    go : (k : ℕ) → k < 2 * m → (b : Bool) → ltb k m ≡ b → word_at u k ≡ starting_at m (word_before m t) k (word_at t k)
    go k h true q = rw q (front k (ltb-true k m q))
    go k h false q = let e : 0 + (k - m) ≡ k - m = omega arith in rw q (rw e at (next k (ltb-false k m q) (omega arith)))

module _ (m : ℕ) (t : List ℤ) (l : 2 * m ≤ length t) where
  -- the first words stay
  copied_front : (k : ℕ) → k < m → word_at (copied_on m t) k ≡ word_at t k
  unfolding copied_on
  copied_front k h = change_below (2 * m) (starting_at m (word_before m t)) t k (omega arith) (omega arith) ∙ rw (lt-ltb k m h)

  -- the next ones are as the first
  copied_next : (k : ℕ) → k < m → word_at (copied_on m t) (m + k) ≡ word_at t k
  unfolding copied_on
  copied_next k h =
      change_below (2 * m) (starting_at m (word_before m t)) t (m + k) (omega arith) (omega arith) ∙ rw (le-ltb (m + k) m (omega arith), back)
    where
      back : m + k - m ≡ k
      back = omega arith

copied_drop : (m : ℕ) (t : List ℤ) → drop (2 * m) (copied_on m t) ≡ drop (2 * m) t
unfolding copied_on
copied_drop m t = change_drop (2 * m) (starting_at m (word_before m t)) t

pub copied_length : (m : ℕ) (t : List ℤ) → length (copied_on m t) ≡ length t
unfolding copied_on
copied_length m t = change_length (2 * m) (starting_at m (word_before m t)) t

-- ---- the places of members cleared

-- those of the members among the first m
abbrev clearing_up_to : (ℕ → Bool) → ℕ → ℕ → ℤ → ℤ
clearing_up_to members m k w = cond (live_at (not_yet members m) k) w no_rule

unfoldable pub cleared_up_to : (ℕ → Bool) → ℕ → ℕ → List ℤ → List ℤ
cleared_up_to members n m t = change (block_start n) (clearing_up_to members m) t

pub clear_none : (members : ℕ → Bool) (n : ℕ) (t : List ℤ) → t ≡ cleared_up_to members n 0 t
unfolding cleared_up_to
clear_none members n t = sym (change_nothing (block_start n) (clearing_up_to members 0) t (λ k h. rw (yet_first members k)))

-- no member more
clear_skip : (members : ℕ → Bool) (n j : ℕ) (t : List ℤ) → members (suc j) ≡ false → cleared_up_to members n j t ≡ cleared_up_to members n (suc j) t
unfolding cleared_up_to
clear_skip members n j t e =
    change_same (block_start n) (clearing_up_to members j) (clearing_up_to members (suc j)) t (λ k h. rw (yet_skip members n j k h e))

-- one more
clear_more : (members : ℕ → Bool) (n j : ℕ) (t : List ℤ) → members (suc j) ≡ true → block_start n ≤ length t
    → cleared n (suc j) (cleared_up_to members n j t) ≡ cleared_up_to members n (suc j) t
unfolding cleared_up_to cleared
clear_more members n j t e l =
    change_is (block_start n) (clearing_up_to members (suc j)) t (change (block_start n) (clearing (suc j)) u)
    (change_length (block_start n) (clearing (suc j)) u ∙ size)
    (λ k h g. change_below (block_start n) (clearing (suc j)) u k h (omega (arith, size)) ∙ below k h g)
    (λ k h g. change_past (block_start n) (clearing (suc j)) u k h ∙ change_past (block_start n) (clearing_up_to members j) t k h)
  where
    u : List ℤ
    u = change (block_start n) (clearing_up_to members j) t

    size : length u ≡ length t
    size = change_length (block_start n) (clearing_up_to members j) t

    both : (a b : Bool) (w : ℤ) → cond b no_rule (cond a w no_rule) ≡ cond (a && not b) w no_rule
    both true true w = refl
    both true false w = refl
    both false true w = refl
    both false false w = refl

    below : (k : ℕ) → k < block_start n → k < length t → clearing (suc j) k (word_at u k) ≡ clearing_up_to members (suc j) k (word_at t k)
    below k h g =
        rw (yet_more members j k (word_at u k) e)
        (ap (cond (names (suc j) (rule_at k (word_at u k))) no_rule) (change_below (block_start n) (clearing_up_to members j) t k h g)
        ∙ both (live_at (not_yet members j) k) (names (suc j) (rule_at k (word_at u k))) (word_at t k))

pub clear_length : (members : ℕ → Bool) (n m : ℕ) (t : List ℤ) → length (cleared_up_to members n m t) ≡ length t
unfolding cleared_up_to
clear_length members n m t = change_length (block_start n) (clearing_up_to members m) t

-- in the program's words: a quantity that is no member is left,
pub clear_other : (members : ℕ → Bool) (n j : ℕ) (t u : List ℤ) → members (j + 1) ≡ false → u ≡ cleared_up_to members n j t → u ≡ cleared_up_to members n (j + 1) t
clear_other members n j t u e d = let f : members (suc j) ≡ false = rw (add-one j) at e in rw (add-one j) (d ∙ clear_skip members n j t f)

-- and the places of a member are cleared
pub clear_member : (members : ℕ → Bool) (n j : ℕ) (t u v : List ℤ) (reply : Reply) → n ≤ max_quantities → j < n → block_start n ≤ length t → members (j + 1) ≡ true
    → u ≡ cleared_up_to members n j t → Cleared n (j + 1) u reply v → v ≡ cleared_up_to members n (j + 1) t
unfolding clear_reply
clear_member members n j t u v reply most h l e d c =
    let f : members (suc j) ≡ true = rw (add-one j) at e in
    c.table ∙ rw (done, add-one j, d) (clear_more members n j t f l)
  where
    room : block_start n ≤ length u
    room = rw (d, clear_length members n j t) l

    done : reply ≡ Ok tt
    done = c.reply ∙ rw (long_serves n (length u) (omega arith) most room, le-leb 1 (j + 1) (omega arith), le-leb (j + 1) n (omega arith))

pub clear_all : (set n : ℕ) (t : List ℤ) → cleared_up_to (hidden_in set) n n t ≡ set_cleared n set t
unfolding cleared_up_to set_cleared
clear_all set n t = change_same (block_start n) (clearing_up_to (hidden_in set) n) (clearing_set set) t (λ k h. rw (yet_last (hidden_in set) n k h))

-- ---- the key's words

-- a place that names a hidden quantity of the first m has no rule once these are hidden
pub hide_blank : (hidden : ℕ → Bool) (n m : ℕ) (t : List ℤ) (k : ℕ) → m ≤ n → block_start n ≤ length t → k < block_start n
    → live_at (not_yet hidden m) k ≡ false → word_at (hide_up_to hidden n m t) k ≡ no_rule
unfolding hide_up_to eliminated
hide_blank hidden n zero t k h l b shut = clash (yet_first hidden k) shut
hide_blank hidden n (suc j) t k h l b shut = go (hidden (suc j)) refl (hide_blank hidden n j t k (omega arith) l b)
  where
    u : List ℤ
    u = hide_up_to hidden n j t

    room : block_start n ≤ length u
    room = omega (arith, hide_up_to_length hidden n j t)

    -- those hidden before take no part, since no rule names them
    same : paired every n j u ≡ paired (not_yet hidden j) n j u
    same =
        fewer_paired every (not_yet hidden j) n j u room (omega arith) (λ i g f. refl)
        (λ i g d f y. let p = turn_had hidden j i y in
        hide_up_to_unnamed hidden n j i t (omega arith) l (rw (p.1, le-leb (suc i) j (omega (arith, p.2)))))

    stays : live_at (not_yet hidden j) k ≡ false → word_at (paired every n j u) k ≡ word_at u k
    stays e = rw same (paired_dead (not_yet hidden j) n j u room k b e)

    w : ℤ
    w = word_at (paired every n j u) k

    blank : (live_at (not_yet hidden j) k ≡ false → word_at u k ≡ no_rule) → (a : Bool) → live_at (not_yet hidden j) k ≡ a → (c : Bool)
        → (a && not c) ≡ false → cond c no_rule w ≡ no_rule
    blank ih a e true d = refl
    blank ih true e false d = clash refl d
    blank ih false e false d = stays e ∙ ih e

    go : (c : Bool) → hidden (suc j) ≡ c → (live_at (not_yet hidden j) k ≡ false → word_at u k ≡ no_rule)
        → word_at (cond c (cleared n (suc j) (paired every n j u)) u) k ≡ no_rule
    go true e ih =
        cleared_word n (suc j) (paired every n j u) k (omega (arith, paired_length every n j u, room)) b
        ∙ blank ih (live_at (not_yet hidden j) k) refl (names (suc j) (rule_at k w)) (sym (yet_more hidden j k w e) ∙ shut)
    go false e ih = ih (sym (yet_skip hidden n j k b e) ∙ shut)

-- so the key is what is left where the places of hidden quantities are cleared
pub key_word : (hidden : ℕ → Bool) (n : ℕ) (t u : List ℤ) (k : ℕ) → block_start n ≤ length t → AtTurns hidden n n t u → k < block_start n
    → cond (live_at (not_yet hidden n) k) (word_at u k) no_rule ≡ word_at (key_of hidden n t) k
key_word hidden n t u k l a h = go (live_at (not_yet hidden n) k) refl ∙ ap (λ (v : List ℤ). word_at v k) (hide_all hidden n t)
  where
    go : (b : Bool) → live_at (not_yet hidden n) k ≡ b → cond b (word_at u k) no_rule ≡ word_at (hide_up_to hidden n n t) k
    go true e = a.words k h ∙ rw (turn_open hidden n k e)
    go false e = sym (hide_blank hidden n n t k (omega arith) l h e)

-- ---- the key copied

-- the first table copied on, and in the copy the places of the set's quantities cleared
module _ (n set : ℕ) (ws part ws' : List ℤ) (l : 2 * block_start n ≤ length ws)
    (p : PartBack (block_start n) (copied_on (block_start n) ws) part (set_cleared n set part) ws') where
  room : block_start n ≤ length part
  room = omega (arith, ap length p.was, length-drop (block_start n) (copied_on (block_start n) ws), copied_length (block_start n) ws)

  first_word : (k : ℕ) → k < block_start n → word_at ws' k ≡ word_at ws k
  first_word k h = front_word (block_start n) (copied_on (block_start n) ws) ws' p.front k h ∙ copied_front (block_start n) ws l k h

  second_word : (k : ℕ) → k < block_start n → word_at ws' (block_start n + k) ≡ cond (live_at (not_yet (hidden_in set) n) k) (word_at ws k) no_rule
  unfolding set_cleared
  second_word k h =
      back_word (block_start n) ws' (set_cleared n set part) p.is k ∙ change_below (block_start n) (clearing_set set) part k h (omega (arith, room))
      ∙ rw (yet_last (hidden_in set) n k h, ← copied_next (block_start n) ws l k h, back_word (block_start n) (copied_on (block_start n) ws) part p.was k)

  key_copied : KeyCopied n set ws ws'
  unfolding set_cleared
  key_copied = record {
    front = first_word;
    back = λ k h. rw (← yet_last (hidden_in set) n k h) (second_word k h);
    key = λ t r a k h. second_word k h ∙ key_word (hidden_in set) n t ws k r a h;
    lent = record { size = p.size ∙ copied_length (block_start n) ws; rest = rest; kept = λ h. clash refl h };
  }
    where
      rest : drop (2 * block_start n) ws' ≡ drop (2 * block_start n) ws
      rest =
          sym (drop_twice (block_start n) ws') ∙ ap (drop (block_start n)) (sym p.is) ∙ change_drop (block_start n) (clearing_set set) part
          ∙ ap (drop (block_start n)) p.was ∙ drop_twice (block_start n) (copied_on (block_start n) ws) ∙ copied_drop (block_start n) ws

-- in the program's words
pub copied_key : (n set m : ℕ) (ws u part : List ℤ) → n ≤ max_quantities → m ≡ table_size n → 2 * block_start n ≤ length ws → u ≡ copied_on m ws
    → length part ≡ length (mid_of m (length u - m) u) → part ≡ set_cleared n set (mid_of m (length u - m) u)
    → KeyCopied n set ws (put_mid m (length u - m) u part)
copied_key n set m ws u part h d l e g c = key_copied n set ws (mid_of m (length u - m) u) (put_mid m (length u - m) u part) l whole
  where
    s : m ≡ block_start n
    s = size_known n m h d

    there : m ≤ length u
    there = omega (arith, s, ap length e, copied_length m ws)

    back : PartBack m (copied_on m ws) (mid_of m (length u - m) u) (set_cleared n set (mid_of m (length u - m) u)) (put_mid m (length u - m) u part)
    back = rw (← e, ← c) (part_back m u part there g)

    whole : PartBack (block_start n) (copied_on (block_start n) ws) (mid_of m (length u - m) u) (set_cleared n set (mid_of m (length u - m) u)) (put_mid m (length u - m) u part)
    whole = rw (← s) back
