-- What inner functions, here and in the crates above, ask and answer; no promise of the two calls rests on it.
-- The members of a set of quantities are eliminated in one table, in increasing number, with nothing cleared: a quantity whose turn is over takes no part any more, so its places stay as
-- they were at its turn. Where the members are the hidden ones, the places of visible quantities then have the key. Where they are all that rules name, no rule is left to meet, and
-- 'no assignment' is decided. Values are chosen in the opposite order, each from its quantity's rules as at its turn. The key call hides the members of the set instead, by document 01's step, and
-- decides in a copy of the key.
use Rattle.std.specs.Prelude.{Bool, true, false, cond, not, ◌&&◌, ◌||◌, ◌≡◌, ◌↔◌, List, ℕ, zero, suc, ◌+◌, ◌-◌, ◌*◌, ◌/◌, ◌≤◌, ◌<◌, ◌^◌, leb, ltb, ℤ, pos, length, take, drop, set as put, Ok, Err}
use Rattle.integers.specs.Bound.{Within}
use Rattle.words.specs.Change.{word_at}
use Rattle.words.specs.Lent.{Lent}
use Rattle.places.specs.Numbering.{block_start, is_one, higher_at, lower_at}
use Rattle.rules.specs.Refusing.{passed, AllMet}
use Rattle.rules.specs.declared.refusal.Refusal.{Refusal}
use Rattle.rules.specs.Hidden.{hidden_in, member_count}
use Rattle.rules.specs.Limits.{max_quantities}
use Rattle.tables.specs.Replies.{Reply}
use Rattle.tables.specs.Meaning.{Satisfies, Satisfiable, Unsatisfiable, WordsWithin, NoneAbove, assignment_of}
use Rattle.elimination.specs.Hiding.{every, paired, contradicts, eliminated}
use Rattle.elimination.specs.Choosing.{choice}
use Rattle.elimination.specs.Magnitude.{value_limit, Unnamed}
use Rattle.elimination.specs.Inner.{among, Listed, Ready}
use Rattle.keys.specs.declared.live.Part.{Part}
use Rattle.keys.specs.declared.live.Part.TheVariants.{Inside, Outside}
use Rattle.keys.specs.Keys.{hide_up_to, key_of, refuted, key_checks, assignment_reply}
use Rattle.keys.specs.Meaning.{key_needs_then, assignment_needs_then}

-- ---- sizes of room on the stack: they serve n quantities, and none is larger than the largest sheet needs

-- a list of quantities,
abbrev pub ListServes : ℕ → ℕ → Type 0
ListServes n list = (n ≤ list) × (list ≤ max_quantities)

-- a row of literals' words,
abbrev pub RowServes : ℕ → ℕ → Type 0
RowServes n row = (2 * n ≤ row) × (row ≤ 2 * max_quantities)

-- both,
abbrev pub RowsServe : ℕ → ℕ → ℕ → Type 0
RowsServe n list row = ListServes n list × RowServes n row

-- and a table
abbrev pub TableServes : ℕ → ℕ → Type 0
TableServes n table = (block_start n ≤ table) × (table ≤ 2 * max_quantities * max_quantities)

-- ---- the quantities that are live

-- the quantities outside a set
abbrev pub outside : ℕ → ℕ → Bool
outside set q = not (hidden_in set q)

-- a part of the quantities
abbrev pub member_of : ℕ → Part → ℕ → Bool
member_of set Inside q = hidden_in set q
member_of set Outside q = outside set q

-- is quantity i + 1 live when those of the part among the first `from` quantities have had their turn? All others are where the part is inside the set; where it is outside, of the others
-- none in the set is
abbrev pub still_live : ℕ → Part → ℕ → ℕ → Bool
still_live set Inside from i = leb from i || outside set (suc i)
still_live set Outside from i = leb from i && outside set (suc i)

-- none before quantity i + 1 is, whatever the set
pub record NoneBefore (part : Part) (from i : ℕ) : Type 0 where
  pub most : i ≤ from
  pub none : (set h : ℕ) → h < i → still_live set part from h ≡ false

-- the first `count` of a list are these of n quantities, in increasing number
pub record LiveListed (n set : ℕ) (part : Part) (from count : ℕ) (out : List ℕ) : Type 0 where
  pub room : count ≤ length out
  pub listed : Listed n (take count out)
  pub each : (i : ℕ) → i < n → among (take count out) i ≡ still_live set part from i

-- the rules of a table over n quantities name live ones alone
pub record LiveAlone (n : ℕ) (live : List ℕ) (t : List ℤ) : Type 0 where
  pub listed : Listed n live
  pub rest : (i : ℕ) → i < n → among live i ≡ false → Unnamed n i t

-- ---- the sums fit

-- with the members of a set eliminated, each of which doubles the bounds at most
pub record SetFits (members : ℕ → Bool) (n : ℕ) (t : List ℤ) : Type 0 where
  pub most : n ≤ max_quantities
  pub room : block_start n ≤ length t
  pub limit : ℕ
  pub within : WordsWithin (block_start n) (pos limit) t
  pub last : limit * 2 ^ member_count members n < 2 ^ 62

-- with any quantities eliminated, where rules name members alone: a step on another enlarges nothing. A sheet does, since 10 ^ 9 * 2 ^ 32 is
-- below 2 ^ 62; and so do a key and a script with k hidden quantities, whose bounds are 10 ^ 9 * 2 ^ k, since they name the n - k visible ones alone
pub record Fits (n : ℕ) (t : List ℤ) : Type 0 where
  pub members : ℕ → Bool
  pub sums : SetFits members n t
  pub rest : (j : ℕ) → j < n → members (suc j) ≡ false → Unnamed n j t

-- with a part eliminated, where the rules name no quantity that takes no part
pub record PartFits (n set : ℕ) (part : Part) (t : List ℤ) : Type 0 where
  pub sums : SetFits (member_of set part) n t
  pub alone : (i : ℕ) → i < n → still_live set part 0 i ≡ false → Unnamed n i t

abbrev pub RestFits : ℕ → ℕ → List ℤ → Type 0
RestFits n set t = PartFits n set Outside t

-- ---- members eliminated, nothing cleared

-- the turn of quantity i + 1 among the first m; m where it is no member of these
abbrev pub turn_of : (ℕ → Bool) → ℕ → ℕ → ℕ
turn_of members m i = cond (members (suc i) && ltb i m) i m

-- the turn of a place: that of its lowest member
unfoldable pub turn_at : (ℕ → Bool) → ℕ → ℕ → ℕ
turn_at members m k = cond (is_one k || leb m (turn_of members m (lower_at k / 2))) (turn_of members m (higher_at k / 2)) (turn_of members m (lower_at k / 2))

-- the members among the first m of n quantities eliminated: each place is as it is at its turn with the members before hidden, in the end as in the key where it names none of them;
-- and no sum was a contradiction
pub record AtTurns (members : ℕ → Bool) (n m : ℕ) (before after : List ℤ) : Type 0 where
  pub words : (k : ℕ) → k < block_start n → word_at after k ≡ word_at (hide_up_to members n (turn_at members m k) before) k
  pub clear : (j : ℕ) → j < m → members (suc j) ≡ true → contradicts every n j (hide_up_to members n j before) ≡ false

-- a contradiction at the turn of a member, with those before it hidden
pub record ContradictionMet (members : ℕ → Bool) (n : ℕ) (t : List ℤ) : Type 0 where
  pub turn : ℕ
  pub inside : turn < n
  pub member : members (suc turn) ≡ true
  pub met : contradicts every n turn (hide_up_to members n turn t) ≡ true

-- all members eliminated, and whether a contradiction is met: then no integers satisfy the table, and its words are free
pub record SetEliminated (members : ℕ → Bool) (n : ℕ) (before : List ℤ) (r : Bool) (after : List ℤ) : Type 0 where
  pub met : r ≡ true → ContradictionMet members n before
  pub none : r ≡ true → Unsatisfiable n before
  pub some : r ≡ false → AtTurns members n n before after
  pub lent : Lent (block_start n) true before after

-- 'no assignment' decided of a table whose rules name no quantity of the set: true exactly when no integers satisfy it. Where some do, the workspace has its copy of the table with all others
-- eliminated
pub record Decided (n set : ℕ) (table workspace : List ℤ) (r : Bool) (workspace' : List ℤ) : Type 0 where
  pub reply : r ≡ refuted n table
  pub meaning : (r ≡ true) ↔ Unsatisfiable n table
  pub reduced : r ≡ false → AtTurns (outside set) n n table workspace'
  pub lent : Lent (block_start n) true workspace workspace'

-- ---- values read back

-- the members of a set in a table in which they are eliminated, and values for the others, of at most `wide` in magnitude: all values fit
pub record Readable (members : ℕ → Bool) (n wide : ℕ) (t table values : List ℤ) : Type 0 where
  pub fits : SetFits members n t
  pub at : AtTurns members n n t table
  pub room : block_start n ≤ length table
  pub values_room : n ≤ length values
  pub others : (i : ℕ) → i < n → members (suc i) ≡ false → Within (pos wide) (word_at values i)
  pub last : wide + (fits.limit * 2 ^ member_count members n - fits.limit) < 2 ^ 62

-- a part of a table in which it was eliminated
pub record PartReadable (n set : ℕ) (part : Part) (table values : List ℤ) : Type 0 where
  pub wide : ℕ
  pub from : List ℤ
  pub readable : Readable (member_of set part) n wide from table values
  pub alone : (i : ℕ) → i < n → still_live set part 0 i ≡ false → Unnamed n i from

-- quantity j + 1 given its value where it is of the part
unfoldable pub read_one : ℕ → Part → ℕ → List ℤ → ℕ → List ℤ → List ℤ
read_one set part n t j values = cond (member_of set part (suc j)) (put values j (choice (still_live set part (suc j)) n t j values)) values

-- the last m quantities, the last first
unfoldable pub read_back : ℕ → Part → ℕ → List ℤ → ℕ → List ℤ → List ℤ
read_back set part n t zero values = values
read_back set part n t (suc m) values = read_one set part n t (n - suc m) (read_back set part n t m values)

-- so the values of a part are read back; other words stay. Where the values before satisfy a table with the part hidden, those after satisfy the table itself
pub record PartRead (n set : ℕ) (part : Part) (table values values' : List ℤ) : Type 0 where
  pub words : values' ≡ read_back set part n table n values
  pub others : (i : ℕ) → member_of set part (suc i) ≡ false → word_at values' i ≡ word_at values i
  pub rest : drop n values' ≡ drop n values
  pub meaning : (wide : ℕ) (t : List ℤ) → Readable (member_of set part) n wide t table values → ((i : ℕ) → i < n → still_live set part 0 i ≡ false → Unnamed n i t)
      → Satisfies n (key_of (member_of set part) n t) (assignment_of values) → Satisfies n t (assignment_of values')

-- a table reduced: all quantities outside the set eliminated, and none in it named
pub record Reduced (n set : ℕ) (t table : List ℤ) : Type 0 where
  pub fits : RestFits n set t
  pub at : AtTurns (outside set) n n t table
  pub room : block_start n ≤ length table

pub record Fillable (n set : ℕ) (table values : List ℤ) : Type 0 where
  pub from : List ℤ
  pub reduced : Reduced n set from table
  pub values_room : n ≤ length values

-- the values read back from it: they satisfy the table, and are 0 in the set
pub record Filled (n set : ℕ) (table values values' : List ℤ) : Type 0 where
  pub meaning : (t : List ℤ) → Reduced n set t table → Satisfies n t (assignment_of values')
  pub zero : (i : ℕ) → i < n → hidden_in set (suc i) ≡ true → word_at values' i ≡ pos 0
  pub within : (t : List ℤ) (r : Reduced n set t table) → (i : ℕ) → i < n
      → Within (pos (r.fits.sums.limit * 2 ^ member_count (outside set) n - r.fits.sums.limit)) (word_at values' i)
  pub lent : Lent n true values values'

-- ---- one turn

-- quantity j + 1 is paired with the live ones where it is of the part
pub record TurnTaken (n set : ℕ) (part : Part) (j : ℕ) (before : List ℤ) (r : Bool) (after : List ℤ) : Type 0 where
  pub reply : r ≡ (member_of set part (suc j) && contradicts (still_live set part (suc j)) n j before)
  pub table : after ≡ cond (member_of set part (suc j)) (paired (still_live set part (suc j)) n j before) before

-- the live quantities have values
pub record ChoiceReady (n set : ℕ) (part : Part) (j : ℕ) (values : List ℤ) : Type 0 where
  pub room : n ≤ length values
  pub each : (i : ℕ) → i < n → still_live set part (suc j) i ≡ true → Within value_limit (word_at values i)

-- ---- the members of a set hidden

-- quantity j + 1 is ready for it: rules name no quantity of the set before it
pub record HideReady (n set j : ℕ) (table : List ℤ) : Type 0 where
  pub ready : Ready n j table
  pub gone : (i : ℕ) → i < j → hidden_in set (suc i) ≡ true → Unnamed n i table

-- it is hidden where the set has it
pub record MemberHidden (n set j : ℕ) (before : List ℤ) (r : Bool) (after : List ℤ) : Type 0 where
  pub reply : r ≡ (hidden_in set (suc j) && contradicts every n j before)
  pub table : after ≡ cond (hidden_in set (suc j)) (eliminated n j before) before

-- all of the set hidden, and whether a contradiction is met: then no integers satisfy the table, and its words are free. With none, the key has an assignment only where the table has
pub record SetHidden (n set : ℕ) (before : List ℤ) (r : Bool) (after : List ℤ) : Type 0 where
  pub met : (r ≡ true) ↔ ContradictionMet (hidden_in set) n before
  pub none : r ≡ true → Unsatisfiable n before
  pub key : r ≡ false → after ≡ key_of (hidden_in set) n before
  pub some : r ≡ false → Satisfiable n after → Satisfiable n before
  pub lent : Lent (block_start n) true before after

-- whether no integers satisfy the sheet; where some do, its table is a kind of key
pub record KeyTried (key_by : (ℕ → Bool) → ℕ → List ℤ → List ℤ) (n set : ℕ) (table workspace : List ℤ) (r : Bool) (table' workspace' : List ℤ) : Type 0 where
  pub reply : r ≡ refuted n table
  pub words : table' ≡ cond r table (key_by (hidden_in set) n table)
  pub lent : Lent (block_start n) true workspace workspace'

-- ---- the calls' checks before 5: a refusal is the call's reply, and where they are done the needs are met

pub record KeyChecked (n set : ℕ) (t : List ℤ) (w : ℕ) (r : Reply) : Type 0 where
  pub reply : r ≡ key_checks n set t w (Ok tt)
  pub passes : r ≡ Ok tt → AllMet (key_needs_then n set t w passed)
  -- every word was looked at, and a word of 64 bits is not above the no-rule word
  pub words : r ≡ Ok tt → NoneAbove (block_start n) t

pub record AssignmentChecked (n : ℕ) (t : List ℤ) (w v : ℕ) (r : Reply) : Type 0 where
  pub stands : (f : Refusal) → r ≡ Err f → r ≡ assignment_reply n t w v
  pub passes : r ≡ Ok tt → AllMet (assignment_needs_then n t w v passed)
