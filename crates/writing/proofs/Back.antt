-- What a written text means to the reader: every line of it is fine, so within a paper's limit it is accepted as that paper with n, the hidden set and the
-- table's words. Assumes nothing.
use mathlib.Core.Path.{◌≡◌, refl}
use mathlib.Core.Bool.{Bool, true, false, cond}
use mathlib.Core.List.{List, [], ◌∷◌}
use Rattle.std.specs.Prelude.{Ok}
use Prim.Native.Nat.{ℕ, suc, ◌+◌, ◌*◌, ◌^◌, ◌≤◌, ◌<◌}
use native.Mathlib.Omega.{arith}
use lib.IntN.{ℤ, pos, negsuc, nat_abs}
use lib.ListN.{length, take, length-take}
use lib.Signed.{mag}
use borrow.Author.Tests.{le-leb, le-ltb, ne_eqb}
use Rattle.integers.specs.Bound.{Within}
use Rattle.integers.proofs.Within.{within_to}
use Rattle.integers.proofs.Parts.{positive_part, negative_part}
use Rattle.words.specs.Change.{word_at}
use Rattle.places.specs.Numbering.{block_start}
use Rattle.rules.specs.declared.rule.Rule.{Rule}
use Rattle.rules.specs.declared.rule.Rule.TheVariants.{One, Two, Nothing}
use Rattle.rules.specs.Hidden.{set_within}
use Rattle.rules.specs.declared.paper.Paper.{Paper}
use Rattle.rules.specs.declared.paper.Paper.TheVariants.{Sheet, Script}
use Rattle.rules.specs.Limits.{bound_limit, max_quantities, max_rules, max_text}
use Rattle.rules.specs.Literal.{quantity_of, quantity_within}
use Rattle.rules.specs.Meaning.{bound_of}
use Rattle.tables.specs.Places.{rule_at, HasPlace}
use Rattle.tables.specs.Tables.{has_rule}
use Rattle.tables.specs.Meaning.{WordsWithin, KeyLike, BoundsWithin}
use Rattle.tables.proofs.Places.{rule_at_bound, rule_at_has_place}
use Rattle.lines.specs.Spelling.{Written, rule, line_within, cancelling}
use Rattle.lines.specs.Lines.{accepted}
use Rattle.reading.specs.Texts.{rule_lines}
use Rattle.reading.specs.Meaning.{ruled, lines_of, Fine, AllFine, Spells, Reads}
use Rattle.reading.proofs.Means.{reads_check}
use Rattle.reading.specs.Reading.{sheet_of, check_text, reply_to, read_reply, filled, read_table}
use Rattle.writing.specs.Writing.{written_of, rules_at, table_rules, hidden_list, contents_of, written_text}
use Rattle.writing.specs.Promises.{ReadBack, ReadAs}
use Rattle.writing.proofs.Meanings.{front_word, Clean, table_back, AreWords}
use Rattle.writing.proofs.Members.{hidden_increasing, hidden_within, hidden_back, hidden_limit}
use Rattle.writing.proofs.Lengths.{rules_most, sheet_limit, longest_sheet}
use Rattle.writing.proofs.KeyLengths.{key_short}

-- ---- rules

-- a literal of n quantities names one of them
pub literal_within : (n x : ℕ) → x < 2 * n → quantity_within n (quantity_of x) ≡ true
literal_within n x h = rw (le-leb 1 (quantity_of x) (omega arith), le-leb (quantity_of x) n (omega arith))

-- a rule that has a place may stand in a text, where its bound is in the text's limit
rule_fine : (n limit : ℕ) (r : Rule) → HasPlace n r → nat_abs (bound_of r) ≤ limit → Fine n limit (rule (written_of r))
unfolding written_of line_within cancelling
rule_fine n limit (One x c) u w = record { formed = tt; within = rw (literal_within n x u, le-leb (nat_abs c) limit w); uncancelled = refl }
rule_fine n limit (Two x y c) u w = record {
  formed = tt;
  within = rw (literal_within n x u.0, literal_within n y u.1, le-leb (nat_abs c) limit w);
  uncancelled = rw (ne_eqb (quantity_of x) (quantity_of y) u.2);
}
rule_fine n limit (Nothing c) u w = absurd u

-- each of the first m words that holds a rule is in the limit
abbrev pub AtMostIn : ℕ → ℕ → List ℤ → Type 0
AtMostIn m limit t = (k : ℕ) → k < m → k < length t → has_rule (word_at t k) ≡ true → nat_abs (word_at t k) ≤ limit

-- where they are, the rules of words from place i on may stand in a text
pub rules_fine : (n limit i : ℕ) (t : List ℤ) → i + length t ≤ block_start n → AtMostIn (length t) limit t → AllFine n limit (rule_lines (rules_at i t))
unfolding rules_at
rules_fine n limit i [] l f = tt
rules_fine n limit i (w ∷ t) l f = go (rules_fine n limit (suc i) t (omega arith) (λ k b c e. f (suc k) (omega arith) (omega arith) e)) (has_rule w) refl
  where
    go : AllFine n limit (rule_lines (rules_at (suc i) t)) → (b : Bool) → has_rule w ≡ b
        → AllFine n limit (rule_lines (cond b (written_of (rule_at i w) ∷ rules_at (suc i) t) (rules_at (suc i) t)))
    go ih true e =
        (rule_fine n limit (rule_at i w) (rule_at_has_place n i w (omega arith)) (rw (rule_at_bound i w) (f 0 (omega arith) (omega arith) e)), ih)
    go ih false e = ih

-- ---- limits

-- a bound within a limit is at most the limit in magnitude
pub bound_magnitude : (limit : ℕ) (c : ℤ) → Within (pos limit) c → nat_abs c ≤ limit
unfolding positive_part negative_part
bound_magnitude limit (pos v) h = omega (arith, within_to h)
bound_magnitude limit (negsuc v) h = omega (arith, within_to h)

-- a word of 64 bits is at most 2 ^ 63
word_magnitude : (c : ℤ) → mag c < 2 ^ 63 → nat_abs c ≤ 2 ^ 63
word_magnitude (pos v) h = omega arith
word_magnitude (negsuc v) h = omega arith

-- ---- the text

-- n in its range, a set and a table
module _ (n set : ℕ) (t : List ℤ) (some : 1 ≤ n) (most : n ≤ max_quantities) where
  -- the lines before the rules are fine, and so are all where the rules that follow are
  pub opening_fine : (limit : ℕ) (rs : List Written) → AllFine n limit (rule_lines rs)
      → AllFine n limit (lines_of (ruled n (hidden_list n set) (length (table_rules n t)) rs))
  unfolding line_within
  opening_fine limit rs all = (
    record { formed = tt; within = rw (le-leb 1 n some, le-leb n max_quantities most); uncancelled = refl },
    (
      record { formed = hidden_increasing n set; within = hidden_within n set; uncancelled = refl },
      (record { formed = tt; within = le-leb (length (table_rules n t)) max_rules few; uncancelled = refl }, all),
    ),
  )
    where
      few : length (table_rules n t) ≤ max_rules
      few = rules_most n t most

  -- every line is fine, in a limit that the words that hold a rule are in
  written_spells : (limit : ℕ) → AtMostIn (block_start n) limit t → Spells limit (written_text n set t) (contents_of n set t)
  unfolding written_text
  written_spells limit words = record {
    text = refl;
    fine = opening_fine limit (table_rules n t) (rules_fine n limit 0 front (omega (arith, length-take (block_start n) t)) inside);
  }
    where
      front : List ℤ
      front = take (block_start n) t

      inside : AtMostIn (length front) limit front
      inside k b c e = let w = front_word (block_start n) t k b in rw w.2 (words k w.0 w.1 (rw w.2 at e))

  -- of any words
  pub spells_words : AreWords (block_start n) t → Spells (2 ^ 63) (written_text n set t) (contents_of n set t)
  spells_words words = written_spells (2 ^ 63) (λ k b c e. word_magnitude (word_at t k) (words k b))

  -- of words within any limit
  pub spells_within : (limit : ℕ) → WordsWithin (block_start n) (pos limit) t → Spells limit (written_text n set t) (contents_of n set t)
  spells_within limit words = written_spells limit (λ k b c e. bound_magnitude limit (word_at t k) (words.each k b c e))

  -- of words in a paper's limit, with a hidden set in its range: where it is not too long, such a text is fine, and these are its contents
  pub written_reads : (paper : Paper) → set_within n set ≡ true → BoundsWithin paper n set t
      → length (written_text n set t) ≤ max_text → Reads paper (written_text n set t) (contents_of n set t)
  written_reads paper within words short = record {
    small = short;
    spelled = rw (← hidden_limit paper n set within) (spells_within (bound_limit paper n set) words);
  }

  -- ---- as a sheet

  -- it is never too long
  pub sheet_short : BoundsWithin Sheet n set t → length (written_text n set t) ≤ max_text
  sheet_short words = longest_sheet n set t most (rw (sheet_limit n set) at words)

  pub sheet_reads : set_within n set ≡ true → BoundsWithin Sheet n set t → Reads Sheet (written_text n set t) (contents_of n set t)
  sheet_reads within words = written_reads Sheet within words (sheet_short words)

  -- read into any table that is long enough, it gives n, the hidden set and the table's words back
  pub written_back : set_within n set ≡ true → BoundsWithin Sheet n set t → block_start n ≤ length t
      → Clean (block_start n) t → (u : List ℤ) → block_start n ≤ length u → ReadBack n set t (written_text n set t) u
  unfolding read_reply reply_to read_table filled
  written_back within words room clean u enough = record { reply = reply; words = rw (reply, checked, table_back n t room clean) }
    where
      checked : check_text Sheet (written_text n set t) ≡ accepted (contents_of n set t) []
      checked = reads_check Sheet (written_text n set t) (contents_of n set t) (sheet_reads within words)

      reply : read_reply (written_text n set t) (length u) ≡ Ok (sheet_of n set)
      reply = rw (checked, le-ltb (length u) (block_start n) enough, hidden_back n set within)

  -- ---- as a script

  -- a key's text is in the script's limit and not too long
  pub key_reads : set_within n set ≡ true → block_start n ≤ length t → KeyLike n set t → Reads Script (written_text n set t) (contents_of n set t)
  key_reads within room key = written_reads Script within key.within (key_short n set t most room key)

  -- ---- as either

  -- with n, the hidden set and rules that make the table's words again
  pub written_as : set_within n set ≡ true → (paper : Paper) → BoundsWithin paper n set t → length (written_text n set t) ≤ max_text
      → block_start n ≤ length t → Clean (block_start n) t → ReadAs paper n set t (written_text n set t)
  written_as within paper words short room clean = record {
    reads = written_reads paper within words short;
    hides = hidden_back n set within;
    words = table_back n t room clean;
  }
