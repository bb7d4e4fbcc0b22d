-- Markers of two texts that the promises rule out on named texts: a script with another n, another hidden list or a hidden quantity in a rule marked; a script's range
-- taken from the sheet's header; lengths asked that are too large; an assignment changed that is to stay. Assumes nothing.
use mathlib.Core.Path.{◌≡◌, refl}
use mathlib.Core.Bool.{false}
use mathlib.Core.List.{List, [], ◌∷◌}
use mathlib.Core.Logic.{◌⊎◌, inl, inr}
use Prim.Native.Nat.{ℕ, ◌<◌}
use native.Mathlib.Omega.{arith}
use lib.IntN.{ℤ, pos}
use Rattle.places.specs.Numbering.{block_start}
use Rattle.rules.specs.declared.paper.Paper.TheVariants.{Sheet, Script}
use Rattle.rules.specs.declared.refusal.Refusal.{Refusal}
use Rattle.rules.specs.declared.refusal.Refusal.TheVariants.{OutOfLimit, TooShort}
use Rattle.rules.specs.Refusal.{refused_as}
use Rattle.rules.specs.Refusing.{RefusedBy}
use Rattle.rules.specs.Hidden.{is_listed}
use Rattle.rules.specs.Meaning.{names}
use Rattle.rules.specs.Steps.{rule_of}
use Rattle.marking.specs.declared.verdict.Verdict.{Verdict}
use Rattle.marking.specs.declared.verdict.Verdict.TheVariants.{Equal}
use Rattle.numerals.specs.Bytes.{bytes}
use Rattle.lines.specs.Spelling.{one, written_rule}
use Rattle.lines.specs.Lines.{accepted}
use Rattle.reading.specs.Texts.{Contents}
use Rattle.reading.specs.Meaning.{Reads}
use Rattle.reading.proofs.Means.{text_means, reads_same}
use Rattle.reading.proofs.Frauds.{reading, text_a, contents_a, sheet_a_reads}
use Rattle.reading.proofs.Ranges.{none_larger}
use Rattle.scripts.specs.declared.room.Lengths.{Lengths}
use Rattle.scripts.specs.declared.reply.Subject.{Subject}
use Rattle.scripts.specs.declared.reply.Subject.TheVariants.{Both}
use Rattle.scripts.specs.declared.reply.Subject.TheVariants.{Script as OfScript}
use Rattle.scripts.specs.Replies.{TextMarking, marked, refused_for, texts_returned, text_subjects}
use Rattle.scripts.specs.Meaning.{Matches, pair_needs}
use Rattle.scripts.specs.Promises.{TextsJudged, TextsMarked, MarkedInOwnRoom}

-- ---- scripts that do not fit sheet A, which has n 3 and hidden 2

-- another n
abbrev pub of_two : List ℕ
of_two = bytes "quantities=2\nhidden=2\nrules=0\n"

-- another hidden list
abbrev pub none_hidden : List ℕ
none_hidden = bytes "quantities=3\nhidden=\nrules=0\n"

-- a rule of the hidden quantity
abbrev pub hidden_named : List ℕ
hidden_named = bytes "quantities=3\nhidden=2\nrules=1\nrule=+2:0\n"

-- what they write
of_two_reads : Reads Script of_two (record { count = 2; hiddens = 2 ∷ []; written = [] })
unfolding reading
of_two_reads = ((text_means Script of_two (accepted (record { count = 2; hiddens = 2 ∷ []; written = [] }) [])).0 refl).0

none_hidden_reads : Reads Script none_hidden (record { count = 3; hiddens = []; written = [] })
unfolding reading
none_hidden_reads = ((text_means Script none_hidden (accepted (record { count = 3; hiddens = []; written = [] }) [])).0 refl).0

abbrev named : Contents
named = record { count = 3; hiddens = 2 ∷ []; written = one (record { negative = false; quantity = 2 }) (pos 0) ∷ [] }

hidden_named_reads : Reads Script hidden_named named
unfolding reading
hidden_named_reads = ((text_means Script hidden_named (accepted named [])).0 refl).0

-- a script that is marked against A fits it
marked_matches : (script : List ℕ) (d : Contents) → Reads Script script d → (lent : Lengths) (n : ℕ) (v : Verdict) (values : List ℤ)
    → TextsJudged text_a script lent (marked n v) values → Matches contents_a d
marked_matches script d r lent n v values j =
    let t = j.accepted.0 refl in
    rw (reads_same Sheet text_a t.of_sheet contents_a t.sheet_reads (sheet_a_reads Sheet), reads_same Script script t.of_script d t.script_reads r)
    at t.met.1.1.1.1.0

-- so none of these is
pub other_count : (lent : Lengths) (n : ℕ) (v : Verdict) (values : List ℤ) → TextsJudged text_a of_two lent (marked n v) values → ⊥
other_count lent n v values j = omega (arith, (marked_matches of_two _ of_two_reads lent n v values j).count)

pub other_list : (lent : Lengths) (n : ℕ) (v : Verdict) (values : List ℤ) → TextsJudged text_a none_hidden lent (marked n v) values → ⊥
other_list lent n v values j =
    let e = (marked_matches none_hidden _ none_hidden_reads lent n v values j).hiddens in let z : ◌≡◌ {A = ℕ} 0 1 = cc in omega arith

pub hidden-named : (lent : Lengths) (n : ℕ) (v : Verdict) (values : List ℤ) → TextsJudged text_a hidden_named lent (marked n v) values → ⊥
unfolding is_listed names rule_of written_rule
hidden-named lent n v values j =
    let e = ((marked_matches hidden_named named hidden_named_reads lent n v values j).visible 2 refl).0 in let z : ◌≡◌ {A = ℕ} 0 1 = cc in omega arith

-- ---- a script's range taken from the sheet's header

-- sheet A hides 2, this script nothing: its bound is in the range of A's header and not of its own, so it is refused by 3 at its line, and neither marked nor refused by 7
pub own_header : (lent : Lengths) (r : TextMarking) (values : List ℤ)
    → TextsJudged text_a (bytes "quantities=3\nhidden=\nrules=1\nrule=+1-3:2000000000\n") lent r values
    → (texts_returned r ≡ refused_as (OutOfLimit 4)) × (text_subjects r ≡ OfScript ∷ [])
own_header lent r values j = (j.refused OfScript (OutOfLimit 4)).1 (record { contents = contents_a; reads = sheet_a_reads Sheet }, none_larger)

-- ---- lengths: two texts of n 1 with no rules

abbrev pub plain : List ℕ
plain = bytes "quantities=1\nhidden=\nrules=0\n"

abbrev plainly : Contents
plainly = record { count = 1; hiddens = []; written = [] }

sheet_reads : Reads Sheet plain plainly
unfolding reading
sheet_reads = ((text_means Sheet plain (accepted plainly [])).0 refl).0

script_reads : Reads Script plain plainly
unfolding reading
script_reads = ((text_means Script plain (accepted plainly [])).0 refl).0

-- so many words as the sheet's table, the script's, the workspace and the assignment
abbrev lengths : ℕ → ℕ → ℕ → ℕ → Lengths
lengths sheet script workspace values = record { sheet = sheet; script = script; workspace = workspace; values = values }

-- what is refused as too short is shorter than 2n² words, 4n² or n, which are what is asked for
abbrev ShortOf : Lengths → ℕ → Type 0
ShortOf lent m = ((lent.sheet < 2) × (m ≡ 2)) ⊎ (((lent.script < 2) × (m ≡ 2)) ⊎ (((lent.workspace < 4) × (m ≡ 4)) ⊎ ((lent.values < 1) × (m ≡ 1))))

short_of : (lent : Lengths) (m : ℕ) → RefusedBy (pair_needs plainly plainly lent) (TooShort m) → ShortOf lent m
unfolding block_start
short_of lent m (inl (h, e)) = inl (omega arith, cc)
short_of lent m (inr (s, inl (h, e))) = inr (inl (omega arith, cc))
short_of lent m (inr (s, inr (c, inl (h, e)))) = inr (inr (inl (omega arith, cc)))
short_of lent m (inr (s, inr (c, inr (w, inl (h, e))))) = inr (inr (inr (omega arith, cc)))
short_of lent m (inr (s, inr (c, inr (w, inr (v, inl (h, e)))))) = let z : ◌≡◌ {A = ℕ} 0 1 = cc in absurd (omega arith)
short_of lent m (inr (s, inr (c, inr (w, inr (v, inr (x, z)))))) = absurd z

refused_short : (lent : Lengths) (m : ℕ) (values : List ℤ) → TextsJudged plain plain lent (refused_for Both (TooShort m)) values → ShortOf lent m
refused_short lent m values j =
    let t = (j.refused Both (TooShort m)).0 (refl, refl) in
    short_of lent m
    (rw (reads_same Sheet plain t.of_sheet plainly t.sheet_reads sheet_reads, reads_same Script plain t.of_script plainly t.script_reads script_reads)
    at t.fails)

-- words enough refused, whatever is asked for
pub enough_refused : (m : ℕ) (values : List ℤ) → TextsJudged plain plain (lengths 2 2 4 1) (refused_for Both (TooShort m)) values → ⊥
enough_refused m values j = go (refused_short (lengths 2 2 4 1) m values j)
  where
    go : ShortOf (lengths 2 2 4 1) m → ⊥
    go (inl p) = omega (arith, p.0)
    go (inr (inl p)) = omega (arith, p.0)
    go (inr (inr (inl p))) = omega (arith, p.0)
    go (inr (inr (inr p))) = omega (arith, p.0)

-- 5 or more asked for, whatever is lent
pub more_asked : (lent : Lengths) (m : ℕ) (values : List ℤ) → 4 < m → TextsJudged plain plain lent (refused_for Both (TooShort m)) values → ⊥
more_asked lent m values h j = go (refused_short lent m values j)
  where
    go : ShortOf lent m → ⊥
    go (inl p) = omega (arith, p.1)
    go (inr (inl p)) = omega (arith, p.1)
    go (inr (inr (inl p))) = omega (arith, p.1)
    go (inr (inr (inr p))) = omega (arith, p.1)

-- ---- words

module _ (sheet script : List ℕ) (t u w t' u' w' : List ℤ) where
  -- the assignment is changed, and the verdict is equal
  pub changed_on_equal : (n : ℕ) → TextsMarked sheet script t u w (pos 7 ∷ []) (marked n Equal) t' u' w' (pos 0 ∷ []) → ⊥
  changed_on_equal n m = let e = m.written.kept refl in let z : ◌≡◌ {A = ℕ} 0 7 = cc in omega arith

  -- or a refusal
  pub changed_on_refusal : (p : Subject) (f : Refusal) → TextsMarked sheet script t u w (pos 7 ∷ []) (refused_for p f) t' u' w' (pos 0 ∷ []) → ⊥
  changed_on_refusal p f m = let e = m.written.kept refl in let z : ◌≡◌ {A = ℕ} 0 7 = cc in omega arith

-- also where it alone is lent
pub own_changed_on_equal : (sheet script : List ℕ) (n : ℕ) → MarkedInOwnRoom sheet script (pos 7 ∷ []) (marked n Equal) (pos 0 ∷ []) → ⊥
own_changed_on_equal sheet script n m = let e = m.written.kept refl in let z : ◌≡◌ {A = ℕ} 0 7 = cc in omega arith

pub own_changed_on_refusal : (sheet script : List ℕ) (p : Subject) (f : Refusal) → MarkedInOwnRoom sheet script (pos 7 ∷ []) (refused_for p f) (pos 0 ∷ []) → ⊥
own_changed_on_refusal sheet script p f m = let e = m.written.kept refl in let z : ◌≡◌ {A = ℕ} 0 7 = cc in omega arith
