-- What the programs' functions promise: what is printed for a text, byte by byte and by what it means.
use Rattle.std.specs.Prelude.{◌≡◌, true, ◌↔◌, List, [], ◌++◌, ℕ, ◌^◌, ◌≤◌, ℤ, length, take, drop}
use Rattle.rules.specs.declared.paper.Paper.{Paper}
use Rattle.rules.specs.declared.paper.Paper.TheVariants.{Sheet, Script}
use Rattle.rules.specs.declared.refusal.Refusal.{Refusal}
use Rattle.rules.specs.declared.refusal.Refusal.TheVariants.{NoAssignment}
use Rattle.places.specs.Numbering.{block_start}
use Rattle.rules.specs.Hidden.{hidden_in, is_listed}
use Rattle.rules.specs.Limits.{max_quantities, max_text}
use Rattle.rules.specs.Meaning.{Assignment}
use Rattle.rules.specs.Refusal.{refusal_number}
use Rattle.tables.specs.Meaning.{MeetsAll, NoneNames, SheetAllows, BoundsWithin}
use Rattle.tightening.specs.Meaning.{TightKey, SheetsAllowSame}
use Rattle.tightening.specs.Promises.{TightStays}
use Rattle.lines.specs.Spelling.{written_rules}
use Rattle.marking.specs.declared.verdict.Verdict.{Verdict}
use Rattle.marking.specs.declared.verdict.Verdict.TheVariants.{Equal}
use Rattle.reading.specs.Texts.{Contents}
use Rattle.reading.specs.Meaning.{Spells, Reads, rules_of, FailsFor}
use Rattle.writing.specs.Writing.{table_rules}
use Rattle.writing.specs.Promises.{PastLimit, RefusedPast}
use Rattle.scripts.specs.declared.room.Lengths.{Lengths}
use Rattle.scripts.specs.declared.reply.Subject.{Subject}
use Rattle.scripts.specs.Replies.{TextMarking, marked}
use Rattle.scripts.specs.Promises.{TextsJudged}
use Rattle.scripts.specs.Meaning.{set_in, AcceptedPair, RefusedPair, Room, OwnKeyText, own_lengths}
use Rattle.scripts.specs.Marking.{texts_reply}
use Rattle.reports.specs.Refusals.{refusal_text}
use Rattle.reports.specs.Marks.{verdict_text, refused_mark_text, mark_text}
use Rattle.reports.specs.Reports.{key_report}
use Rattle.reports.specs.Meaning.{KeyText, PrintedKey, Unmet, VerdictText}

-- what follows of the text of the tightest key of contents, the text being that of a table
pub record KeyTextMade (c : Contents) (key : List ℤ) (text : List ℕ) : Type 0 where
  -- as far as its 2n² words go it is the text of no other table that is the tightest key
  pub only : (other : List ℤ) → TightKey (hidden_in (set_in c)) c.count (rules_of c) other → take (block_start c.count) other ≡ take (block_start c.count) key
  -- it is a spelling with the sheet's n and hidden list
  pub spelled : Spells (2 ^ 63) text (record { count = c.count; hiddens = c.hiddens; written = table_rules c.count key })
  -- no rule names a hidden quantity
  pub visible : (q : ℕ) → is_listed q c.hiddens ≡ true → NoneNames q (written_rules (table_rules c.count key))
  -- its rules allow integers for the visible quantities exactly when some integers for the hidden ones satisfy the whole sheet with them (demand 2)
  pub meaning : (σ : Assignment) → MeetsAll σ (written_rules (table_rules c.count key)) ↔ SheetAllows (hidden_in (set_in c)) (rules_of c) σ
  -- "the definition applied to a tight table, whatever its bounds, changes nothing", and neither do the steps
  pub stays : TightStays (hidden_in (set_in c)) c.count key
  -- it is never too long for the reader; so where a bound of it is outside the limit of a sheet or a script, it is refused as such with 3, at the line of the first
  pub short : length text ≤ max_text
  pub past : (paper : Paper) (k : ℕ) → PastLimit paper c.count (set_in c) key k → RefusedPast paper c.count (set_in c) key text
  -- with bounds in a sheet's limit it is a sheet of which it is printed again
  pub again : BoundsWithin Sheet c.count (set_in c) key → key_report text ≡ text

-- what is printed for the text s: its refusal, exactly when it is refused; 5, exactly when it is accepted and no integers satisfy its rules; and the text
-- of its tightest key, exactly when some do
pub record KeyPrinted (s : List ℕ) (out : List ℕ) (end : ℕ) (out' : List ℕ) : Type 0 where
  pub count : end ≡ length (key_report s)
  pub bytes : out' ≡ key_report s ++ drop (length (key_report s)) out
  -- so many bytes are there; both follow from the above, and are stated so that the proof that Rattle makes of `&out[..end]` finds them
  pub room : end ≤ length out'
  pub front : end ≡ length (take end out')
  pub refused : (f : Refusal) → (f ≡ NoAssignment → ⊥) → (take end out' ≡ refusal_text f) ↔ FailsFor Sheet s f
  pub five : (take end out' ≡ refusal_text NoAssignment) ↔ Unmet s
  pub some : (c : Contents) → Reads Sheet s c → (σ : Assignment) → rules_of c σ → KeyText c (take end out')
  -- what is no refusal's text is that of the sheet's tightest key
  pub accepted : ((f : Refusal) → take end out' ≡ refusal_text f → ⊥) ↔ PrintedKey s (take end out')
  pub made : (k : PrintedKey s (take end out')) → KeyTextMade k.contents k.is.key (take end out')
  -- one meaning, one text: two sheets that some integers satisfy, of equal n and hidden set, allow the same visible integers exactly when their key texts are the same bytes
  pub same : (k : PrintedKey s (take end out')) (s₂ text₂ : List ℕ) (k₂ : PrintedKey s₂ text₂) → k.contents.count ≡ k₂.contents.count → set_in k.contents ≡ set_in k₂.contents
      → SheetsAllowSame (hidden_in (set_in k.contents)) (rules_of k.contents) (rules_of k₂.contents) ↔ (take end out' ≡ text₂)
  -- where all its bounds lie in a script's range it is one of the sheet's own keys, and marking it against its sheet, with words enough lent, replies equal
  pub own_key : (k : PrintedKey s (take end out')) → BoundsWithin Script k.contents.count (set_in k.contents) k.is.key → OwnKeyText s (take end out')
  pub own_script : (k : PrintedKey s (take end out')) → BoundsWithin Script k.contents.count (set_in k.contents) k.is.key
      → (lent : Lengths) → Room k.contents.count lent → texts_reply s (take end out') lent ≡ marked k.contents.count Equal

-- ---- *mark*

-- what is printed for two texts: the reply, and for loose and tight an assignment that shows it. Which one is the program's choice
pub record MarkPrinted (sheet script out : List ℕ) (end : ℕ) (out' : List ℕ) : Type 0 where
  pub reply : TextMarking
  pub values : List ℤ
  pub judged : TextsJudged sheet script (own_lengths max_quantities) reply values
  pub count : end ≡ length (mark_text reply values)
  pub bytes : out' ≡ mark_text reply values ++ drop (length (mark_text reply values)) out
  -- so many bytes are there, as in `KeyPrinted`
  pub room : end ≤ length out'
  pub front : end ≡ length (take end out')
  -- the bytes alone tell the reply: a refusal with its paper, exactly for its reasons
  pub refused : (p : Subject) (f : Refusal) → (take end out' ≡ refused_mark_text p f) ↔ RefusedPair sheet script (own_lengths max_quantities) p f
  -- 5 is no reply of marking, and there is room for every sheet, so 6 does not come
  pub never : (p : Subject) (f : Refusal) → take end out' ≡ refused_mark_text p f → ((refusal_number f ≡ 5) → ⊥) × ((refusal_number f ≡ 6) → ⊥)
  -- a verdict, exactly where both texts are accepted, and what it means
  pub accepted : (v : Verdict) (integers : List ℤ) → take end out' ≡ verdict_text v integers → AcceptedPair sheet script (own_lengths max_quantities)
  pub verdict : (t : AcceptedPair sheet script (own_lengths max_quantities)) → VerdictText t (take end out')
  -- the text of a sheet's own key is found equal
  pub own_key : OwnKeyText sheet script → take end out' ≡ verdict_text Equal []
