-- Document 01's starred cases as texts: what *key* and *mark* print for them, which Starred.antt has in one table. Every case is computed by the definitions that the
-- contracts cite. (All other cases are stored for the programs: tests/key, tests/mark, `cases`, `worked`.) Assumes nothing.
use Rattle.std.specs.Prelude.{Ok, Err}
use mathlib.Core.Path.{◌≡◌, refl, ◌∙◌}
use mathlib.Core.Bool.{true, false, cond}
use mathlib.Core.List.{List, [], ◌∷◌, ◌++◌}
use Prim.Native.Nat.{ℕ}
use Prim.Native.String.{String}
use native.Mathlib.Omega.{arith}
use lib.IntN.{ℤ, pos}
use lib.ListN.{take}
use Rattle.integers.specs.Bound.{half, opposite_bound, smaller}
use Rattle.words.specs.Change.{change_from, change, lowered}
use Rattle.places.specs.Numbering.{block_start, place_of_one, place_of_pair, place_of_two, find_two, block_up_to, block_of, offset_of, is_one, higher_at, lower_at}
use Rattle.rules.specs.declared.rule.Rule.{Rule}
use Rattle.rules.specs.Limits.{max_quantities, bound_limit}
use Rattle.rules.specs.Meaning.{names}
use Rattle.rules.specs.Steps.{rule_of, opposite_of, halved_of}
use Rattle.tables.specs.Places.{rule_at, find_place}
use Rattle.tables.specs.Tables.{put_at, put_halved, put_rule, put_all, cleared, names_hidden, any_names_hidden}
use Rattle.elimination.specs.Hiding.{with_sum, with_half, bare_below, pair_word, on_one, on_two, live_at, pairing, any_bare, paired, contradicts, eliminated}
use Rattle.keys.specs.Keys.{hide_up_to, key_of, refuted_up_to, refuted}
use Rattle.tightening.specs.Tightening.{pair_up_to, strengthening, strengthened, tightened, tight_key_of}
use Rattle.marking.specs.declared.verdict.Verdict.TheVariants.{Equal, Loose, Tight}
use Rattle.marking.specs.Verdicts.{verdict_returned, is_shown}
use Rattle.marking.specs.Meaning.{LooseShown, TightShown}
use Rattle.marking.specs.Marking.{breakable, first_rule, first_broken, verdict_of}
use Rattle.numerals.specs.Bytes.{bytes}
use Rattle.numerals.specs.Decimal.{decimal_up_to, signed_decimal}
use Rattle.numerals.proofs.Decimals.{up_to_enough}
use Rattle.numerals.specs.Parsing.{and_then, expect, digits_from, numeral_of}
use Rattle.lines.specs.Spelling.{two, term_text, rule_text, joined_text, list_text, value_text, line_text, cancelling, written_rule}
use Rattle.lines.specs.Lines.{ended, count_line, members_after, members_from, list_of, hidden_line, term_of, bound_at, bound_line, after_term, rule_line, judged, count_judged, hidden_judged, rule_judged}
use Rattle.rules.specs.Hidden.{hidden_in, set_of, member_count}
use Rattle.reading.specs.Texts.{Contents, lines_text, header_text, sheet_text}
use Rattle.reading.specs.Meaning.{rules_of}
use Rattle.reading.specs.Reading.{onward, rules_from, lines_from, check_text}
use Rattle.writing.specs.Writing.{written_of, rules_at, hidden_from, written_text, count_text}
use Rattle.scripts.specs.Replies.{TextMarking, marked, texts_returned}
use Rattle.scripts.specs.Marking.{room_checks, pair_checks, pair_reply, texts_reply}
use Rattle.scripts.specs.Meaning.{own_lengths, set_in, AcceptedPair}
use Rattle.reports.specs.Refusals.{refusal_text}
use Rattle.reports.specs.Reports.{table_report, report_of, key_report}
use Rattle.reports.specs.Marks.{word_text, values_text, shown_text, verdict_text, mark_text}

-- a sheet's text, and all that *key* prints for it
pub record KeyCase : Type 0 where
  pub sheet : String
  pub printed : String

-- the sheet gives just that
abbrev pub KeyPasses : KeyCase → Type 0
KeyPasses c = key_report (bytes c.sheet) ≡ bytes c.printed

-- a sheet's text, a script's, and all that *mark* prints for them but the line of the assignment, which is the program's choice
pub record MarkCase : Type 0 where
  pub sheet : String
  pub script : String
  pub printed : String

-- the reply to both texts, with as much lent as *mark* lends
abbrev pub reply_for : MarkCase → TextMarking
reply_for c = texts_reply (bytes c.sheet) (bytes c.script) (own_lengths max_quantities)

-- the line of the assignment, which comes last where there is one
abbrev pub shown_line : TextMarking → List ℤ → List ℕ
shown_line (Ok m) values = cond (is_shown m.verdict) (values_text (take m.quantities values)) []
shown_line (Err r) values = []

-- both texts give just that, whatever assignment shows it
abbrev pub MarkPasses : MarkCase → Type 0
MarkPasses c = (values : List ℤ) → mark_text (reply_for c) values ≡ bytes c.printed ++ shown_line (reply_for c) values

-- this assignment shows it, as the contract asks
abbrev pub MayShow : MarkCase → List ℤ → Type 0
MayShow c values = (t : AcceptedPair (bytes c.sheet) (bytes c.script) (own_lengths max_quantities)) (rule : Rule)
    → (texts_returned (reply_for c) ≡ verdict_returned (Loose rule)
    → LooseShown t.of_sheet.count (hidden_in (set_in t.of_sheet)) (rules_of t.of_sheet) (rules_of t.of_script) rule values)
    × (texts_returned (reply_for c) ≡ verdict_returned (Tight rule)
    → TightShown t.of_sheet.count (hidden_in (set_in t.of_sheet)) (rules_of t.of_sheet) (rules_of t.of_script) rule values)

-- a case of one program or the other, or an assignment that shows a verdict
pub data Case : Type 0 where
  key : KeyCase → Case
  mark : MarkCase → Case
  shows : MarkCase → List ℤ → Case

-- it passes
abbrev pub Passes : Case → Type 0
Passes (key c) = KeyPasses c
Passes (mark c) = MarkPasses c
Passes (shows c values) = MayShow c values

-- all of a table do
abbrev pub AllPass : List Case → Type 0
AllPass [] = Unit {0}
AllPass (c ∷ cs) = Passes c × AllPass cs

-- ---- the starred cases, in document 01's order

-- sheet A
abbrev pub sheet_a : KeyCase
sheet_a = record {
  sheet = "quantities=3\nhidden=2\nrules=3\nrule=+1+2:5\nrule=+1-2:2\nrule=+3-2:0\n";
  printed = "quantities=3\nhidden=2\nrules=2\nrule=+1:3\nrule=+1+3:5\n";
}

-- the key's own rules, one of them doubled
abbrev pub same_as_key : MarkCase
same_as_key = record {
  sheet = sheet_a.sheet;
  script = "quantities=3\nhidden=2\nrules=2\nrule=+1+1:7\nrule=+1+3:5\n";
  printed = "verdict=equal\n";
}

-- too wide
abbrev pub wide : MarkCase
wide = record {
  sheet = sheet_a.sheet;
  script = "quantities=3\nhidden=2\nrules=1\nrule=+1:3\n";
  printed = "verdict=loose\nrule=+1+3:5\n";
}

-- too narrow
abbrev pub narrow : MarkCase
narrow = record {
  sheet = sheet_a.sheet;
  script = "quantities=3\nhidden=2\nrules=2\nrule=+1:2\nrule=+1+3:5\n";
  printed = "verdict=tight\nrule=+1:2\n";
}

-- both too wide and too narrow
abbrev pub wide_and_narrow : MarkCase
wide_and_narrow = record {
  sheet = sheet_a.sheet;
  script = "quantities=3\nhidden=2\nrules=1\nrule=+1:2\n";
  printed = "verdict=loose\nrule=+1+3:5\n";
}

-- a doubled term below 0 is halved toward minus infinity
abbrev pub halved_below : KeyCase
halved_below = record {
  sheet = "quantities=1\nhidden=\nrules=1\nrule=+1+1:-1\n";
  printed = "quantities=1\nhidden=\nrules=1\nrule=+1:-1\n";
}

-- 5, though one half fits
abbrev pub one_half : KeyCase
one_half = record {
  sheet = "quantities=1\nhidden=\nrules=2\nrule=+1+1:1\nrule=-1-1:-1\n";
  printed = "refused=5\nline=0\n";
}

-- 5, seen only after both quantities go
abbrev pub seen_late : KeyCase
seen_late = record {
  sheet = "quantities=2\nhidden=1\nrules=4\nrule=+1+2:1\nrule=-1-2:-1\nrule=+1-2:0\nrule=-1+2:0\n";
  printed = "refused=5\nline=0\n";
}

-- a hidden quantity's lone rule goes
abbrev pub unpaired : KeyCase
unpaired = record {
  sheet = "quantities=2\nhidden=2\nrules=1\nrule=+1+2:0\n";
  printed = "quantities=2\nhidden=2\nrules=0\n";
}

-- a bound outside the sheet's limit is written
abbrev pub largest : KeyCase
largest = record {
  sheet = "quantities=3\nhidden=2\nrules=2\nrule=+1-2:1000000000\nrule=+2-3:1000000000\n";
  printed = "quantities=3\nhidden=2\nrules=1\nrule=+1-3:2000000000\n";
}

-- nothing visible, no rules
abbrev pub no_rules : MarkCase
no_rules = record {
  sheet = "quantities=1\nhidden=1\nrules=0\n";
  script = "quantities=1\nhidden=1\nrules=0\n";
  printed = "verdict=equal\n";
}

-- ---- how they pass

-- `unfolding reckoning` lets every definition compute that a case uses, up to the spelling of what is printed
unfoldable pub reckoning : Unit {0}
unfolding
    half opposite_bound smaller change_from change lowered
    block_start place_of_one place_of_pair place_of_two find_two block_up_to block_of offset_of is_one higher_at lower_at
    names rule_of opposite_of halved_of rule_at find_place put_at put_halved put_rule put_all cleared
    with_sum with_half bare_below pair_word on_one on_two live_at pairing any_bare paired contradicts eliminated
    bound_limit member_count hide_up_to key_of refuted_up_to refuted pair_up_to strengthening strengthened tightened tight_key_of
    breakable first_rule first_broken verdict_of names_hidden any_names_hidden
    and_then expect digits_from numeral_of cancelling written_rule
    ended count_line members_after members_from list_of hidden_line term_of bound_at bound_line after_term rule_line judged count_judged hidden_judged rule_judged set_of
    onward rules_from lines_from check_text written_of rules_at hidden_from written_text table_report report_of key_report
    room_checks pair_checks pair_reply texts_reply mark_text
reckoning = tt

-- and this the spelling
unfoldable pub spelling : Unit {0}
unfolding decimal_up_to signed_decimal term_text rule_text joined_text list_text value_text line_text lines_text header_text sheet_text count_text
    refusal_text word_text shown_text verdict_text
spelling = tt

-- the key of `largest`
abbrev largest_key : Contents
largest_key = record {
  count = 3;
  hiddens = 2 ∷ [];
  written = two (record { negative = false; quantity = 1 }) (record { negative = true; quantity = 3 }) (pos 2000000000) ∷ [];
}

-- is found
largest_found : key_report (bytes largest.sheet) ≡ sheet_text largest_key
unfolding reckoning
largest_found = refl

-- and spelled: its bound is computed by its digits, of which ten are enough
largest_spelled : sheet_text largest_key ≡ bytes largest.printed
unfolding spelling
largest_spelled =
    rw (← up_to_enough 9 2000000000 (omega arith), ← up_to_enough 0 1 (omega arith), ← up_to_enough 0 2 (omega arith), ← up_to_enough 0 3 (omega arith))

pub largest_passes : KeyPasses largest
largest_passes = largest_found ∙ largest_spelled

-- handed in as the script of its sheet it is equal, though no sheet may state its bound (document 02, request 1)
pub largest_own : texts_reply (bytes largest.sheet) (bytes largest.printed) (own_lengths max_quantities) ≡ marked 3 Equal
unfolding reckoning
largest_own = refl
