-- Document 02's tightest key on whole texts, as one table: what *key* prints for sheets whose plain key is another, and what *mark* prints where a rule of the tight key would come before that of the plain
-- key. Every case is computed by the definitions that the contracts cite. Assumes nothing.
use mathlib.Core.Path.{◌≡◌, refl, ◌∙◌}
use mathlib.Core.Bool.{true, false}
use mathlib.Core.List.{List, [], ◌∷◌}
use native.Mathlib.Omega.{arith}
use lib.IntN.{pos}
use Rattle.numerals.specs.Bytes.{bytes}
use Rattle.numerals.specs.Decimal.{decimal}
use Rattle.numerals.proofs.Decimals.{up_to_enough}
use Rattle.rules.specs.Hidden.{hidden_in}
use Rattle.keys.specs.Keys.{key_of}
use Rattle.lines.specs.Spelling.{one, two}
use Rattle.reading.specs.Texts.{Contents, sheet_text}
use Rattle.reading.proofs.Frauds.{contents_a}
use Rattle.writing.specs.Writing.{written_text}
use Rattle.scripts.specs.Meaning.{table_in}
use Rattle.reports.specs.Reports.{key_report}
use Rattle.reports.proofs.Cases.{sheet_a, KeyCase, KeyPasses, MarkCase, Case, key, mark, AllPass, reckoning, spelling}

-- the sum of two bounds alone
abbrev pub summed : KeyCase
summed = record {
  sheet = "quantities=2\nhidden=\nrules=2\nrule=+1:1\nrule=+2:1\n";
  printed = "quantities=2\nhidden=\nrules=3\nrule=+1:1\nrule=+2:1\nrule=+1+2:2\n";
}

-- the same meaning with a rule that says less: the same text
abbrev pub summed_loosely : KeyCase
summed_loosely = record {
  sheet = "quantities=2\nhidden=\nrules=3\nrule=+1:1\nrule=+2:1\nrule=+1+2:7\n";
  printed = summed.printed;
}

-- a bound alone, from two rules and halving
abbrev pub alone : KeyCase
alone = record {
  sheet = "quantities=2\nhidden=\nrules=2\nrule=+1+2:1\nrule=+1-2:0\n";
  printed = "quantities=2\nhidden=\nrules=3\nrule=+1:0\nrule=+1+2:1\nrule=+1-2:0\n";
}

-- halved bounds are summed: 1 becomes 0
abbrev pub halved_then_summed : KeyCase
halved_then_summed = record {
  sheet = "quantities=2\nhidden=\nrules=3\nrule=+1-2:0\nrule=-1+2:0\nrule=+1+2:1\n";
  printed = "quantities=2\nhidden=\nrules=5\nrule=+1:0\nrule=+2:0\nrule=+1+2:0\nrule=+1-2:0\nrule=-1+2:0\n";
}

-- two visible quantities that are equal by a hidden one
abbrev pub through_hidden : KeyCase
through_hidden = record {
  sheet = "quantities=3\nhidden=3\nrules=5\nrule=+1-3:0\nrule=-1+3:0\nrule=+2-3:0\nrule=-2+3:0\nrule=+1:5\n";
  printed = "quantities=3\nhidden=3\nrules=5\nrule=+1:5\nrule=+2:5\nrule=+1+2:10\nrule=+1-2:0\nrule=-1+2:0\n";
}

-- tight bounds that no script may state
abbrev pub past_scripts : KeyCase
past_scripts = record {
  sheet = "quantities=2\nhidden=\nrules=2\nrule=+1:1000000000\nrule=-1+2:1000000000\n";
  printed = "quantities=2\nhidden=\nrules=4\nrule=+1:1000000000\nrule=+2:2000000000\nrule=+1+2:3000000000\nrule=-1+2:1000000000\n";
}

-- the separating rule is the plain key's: the tight key has +1:0 before it
abbrev pub plain_rule : MarkCase
plain_rule = record {
  sheet = alone.sheet;
  script = "quantities=2\nhidden=\nrules=0\n";
  printed = "verdict=loose\nrule=+1+2:1\n";
}

-- ---- the large bounds, spelled by their digits

abbrev past_key : Contents
past_key = record {
  count = 2;
  hiddens = [];
  written =
      one (record { negative = false; quantity = 1 }) (pos 1000000000)
      ∷ one (record { negative = false; quantity = 2 }) (pos 2000000000)
      ∷ two (record { negative = false; quantity = 1 }) (record { negative = false; quantity = 2 }) (pos 3000000000)
      ∷ two (record { negative = true; quantity = 1 }) (record { negative = false; quantity = 2 }) (pos 1000000000)
      ∷ [];
}

past_found : key_report (bytes past_scripts.sheet) ≡ sheet_text past_key
unfolding reckoning
past_found = refl

past_spelled : sheet_text past_key ≡ bytes past_scripts.printed
unfolding spelling
past_spelled =
    rw (
      ← up_to_enough 9 1000000000 (omega arith),
      ← up_to_enough 9 2000000000 (omega arith),
      ← up_to_enough 9 3000000000 (omega arith),
      ← up_to_enough 0 1 (omega arith),
      ← up_to_enough 0 2 (omega arith),
      ← up_to_enough 0 4 (omega arith),
    )

past_passes : KeyPasses past_scripts
past_passes = past_found ∙ past_spelled

-- ---- the table

abbrev pub tightest : List Case
tightest = key summed ∷ key summed_loosely ∷ key alone ∷ key halved_then_summed ∷ key through_hidden ∷ key past_scripts ∷ mark plain_rule ∷ []

pub tightest_pass : AllPass tightest
unfolding reckoning spelling decimal
tightest_pass = (refl, (refl, (refl, (refl, (refl, (past_passes, (λ v. refl, tt)))))))

-- ---- the plain key's text

-- of sheet A it is the same as the tightest key's
pub plain_same : written_text 3 2 (key_of (hidden_in 2) 3 (table_in contents_a)) ≡ bytes sheet_a.printed
unfolding reckoning spelling decimal
plain_same = refl
