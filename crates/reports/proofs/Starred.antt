-- Document 01's starred cases, in its order, as one table: what *key* and *mark* print for whole texts, and the assignments that it gives for two verdicts. Every case
-- is computed by the definitions that the contracts cite. Assumes nothing.
use mathlib.Core.Path.{refl}
use mathlib.Core.List.{List, [], ◌∷◌}
use Rattle.numerals.specs.Decimal.{decimal}
use Rattle.reports.proofs.Cases.{Case, key, mark, shows, AllPass, reckoning, spelling, largest_passes}
use Rattle.reports.proofs.Cases.{sheet_a, same_as_key, wide, narrow, wide_and_narrow, halved_below, one_half, seen_late, unpaired, largest, no_rules}
use Rattle.reports.proofs.Shown.{zero_zero_six, three_one_zero, wide_may_show, narrow_may_show}

abbrev pub starred : List Case
starred =
    key sheet_a
    ∷ mark same_as_key
    ∷ mark wide
    ∷ shows wide zero_zero_six
    ∷ mark narrow
    ∷ shows narrow three_one_zero
    ∷ mark wide_and_narrow
    ∷ key halved_below
    ∷ key one_half
    ∷ key seen_late
    ∷ key unpaired
    ∷ key largest
    ∷ mark no_rules
    ∷ []

pub starred_pass : AllPass starred
unfolding reckoning spelling decimal
starred_pass = (
  refl,
  (
    λ v. refl,
    (λ v. refl, (wide_may_show, (λ v. refl, (narrow_may_show, (λ v. refl, (refl, (refl, (refl, (refl, (largest_passes, (λ v. refl, tt))))))))))),
  ),
)
