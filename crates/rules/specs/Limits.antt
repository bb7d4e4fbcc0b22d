-- The limits of papers, each named once. `rules::sheet::constants` ties the constants to those of `rules::sheet::Sheet`.
use Rattle.std.specs.Prelude.{ℕ, ◌*◌, ◌^◌, ℤ, pos}
use Rattle.rules.specs.declared.paper.Paper.{Paper}
use Rattle.rules.specs.declared.paper.Paper.TheVariants.{Sheet, Script}
use Rattle.rules.specs.Hidden.{hidden_in, member_count}

-- quantities are numbered from 1 to at most this
abbrev pub max_quantities : ℕ
max_quantities = 32

-- no bound of a sheet is larger than this in magnitude
abbrev pub max_bound : ℕ
max_bound = 1000000000

-- a bound is at most this in magnitude on a paper over n quantities whose header hides k of them (document 02: "With k hidden quantities in its header a script may hold
-- bounds up to 1,000,000,000 multiplied by 2 to the power k", "Sheets keep their range")
abbrev pub bound_range : Paper → ℕ → ℕ → ℕ
bound_range Sheet n k = max_bound
bound_range Script n k = max_bound * 2 ^ k

-- the same where the header has a set: it hides the members up to n
unfoldable pub bound_limit : Paper → ℕ → ℕ → ℕ
bound_limit paper n set = bound_range paper n (member_count (hidden_in set) n)

-- rule lines of a text
abbrev pub max_rules : ℕ
max_rules = 2048

-- the word of a table that means no rule
abbrev pub no_rule : ℤ
no_rule = pos 9223372036854775807

-- bytes of a text
abbrev pub max_text : ℕ
max_text = 65536
