-- Each way of checking a bank sheet: its size or its header is refused, or the lines of its rules decide. Assumes nothing.
use mathlib.Core.Path.{◌≡◌, sym, ◌∙◌, ap}
use mathlib.Core.Bool.{true}
use mathlib.Core.List.{List}
use Rattle.std.specs.Prelude.{Err}
use Prim.Native.Nat.{ℕ}
use lib.ListN.{drop}
use Rattle.rules.specs.declared.paper.Paper.TheVariants.{Sheet}
use Rattle.rules.specs.declared.refusal.Refusal.{Refusal}
use Rattle.rules.specs.Limits.{max_bound, bound_limit}
use Rattle.reading.specs.declared.check.Passed.{Passed}
use Rattle.reading.specs.Reading.{Checked, check_header, header_of, checked_of, checked_rules}
use Rattle.reading.proofs.CheckedHeaders.{HeaderFound, header_failed, header_ends, header_goes}
use Rattle.reading.proofs.Checking.{lines_checked}
use Rattle.reading.specs.Promises.{judged_rules}
use Rattle.reading.proofs.OrderedLines.{ordered_count}
use Rattle.bank.specs.Banking.{bank_lines, bank_text}

-- the size or the header is refused
pub header_checked : (s : List ℕ) (r : Checked) (f : Refusal) → r ≡ header_of s (check_header s) → r ≡ Err f → r ≡ checked_of (bank_text s)
unfolding bank_text bank_lines checked_of
header_checked s r f e q = q ∙ sym (ap checked_of (header_ends s _ f (header_failed s r f e q)))

-- the lines of the rules decide
pub rules_checked : (s : List ℕ) (p : Passed) (h : HeaderFound s p)
    → checked_rules p (judged_rules true p (bound_limit Sheet p.quantities p.hidden) s) ≡ checked_of (bank_text s)
unfolding bank_text bank_lines bound_limit
rules_checked s p h =
    lines_checked s p h (judged_rules true p max_bound s)
    (λ ws x q. (ordered_count p.quantities max_bound 0 p.rules 4 (drop p.body s) ws x q).0)
    ∙ sym (ap checked_of (header_goes s _ p h))
