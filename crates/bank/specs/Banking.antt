-- Reading a bank sheet: its header as ordinary reading has it, and its rule lines in order. These are steps, which compute.
use Rattle.std.specs.Prelude.{cond, List, ℕ, ltb, ℤ, length}
use Rattle.rules.specs.declared.paper.Paper.TheVariants.{Sheet}
use Rattle.rules.specs.declared.refusal.Refusal.TheVariants.{Size}
use Rattle.rules.specs.Limits.{bound_range, max_text}
use Rattle.lines.specs.Lines.{Judged, accepted, refused}
use Rattle.reading.specs.Texts.{Contents}
use Rattle.reading.specs.Reading.{Reading, onward, after_header, reply_to, filled, is_accepted}
use Rattle.reading.specs.Ordered.{ordered_from}

-- the lines of a bank sheet
unfoldable pub bank_lines : List ℕ → Judged Contents
bank_lines s = after_header s (λ n qs m w.
    onward (ordered_from n (bound_range Sheet n (length qs)) 0 m 4 w) (λ rs. accepted (record { count = n; hiddens = qs; written = rs })))

-- what a bank sheet writes, or its refusal: 1 for its size, else that of the first line that fails
unfoldable pub bank_text : List ℕ → Judged Contents
bank_text s = cond (ltb max_text (length s)) (refused Size) (bank_lines s)

-- the reply of reading into a table of so many words, and the table afterwards
unfoldable pub bank_reply : List ℕ → ℕ → Reading
bank_reply s words = reply_to words (bank_text s)

unfoldable pub bank_table : List ℕ → List ℤ → List ℤ
bank_table s t = cond (is_accepted (bank_reply s (length t))) (filled (bank_text s) t) t
