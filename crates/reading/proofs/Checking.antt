-- Each way of checking a text: its size or its header is refused, or the lines of its rules decide. Assumes nothing.
use mathlib.Core.Path.{◌≡◌, refl, sym, ◌∙◌, ap}
use mathlib.Core.List.{List, ◌++◌}
use Rattle.std.specs.Prelude.{Err}
use Prim.Native.Nat.{ℕ, ◌+◌}
use native.Mathlib.Omega.{arith}
use lib.ListN.{length, drop, length-append, length-drop}
use Rattle.rules.specs.declared.paper.Paper.{Paper}
use Rattle.rules.specs.declared.refusal.Refusal.{Refusal}
use Rattle.rules.specs.Limits.{max_quantities, bound_range, bound_limit, max_rules}
use Rattle.lines.specs.Spelling.{Line, Written, quantities, hidden, rules, quantities_key, rules_key, line_text, all_within}
use Rattle.lines.specs.Lines.{Judged, accepted, refused, never, between, count_line, hidden_line, count_judged, hidden_judged}
use Rattle.lines.proofs.Spellings.{quantities_sound, hidden_sound, rules_sound}
use Rattle.lines.proofs.Found.{by_accepted}
use Rattle.reading.specs.declared.check.Passed.{Passed}
use Rattle.reading.specs.Texts.{Contents, lines_text, header_text}
use Rattle.reading.specs.Reading.{onward, rules_from, lines_from, check_text, check_header, checked_of, checked_rules}
use Rattle.reading.proofs.Limits.{list_limit}
use Rattle.reading.proofs.RuleLines.{rules_count}
use Rattle.reading.proofs.CheckedHeaders.{HeaderFound, header_ends, header_goes}

-- ---- where the rule lines begin

-- a line that is spelled is as long as the bytes it takes
line_length : (l : Line) (u v : List ℕ) → u ≡ line_text l ++ v → length u ≡ length (line_text l) + length v
line_length l u v e = ap length e ∙ length-append (line_text l) v

-- the header is as long as its lines
header_length : (c : Contents) → length (header_text c)
    ≡ length (line_text (quantities c.count)) + length (line_text (hidden c.hiddens)) + length (line_text (rules (length c.written)))
unfolding header_text lines_text
header_length c = simp length-append (omega arith)

-- header lines that are accepted are those of the contents
header_end : (c : Contents) (s u v w : List ℕ) → count_judged quantities_key 1 max_quantities 1 s ≡ accepted c.count u
    → hidden_judged c.count 2 u ≡ accepted c.hiddens v → count_judged rules_key 0 max_rules 3 v ≡ accepted (length c.written) w
    → length s ≡ length (header_text c) + length w
unfolding count_judged hidden_judged
header_end c s u v w e d g =
    by_accepted 1 (between 1 max_quantities) never (count_line quantities_key s) c.count u e (λ p _ _.
    by_accepted 2 (all_within c.count) never (hidden_line u) c.hiddens v d (λ q _ _.
    by_accepted 3 (between 0 max_rules) never (count_line rules_key v) (length c.written) w g (λ r _ _.
    omega (
      arith,
      header_length c,
      line_length (quantities c.count) s u (quantities_sound s c.count u p),
      line_length (hidden c.hiddens) u v (hidden_sound u c.hiddens v q),
      line_length (rules (length c.written)) v w (rules_sound v (length c.written) w r),
    ))))

-- ---- each way of the check

-- the size or the header is refused
pub header_checked : (paper : Paper) (s : List ℕ) (f : Refusal) → check_header s ≡ refused f → Err f ≡ checked_of (check_text paper s)
unfolding check_text lines_from checked_of
header_checked paper s f e = sym (ap checked_of (header_ends s _ f e))

-- the lines of the rules decide, in whatever order they may be: as many are accepted as the header says
module _ (s : List ℕ) (p : Passed) (h : HeaderFound s p) where
  abbrev n : ℕ
  n = p.quantities

  pub lines_checked : (j : Judged (List Written)) → ((ws : List Written) (x : List ℕ) → j ≡ accepted ws x → length ws ≡ p.rules)
      → checked_rules p j ≡ checked_of (onward j (λ rs. accepted (record { count = n; hiddens = h.members; written = rs })))
  unfolding onward checked_of checked_rules
  lines_checked j count = go j refl
    where
      made : List Written → Contents
      made ws = record { count = n; hiddens = h.members; written = ws }

      begins : (ws : List Written) → length ws ≡ p.rules → p.body ≡ length (header_text (made ws))
      begins ws k =
          omega (arith, header_end (made ws) s h.second h.third (drop p.body s) h.counts h.hides (rw k h.rules), length-drop p.body s, h.inside)

      go : (i : Judged (List Written)) → j ≡ i → checked_rules p i ≡ checked_of (onward i (λ rs. accepted (made rs)))
      go (accepted ws x) q = let k = count ws x q in rw (← h.told, k, ← begins ws k)
      go (refused f) q = refl

  -- in any order
  pub rules_checked : (paper : Paper) → checked_rules p (rules_from n (bound_limit paper n p.hidden) p.rules 4 (drop p.body s)) ≡ checked_of (check_text paper s)
  unfolding check_text lines_from
  rules_checked paper = rw (← limit, lines_checked (rules_from n range p.rules 4 (drop p.body s)) (λ ws x q. (rules_count n range p.rules 4 (drop p.body s) ws x q).0))
      (sym (ap checked_of (header_goes s _ p h)))
    where
      range : ℕ
      range = bound_range paper n (length h.members)

      limit : range ≡ bound_limit paper n p.hidden
      limit = sym (list_limit paper n h.members h.increase h.within) ∙ ap (bound_limit paper n) (sym h.told)
