-- Checking a text as a bank sheet is what the spellings say: it answers exactly what the text means. Assumes nothing.
use mathlib.Core.Path.{◌≡◌, refl, sym, ◌∙◌, ap, subst}
use mathlib.Core.Bool.{Bool, true, false}
use mathlib.Core.List.{List, [], ◌++◌, append-nil}
use mathlib.Core.Logic.{◌↔◌, inl, inr}
use Prim.Native.Nat.{ℕ, suc, ◌+◌, ◌-◌, ◌<◌, ◌≤◌}
use native.Mathlib.Omega.{arith}
use lib.Dec.{ltb}
use lib.ListN.{length}
use borrow.Author.Tests.{lt-ltb, le-ltb, ltb-true, ltb-false}
use Rattle.numerals.specs.Decimal.{cap}
use Rattle.rules.specs.declared.paper.Paper.TheVariants.{Sheet}
use Rattle.rules.specs.declared.refusal.Refusal.{Refusal}
use Rattle.rules.specs.declared.refusal.Refusal.TheVariants.{Size, NotCanonical}
use Rattle.rules.specs.Limits.{max_bound, max_quantities, max_rules, max_text}
use Rattle.rules.specs.Refusal.{refusal_line}
use Rattle.lines.specs.Spelling.{Written, rule, quantities_key, rules_key, line_text}
use Rattle.lines.specs.Lines.{Judged, accepted, refused, count_judged, hidden_judged}
use Rattle.reading.specs.Texts.{Contents, rule_lines, lines_text}
use Rattle.reading.specs.Meaning.{Opening, start, counted, headed, ruled, lines_of, Reaches, LineFails, malformed_at, outside_at, cancels_at, FailsFor}
use Rattle.reading.specs.Reading.{onward, after_header, rules_from, lines_from, check_text}
use Rattle.reading.proofs.RuleLines.{not-accepted}
use Rattle.reading.proofs.LineAnswers.{onward_onward}
use Rattle.reading.proofs.Headers.{rule_read}
use Rattle.reading.proofs.Openings.{line_of, go_on}
use Rattle.reading.proofs.AfterOpenings.{reached}
use Rattle.reading.proofs.Ending.{all_of, sheet_lines}
use Rattle.reading.proofs.Means.{text_means, reads_check, small_check}
use Rattle.writing.proofs.Past.{lines_count}
use Rattle.reading.specs.Ordered.{ordered_from}
use Rattle.reading.proofs.OrderedLines.{ordered_stops}
use Rattle.bank.specs.Order.{InBankOrder}
use Rattle.bank.specs.Banking.{bank_lines, bank_text}
use Rattle.bank.specs.Meaning.{BankReads, rules_read, opening_of, NotCanonicalAt, line_fails, not_canonical_at, BankFails}
use Rattle.bank.proofs.Headers.{HeaderAt, header_next, header_same, header_reaches, reaches_header, reaches_more, same_rules}
use Rattle.bank.proofs.Ordering.{least_after, out_refused}
use Rattle.bank.proofs.Agreeing.{any_line}
use Rattle.bank.proofs.OrderTold.{AllRead, LineFailed, OrderFailed, Told, lines_told, lines_passed, lines_stop}

-- what checking a bank sheet has to answer: what it writes, with nothing after it, or the refusal
abbrev pub BankMeans : List ℕ → Judged Contents → Type 0
BankMeans s (accepted c u) = BankReads s c × (u ≡ [])
BankMeans s (refused f) = BankFails s f

-- every bound of a sheet is told
below : max_bound < cap
below = omega arith

-- ---- the header

-- what a text writes whose rules these are
abbrev contents : ℕ → List ℕ → List Written → Contents
contents n qs rs = record { count = n; hiddens = qs; written = rs }

-- one of its lines is refused, whatever follows
abbrev HeaderRefused : List ℕ → Refusal → Type 1
HeaderRefused s f = (A : Type 0) (next : ℕ → List ℕ → ℕ → List ℕ → Judged A) → after_header s next ≡ refused f

-- it is read, or refused
header_or_not : {X : Type 0} (s : List ℕ) → ((n : ℕ) (qs : List ℕ) (m : ℕ) (w : List ℕ) → HeaderAt s n qs m w → X)
    → ((f : Refusal) → HeaderRefused s f → X) → X
unfolding onward
header_or_not {X} s found fails = first (count_judged quantities_key 1 max_quantities 1 s) refl
  where
    third : (n : ℕ) (u qs v : List ℕ) → count_judged quantities_key 1 max_quantities 1 s ≡ accepted n u → hidden_judged n 2 u ≡ accepted qs v
        → (j : Judged ℕ) → count_judged rules_key 0 max_rules 3 v ≡ j → X
    third n u qs v e d (refused f) g = fails f (λ A next. rw (e, d, g))
    third n u qs v e d (accepted m w) g = found n qs m w (record { second = u; third = v; counts = e; hides = d; rules = g })

    second : (n : ℕ) (u : List ℕ) → count_judged quantities_key 1 max_quantities 1 s ≡ accepted n u → (j : Judged (List ℕ)) → hidden_judged n 2 u ≡ j → X
    second n u e (refused f) d = fails f (λ A next. rw (e, d))
    second n u e (accepted qs v) d = third n u qs v e d (count_judged rules_key 0 max_rules 3 v) refl

    first : (j : Judged ℕ) → count_judged quantities_key 1 max_quantities 1 s ≡ j → X
    first (refused f) e = fails f (λ A next. rw e)
    first (accepted n u) e = second n u e (hidden_judged n 2 u) refl

-- where it is read, its rule lines decide, in any order and in bank order
module _ (s : List ℕ) (n : ℕ) (qs : List ℕ) (m : ℕ) (w : List ℕ) (h : HeaderAt s n qs m w) where
  any_lines : lines_from Sheet s ≡ onward (rules_from n max_bound m 4 w) (λ rs. accepted (contents n qs rs))
  unfolding lines_from
  any_lines = header_next s _ n qs m w h

  ordered_lines : bank_lines s ≡ onward (ordered_from n max_bound 0 m 4 w) (λ rs. accepted (contents n qs rs))
  unfolding bank_lines
  ordered_lines = header_next s _ n qs m w h

-- ---- the opening of a line that fails

-- its rules are in order, where those of every opening with rules that ends there are
fails_ordered : (s : List ℕ) (f : Refusal) (w : LineFails Sheet s f)
    → ((n : ℕ) (qs : List ℕ) (m : ℕ) (rs : List Written) (u : List ℕ) → Reaches Sheet s (ruled n qs m rs) (refusal_line f) u → InBankOrder rs)
    → InBankOrder (rules_read (opening_of w))
fails_ordered s f w each = go w
  where
    opening : (o : Opening) (line : ℕ) (u : List ℕ) → refusal_line f ≡ line → Reaches Sheet s o line u → InBankOrder (rules_read o)
    opening start line u e r = tt
    opening (counted n) line u e r = tt
    opening (headed n qs) line u e r = tt
    opening (ruled n qs m rs) line u e r = each n qs m rs u (subst (λ (i : ℕ). Reaches Sheet s (ruled n qs m rs) i u) (sym e) r)

    go : (w : LineFails Sheet s f) → InBankOrder (rules_read (opening_of w))
    go (malformed_at line t e) = opening t.opening line t.rest (ap refusal_line e) t.reached
    go (outside_at line t e) = opening t.opening line (line_text t.found ++ t.rest) (ap refusal_line e) t.reached
    go (cancels_at line t e) = opening t.opening line (line_text t.found ++ t.rest) (ap refusal_line e) t.reached

-- a text that is not too long fails by its lines
lines_fail : (s : List ℕ) (f : Refusal) → length s ≤ max_text → lines_from Sheet s ≡ refused f → LineFails Sheet s f
lines_fail s f h e = go ((text_means Sheet s (refused f)).0 (small_check Sheet s h ∙ e))
  where
    go : FailsFor Sheet s f → LineFails Sheet s f
    go (inl x) = let z : ⊥ = omega (arith, x.0) in absurd z
    go (inr x) = x.1

-- ---- the answer is what the text means

module _ (s : List ℕ) (small : length s ≤ max_text) where
  -- the header fails
  header_fails : (f : Refusal) → HeaderRefused s f → BankMeans s (bank_lines s)
  unfolding bank_lines lines_from
  header_fails f e =
      let w = lines_fail s f small (e Contents _) in
      subst (BankMeans s) (sym (e Contents _)) (inr (
        small,
        line_fails w (fails_ordered s f w (λ n qs m rs u r.
            not-accepted (sym (e ℕ made) ∙ header_next s made n qs m (lines_text (rule_lines rs) ++ u) (reaches_header s n qs m rs (refusal_line f) u r)))),
      ))
    where
      made : ℕ → List ℕ → ℕ → List ℕ → Judged ℕ
      made n qs m w = accepted n w

  -- the rules after a header
  module _ (n : ℕ) (qs : List ℕ) (m : ℕ) (w : List ℕ) (h : HeaderAt s n qs m w) where
    -- all are read
    all_means : (j : Judged (List Written)) → AllRead n max_bound [] m 4 w j → BankMeans s (onward j (λ rs. accepted (contents n qs rs)))
    unfolding onward
    all_means j t = subst (λ (i : Judged (List Written)). BankMeans s (onward i (λ rs. accepted (contents n qs rs)))) (sym t.is)
        (record { reads = ((text_means Sheet s (accepted (contents n qs t.found) [])).0 checked).0; ordered = t.ordered }, refl)
      where
        checked : check_text Sheet s ≡ accepted (contents n qs t.found) []
        checked = small_check Sheet s small ∙ any_lines s n qs m w h ∙ rw t.ordinary

    -- one fails as in any order
    fail_means : (j : Judged (List Written)) → LineFailed n max_bound [] m 4 w j → BankMeans s (onward j (λ rs. accepted (contents n qs rs)))
    unfolding onward
    fail_means j t = subst (λ (i : Judged (List Written)). BankMeans s (onward i (λ rs. accepted (contents n qs rs)))) (sym t.is)
        (inr (small, line_fails fails (fails_ordered s t.refusal fails each)))
      where
        fails : LineFails Sheet s t.refusal
        fails = lines_fail s t.refusal small (any_lines s n qs m w h ∙ rw t.ordinary)

        each : (k : ℕ) (ps : List ℕ) (l : ℕ) (rs : List Written) (u : List ℕ) → Reaches Sheet s (ruled k ps l rs) (refusal_line t.refusal) u → InBankOrder rs
        each k ps l rs u r =
            let g = header_same s n k qs ps m l w (lines_text (rule_lines rs) ++ u) h (reaches_header s k ps l rs (refusal_line t.refusal) u r) in
            let count : length t.found ≡ length rs = omega (arith, t.number, r.number, lines_count rs) in
            subst InBankOrder (same_rules t.found rs t.rest u count (sym t.text ∙ g.rest)) t.ordered

    -- one is out of order
    out_means : (j : Judged (List Written)) → OrderFailed n max_bound [] m 4 w j → BankMeans s (onward j (λ rs. accepted (contents n qs rs)))
    unfolding onward
    out_means j t = subst (λ (i : Judged (List Written)). BankMeans s (onward i (λ rs. accepted (contents n qs rs)))) (sym t.is)
        (inr (
          small,
          not_canonical_at (4 + length t.found) (record {
            count = n;
            hiddens = qs;
            rules = m;
            before = t.found;
            found = t.next;
            rest = t.rest;
            reached = reaches_more s n qs m t.found (line_text (rule t.next) ++ t.rest)
                (subst (Reaches Sheet s (ruled n qs m []) 4) t.text (header_reaches s n qs m w h)) t.fine (omega (arith, t.due));
            ordered = t.ordered;
            due = t.due;
            fine = t.next_fine;
            out = t.out;
          }) refl,
        ))

    rules_mean : BankMeans s (bank_lines s)
    unfolding least_after
    rules_mean = subst (BankMeans s) (sym (ordered_lines s n qs m w h)) (go (lines_told n max_bound below m 4 [] w tt tt))
      where
        go : Told n max_bound [] m 4 w (ordered_from n max_bound 0 m 4 w)
            → BankMeans s (onward (ordered_from n max_bound 0 m 4 w) (λ rs. accepted (contents n qs rs)))
        go (inl t) = all_means _ t
        go (inr (inl t)) = fail_means _ t
        go (inr (inr t)) = out_means _ t

  lines_mean : BankMeans s (bank_lines s)
  lines_mean = header_or_not s rules_mean header_fails

-- a text that is too long is not checked further, and one that is not is answered by its lines
long_bank : (s : List ℕ) → max_text < length s → bank_text s ≡ refused Size
unfolding bank_text
long_bank s h = rw (lt-ltb max_text (length s) h)

small_bank : (s : List ℕ) → length s ≤ max_text → bank_text s ≡ bank_lines s
unfolding bank_text
small_bank s h = rw (le-ltb max_text (length s) h)

bank_means : (s : List ℕ) → BankMeans s (bank_text s)
bank_means s = go (ltb max_text (length s)) refl
  where
    go : (b : Bool) → ltb max_text (length s) ≡ b → BankMeans s (bank_text s)
    go true e = let h = ltb-true max_text (length s) e in subst (BankMeans s) (sym (long_bank s h)) (inl (h, refl))
    go false e = let h = ltb-false max_text (length s) e in subst (BankMeans s) (sym (small_bank s h)) (lines_mean s h)

-- ---- what it means is the answer

-- rules that make contents are refused where these are
onward_refused : (j : Judged (List Written)) (make : List Written → Contents) (f : Refusal) → onward j (λ ws. accepted (make ws)) ≡ refused f → j ≡ refused f
unfolding onward
onward_refused (accepted ws v) make f e = not-accepted (sym e)
onward_refused (refused g) make f e = let z : g ≡ f = cc in ap refused z

module _ (s : List ℕ) where
  -- fine rules in order after a header are passed
  passed_lines : (n : ℕ) (qs : List ℕ) (m : ℕ) (rs : List Written) (line : ℕ) (u : List ℕ) → Reaches Sheet s (ruled n qs m rs) line u → InBankOrder rs
      → bank_lines s ≡ onward (ordered_from n max_bound (least_after rs) (m - length rs) line u) (λ ws. accepted (contents n qs (rs ++ ws)))
  unfolding least_after onward
  passed_lines n qs m rs line u r ordered =
      let count : m ≡ length rs + (m - length rs) = omega (arith, r.most) in
      let number : 4 + length rs ≡ line = omega (arith, r.number, lines_count rs) in
      ordered_lines s n qs m (lines_text (rule_lines rs) ++ u) (reaches_header s n qs m rs line u r)
      ∙ ap (λ (j : Judged (List Written)). onward j (λ ws. accepted (contents n qs ws)))
      (ap (λ (i : ℕ). ordered_from n max_bound 0 i 4 (lines_text (rule_lines rs) ++ u)) count
      ∙ lines_passed n max_bound below rs [] (m - length rs) 4 u r.fine.1.1.1 ordered
      ∙ ap (λ (i : ℕ). onward (ordered_from n max_bound (least_after rs) (m - length rs) i u) (λ ws. accepted (rs ++ ws))) number)
      ∙ onward_onward (ordered_from n max_bound (least_after rs) (m - length rs) line u) _ _

  -- the line due after an opening fails: so it does in bank order
  module _ (f : Refusal) (small : length s ≤ max_text) (e : lines_from Sheet s ≡ refused f) where
    -- it is one of the first three
    early_answer : refusal_line f ≤ 3 → bank_lines s ≡ refused f
    unfolding bank_lines lines_from
    early_answer l = header_or_not s
        (λ n qs m w h. let z = any_line n max_bound m 4 w f (onward_refused (rules_from n max_bound m 4 w) (contents n qs) f (sym (any_lines s n qs m w h) ∙ e)) in
        let y : ⊥ = omega arith in absurd y)
        (λ g d. let z : refused g ≡ refused f = sym (d Contents _) ∙ e in d Contents _ ∙ z)

    -- it is a rule line, which fails in any order
    any_stop : (n : ℕ) (qs : List ℕ) (m : ℕ) (rs : List Written) (line : ℕ) (u : List ℕ) → Reaches Sheet s (ruled n qs m rs) line u
        → rules_from n max_bound (m - length rs) line u ≡ refused f
    unfolding go_on
    any_stop n qs m rs line u r = subst (λ (i : ℕ). rules_from n max_bound (m - length rs) i u ≡ refused f) (sym r.number)
        (onward_refused (rules_from n max_bound (m - length rs) (line_of (ruled n qs m rs)) u) (λ ws. contents n qs (rs ++ ws)) f
        (sym (reached Sheet s (ruled n qs m rs) line u r) ∙ e))

    opening_answer : (o : Opening) (line : ℕ) (u : List ℕ) → refusal_line f ≡ line → Reaches Sheet s o line u → InBankOrder (rules_read o)
        → bank_lines s ≡ refused f
    unfolding onward
    opening_answer start line u l r ordered = early_answer (omega (arith, r.number))
    opening_answer (counted n) line u l r ordered = early_answer (omega (arith, r.number))
    opening_answer (headed n qs) line u l r ordered = early_answer (omega (arith, r.number))
    opening_answer (ruled n qs m rs) line u l r ordered =
        passed_lines n qs m rs line u r ordered
        ∙ ap (λ (j : Judged (List Written)). onward j (λ ws. accepted (contents n qs (rs ++ ws))))
        (lines_stop n max_bound below (least_after rs) (m - length rs) line u f (any_stop n qs m rs line u r) l)

  fails_answer : (f : Refusal) → length s ≤ max_text → (w : LineFails Sheet s f) → InBankOrder (rules_read (opening_of w)) → bank_lines s ≡ refused f
  fails_answer f small w ordered = go w ordered (sym (small_check Sheet s small) ∙ (text_means Sheet s (refused f)).1 (inr (small, w)))
    where
      go : (w : LineFails Sheet s f) → InBankOrder (rules_read (opening_of w)) → lines_from Sheet s ≡ refused f → bank_lines s ≡ refused f
      go (malformed_at line t d) o e = opening_answer f small e t.opening line t.rest (ap refusal_line d) t.reached o
      go (outside_at line t d) o e = opening_answer f small e t.opening line (line_text t.found ++ t.rest) (ap refusal_line d) t.reached o
      go (cancels_at line t d) o e = opening_answer f small e t.opening line (line_text t.found ++ t.rest) (ap refusal_line d) t.reached o

  -- a rule that is out of order is answered with 9
  out_answer : (line : ℕ) → NotCanonicalAt s line → bank_lines s ≡ refused (NotCanonical line)
  unfolding onward
  out_answer line t =
      let k : t.rules - length t.before ≡ suc (t.rules - length t.before - 1) = omega (arith, t.due) in
      passed_lines t.count t.hiddens t.rules t.before line (line_text (rule t.found) ++ t.rest) t.reached t.ordered
      ∙ ap (λ (j : Judged (List Written)). onward j (λ ws. accepted (contents t.count t.hiddens (t.before ++ ws))))
      (ap (λ (i : ℕ). ordered_from t.count max_bound (least_after t.before) i line (line_text (rule t.found) ++ t.rest)) k
      ∙ ordered_stops t.count max_bound (least_after t.before) (t.rules - length t.before - 1) line (line_text (rule t.found) ++ t.rest) t.found t.rest
      (rule_read t.count max_bound line t.found t.rest t.fine)
      (λ next. out_refused t.count max_bound below t.before t.found line next t.fine t.out))

  -- a text that is fine is accepted
  pub bank_reads : (c : Contents) → BankReads s c → bank_text s ≡ accepted c []
  unfolding onward ordered_from
  bank_reads c p =
      let k : length c.written - length c.written ≡ 0 = omega arith in
      small_bank s p.reads.small
      ∙ passed_lines c.count c.hiddens (length c.written) c.written (line_of (all_of c)) [] (record {
        text = p.reads.spelled.text ∙ sheet_lines c ∙ sym (append-nil (lines_text (lines_of (all_of c))));
        fine = p.reads.spelled.fine;
        most = omega arith;
        number = refl;
      }) p.ordered
      ∙ rw (k, append-nil c.written)

  means_bank : (j : Judged Contents) → BankMeans s j → bank_text s ≡ j
  means_bank (accepted c u) m = bank_reads c m.0 ∙ ap (accepted c) (sym m.1)
  means_bank (refused f) (inl x) = long_bank s x.0 ∙ ap refused (sym x.1)
  means_bank (refused f) (inr (small, line_fails w ordered)) = small_bank s small ∙ fails_answer f small w ordered
  means_bank (refused f) (inr (small, not_canonical_at line t e)) = small_bank s small ∙ out_answer line t ∙ ap refused (sym e)

  -- the definition by spellings
  pub bank_text_means : (j : Judged Contents) → (bank_text s ≡ j) ↔ BankMeans s j
  bank_text_means j = (λ e. subst (BankMeans s) e (bank_means s), means_bank j)

  -- what is accepted is accepted in any order
  pub bank_ordinary : (c : Contents) → BankReads s c → check_text Sheet s ≡ bank_text s
  bank_ordinary c p = reads_check Sheet s c p.reads ∙ sym (bank_reads c p)
