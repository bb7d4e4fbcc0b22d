-- What a line's answer tells of the text: the line is there, with numbers in their limits, up to the cursor of the next one; or its refusal.
-- Assumes nothing.
use mathlib.Core.Path.{◌≡◌, refl, sym, ◌∙◌, ap}
use mathlib.Core.Bool.{Bool, true, false, cond}
use mathlib.Core.List.{List, [], ◌∷◌, ◌++◌, append_assoc}
use Prim.Native.Nat.{ℕ, ◌≤◌, ◌<◌}
use native.Mathlib.Omega.{arith}
use lib.Dec.{leb}
use lib.IntN.{ℤ}
use lib.ListN.{length, drop, length-append, length-drop}
use borrow.Author.Tests.{leb-true}
use Rattle.std.specs.Prelude.{Ok, Err}
use Rattle.numerals.specs.declared.read.Found.{Found}
use Rattle.numerals.specs.Bytes.{newline}
use Rattle.numerals.specs.Decimal.{decimal}
use Rattle.numerals.specs.Parsing.{Parsed, parsed, malformed, cursor_of, found_in}
use Rattle.numerals.proofs.Cases.{clash}
use Rattle.numerals.proofs.Cursors.{cursor_rest}
use Rattle.rules.specs.declared.refusal.Refusal.{Refusal}
use Rattle.rules.specs.declared.refusal.Refusal.TheVariants.{OutOfLimit, Cancelling}
use Rattle.rules.specs.declared.rule.Rule.{Rule}
use Rattle.rules.specs.Hidden.{set_of}
use Rattle.lines.specs.Spelling.{Line, Written, quantities, hidden, rules, rule, line_text, IncreasingFrom, all_within, rule_within, cancelling, written_rule}
use Rattle.lines.specs.Lines.{Judged, accepted, refused, judged, never, between, count_line, hidden_line, rule_line, count_judged, hidden_judged, rule_judged}
use Rattle.lines.specs.Answers.{answer_of, count_answer, hidden_answer, rule_answer, LineAnswered}
use Rattle.lines.specs.Answers.{Line as LineAnswer}
use Rattle.lines.proofs.Spellings.{count_sound, hidden_sound, hidden_increases, rule_sound}

-- ---- lines that are accepted

-- some bytes of the text s begin at the cursor `at` and end at the cursor `next`, with the bytes `rest` after them
record Passed (s : List ℕ) (at : ℕ) (rest : List ℕ) (next : ℕ) : Type 0 where
  follow : rest ≡ drop next s
  later : at < next
  limit : next ≤ length s

-- of bytes that are some
passed : (s : List ℕ) (at : ℕ) (text rest : List ℕ) (next : ℕ) → drop at s ≡ text ++ rest → 0 < length text → cursor_of s rest ≡ next
    → Passed s at rest next
passed s at text rest next e h q = record {
  follow = sym (ap (λ (i : ℕ). drop i s) (sym q) ∙ cursor_rest s at text rest e);
  later = omega (arith, q, ap length e, length-append text rest, length-drop at s);
  limit = omega (arith, q);
}

-- what is refused is not accepted
pub not_both : {A : Type 0} {a : A} {u : List ℕ} {r : Refusal} → refused r ≡ accepted a u → ⊥
not_both e = let z : ◌≡◌ {A = ℕ} 0 1 = cc in omega arith

-- a line that is accepted has its form, is within its limits, and does not cancel
pub by_accepted : {A X : Type 0} (line : ℕ) (within cancels : A → Bool) (p : Parsed A) (a : A) (rest : List ℕ)
    → judged line within cancels p ≡ accepted a rest → (p ≡ parsed a rest → within a ≡ true → cancels a ≡ false → X) → X
unfolding judged
by_accepted line within cancels malformed a rest e told = absurd (not_both e)
by_accepted {A} {X} line within cancels (parsed b u) a rest e told = go (within b) (cancels b) refl refl e
  where
    go : (w c : Bool) → within b ≡ w → cancels b ≡ c
        → cond w (cond c (refused (Cancelling line)) (accepted b u)) (refused (OutOfLimit line)) ≡ accepted a rest → X
    go true false q r f = let same : b ≡ a = cc in told (cc) (ap within (sym same) ∙ q) (ap cancels (sym same) ∙ r)
    go true true q r f = absurd (not_both f)
    go false c q r f = absurd (not_both f)

-- an answer that is no refusal is that of an accepted line
by_answer : {A B X : Type 0} (make : A → B) (s : List ℕ) (j : Judged A) (it : Found B) → answer_of make s j ≡ Ok it
    → ((a : A) (rest : List ℕ) → j ≡ accepted a rest → make a ≡ it.value → cursor_of s rest ≡ it.next → X) → X
by_answer make s (accepted a rest) it e told = let same : found_in s (make a) rest ≡ it = cc in told a rest refl (cc) (cc)
by_answer make s (refused r) it e told = absurd (never_ok e)
  where
    never_ok : {A E : Type 0} {x : E} {a : A} → Err x ≡ Ok a → ⊥
    never_ok q = cc

-- a line has bytes
line_some : (l : Line) → 0 < length (line_text l)
unfolding line_text
line_some (quantities n) = omega arith
line_some (hidden qs) = omega arith
line_some (rules m) = omega arith
line_some (rule r) = omega arith

-- ---- a key and a number

-- a line of a key and the number v, in its limits, from the cursor `at` to the cursor `next`
pub record CountFound (s key : List ℕ) (least most line at v next : ℕ) : Type 0 where
  pub is : count_judged key least most line (drop at s) ≡ accepted v (drop next s)
  pub within : between least most v ≡ true
  pub low : least ≤ v
  pub high : v ≤ most
  pub after : at < next
  pub inside : next ≤ length s

-- a number in a range is between its ends
pub between_range : (least most v : ℕ) → between least most v ≡ true → (least ≤ v) × (v ≤ most)
between_range least most v e = go (leb least v) (leb-true least v) e
  where
    go : (b : Bool) → (b ≡ true → least ≤ v) → cond b (leb v most) false ≡ true → (least ≤ v) × (v ≤ most)
    go true h f = (h refl, leb-true v most f)
    go false h f = clash f refl

-- where it is accepted
count_accepted : (s key : List ℕ) (least most line at v : ℕ) (rest : List ℕ) (next : ℕ) → count_judged key least most line (drop at s) ≡ accepted v rest
    → cursor_of s rest ≡ next → CountFound s key least most line at v next
unfolding count_judged
count_accepted s key least most line at v rest next e q = by_accepted line (between least most) never (count_line key (drop at s)) v rest e (λ p w c.
    let t : Passed s at rest next = passed s at text rest next (spelled p) some q in
    let r = between_range least most v w in
    record { is = e ∙ ap (accepted v) t.follow; within = w; low = r.0; high = r.1; after = t.later; inside = t.limit })
  where
    text : List ℕ
    text = key ++ (decimal v ++ newline ∷ [])

    some : 0 < length text
    some = omega (arith, length-append key (decimal v ++ newline ∷ []), length-append (decimal v) (newline ∷ []))

    spelled : count_line key (drop at s) ≡ parsed v rest → drop at s ≡ text ++ rest
    spelled p = simp append_assoc (count_sound key (drop at s) v rest p)

-- where the answer is a count, that line is there
pub count_found : (s key : List ℕ) (least most line at : ℕ) (it : Found ℕ) → count_answer s (count_judged key least most line (drop at s)) ≡ Ok it
    → CountFound s key least most line at it.value it.next
unfolding count_answer
count_found s key least most line at it e = by_answer (λ v. v) s (count_judged key least most line (drop at s)) it e (λ w rest q f n.
    count_accepted s key least most line at it.value rest it.next (q ∙ ap (λ (x : ℕ). accepted x rest) f) n)

-- ---- hidden quantities

-- a line of hidden quantities, of 1 to n, from the cursor `at` to the cursor `next`, whose set is told
pub record HiddenFound (s : List ℕ) (n line at set next : ℕ) : Type 0 where
  pub members : List ℕ
  pub is : hidden_judged n line (drop at s) ≡ accepted members (drop next s)
  pub told : set ≡ set_of members
  pub within : all_within n members ≡ true
  pub increase : IncreasingFrom 0 members
  pub after : at < next
  pub inside : next ≤ length s

-- where it is accepted
hidden_accepted : (s : List ℕ) (n line at : ℕ) (qs rest : List ℕ) (set next : ℕ) → hidden_judged n line (drop at s) ≡ accepted qs rest → set_of qs ≡ set
    → cursor_of s rest ≡ next → HiddenFound s n line at set next
unfolding hidden_judged
hidden_accepted s n line at qs rest set next e f q = by_accepted line (all_within n) never (hidden_line (drop at s)) qs rest e (λ p w c.
    let t : Passed s at rest next = passed s at (line_text (hidden qs)) rest next (hidden_sound (drop at s) qs rest p) (line_some (hidden qs)) q in
    record {
      members = qs;
      is = e ∙ ap (accepted qs) t.follow;
      told = sym f;
      within = w;
      increase = hidden_increases (drop at s) qs rest p;
      after = t.later;
      inside = t.limit;
    })

-- where the answer is a hidden set, that line is there
pub hidden_found : (s : List ℕ) (n line at : ℕ) (it : Found ℕ) → hidden_answer s (hidden_judged n line (drop at s)) ≡ Ok it
    → HiddenFound s n line at it.value it.next
unfolding hidden_answer
hidden_found s n line at it e = by_answer set_of s (hidden_judged n line (drop at s)) it e (λ qs rest q f m.
    hidden_accepted s n line at qs rest it.value it.next q f m)

-- ---- a rule

-- a line of a rule, in its limits and not cancelling, from the cursor `at` to the cursor `next`, which is told as r
pub record RuleFound (s : List ℕ) (n limit line at : ℕ) (r : Rule) (next : ℕ) : Type 0 where
  pub written : Written
  pub is : rule_judged n limit line (drop at s) ≡ accepted written (drop next s)
  pub told : r ≡ written_rule written
  pub within : rule_within n limit written ≡ true
  pub stays : cancelling written ≡ false
  pub after : at < next
  pub inside : next ≤ length s

-- where it is accepted
rule_accepted : (s : List ℕ) (n limit line at : ℕ) (w : Written) (rest : List ℕ) (r : Rule) (next : ℕ)
    → rule_judged n limit line (drop at s) ≡ accepted w rest → written_rule w ≡ r → cursor_of s rest ≡ next → RuleFound s n limit line at r next
unfolding rule_judged
rule_accepted s n limit line at w rest r next e f q = by_accepted line (rule_within n limit) cancelling (rule_line (drop at s)) w rest e (λ p o c.
    let t : Passed s at rest next = passed s at (line_text (rule w)) rest next (rule_sound (drop at s) w rest p) (line_some (rule w)) q in
    record { written = w; is = e ∙ ap (accepted w) t.follow; told = sym f; within = o; stays = c; after = t.later; inside = t.limit })

-- where the answer is a rule, that line is there
pub rule_found : (s : List ℕ) (n limit line at : ℕ) (it : Found Rule) → rule_answer s (rule_judged n limit line (drop at s)) ≡ Ok it
    → RuleFound s n limit line at it.value it.next
unfolding rule_answer
rule_found s n limit line at it e = by_answer written_rule s (rule_judged n limit line (drop at s)) it e (λ w rest q f m.
    rule_accepted s n limit line at w rest it.value it.next q f m)

-- ---- lines that are refused

-- by whatever refusal the answer is
pub line_refused : {A B : Type 0} {values : B → List ℤ} {answer : Judged A → LineAnswer B} {j : Judged A} (f : Refusal) → LineAnswered values answer j (Err f)
    → j ≡ refused f
line_refused f a = (a.refuses f).0 refl
