-- The header of a text and the lines after it, by what is read and by what is spelled. Assumes nothing.
use mathlib.Core.Path.{◌≡◌, refl, sym, ◌∙◌, ap, ap₂}
use mathlib.Core.Bool.{true}
use mathlib.Core.List.{List, [], ◌∷◌, ◌++◌, append_assoc}
use Prim.Native.Nat.{ℕ, ◌+◌, ◌≤◌}
use native.Mathlib.Omega.{arith}
use lib.Dec.{leb, leb-zero}
use lib.ListN.{length}
use borrow.Author.Tests.{le-leb}
use Rattle.numerals.specs.Parsing.{parsed}
use Rattle.rules.specs.declared.paper.Paper.TheVariants.{Sheet}
use Rattle.rules.specs.Limits.{max_quantities, max_bound, max_rules}
use Rattle.tables.proofs.Tests.{both_true}
use Rattle.lines.specs.Spelling.{Written, quantities, hidden, rules, quantities_key, rules_key, line_text, line_within, all_within}
use Rattle.lines.specs.Lines.{Judged, accepted, judged, never, between, count_line, hidden_line, rule_line, count_judged, hidden_judged}
use Rattle.lines.proofs.Found.{by_accepted, between_range}
use Rattle.lines.proofs.Spellings.{quantities_sound, quantities_complete, rules_sound, rules_complete, hidden_sound, hidden_increases, hidden_complete, rule_complete}
use Rattle.reading.specs.Texts.{rule_lines, lines_text}
use Rattle.reading.specs.Meaning.{ruled, AllFine, Reaches}
use Rattle.reading.specs.Reading.{onward, after_header}
use Rattle.writing.proofs.Past.{lines_count}

-- ---- by what is read

-- the three lines of a header are read, one after the other, and the bytes w follow
pub record HeaderAt (s : List ℕ) (n : ℕ) (qs : List ℕ) (m : ℕ) (w : List ℕ) : Type 0 where
  pub second : List ℕ
  pub third : List ℕ
  pub counts : count_judged quantities_key 1 max_quantities 1 s ≡ accepted n second
  pub hides : hidden_judged n 2 second ≡ accepted qs third
  pub rules : count_judged rules_key 0 max_rules 3 third ≡ accepted m w

-- what follows goes on with them
pub header_next : {A : Type 0} (s : List ℕ) (next : ℕ → List ℕ → ℕ → List ℕ → Judged A) (n : ℕ) (qs : List ℕ) (m : ℕ) (w : List ℕ)
    → HeaderAt s n qs m w → after_header s next ≡ next n qs m w
unfolding onward
header_next s next n qs m w h = rw (h.counts, h.hides, h.rules)

-- there is one header at most
pub record SameHeader (n k : ℕ) (qs ps : List ℕ) (m l : ℕ) (w v : List ℕ) : Type 0 where
  pub counts : n ≡ k
  pub hides : qs ≡ ps
  pub rules : m ≡ l
  pub rest : w ≡ v

pub header_same : (s : List ℕ) (n k : ℕ) (qs ps : List ℕ) (m l : ℕ) (w v : List ℕ) → HeaderAt s n qs m w → HeaderAt s k ps l v
    → SameHeader n k qs ps m l w v
header_same s n k qs ps m l w v h g = first (sym h.counts ∙ g.counts)
  where
    third : n ≡ k → qs ≡ ps → accepted m w ≡ accepted l v → SameHeader n k qs ps m l w v
    third a b e = record { counts = a; hides = b; rules = cc; rest = cc }

    second : n ≡ k → accepted qs h.third ≡ accepted ps g.third → SameHeader n k qs ps m l w v
    second a e = let c : h.third ≡ g.third = cc in third a (cc) (sym h.rules ∙ ap (count_judged rules_key 0 max_rules 3) c ∙ g.rules)

    first : accepted n h.second ≡ accepted k g.second → SameHeader n k qs ps m l w v
    first e =
        let a : n ≡ k = cc in
        let b : h.second ≡ g.second = cc in
        second a (sym h.hides ∙ ap₂ (λ (i : ℕ) (u : List ℕ). hidden_judged i 2 u) a b ∙ g.hides)

-- ---- by what is spelled

-- the limits of the numbers of a header, as they are read and as they are spelled
quantities_within : (n : ℕ) → between 1 max_quantities n ≡ true → line_within n 0 (quantities n) ≡ true
unfolding line_within
quantities_within n e = let r = between_range 1 max_quantities n e in rw (le-leb 1 n r.0, le-leb n max_quantities r.1)

quantities_between : (n limit : ℕ) → line_within n limit (quantities n) ≡ true → between 1 max_quantities n ≡ true
unfolding line_within
quantities_between n limit e =
    let p = both_true (leb 1 n) (leb n max_quantities) e in rw (p.0, p.1)

rules_within : (n limit m : ℕ) → between 0 max_rules m ≡ true → line_within n limit (rules m) ≡ true
unfolding line_within
rules_within n limit m e = le-leb m max_rules (between_range 0 max_rules m e).1

rules_between : (n limit m : ℕ) → line_within n limit (rules m) ≡ true → between 0 max_rules m ≡ true
unfolding line_within
rules_between n limit m e = rw (leb-zero m) e

-- a header that is read is spelled, with each line fine
pub header_reaches : (s : List ℕ) (n : ℕ) (qs : List ℕ) (m : ℕ) (w : List ℕ) → HeaderAt s n qs m w → Reaches Sheet s (ruled n qs m []) 4 w
unfolding count_judged hidden_judged line_within lines_text
header_reaches s n qs m w h =
    by_accepted 1 (between 1 max_quantities) never (count_line quantities_key s) n h.second h.counts (λ p a _.
    by_accepted 2 (all_within n) never (hidden_line h.second) qs h.third h.hides (λ q b _.
    by_accepted 3 (between 0 max_rules) never (count_line rules_key h.third) m w h.rules (λ r c _.
    record {
      text = quantities_sound s n h.second p
          ∙ ap (λ (x : List ℕ). line_text (quantities n) ++ x) (hidden_sound h.second qs h.third q
          ∙ ap (λ (x : List ℕ). line_text (hidden qs) ++ x) (rules_sound h.third m w r))
          ∙ simp append_assoc;
      fine = (
        record { formed = tt; within = quantities_within n a; uncancelled = refl },
        (
          record { formed = hidden_increases h.second qs h.third q; within = b; uncancelled = refl },
          (record { formed = tt; within = rules_within n max_bound m c; uncancelled = refl }, tt),
        ),
      );
      most = omega arith;
      number = refl;
    })))

-- and one that is spelled so is read, before whatever rules
pub reaches_header : (s : List ℕ) (n : ℕ) (qs : List ℕ) (m : ℕ) (rs : List Written) (line : ℕ) (u : List ℕ) → Reaches Sheet s (ruled n qs m rs) line u
    → HeaderAt s n qs m (lines_text (rule_lines rs) ++ u)
unfolding count_judged hidden_judged line_within lines_text judged
reaches_header s n qs m rs line u r = record {
  second = line_text (hidden qs) ++ (line_text (rules m) ++ body);
  third = line_text (rules m) ++ body;
  counts = ap (count_judged quantities_key 1 max_quantities 1) text
      ∙ rw (quantities_complete n (line_text (hidden qs) ++ (line_text (rules m) ++ body)), quantities_between n max_bound r.fine.0.within);
  hides = rw (hidden_complete qs (line_text (rules m) ++ body) r.fine.1.0.formed, r.fine.1.0.within);
  rules = rw (rules_complete m body, rules_between n max_bound m r.fine.1.1.0.within);
}
  where
    body : List ℕ
    body = lines_text (rule_lines rs) ++ u

    text : s ≡ line_text (quantities n) ++ (line_text (hidden qs) ++ (line_text (rules m) ++ body))
    text = r.text ∙ simp append_assoc

-- ---- the lines of rules after it

-- with more rules read, fewer bytes follow
pub reaches_more : (s : List ℕ) (n : ℕ) (qs : List ℕ) (m : ℕ) (rs : List Written) (u : List ℕ) → Reaches Sheet s (ruled n qs m []) 4 (lines_text (rule_lines rs) ++ u)
    → AllFine n max_bound (rule_lines rs) → length rs ≤ m → Reaches Sheet s (ruled n qs m rs) (4 + length rs) u
unfolding lines_text
reaches_more s n qs m rs u r fine few = record {
  text = r.text ∙ simp append_assoc;
  fine = (r.fine.0, (r.fine.1.0, (r.fine.1.1.0, fine)));
  most = few;
  number = omega (arith, lines_count rs);
}

-- as many rules before bytes are the same rules
pub same_rules : (rs ws : List Written) (u v : List ℕ) → length rs ≡ length ws → lines_text (rule_lines rs) ++ u ≡ lines_text (rule_lines ws) ++ v → rs ≡ ws
unfolding lines_text
same_rules [] [] u v l e = refl
same_rules [] (w ∷ ws) u v l e = let z : ⊥ = omega arith in absurd z
same_rules (r ∷ rs) [] u v l e = let z : ⊥ = omega arith in absurd z
same_rules (r ∷ rs) (w ∷ ws) u v l e =
    let d : parsed r (lines_text (rule_lines rs) ++ u) ≡ parsed w (lines_text (rule_lines ws) ++ v) =
    sym (rule_complete r (lines_text (rule_lines rs) ++ u)) ∙ ap rule_line (simp append_assoc at e) ∙ rule_complete w (lines_text (rule_lines ws) ++ v) in
    let same : r ≡ w = cc in
    let rest : lines_text (rule_lines rs) ++ u ≡ lines_text (rule_lines ws) ++ v = cc in
    ap₂ ◌∷◌ same (same_rules rs ws u v (omega arith) rest)
