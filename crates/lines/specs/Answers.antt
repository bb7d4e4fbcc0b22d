-- What the program has of a line: what it writes as numbers, with the cursor of the bytes that follow, or its refusal; and document 01's number and values of
-- each answer.
use Rattle.std.specs.Prelude.{◌≡◌, ◌↔◌, Result, Ok, Err, List, [], ◌∷◌, ◌++◌, ℕ, ℤ, pos}
use Rattle.numerals.specs.declared.read.Found.{Found}
use Rattle.numerals.specs.Parsing.{found_in}
use Rattle.rules.specs.declared.refusal.Refusal.{Refusal}
use Rattle.rules.specs.Hidden.{set_of}
use Rattle.rules.specs.Refusal.{Returned, refused_as}
use Rattle.rules.specs.declared.rule.Rule.{Rule}
use Rattle.lines.specs.Spelling.{Written, written_rule}
use Rattle.lines.specs.Lines.{Judged, accepted, refused}

-- what a line writes and the cursor after it, or its refusal
abbrev pub Line : Type 0 → Type 0
Line A = Result (Found A) Refusal

-- the answer of a line of the text s, from how it is judged
abbrev pub answer_of : {A B : Type 0} → (A → B) → List ℕ → Judged A → Line B
answer_of make s (accepted a u) = Ok (found_in s (make a) u)
answer_of make s (refused f) = Err f

unfoldable pub count_answer : List ℕ → Judged ℕ → Line ℕ
count_answer s j = answer_of (λ v. v) s j

unfoldable pub hidden_answer : List ℕ → Judged (List ℕ) → Line ℕ
hidden_answer s j = answer_of set_of s j

unfoldable pub rule_answer : List ℕ → Judged Written → Line Rule
rule_answer s j = answer_of written_rule s j

-- what is returned of a number that a line writes, a count or a hidden set; of a rule it is `rule_values`
abbrev pub number_values : ℕ → List ℤ
number_values v = pos v ∷ []

-- an answer as it is returned: 0 where the line is accepted, and beside it what the line writes and the cursor
abbrev pub answer_returned : {B : Type 0} → (B → List ℤ) → Line B → Returned
answer_returned values (Ok found) = record { number = 0; values = values found.value ++ (pos found.next ∷ []) }
answer_returned values (Err f) = refused_as f

-- r answers a line that is judged so: by document 01's numbers and values refused exactly as the line is, and 0 exactly where it is accepted
pub record LineAnswered {A B : Type 0} (values : B → List ℤ) (answer : Judged A → Line B) (j : Judged A) (r : Line B) : Type 0 where
  pub reply : r ≡ answer j
  pub refuses : (f : Refusal) → (answer_returned values r ≡ refused_as f) ↔ (j ≡ refused f)
  pub accepts : ((answer_returned values r).number ≡ 0) ↔ ((a : A) × (u : List ℕ) × (j ≡ accepted a u))
