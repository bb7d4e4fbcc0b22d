-- What is returned for each reply of marking two texts, by document 01's numbers and values, and the paper that a refusal names.
use Rattle.std.specs.Prelude.{Bool, true, false, List, [], ◌∷◌, ℕ, Result, Ok, Err}
use Rattle.rules.specs.declared.refusal.Refusal.{Refusal}
use Rattle.rules.specs.Refusal.{refusal_value, Returned, refused_as}
use Rattle.marking.specs.declared.verdict.Verdict.{Verdict}
use Rattle.marking.specs.Verdicts.{verdict_returned, is_shown}
use Rattle.scripts.specs.declared.reply.Subject.{Subject}
use Rattle.scripts.specs.declared.reply.Subject.TheVariants.{Sheet, Script, Both}
use Rattle.scripts.specs.declared.reply.Marked.{Marked}
use Rattle.scripts.specs.declared.reply.PaperRefusal.{PaperRefusal}

-- a verdict with the sheet's n, or a refusal with the paper that it is about
abbrev pub TextMarking : Type 0
TextMarking = Result Marked PaperRefusal

abbrev pub marked : ℕ → Verdict → TextMarking
marked n v = Ok (record { quantities = n; verdict = v })

abbrev pub refused_for : {A : Type 0} → Subject → Refusal → Result A PaperRefusal
refused_for p f = Err (record { paper = p; refusal = f })

-- an answer about a paper: its refusal with the paper's name
abbrev pub about : {A : Type 0} → Subject → Result A Refusal → Result A PaperRefusal
about p (Ok a) = Ok a
about p (Err f) = refused_for p f

-- as it is returned; the paper beside a refusal is `text_subjects`, the sheet's n beside a verdict `text_counts`
abbrev pub texts_returned : TextMarking → Returned
texts_returned (Ok m) = verdict_returned m.verdict
texts_returned (Err r) = refused_as r.refusal

abbrev pub text_number : TextMarking → ℕ
text_number r = (texts_returned r).number

-- a refusal's line or length as one number, 0 where there is none
abbrev pub text_value : TextMarking → ℕ
text_value (Ok m) = 0
text_value (Err r) = refusal_value r.refusal

-- the paper that a refusal names
abbrev pub text_subjects : TextMarking → List Subject
text_subjects (Ok m) = []
text_subjects (Err r) = r.paper ∷ []

-- the same as one number for a host, which document 01 does not have
abbrev pub paper_number : Subject → ℕ
paper_number Sheet = 1
paper_number Script = 2
paper_number Both = 3

-- 0 with a verdict
abbrev pub text_paper : TextMarking → ℕ
text_paper (Ok m) = 0
text_paper (Err r) = paper_number r.paper

-- the n beside a verdict
abbrev pub text_counts : TextMarking → List ℕ
text_counts (Ok m) = m.quantities ∷ []
text_counts (Err r) = []

-- is it a verdict?
abbrev pub is_text_marked : TextMarking → Bool
is_text_marked (Ok m) = true
is_text_marked (Err r) = false

-- does an assignment come with it?
abbrev pub is_text_shown : TextMarking → Bool
is_text_shown (Ok m) = is_shown m.verdict
is_text_shown (Err r) = false
