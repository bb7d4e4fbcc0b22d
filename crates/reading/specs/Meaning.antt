-- When a text is accepted, and when and at which line it is refused, said by how lines are spelled; nothing is read here. A text is taken as a paper, sheet or
-- script: the paper and the header give how large its bounds may be.
use Rattle.std.specs.Prelude.{◌≡◌, true, false, cond, ◌⊎◌, List, [], ◌∷◌, ◌++◌, ℕ, suc, ◌≤◌, ◌<◌, ltb, length}
use Rattle.places.specs.Numbering.{block_start}
use Rattle.rules.specs.declared.paper.Paper.{Paper}
use Rattle.rules.specs.declared.paper.Paper.TheVariants.{Sheet}
use Rattle.rules.specs.declared.refusal.Refusal.{Refusal}
use Rattle.rules.specs.declared.refusal.Refusal.TheVariants.{Size, Malformed, OutOfLimit, Cancelling, TooShort}
use Rattle.rules.specs.Hidden.{hidden_in, set_of, is_listed}
use Rattle.rules.specs.Limits.{bound_range, max_text}
use Rattle.rules.specs.Refusing.{Needs, passed, ◌or◌then◌, RefusedBy}
use Rattle.tables.specs.Meaning.{Solutions, MeetsAll}
use Rattle.lines.specs.Spelling.{Written, Line, quantities, hidden, rules, rule, line_text, WellFormed, line_within, line_cancels, written_rules}
use Rattle.reading.specs.Texts.{Contents, rule_lines, lines_text, header_text, sheet_text}

-- ---- the first lines of a text

-- how far a text is read: nothing; n; n and the hidden list; these, N and some of the N rules
pub data Opening : Type 0 where
  start : Opening
  counted : ℕ → Opening
  headed : ℕ → List ℕ → Opening
  ruled : ℕ → List ℕ → ℕ → List Written → Opening

-- the lines read so far
abbrev pub lines_of : Opening → List Line
lines_of start = []
lines_of (counted n) = quantities n ∷ []
lines_of (headed n qs) = quantities n ∷ hidden qs ∷ []
lines_of (ruled n qs m rs) = quantities n ∷ hidden qs ∷ rules m ∷ rule_lines rs

-- n, where it is known
abbrev pub count_of : Opening → ℕ
count_of start = 0
count_of (counted n) = n
count_of (headed n qs) = n
count_of (ruled n qs m rs) = n

-- the hidden list, where it is known
abbrev pub hiddens_of : Opening → List ℕ
hiddens_of start = []
hiddens_of (counted n) = []
hiddens_of (headed n qs) = qs
hiddens_of (ruled n qs m rs) = qs

-- how large a bound may be, by the text's own header as far as it is read: rules come after all of it
abbrev pub limit_at : Paper → Opening → ℕ
limit_at paper o = bound_range paper (count_of o) (length (hiddens_of o))

-- the kinds of line, and none
pub data LineKind : Type 0 where
  quantities_line : LineKind
  hidden-line : LineKind
  rules_line : LineKind
  rule-line : LineKind
  no_line : LineKind

abbrev pub line_kind : Line → LineKind
line_kind (quantities n) = quantities_line
line_kind (hidden qs) = hidden-line
line_kind (rules m) = rules_line
line_kind (rule r) = rule-line

-- which kind of line is due next; none, where all N rules are read
abbrev pub due_kind : Opening → LineKind
due_kind start = quantities_line
due_kind (counted n) = hidden-line
due_kind (headed n qs) = rules_line
due_kind (ruled n qs m rs) = cond (ltb (length rs) m) rule-line no_line

-- a line that may stand in a text over n quantities: well formed, its numbers in their limits, and not cancelling
pub record Fine (n limit : ℕ) (l : Line) : Type 0 where
  pub formed : WellFormed l
  pub within : line_within n limit l ≡ true
  pub uncancelled : line_cancels l ≡ false

abbrev pub AllFine : ℕ → ℕ → List Line → Type 0
AllFine n limit [] = Unit {0}
AllFine n limit (l ∷ ls) = Fine n limit l × AllFine n limit ls

-- no more than N rules
abbrev pub AtMost : Opening → Type 0
AtMost start = Unit {0}
AtMost (counted n) = Unit {0}
AtMost (headed n qs) = Unit {0}
AtMost (ruled n qs m rs) = length rs ≤ m

-- the text s begins with the lines of an opening, all fine, and goes on with the bytes u, at the line of this number
pub record Reaches (paper : Paper) (s : List ℕ) (o : Opening) (line : ℕ) (u : List ℕ) : Type 0 where
  pub text : s ≡ lines_text (lines_of o) ++ u
  pub fine : AllFine (count_of o) (limit_at paper o) (lines_of o)
  pub most : AtMost o
  pub number : line ≡ suc (length (lines_of o))

-- ---- a text that is fine

-- how large its bounds may be
abbrev pub contents_limit : Paper → Contents → ℕ
contents_limit paper c = bound_range paper c.count (length c.hiddens)

-- every line of contents is fine
abbrev pub FineLines : ℕ → Contents → Type 0
FineLines limit c = AllFine c.count limit (lines_of (ruled c.count c.hiddens (length c.written) c.written))

-- the text s is the spelling of contents whose every line is fine
pub record Spells (limit : ℕ) (s : List ℕ) (c : Contents) : Type 0 where
  pub text : s ≡ sheet_text c
  pub fine : FineLines limit c

-- the text s is fine by itself, and these are its contents
pub record Reads (paper : Paper) (s : List ℕ) (c : Contents) : Type 0 where
  pub small : length s ≤ max_text
  pub spelled : Spells (contents_limit paper c) s c

-- it is fine
pub record Readable (paper : Paper) (s : List ℕ) : Type 0 where
  pub contents : Contents
  pub reads : Reads paper s contents

-- what meets the rules that contents write: a doubled term is taken as written
abbrev pub rules_of : Contents → Solutions
rules_of c σ = MeetsAll σ (written_rules c.written)

-- it is fine, with n, its hidden set, the number of its rules, and the cursor at which their lines begin
pub record Passes (paper : Paper) (s : List ℕ) (n set m body : ℕ) : Type 0 where
  pub contents : Contents
  pub reads : Reads paper s contents
  pub counts : n ≡ contents.count
  pub hides : set ≡ set_of contents.hiddens
  pub rules : m ≡ length contents.written
  pub begins : body ≡ length (header_text contents)

-- ---- a text that is refused

-- 2: no line of the kind due is spelled here, with numbers of any size; or all rules are read and bytes follow
pub record MalformedAt (paper : Paper) (s : List ℕ) (line : ℕ) : Type 0 where
  pub opening : Opening
  pub rest : List ℕ
  pub reached : Reaches paper s opening line rest
  pub none : (l : Line) → line_kind l ≡ due_kind opening → WellFormed l → (u : List ℕ) → rest ≡ line_text l ++ u → ⊥
  pub follows : due_kind opening ≡ no_line → rest ≡ [] → ⊥

-- 3: the line due is spelled here, with a number outside its limit
pub record OutsideAt (paper : Paper) (s : List ℕ) (line : ℕ) : Type 0 where
  pub opening : Opening
  pub found : Line
  pub rest : List ℕ
  pub reached : Reaches paper s opening line (line_text found ++ rest)
  pub due : line_kind found ≡ due_kind opening
  pub formed : WellFormed found
  pub outside : line_within (count_of opening) (limit_at paper opening) found ≡ false

-- 4: the line due is spelled here, its numbers in their limits, and it is a rule +q-q or -q+q
pub record CancelsAt (paper : Paper) (s : List ℕ) (line : ℕ) : Type 0 where
  pub opening : Opening
  pub found : Line
  pub rest : List ℕ
  pub reached : Reaches paper s opening line (line_text found ++ rest)
  pub due : line_kind found ≡ due_kind opening
  pub formed : WellFormed found
  pub within : line_within (count_of opening) (limit_at paper opening) found ≡ true
  pub cancels : line_cancels found ≡ true

-- f is the refusal of the first line of the text s that is not fine
pub data LineFails (paper : Paper) (s : List ℕ) (f : Refusal) : Type 0 where
  malformed_at : (line : ℕ) → MalformedAt paper s line → f ≡ Malformed line → LineFails paper s f
  outside_at : (line : ℕ) → OutsideAt paper s line → f ≡ OutOfLimit line → LineFails paper s f
  cancels_at : (line : ℕ) → CancelsAt paper s line → f ≡ Cancelling line → LineFails paper s f

-- the text s is refused by itself with f: its size comes before its lines
abbrev pub FailsFor : Paper → List ℕ → Refusal → Type 0
FailsFor paper s f = ((max_text < length s) × (f ≡ Size)) ⊎ ((length s ≤ max_text) × LineFails paper s f)

-- ---- a sheet read into a table of so many words

-- what contents need of it
abbrev pub room_for : Contents → ℕ → Needs
room_for c words = (block_start c.count ≤ words) or TooShort (block_start c.count) then passed

-- reading is refused for the text, or the text is fine and the table too short for it
abbrev pub RefusedFor : List ℕ → ℕ → Refusal → Type 0
RefusedFor s words f = FailsFor Sheet s f ⊎ ((t : Readable Sheet s) × RefusedBy (room_for t.contents words) f)

-- it is accepted, with n and a hidden set: the text is the spelling of an n, a hidden list and rules within their limits, and the table is long enough
pub record AcceptedAs (s : List ℕ) (words n set : ℕ) : Type 0 where
  pub contents : Contents
  pub reads : Reads Sheet s contents
  pub counts : n ≡ contents.count
  pub hides : set ≡ set_of contents.hiddens
  pub members : (q : ℕ) → hidden_in set q ≡ is_listed q contents.hiddens
  pub enough : block_start contents.count ≤ words
