-- Assignments that break a rule: of the script from its copy, of the sheet from its key's copy, completed by hidden values. Assumes nothing.
use mathlib.Core.Path.{◌≡◌, refl, sym, ◌∙◌, ap}
use mathlib.Core.Bool.{Bool, true, false}
use mathlib.Core.List.{List, ◌++◌}
use mathlib.Core.Logic.{inr}
use Prim.Native.Nat.{ℕ, zero, suc, ◌+◌, ◌-◌, ◌*◌, ◌≤◌, ◌<◌, ◌^◌}
use native.Mathlib.Omega.{arith}
use lib.Dec.{eqb}
use lib.IntN.{ℤ, pos}
use lib.ListN.{length, take, drop, length-drop, get_or-append}
use lib.Seq.{take_all}
use borrow.Rule.Slice.PartMut.{mid_of}
use borrow.Author.Tests.{eqb-true, eqb-false, le-leb}
use Rattle.integers.specs.Bound.{Within}
use Rattle.integers.proofs.Within.{within_mono}
use Rattle.words.specs.Change.{word_at, change, copying, lowered}
use Rattle.words.specs.Lent.{Lent}
use Rattle.words.proofs.Change.{change_length, change_drop, lowered_length, lowered_same, lowered_other}
use Rattle.places.specs.Numbering.{block_start}
use Rattle.rules.specs.declared.rule.Rule.{Rule}
use Rattle.rules.specs.Hidden.{hidden_in, member_count}
use Rattle.rules.specs.Limits.{max_quantities}
use Rattle.rules.specs.Meaning.{bound_of, names}
use Rattle.rules.specs.Steps.{opposite_of}
use Rattle.tables.specs.Places.{HasPlace, rule_at}
use Rattle.tables.specs.Tables.{put_rule, table_size}
use Rattle.tables.specs.Meaning.{Satisfies, assignment_of}
use Rattle.tables.proofs.Places.{place_of, rule_at_has_place, has_place_below}
use Rattle.tables.proofs.Sizes.{size_known}
use Rattle.tables.proofs.Tests.{clash}
use Rattle.tables.proofs.Values.{meets_named}
use Rattle.elimination.specs.Magnitude.{Unnamed}
use Rattle.elimination.specs.Inner.{Listed}
use Rattle.keys.specs.declared.live.Part.TheVariants.{Inside, Outside}
use Rattle.keys.specs.Keys.{key_of, hide_up_to}
use Rattle.keys.specs.Inner.{outside, member_of, still_live, LiveAlone, Fits, AtTurns, Readable, PartReadable, read_back}
use Rattle.keys.specs.Copies.{KeyCopied}
use Rattle.keys.specs.Breaking.{RuleBreakable, RuleBroken}
use Rattle.keys.proofs.Copying.{SameTable, copied, same_back, same_satisfies, same_fits, same_part, part_limit}
use Rattle.keys.proofs.Fitting.{member_limit}
use Rattle.keys.proofs.ReadBack.{read_length, read_rest, read_others, read_satisfies, read_within}
use Rattle.keys.proofs.Puts.{put_lowers, opposite_has_place}
use Rattle.keys.proofs.Parts.{PartBack, front_word, back_word}
use Rattle.tightening.specs.Promises.{Tightened}
use Rattle.tightening.proofs.Least.{bound_least}
use Rattle.tightening.specs.Below.{LivePlace, FirstBelow, Comparable}
use Rattle.marking.specs.Meaning.{workspace_size}
use Rattle.marking.specs.Inner.{FirstSeen, LeastBounds, FrontFound, ScriptBreakable, ScriptBroken, SheetBreakable, SheetShown}
use Rattle.marking.proofs.Finding.{below_seen}
use Rattle.marking.proofs.Lending.{lent_again, lent_wider, part_lent}
use Rattle.marking.proofs.Reducing.{same_breaks, same_alone, same_front}
use Rattle.std.specs.Prelude.{Option, Some, None}
use Rattle.std.proofs.lemmas.List.{take_at, drop_at, length-append}

-- the part of a workspace from its second table on
pub second_part : (n m : ℕ) (u : List ℤ) → n ≤ max_quantities → m ≡ table_size n → mid_of m (length u - m) u ≡ drop (block_start n) u
second_part n m u h d =
    let s = size_known n m h d in
    take_all (length u - m) (drop m u) (omega (arith, length-drop m u)) ∙ ap (λ (i : ℕ). drop i u) s

-- ---- a rule put into tables that hold the same words

-- a word put into both leaves them so
same_lowered : (n : ℕ) (t u : List ℤ) (k : ℕ) (c : ℤ) → k < block_start n → SameTable n t u → SameTable n (lowered t k c) (lowered u k c)
same_lowered n t u k c h s = record {
  mine = omega (arith, lowered_length t k c, s.mine);
  theirs = omega (arith, lowered_length u k c, s.theirs);
  words = λ i b. go i b (eqb i k) refl;
}
  where
    go : (i : ℕ) → i < block_start n → (b : Bool) → eqb i k ≡ b → word_at (lowered u k c) i ≡ word_at (lowered t k c) i
    go i b true e =
        rw (eqb-true i k e, lowered_same t k c (omega (arith, s.mine)), lowered_same u k c (omega (arith, s.theirs)), s.words k h)
    go i b false e = rw (lowered_other t k i c (eqb-false i k e), lowered_other u k i c (eqb-false i k e)) (s.words i b)

-- the same of a rule that has a place
same_put : (n : ℕ) (t u : List ℤ) (r : Rule) → HasPlace n r → SameTable n t u → SameTable n (put_rule t r) (put_rule u r)
same_put n t u r h s = rw (put_lowers n t r h, put_lowers n u r h) (same_lowered n t u (place_of r) (bound_of r) (has_place_below n r h) s)

-- so a rule that may be broken in one may be in the other
pub same_breakable : (n set : ℕ) (t u : List ℤ) (r : Rule) (v : List ℤ) → SameTable n t u → RuleBreakable n set t r v → RuleBreakable n set u r v
same_breakable n set t u r v s b = record {
  place = b.place;
  inside = b.inside;
  bound = b.bound;
  bounded = b.bounded;
  is = b.is;
  small = b.small;
  room = s.theirs;
  fits = same_part n set Outside (put_rule t (opposite_of r)) (put_rule u (opposite_of r)) (same_put n t u (opposite_of r) placed s) b.fits;
  breaks = same_breaks n t u r s b.breaks;
  values_room = b.values_room;
}
  where
    placed : HasPlace n (opposite_of r)
    placed = opposite_has_place n r (rw b.is (rule_at_has_place n b.place b.bound b.inside))

breakable_limit : (n set : ℕ) (t u : List ℤ) (r : Rule) (v : List ℤ) (s : SameTable n t u) (b : RuleBreakable n set t r v)
    → (same_breakable n set t u r v s b).fits.sums.limit ≡ b.fits.sums.limit
unfolding same_breakable
breakable_limit n set t u r v s b = part_limit n set Outside _ _ _ b.fits

-- ---- the script's copy at the front

module _ (n set m : ℕ) (script : List ℤ) (r : Rule) (w v u : List ℤ) (p : ScriptBreakable n set script r w v) (d : m ≡ table_size n) (e : u ≡ change m (copying script) w) where
  whole : u ≡ change (block_start n) (copying script) w
  whole = let s = size_known n m p.breakable.fits.sums.most d in rw s at e

  same : SameTable n script u
  same = rw whole (copied n script w p.breakable.room (omega (arith, p.room)))

  pub script_breakable : RuleBreakable n set u r v
  script_breakable = same_breakable n set script u r v same p.breakable

  pub script_broken : (w' v' : List ℤ) → RuleBroken n set u r v w' v' → ScriptBroken n set script r w v w' v'
  script_broken w' v' b = record {
    lent = lent_again (workspace_size n) true true w u w'
        (rw whole (lent_wider (block_start n) (workspace_size n) w (change (block_start n) (copying script) w) (omega arith)
        (change_length (block_start n) (copying script) w) (change_drop (block_start n) (copying script) w)))
        (lent_wider (block_start n) (workspace_size n) u w' (omega arith) b.lent.size b.lent.rest);
    written = b.written;
    satisfies = same_satisfies n u script (assignment_of v') (same_back n script u same) b.satisfies;
    broken = b.broken;
    zero = b.zero;
    range = λ i h. within_mono (omega (arith, script_breakable.fits.sums.last)) (b.within script_breakable.fits i h);
  }

-- ---- the key's copy at the back, and hidden values

module _ (n set : ℕ) (sheet : List ℤ) (r : Rule) (w v u part : List ℤ) (p : SheetBreakable n set sheet r w v) (k : KeyCopied n set w u) (f : part ≡ drop (block_start n) u) where
  abbrev key : List ℤ
  key = key_of (hidden_in set) n sheet

  abbrev wide : ℕ
  wide = p.breakable.fits.sums.limit * 2 ^ member_count (outside set) n - p.breakable.fits.sums.limit

  key_same : SameTable n key part
  key_same = record {
    mine = p.breakable.room;
    theirs = rw (f, length-drop (block_start n) u) (omega (arith, k.lent.size, p.room));
    words = λ i h. sym (back_word (block_start n) u part f i) ∙ k.key sheet p.hides.room p.front i h;
  }

  pub sheet_breakable : RuleBreakable n set part r v
  sheet_breakable = same_breakable n set key part r v key_same p.breakable

  module _ (part' z v₁ : List ℤ) (g : PartBack (block_start n) u part part' z) (b : RuleBroken n set part r v part' v₁) where
    turns : AtTurns (hidden_in set) n n sheet z
    turns = same_front (hidden_in set) n sheet w z (λ i h. front_word (block_start n) u z g.front i h ∙ k.front i h) p.front

    visible_within : (i : ℕ) → i < n → Within (pos wide) (word_at v₁ i)
    unfolding sheet_breakable
    visible_within i h = rw (breakable_limit n set key part r v key_same p.breakable) at (b.within sheet_breakable.fits i h)

    readable : Readable (member_of set Inside) n wide sheet z v₁
    readable = record {
      fits = p.hides;
      at = turns;
      room = omega (arith, g.size, k.lent.size, p.room);
      values_room = omega (arith, b.written.size, p.breakable.values_room);
      others = λ i h e. visible_within i h;
      last = p.small;
    }

    alone : (i : ℕ) → i < n → still_live set Inside 0 i ≡ false → Unnamed n i sheet
    alone i h e = clash (rw (le-leb 0 i (omega arith))) e

    pub sheet_readable : PartReadable n set Inside z v₁
    sheet_readable = record { wide = wide; from = sheet; readable = readable; alone = alone }

    -- the values complete the sheet and break the rule
    pub sheet_shown : (v' : List ℤ) → v' ≡ read_back set Inside n z n v₁ → SheetShown n sheet r v'
    unfolding hide_up_to member_count readable
    sheet_shown v' e = rw e (record {
      satisfies = rw none at (read_satisfies set Inside n wide sheet z v₁ readable alone (same_satisfies n part key (assignment_of v₁) (same_back n key part key_same) b.satisfies) n
          (omega arith));
      broken = λ m. b.broken (meets_named (assignment_of read) (assignment_of v₁) r agree m);
      range = λ i h. within_mono small (read_within set Inside n wide sheet z v₁ readable alone n (omega arith) i h (inr (omega arith)));
    })
      where
        read : List ℤ
        read = read_back set Inside n z n v₁

        none : n - n ≡ 0
        none = omega arith

        small : wide + (member_limit (hidden_in set) p.hides.limit n - member_limit (hidden_in set) p.hides.limit (n - n)) ≤ 4611686018427387904
        small = rw none (omega (arith, p.small))

        agree : (q : ℕ) → names q r ≡ true → assignment_of read q ≡ assignment_of v₁ q
        agree zero d = refl
        agree (suc i) d = read_others set Inside n wide sheet z v₁ readable alone n (omega arith) i (p.visible (suc i) d)

    pub sheet_written : (v' : List ℤ) → v' ≡ read_back set Inside n z n v₁ → Lent n true v v'
    sheet_written v' e = rw e (record {
      size = read_length set Inside n wide sheet z v₁ readable alone n ∙ b.written.size;
      rest = read_rest set Inside n wide sheet z v₁ readable alone n (omega arith) ∙ b.written.rest;
      kept = λ c. clash refl c;
    })

    pub sheet_lent : Lent (workspace_size n) true w z
    sheet_lent = lent_again (workspace_size n) true true w u z k.lent (part_lent n u part part' z g b.lent)

-- ---- the script's least bounds at the back

-- rules that are seen in words that are the same
seen_same : (n : ℕ) (live : List ℕ) (words rules : List ℤ) (script : List ℤ) (p : Option ℕ) → ((k : ℕ) → k < block_start n → word_at words k ≡ word_at rules k)
    → FirstSeen n live words (Satisfies n script) p → FirstSeen n live rules (Satisfies n script) p
seen_same n live words rules script (Some k) same f = record {
  seen = record { at = f.seen.at; rule = rw (same k f.seen.at.0) at f.seen.rule };
  breaks = rw (same k f.seen.at.0) at f.breaks;
  first = λ i h s b. f.first i h (record { at = s.at; rule = rw (same i s.at.0) s.rule }) (rw (same i s.at.0) b);
}
seen_same n live words rules script None same f =
    λ i s b. f i (record { at = s.at; rule = rw (same i s.at.0) s.rule }) (rw (same i s.at.0) b)

-- a copy made the tightest has the least bounds of the table's terms
module _ (n m : ℕ) (live : List ℕ) (t w u : List ℤ) (f : Fits n t) (a : LiveAlone n live t) (l : block_start n ≤ length w) (d : m ≡ table_size n) (e : u ≡ change m (copying t) w) where
  copy_whole : u ≡ change (block_start n) (copying t) w
  copy_whole = let s = size_known n m f.sums.most d in rw s at e

  copy_same : SameTable n t u
  copy_same = rw copy_whole (copied n t w f.sums.room l)

  pub copy_comparable : Fits n u × LiveAlone n live u
  copy_comparable = (same_fits n t u copy_same f, same_alone n live t u copy_same a)

  pub copy_least : (w' : List ℤ) (r : Bool) → Tightened n u r w' → LeastBounds n t w r w'
  copy_least w' r p = record {
    none = (λ q σ s. p.none.0 q σ (same_satisfies n t u σ copy_same s), λ q. p.none.1 (λ σ s. q σ (same_satisfies n u t σ back s)));
    lent = record {
      size = p.lent.size ∙ rw copy_whole (change_length (block_start n) (copying t) w);
      rest = p.lent.rest ∙ rw copy_whole (change_drop (block_start n) (copying t) w);
      kept = λ h. clash refl h;
    };
    least = λ q k h c j. (
      λ x. same_breaks n u t (rule_at k c) back ((bound_least n u k (word_at w' k) c (p.bounds q k h) j).0 x),
      λ x. (bound_least n u k (word_at w' k) c (p.bounds q k h) j).1 (same_breaks n t u (rule_at k c) copy_same x),
    );
  }
    where
      back : SameTable n u t
      back = same_back n t u copy_same

-- at the back of a workspace, split behind its first table
module _ (n m : ℕ) (live : List ℕ) (script w front back back' : List ℤ) (r : Bool) (h : n ≤ max_quantities) (d : m ≡ table_size n) (e : w ≡ front ++ back) (l : length front ≡ m) (t : LeastBounds n script back r back') where
  long : length front ≡ block_start n
  long = l ∙ size_known n m h d

  split_back : PartBack (block_start n) w back back' (front ++ back')
  split_back = record {
    size = omega (arith, length-append front back', ap length e, length-append front back, t.lent.size);
    front = take_at front back' (block_start n) long ∙ sym (ap (take (block_start n)) e ∙ take_at front back (block_start n) long);
    was = sym (ap (drop (block_start n)) e ∙ drop_at front back (block_start n) long);
    is = sym (drop_at front back' (block_start n) long);
  }

  -- what looking for the first rule at the front asks
  pub front_comparable : workspace_size n ≤ length w → Listed n live → Comparable n live front back'
  front_comparable room listed = record {
    most = h;
    listed = listed;
    rules_room = omega (arith, long);
    least_room = omega (arith, long, ap length e, length-append front back, t.lent.size);
  }

  -- no integers satisfy the script: it breaks nothing
  pub front_none : r ≡ true → FrontFound n live script w None (front ++ back')
  front_none c = record {
    found = λ i s b. t.none.0 c b.assignment b.satisfies;
    front = front_word (block_start n) w (front ++ back') split_back.front;
    lent = part_lent n w back back' (front ++ back') split_back t.lent;
  }

  -- or the first rule below its least bounds
  pub front_found : r ≡ false → (q : Option ℕ) → FirstBelow (LivePlace n live) front back' q → FrontFound n live script w q (front ++ back')
  front_found c q b = record {
    found = seen_same n live front w script q same (below_seen n live front back' (Satisfies n script) q (t.least c) b);
    front = front_word (block_start n) w (front ++ back') split_back.front;
    lent = part_lent n w back back' (front ++ back') split_back t.lent;
  }
    where
      same : (k : ℕ) → k < block_start n → word_at front k ≡ word_at w k
      same k j = sym (ap (λ (u : List ℤ). word_at u k) e ∙ get_or-append front back (pos 0) k (omega (arith, long)))
