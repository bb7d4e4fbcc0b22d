-- The records of marking's contracts, from plain facts. Assumes nothing.
use mathlib.Core.Path.{◌≡◌, refl, sym, ◌∙◌, ap}
use mathlib.Core.Bool.{Bool, true, false}
use mathlib.Core.List.{List}
use mathlib.Core.Logic.{◌↔◌}
use Prim.Native.Nat.{ℕ, suc, ◌≤◌, ◌<◌}
use native.Mathlib.Omega.{arith}
use lib.IntN.{ℤ}
use lib.ListN.{length, drop}
use Rattle.words.specs.Change.{word_at}
use Rattle.words.specs.Lent.{Lent}
use Rattle.places.specs.Numbering.{block_start}
use Rattle.rules.specs.declared.refusal.Refusal.{Refusal}
use Rattle.rules.specs.declared.rule.Rule.{Rule}
use Rattle.rules.specs.declared.rule.Rule.TheVariants.{One, Two, Nothing}
use Rattle.rules.specs.Hidden.{hidden_in}
use Rattle.rules.specs.Refusal.{Returned, refused_as}
use Rattle.rules.specs.Refusing.{DecidedBy}
use Rattle.rules.proofs.Refusals.{same_refusal}
use Rattle.rules.specs.Steps.{trivial_rule}
use Rattle.rules.specs.Meaning.{has_term}
use Rattle.tables.specs.Places.{rule_at}
use Rattle.tables.specs.Meaning.{rule_in, Satisfies, Satisfiable, NamesVisible}
use Rattle.tables.proofs.Refusing.{refusal_in, decided_as}
use Rattle.tables.proofs.Meanings.{table_allows_visible, script_visible}
use Rattle.tables.proofs.Tests.{refused_done, clash}
use Rattle.elimination.specs.Inner.{among}
use Rattle.keys.specs.Keys.{key_of, refuted}
use Rattle.elimination.specs.Hiding.{live_at}
use Rattle.keys.specs.Inner.{outside, AtTurns, Decided, Fillable, Filled}
use Rattle.keys.proofs.Several.{key_visible}
use Rattle.keys.proofs.Deciding.{refuted_exactly}
use Rattle.keys.proofs.KeyCopies.{live_same, yet_last, key_word}
use Rattle.keys.proofs.Turning.{not_yet}
use Rattle.keys.proofs.Promised.{untouched, key_made, decided_reduced, values_found}
use Rattle.tightening.specs.Below.{FirstBelow, LivePlace}
use Rattle.marking.specs.declared.verdict.Verdict.{Verdict}
use Rattle.marking.specs.declared.verdict.Verdict.TheVariants.{Equal, Loose, Tight}
use Rattle.marking.specs.Verdicts.{Marking, verdict_number, carried_rule, verdict_returned, marking_returned, is_marked, is_marking_shown}
use Rattle.marking.specs.Marking.{first_broken, or_else, verdict_of, mark_checks, marked_as, mark_reply}
use Rattle.marking.specs.Meaning.{FirstAt, LooseShown, TightShown, VerdictMeans, workspace_size, mark_needs}
use Rattle.marking.specs.Promises.{TablesMarked}
use Rattle.marking.specs.Inner.{TablesAccepted, VerdictGiven, VerdictTold, VisibleListed, SheetReducible, SheetReduced, ScriptComparable, FrontFound}
use Rattle.marking.specs.Inner.{ScriptBreakable, ScriptBroken, SheetBreakable, NarrowReady, NarrowGiven}
use Rattle.marking.proofs.Checking.{mark_tied, met_accepted}
use Rattle.marking.proofs.Carried.{verdict_refusal, rule_at_term, first_alike, loose_alike, loose_shown_alike, tight_shown_alike}
use Rattle.marking.proofs.Breakable.{NoneBroken, Exactly, first_at, first_nowhere}
use Rattle.marking.proofs.Opposed.{key_room, sheet_fitting, sheet_hides, key_fitting, script_rest, script_fitting, loose_breakable, tight_breakable, tight_values}
use Rattle.marking.proofs.Finding.{below_seen, Found, seen_found}
use Rattle.marking.proofs.Lending.{lent_again, decided_lent}
use Rattle.marking.proofs.Reducing.{visible_alone, same_front}
use Rattle.marking.proofs.OwnKeys.{own_equal}
use Rattle.marking.proofs.Demand.{KeyExact, key_allows, some_satisfy, key_exactly, script_exactly, verdict_demand, verdict_loose, verdict_tight}
use Rattle.marking.proofs.Showing.{zero_words, loose_shows, tight_shows}
use Rattle.std.specs.Prelude.{Option, Some, None, Ok, Err}
use Rattle.tables.specs.Replies.{Reply}

-- ---- which verdict it is

-- the number tells loose and tight
is_loose : (v : Verdict) → verdict_number v ≡ 101 → v ≡ Loose (carried_rule v)
is_loose Equal e = absurd (omega arith)
is_loose (Loose r) e = refl
is_loose (Tight r) e = absurd (omega arith)

is_tight : (v : Verdict) → verdict_number v ≡ 102 → v ≡ Tight (carried_rule v)
is_tight Equal e = absurd (omega arith)
is_tight (Loose r) e = absurd (omega arith)
is_tight (Tight r) e = refl

-- equal: nothing is written
given_equal : (n set : ℕ) (sheet script w v w' v' : List ℤ) → Equal ≡ verdict_of (hidden_in set) n sheet script → Lent (workspace_size n) true w w' → v' ≡ v
    → VerdictGiven n set sheet script w v Equal w' v'
given_equal n set sheet script w v w' v' e l k = record {
  reply = e;
  lent = l;
  written = rw k (untouched n false v);
  loose_shown = λ rule d. absurd (cc);
  tight_shown = λ rule d. absurd (cc);
}

-- loose with a rule and the assignment that shows it
given_loose : (n set : ℕ) (sheet script w v : List ℤ) (r : Rule) (w' v' : List ℤ) → Loose r ≡ verdict_of (hidden_in set) n sheet script
    → Lent (workspace_size n) true w w' → Lent n true v v' → LooseShown n (hidden_in set) (Satisfies n sheet) (Satisfies n script) r v'
    → VerdictGiven n set sheet script w v (Loose r) w' v'
given_loose n set sheet script w v r w' v' e l k s = record {
  reply = e;
  lent = l;
  written = k;
  loose_shown = λ rule d. let same : r ≡ rule = cc in rw (← same) s;
  tight_shown = λ rule d. absurd (cc);
}

-- tight with a rule and the assignment that shows it
given_tight : (n set : ℕ) (sheet script w v : List ℤ) (r : Rule) (w' v' : List ℤ) → Tight r ≡ verdict_of (hidden_in set) n sheet script
    → Lent (workspace_size n) true w w' → Lent n true v v' → TightShown n (hidden_in set) (Satisfies n sheet) (Satisfies n script) r v'
    → VerdictGiven n set sheet script w v (Tight r) w' v'
given_tight n set sheet script w v r w' v' e l k s = record {
  reply = e;
  lent = l;
  written = k;
  loose_shown = λ rule d. absurd (cc);
  tight_shown = λ rule d. let same : r ≡ rule = cc in rw (← same) s;
}

-- ---- a sheet that no integers satisfy

-- the workspace is long enough for one table
pub one_table : (n set : ℕ) (sheet script : List ℤ) (w v : ℕ) → TablesAccepted n set sheet script w v → block_start n ≤ w
one_table n set sheet script w v m = omega (arith, m.workspace_room)

-- equal where none satisfy the script either
pub without_equal : (n set : ℕ) (sheet script w v w' : List ℤ) → refuted n sheet ≡ true → Decided n set script w true w'
    → VerdictGiven n set sheet script w v Equal w' v
unfolding verdict_of
without_equal n set sheet script w v w' e d =
    given_equal n set sheet script w v w' v (rw (e, ← d.reply))
    (decided_lent n set script w true w' d) refl

-- else the values may be read back
pub without_fillable : (n set : ℕ) (sheet script w v w' : List ℤ) → TablesAccepted n set sheet script (length w) (length v) → Decided n set script w false w'
    → Fillable n set w' v
without_fillable n set sheet script w v w' m d = record {
  from = script;
  reduced = decided_reduced n set script w w' (script_rest n set sheet script (length w) (length v) m) (one_table n set sheet script (length w) (length v) m) d;
  values_room = m.values_room;
}

-- and it is loose with no rule
pub without_loose : (n set : ℕ) (sheet script w v : List ℤ) (r : Rule) (w' v' : List ℤ) → TablesAccepted n set sheet script (length w) (length v)
    → refuted n sheet ≡ true → Decided n set script w false w' → Filled n set w' v v' → r ≡ trivial_rule → VerdictGiven n set sheet script w v (Loose r) w' v'
unfolding verdict_of
without_loose n set sheet script w v r w' v' m e d k t =
    let a = values_found n set script w v w' v' (script_rest n set sheet script (length w) (length v) m) (one_table n set sheet script (length w) (length v) m) d k in
    let none = (refuted_exactly n sheet (sheet_fitting n set sheet script (length w) (length v) m)).0 e in
    rw t (given_loose n set sheet script w v trivial_rule w' v' (rw (e, ← d.reply))
    (decided_lent n set script w false w' d) a.written (record {
      allowed = a.found.meaning;
      incomplete = λ s. none _ s.complete;
      breaks = tt;
      zero = zero_words n (hidden_in set) v' (λ j h g. k.zero j h g);
      there = rw a.written.size m.values_room;
      range = a.found.range;
    }))

-- the verdict then is that of the whole, the workspace having been lent once more before
pub verdict_without : (n set : ℕ) (sheet script w v u : List ℤ) (b : Bool) (r : Verdict) (w' v' : List ℤ) → SheetReduced n set sheet w b u
    → VerdictGiven n set sheet script u v r w' v' → VerdictGiven n set sheet script w v r w' v'
verdict_without n set sheet script w v u b r w' v' d g = record {
  reply = g.reply;
  lent = lent_again (workspace_size n) true true w u w' d.lent g.lent;
  written = g.written;
  loose_shown = g.loose_shown;
  tight_shown = g.tight_shown;
}

-- ---- a sheet that some integers satisfy

-- what reducing the sheet asks, and comparing the script
pub sheet_reducible : (n set : ℕ) (visible : List ℕ) (sheet script w v : List ℤ) → TablesAccepted n set sheet script (length w) (length v) → VisibleListed n set visible
    → SheetReducible n set visible sheet w
sheet_reducible n set visible sheet script w v m l = record {
  listed = l;
  hides = sheet_hides n set sheet script (length w) (length v) m;
  fits = sheet_fitting n set sheet script (length w) (length v) m;
  key_fits = key_fitting n set sheet script (length w) (length v) m;
  room = m.workspace_room;
}

pub script_comparable : (n set : ℕ) (visible : List ℕ) (sheet script w v u : List ℤ) → TablesAccepted n set sheet script (length w) (length v) → VisibleListed n set visible
    → length u ≡ length w → ScriptComparable n visible script u
script_comparable n set visible sheet script w v u m l e = record {
  fits = script_fitting n set sheet script (length w) (length v) m;
  alone = visible_alone n set visible script l m.visible;
  room = rw e m.workspace_room;
}

-- a rule of one or two quantities is carried
carry_term : (carry : Rule → Verdict) (r : Rule) (next : Verdict) → has_term r ≡ true → carry r ≡ or_else carry r next
carry_term carry (One x c) next e = refl
carry_term carry (Two x y c) next e = refl
carry_term carry (Nothing c) next e = clash e refl

-- the front with the hidden quantities eliminated has, at visible places, the words of the key
front_key : (n set : ℕ) (visible : List ℕ) (sheet u : List ℤ) → block_start n ≤ length sheet → VisibleListed n set visible → AtTurns (hidden_in set) n n sheet u
    → (k : ℕ) → LivePlace n visible k → word_at u k ≡ word_at (key_of (hidden_in set) n sheet) k
front_key n set visible sheet u l v a k p =
    let e = key_word (hidden_in set) n sheet u k l a p.0 in
    let seen : live_at (not_yet (hidden_in set) n) k ≡ true =
    yet_last (hidden_in set) n k p.0 ∙ sym (live_same (among visible) (λ i. outside set (suc i)) n k p.0 v.each) ∙ p.1 in
    rw seen at e

module _ (n set : ℕ) (visible : List ℕ) (sheet script w v u : List ℤ) (m : TablesAccepted n set sheet script (length w) (length v)) (l : VisibleListed n set visible)
    (b : Bool) (satisfiable : b ≡ false) (d : SheetReduced n set sheet w b u) where
  abbrev key : List ℤ
  key = key_of (hidden_in set) n sheet

  e : refuted n sheet ≡ false
  e = sym d.reply ∙ satisfiable

  some : Satisfiable n sheet
  some = some_satisfy n sheet (sheet_fitting n set sheet script (length w) (length v) m) e

  exact : KeyExact (hidden_in set) n sheet
  exact = key_allows n set sheet script (length w) (length v) m some

  room : block_start n ≤ length key
  room = key_room n set sheet script (length w) (length v) m

  key_names : NamesVisible n (hidden_in set) key
  key_names = key_visible (hidden_in set) n sheet m.sized.sheet_room

  -- the first rule of the script that the key breaks
  tight_found : (p : Option ℕ) → FirstBelow (LivePlace n visible) script (drop (block_start n) u) p → Found n (Satisfies n key) script p
  tight_found p f =
      seen_found n set visible script script (Satisfies n key) p l m.visible m.sized.script_room (λ k h. refl)
      (below_seen n visible script (drop (block_start n) u) (Satisfies n key) p (d.least satisfiable) f)

  -- and of the key that the script breaks
  loose_found : (x : List ℤ) (p : Option ℕ) → FrontFound n visible script u p x → Found n (Satisfies n script) key p
  loose_found x p f = seen_found n set visible u key (Satisfies n script) p l key_names room (front_key n set visible sheet u m.sized.sheet_room l (d.front satisfiable)) f.found

  module _ (x : List ℤ) (p : Option ℕ) (found : FrontFound n visible script u p x) (k : ℕ) (is : p ≡ Some k) where
    f : FrontFound n visible script u (Some k) x
    f = rw is at found

    at_key : FirstAt n key (Satisfies n script) k
    at_key = loose_found x (Some k) f

    pub loose_inside : k < block_start n
    loose_inside = at_key.holds.inside

    -- the rule at the front is the key's
    loose_word : word_at x k ≡ word_at key k
    loose_word = f.front k loose_inside ∙ front_key n set visible sheet u m.sized.sheet_room l (d.front satisfiable) k f.found.seen.at

    module _ (r : Rule) (q : r ≡ rule_at k (word_at x k)) where
      loose_rule : r ≡ rule_in key k
      loose_rule = q ∙ ap (rule_at k) loose_word

      pub loose_ready : ScriptBreakable n set script r x v
      loose_ready = rw loose_rule (record {
        breakable = loose_breakable n set sheet script (length w) (length v) m k v at_key.holds m.values_room at_key.breaks;
        room = omega (arith, f.lent.size, d.lent.size, m.workspace_room);
      })

      pub loose_given : (w' v' : List ℤ) → ScriptBroken n set script r x v w' v' → VerdictGiven n set sheet script w v (Loose r) w' v'
      unfolding verdict_of
      loose_given w' v' broken = rw loose_rule (given_loose n set sheet script w v (rule_in key k) w' v'
          (rw (e, first_at n key script k room (key_exactly n set sheet script (length w) (length v) m) at_key) (carry_term Loose (rule_in key k) _ (rule_at_term k (word_at key k))))
          (lent_again (workspace_size n) true true w x w' (lent_again (workspace_size n) true true w u x d.lent f.lent) broken.lent)
          broken.written
          (loose_shows n set sheet script k x v w' v' exact at_key.holds (rw loose_rule at broken) (rw broken.written.size m.values_room)))

  module _ (least : List ℤ) (tight : Option ℕ) (below : FirstBelow (LivePlace n visible) script least tight) (back : least ≡ drop (block_start n) u)
      (x : List ℤ) (p : Option ℕ) (found : FrontFound n visible script u p x) (is : p ≡ None) where
    t : FirstBelow (LivePlace n visible) script (drop (block_start n) u) tight
    t = rw back at below

    kept : FrontFound n visible script u None x
    kept = rw is at found

    none : NoneBroken n key (Satisfies n script)
    none = loose_found x None kept

    front : AtTurns (hidden_in set) n n sheet x
    front = same_front (hidden_in set) n sheet u x kept.front (d.front satisfiable)

    x_room : workspace_size n ≤ length x
    x_room = omega (arith, kept.lent.size, d.lent.size, m.workspace_room)

    tight_at : (k : ℕ) → tight ≡ Some k → FirstAt n script (Satisfies n key) k
    tight_at k q = let g = tight_found tight t in rw q at g

    tight_ready : (k : ℕ) → tight ≡ Some k → SheetBreakable n set sheet (rule_in script k) x v
    tight_ready k q = let g = tight_at k q in record {
      front = front;
      hides = sheet_hides n set sheet script (length w) (length v) m;
      breakable = tight_breakable n set sheet script (length w) (length v) m k v g.holds m.values_room g.breaks;
      visible = m.visible.each k g.holds;
      small = tight_values n set sheet script (length w) (length v) m k v g.holds m.values_room g.breaks;
      room = x_room;
    }

    pub narrow_ready : NarrowReady n set script tight x v
    narrow_ready = record {
      most = m.sized.most;
      room = m.sized.script_room;
      inside = λ k q. (tight_at k q).holds.inside;
      breakable = λ k q. record { sheet = sheet; is = tight_ready k q };
    }

    lent : Lent (workspace_size n) true w x
    lent = lent_again (workspace_size n) true true w u x d.lent kept.lent

    no_loose : first_broken n key script ≡ trivial_rule
    no_loose = first_nowhere n key script room (key_exactly n set sheet script (length w) (length v) m) none

    exactly : Exactly n script key
    exactly = script_exactly n set sheet script (length w) (length v) m

    pub narrow_given : (r : Verdict) (w' v' : List ℤ) → NarrowGiven n set script tight x v r w' v' → VerdictGiven n set sheet script w v r w' v'
    unfolding verdict_of
    narrow_given r w' v' g = go tight refl
      where
        go : (p : Option ℕ) → tight ≡ p → VerdictGiven n set sheet script w v r w' v'
        go None q =
            let y = g.equal q in
            let unbroken : NoneBroken n script (Satisfies n key) = let h = tight_found tight t in rw q at h in
            rw y.0 (given_equal n set sheet script w v w' v'
            (rw (e, no_loose, first_nowhere n script key m.sized.script_room exactly unbroken))
            (rw y.1 lent) y.2)
        go (Some k) q =
            let y = g.tight_broken k q in
            let h = tight_at k q in
            rw y.0 (given_tight n set sheet script w v (rule_in script k) w' v'
            (rw (e, no_loose, first_at n script key k m.sized.script_room exactly h) (carry_term Tight (rule_in script k) Equal (rule_at_term k (word_at script k))))
            (lent_again (workspace_size n) true true w x w' lent y.1.lent)
            y.1.written
            (tight_shows n (hidden_in set) sheet script k v' h.holds (y.1.shown sheet (tight_ready k q)) (rw y.1.written.size m.values_room)))

-- ---- marking two tables

-- what a verdict means
pub verdict_told : (n set : ℕ) (sheet script : List ℤ) (w v : List ℤ) (r : Verdict) (w' v' : List ℤ)
    → TablesAccepted n set sheet script (length w) (length v) → VerdictGiven n set sheet script w v r w' v'
    → VerdictMeans n set (Satisfies n sheet) (Satisfies n script) sheet script (verdict_returned r) v'
verdict_told n set sheet script w v r w' v' m g = record {
  demand = rw g.reply (verdict_demand n set sheet script (length w) (length v) m);
  visibles = record {
    script_visible = λ σ τ. script_visible n (hidden_in set) script σ τ m.visible;
    sheet_visible = table_allows_visible n (hidden_in set) sheet;
  };
  key = key_made n set sheet (sheet_fitting n set sheet script (length w) (length v) m) m.limits.sheet_within;
  loose = λ rule e. let p = is_loose r (ap (λ (x : Returned). x.number) e) in let d = ap (λ (x : Returned). x.values) e in (
    loose_alike (carried_rule r) rule d (hidden_in set) n sheet (Satisfies n script)
        (verdict_loose n set sheet script (length w) (length v) m (carried_rule r) (sym g.reply ∙ p)),
    loose_shown_alike (carried_rule r) rule d n (hidden_in set) (Satisfies n sheet) (Satisfies n script) v' (g.loose_shown (carried_rule r) p),
  );
  tight = λ rule e. let p = is_tight r (ap (λ (x : Returned). x.number) e) in let d = ap (λ (x : Returned). x.values) e in (
    first_alike (carried_rule r) rule d n script (Satisfies n sheet)
        (verdict_tight n set sheet script (length w) (length v) m (carried_rule r) (sym g.reply ∙ p)),
    tight_shown_alike (carried_rule r) rule d n (hidden_in set) (Satisfies n sheet) (Satisfies n script) v' (g.tight_shown (carried_rule r) p),
  );
}

pub told_given : (n set : ℕ) (sheet script w v : List ℤ) (r : Verdict) (w' v' : List ℤ) → TablesAccepted n set sheet script (length w) (length v)
    → VerdictGiven n set sheet script w v r w' v' → VerdictTold n set sheet script w v r w' v'
told_given n set sheet script w v r w' v' m g = record { given = g; means = verdict_told n set sheet script w v r w' v' m g }

-- a reply made of checks is refused as they are
marked_refused : (a : Reply) (v : Verdict) (f : Refusal) → (marking_returned (marked_as a v) ≡ refused_as f) ↔ (a ≡ Err f)
marked_refused (Ok tt) v f = (λ e. absurd (verdict_refusal v f (ap (λ (x : Returned). x.number) e)), λ e. absurd (refused_done (sym e)))
marked_refused (Err g) v f = (λ e. ap Err (same_refusal g f e), λ e. rw (refusal_in e))

-- and is a verdict where they are done
marked_done : (a : Reply) (v : Verdict) → (is_marked (marked_as a v) ≡ true) ↔ (a ≡ Ok tt)
marked_done (Ok tt) v = (λ e. refl, λ e. refl)
marked_done (Err g) v = (λ e. clash e refl, λ e. absurd (refused_done e))

module _ (n set : ℕ) (sheet script : List ℤ) (w v : ℕ) where
  reply_decided : (r : Marking) → r ≡ mark_reply n set sheet script w v
      → DecidedBy (mark_needs n set sheet script w v) (λ f. marking_returned r ≡ refused_as f) (is_marked r ≡ true)
  unfolding mark_reply
  reply_decided r e =
      let checks = mark_checks n set sheet script w v in
      let verdict = verdict_of (hidden_in set) n sheet script in
      rw e (decided_as (mark_tied n set sheet script w v) (marked_refused checks verdict) (marked_done checks verdict))

-- checks that are done leave what a verdict asks
pub checked_accepted : (n set : ℕ) (sheet script : List ℤ) (w v : ℕ) (a : Reply) → a ≡ mark_checks n set sheet script w v → a ≡ Ok tt
    → TablesAccepted n set sheet script w v
checked_accepted n set sheet script w v a e d = met_accepted n set sheet script w v ((mark_tied n set sheet script w v).accepted.0 (sym e ∙ d))

-- every reply has the promise, with its words and its meaning
tables_marked : (n set : ℕ) (sheet script w v : List ℤ) (r : Marking) (w' v' : List ℤ) → r ≡ mark_reply n set sheet script (length w) (length v)
    → Lent (workspace_size n) (is_marked r) w w' → Lent n (is_marking_shown r) v v'
    → (is_marked r ≡ true → VerdictMeans n set (Satisfies n sheet) (Satisfies n script) sheet script (marking_returned r) v') → TablesMarked n set sheet script w v r w' v'
tables_marked n set sheet script w v r w' v' e l k m = let d = reply_decided n set sheet script (length w) (length v) r e in record {
  reply = e;
  lent = l;
  written = k;
  decided = d;
  means = m;
  own_key = λ o. own_equal n set sheet script o w v r v' d m;
}

-- a refusal: no word is changed
pub mark_refused : (n set : ℕ) (sheet script w v : List ℤ) (f : Refusal) → Err f ≡ mark_checks n set sheet script (length w) (length v) → TablesMarked n set sheet script w v (Err f) w v
unfolding mark_reply
mark_refused n set sheet script w v f e =
    tables_marked n set sheet script w v (Err f) w v (rw (← e)) (untouched (workspace_size n) false w) (untouched n false v) (λ c. clash {b = false} c refl)

-- a verdict
pub mark_given : (n set : ℕ) (sheet script w v : List ℤ) (a : Reply) (r : Verdict) (w' v' : List ℤ)
    → a ≡ mark_checks n set sheet script (length w) (length v) → a ≡ Ok tt → VerdictTold n set sheet script w v r w' v'
    → TablesMarked n set sheet script w v (Ok r) w' v'
unfolding mark_reply
mark_given n set sheet script w v a r w' v' e d g =
    tables_marked n set sheet script w v (Ok r) w' v' (rw (← e, d, ← g.given.reply)) g.given.lent g.given.written (λ c. g.means)
