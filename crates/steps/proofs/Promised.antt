-- The record of the call's contract, from plain facts. Assumes nothing.
use mathlib.Core.Path.{◌≡◌, refl, sym, ◌∙◌, ap}
use mathlib.Core.Bool.{Bool, true, false, cond, not}
use mathlib.Core.List.{List}
use Prim.Native.Nat.{ℕ, ◌+◌, ◌-◌, ◌≤◌, ◌^◌}
use native.Mathlib.Nat.{mul-le-mul, add-mul}
use native.Mathlib.Omega.{arith}
use lib.Dec.{leb}
use lib.IntN.{ℤ}
use lib.ListN.{length, drop}
use lib.Seq.{drop-drop}
use lib.Pow.{pow_mono}
use borrow.Author.Tests.{leb-true}
use Rattle.words.specs.Lent.{Lent}
use Rattle.words.proofs.Change.{change_drop}
use Rattle.places.specs.Numbering.{block_start}
use Rattle.places.proofs.Numbering.{block_start_mono}
use Rattle.rules.specs.declared.paper.Paper.TheVariants.{Sheet, Script}
use Rattle.rules.specs.declared.refusal.Refusal.{Refusal}
use Rattle.rules.specs.declared.refusal.Refusal.TheVariants.{NoAssignment}
use Rattle.rules.specs.Hidden.{hidden_in, member_count}
use Rattle.rules.specs.Limits.{bound_limit}
use Rattle.rules.specs.Refusing.{passed, AllMet}
use Rattle.rules.proofs.Counts.{count_most}
use Rattle.rules.proofs.Refusals.{refusal-number}
use Rattle.std.specs.Prelude.{Ok, Err}
use Rattle.tables.specs.Replies.{Reply, reply_number, check}
use Rattle.tables.specs.Meaning.{Satisfiable}
use Rattle.tables.proofs.Refusing.{tied_decided}
use Rattle.elimination.specs.Hiding.{every, paired, eliminated}
use Rattle.elimination.specs.Inner.{Ready}
use Rattle.keys.specs.Keys.{key_of, refuted, frees_workspace}
use Rattle.keys.specs.Meaning.{key_needs_then}
use Rattle.keys.specs.Inner.{Fits, RestFits, Decided, SetHidden}
use Rattle.keys.specs.Promises.{KeyMade}
use Rattle.keys.proofs.Checking.{decided_some}
use Rattle.keys.proofs.Fitting.{words_mono, limit_doubled, script_limit, whole_fits}
use Rattle.keys.proofs.Promised.{key_late, key_fits, key_none, key_made}
use Rattle.keys.proofs.Several.{key_length, rest_eliminated, rest_key}
use Rattle.steps.specs.Steps.{step_at, step_of, step_reply}
use Rattle.steps.specs.Meaning.{step_needs_then}
use Rattle.steps.specs.Promises.{StepFollowed}
use Rattle.steps.proofs.Checking.{step_tied, step_late, key_met, point_met}
use Rattle.steps.proofs.Following.{point_reached, key_step}

not_done : (r : Reply) (f : Refusal) → r ≡ Err f → reply_number r ≡ 0 → ⊥
not_done r f d e = refusal-number f (rw d at e)

-- ---- words past the table

rest_paired : (n b j : ℕ) (t : List ℤ) → b ≤ n → drop (block_start n) (paired every b j t) ≡ drop (block_start n) t
unfolding paired
rest_paired n b j t h = parted (paired every b j t) ∙ ap (drop (block_start n - block_start b)) (change_drop (block_start b) _ t) ∙ sym (parted t)
  where
    whole : block_start n ≡ block_start b + (block_start n - block_start b)
    whole = omega (arith, block_start_mono {a = b} {b = n} h)

    parted : (l : List ℤ) → drop (block_start n) l ≡ drop (block_start n - block_start b) (drop (block_start b) l)
    parted l = ap (λ (k : ℕ). drop k l) whole ∙ sym (drop-drop (block_start n - block_start b) (block_start b) l)

rest_step : (n j blocks : ℕ) (t : List ℤ) → drop (block_start n) (step_at n j blocks t) ≡ drop (block_start n) t
unfolding step_at
rest_step n j blocks t = go (leb blocks n) refl
  where
    go : (c : Bool) → leb blocks n ≡ c → drop (block_start n) (cond c (paired every blocks j t) (eliminated n j t)) ≡ drop (block_start n) t
    go true e = rest_paired n blocks j t (leb-true blocks n e)
    go false e = rest_eliminated n j t

-- ---- past the checks sums fit

pub step_fits : (n set q blocks : ℕ) (t : List ℤ) (w : ℕ) → AllMet (step_needs_then n set q blocks t w passed) → Fits n t
step_fits n set q blocks t w p = key_fits n set t w (key_met n set q blocks t w p)

pub step_whole : (n set q blocks : ℕ) (t : List ℤ) (w : ℕ) → AllMet (step_needs_then n set q blocks t w passed) → RestFits n 0 t
step_whole n set q blocks t w (s, (l, (m, u))) = whole_fits n set t s.most s.room m.1

-- ---- the three replies

module _ (n set q blocks : ℕ) (t w w' : List ℤ) where
  -- refused, with the table as it was
  pub step_refused : (r : Reply) (f : Refusal) → r ≡ step_reply n set q blocks t (length w) → r ≡ Err f → Lent (block_start n) (frees_workspace r) w w'
      → StepFollowed n set q blocks t w r t w'
  step_refused r f e d l = record {
    reply = e;
    decided = tied_decided _ r _ e (step_tied n set q blocks t (length w));
    none = λ p. key_none n set t (length w) r (e ∙ step_late n set q blocks t (length w) p) (key_met n set q blocks t (length w) p);
    words = rw d;
    rest = refl;
    lent = l;
    start = λ c. absurd (not_done r f d c);
    turn = λ c. absurd (not_done r f d c);
    reached = λ c. absurd (not_done r f d c);
  }

  module _ (p : AllMet (step_needs_then n set q blocks t (length w) passed)) where
    met : AllMet (key_needs_then n set t (length w) passed)
    met = key_met n set q blocks t (length w) p

    -- past the checks the decision is the reply
    decided : (b : Bool) → b ≡ refuted n t → check (not b) NoAssignment (Ok tt) ≡ step_reply n set q blocks t (length w)
    decided b d = sym (step_late n set q blocks t (length w) p ∙ key_late n set t (length w) met ∙ rw (← d))

    pub step_five : Decided n 0 t w true w' → StepFollowed n set q blocks t w (Err NoAssignment) t w'
    step_five d = step_refused (Err NoAssignment) NoAssignment (decided true d.reply) refl d.lent

    module _ (d : Decided n 0 t w false w') (t' : List ℤ) (r : Bool) (h : SetHidden n set t r t') where
      some : Satisfiable n t
      some = (decided_some n set t met.0 met.1.1.0.1).0 (rw (← d.reply))

      -- where some integers satisfy the table, no contradiction is met while those of the set are hidden
      clear : (b : Bool) → r ≡ b → b ≡ false
      clear true e = absurd (h.none e some.assignment some.satisfies)
      clear false e = refl

      key : t' ≡ key_of (hidden_in set) n t
      key = h.key (clear r refl)

      made : KeyMade n set t (key_of (hidden_in set) n t)
      made = key_made n set t (key_fits n set t (length w) met) met.1.1.0.1 some

      -- so the step can be begun on the key: its bounds add
      pub step_ready : Ready n (q - 1) t'
      step_ready =
          let point = point_met n set q blocks t (length w) p in
          let least = point.some in
          let most = point.most in
          rw key (record {
            most = met.0.most;
            one = omega arith;
            room = rw (key_length (hidden_in set) n t) met.0.room;
            words = words_mono (block_start n) (bound_limit Script n set) 4611686018427387903 (key_of (hidden_in set) n t) script_adds made.like.within;
          })
        where
          script_adds : bound_limit Script n set ≤ 4611686018427387903
          script_adds =
              let one : bound_limit Sheet n set ≤ bound_limit Sheet n set = omega arith in
              omega (
                arith,
                script_limit n set,
                mul-le-mul one (pow_mono {i = member_count (hidden_in set) n} {j = n} (count_most (hidden_in set) n)),
                add-mul (bound_limit Sheet n set) 1 (2 ^ n),
                limit_doubled n set met.0.most,
              )

      pub step_done : (u : List ℤ) → u ≡ step_at n (q - 1) blocks t' → StepFollowed n set q blocks t w (Ok tt) u w'
      unfolding step_of
      step_done u e =
          let words : u ≡ step_at n (q - 1) blocks (key_of (hidden_in set) n t) = e ∙ ap (step_at n (q - 1) blocks) key in
          let point = point_met n set q blocks t (length w) p in
          let least = point.some in
          let most = point.most in
          let long : block_start n ≤ length (key_of (hidden_in set) n t) = rw (key_length (hidden_in set) n t) met.0.room in
          let reply = decided false d.reply in
          record {
            reply = reply;
            decided = tied_decided _ (Ok tt) _ reply (step_tied n set q blocks t (length w));
            none = λ c. key_none n set t (length w) (Ok tt) (reply ∙ step_late n set q blocks t (length w) c) (key_met n set q blocks t (length w) c);
            words = words;
            rest = rw words (rest_step n (q - 1) blocks (key_of (hidden_in set) n t)) ∙ rest_key (hidden_in set) n t;
            lent = d.lent;
            start = λ c. made;
            turn = λ c hidden. key_step n set q t hidden least most;
            reached = λ c. rw words (point_reached n (q - 1) blocks (key_of (hidden_in set) n t) long (omega arith));
          }
