-- The contracts' records from plain facts: a refusal and a success of each call on a table. Assumes nothing.
use mathlib.Core.Path.{◌≡◌, refl, sym, ◌∙◌, ap}
use mathlib.Core.Bool.{Bool, true, false, cond}
use mathlib.Core.List.{List, ◌++◌}
use mathlib.Core.Logic.{◌⊎◌, inl, inr}
use Prim.Native.Nat.{ℕ, ◌+◌, ◌-◌, ◌*◌, ◌/◌, ◌%◌, ◌≤◌, ◌<◌}
use native.Mathlib.Omega.{arith}
use lib.IntN.{ℤ, pos}
use lib.ListN.{length, drop, length-replicate, get_or-replicate, get_or-append}
use borrow.Author.Tests.{le-leb, lt-leb, lt-ltb, le-ltb}
use Rattle.words.specs.Change.{word_at, change, fill_from}
use Rattle.words.proofs.Change.{fill_front}
use Rattle.std.specs.Prelude.{Option}
use Rattle.places.specs.Numbering.{block_start, block_of, offset_of, is_one, higher_at, lower_at}
use Rattle.places.proofs.Numbering.{at_lower, block_starts, block_start_above}
use Rattle.rules.specs.declared.rule.Rule.{Rule}
use Rattle.rules.specs.declared.rule.Rule.TheVariants.{One, Two}
use Rattle.rules.specs.declared.refusal.Refusal.{Refusal}
use Rattle.rules.specs.declared.refusal.Refusal.TheVariants.{Size, OutOfLimit}
use Rattle.rules.specs.Limits.{no_rule}
use Rattle.rules.specs.Meaning.{Assignment}
use Rattle.rules.specs.Steps.{halved_of}
use Rattle.tables.specs.Replies.{Reply}
use Rattle.std.specs.Prelude.{Ok, Err}
use Rattle.tables.specs.Places.{rule_at, find_place}
use Rattle.tables.specs.Tables.{table_size, empty_table, empty_reply, serves, has_rule, rule_reply, put_reply, put_halved, put_rule, clear_reply, cleared}
use Rattle.tables.specs.Meaning.{Satisfies}
use Rattle.rules.proofs.Refusals.{refusal-number}
use Rattle.tables.specs.Promises.{empty_needs, Emptied, put_needs, Put, clear_needs, Cleared, AtPlace, Placed}
use Rattle.tables.proofs.Tests.{clash}
use Rattle.tables.proofs.Sizes.{serves_tells}
use Rattle.tables.proofs.Refusing.{tied_decided}
use Rattle.tables.proofs.Needed.{empty_tied, put_tied, clear_tied}
use Rattle.tables.proofs.Places.{rule_at_bound, rule_at_found, rule_at_has_place, found_in_order, found_inside, found_nowhere}
use Rattle.tables.proofs.Putting.{accepted_put}
use Rattle.tables.proofs.Without.{cleared_meaning}

-- ---- emptied

pub emptied_refused : (n : ℕ) (t : List ℤ) → serves n (length t) ≡ false → Emptied n t (Err Size) t
emptied_refused n t e = record {
  reply = rw e;
  decided = tied_decided (empty_needs n (length t)) (Err Size) (empty_reply n (length t)) (rw e) (empty_tied n (length t));
  table = refl;
  meaning = λ d. absurd (refusal-number Size d);
}

-- the empty table in front asks nothing, whatever follows it
no-rules : (n : ℕ) (v : List ℤ) (σ : Assignment) → Satisfies n (empty_table n ++ v) σ
no-rules n v σ = record { each = λ k p. clash {b = has_rule no_rule} (rw (word k p.inside) at p.rule) refl }
  where
    word : (k : ℕ) → k < block_start n → word_at (empty_table n ++ v) k ≡ no_rule
    word k h =
        get_or-append (empty_table n) v (pos 0) k (rw (length-replicate (block_start n) no_rule) h)
        ∙ get_or-replicate (block_start n) k no_rule (pos 0) h

pub emptied_done : (n : ℕ) (t u : List ℤ) → serves n (length t) ≡ true → u ≡ change (table_size n) (fill_from 0 no_rule) t → Emptied n t (Ok tt) u
emptied_done n t u e f = record {
  reply = rw e;
  decided = tied_decided (empty_needs n (length t)) (Ok tt) (empty_reply n (length t)) (rw e) (empty_tied n (length t));
  table = filled;
  meaning = λ d σ. rw filled (no-rules n (drop (block_start n) t) σ);
}
  where
    filled : u ≡ empty_table n ++ drop (block_start n) t
    filled =
        let s = serves_tells n (length t) e in
        f ∙ ap (λ (m : ℕ). change m (fill_from 0 no_rule) t) s.size ∙ fill_front (block_start n) no_rule t s.room

-- ---- a rule put in

-- not done, the table is as it was
put_kept : (n : ℕ) (q : Rule) (t : List ℤ) (r : Reply) (f : Refusal) → r ≡ put_reply n (length t) q → r ≡ Err f → Put n q t r t
put_kept n q t r f e d = record {
  reply = e;
  decided = tied_decided (put_needs n (length t) q) r (put_reply n (length t) q) e (put_tied n (length t) q);
  table = rw d;
  meaning = λ g. absurd (refusal-number f (rw d at g));
}

pub put_refused_size : (n : ℕ) (r : Rule) (t : List ℤ) → serves n (length t) ≡ false → Put n r t (Err Size) t
unfolding put_reply
put_refused_size n r t e = put_kept n r t (Err Size) Size (rw e) refl

pub put_refused : (n : ℕ) (r h : Rule) (t : List ℤ) (f : Refusal) → serves n (length t) ≡ true → h ≡ halved_of r → Err f ≡ rule_reply n h → Put n r t (Err f) t
unfolding put_reply
put_refused n r h t f e d q = put_kept n r t (Err f) f (rw (e, ← d, ← q)) refl

pub put_done : (n : ℕ) (r h : Rule) (t u : List ℤ) → serves n (length t) ≡ true → h ≡ halved_of r → Ok tt ≡ rule_reply n h → u ≡ put_halved t h → Put n r t (Ok tt) u
unfolding put_reply put_rule
put_done n r h t u e d q f = record {
  reply = whole;
  decided = tied_decided (put_needs n (length t) r) (Ok tt) (put_reply n (length t) r) whole (put_tied n (length t) r);
  table = placed;
  meaning = λ g σ. rw placed (accepted_put n t r σ (serves_tells n (length t) e).room (sym (rw d at q)));
}
  where
    whole : (Ok tt) ≡ put_reply n (length t) r
    whole = rw (e, ← d, ← q)

    placed : u ≡ put_rule t r
    placed = rw (f, d)

-- ---- a quantity's places cleared

cleared_kept : (n q : ℕ) (t : List ℤ) (f : Refusal) → Err f ≡ clear_reply n (length t) q → Cleared n q t (Err f) t
cleared_kept n q t f e = record {
  reply = e;
  decided = tied_decided (clear_needs n (length t) q) (Err f) (clear_reply n (length t) q) e (clear_tied n (length t) q);
  table = refl;
  meaning = λ d. absurd (refusal-number f d);
}

pub cleared_refused_size : (n q : ℕ) (t : List ℤ) → serves n (length t) ≡ false → Cleared n q t (Err Size) t
unfolding clear_reply
cleared_refused_size n q t e = cleared_kept n q t Size (rw e)

pub cleared_refused_limit : (n q : ℕ) (t : List ℤ) → serves n (length t) ≡ true → (q < 1) ⊎ ((1 ≤ q) × (n < q)) → Cleared n q t (Err (OutOfLimit 0)) t
unfolding clear_reply
cleared_refused_limit n q t e (inl h) = cleared_kept n q t (OutOfLimit 0) (rw (e, lt-leb 1 q h))
cleared_refused_limit n q t e (inr h) = cleared_kept n q t (OutOfLimit 0) (rw (e, le-leb 1 q h.0, lt-leb q n h.1))

pub cleared_done : (n q : ℕ) (t u : List ℤ) → serves n (length t) ≡ true → 1 ≤ q → q ≤ n → u ≡ cleared n q t → Cleared n q t (Ok tt) u
unfolding clear_reply
cleared_done n q t u e l h d = record {
  reply = whole;
  decided = tied_decided (clear_needs n (length t) q) (Ok tt) (clear_reply n (length t) q) whole (clear_tied n (length t) q);
  table = d;
  meaning = λ g σ. rw d (cleared_meaning n q t σ (serves_tells n (length t) e).room);
}
  where
    whole : (Ok tt) ≡ clear_reply n (length t) q
    whole = rw (e, le-leb 1 q l, le-leb q n h)

-- ---- the rule of a place

rule_at_lower : (k : ℕ) (c : ℤ) (x y : ℕ) (b : ℤ) → rule_at k c ≡ Two x y b → x / 2 < y / 2
unfolding rule_at
rule_at_lower k c x y b e = go (is_one k) refl e
  where
    go : (o : Bool) → is_one k ≡ o → cond o (One (higher_at k) c) (Two (lower_at k) (higher_at k) c) ≡ Two x y b → x / 2 < y / 2
    go true o f = let z : ◌≡◌ {A = ℕ} 0 1 = cc in absurd (omega arith)
    go false o f = let p : lower_at k ≡ x = cc in let q : higher_at k ≡ y = cc in rw (p, q) at (at_lower k o)

pub at_place : (k : ℕ) (c : ℤ) (r : Rule) → r ≡ rule_at k c → AtPlace k c r
at_place k c r e = record {
  reply = e;
  bound = rw e (rule_at_bound k c);
  place = rw e (rule_at_found k c);
  inside = λ n h. rw e (rule_at_has_place n k c h);
  lower_first = λ x y b f. rule_at_lower k c x y b (sym e ∙ f);
}

-- as it is found from the block of its place: that block starts at the place or before it, and no sooner than twice its number
pub starts : (k b : ℕ) → b ≡ block_of k → (2 * b ≤ 2 * (b * b)) × (2 * (b * b) ≤ k)
unfolding block_start
starts k b e = (block_start_above b, rw e (block_starts k))

pub at_place_of_one : (k b : ℕ) (c d : ℤ) → b ≡ block_of k → k - 2 * (b * b) < 2 → d ≡ c → AtPlace k c (One (2 * b + (k - 2 * (b * b)) % 2) d)
unfolding rule_at is_one higher_at offset_of block_start
at_place_of_one k b c d e l f = at_place k c _ (rw (f, ← e, lt-ltb (k - 2 * (b * b)) 2 l))

pub at_place_of_two : (k b : ℕ) (c d : ℤ) → b ≡ block_of k → 2 ≤ k - 2 * (b * b) → d ≡ c
    → AtPlace k c (Two ((k - 2 * (b * b) - 2) / 2) (2 * b + (k - 2 * (b * b)) % 2) d)
unfolding rule_at is_one higher_at lower_at offset_of block_start
at_place_of_two k b c d e l f = at_place k c _ (rw (f, ← e, le-ltb (k - 2 * (b * b)) 2 l))

-- ---- the place of a rule

pub placed : (rule : Rule) (r : Option ℕ) → r ≡ find_place rule → Placed rule r
placed rule r e = record {
  reply = e;
  nowhere = rw e (found_nowhere rule);
  inside = λ k f. found_inside rule k (sym e ∙ f);
  back = λ k f. found_in_order rule k (sym e ∙ f);
}
