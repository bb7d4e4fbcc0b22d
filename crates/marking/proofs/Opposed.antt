-- Sums fit while two tables are marked, also with bounds as large as a key's: in the sheet with its hidden quantities eliminated, in key and script, and in either with the opposite of a rule of
-- the other put in; and so do the values that show a verdict. Stated for any n and limit B with (B + 1) * 2 ^ n below 2 ^ 62. Assumes nothing.
use mathlib.Core.Path.{◌≡◌, refl, ◌∙◌}
use mathlib.Core.Bool.{true}
use mathlib.Core.List.{List}
use Prim.Native.Nat.{ℕ, suc, ◌+◌, ◌-◌, ◌*◌, ◌≤◌, ◌<◌, ◌^◌}
use native.Mathlib.Nat.{add-mul, mul-le-mul}
use native.Mathlib.Omega.{arith}
use lib.IntN.{ℤ, pos}
use lib.ListN.{length}
use lib.Pow.{pow_mono}
use Rattle.integers.specs.Bound.{Within, opposite_bound}
use Rattle.integers.proofs.Within.{within_opposite}
use Rattle.words.specs.Change.{word_at}
use Rattle.places.specs.Numbering.{block_start}
use Rattle.rules.specs.declared.rule.Rule.{Rule}
use Rattle.rules.specs.declared.paper.Paper.TheVariants.{Sheet}
use Rattle.rules.specs.Hidden.{hidden_in, member_count}
use Rattle.rules.specs.Limits.{max_quantities, bound_limit}
use Rattle.rules.specs.Steps.{opposite_of}
use Rattle.rules.proofs.Meanings.{opposite-bound}
use Rattle.tables.specs.Tables.{has_rule, put_rule}
use Rattle.tables.specs.Meaning.{HoldsRule, rule_in, Satisfies, Breaks, WordsWithin}
use Rattle.tables.proofs.Places.{rule_at_bound, rule_at_has_place}
use Rattle.tables.proofs.Lists.{put_length}
use Rattle.elimination.specs.Magnitude.{Unnamed}
use Rattle.elimination.proofs.Step.{within_rule}
use Rattle.keys.specs.Keys.{key_of}
use Rattle.keys.specs.Inner.{outside, SetFits, Fits, RestFits}
use Rattle.keys.specs.Breaking.{RuleBreakable}
use Rattle.keys.proofs.Fitting.{words_mono, limit_doubled, script_limit, sheet_fits}
use Rattle.keys.proofs.Deciding.{rest_fits}
use Rattle.keys.proofs.Visible.{count_both, visible_unnamed, visible_rest, visible_limit, key_limit, key_fits, key_word, values_small, LikeKey, like_rest}
use Rattle.keys.proofs.Visible.{key_like as like-key}
use Rattle.keys.proofs.Puts.{put_within, put_unnamed, opposite_has_place, opposite_names}
use Rattle.marking.specs.Inner.{TablesAccepted}

-- ---- the opposite of a rule put in

module _ (n set B : ℕ) (rules t : List ℤ) (k : ℕ) (h : (B + 1) * 2 ^ n < 2 ^ 62) (m : n ≤ max_quantities) (r : LikeKey n set B rules) (w : LikeKey n set B t)
    (p : HoldsRule n rules k) where
  -- the opposite of a rule's bound is larger by one at most
  opposite_within : Within (pos (key_limit n set B + 1)) (opposite_bound (word_at rules k))
  opposite_within = within_opposite (r.within.each k p.inside p.there p.rule)

  -- so it is a bound
  opposed_small : has_rule (opposite_bound (word_at rules k)) ≡ true
  opposed_small = within_rule (key_word n set B h) opposite_within

  o : Rule
  o = opposite_of (rule_in rules k)

  -- and sums fit with the opposite put in
  opposed_within : WordsWithin (block_start n) (pos (key_limit n set B + 1)) (put_rule t (opposite_of (rule_in rules k)))
  opposed_within =
      put_within (block_start n) (key_limit n set B + 1) t (opposite_of (rule_in rules k))
      (words_mono (block_start n) (key_limit n set B) (key_limit n set B + 1) t (omega arith) w.within)
      (rw (opposite-bound (rule_in rules k), rule_at_bound k (word_at rules k)) opposite_within)

  opposed_unnamed : (j : ℕ) → hidden_in set (suc j) ≡ true → Unnamed n j (put_rule t (opposite_of (rule_in rules k)))
  opposed_unnamed j g =
      put_unnamed n j t (opposite_of (rule_in rules k)) (opposite_has_place n (rule_in rules k) (rule_at_has_place n k (word_at rules k) p.inside))
      (opposite_names (suc j) (rule_in rules k) ∙ (visible_unnamed (hidden_in set) n j rules r.visible g).each k p)
      (visible_unnamed (hidden_in set) n j t w.visible g)

  opposed_rest : RestFits n set (put_rule t (opposite_of (rule_in rules k)))
  opposed_rest =
      visible_rest n set (key_limit n set B + 1) (put_rule t (opposite_of (rule_in rules k))) m (omega (arith, put_length t (opposite_of (rule_in rules k)), w.room))
      opposed_within opposed_unnamed (key_fits n set B h)

  -- so an assignment that breaks the rule may be asked for
  opposed_breakable : (values : List ℤ) → n ≤ length values → Breaks (Satisfies n t) (rule_in rules k) → RuleBreakable n set t (rule_in rules k) values
  opposed_breakable values l b = record {
    place = k;
    inside = p.inside;
    bound = word_at rules k;
    bounded = p.rule;
    is = refl;
    small = opposed_small;
    room = w.room;
    fits = opposed_rest;
    breaks = b;
    values_room = l;
  }

  -- whose limit is that of the key and one
  opposed_limit : (values : List ℤ) (l : n ≤ length values) (b : Breaks (Satisfies n t) (rule_in rules k)) → (opposed_breakable values l b).fits.sums.limit ≡ key_limit n set B + 1
  unfolding opposed_breakable opposed_rest
  opposed_limit values l b = visible_limit n set (key_limit n set B + 1) (put_rule t (opposite_of (rule_in rules k))) m _ _ _ _

-- ---- tables that are marked

module _ (n set : ℕ) (sheet script : List ℤ) (w v : ℕ) (m : TablesAccepted n set sheet script w v) where
  -- the sheet's limit, and that it is small
  abbrev limit : ℕ
  limit = bound_limit Sheet n set

  abbrev key : List ℤ
  key = key_of (hidden_in set) n sheet

  limit_small : (limit + 1) * 2 ^ n < 2 ^ 62
  limit_small = limit_doubled n set m.sized.most

  -- sums fit in the sheet, whatever is eliminated
  pub sheet_fitting : Fits n sheet
  sheet_fitting = sheet_fits n set sheet m.sized.most m.sized.sheet_room m.limits.sheet_within

  pub sheet_hides : SetFits (hidden_in set) n sheet
  sheet_hides = record {
    most = m.sized.most;
    room = m.sized.sheet_room;
    limit = bound_limit Sheet n set;
    within = m.limits.sheet_within;
    last = let one : limit ≤ limit = omega arith in
        let most : member_count (hidden_in set) n ≤ n = omega (arith, count_both (hidden_in set) n) in
        omega (arith, mul-le-mul one (pow_mono {i = member_count (hidden_in set) n} {j = n} most), limit_small, add-mul limit 1 (2 ^ n));
  }

  -- the key itself is like a key,
  key_like : LikeKey n set limit key
  key_like = like-key n set limit sheet m.sized.sheet_room m.limits.sheet_within

  pub key_room : block_start n ≤ length (key_of (hidden_in set) n sheet)
  key_room = key_like.room

  -- and so is the script, whose bounds may be as large
  script_like : LikeKey n set limit script
  script_like = record {
    room = m.sized.script_room;
    within = rw (script_limit n set) m.limits.script_within;
    visible = m.visible;
  }

  -- so sums fit in both
  pub key_rest : RestFits n set (key_of (hidden_in set) n sheet)
  key_rest = like_rest n set limit key limit_small m.sized.most key_like

  pub script_rest : RestFits n set script
  script_rest = like_rest n set limit script limit_small m.sized.most script_like

  pub key_fitting : Fits n (key_of (hidden_in set) n sheet)
  key_fitting = rest_fits n set key key_rest

  pub script_fitting : Fits n script
  script_fitting = rest_fits n set script script_rest

  -- in the script with the opposite of a key rule,
  pub loose_small : (k : ℕ) → HoldsRule n (key_of (hidden_in set) n sheet) k → has_rule (opposite_bound (word_at (key_of (hidden_in set) n sheet) k)) ≡ true
  loose_small k p = opposed_small n set limit key script k limit_small m.sized.most key_like script_like p

  pub loose_opposed : (k : ℕ) → HoldsRule n (key_of (hidden_in set) n sheet) k
      → Fits n (put_rule script (opposite_of (rule_in (key_of (hidden_in set) n sheet) k)))
  loose_opposed k p = rest_fits n set _ (opposed_rest n set limit key script k limit_small m.sized.most key_like script_like p)

  pub loose_breakable : (k : ℕ) (values : List ℤ) → HoldsRule n (key_of (hidden_in set) n sheet) k → n ≤ length values
      → Breaks (Satisfies n script) (rule_in (key_of (hidden_in set) n sheet) k) → RuleBreakable n set script (rule_in (key_of (hidden_in set) n sheet) k) values
  loose_breakable k values p = opposed_breakable n set limit key script k limit_small m.sized.most key_like script_like p values

  -- and in the key with that of a script rule
  pub tight_small : (k : ℕ) → HoldsRule n script k → has_rule (opposite_bound (word_at script k)) ≡ true
  tight_small k p = opposed_small n set limit script key k limit_small m.sized.most script_like key_like p

  pub tight_opposed : (k : ℕ) → HoldsRule n script k → Fits n (put_rule (key_of (hidden_in set) n sheet) (opposite_of (rule_in script k)))
  tight_opposed k p = rest_fits n set _ (opposed_rest n set limit script key k limit_small m.sized.most script_like key_like p)

  pub tight_breakable : (k : ℕ) (values : List ℤ) → HoldsRule n script k → n ≤ length values
      → Breaks (Satisfies n (key_of (hidden_in set) n sheet)) (rule_in script k) → RuleBreakable n set (key_of (hidden_in set) n sheet) (rule_in script k) values
  tight_breakable k values p = opposed_breakable n set limit script key k limit_small m.sized.most script_like key_like p values

  -- where all values fit
  pub tight_values : (k : ℕ) (values : List ℤ) (p : HoldsRule n script k) (l : n ≤ length values) (b : Breaks (Satisfies n (key_of (hidden_in set) n sheet)) (rule_in script k))
      → ((tight_breakable k values p l b).fits.sums.limit * 2 ^ member_count (outside set) n - (tight_breakable k values p l b).fits.sums.limit)
      + (sheet_hides.limit * 2 ^ member_count (hidden_in set) n - sheet_hides.limit) < 2 ^ 62
  unfolding tight_breakable sheet_hides
  tight_values k values p l b =
      rw (opposed_limit n set limit script key k limit_small m.sized.most script_like key_like p values l b) (values_small n set limit limit_small)
