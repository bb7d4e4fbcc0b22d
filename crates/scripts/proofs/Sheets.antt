-- The sheet that a fine text writes: its table meets the key call's needs, 'no assignment' is decided by its rules as written, and its plain key is
-- like a key. Assumes nothing.
use mathlib.Core.Path.{◌≡◌, refl}
use mathlib.Core.Bool.{Bool, true, false}
use mathlib.Core.List.{List}
use Prim.Native.Nat.{ℕ, ◌≤◌}
use native.Mathlib.Omega.{arith}
use lib.IntN.{ℤ}
use lib.ListN.{length}
use Rattle.places.specs.Numbering.{block_start}
use Rattle.rules.specs.declared.paper.Paper.{Paper}
use Rattle.rules.specs.declared.paper.Paper.TheVariants.{Sheet}
use Rattle.rules.specs.Hidden.{hidden_in, set_within, is_listed}
use Rattle.rules.specs.Limits.{max_quantities, bound_limit}
use Rattle.rules.specs.Meaning.{Assignment}
use Rattle.rules.proofs.Quantities.{within_range}
use Rattle.tables.specs.Meaning.{TableSized, Satisfiable, KeyLike, BoundsWithin}
use Rattle.tables.proofs.Lists.{table_of_length}
use Rattle.elimination.specs.Hiding.{every}
use Rattle.keys.specs.Keys.{key_of, refuted}
use Rattle.keys.specs.Inner.{Fits}
use Rattle.keys.proofs.Several.{key_visible, refuted_false}
use Rattle.keys.proofs.Fitting.{sheet_fits, hide_ample, key_within, script_limit}
use Rattle.keys.proofs.Deciding.{refuted_exactly}
use Rattle.lines.specs.Spelling.{line_within, written_rules}
use Rattle.lines.proofs.SetMembers.{list_members}
use Rattle.reading.proofs.Limits.{contents-limit}
use Rattle.reading.specs.Texts.{Contents}
use Rattle.reading.specs.Meaning.{FineLines, contents_limit, rules_of}
use Rattle.reading.specs.Promises.{TableHolds}
use Rattle.writing.specs.Writing.{hidden_list}
use Rattle.writing.proofs.HiddenLists.{list_set_within, list_back}
use Rattle.scripts.specs.Meaning.{set_in, table_in}
use Rattle.scripts.proofs.Rules.{rules_held, read_within}

-- what it tells that every line of contents is fine
pub record FineTable (paper : Paper) (c : Contents) : Type 0 where
  pub some : 1 ≤ c.count
  pub most : c.count ≤ max_quantities
  pub range : set_within c.count (set_in c) ≡ true
  pub back : hidden_list c.count (set_in c) ≡ c.hiddens
  pub members : (q : ℕ) → hidden_in (set_in c) q ≡ is_listed q c.hiddens
  pub size : length (table_in c) ≡ block_start c.count
  pub bounds : BoundsWithin paper c.count (set_in c) (table_in c)
  pub held : TableHolds c (table_in c)

pub fine_table : (paper : Paper) (c : Contents) → FineLines (contents_limit paper c) c → FineTable paper c
unfolding line_within
fine_table paper c f =
    let n = within_range max_quantities c.count f.0.within in
    let l = read_within c.count (contents_limit paper c) c.written f.1.1.1 in
    let s = table_of_length c.count (written_rules c.written) in
    record {
      some = n.0;
      most = n.1;
      range = list_set_within c.count c.hiddens f.1.0.formed f.1.0.within;
      back = list_back c.count c.hiddens f.1.0.formed f.1.0.within;
      members = list_members c.count c.hiddens f.1.0.formed f.1.0.within;
      size = s;
      bounds = rw (contents-limit paper (contents_limit paper c) c f) l;
      held = rules_held paper c f;
    }

-- of a sheet
abbrev pub FineSheet : Contents → Type 0
FineSheet c = FineTable Sheet c

-- sums fit in it
pub sheet_ample : (c : Contents) → FineSheet c → Fits c.count (table_in c)
sheet_ample c s = sheet_fits c.count (set_in c) (table_in c) s.most (omega (arith, s.size)) s.bounds

-- ---- the key call's needs

pub table_sized : (paper : Paper) (c : Contents) → FineTable paper c → TableSized c.count (length (table_in c))
table_sized paper c s = record { some = s.some; most = s.most; room = rw s.size (omega arith) }

-- ---- 'no assignment'

-- where no integers meet the rules as written
pub sheet_refuted : (c : Contents) → FineSheet c → ((σ : Assignment) → rules_of c σ → ⊥) → refuted c.count (table_in c) ≡ true
sheet_refuted c s none = (refuted_exactly c.count (table_in c) (sheet_ample c s)).1 (λ σ m. none σ ((s.held.meaning σ).0 m))

-- only there
pub sheet_unmet : (c : Contents) → FineSheet c → refuted c.count (table_in c) ≡ true → (σ : Assignment) → rules_of c σ → ⊥
sheet_unmet c s e σ m = (refuted_exactly c.count (table_in c) (sheet_ample c s)).0 e σ ((s.held.meaning σ).1 m)

-- where it is not refuted, some integers satisfy it
pub sheet_some : (c : Contents) → FineSheet c → refuted c.count (table_in c) ≡ false → Satisfiable c.count (table_in c)
sheet_some c s e =
    let f = sheet_ample c s in
    refuted_false c.count (table_in c) f.sums.room (hide_ample every c.count (table_in c) f) e

-- and it is not where some do
pub sheet_met : (c : Contents) → FineSheet c → (σ : Assignment) → rules_of c σ → refuted c.count (table_in c) ≡ false
sheet_met c s σ m = go (refuted c.count (table_in c)) refl
  where
    go : (b : Bool) → refuted c.count (table_in c) ≡ b → b ≡ false
    go true e = absurd (sheet_unmet c s e σ m)
    go false e = refl

-- ---- the key

abbrev pub key_in : Contents → List ℤ
key_in c = key_of (hidden_in (set_in c)) c.count (table_in c)

-- it is like a key: it names visible quantities alone, and its bounds are in a script's limit
pub key_like : (c : Contents) → FineSheet c → KeyLike c.count (set_in c) (key_in c)
key_like c s = record {
  visible = key_visible (hidden_in (set_in c)) c.count (table_in c) (omega (arith, s.size));
  within = rw (script_limit c.count (set_in c))
      at (key_within (hidden_in (set_in c)) c.count (bound_limit Sheet c.count (set_in c)) (table_in c) (omega (arith, s.size)) s.bounds);
}
