-- `bare::is_any_bare_below` meets its contract: each quantity asked is listed, so that the rows have its bounds. Assumes nothing.
use mathlib.Core.Path.{◌≡◌, ◌∙◌}
use Prim.Native.Nat.{◌+◌, ◌*◌, ◌<◌}
use native.Mathlib.Omega.{arith}
use lib.ListN.{length, get_or}
use Rattle.std.proofs.Common.{rules, tests}
use Rattle.std.proofs.lemmas.List.{get_or_default}
use Rattle.std.proofs.lemmas.Iterator.{YieldsList-from_slice}
use Rattle.std.proofs.lemmas.Iterator.Adapters.{serves_from_places}
use Rattle.std.proofs.lemmas.Iterator.Search.{any_from_yields_List}
use Rattle.words.specs.Change.{word_at}
use Rattle.elimination.specs.Inner.{FourAddable, bounds_at}
use Rattle.elimination.proofs.Rows.{quantity_adds}
use Rattle.elimination.proofs.BareSums.{bare_of, any_listed}
use Rattle.elimination.proofs.bare.is_any_bare_below.Goals as goal

pub any-requires-clause-callable : goal.any-requires-clause-callable
any-requires-clause-callable c = serves_from_places (YieldsList-from_slice c.args.live.now cc) (λ x q r. search (rules, tests))
    (λ x k l e.
    let live = c.args.live.now in
    let same : x.now ≡ get_or live k 0 = e ∙ get_or_default live k x.now 0 l in
    let below : get_or live k 0 < c.args.n = c.requires.0.below k l in
    let plus_room : 2 * x.now + 1 < length c.args.plus.now = omega (arith, c.requires.1.room) in
    let minus_room : 2 * x.now + 1 < length c.args.minus.now = omega (arith, c.requires.2.room) in
    let adds : FourAddable (bounds_at (word_at c.args.plus.now) (word_at c.args.minus.now) x.now) = rw same (quantity_adds c.args.n live _ _ k c.requires.1 c.requires.2 l below) in
    search rules)

pub returns : goal.returns
returns c =
    let live = c.args.live.now in
    any_from_yields_List (bare_of (word_at c.args.plus.now) (word_at c.args.minus.now)) _ _ c.any.result c.any.ensures.ran (YieldsList-from_slice live cc)
    (λ x b q k. search (rules, tests))
    ∙ any_listed live (word_at c.args.plus.now) (word_at c.args.minus.now) c.args.n c.requires.0.below
