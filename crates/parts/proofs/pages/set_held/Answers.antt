-- `parts::pages::set_held` meets its contract: what the loop keeps from turn to turn is what the definition says.
use Rattle.std.proofs.Common.{arith, rules, get_or, ap, ◌<◌, ◌≡◌, ◌∙◌}
use lib.ListN.{set}
use Rattle.model.specs.declared.PageId.{PageId}
use Rattle.model.specs.Constants.{PAGES}
use Rattle.model.specs.State.{page, count_of}
use Rattle.parts.proofs.Loops.{set_more, set_none}
use Rattle.parts.proofs.Held.{held_at, held_reached}
use Rattle.parts.proofs.pages.set_held.Goals as goal

pub loop-page-init : goal.loop-page-init
loop-page-init g c = set_none _ _ _

pub loop-page-preserved : goal.loop-page-preserved
loop-page-preserved g c =
    ap (λ (p : PageId). set c.loop-page.all p.0 c.args.value) (held_at c.args.t.now c.loop-page.page-index c.held-page-items.ensures c.loop-page-test.true)
    ∙ set_more _ _ _ _ c.loop-page.invariant

pub returns : goal.returns
returns g c =
    let whole : c.loop-page.page-index ≡ count_of c.args.t.now = omega arith in
    rw (← whole) c.loop-page.invariant

pub bounds-all-page : goal.bounds-all-page
bounds-all-page g c = held_reached c.args.t.now c.loop-page.page-index c.requires c.held-page-items.ensures c.loop-page-test.true

pub listed : goal.listed
listed g c =
    let here : (get_or c.held-page-items.result.now c.loop-page.page-index (page 0)).0 < PAGES = held_reached c.args.t.now c.loop-page.page-index c.requires c.held-page-items.ensures c.loop-page-test.true in
    omega (arith, c.type_inv.all)

pub offset_bounds-all-page : goal.offset_bounds-all-page
offset_bounds-all-page g c =
    let here : (get_or c.held-page-items.result.now c.loop-page.page-index (page 0)).0 < PAGES = held_reached c.args.t.now c.loop-page.page-index c.requires c.held-page-items.ensures c.loop-page-test.true in
    search rules
