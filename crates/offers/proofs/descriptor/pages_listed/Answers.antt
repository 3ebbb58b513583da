-- `offers::descriptor::pages_listed`: a turn of the loop reads one more base; it leaves where that is none.
use Rattle.std.proofs.Common.{sym, ◌∙◌, ap, is_some}
use Rattle.parts.proofs.Loops.{every_more, every_none, every_stops, set_more, set_none}
use Rattle.parts.proofs.Named.{no_page, page_found}
use Rattle.offers.specs.Descriptor.{base_in}
use Rattle.offers.proofs.descriptor.pages_listed.Goals as goal

pub loop-i-init : goal.loop-i-init
loop-i-init c = record { based = every_none _; listed = set_none _ _ _ }

pub returns-in_err-pages-clause-based : goal.returns-in_err-pages-clause-based
unfolding base_in
returns-in_err-pages-clause-based c =
    ap is_some c.from_residual.ensures
    ∙ sym (every_stops _ c.loop-i-test.true (no_page _ _ (sym c.page_at_base.ensures ∙ c.in_err-pages.was)))

pub loop-i-preserved : goal.loop-i-preserved
unfolding base_in
loop-i-preserved c =
    let page = page_found _ _ (sym c.page_at_base.ensures ∙ c.in_ok-pages.was) in
    record {
      based = every_more _ _ c.loop-i.invariant.based page.0;
      listed = rw (← page.1) (set_more _ _ _ _ c.loop-i.invariant.listed);
    }
