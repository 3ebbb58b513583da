-- `offers::descriptor::proposal_in`: each way out is a test that fails, or all of them.
use Rattle.std.proofs.Common.{ap, refl, sym, ◌≡◌, ◌∙◌, not, true, is_some, rules}
use Rattle.isa.specs.Tests.{◌and◌}
use Rattle.model.specs.State.{same_vm}
use Rattle.parts.proofs.Named.{no_vm, vm_found}
use Rattle.offers.proofs.Offer.{nobody_meant, not_based, tests_left}
use Rattle.offers.specs.Descriptor.{receiver_in}
use Rattle.offers.proofs.descriptor.proposal_in.Goals as goal

pub returns-in_err-receiver-clause-good : goal.returns-in_err-receiver-clause-good
unfolding receiver_in
returns-in_err-receiver-clause-good c =
    ap is_some c.from_residual.ensures
    ∙ sym (nobody_meant _ _ _ _ (no_vm _ _ (sym c.vm_of.ensures ∙ c.in_err-receiver.was)))

pub returns-in_err-pages-clause-good : goal.returns-in_err-pages-clause-good
returns-in_err-pages-clause-good c =
    ap is_some c.from_residual-in_err-pages.ensures ∙ sym (not_based _ _ _ _ (sym c.in_err-pages.ensures.based))

pub returns-then-bases_ascend-clause-good : goal.returns-then-bases_ascend-clause-good
unfolding receiver_in ◌and◌ same_vm
returns-then-bases_ascend-clause-good c =
    let guest = vm_found _ _ (sym c.vm_of.ensures ∙ c.in_ok-receiver.was) in
    let other : not (same_vm c.in_ok-receiver.receiver c.args.machine.now.current) ≡ true = sym c.if-ne.ensures in
    sym
    (tests_left c.args.kind c.args.machine.now c.args.length c.args.tx.now _ guest.0 guest.1 (sym c.in_ok-pages.ensures.based)
    ∙ rw (sym c.if-header_fits.ensures, other, sym c.if-bases_ascend.ensures))

pub returns-then-bases_ascend-clause-read : goal.returns-then-bases_ascend-clause-read
unfolding receiver_in
returns-then-bases_ascend-clause-read c =
    let guest = vm_found _ _ (sym c.vm_of.ensures ∙ c.in_ok-receiver.was) in
    record { receiver = sym guest.1; count = refl; pages = c.in_ok-pages.ensures.listed }

pub returns-else-header_fits-clause-good : goal.returns-else-header_fits-clause-good
unfolding receiver_in ◌and◌ same_vm
returns-else-header_fits-clause-good c =
    let guest = vm_found _ _ (sym c.vm_of.ensures ∙ c.in_ok-receiver.was) in
    let left = tests_left c.args.kind c.args.machine.now c.args.length c.args.tx.now _ guest.0 guest.1 (sym c.in_ok-pages.ensures.based) in
    grind rules
