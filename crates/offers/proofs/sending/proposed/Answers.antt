-- `offers::sending::proposed`: at each way out, the test that fails there is the first one of the verdict that does.
use Rattle.std.proofs.Common.{ap, arith, rules, sym, ◌≡◌, ◌∙◌, Option, None, Some, Err, is_ok}
use Rattle.std.specs.Option.{ok_or}
use Rattle.std.proofs.lemmas.Bool.{false≢true}
use Rattle.isa.specs.Tests.{◌and◌}
use Rattle.parts.specs.Refusal.{code_of, verdict_of}
use Rattle.parts.proofs.Answers.{need_fails, need_passes}
use Rattle.offers.proofs.Offer.{ill_formed, told, tx_inside, tx_long, tx_part, wrong_length}
use Rattle.offers.proofs.sending.proposed.Goals as goal

pub returns-then-not-contains-clause-tests : goal.returns-then-not-contains-clause-tests
unfolding ◌and◌ verdict_of code_of
returns-then-not-contains-clause-tests c = wrong_length _ _ _ c.argument-words.ensures (grind rules)

-- The words of the TX page.

pub slice_bounds-tx-count : goal.slice_bounds-tx-count
slice_bounds-tx-count c = omega (arith, tx_inside _ c.args.mem.now _ c.mailbox_at.ensures c.requires.0 c.requires.1)

pub slice_bounds-tx-start : goal.slice_bounds-tx-start
slice_bounds-tx-start c = omega (arith, tx_inside _ c.args.mem.now _ c.mailbox_at.ensures c.requires.0 c.requires.1)

pub proposal_in-requires : goal.proposal_in-requires
proposal_in-requires c =
    (search rules, search rules, tx_long _ c.args.mem.now _ c.mailbox_at.ensures c.requires.0 c.requires.1)

-- The descriptor.

-- the error of a value that is missing
error_of : {A E : Type 0} (o : Option A) {e f : E} → Err f ≡ ok_or o e → f ≡ e
error_of None q = cc
error_of (Some x) q = absurd (false≢true (ap is_ok q))

pub returns-in_err-proposal-clause-tests : goal.returns-in_err-proposal-clause-tests
unfolding verdict_of code_of
returns-in_err-proposal-clause-tests c =
    let given : c.from_residual.result ≡ Err c.in_err-proposal.field-0.0 = search rules in
    ap verdict_of (given ∙ ap Err (error_of _ c.in_err-proposal.ensures.value))
    ∙ ill_formed _ _ _ c.argument-words.ensures (search rules) (search rules) (tx_part _ c.args.mem.now _ c.mailbox_at.ensures)
    (sym c.proposal_in.ensures.good ∙ sym c.in_err-proposal.ensures.variant)

-- The pages.

pub all_have-requires : goal.all_have-requires
all_have-requires c =
    let t =
    told c.args.kind _ c.args.mem.now c.in_ok-proposal.proposal c.requires.0 c.argument-words.ensures (search rules) (search rules)
    (tx_part _ c.args.mem.now _ c.mailbox_at.ensures) c.owned_row.ensures
    c.proposal_in.ensures.good c.proposal_in.ensures.read c.in_ok-proposal.ensures.ok_part (search rules)
    in
    t.asked

pub returns-then-not-all_have-clause-tests : goal.returns-then-not-all_have-clause-tests
unfolding verdict_of code_of
returns-then-not-all_have-clause-tests c =
    let t =
    told c.args.kind _ c.args.mem.now c.in_ok-proposal.proposal c.requires.0 c.argument-words.ensures (search rules) (search rules)
    (tx_part _ c.args.mem.now _ c.mailbox_at.ensures) c.owned_row.ensures
    c.proposal_in.ensures.good c.proposal_in.ensures.read c.in_ok-proposal.ensures.ok_part (search rules)
    in
    sym (t.verdict ∙ need_fails _ _ (sym c.if-not-all_have.ensures))

-- The handle.

pub returns-then-not-granted-clause-tests : goal.returns-then-not-granted-clause-tests
unfolding verdict_of code_of
returns-then-not-granted-clause-tests c =
    let t =
    told c.args.kind _ c.args.mem.now c.in_ok-proposal.proposal c.requires.0 c.argument-words.ensures (search rules) (search rules)
    (tx_part _ c.args.mem.now _ c.mailbox_at.ensures) c.owned_row.ensures
    c.proposal_in.ensures.good c.proposal_in.ensures.read c.in_ok-proposal.ensures.ok_part (search rules)
    in
    sym (t.verdict ∙ need_passes _ _ (sym c.if-not-all_have.ensures) ∙ need_fails _ _ (sym c.if-not-granted.ensures))

pub returns-clause-sendable : goal.returns-clause-sendable
returns-clause-sendable c =
    let t =
    told c.args.kind _ c.args.mem.now c.in_ok-proposal.proposal c.requires.0 c.argument-words.ensures (search rules) (search rules)
    (tx_part _ c.args.mem.now _ c.mailbox_at.ensures) c.owned_row.ensures
    c.proposal_in.ensures.good c.proposal_in.ensures.read c.in_ok-proposal.ensures.ok_part (search rules)
    in
    t.sendable (sym c.if-not-granted.ensures)

pub returns-clause-tests : goal.returns-clause-tests
unfolding verdict_of
returns-clause-tests c =
    let t =
    told c.args.kind _ c.args.mem.now c.in_ok-proposal.proposal c.requires.0 c.argument-words.ensures (search rules) (search rules)
    (tx_part _ c.args.mem.now _ c.mailbox_at.ensures) c.owned_row.ensures
    c.proposal_in.ensures.good c.proposal_in.ensures.read c.in_ok-proposal.ensures.ok_part (search rules)
    in
    sym (t.verdict ∙ need_passes _ _ (sym c.if-not-all_have.ensures) ∙ need_passes _ _ (sym c.if-not-granted.ensures))

pub returns-clause-sent : goal.returns-clause-sent
returns-clause-sent c =
    let t =
    told c.args.kind _ c.args.mem.now c.in_ok-proposal.proposal c.requires.0 c.argument-words.ensures (search rules) (search rules)
    (tx_part _ c.args.mem.now _ c.mailbox_at.ensures) c.owned_row.ensures
    c.proposal_in.ensures.good c.proposal_in.ensures.read c.in_ok-proposal.ensures.ok_part (search rules)
    in
    t.left
