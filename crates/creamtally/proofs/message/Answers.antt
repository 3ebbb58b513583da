-- `message`: the ways out, and that the words that wait lie inside memory.
use Rattle.std.proofs.Common.{false, rules, true, ◌≡◌}
use Rattle.model.specs.Answer.{is_done}
use Rattle.model.specs.State.{inbox_at, length_of}
use Rattle.creamtally.proofs.Answers.{told_done, told_refused}
use Rattle.creamtally.proofs.Waiting.{begins, begins_first, guest_below, message_of_nobody, message_refused, message_waits, place_of_nobody, refused_place}
use Rattle.creamtally.proofs.message.Goals as goal

pub returns-then-refused : goal.returns-then-refused
returns-then-refused c =
    let refused : is_done c.check.result ≡ false = search (rules, told_refused) in
    (message_refused _ _ _ _ c.check.ensures refused, begins_first _ (refused_place _ _ _ _ c.check.ensures refused))

pub returns-then-g-machine : goal.returns-then-g-machine
returns-then-g-machine c =
    let done : is_done c.check.result ≡ true = search (rules, told_done) in (
      message_of_nobody _ _ _ _ c.check.ensures done c.if-g-machine.true,
      begins_first _ (place_of_nobody _ _ _ _ c.check.ensures done c.if-g-machine.true),
    )

pub bounds-machine-g : goal.bounds-machine-g
bounds-machine-g c =
    guest_below _ _ _ _ c.check.ensures (search (rules, told_done)) c.if-g-machine.false

pub mailbox_at-requires : goal.mailbox_at-requires
mailbox_at-requires c =
    guest_below _ _ _ _ c.check.ensures (search (rules, told_done)) c.if-g-machine.false

pub slice_bounds-result-end-2 : goal.slice_bounds-result-end-2
unfolding inbox_at length_of
slice_bounds-result-end-2 c =
    let words : c.map_or-words.result ≡ length_of (inbox_at c.args.machine.inboxes c.args.g) = search rules in
    let waits =
    message_waits _ _ _ _ c.check.ensures (search (rules, told_done))
    c.if-g-machine.false words c.mailbox_at.ensures
    in
    waits.inside

pub returns : goal.returns
unfolding inbox_at length_of
returns c =
    let words : c.map_or-words.result ≡ length_of (inbox_at c.args.machine.inboxes c.args.g) = search rules in
    let waits =
    message_waits _ _ _ _ c.check.ensures (search (rules, told_done))
    c.if-g-machine.false words c.mailbox_at.ensures
    in
    (waits.part, begins _ waits.place)
