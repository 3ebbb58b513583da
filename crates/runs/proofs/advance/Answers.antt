-- `advance`: what is known behind a burst, and where the ways of a call meet, leads to each way out and to the next round.
use Rattle.std.proofs.Common.{arith, length, refl, sym, ◌∙◌}
use Rattle.model.proofs.Sound.{holds_sound, sound_holds}
use Rattle.model.proofs.Typed.{typed_shaped}
use Rattle.model.specs.State.{mailbox_at, own_registers, plus, registers_at, state}
use Rattle.model.specs.Step.{hvc, with_own}
use Rattle.runs.proofs.Ready.{MapsOf, ready_none}
use Rattle.runs.proofs.Rounds.{Met, again, burst_less, bursts, call_made, maps_kept, maps_made, meets, other_calls, other_fits, over, own_kept, stay_calls, stops, to_calls, wake_calls}
use Rattle.runs.proofs.advance.Goals as goal
use Rattle.runs.proofs.advance.Goals.{in-None, in-Other, in-Some, in-Stay, in-To, in-Wake}

pub loop-left-init : goal.loop-left-init
loop-left-init c =
    let m = c.args.machine in (
      record {
        fit = record { shaped = typed_shaped m (_, c.well_formed.0); whole = c.requires.2; sound = sound_holds m c.requires.0 };
        normal = c.requires.1;
        same = refl;
      },
      (ready_none m, refl),
    )

pub returns-then-not-is_called : goal.returns-then-not-is_called
unfolding mailbox_at own_registers registers_at with_own plus
returns-then-not-is_called c =
    let begun = c.loop-left.invariant in
    let own : MapsOf c.loop-left.m.records c.loop-left.m.m c.loop-left.m.mailboxes c.loop-left.m.current.0 c.match-kept-at.maps =
    elim c.match-kept-at.branch [
      | in-Some w ↦ maps_kept begun w.in-Some.is w.maps-is
      | in-None w ↦ maps_made begun w.maps_of-maps.ensures w.maps-is
    ]
    in
    let stopped = bursts begun.0 own c.burst-b.ensures c.loop-left-test.true in
    c.over.ensures _ ∙ stops stopped (sym c.is_called.ensures ∙ c.if-not-is_called.true) c.ends.ensures

pub call-m-requires : goal.call-m-requires
unfolding mailbox_at own_registers registers_at with_own plus
call-m-requires c =
    let begun = c.loop-left.invariant in
    let own : MapsOf c.loop-left.m.records c.loop-left.m.m c.loop-left.m.mailboxes c.loop-left.m.current.0 c.match-kept-at.maps =
    elim c.match-kept-at.branch [
      | in-Some w ↦ maps_kept begun w.in-Some.is w.maps-is
      | in-None w ↦ maps_made begun w.maps_of-maps.ensures w.maps-is
    ]
    in
    let stopped = bursts begun.0 own c.burst-b.ensures c.loop-left-test.true in
    let fit = other_fits stopped c.switched-next.ensures c.in-Other.is in
    (holds_sound _ fit.sound, fit.whole)

pub returns-then-to_call : goal.returns-then-to_call
unfolding mailbox_at own_registers registers_at with_own plus
returns-then-to_call c =
    let begun = c.loop-left.invariant in
    let own : MapsOf c.loop-left.m.records c.loop-left.m.m c.loop-left.m.mailboxes c.loop-left.m.current.0 c.match-kept-at.maps =
    elim c.match-kept-at.branch [
      | in-Some w ↦ maps_kept begun w.in-Some.is w.maps-is
      | in-None w ↦ maps_made begun w.maps_of-maps.ensures w.maps-is
    ]
    in
    let stopped = bursts begun.0 own c.burst-b.ensures c.loop-left-test.true in
    let called = sym c.is_called.ensures ∙ c.if-not-is_called.false in
    let was = c.switched-next.ensures in
    let kept = own_kept begun own in
    let met :
    Met
    (hvc (state (with_own c.loop-left.m c.burst-b.new.file) c.burst-b.new.mem)) (length c.args.mem.now)
    c.match-next.m c.match-next.mem c.match-next.kept =
    elim c.match-next.branch [
      | in-Other w ↦
          meets w.mem-is w.m-is w.kept-is (w.call-m.ensures ∙ other_calls stopped was w.in-Other.is) (omega arith) (ready_none w.call-m.result)
      | in-Stay w ↦ meets w.mem-is w.m-is w.kept-is (stay_calls stopped was w.in-Stay.is) (omega arith) kept
      | in-Wake w ↦
          meets w.mem-is w.m-is w.kept-is (wake_calls stopped was w.in-Wake.is w.tell.ensures) (omega arith) kept
      | in-To w ↦ meets w.mem-is w.m-is w.kept-is (to_calls stopped was w.in-To.is) (omega arith) kept
    ]
    in
    call_made stopped called met.did c.if-to_call.true

pub loop-left-smaller : goal.loop-left-smaller
loop-left-smaller c = burst_less _ _ _ _ c.burst-b.ensures c.loop-left-test.true

pub loop-left-preserved : goal.loop-left-preserved
unfolding mailbox_at own_registers registers_at with_own plus
loop-left-preserved c =
    let begun = c.loop-left.invariant in
    let own : MapsOf c.loop-left.m.records c.loop-left.m.m c.loop-left.m.mailboxes c.loop-left.m.current.0 c.match-kept-at.maps =
    elim c.match-kept-at.branch [
      | in-Some w ↦ maps_kept begun w.in-Some.is w.maps-is
      | in-None w ↦ maps_made begun w.maps_of-maps.ensures w.maps-is
    ]
    in
    let stopped = bursts begun.0 own c.burst-b.ensures c.loop-left-test.true in
    let called = sym c.is_called.ensures ∙ c.if-not-is_called.false in
    let was = c.switched-next.ensures in
    let kept = own_kept begun own in
    let met :
    Met
    (hvc (state (with_own c.loop-left.m c.burst-b.new.file) c.burst-b.new.mem)) (length c.args.mem.now)
    c.match-next.m c.match-next.mem c.match-next.kept =
    elim c.match-next.branch [
      | in-Other w ↦
          meets w.mem-is w.m-is w.kept-is (w.call-m.ensures ∙ other_calls stopped was w.in-Other.is) (omega arith) (ready_none w.call-m.result)
      | in-Stay w ↦ meets w.mem-is w.m-is w.kept-is (stay_calls stopped was w.in-Stay.is) (omega arith) kept
      | in-Wake w ↦
          meets w.mem-is w.m-is w.kept-is (wake_calls stopped was w.in-Wake.is w.tell.ensures) (omega arith) kept
      | in-To w ↦ meets w.mem-is w.m-is w.kept-is (to_calls stopped was w.in-To.is) (omega arith) kept
    ]
    in
    (again stopped called met.did c.if-to_call.false, (met.ready, met.long))

pub returns : goal.returns
returns c = c.over-2.ensures _ ∙ over c.loop-left.invariant.0 c.loop-left-test.false
