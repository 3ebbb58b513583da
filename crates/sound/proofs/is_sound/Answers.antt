-- `sound::is_sound` meets its contract: it tests the clauses in the order of `Whole`, and stops where the definition
-- fails.
use Rattle.std.proofs.Common.{sym, true, ◌∙◌, ◌≡◌}
use Rattle.isa.specs.Tests.{◌and◌}
use Rattle.sound.proofs.Whole.{Uses, counts_stop, ranges_stop, rest_decides, usable, uses_stop}
use Rattle.sound.specs.Known.{Counts, Ranges}
use Rattle.sound.proofs.is_sound.Goals as goal

pub returns-then-not-counts_sound : goal.returns-then-not-counts_sound
returns-then-not-counts_sound c =
    counts_stop c.args.machine.now (sym c.counts_sound.ensures ∙ c.if-not-counts_sound.true)

pub invariant_of-counted : goal.invariant_of-counted
invariant_of-counted c = record {
  counts = sym c.counts_sound.ensures ∙ c.if-not-counts_sound.false;
}

pub returns-then-not-in_range : goal.returns-then-not-in_range
returns-then-not-in_range c =
    let m = c.args.machine.now in
    let counted : Counts m ≡ true = sym c.counts_sound.ensures ∙ c.if-not-counts_sound.false in
    ranges_stop m counted (sym c.in_range.ensures ∙ c.if-not-in_range.true)

pub invariant_of-ranged : goal.invariant_of-ranged
invariant_of-ranged c = record {
  counts = sym c.counts_sound.ensures ∙ c.if-not-counts_sound.false;
  ranges = sym c.in_range.ensures ∙ c.if-not-in_range.false;
}

pub returns-then-not-uses_differ : goal.returns-then-not-uses_differ
returns-then-not-uses_differ c =
    let m = c.args.machine.now in
    let counted : Counts m ≡ true = sym c.counts_sound.ensures ∙ c.if-not-counts_sound.false in
    let ranged : Ranges m ≡ true = sym c.in_range.ensures ∙ c.if-not-in_range.false in
    uses_stop m counted ranged (sym c.uses_differ.ensures ∙ c.if-not-uses_differ.true)

pub records_due-requires : goal.records_due-requires
records_due-requires c =
    let m = c.args.machine.now in
    let counted : Counts m ≡ true = sym c.counts_sound.ensures ∙ c.if-not-counts_sound.false in
    let ranged : Ranges m ≡ true = sym c.in_range.ensures ∙ c.if-not-in_range.false in
    let used_once : Uses m ≡ true = sym c.uses_differ.ensures ∙ c.if-not-uses_differ.false in
    usable m counted ranged used_once

pub returns : goal.returns
unfolding ◌and◌
returns c =
    let m = c.args.machine.now in
    let counted : Counts m ≡ true = sym c.counts_sound.ensures ∙ c.if-not-counts_sound.false in
    let ranged : Ranges m ≡ true = sym c.in_range.ensures ∙ c.if-not-in_range.false in
    let used_once : Uses m ≡ true = sym c.uses_differ.ensures ∙ c.if-not-uses_differ.false in
    rw
    (c.messages_sound.ensures, c.deals_sound.ensures, c.records_due.ensures, c.unused_blank.ensures)
    (rest_decides m counted ranged used_once)
