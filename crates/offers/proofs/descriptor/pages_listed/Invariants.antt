-- The first i bases are bases, and their pages are listed.
use Rattle.std.proofs.Common.{replicate, true, ◌≡◌}
use Rattle.model.specs.Constants.{PLACES}
use Rattle.model.specs.Rights.{page_of}
use Rattle.model.specs.Sending.{is_base}
use Rattle.model.specs.State.{page}
use Rattle.model.specs.Tests.{every, set_each}
use Rattle.offers.specs.Descriptor.{base_in}
use Rattle.offers.proofs.descriptor.pages_listed.Given as goal

abbrev pub invariant-loop-i : goal.invariant-loop-i
invariant-loop-i l = record {
  based : every l.i (λ k. is_base l.m (base_in l.tx k)) ≡ true;
  listed : l.pages ≡ set_each l.i (λ k. k) (λ k. page_of (base_in l.tx k)) (replicate PLACES (page 0));
}
