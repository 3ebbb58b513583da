-- What the proofs of the calls share: where a guest's mailbox pages lie in a sound machine's memory.
use Prim.Native.Nat.{ℕ, ◌+◌, ◌*◌, ◌≤◌, ◌<◌}
use mathlib.Core.Path.{◌≡◌}
use mathlib.Core.Bool.{true}
use native.Mathlib.Omega.{arith}
use Rattle.model.specs.declared.VmId.{VmId}
use Rattle.model.specs.declared.Machine.{Machine}
use Rattle.model.specs.declared.Mailbox.{Mailbox}
use Rattle.model.specs.Constants.{PAGE}
use Rattle.model.specs.State.{mailbox_at}
use Rattle.model.specs.Memory.{base_of}
use Rattle.model.specs.Sound.{sound}
use Rattle.model.proofs.Sound.{sound_holds}

-- a guest's mailbox pages are inside memory
pub box_inside :
    (m : Machine) {memory : ℕ} (g : VmId) {box : Mailbox} →
    sound m ≡ true →
    memory ≡ PAGE * m.m →
    g.0 < m.n →
    box ≡ mailbox_at m.mailboxes g →
    (base_of box.tx + PAGE ≤ memory) × (base_of box.rx + PAGE ≤ memory)
unfolding base_of
box_inside m g e whole h read =
    let below = (sound_holds m e).mailboxes_below g.0 h in
    let tx = below.0 in
    let rx = below.1 in
    rw (read, whole) (omega arith, omega arith)
