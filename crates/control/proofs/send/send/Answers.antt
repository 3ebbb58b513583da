-- `control::send::send` meets its contract: what is open is that both pages are inside memory, the caller's and the receiver's.
use Rattle.model.proofs.Sound.{sound_holds}
use Rattle.control.proofs.Control.{box_inside}
use Rattle.control.proofs.send.send.Goals as goal

pub copied-requires : goal.copied-requires
copied-requires c =
    let machine = c.args.machine in
    let within = c.in-Ok.ensures.within in
    let own = (sound_holds machine c.requires.0).current_below in
    let tx = (box_inside machine machine.current c.requires.0 c.requires.1 own c.mailbox_at.ensures).0 in
    let rx = (box_inside machine c.in-Ok.to.0 c.requires.0 c.requires.1 within.0 c.mailbox_at-2.ensures).1 in
    (within.1, tx, rx)
