-- `sound::records::due_records` meets its contract: what is laid out is due at each page.
use Rattle.sound.proofs.Asked.{mailboxes_fit, pages_fit, parties_fit}
use Rattle.sound.proofs.Dues.{laid_due}
use Rattle.sound.proofs.records.due_records.Goals as goal

pub held_rows-held-requires : goal.held_rows-held-requires
held_rows-held-requires c =
    let usable = c.requires in
    let parties = parties_fit _ _ usable.parties_below usable.eight_guests in
    let pages = pages_fit _ _ usable.pages_below usable.sixty_four_pages in
    (usable.page_counts_in_range, parties, pages)

pub box_rows-requires : goal.box_rows-requires
box_rows-requires c =
    let usable = c.requires in
    (usable.eight_guests, mailboxes_fit _ _ _ usable.mailboxes_below usable.sixty_four_pages)

pub returns : goal.returns
returns c =
    rw (c.box_rows.ensures, c.held_rows-held.ensures.rows, c.free_rows-free.ensures.rows)
    (laid_due _ _ _ _ _ c.requires c.free_rows-free.ensures.places c.held_rows-held.ensures.places)
