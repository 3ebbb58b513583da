use Rattle.model.proofs.Links.{if_owned_link, ltb_link}
use Rattle.parts.proofs.free_row.Goals as goal

pub owned_row-requires : goal.owned_row-requires
owned_row-requires c = (if_owned_link (λ g. ltb_link {a = g.0})).holds c.requires _ c.in-Some.is
