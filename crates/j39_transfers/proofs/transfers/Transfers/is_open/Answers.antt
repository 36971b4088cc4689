use Rattle.j39_transfers.proofs.Common.{◌∙◌, ap, has_some, in_box, nat_eq}
use Rattle.j39_transfers.specs.Transfers.{to}
use Rattle.j39_transfers.proofs.BoxLemmas.{any_placed}
use Rattle.j39_transfers.proofs.transfers.Transfers.is_open.Goals as goal

pub returns : goal.returns
returns c = c.is_some.ensures ∙ (ap has_some c.place_of.ensures ∙ any_placed in_box (λ x. nat_eq c.args.destination (to x)) c.args.self.now.current.items)
