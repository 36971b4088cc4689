use Rattle.j39_transfers.proofs.Common.{◌∙◌, ap, has_some, pgn_raw, rest_by}
use Rattle.j39_transfers.specs.Transfers.{is_of}
use Rattle.j39_transfers.proofs.BoxLemmas.{any_placed}
use Rattle.j39_transfers.proofs.transfers.Transfers.is_resting.Goals as goal

pub returns : goal.returns
returns c = c.is_some.ensures ∙ (ap has_some c.rest_of.ensures.place ∙ any_placed rest_by (is_of c.args.to (pgn_raw c.args.group)) c.args.self.now.resting.items)
