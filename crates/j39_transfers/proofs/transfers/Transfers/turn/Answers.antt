use Rattle.j39_transfers.proofs.Common.{◌∙◌, ap, goes, in_box, Option, position, stamp_micros, sym, ℕ}
use Rattle.j39_transfers.proofs.BoxLemmas.{none_goes}
use Rattle.j39_transfers.proofs.transfers.Transfers.turn.Goals as goal

pub returns-in_err-urgency : goal.returns-in_err-urgency
returns-in_err-urgency c =
    let now = stamp_micros c.args.now in
    let items = c.args.self.now.current.items in
    c.from_residual.ensures ∙ (sym (none_goes in_box now items) ∙ ap (λ (u : Option ℕ). position (λ b. goes now u (in_box b)) items) (c.in_err-urgency.ensures))
