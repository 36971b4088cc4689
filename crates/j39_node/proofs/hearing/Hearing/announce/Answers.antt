use Rattle.j39_node.proofs.Common.{◌∙◌, ap, map}
use Rattle.j39_node.specs.Boxes.{in_box}
use Rattle.j39_node.specs.Is.{senders_of}
use Rattle.j39_node.proofs.ListenLemmas.{no_sender, none_made}
use Rattle.j39_node.proofs.hearing.Hearing.announce.Goals as goal

pub returns-else-is_ignored-clause-senders : goal.returns-else-is_ignored-clause-senders
returns-else-is_ignored-clause-senders c =
    c.settle-none.ensures.senders
    ∙ (no_sender _ _ _ (c.settle-none.ensures.made ∙ none_made _ c.args.frame.now c.requires.announces c.begin.ensures)
    ∙ (ap senders_of c.miss.ensures ∙ ap (λ v. map (λ b. (in_box b).name) v.items) c.take_out.ensures.stays.0))

pub returns-in-Some-pop-clause-senders : goal.returns-in-Some-pop-clause-senders
returns-in-Some-pop-clause-senders c =
    c.settle-none-in-Some-pop.ensures.senders
    ∙ (no_sender _ _ _ (c.settle-none-in-Some-pop.ensures.made ∙ none_made _ c.args.frame.now c.requires.announces c.begin-in-Some-pop.ensures)
    ∙ ap (λ v. map (λ b. (in_box b).name) v.items) c.take_out.ensures.stays.0)
