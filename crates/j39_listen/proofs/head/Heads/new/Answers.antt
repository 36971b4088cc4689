-- Each place has the same sender.
use Rattle.std.proofs.Common.{◌∙◌, ap}
use Rattle.std.proofs.lemmas.List.{get_or-replicate}
use Rattle.j39_listen.specs.declared.head.Sender.{Sender}
use Rattle.j39_listen.proofs.head.Heads.new.Goals as goal

pub returns-clause-addresses : goal.returns-clause-addresses
returns-clause-addresses c place d below = ap (λ (s : Sender). s.address) (get_or-replicate 256 place c.new.result d below) ∙ c.new.ensures.address

pub returns-clause-names : goal.returns-clause-names
returns-clause-names c place d below = ap (λ (s : Sender). s.name) (get_or-replicate 256 place c.new.result d below) ∙ c.new.ensures.name
