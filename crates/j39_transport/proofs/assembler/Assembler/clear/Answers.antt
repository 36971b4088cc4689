use Rattle.std.proofs.Common.{rules, subst, []}
use Rattle.j39_transport.specs.AssemblerStep.{AssemblerRecord}
use Rattle.j39_transport.specs.Stands.{Stands}
use Rattle.j39_transport.proofs.BoxLemmas.{stands_new}
use Rattle.j39_transport.proofs.assembler.Assembler.clear.Goals as goal

pub returns-clause-stands : goal.returns-clause-stands
returns-clause-stands c = subst (λ (a : AssemblerRecord). Stands [] a) (search rules) stands_new
