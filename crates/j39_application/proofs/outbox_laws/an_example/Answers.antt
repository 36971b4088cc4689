use Rattle.std.proofs.Common.{[], arith, refl}
use Rattle.j39_application.specs.Outbox.Does.{waits}
use Rattle.j39_application.specs.OutboxCourse.{alone}
use Rattle.j39_application.proofs.outbox_laws.an_example.Goals as goal

pub returns-clause-turns : goal.returns-clause-turns
returns-clause-turns c = (
  (alone, [], record { each = refl; does = (waits (λ a l h. h) (omega arith), refl, tt); all = λ e. refl }),
  tt,
)

pub returns-clause-kept : goal.returns-clause-kept
returns-clause-kept c = (refl, (0, omega arith, refl))
