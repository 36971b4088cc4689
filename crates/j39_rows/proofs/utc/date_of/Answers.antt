-- The date has the parts of the day.
use Rattle.std.proofs.Common.{◌≡◌, ◌∙◌, pos, w64, arith}
use Rattle.std.proofs.lemmas.Int.{to_z_pos}
use Rattle.jiff_core.specs.Date.{epoch_day}
use Rattle.j39_rows.proofs.CalendarLemmas.{parts_are}
use Rattle.j39_rows.proofs.utc.date_of.Goals as goal

day_is : (c : goal.After-unwrap) → epoch_day c.unwrap.result ≡ pos c.args.day
day_is c =
    let few = c.requires in
    let value = rw c.unwrap.ensures at c.from_unix_epoch_day.ensures.value in
    value ∙ to_z_pos w64 c.args.day (omega (arith, few))

pub returns-clause-year : goal.returns-clause-year
returns-clause-year c = (parts_are c.args.day c.unwrap.result c.requires (day_is c)).0

pub returns-clause-month : goal.returns-clause-month
returns-clause-month c = (parts_are c.args.day c.unwrap.result c.requires (day_is c)).1

pub returns-clause-day : goal.returns-clause-day
returns-clause-day c = (parts_are c.args.day c.unwrap.result c.requires (day_is c)).2
