-- The calendar's day of this date has its number.
use Rattle.j39_cli.proofs.DayLemmas.{of_calendar}
use Rattle.j39_cli.proofs.utc.day_of.Goals as goal

pub returns-clause-calendar : goal.returns-clause-calendar
returns-clause-calendar c = of_calendar _ c.counted.result c.counted.ensures.value
