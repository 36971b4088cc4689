-- The column as the form has it, or nothing.
use Rattle.j39_io.proofs.PutsLemmas.{puts_nothing}
use Rattle.j39_rows.proofs.row.put_column.Goals as goal

pub returns-in-Line-All : goal.returns-in-Line-All
returns-in-Line-All g c = rw (c.in-Line-All.is-0, c.in-Line-All.is-1) c.put_in_line.ensures

pub returns-in-Line-InLines : goal.returns-in-Line-InLines
returns-in-Line-InLines g c = rw (c.in-Line-InLines.is-0, c.in-Line-InLines.is-1) c.put_in_line-in-Line-InLines.ensures

pub returns-in-Line-BesideLines : goal.returns-in-Line-BesideLines
returns-in-Line-BesideLines g c = rw (c.in-Line-BesideLines.is-0, c.in-Line-BesideLines.is-1) (puts_nothing _ _)

pub returns-in-Record-All : goal.returns-in-Record-All
returns-in-Record-All g c = rw (c.in-Record-All.is-0, c.in-Record-All.is-1) c.put_field.ensures

pub returns-in-Record-InLines : goal.returns-in-Record-InLines
returns-in-Record-InLines g c = rw (c.in-Record-InLines.is-0, c.in-Record-InLines.is-1) (puts_nothing _ _)

pub returns-in-Record-BesideLines : goal.returns-in-Record-BesideLines
returns-in-Record-BesideLines g c = rw (c.in-Record-BesideLines.is-0, c.in-Record-BesideLines.is-1) c.put_field-in-Record-BesideLines.ensures

pub returns-in-Object-InLines : goal.returns-in-Object-InLines
returns-in-Object-InLines g c = rw (c.in-Object-InLines.is-0, c.in-Object-InLines.is-1) (puts_nothing _ _)
