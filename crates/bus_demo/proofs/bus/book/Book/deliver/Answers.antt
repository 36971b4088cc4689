-- What is received changes no message that was handed in.
use Rattle.std.proofs.Common.{slice_get, subst, sym}
use Rattle.j39_frame.specs.Stamp.{stamp_micros}
use Rattle.bus_demo.specs.Delivered.{IsWholeAt}
use Rattle.bus_demo.specs.declared.bus.book.Book.{Book}
use Rattle.bus_demo.proofs.bus.book.Book.deliver.Goals as goal

pub returns-clause-whole : goal.returns-clause-whole
returns-clause-whole c = λ number handed last there is_open.
    subst (λ (book : Book). IsWholeAt (stamp_micros c.args.message.now.stamp) handed (slice_get book.handed.items number))
    (sym c.receive.ensures.rest) (c.note_whole.ensures.whole number handed last there is_open)
