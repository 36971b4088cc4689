-- One message is the last one.
use Rattle.std.proofs.Common.{◌∙◌, List, ap, rules, slice_get, subst, sym}
use Rattle.j39_transport.specs.ReceiverModel.{message_shown}
use Rattle.bus_demo.specs.Delivered.{IsLastOf, IsNoneOf}
use Rattle.bus_demo.specs.declared.bus.book.Handed.{Handed}
use Rattle.bus_demo.proofs.BookLemmas.{none_last, one_last}
use Rattle.bus_demo.proofs.bus.book.Book.note_whole.Goals as goal

pub returns-in-Some-clause-whole : goal.returns-in-Some-clause-whole
returns-in-Some-clause-whole c = λ number handed last there is_open.
    let all = c.args.self.now.handed.items in
    let found = subst (λ (xs : List Handed). IsLastOf (message_shown c.args.delivered.now) xs c.in-Some.number) c.as_slice.ensures.value c.in-Some.ensures.last in
    let is = one_last (message_shown c.args.delivered.now) all number c.in-Some.number last found in
    (_, search rules, ap (slice_get c.settle.new.self.handed.items) is ∙ c.settle.ensures.open handed (ap (slice_get all) (sym is) ∙ there) is_open)

pub returns-in-None-clause-whole : goal.returns-in-None-clause-whole
returns-in-None-clause-whole c = λ number handed last there is_open.
    let none = subst (λ (xs : List Handed). IsNoneOf (message_shown c.args.delivered.now) xs 0) c.as_slice.ensures.value (c.last_of.ensures.none c.in-None.is) in
    absurd (none_last (message_shown c.args.delivered.now) c.args.self.now.handed.items number none last)
