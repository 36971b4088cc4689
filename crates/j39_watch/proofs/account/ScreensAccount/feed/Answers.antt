-- What is heard is noted, and a screen is written if it is due.
use Rattle.j39_watch.proofs.Common.{◌∙◌, Some, ap, refl, stamp_micros, FrameRecord, Chooses, on_ok_from}
use Rattle.std.proofs.Common.{option_map}
use Rattle.j39_watch.proofs.NoteLemmas.{each_on_ok, written_front}
use Rattle.j39_watch.proofs.WatchLemmas.{Follows, watch_meets, watch_stops}
use Rattle.j39_watch.specs.Watch.{is_due}
use Rattle.j39_watch.specs.declared.account.Screens.{Screens}
use Rattle.j39_watch.proofs.account.ScreensAccount.feed.Goals as goal

pub returns-in-Ok-clause-met : goal.returns-in-Ok-clause-met
returns-in-Ok-clause-met g c = on_ok_from c.draw_if.result _ _ (λ written subject.
    let self = c.args.self.now in
    let after : Screens = record {
      naming = self.naming;
      roles = c.note-2.new.roles;
      size = self.size;
      chooser = c.note.new.self;
      listener = c.note-2.new.listener;
      places = c.note-2.new.places;
      values = c.note-2.new.values;
      messages = c.saturating_add-self.result;
      moment = c.go_on-draws.new.self;
    } in
    let stamp = ap (λ (f : FrameRecord). f.stamp) c.frame.view_is in
    let next : Follows subject.naming subject.groups subject.which subject.size self after c.args.frame.now c.in-Ok.messages = record {
      naming_is = refl;
      table = c.note-2.ensures.table;
      same = refl;
      last = ap (option_map stamp_micros) c.go_on-draws.ensures.last ∙ ap Some stamp;
      sum = c.saturating_add-self.ensures;
      chooses = c.note.ensures;
      notes = c.in-Ok.ensures.noted;
    } in
    watch_meets subject.naming subject.groups subject.which subject.size self after c.args.frame.now c.in-Ok.messages c.go_on-draws.result _ _ next
    (c.go_on-draws.ensures.due ∙ ap (is_due _) stamp) (written subject.which))
    (each_on_ok c.draw_if.result (λ which F. Chooses which c.note.new.self F) _ (λ which F chosen. (c.draw_if.ensures.puts which F chosen).written))

pub returns-in-Ok-clause-stops : goal.returns-in-Ok-clause-stops
returns-in-Ok-clause-stops g c = λ failed subject.
    let self = c.args.self.now in
    let after : Screens = record {
      naming = self.naming;
      roles = c.note-2.new.roles;
      size = self.size;
      chooser = c.note.new.self;
      listener = c.note-2.new.listener;
      places = c.note-2.new.places;
      values = c.note-2.new.values;
      messages = c.saturating_add-self.result;
      moment = c.go_on-draws.new.self;
    } in
    let stamp = ap (λ (f : FrameRecord). f.stamp) c.frame.view_is in
    let next : Follows subject.naming subject.groups subject.which subject.size self after c.args.frame.now c.in-Ok.messages = record {
      naming_is = refl;
      table = c.note-2.ensures.table;
      same = refl;
      last = ap (option_map stamp_micros) c.go_on-draws.ensures.last ∙ ap Some stamp;
      sum = c.saturating_add-self.ensures;
      chooses = c.note.ensures;
      notes = c.in-Ok.ensures.noted;
    } in
    watch_stops subject.naming subject.groups subject.which subject.size self after c.args.frame.now c.in-Ok.messages c.go_on-draws.result c.args.arg2.now _ _ next
    (c.go_on-draws.ensures.due ∙ ap (is_due _) stamp) (λ F chosen. written_front c.draw_if.result _ _ failed (c.draw_if.ensures.puts subject.which F chosen).front)
