-- What the table's lines are is the text of the entries.
use Rattle.std.proofs.Common.{◌≡◌, ◌∙◌, List, ℕ, ap, sym}
use Rattle.std.specs.List.{flat_map}
use Rattle.std.proofs.lemmas.List.Folds.{flat_map-map}
use Rattle.j39_io.proofs.PutsLemmas.{puts_as}
use Rattle.j39_groups.specs.Lines.{in_group, reading_line}
use Rattle.j39_groups.specs.Readings.{readings_in}
use Rattle.j39_groups.specs.Row.{RowRecord}
use Rattle.j39_listen.specs.Heard.{Hearing}
use Rattle.j39_listen.specs.HeardModel.{hearing_of}
use Rattle.j39_listen.specs.Report.{entries_of, entry_of, entry_text, hearing_sender}
use Rattle.j39_listen.proofs.report_lines.PenEntryForm.put_heard.Goals as goal

lines_are : (groups : List RowRecord) (h : Hearing) (sender : List ℕ) → sender ≡ hearing_sender h
    → flat_map (reading_line (in_group sender h.message.pgn)) (readings_in groups h.message.pgn h.message.bytes) ≡ flat_map entry_text (entries_of groups h)
unfolding entry_text
lines_are groups h sender is =
    ap (λ x. flat_map (reading_line (in_group x h.message.pgn)) (readings_in groups h.message.pgn h.message.bytes)) is
    ∙ sym (flat_map-map entry_text (entry_of h) (readings_in groups h.message.pgn h.message.bytes))

pub returns-in-Ok-clause-puts : goal.returns-in-Ok-clause-puts
returns-in-Ok-clause-puts g c =
    puts_as _ _ _ _ (lines_are c.args.self.now.groups.now (hearing_of c.args.heard.now) _ c.put_head.ensures) c.in-Ok.ensures.puts

pub returns-in-Err-clause-puts : goal.returns-in-Err-clause-puts
returns-in-Err-clause-puts g c =
    puts_as _ _ _ _ (lines_are c.args.self.now.groups.now (hearing_of c.args.heard.now) _ c.put_head.ensures) c.in-Err.ensures.puts
