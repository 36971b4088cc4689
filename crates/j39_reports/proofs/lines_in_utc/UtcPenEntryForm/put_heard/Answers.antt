-- What the table's lines are is the text of the entries.
use Rattle.j39_reports.proofs.Common.{◌≡◌, ◌∙◌, List, ℕ, ap, sym, flat_map, flat_map-map, puts_as, readings_in, RowRecord, Hearing, hearing_of, entries_of, entry_of}
use Rattle.j39_groups.specs.Lines.{in_group, reading_line}
use Rattle.j39_reports.specs.EntryInUtc.{entry_in_utc, sender_in_utc}
use Rattle.j39_reports.proofs.lines_in_utc.UtcPenEntryForm.put_heard.Goals as goal

lines_are : (groups : List RowRecord) (h : Hearing) (sender : List ℕ) → sender ≡ sender_in_utc h.stamp h.message.source h.name
    → flat_map (reading_line (in_group sender h.message.pgn)) (readings_in groups h.message.pgn h.message.bytes) ≡ flat_map entry_in_utc (entries_of groups h)
unfolding entry_in_utc
lines_are groups h sender is =
    ap (λ x. flat_map (reading_line (in_group x h.message.pgn)) (readings_in groups h.message.pgn h.message.bytes)) is
    ∙ sym (flat_map-map entry_in_utc (entry_of h) (readings_in groups h.message.pgn h.message.bytes))

pub returns-in-Ok-clause-puts : goal.returns-in-Ok-clause-puts
returns-in-Ok-clause-puts g c =
    puts_as _ _ _ _ (lines_are c.args.self.now.groups.now (hearing_of c.args.heard.now) _ c.head_before-from.ensures.head) c.in-Ok.ensures.puts

pub returns-in-Err-clause-puts : goal.returns-in-Err-clause-puts
returns-in-Err-clause-puts g c =
    puts_as _ _ _ _ (lines_are c.args.self.now.groups.now (hearing_of c.args.heard.now) _ c.head_before-from.ensures.head) c.in-Err.ensures.puts
