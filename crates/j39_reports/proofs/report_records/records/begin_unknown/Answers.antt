-- They stand in the block.
use Rattle.j39_reports.proofs.Common.{option_map, name_raw, pgn_raw, stamp_micros}
use Rattle.j39_reports.proofs.ForwardLemmas.{part_before}
use Rattle.j39_reports.specs.EntryText.{begin_text}
use Rattle.j39_reports.proofs.report_records.records.begin_unknown.Goals as goal

pub returns-clause-head : goal.returns-clause-head
returns-clause-head c =
    let heard = c.args.heard.now in
    part_before _ _ 192 _ (begin_text (stamp_micros heard.message.stamp) heard.message.source heard.destination (option_map name_raw heard.name) (pgn_raw heard.message.pgn)) c.begin_before-begin.ensures
