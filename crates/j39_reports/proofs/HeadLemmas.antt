-- What the readings of a message have in common gives their entries.
use Rattle.j39_reports.proofs.Common.{◌≡◌, ℕ, stamp_micros, ReadingRecord, entry_of}
use Rattle.j39_listen.specs.Heard.{Hearing}
use Rattle.j39_reports.specs.MessageHeads.{IsHeadOf, origin_in}
use Rattle.j39_reports.specs.RowModels.{entry_at}
use Rattle.j39_reports.specs.Summary.{absence_of}
use Rattle.j39_reports.specs.declared.summaries.message_head.MessageHead.{MessageHead}

pub entry_with : (head : MessageHead) (hearing : Hearing) (r : ReadingRecord) → IsHeadOf head hearing
    → entry_at (origin_in head r.spn) (stamp_micros head.stamp) r.value ≡ entry_of hearing r
entry_with head hearing r has = λ i. record {
  stamp = has.stamp_is i;
  address = has.address_is i;
  destination = has.destination_is i;
  name = has.name_is i;
  pgn = has.pgn_is i;
  spn = r.spn;
  value = r.value;
}

pub absence_with : (head : MessageHead) (hearing : Hearing) (spn : ℕ) → IsHeadOf head hearing → origin_in head spn ≡ absence_of hearing spn
absence_with head hearing spn has = λ i. record {
  address = has.address_is i;
  destination = has.destination_is i;
  name = has.name_is i;
  pgn = has.pgn_is i;
  spn = spn;
}
