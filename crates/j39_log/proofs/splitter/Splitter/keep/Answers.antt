-- What there is room for, and the mark where that is not all.
use Rattle.std.proofs.Common.{◌∙◌, ◌++◌, ap, arith, length, take, Result, Ok, Err}
use Rattle.std.specs.Prelude.{IsOk, OnOk}
use Rattle.j39_log.specs.declared.splitter.Splitter.{Splitter}
use Rattle.j39_log.proofs.SplitterLemmas.{kept_over, kept_within}
use Rattle.j39_log.proofs.splitter.Splitter.keep.Goals as goal
use Rattle.j39_log.proofs.splitter.Splitter.keep.Goals.{then-bytes-room, else-bytes-room}

on_ok : {T E : Type 0} (r : Result T E) (P : Type 0) → IsOk r → OnOk r P → P
on_ok (Ok x) P i p = p
on_ok (Err e) P i p = cc

pub returns-clause-kept : goal.returns-clause-kept
returns-clause-kept c = λ line k.
    let extend = c.try_extend_from_slice-fits in
    let room = c.remaining_capacity-room.ensures in
    let front = c.split_at.ensures.front ∙ ap (λ n. take n c.args.bytes.now) c.min.ensures in
    elim c.if-bytes-room.branch [
      | then-bytes-room w ↦
          let len = ap (λ (s : Splitter). length s.kept.items) w.self-is in
          let all = on_ok extend.result _ (extend.ensures.variant.1 (omega (arith, c.split_at.ensures.front_len))) extend.ensures.ok in
          rw (ap (λ (s : Splitter). s.has_more) w.self-is)
          (kept_over line c.args.bytes.now _ _ _ _ _ k room front (all ∙ ap (λ (s : Splitter). s.kept.items ++ c.split_at.result.0.now) w.self-is) w.if-bytes-room.true)
      | else-bytes-room w ↦
          let len = ap (λ (s : Splitter). length s.kept.items) w.self-is in
          let all = on_ok extend.result _ (extend.ensures.variant.1 (omega (arith, c.split_at.ensures.front_len))) extend.ensures.ok in
          rw (ap (λ (s : Splitter). s.has_more) w.self-is)
          (kept_within line c.args.bytes.now _ _ _ _ _ k room front (all ∙ ap (λ (s : Splitter). s.kept.items ++ c.split_at.result.0.now) w.self-is) (omega (arith, w.if-bytes-room.false)))
    ]
