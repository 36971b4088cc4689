-- The stamp is the second and the decimals.
use Rattle.std.proofs.Common.{◌∙◌, ◌++◌, [], ◌∷◌, ap, map, subst, sym}
use Rattle.std.specs.List.{range_with_len}
use Rattle.j39_log.specs.Lanes.{pair_at}
use Rattle.j39_frame.specs.Frame.{FrameRecord}
use Rattle.j39_log.proofs.StampLaneLemmas.{stamp_read}
use Rattle.j39_log.specs.Text.{IsStampText}
use Rattle.j39_log.proofs.fast.frame_line.FrameLine.frame.Goals as goal

pub returns : goal.returns
returns c =
    let front = c.args.self.now.front.now in
    let is = c.from_parts.ensures in
    let stamp = ap (λ (f : FrameRecord). f.stamp) is ∙ c.in_ok-stamp.ensures.value in
    record {
      stamp_is = λ begins cut digits short. subst (IsStampText (front ++ (cut ++ (41 ∷ [])))) (sym stamp)
          (stamp_read front cut _ _ begins.second (c.decimals.ensures.value _ begins.second begins.decimals) digits short);
      id_is = ap (λ (f : FrameRecord). f.id) is;
      bytes_are = ap (λ (f : FrameRecord). f.bytes) is ∙ c.from_array_in-bytes.ensures.items ∙ c.pairs.ensures ∙ ap (λ v. map (pair_at 16 v) (range_with_len 0 8)) c.args.self.now.read;
    }
