-- The text is the line's front and a parenthesis, and so the stamp is that of the line's frame.
use Rattle.std.proofs.Common.{[], ◌++◌, ◌∷◌, ◌≡◌, ◌∙◌, arith, inl, refl}
use Rattle.j39_log.proofs.StampLaneLemmas.{stamp_read, stamp_written}
use Rattle.j39_log.proofs.TextLemmas.{one_stamp}
use Rattle.j39_log.proofs.fast.frame_line.FrameLine.stamp_text.Goals as goal

pub invariant_of-result : goal.invariant_of-result
invariant_of-result c =
    let begins = c.requires in
    let starts : c.bytes_before.result ≡ 0 = omega (arith, c.bytes_before.ensures.starts) in
    record {
      spelled = (rw starts at c.bytes_before.ensures.written.written)
          ∙ stamp_written c.args.self.now.front.now c.args.self.now.second c.decimals.result begins.second (c.decimals.ensures.value _ begins.second begins.decimals);
    }

pub returns : goal.returns
returns c =
    let begins = c.requires in
    let front = c.args.self.now.front.now in
    record {
      stamp = λ frame is. one_stamp (front ++ (41 ∷ [])) _ frame.stamp
          (stamp_read front [] _ _ begins.second (c.decimals.ensures.value _ begins.second begins.decimals) tt (inl refl))
          (is.stamp_is begins [] tt (inl refl));
    }
