-- One frame more is known at each turn, all of them at the end.
use Rattle.std.proofs.Common.{List, [], ◌∷◌, ◌++◌, take, sym, ap, ◌∙◌, subst, arith, take_all}
use Rattle.std.proofs.lemmas.List.{take_more}
use Rattle.j39_frame.specs.Frame.{FrameRecord}
use Rattle.j39_address.specs.Claims.{Knows}
use Rattle.tests.proofs.examples.holder_after.Goals as goal

pub loop-frame-preserved : goal.loop-frame-preserved
loop-frame-preserved c =
    let F : List FrameRecord = c.args.frames.now in
    let i = c.loop-frame.frame-index in
    let one_more = take_more F i c.frame-item.result (omega (arith, c.loop-frame-test.true)) ∙ ap (λ (f : FrameRecord). take i F ++ f ∷ []) (sym c.frame-item.is) in
    subst (Knows c.note.new.self) (sym one_more) (c.note.ensures.knows (take i F) c.loop-frame.invariant)

pub returns : goal.returns
returns c =
    let all = take_all c.loop-frame.frame-index c.args.frames.now (omega (arith, c.loop-frame-test.false)) in
    c.holder.ensures.holder c.args.frames.now (subst (Knows c.loop-frame.claims) all c.loop-frame.invariant)
