use Rattle.std.proofs.Common.{◌++◌, ◌≡◌, ◌∷◌, [], List, true}
use Rattle.j39_frame.specs.Frame.{FrameRecord}
use Rattle.j39_listen.specs.Chooses.{Chooses}
use Rattle.j39_listen.specs.Filter.{FilterRecord}
use Rattle.j39_listen.proofs.chooser.Chooser.is_begun.Goals as goal

pub returns : goal.returns
returns c = go
  where
    go : c.args.self.now.is_begun ≡ true → (which : FilterRecord) → (F : List FrameRecord) (frame : FrameRecord) → Chooses which c.args.self.now F → Chooses which c.args.self.now (F ++ frame ∷ [])
    go begun which [] frame chosen = absurd (cc (chosen.begun_is, begun))
    go begun which (f ∷ F) frame chosen = record { filter_is = chosen.filter_is; lists_are = chosen.lists_are; begun_is = chosen.begun_is; since_is = chosen.since_is; until_is = chosen.until_is }
