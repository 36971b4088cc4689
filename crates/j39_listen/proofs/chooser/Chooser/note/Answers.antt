-- Before the first frame there is none.
use Rattle.std.proofs.Common.{◌++◌, ◌∷◌, [], List, ap, sym}
use Rattle.j39_frame.specs.Frame.{FrameRecord}
use Rattle.j39_listen.specs.Chooses.{Chooses}
use Rattle.j39_listen.specs.Filter.{FilterRecord}
use Rattle.j39_listen.proofs.chooser.Chooser.note.Goals as goal

pub returns-then-not-self : goal.returns-then-not-self
returns-then-not-self c = go
  where
    go : (which : FilterRecord) → (F : List FrameRecord) → Chooses which c.args.self.now F → Chooses which c.begin.new.self (F ++ c.args.frame.now ∷ [])
    go which [] chosen = c.begin.ensures which c.args.frame.now (sym (ap (λ (x : FrameRecord). x.stamp) c.frame.view_is)) chosen
    go which (f ∷ F) chosen = absurd (cc (chosen.begun_is, c.if-not-self.true))
