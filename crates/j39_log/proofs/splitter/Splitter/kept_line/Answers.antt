use Rattle.std.proofs.Common.{◌∙◌}
use Rattle.j39_log.proofs.SplitterLemmas.{long_kept, whole_kept}
use Rattle.j39_log.proofs.splitter.Splitter.kept_line.Goals as goal

pub returns-else-self : goal.returns-else-self
returns-else-self c = λ line k. c.as_slice-else-self.ensures.value ∙ whole_kept line _ _ k c.if-self.false

pub returns-then-self : goal.returns-then-self
returns-then-self c = λ line k. (long_kept line _ _ k c.if-self.true, c.as_slice.ensures.value ∙ k.kept_is)
