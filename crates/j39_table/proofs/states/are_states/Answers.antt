-- Behind a name ` = ` comes first.
use Rattle.std.proofs.Common.{◌∙◌, ◌==◌, ap}
use Rattle.std.proofs.lemmas.Bool.{false≢true}
use Rattle.j39_table.proofs.StateLemmas.{short_part}
use Rattle.j39_table.proofs.states.are_states.Goals as goal

pub returns-then-part-lt2 : goal.returns-then-part-lt2
returns-then-part-lt2 c = (
  λ one. absurd (false≢true one),
  λ good. absurd (short_part c.args.limit c.args.part.now (λ none. false≢true (c.if-is_empty.ensures ∙ ap (λ n. n == 0) none)) c.if-part-lt2.true good),
)
