-- What the inner call leaves as it was stays.
use Rattle.std.proofs.Common.{rules, ap, ◌∙◌, to_z, of_z, w32}
use Rattle.j39_c.proofs.outbox.j39_outbox_take_frame.Goals as goal

pub returns-after-deref_mut-clause-fills : goal.returns-after-deref_mut-clause-fills
returns-after-deref_mut-clause-fills c = elim c.match-deref_mut.branch [
  | goal.in-Posting+in-Some-take-2 w ↦ elim w.match-deref_mut-2.branch [
    | goal.in-Controlling v ↦ λ other.
        w.out-is ∙ v.out-is ∙ v.put_taken-code.ensures.fills (λ one. other (w.code-is ∙ v.code-is ∙ ap (λ z. to_z w32 (of_z w32 z)) one))
    | goal.in_default-deref_mut-2 v ↦ search rules
  ]
  | goal.in-Posting+in-None-take w ↦ search rules
  | goal.in_default-deref_mut w ↦ search rules
]
