-- A listener that is as it was leaves its box as it was.
use Rattle.std.proofs.Common.{◌≡◌, rules, ap, ◌∙◌, Some}
use Rattle.std.specs.Box.{with_value}
use Rattle.j39_c.specs.declared.part.Part.TheVariants.{Listening}
use Rattle.j39_c.proofs.listener.j39_listener_feed.Goals as goal

pub returns-after-deref_mut-clause-refused : goal.returns-after-deref_mut-clause-refused
returns-after-deref_mut-clause-refused c = elim c.match-deref_mut.branch [
  | goal.in-Listening w ↦ λ r.
      let same : w.hear-code.new.listener ≡ w.in-Listening.held.part.value = search rules in
      let was : Some (Listening w.in-Listening.held) ≡ c.args.listener.now.part = search rules in
      c.put.ensures ∙ ap (λ b. Some b.value) w.part-is ∙ ap (λ v. Some (Listening (record { part = with_value w.in-Listening.held.part v }))) same ∙ was
  | goal.in_default-deref_mut w ↦ search rules
]
