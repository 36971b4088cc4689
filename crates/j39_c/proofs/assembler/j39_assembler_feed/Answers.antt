-- An assembler that is as it was leaves its box as it was.
use Rattle.std.proofs.Common.{◌≡◌, rules, ap, ◌∙◌, Some}
use Rattle.std.specs.Box.{with_value}
use Rattle.j39_c.specs.declared.part.Part.TheVariants.{Assembling}
use Rattle.j39_c.proofs.assembler.j39_assembler_feed.Goals as goal

pub returns-after-deref_mut-clause-refused : goal.returns-after-deref_mut-clause-refused
returns-after-deref_mut-clause-refused c = elim c.match-deref_mut.branch [
  | goal.in-Assembling w ↦ λ r.
      let same : w.assemble-code.new.assembler ≡ w.in-Assembling.held.part.value = search rules in
      let was : Some (Assembling w.in-Assembling.held) ≡ c.args.assembler.now.part = search rules in
      c.put.ensures ∙ ap (λ b. Some b.value) w.part-is ∙ ap (λ v. Some (Assembling (record { part = with_value w.in-Assembling.held.part v }))) same ∙ was
  | goal.in_default-deref_mut w ↦ search rules
]
