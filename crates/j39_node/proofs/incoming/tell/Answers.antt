use Rattle.j39_node.proofs.Common.{[], if◌then◌else◌, ◌++◌, ◌∷◌, Bool, Knows, subst, sym}
use Rattle.j39_node.proofs.incoming.tell.Goals as goal

pub returns-then-not-is_double : goal.returns-then-not-is_double
returns-then-not-is_double c = record {
  knows = λ F k. subst (λ (b : Bool). Knows c.note-changed.new.self (if b then F else F ++ c.args.frame.now ∷ [])) (sym c.if-not-is_double.true) (c.note-changed.ensures.knows F k);
}
