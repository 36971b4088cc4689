use Rattle.j39_node.proofs.LawLemmas as law
use Rattle.j39_node.proofs.laws.takes_turns.Goals as goal

pub returns : goal.returns
returns c = record { others = law.takes_turns; due = law.others_due; behind_a_reply = law.behind_a_reply }
