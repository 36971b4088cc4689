-- A place after another: its code is told, or there is none.
use Rattle.std.proofs.Common.{sym, ◌∙◌}
use Rattle.j39_faults.proofs.CodeLemmas.{code_there, fewer, no_place, none_there}
use Rattle.j39_faults.proofs.codes.CodesIterator.next.Goals as goal

pub returns-in-Some-clause-steps : goal.returns-in-Some-clause-steps
returns-in-Some-clause-steps c =
    let before = rw c.places_of.ensures at c.loop-self-test.true in
    sym c.loop-self.invariant ∙ code_there c.loop-self.self c.in-Some.code before (sym c.code_at.ensures ∙ c.in-Some.is)

pub returns-in-Some-clause-goes : goal.returns-in-Some-clause-goes
returns-in-Some-clause-goes c =
    let before = rw c.places_of.ensures at c.loop-self-test.true in
    let told = code_there c.loop-self.self c.in-Some.code before (sym c.code_at.ensures ∙ c.in-Some.is) in
    record { on = λ finite. (tt, finite, fewer _ _ _ (sym c.loop-self.invariant ∙ told)); keeps = tt; rests = λ _. tt }

pub loop-self-preserved : goal.loop-self-preserved
loop-self-preserved c =
    let before = rw c.places_of.ensures at c.loop-self-test.true in
    sym (none_there c.loop-self.self before (sym c.code_at.ensures ∙ c.in_default.is)) ∙ c.loop-self.invariant

pub returns-clause-steps : goal.returns-clause-steps
returns-clause-steps c =
    let behind = rw c.places_of.ensures at c.loop-self-test.false in
    let none = no_place c.loop-self.self behind in
    (sym c.loop-self.invariant ∙ none, none)
