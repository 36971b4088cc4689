-- The interface at its place, whose name stays what it was.
use Rattle.j39_survey.proofs.Common.{◌≡◌, ◌<◌, ◌∙◌, List, ℕ, Some, ap, refl, sym, set, length, get_or, arith, stamp_micros}
use Rattle.std.proofs.lemmas.List.{get_or-set_same, length-set}
use Rattle.j39_survey.specs.Interfaces.{InterfaceRecord}
use Rattle.j39_survey.specs.SurveyModels.{interface_record}
use Rattle.j39_survey.specs.SurveySoFar.{with_stamp}
use Rattle.j39_survey.specs.declared.surveys.interfaces.InterfaceCounts.{InterfaceCounts}
use Rattle.j39_survey.proofs.InterfaceLemmas.{add_at, refill_all}
use Rattle.j39_survey.proofs.surveys.interfaces.Interfaces.add_known.Goals as goal

some_is : {a b : List ℕ} → Some a ≡ Some b → a ≡ b
some_is e = cc

pub returns-then-self-len-clause-met : goal.returns-then-self-len-clause-met
returns-then-self-len-clause-met c = λ seen s named is at placed h.
    let a = c.args.self.now in
    let i = a.place in
    let x = c.add.new.self in
    let d = c.index-as_mut_slice-self.result in
    let value = c.as_mut_slice.ensures.value in
    let below : i < length a.told.items = omega (arith, c.if-self-len.true, c.len.ensures.value) in
    let all = refill_all a (set c.as_mut_slice.result.now i x) (length-set c.as_mut_slice.result.now i x ∙ ap length value) ∙ ap (λ (xs : List InterfaceCounts). set xs i x) value in
    add_at a _ seen s i x d h below all
    (c.add.ensures ∙ ap (with_stamp (stamp_micros c.args.stamp)) (ap (λ (xs : List InterfaceCounts). interface_record (get_or xs i d)) value) ∙ ap (λ n. with_stamp n (interface_record (get_or a.told.items i d))) (sym at))
    (let on : s.bus ≡ (get_or a.told.items i d).name.items = is ∙ some_is (placed d below) in on) refl

pub returns-then-self-len-clause-placed : goal.returns-then-self-len-clause-placed
returns-then-self-len-clause-placed c = λ placed e less.
    let a = c.args.self.now in
    let i = a.place in
    let x = c.add.new.self in
    let d = c.index-as_mut_slice-self.result in
    let value = c.as_mut_slice.ensures.value in
    let below : i < length a.told.items = omega (arith, c.if-self-len.true, c.len.ensures.value) in
    let all = refill_all a (set c.as_mut_slice.result.now i x) (length-set c.as_mut_slice.result.now i x ∙ ap length value) ∙ ap (λ (xs : List InterfaceCounts). set xs i x) value in
    let name : x.name.items ≡ (get_or a.told.items i d).name.items = ap (λ (r : InterfaceRecord). r.name) c.add.ensures ∙ ap (λ (xs : List InterfaceCounts). (get_or xs i d).name.items) value in
    placed d below ∙ ap (λ ns. Some ns) (sym name ∙ ap (λ (i : InterfaceCounts). i.name.items) (sym (ap (λ (xs : List InterfaceCounts). get_or xs i e) all ∙ get_or-set_same a.told.items i x e below)))
