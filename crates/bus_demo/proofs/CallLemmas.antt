-- Calls of a kind, one after another.
use Rattle.std.proofs.Common.{◌≡◌, ◌++◌, ◌∷◌, ◌∙◌, ◌&&◌, [], ℕ, Bool, List, Result, eq-eqb, refl, subst, sym, true}
use Rattle.std.proofs.lemmas.List.{append_assoc}
use Rattle.std.proofs.lemmas.List.Folds.{list_all-append}
use Rattle.j39_node.specs.declared.controller.Controller.{Controller}
use Rattle.j39_node.specs.declared.kinds.Refused.{Refused}
use Rattle.j39_node.specs.History.{Call, Draft}
use Rattle.j39_node.specs.History.Call.{At}
use Rattle.j39_node.specs.Is.{Is}
use Rattle.j39_application.specs.Sending.{sent_as, sent_by, way_of}
use Rattle.j39_application.specs.declared.sending.Way.{Way}
use Rattle.j39_application.specs.declared.sending.Way.TheVariants as way
use Rattle.bus_demo.specs.Calls.{Calls, Continues, is_handing}

module _ (kind : Call → Bool) where
  pub calls_none : (c : Controller) → Calls kind c c
  calls_none c = λ w H is. ([], refl, is)

  pub calls_one : (call : Call) (old new : Controller) → kind call ≡ true → Continues call old new → Calls kind old new
  calls_one call old new is_kind goes = λ w H is. (call ∷ [], (λ i. is_kind i && true), goes w H is)

  pub calls_then : (old mid new : Controller) → Calls kind old mid → Calls kind mid new → Calls kind old new
  calls_then old mid new first second = λ w H is.
      let one = first w H is in
      let two = second w (one.0 ++ H) one.2 in (
        two.0 ++ one.0,
        list_all-append kind two.0 one.0 ∙ (λ i. two.1 i && one.1 i),
        subst (λ (K : List Call). Is w K new) (sym (append_assoc two.0 one.0 H)) two.2,
      )

-- a message that is handed in is, whatever its way is
is_handed : (way : Way) (now : ℕ) (draft : Draft) (answer : Result ℕ Refused) → is_handing now (At now (sent_by way draft answer)) ≡ true
is_handed way.Frame now draft answer = eq-eqb now now refl
is_handed way.Broadcast now draft answer = eq-eqb now now refl
is_handed way.Transfer now draft answer = eq-eqb now now refl

pub handed : (now : ℕ) (draft : Draft) (answer : Result ℕ Refused) (old new : Controller) → Continues (At now (sent_as draft answer)) old new
    → Calls (is_handing now) old new
handed now draft answer old new goes =
    calls_one (is_handing now) (At now (sent_as draft answer)) old new (is_handed (way_of draft) now draft answer) goes
