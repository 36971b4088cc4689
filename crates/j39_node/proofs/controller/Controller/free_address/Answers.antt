use Rattle.j39_node.proofs.Common.{◌∙◌, ◌≡◌, arith, Bool, claims_of, Name, name_raw, None, not, Option, option_map, sym, told_claims, true}
use Rattle.std.specs.Option.{is_some}
use Rattle.j39_node.proofs.MovingLemmas.{least_free, none_free}
use Rattle.j39_node.proofs.controller.Controller.free_address.Goals as goal

unheld : (o : Option Name) (b : Bool) → is_some o ≡ not b → b ≡ true → option_map name_raw o ≡ None
unheld o b e f = grind (arith, e, f)

pub returns-then-is_none-clause-found : goal.returns-then-is_none-clause-found
returns-then-is_none-clause-found c = λ w H h.
    least_free c.args.self.now.holders (claims_of (told_claims w H)) c.loop-address.address h.holders (omega (arith, c.loop-address.auto.address, c.loop-address-test.true)) (omega (arith, c.loop-address.auto.address, c.loop-address-test.true))
    (sym c.holder.ensures.value ∙ unheld c.holder.result c.is_none.result c.is_none.ensures c.if-is_none.true) c.loop-address.invariant

pub returns-clause-none : goal.returns-clause-none
returns-clause-none c = λ e w H h.
    none_free c.args.self.now.holders (claims_of (told_claims w H)) h.holders (λ b l u. c.loop-address.invariant b l (omega (arith, u, c.loop-address.auto.address, c.loop-address-test.false)))
