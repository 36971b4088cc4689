-- Calls of a claimer as steps of a node.
use Rattle.std.proofs.Common.{◌≡◌, ◌≢◌, ◌≤◌, ℕ, List, Option, Some, None, refl, sym, ap, ◌∙◌, subst}
use Rattle.j39_frame.specs.Frame.{FrameRecord}
use Rattle.j39_frame.specs.Address.{global_address}
use Rattle.j39_address.specs.declared.claims.Claims.{Claims}
use Rattle.j39_address.specs.declared.claimer.Claimer.{Claimer}
use Rattle.j39_address.specs.Name.{name_raw}
use Rattle.j39_address.specs.Claim.{Claim, claim_frame}
use Rattle.j39_address.specs.Holder.{IsHolderAfter}
use Rattle.j39_address.specs.Claims.{StandsFor, holder_in}
use Rattle.j39_address.specs.Node.{Node, IsAt, IsFree, IsLeastFree, NoneFree, address_of, with_claim}
use Rattle.j39_address.specs.Node.NodeStatus.{Cannot}
use Rattle.j39_address.specs.Call.{Call}
use Rattle.j39_address.specs.NodeStep.{NodeStep}
use Rattle.j39_address.specs.Claimer.{IsNode, MakesStep, status_of, status_in}
use Rattle.j39_address.specs.declared.status.State.{State}
use Rattle.j39_address.specs.Claiming.{Says, IsLeastUnheld}
use Rattle.j39_address.proofs.HolderLemmas.{same_holder}

-- a call that answers nothing
pub rests_step : (node : Node) (claimer : Claimer) (call : Call) (now : ℕ) → IsNode claimer node → NodeStep node call now None node → MakesStep node call now None claimer
rests_step node claimer call now h step = record { answer = None; after = node; step = step; is_node = h; frame_is = refl }

-- a call that ends with a claim of a: m is the node, and s the claimer, just before it
pub says_step : (node m : Node) (s new : Claimer) (call : Call) (now a : ℕ) (frame : Option FrameRecord) → m.name ≡ node.name → IsNode s m → Says s new a now frame
    → NodeStep node call now (Some a) (record m { claims = with_claim m.claims m.name a }) → MakesStep node call now frame new
says_step node m s new call now a frame e h says step = record {
  answer = Some a;
  after = record m { claims = with_claim m.claims m.name a };
  step = step;
  is_node = record {
    name = ap name_raw says.name ∙ h.name;
    preferred = says.preferred ∙ h.preferred;
    status = ap (λ (s : State). status_of (status_in s)) says.status ∙ h.status;
    moment = says.moment ∙ h.moment;
    claims = subst (λ (n : ℕ). StandsFor new.claims (with_claim m.claims n a)) h.name (says.noted m.claims h.claims);
  };
  frame_is = says.frame_is ∙ ap (λ (n : ℕ). Some (claim_frame now n a)) (h.name ∙ e);
}

-- ---- free addresses

free_from : (table : Claims) (C : List (Option Claim)) (b : ℕ) → StandsFor table C → 128 ≤ b → b ≤ 247 → holder_in table b ≡ None → IsFree C b
free_from table C b h l u e = record { least = l; most = u; unheld = subst (λ (o : Option ℕ). IsHolderAfter C b o) e (h b) }

free_to : (table : Claims) (C : List (Option Claim)) (b : ℕ) → StandsFor table C → IsFree C b → holder_in table b ≡ None
free_to table C b h f = same_holder C _ b (holder_in table b) None (h b) f.unheld

pub least_free_from : (table : Claims) (C : List (Option Claim)) (b : ℕ) → StandsFor table C → IsLeastUnheld table b → IsLeastFree C b
least_free_from table C b h l = (free_from table C b h l.from l.to l.unheld, λ x u f. l.least x f.least u (free_to table C x h f))

pub none_free_from : (table : Claims) (C : List (Option Claim)) → StandsFor table C
    → ((b : ℕ) → 128 ≤ b → b ≤ 247 → holder_in table b ≢ None) → NoneFree C
none_free_from table C h none b f = none b f.least f.most (free_to table C b h f)

-- ---- a request that is not answered

-- the request is neither to all nor to an address of the node, nor, where it has none, to all
abbrev pub IsNotAsked : Node → ℕ → Type 0
IsNotAsked node to = ((b : ℕ) → IsAt node b → (to ≢ global_address) × (to ≢ b)) × (node.status ≡ Cannot → to ≢ global_address)

pub not_asked_at : (node : Node) (a to : ℕ) → IsAt node a → to ≢ global_address → to ≢ a → IsNotAsked node to
not_asked_at node a to h d f = ((λ b at. (d, (λ x. f (x ∙ (let z : Some b ≡ Some a = sym at ∙ h in cc))))), (λ x. d))

pub not_asked_anywhere : (node : Node) (to : ℕ) → address_of node.status ≡ None → (node.status ≡ Cannot → to ≢ global_address) → IsNotAsked node to
not_asked_anywhere node to h d = ((λ b at. absurd (let z : None ≡ Some b = sym h ∙ at in cc)), d)
