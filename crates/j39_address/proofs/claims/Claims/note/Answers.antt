use Rattle.std.proofs.Common.{◌≡◌, List, [], ◌∷◌, ◌++◌, Option, None, sym, ap, ◌∙◌, subst}
use Rattle.j39_frame.specs.Frame.{FrameRecord}
use Rattle.j39_address.specs.Claim.{Claim, claim_of, claims_of}
use Rattle.j39_address.specs.Changes.{AreChanged}
use Rattle.j39_address.specs.Claims.{StandsFor}
use Rattle.j39_address.proofs.NotingLemmas.{quiet_stands, quiet_changed, claims_of-push}
use Rattle.j39_address.proofs.claims.Claims.note.Goals as goal

-- the claims after a frame that makes this claim, or none
longer : (F : List FrameRecord) (f : FrameRecord) (c : Option Claim) → c ≡ claim_of f → claims_of F ++ c ∷ [] ≡ claims_of (F ++ f ∷ [])
longer F f c e = ap (λ (x : Option Claim). claims_of F ++ x ∷ []) e ∙ sym (claims_of-push F f)

pub returns-in-Some-clause-knows : goal.returns-in-Some-clause-knows
returns-in-Some-clause-knows c = λ F h. subst (λ (C : List (Option Claim)). StandsFor c.note_claim.new.self C) (longer F c.args.frame.now _ c.in-Some.ensures) (c.note_claim.ensures.stands (claims_of F) h)

pub returns-in-Some-clause-changed : goal.returns-in-Some-clause-changed
returns-in-Some-clause-changed c = λ F h. subst (λ (C : List (Option Claim)). AreChanged (claims_of F) C c.note_claim.result.items) (longer F c.args.frame.now _ c.in-Some.ensures) (c.note_claim.ensures.changed (claims_of F) h)

pub returns-in-None-clause-knows : goal.returns-in-None-clause-knows
returns-in-None-clause-knows c = λ F h. subst (λ (C : List (Option Claim)). StandsFor c.args.self.now C) (longer F c.args.frame.now None c.in-None.ensures) (quiet_stands (claims_of F) c.args.self.now h)

pub returns-in-None-clause-changed : goal.returns-in-None-clause-changed
returns-in-None-clause-changed c = λ F h. rw c.new.ensures (subst (λ (C : List (Option Claim)). AreChanged (claims_of F) C []) (longer F c.args.frame.now None c.in-None.ensures) (quiet_changed (claims_of F) c.args.self.now h))
