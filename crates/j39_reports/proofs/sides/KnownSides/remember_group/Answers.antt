-- The sides of the parameters stay, and so does what is said of the other groups.
use Rattle.j39_reports.proofs.Common.{◌≡◌, List, [], ◌∷◌, ℕ, get_or, suc, true, zero}
use Rattle.std.specs.Prelude.{set}
use Rattle.j39_reports.specs.SidesSoFar.{SuitsGroup}
use Rattle.j39_reports.specs.declared.sides.GroupSide.{GroupSide}
use Rattle.j39_reports.proofs.sides.KnownSides.remember_group.Goals as goal

kept : {X : Type 0} (P : X → Type 0) (xs : List X) (at : ℕ) (new : X) (place : ℕ) (d : X) → P new → P (get_or xs place d) → P (get_or (set xs at new) place d)
kept P [] at new place d its old = old
kept P (x ∷ xs) zero new zero d its old = its
kept P (x ∷ xs) zero new (suc place) d its old = old
kept P (x ∷ xs) (suc at) new zero d its old = old
kept P (x ∷ xs) (suc at) new (suc place) d its old = kept P xs at new place d its old

pub invariant_of-self-clause-sound : goal.invariant_of-self-clause-sound
invariant_of-self-clause-sound g c = c.args.self.now.sound

pub invariant_of-self-clause-groups_sound : goal.invariant_of-self-clause-groups_sound
invariant_of-self-clause-groups_sound g c = λ place d below.
    kept (λ (side : GroupSide). side.is_ready ≡ true → SuitsGroup g.F.SideForm.of_group c.args.self.now.groups.now side) c.args.self.now.called c.args.place c.of_or_none.result place d
    c.of_or_none.ensures (c.args.self.now.groups_sound place d below)
