-- The group that it names has one more, or there is none.
use Rattle.j39_survey.proofs.Common.{◌≡◌, ◌∙◌, ◌==◌, ◌||◌, ℕ, true, false, refl, or_right, FrameRecord, ap, pgn_of, pgn_raw, subst, sym, Pgn}
use Rattle.j39_frame.specs.Network.{transport_control_group}
use Rattle.j39_groups.specs.Readings.{is_network_group}
use Rattle.j39_listen.proofs.Reported.{announced_none}
use Rattle.std.specs.Prelude.{option_map}
use Rattle.j39_survey.specs.CameSoFar.{at_named, with_announced}
use Rattle.j39_survey.specs.SurveyModels.{HaveCounted}
use Rattle.j39_survey.proofs.surveys.group_table.GroupTable.add_announced.Goals as goal

not_control : (pgn : ℕ) → is_network_group pgn ≡ false → (pgn == transport_control_group) ≡ false
not_control pgn other =
    elim (pgn == 60416) as (λ b. (pgn == 60416) ≡ b → b ≡ false) [
      | true ↦ λ e. sym (or_right (pgn == 60160) (pgn == 60416 || pgn == 60928) (rw e refl)) ∙ other
      | false ↦ λ e. refl
    ] refl

pub returns-then-not-is_network_group : goal.returns-then-not-is_network_group
returns-then-not-is_network_group c = λ came h.
    let frame = c.args.frame.now in
    let other : is_network_group (pgn_of frame.id) ≡ false = ap (λ (x : FrameRecord). is_network_group (pgn_of x.id)) (sym c.frame.view_is) ∙ sym (c.is_network_group.ensures ∙ ap is_network_group c.pgn.ensures) ∙ c.if-not-is_network_group.true in
    subst (λ n. HaveCounted c.args.self.now (at_named n (with_announced frame) came)) (sym (announced_none frame (not_control (pgn_of frame.id) other))) h

pub returns-in-Some : goal.returns-in-Some
returns-in-Some c = λ came h.
    subst (λ n. HaveCounted c.change.new.self (at_named n (with_announced c.args.frame.now) came))
    (sym (ap (option_map (λ (pgn : Pgn). pgn_raw pgn)) c.in-Some.is) ∙ c.announced_group.ensures)
    (c.change.ensures (with_announced c.args.frame.now) (λ old new changes. changes c.args.frame.now (sym (ap (λ (x : FrameRecord). x.id) c.frame.view_is)) (sym (ap (λ (x : FrameRecord). x.stamp) c.frame.view_is))) came h)

pub returns-in-None : goal.returns-in-None
returns-in-None c = λ came h.
    subst (λ n. HaveCounted c.args.self.now (at_named n (with_announced c.args.frame.now) came))
    (sym (ap (option_map (λ (pgn : Pgn). pgn_raw pgn)) c.in-None.is) ∙ c.announced_group.ensures) h
