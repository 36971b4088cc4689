-- It is put where it was taken out.
use Rattle.std.proofs.Common.{◌∙◌, ℕ, ap, subst, option_map}
use Rattle.j39_address.specs.Name.{name_raw}
use Rattle.j39_listen.specs.HeardModel.{hearing_of}
use Rattle.j39_fault_reports.specs.CurrentPlaces.{LastRecord, last_by, name_in}
use Rattle.j39_fault_reports.specs.Places.{HaveTaken, kept_before}
use Rattle.j39_fault_reports.proofs.current_faults.last_actives.LastActives.take.Goals as goal

pub returns-clause-taken : goal.returns-clause-taken
returns-clause-taken c =
    let name = option_map name_raw c.args.heard.now.name in
    let kept : ℕ → LastRecord = λ a. last_by c.args.conversions.now (kept_before name_in c.args.self.now name a) (hearing_of c.args.heard.now) c.args.lamps in
    subst (λ (a : ℕ). HaveTaken name_in c.args.self.now name a (kept a) c.put.new.self) c.from-source.ensures
    (subst (λ (last : LastRecord). HaveTaken name_in c.args.self.now name c.from-source.result last c.put.new.self)
    (c.in_ok-last.ensures.said ∙ ap (λ before. last_by c.args.conversions.now before (hearing_of c.args.heard.now) c.args.lamps) c.take_before-before.ensures.before_is)
    (c.take_before-before.ensures.puts _ c.put.new.self c.put.ensures))
