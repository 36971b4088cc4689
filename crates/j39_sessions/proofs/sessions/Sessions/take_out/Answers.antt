use Rattle.j39_sessions.proofs.Common.{◌∙◌, ap, in_box, map, option_map, sym}
use Rattle.j39_sessions.proofs.BoxLemmas.{at_place, map_remove, none_other, none_placed, placed}
use Rattle.j39_sessions.proofs.sessions.Sessions.take_out.Goals as goal

pub returns-in_err-place-clause-value : goal.returns-in_err-place-clause-value
returns-in_err-place-clause-value c = ap (option_map in_box) c.from_residual.ensures ∙ sym (none_placed in_box c.args.source c.args.self.now.current.items c.in_err-place.ensures)

pub returns-in_err-place-clause-rest : goal.returns-in_err-place-clause-rest
returns-in_err-place-clause-rest c =
    sym (none_other c.args.source (map in_box c.args.self.now.current.items) (none_placed in_box c.args.source c.args.self.now.current.items c.in_err-place.ensures))

pub returns-clause-value : goal.returns-clause-value
returns-clause-value c =
    let p = placed in_box c.args.source c.args.self.now.current.items c.in_ok-place.place c.in_ok-place.ensures in
    sym (p.1.0 ∙ at_place in_box c.args.self.now.current.items c.remove.result c.in_ok-place.place p.0 c.remove.ensures.value)

pub returns-clause-rest : goal.returns-clause-rest
returns-clause-rest c =
    let p = placed in_box c.args.source c.args.self.now.current.items c.in_ok-place.place c.in_ok-place.ensures in
    ap (map in_box) c.remove.ensures.items ∙ (map_remove in_box c.args.self.now.current.items c.in_ok-place.place p.0 ∙ p.1.1)
