-- What is kept at a place more is taken out, or stays.
use Rattle.std.proofs.Common.{◌∙◌, ◌+◌, ap, arith, option_map, subst, sym}
use Rattle.j39_address.specs.Name.{name_raw}
use Rattle.j39_fault_reports.specs.LastMessages.{name_of, stored_in}
use Rattle.j39_fault_reports.specs.Places.{AreLeft}
use Rattle.j39_fault_reports.proofs.MoveLemmas.{else_kept, none_kept, none_left, one_left, one_stays, out_kept}
use Rattle.j39_fault_reports.proofs.fault_news.last_messages.LastMessages.leave.Goals.{else-is_of, then-is_of}
use Rattle.j39_fault_reports.proofs.fault_news.last_messages.LastMessages.leave.Goals as goal

pub loop-address-init : goal.loop-address-init
loop-address-init c = λ long. (none_left name_of (option_map name_raw c.args.name) c.args.self.now, sym (none_kept name_of (option_map name_raw c.args.name) c.args.self.now))

pub loop-address-preserved : goal.loop-address-preserved
loop-address-preserved c = λ long.
    let name = option_map name_raw c.args.name in
    let old = c.args.self.now in
    let at = c.loop-address.address in
    let places = c.loop-address.self in
    let below = c.loop-address-test.true in
    let before = c.loop-address.invariant long in
    elim c.if-is_of.branch [
      | then-is_of w ↦
          let is = sym c.is_of.ensures ∙ w.if-is_of.true in (
            subst (AreLeft name_of name old (at + 1)) (sym (w.self-is ∙ w.take-found.ensures.after)) (one_left name_of name old at places (omega (arith, below, long)) before.0 is),
            ap stored_in w.found-is ∙ w.take-found.ensures.value ∙ out_kept name_of name old at places before.0 is,
          )
      | else-is_of w ↦
          let isnt = sym c.is_of.ensures ∙ w.if-is_of.false in (
            subst (AreLeft name_of name old (at + 1)) (sym w.self-is) (one_stays name_of name old at places before.0 isnt),
            ap stored_in w.found-is ∙ before.1 ∙ else_kept name_of name old at places before.0 isnt,
          )
    ]
