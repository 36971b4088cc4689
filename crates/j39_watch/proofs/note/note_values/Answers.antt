-- Its readings go to their rows, if it is taken.
use Rattle.j39_watch.proofs.Common.{◌∙◌, ◌++◌, ap, append-nil, subst, sym, pairs_of}
use Rattle.j39_listen.specs.HeardModel.{hearing_of}
use Rattle.j39_watch.proofs.NoteLemmas.{none_asked, one_asked, takes_values, wants_value}
use Rattle.j39_watch.specs.LatestSoFar.{AreLatest}
use Rattle.j39_watch.proofs.note.note_values.Goals as goal

pub returns-then-not-is_taken-clause-noted : goal.returns-then-not-is_taken-clause-noted
returns-then-not-is_taken-clause-noted c = λ which first before is are.
    rw c.if-not-counts.false (subst (AreLatest (pairs_of c.args.values.now.rows))
    (sym (append-nil before) ∙ sym (ap (λ es. before ++ es) (none_asked c.args.groups.now which first (hearing_of c.args.heard.now) (sym c.if-not-is_taken.true ∙ is)))) are)

pub returns-in-Ok-clause-noted : goal.returns-in-Ok-clause-noted
returns-in-Ok-clause-noted c = λ which first before is are.
    let one = one_asked c.args.groups.now which first (hearing_of c.args.heard.now) (sym c.if-not-is_taken.false ∙ is) in
    rw c.if-not-counts.false (subst (AreLatest (pairs_of c.visit.new.visitor.rows)) (sym (ap (λ es. before ++ es) one))
    (takes_values c.args.groups.now (hearing_of c.args.heard.now) c.begin.new.self c.visit.new.visitor before (c.begin.ensures before are) c.in-Ok.ensures.taken))

pub returns-in-Err-clause-asked : goal.returns-in-Err-clause-asked
returns-in-Err-clause-asked c = (
  c.if-not-counts.false,
  c.if-not-is_taken.false,
  λ before are.
      wants_value c.args.groups.now (hearing_of c.args.heard.now) c.begin.new.self c.visit.new.visitor before (c.begin.ensures before are) c.in-Err.ensures.stopped,
)
