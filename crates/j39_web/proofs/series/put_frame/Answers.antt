-- A message is heard at the frame or none.
use Rattle.j39_listen.specs.HeardModel.{hearing_of}
use Rattle.j39_listen.proofs.ListenerLemmas.{on_ok}
use Rattle.j39_web.proofs.SeriesAccountLemmas.{meets_heard, meets_silent, stops_heard}
use Rattle.j39_web.proofs.series.put_frame.Goals as goal

pub returns-in-Ok-None-clause-met : goal.returns-in-Ok-None-clause-met
returns-in-Ok-None-clause-met g c = λ F h.
    meets_silent (record { of = c.args.of.now; rows = c.args.groups.now }) _ F c.args.frame.now _ (rw c.in-Ok-None.field-0-is at (c.in-Ok-None.ensures.heard F h))
    (on_ok _ _ _ _ c.in-Ok-None.is c.feed_with.follows.holds-at-none F h)

pub returns-in-Ok-clause-met : goal.returns-in-Ok-clause-met
returns-in-Ok-clause-met g c = λ F h.
    meets_heard (record { of = c.args.of.now; rows = c.args.groups.now }) _ F c.args.frame.now (hearing_of c.in-Ok-Some.heard) c.in-Ok.lines _ _
    (rw c.in-Ok-Some.field-0-is at (c.in-Ok-Some.ensures.heard F h))
    (on_ok _ _ _ _ c.in-Ok-Some.is c.feed_with.follows.holds-at-none F h) c.in-Ok.ensures.lines c.in-Ok.ensures.puts.written

pub returns-in-Err-put_heard-clause-stops : goal.returns-in-Err-put_heard-clause-stops
returns-in-Err-put_heard-clause-stops g c = λ e F h.
    stops_heard (record { of = c.args.of.now; rows = c.args.groups.now }) F c.args.frame.now (hearing_of c.in-Ok-Some.heard) _ _
    (rw c.in-Ok-Some.field-0-is at (c.in-Ok-Some.ensures.heard F h)) c.in-Err-put_heard.ensures.puts.front
