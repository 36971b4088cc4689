-- The line by what it spells.
use Rattle.std.proofs.Common.{ap, sym, ◌∙◌}
use Rattle.std.specs.Prelude.{Err}
use Rattle.j39_listen.proofs.AskLemmas.{asks_frame}
use Rattle.j39_listen.proofs.LineLemmas.{known_bus, meets_blank, meets_frame, meets_frame_elsewhere, meets_other, meets_unread, stops_frame}
use Rattle.j39_listen.proofs.PieceLemmas.{same_fault}
use Rattle.j39_listen.proofs.lines.feed_line.Goals as goal

pub returns-in-Ok-clause-met : goal.returns-in-Ok-clause-met
returns-in-Ok-clause-met g c = λ subject.
    rw c.in-Frame.is (λ spelling.
    meets_frame (g.A.Account.has_met subject) c.in-Frame.name.now c.in-Frame.frame _ c.in-Some.bus c.args.account.now c.feed.new.self _ _
    (known_bus _ _ _ c.in-Some.is (c.know.ensures spelling.1.parts.bus_is)) (sym c.is_named.ensures ∙ c.if-is_named.true)
    (c.in-Ok.ensures.met subject))

pub returns-in-Err-clause-stops : goal.returns-in-Err-clause-stops
returns-in-Err-clause-stops g c = λ fails subject.
    rw c.in-Frame.is (λ spelling.
    stops_frame (g.A.Account.has_met subject) (g.A.Account.makes subject) c.in-Frame.name.now c.in-Frame.frame _ c.in-Some.bus c.args.account.now _ _
    (known_bus _ _ _ c.in-Some.is (c.know.ensures spelling.1.parts.bus_is)) (sym c.is_named.ensures ∙ c.if-is_named.true)
    (c.in-Err.ensures.stops (ap Err (same_fault _ _ fails)) subject))

pub returns-else-is_named-clause-met : goal.returns-else-is_named-clause-met
returns-else-is_named-clause-met g c = λ subject.
    rw c.in-Frame.is (λ spelling.
    meets_frame_elsewhere (g.A.Account.has_met subject) c.in-Frame.name.now c.in-Frame.frame _ c.in-Some.bus c.args.account.now _
    (known_bus _ _ _ c.in-Some.is (c.know.ensures spelling.1.parts.bus_is)) (sym c.is_named.ensures ∙ c.if-is_named.false))

pub returns-in-Other-clause-met : goal.returns-in-Other-clause-met
returns-in-Other-clause-met g c = λ subject. rw c.in-Other.is (λ spelling. meets_other (g.A.Account.has_met subject) _ c.args.account.now _)

pub returns-in-Unread-clause-met : goal.returns-in-Unread-clause-met
returns-in-Unread-clause-met g c = λ subject. rw c.in-Unread.is (λ spelling. meets_unread (g.A.Account.has_met subject) _ c.args.account.now _)

pub returns-in-Blank-clause-met : goal.returns-in-Blank-clause-met
returns-in-Blank-clause-met g c = λ subject. rw c.in-Blank.is (λ spelling. meets_blank (g.A.Account.has_met subject) _ c.args.account.now _)

pub returns-in-Err-clause-asked : goal.returns-in-Err-clause-asked
returns-in-Err-clause-asked g c = λ fails subject.
    rw c.in-Frame.is (λ spelling.
    asks_frame (g.A.Account.has_met subject) (g.A.Account.asks subject) c.in-Frame.name.now c.in-Frame.frame _ c.in-Some.bus c.args.account.now
    (known_bus _ _ _ c.in-Some.is (c.know.ensures spelling.1.parts.bus_is)) (sym c.is_named.ensures ∙ c.if-is_named.true)
    (c.in-Err.ensures.asked (ap Err (same_fault _ _ fails)) subject))
