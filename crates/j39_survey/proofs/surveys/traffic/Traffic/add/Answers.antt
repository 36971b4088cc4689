-- Its own group, the one that it announces, and that of the message which is whole with it.
use Rattle.j39_survey.proofs.Common.{subst, false, pgn_of, announced_by, heard_more, ℕ}
use Rattle.j39_survey.specs.CameSoFar.{at_group, at_named, with_announced, with_own, with_whole}
use Rattle.j39_survey.specs.GroupCounts.{came_in}
use Rattle.j39_survey.specs.SurveyModels.{HaveCounted}
use Rattle.j39_survey.proofs.GroupLemmas.{counted_frame}
use Rattle.j39_survey.proofs.surveys.traffic.Traffic.add.Goals as goal

pub returns-clause-met : goal.returns-clause-met
returns-clause-met c = λ F heard h.
    let f = c.args.frame.now in
    let whole = c.in-Ok.ensures.whole F h.hears in
    let own = c.add_frame.ensures (came_in F heard) h.counted in
    let announced = c.add_announced.ensures _ own in
    let all = c.add_whole.ensures _ announced in (
      whole.0,
      record {
        hears = c.in-Ok.ensures.heard F h.hears;
        are_heard = heard_more (λ (pgn : ℕ). false) F f heard whole.0 h.are_heard whole.1;
        counted = counted_frame _ F heard f whole.0
            (subst (λ n. HaveCounted c.add_whole.new.self (at_named n with_whole (at_named (announced_by f) (with_announced f) (at_group (pgn_of f.id) (with_own f) (came_in F heard))))) whole.2 all);
      },
    )
