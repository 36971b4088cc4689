-- The line of a frame, and its newline.
use Rattle.std.proofs.Common.{◌∙◌, sym}
use Rattle.j39_io.proofs.PutsLemmas.{puts_as, puts_done, puts_failed, puts_more, puts_nothing, puts_then}
use Rattle.j39_listen.proofs.AnswerLemmas.{sent_text-none, sent_text-one}
use Rattle.j39_listen.proofs.answers.put_answer.Goals as goal

pub returns-in-None-clause-puts : goal.returns-in-None-clause-puts
returns-in-None-clause-puts g c = rw c.in-None.is (puts_as _ _ _ _ (sym (sent_text-none c.args.bus.now)) (puts_nothing _ _))

pub returns-in_err-put_all-in-Some-clause-puts : goal.returns-in_err-put_all-in-Some-clause-puts
returns-in_err-put_all-in-Some-clause-puts g c =
    let line = c.as_slice.ensures.value ∙ c.line_of.ensures.text in
    rw c.in-Some.is (puts_failed _ _ _ _ c.from_residual.ensures.0 (puts_as _ _ _ _ (sym (sent_text-one c.args.bus.now c.in-Some.frame))
    (puts_more _ _ _ _ (puts_as _ _ _ _ line c.in_err-put_all-in-Some.ensures.puts))))

pub returns-in_err-put_all-in-Some-2-clause-puts : goal.returns-in_err-put_all-in-Some-2-clause-puts
returns-in_err-put_all-in-Some-2-clause-puts g c =
    let line = c.as_slice.ensures.value ∙ c.line_of.ensures.text in
    rw c.in-Some.is (puts_failed _ _ _ _ c.from_residual-in_err-put_all-in-Some-2.ensures.0 (puts_as _ _ _ _ (sym (sent_text-one c.args.bus.now c.in-Some.frame))
    (puts_then _ _ _ _ _ _ _ (puts_as _ _ _ _ line c.in_ok-put_all-in-Some.ensures.puts) c.in_err-put_all-in-Some-2.ensures.puts)))

pub returns-in_ok-put_all-in-Some-2-clause-puts : goal.returns-in_ok-put_all-in-Some-2-clause-puts
returns-in_ok-put_all-in-Some-2-clause-puts g c =
    let line = c.as_slice.ensures.value ∙ c.line_of.ensures.text in
    rw c.in-Some.is (puts_done _ _ _ _ (puts_as _ _ _ _ (sym (sent_text-one c.args.bus.now c.in-Some.frame))
    (puts_then _ _ _ _ _ _ _ (puts_as _ _ _ _ line c.in_ok-put_all-in-Some.ensures.puts) c.in_ok-put_all-in-Some-2.ensures.puts)))
