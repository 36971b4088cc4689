-- clap was told the whole command line.
use Rattle.j39_cli.proofs.Common.{◌≡◌, ◌∙◌, [], ap, inl, inr, map, subst, App, HasMatchesOf, fault_of, is_simple_and_free, kind_of, takes}
use Rattle.clap.specs.Kinds.{HasKind, Kinds}
use Rattle.clap.specs.declared.error.Error.{Error}
use Rattle.j39_cli.specs.Refused.{IsRefusal, IsSaid}
use Rattle.j39_cli.specs.declared.task.ParseFault.{ParseFault}
use Rattle.j39_cli.proofs.TakenLemmas.{line_is_free}
use Rattle.j39_cli.proofs.words.matched.Goals as goal

pub returns-in-Ok-try_get_matches_from-clause-ok : goal.returns-in-Ok-try_get_matches_from-clause-ok
returns-in-Ok-try_get_matches_from-clause-ok g c =
    subst (λ (a : App). HasMatchesOf a (map g.S.AsStr.text c.args.words.now) c.in-Ok-try_get_matches_from.matches)
    c.in-Ok.ensures c.in-Ok-try_get_matches_from.ensures.matches

pub returns-in-Err-clause-err : goal.returns-in-Err-clause-err
returns-in-Err-clause-err g c = λ taken. c.fault_of.ensures.memory (c.in-Err.ensures.passes
    (ap (λ (a : App). takes a (map g.S.AsStr.text c.args.words.now)) c.in-Ok.ensures ∙ taken))

pub returns-in-Ok-try_get_matches_from-clause-faultless : goal.returns-in-Ok-try_get_matches_from-clause-faultless
returns-in-Ok-try_get_matches_from-clause-faultless g c =
    subst (λ (a : App). fault_of a (map g.S.AsStr.text c.args.words.now) ≡ []) c.in-Ok.ensures
    (c.in-Ok-try_get_matches_from.ensures.kinds (ap (λ (a : App). is_simple_and_free a) c.in-Ok.ensures ∙ line_is_free))

-- memory ran out, or the error has one of the kinds
refusal : (kinds : Kinds) (e : Error) (fault : ParseFault) → HasKind kinds e → IsSaid (kind_of e) fault → IsRefusal kinds fault
refusal kinds e fault (inl is_memory) said = inl (said.memory is_memory)
refusal kinds e fault (inr is_among) said = inr (record { kind = kind_of e; among = is_among; said = said })

pub returns-in-Err-clause-refused : goal.returns-in-Err-clause-refused
returns-in-Err-clause-refused g c =
    refusal _ c.in-Err.error _ (subst (λ (a : App). HasKind (fault_of a (map g.S.AsStr.text c.args.words.now)) c.in-Err.error) c.in-Ok.ensures
    (c.in-Err.ensures.kinds (ap (λ (a : App). is_simple_and_free a) c.in-Ok.ensures ∙ line_is_free))) c.fault_of.ensures
