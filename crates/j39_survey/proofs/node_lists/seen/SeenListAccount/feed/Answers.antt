use Rattle.std.proofs.Common.{ap, [], ◌∷◌, ◌++◌, sym, ◌∙◌, Some, refl, subst, true, append-nil}
use Rattle.std.proofs.KnownBytes.{Appends-nil}
use Rattle.j39_address.specs.Claims.{Knows}
use Rattle.j39_address.specs.declared.claims.Claims.{Claims}
use Rattle.j39_frame.specs.Frame.{FrameRecord}
use Rattle.j39_survey.specs.SeenSoFar.{asked_of}
use Rattle.j39_survey.proofs.SeenLemmas.{last_stamp-this}
use Rattle.j39_survey.proofs.node_lists.seen.SeenListAccount.feed.Goals as goal

pub returns-clause-met : goal.returns-clause-met
returns-clause-met g c = λ subject F before has. record {
  after = before;
  met = record {
    knows = subst (λ (table : Claims). Knows table (F ++ c.args.frame.now ∷ [])) (sym c.see.ensures.claims) (c.note.ensures.knows F has.knows);
    sees = c.see.ensures.sees F (c.note.ensures.knows F has.knows) has.sees;
    last_is = ap (λ (f : FrameRecord). Some f.stamp) c.frame.view_is ∙ sym (last_stamp-this (λ f. true) F c.args.frame.now refl);
    asked_is = ap asked_of c.see.ensures.asked ∙ has.asked_is;
    nothing = has.nothing;
  };
  more = [];
  text_is = sym (append-nil before.text);
  written = Appends-nil _;
}
