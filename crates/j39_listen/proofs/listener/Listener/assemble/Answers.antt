-- The answer of the assembler, under the holder before the frame.
use Rattle.std.proofs.Common.{◌∙◌, ap, refl, subst}
use Rattle.std.specs.Option.{option_map}
use Rattle.j39_address.specs.Name.{name_raw}
use Rattle.j39_address.specs.Claim.{claims_of}
use Rattle.j39_address.specs.Holder.{IsHolderAfter}
use Rattle.j39_frame.specs.Frame.{FrameRecord}
use Rattle.j39_frame.specs.Identifier.{source_of}
use Rattle.j39_frame.specs.Pgn.{pgn_raw}
use Rattle.j39_listen.specs.Heard.{sent_to}
use Rattle.j39_listen.proofs.ListenerLemmas.{heard_many, hears_quiet, on_ok, silent_many}
use Rattle.j39_listen.proofs.listener.Listener.assemble.Goals as goal

pub returns-in-Whole : goal.returns-in-Whole
returns-in-Whole c = (
  (
    refl,
    (λ _. tt),
    (λ none F h.
        hears_quiet c.args.self.now F c.args.frame.now _ none h ((on_ok _ _ _ _ c.in_ok-message.was c.feed.follows.holds-at-none).0 h.events h.stands)),
  ),
  record {
    heard = λ singles leaves many F h.
        let said = rw c.in-Whole.is at (c.in_ok-message.ensures.answer h.events h.stands) in
        let name = subst (λ a. IsHolderAfter (claims_of F) a (option_map name_raw c.holder-name.result)) (c.source.ensures ∙ ap (λ (x : FrameRecord). source_of x.id) c.frame.view_is) (c.holder-name.ensures.holder F h.knows) in
        heard_many singles leaves c.args.self.now F c.args.frame.now _ _ _ _ many h name (c.destination-destination.ensures ∙ ap (λ (x : FrameRecord). sent_to (pgn_raw c.in-Whole.message.pgn) x.id) c.frame.view_is) said.0 said.1;
    short = rw c.in-Whole.is at c.in_ok-message.ensures.short;
    refused = tt;
    wanted = tt;
    after = tt;
  },
)

pub returns-in-Taken : goal.returns-in-Taken
returns-in-Taken c = (
  (
    refl,
    (λ _. tt),
    (λ none F h.
        hears_quiet c.args.self.now F c.args.frame.now _ none h ((on_ok _ _ _ _ c.in_ok-message.was c.feed.follows.holds-at-none).0 h.events h.stands)),
  ),
  record {
    heard = λ singles leaves many F h. silent_many singles leaves c.args.self.now F c.args.frame.now many h (rw c.in-Taken.is at (c.in_ok-message.ensures.answer h.events h.stands)).1;
    short = tt;
    refused = tt;
    wanted = tt;
    after = tt;
  },
)

pub returns-in-Ignored : goal.returns-in-Ignored
returns-in-Ignored c = (
  (
    refl,
    (λ _. tt),
    (λ none F h.
        hears_quiet c.args.self.now F c.args.frame.now _ none h ((on_ok _ _ _ _ c.in_ok-message.was c.feed.follows.holds-at-none).0 h.events h.stands)),
  ),
  record {
    heard = λ singles leaves many F h. silent_many singles leaves c.args.self.now F c.args.frame.now many h (rw c.in-Ignored.is at (c.in_ok-message.ensures.answer h.events h.stands)).1;
    short = tt;
    refused = tt;
    wanted = tt;
    after = tt;
  },
)
