-- A claim, a message by itself, or a frame that may be one of many.
use Rattle.std.proofs.Common.{◌≡◌, ◌∙◌, ◌==◌, ◌++◌, ◌∷◌, [], List, None, length, refl, sym, ap, subst}
use Rattle.std.specs.Option.{option_map}
use Rattle.j39_address.specs.Name.{name_raw}
use Rattle.j39_address.specs.Claim.{claim_of, claims_of}
use Rattle.j39_address.specs.Holder.{IsHolderAfter}
use Rattle.j39_frame.specs.Frame.{FrameRecord}
use Rattle.j39_frame.specs.Identifier.{pgn_of, source_of}
use Rattle.j39_groups.specs.Readings.{is_network_group}
use Rattle.j39_listen.specs.Heard.{HeardAtWith}
use Rattle.j39_listen.specs.Listening.{Hears}
use Rattle.j39_listen.proofs.ListenerLemmas.{heard_claim, heard_single, hears_single, is_many, no_claim, on_ok_given, outside_claims, silent_outside}
use Rattle.j39_listen.proofs.PieceLemmas.{if_ok}
use Rattle.j39_listen.proofs.listener.Listener.feed_as.Goals as goal

pub returns-then-is_single : goal.returns-then-is_single
returns-then-is_single c =
    let free = c.requires c.if-is_single.true in (
      (refl, (λ _. tt), (λ F h. hears_single c.args.self.now F c.args.frame.now free (outside_claims c.args.frame.now free) h)),
      record {
        heard = λ singles leaves said F h.
            let name = subst (λ a. IsHolderAfter (claims_of F) a (option_map name_raw c.holder.result)) (c.source.ensures ∙ ap (λ (x : FrameRecord). source_of x.id) c.frame.view_is) (c.holder.ensures.holder F h.knows) in
            subst (HeardAtWith singles (F ++ c.args.frame.now ∷ []) (length F)) (sym c.alone.ensures.value)
            (heard_single singles leaves c.args.self.now F c.args.frame.now (option_map name_raw c.holder.result) (said ∙ c.if-is_single.true) h name);
        short = c.alone.ensures.short;
        refused = tt;
        wanted = tt;
        after = tt;
      },
    )

pub returns-then-not-is_network_group : goal.returns-then-not-is_network_group
returns-then-not-is_network_group c =
    let free = sym (c.is_network_group.ensures ∙ ap is_network_group (c.pgn.ensures ∙ ap (λ (x : FrameRecord). pgn_of x.id) c.frame.view_is)) ∙ c.if-not-is_network_group.true in (
      (refl, (λ _. tt), (λ F h. hears_single c.args.self.now F c.args.frame.now free (outside_claims c.args.frame.now free) h)),
      record {
        heard = λ singles leaves said F h. silent_outside singles leaves c.args.self.now F c.args.frame.now free (said ∙ c.if-is_single.false) h;
        short = tt;
        refused = tt;
        wanted = tt;
        after = tt;
      },
    )

pub returns-then-is_address_claimed : goal.returns-then-is_address_claimed
returns-then-is_address_claimed c = (
  (refl, (λ _. tt), c.in_ok-note.ensures.noted),
  record {
    heard = λ singles leaves said F h. heard_claim singles leaves c.args.self.now F c.args.frame.now (sym (c.is_address_claimed.ensures ∙ ap (λ (x : FrameRecord). pgn_of x.id == 60928) c.frame.view_is) ∙ c.if-is_address_claimed.true) h;
    short = tt;
    refused = tt;
    wanted = tt;
    after = tt;
  },
)

pub returns : goal.returns
returns c =
    let other = sym (c.is_address_claimed.ensures ∙ ap (λ (x : FrameRecord). pgn_of x.id == 60928) c.frame.view_is) ∙ c.if-is_address_claimed.false in (
      (
        refl,
        (λ _. tt),
        on_ok_given c.assemble.result (claim_of c.args.frame.now ≡ None)
            ((F : List FrameRecord) → Hears c.args.self.now F → Hears c.assemble.follows.lender-at-none (F ++ c.args.frame.now ∷ []))
            (λ _. c.assemble.follows.lender-at-none ≡ c.args.self.now) (no_claim c.args.frame.now other) c.assemble.follows.holds-at-none,
      ),
      record {
        heard = if_ok c.assemble.result _ _ (λ heard many singles leaves said. many singles leaves (is_many singles c.args.frame.now other (said ∙ c.if-is_single.false))) c.assemble.ensures.heard;
        short = c.assemble.ensures.short;
        refused = c.assemble.ensures.refused;
        wanted = c.assemble.ensures.wanted;
        after = tt;
      },
    )
