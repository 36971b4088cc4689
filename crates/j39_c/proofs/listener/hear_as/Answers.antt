-- What is heard at the frame, by what the caller says of its group.
use Rattle.std.proofs.Common.{◌≡◌, ◌∙◌, ◌++◌, ◌∷◌, [], ◌&&◌, Bool, Some, true, false, not, length, subst, sym, refl}
use Rattle.j39_frame.specs.Identifier.{pgn_of}
use Rattle.j39_groups.specs.Readings.{is_network_group}
use Rattle.j39_listen.specs.Heard.{Hearing, HeardAtWith}
use Rattle.j39_listen.proofs.ListenerLemmas.{on_ok}
use Rattle.j39_c.proofs.listener.hear_as.Goals as goal

no_network : (single network : Bool) → (single && not network) ≡ true → network ≡ false
no_network true true heard = sym heard
no_network true false heard = refl
no_network false true heard = sym heard
no_network false false heard = refl

pub feed_as-requires : goal.feed_as-requires
feed_as-requires c = λ heard.
    no_network c.args.is_single (is_network_group (pgn_of c.args.frame.now.id)) (sym c.is_heard_alone.ensures ∙ heard)

pub returns-in-Ok-Some-clause-heard : goal.returns-in-Ok-Some-clause-heard
returns-in-Ok-Some-clause-heard c = λ done. record {
  hears = on_ok _ _ _ _ c.in-Ok-Some.is c.feed_as.follows.holds-at-none;
  heard = λ singles leaves said F h.
      subst (λ (m : Hearing). HeardAtWith singles (F ++ c.args.frame.now ∷ []) (length F) (Some m)) (sym c.put.ensures)
      (rw c.in-Ok-Some.field-0-is at (c.in-Ok-Some.ensures.heard singles leaves (said ∙ sym c.is_heard_alone.ensures) F h));
}

pub returns-in-Ok-None-clause-heard : goal.returns-in-Ok-None-clause-heard
returns-in-Ok-None-clause-heard c = λ done. record {
  hears = on_ok _ _ _ _ c.in-Ok-None.is c.feed_as.follows.holds-at-none;
  heard = λ singles leaves said F h.
      rw c.in-Ok-None.field-0-is at (c.in-Ok-None.ensures.heard singles leaves (said ∙ sym c.is_heard_alone.ensures) F h);
}
