-- The groups that the built-in table reports are heard in one frame.
use Rattle.std.proofs.Common.{◌∙◌, ap, refl, sym}
use Rattle.j39_frame.specs.Frame.{FrameRecord}
use Rattle.j39_frame.specs.Identifier.{pgn_of}
use Rattle.j39_groups.specs.Readings.{is_reported_in}
use Rattle.j39_groups.specs.Table.{the_table}
use Rattle.j39_listen.proofs.PieceLemmas.{if_ok}
use Rattle.j39_listen.proofs.Reported.{reported_free, reported_leaves}
use Rattle.j39_listen.proofs.listener.Listener.feed.Goals as goal

pub feed_as-requires : goal.feed_as-requires
feed_as-requires c = λ reported. reported_free the_table _
    (ap (is_reported_in the_table) (sym (c.pgn.ensures ∙ ap (λ (x : FrameRecord). pgn_of x.id) c.frame.view_is)) ∙ (sym c.is_reported.ensures ∙ reported))

pub returns : goal.returns
returns c = (
  (refl, (λ _. tt), c.feed_as.follows.holds-at-none),
  record {
    heard = if_ok c.feed_as.result _ _ (λ heard said. said (is_reported_in the_table) (reported_leaves the_table)
        (ap (is_reported_in the_table) (sym (c.pgn.ensures ∙ ap (λ (x : FrameRecord). pgn_of x.id) c.frame.view_is)) ∙ sym c.is_reported.ensures)) c.feed_as.ensures.heard;
    short = c.feed_as.ensures.short;
    refused = c.feed_as.ensures.refused;
    wanted = c.feed_as.ensures.wanted;
    after = tt;
  },
)
