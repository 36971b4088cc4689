use Rattle.j39_sessions.proofs.Common.{◌∙◌, ap, has_some, in_box, is_of, pgn_raw}
use Rattle.j39_sessions.proofs.BoxLemmas.{any_placed}
use Rattle.j39_sessions.proofs.sessions.Sessions.is_open.Goals as goal

pub returns : goal.returns
returns c =
    c.is_some.ensures ∙ (ap has_some c.place_of.ensures ∙ any_placed in_box (is_of c.args.source (pgn_raw c.args.group)) c.args.self.now.current.items)
