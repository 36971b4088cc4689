-- What the sessions of the code show.
use Rattle.std.specs.Prelude.{◌+◌}
use Rattle.j39_sessions.specs.Common.{length, map}
use Rattle.j39_sessions.specs.Seats.{in_box, kept_in, sender_in}
use Rattle.j39_sessions.specs.Sessions.{Reply, SessionsRecord}
use Rattle.j39_sessions.specs.declared.sessions.Said.{Said}
use Rattle.j39_sessions.specs.declared.sessions.Sessions.{Sessions}

abbrev pub said_by : Said → Reply
said_by x = record { to = x.to; bytes = x.bytes }

abbrev pub sessions_of : Sessions → SessionsRecord
sessions_of x = record {
  own = x.own;
  most = x.most;
  boxes = length x.current.items + length x.whole.items + length x.free.items;
  sessions = map in_box x.current.items;
  waits = map kept_in x.whole.items;
  senders = map sender_in x.whole.items;
  replies = map said_by x.replies.items;
}
