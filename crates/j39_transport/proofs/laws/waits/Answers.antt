use Rattle.j39_transport.proofs.Waiting.{sender_waits, receiver_waits_so}
use Rattle.j39_transport.proofs.laws.waits.Goals as goal

pub returns : goal.returns
returns c = record { sender = sender_waits; receiver = receiver_waits_so }
