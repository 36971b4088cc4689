use Rattle.j39_transport.proofs.Resting.{sender_at_rest, receiver_at_rest, sender_lasts, receiver_lasts}
use Rattle.j39_transport.proofs.RestingSoon.{sender_soon, receiver_soon}
use Rattle.j39_transport.proofs.laws.rests.Goals as goal

pub returns : goal.returns
returns c = record {
  sender = sender_at_rest;
  receiver = receiver_at_rest;
  sender_lasts = sender_lasts;
  receiver_lasts = receiver_lasts;
  sender_soon = sender_soon;
  receiver_soon = receiver_soon;
}
