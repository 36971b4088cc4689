use Rattle.j39_node.proofs.MessageLaws.{ends_taken, ends_told, asked_fits, sent_fits}
use Rattle.j39_node.proofs.Common.{Ask, At, Ok, Send, ◌∷◌}
use Rattle.j39_node.proofs.ending_laws.message_ends.Goals as goal

pub returns : goal.returns
returns c = record { sent = λ w later earlier c g now k d is prompt l. ends_taken w later (At now (Send d (Ok k)) ∷ earlier) c g k is (sent_fits w later earlier c now k d is) prompt l; sent_told = λ w later earlier c g now k d is prompt l. ends_told w later (At now (Send d (Ok k)) ∷ earlier) c g k is (sent_fits w later earlier c now k d is) prompt l; asked = λ w later earlier c g now group to k is prompt l. ends_taken w later (At now (Ask group to (Ok k)) ∷ earlier) c g k is (asked_fits w later earlier c now group to k is) prompt l; asked_told = λ w later earlier c g now group to k is prompt l. ends_told w later (At now (Ask group to (Ok k)) ∷ earlier) c g k is (asked_fits w later earlier c now group to k is) prompt l }
