use Rattle.j39_node.proofs.Common.{[], ◌∷◌, arith, At, begins, Bring, brings, brought_start, clear_to, control_in, first_from, goes, Hear, inl, is_announcement, key_between, names_message, other_request_from, refl, request_in, said_between, said_to, Some, spares, TakeFrame, two}
use Rattle.j39_transport.specs.Frames.{is_packet, group_of, source_of, destination_of}
use Rattle.j39_transport.specs.Signals.{said_by, packet_in}
use Rattle.j39_node.proofs.session_laws.an_example_of_packets.Goals as goal

pub returns-clause-bring : goal.returns-clause-bring
unfolding said_to said_between said_by control_in packet_in request_in is_announcement is_packet goes group_of source_of destination_of names_message key_between
returns-clause-bring c =
    let first : Bring two 11 brought_start (At 300001 (TakeFrame (Some (clear_to 300001))) ∷ []) 0 [] 300000 = spares [] 0 300000 [] _ begins refl in
    let second : Bring two 11 brought_start (At 300002 (Hear (other_request_from 300002)) ∷ At 300001 (TakeFrame (Some (clear_to 300001))) ∷ []) 0 [] 300000 =
    spares _ 0 300000 [] _ first (inl (λ e. absurd (omega (arith, e))), refl, refl) in
    brings _ 0 300000 300003 [] (1 ∷ 2 ∷ 3 ∷ 4 ∷ 5 ∷ 6 ∷ 7 ∷ []) (first_from 300003) second (record { held = refl; source = refl; says = refl; in_time = omega arith })
