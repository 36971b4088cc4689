use Rattle.j39_sessions.proofs.Common.{[], ◌∷◌, arith, control_in, inl, key_between, None, packed_in, refl, request_in, said_between, said_to}
use Rattle.j39_transport.specs.Frames.{destination_of, group_of, names_message, source_of}
use Rattle.j39_transport.specs.Signals.{said_by}
use Rattle.j39_sessions.specs.Events.{Hears, Releases}
use Rattle.j39_sessions.specs.Example.{first_packet}
use Rattle.j39_sessions.specs.Packets.{begins, Bring, brings, spares}
use Rattle.j39_sessions.proofs.laws.an_example.Goals as goal

pub returns-clause-opens : goal.returns-clause-opens
unfolding said_to said_between said_by control_in request_in names_message group_of source_of destination_of
returns-clause-opens c = (refl, refl, refl)

pub returns-clause-bring : goal.returns-clause-bring
unfolding said_to said_between said_by packed_in group_of source_of destination_of key_between
returns-clause-bring c =
    let first : Bring 128 11 None 1000 (Releases ∷ []) 0 [] 1000 = spares [] 0 1000 [] Releases begins tt in
    brings _ 0 1000 3000 [] (1 ∷ 2 ∷ 3 ∷ 4 ∷ 5 ∷ 6 ∷ 7 ∷ []) None first_packet (spares (Releases ∷ []) 0 1000 [] (Hears 2000 None _) first (inl (λ e. absurd (omega (arith, e)))))
    (record { source = refl; says = refl; in_time = omega arith })

pub returns-clause-last : goal.returns-clause-last
unfolding said_to said_between said_by packed_in group_of source_of destination_of key_between
returns-clause-last c = record { source = refl; says = refl; in_time = omega arith }
