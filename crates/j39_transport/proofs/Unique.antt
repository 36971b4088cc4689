-- At most one message is whole at a place: laws `one_message`, `at_a_packet`, `counts`.
use Rattle.std.proofs.Common.{◌≡◌, ℕ, suc, ◌<◌, true, List, length, take, refl, sym, ap, ◌∙◌, subst, arith}
use Rattle.std.proofs.lemmas.Bool.{both_ways}
use Rattle.j39_transport.specs.Key.{Key}
use Rattle.j39_transport.specs.Events.{Event, at, sends, size, packets, group}
use Rattle.j39_transport.specs.Assembly.{Links, Runs, joined_at, Whole}
use Rattle.j39_transport.specs.Events.Event.{Frame, Forget}
use Rattle.j39_transport.specs.AssemblerLaws.{OneMessageLaw, AtPacketLaw, CountsLaw}
use Rattle.j39_transport.proofs.Chains.{Links-unique, start_unique}
use Rattle.j39_transport.proofs.Taken.{whole_ends}
use Rattle.j39_transport.proofs.FramePlaces.{packet_key}
use Rattle.j39_transport.proofs.Tables.{opens_unique}
use Rattle.j39_transport.proofs.Sums.{opens_few}

sent_key : (j k : Key) (e : Event) → sends j e ≡ true → sends k e ≡ true → j ≡ k
unfolding sends
sent_key j k (Frame f) a b = packet_key j k f a b
sent_key j k (Forget t) a b = absurd (both_ways _ refl a)

one_of_key : (E : List Event) (i : ℕ) (k : Key) (g h : ℕ) (b c : List ℕ) → Whole E i k g b → Whole E i k h c → (g ≡ h) × (b ≡ c)
one_of_key E i k g h b c w v =
    let e : w.start ≡ v.start = start_unique E k g h w.start v.start (suc i) w.chain.announced v.chain.announced (let l : w.start < i = (whole_ends E i k g b w).1 in omega arith) (let l : v.start < i = (whole_ends E i k h c v).1 in omega arith)
    (subst (λ (t : ℕ). Runs E k g w.start (suc t)) w.ends_at w.chain.runs) (subst (λ (t : ℕ). Runs E k h v.start (suc t)) v.ends_at v.chain.runs) in
    let x : at E w.start ≡ at E v.start = ap (at E) e in
    let n : length w.places ≡ length v.places = w.full ∙ (ap packets x ∙ sym v.full) in
    let p : w.places ≡ v.places = Links-unique E k w.start w.places v.places n w.chain.links (subst (λ (t : ℕ). Links E k t v.places) (sym e) v.chain.links) in (
      w.chain.group_is ∙ (ap group x ∙ sym v.chain.group_is),
      w.bytes_are ∙ (ap (λ (z : Event). take (size z) (joined_at E w.places)) x ∙ (ap (λ (qs : List ℕ). take (size (at E v.start)) (joined_at E qs)) p ∙ sym v.bytes_are)),
    )

pub one_message : OneMessageLaw
one_message E i k j g h b c w v =
    let e : j ≡ k = sent_key j k (at E i) (whole_ends E i j h c v).0 (whole_ends E i k g b w).0 in
    let o = one_of_key E i k g h b c w (subst (λ (x : Key). Whole E i x h c) e v) in
    (sym e, o.0, o.1)

pub at_a_packet : AtPacketLaw
at_a_packet E i k g b w = (whole_ends E i k g b w).0

pub counts : CountsLaw
counts E n m held kept h k =
    let u = opens_unique E _ n m held kept h k in
    let f = opens_few E n held h in
    (u.one_count, u.one_held, f.0, f.1)
