use Rattle.std.proofs.Common.{[], ◌∷◌, ◌+◌, ◌<◌, ◌∙◌, ◌≡◌, ◌≤◌, ap, arith, inl, refl, Some, subst, suc, sym, zero, ℕ}
use Rattle.j39_address.specs.Claim.{Claim, claim_of}
use Rattle.j39_frame.specs.Frame.{FrameRecord}
use Rattle.j39_node.specs.Example.{announcement, first_packet, last_packet, own_claim, speed_frame}
use Rattle.j39_node.specs.History.{frames, is_claim}
use Rattle.j39_node.specs.Is.{AreAnswered}
use Rattle.j39_transport.specs.Cutting as cutting
use Rattle.j39_transport.specs.Frames as frame
use Rattle.j39_transport.specs.Receiving as receiving
use Rattle.j39_transport.specs.Reception as session
use Rattle.j39_transport.specs.Signals as signal
use Rattle.j39_net.proofs.DefenceLemmas.{defends}
use Rattle.j39_node.proofs.Tests.{not_both}
use Rattle.j39_net.specs.Example.{both, first, larger_claim, passed, second}
use Rattle.j39_listen.specs.Heard.{frame_at}
use Rattle.j39_net.specs.Net.{log, ComesIn, Come, hears, InTime, IsLater, IsMember, IsNoClaim, Member, Net, others, own, Passed}
use Rattle.j39_net.proofs.laws.an_example.Goals as goal

each : (P : ℕ → Member → Type 0) → P 0 first → P 1 second → (i : ℕ) (m : Member) → IsMember both i m → P i m
each P a b zero m e = subst (P 0) (let z : first ≡ m = cc in z) a
each P a b (suc zero) m e = subst (P 1) (let z : second ≡ m = cc in z) b
each P a b (suc (suc i)) m e = absurd (cc)

first_answered : AreAnswered first.who first.history
unfolding receiving.recv_step session.takes_signal receiving.said_to frame.source_of signal.said_between frame.destination_of cutting.cut_frame cutting.announcement_of cutting.packet_of cutting.packet_data
first_answered = ((((((((((((((omega arith, refl), refl), refl), refl), refl), tt), refl), refl), refl), refl), refl), refl), refl), refl)

first_in_time : InTime 0 404000 first.history
first_in_time = (omega arith, (omega arith, (omega arith, (omega arith, (omega arith, (omega arith, (omega arith, (omega arith, (omega arith, (omega arith, (omega arith, (omega arith, omega arith))))))))))))

first_comes : ComesIn 100000 0 404000 first.history
first_comes = (omega arith, (omega arith, (omega arith, (omega arith, (omega arith, (omega arith, (omega arith, (omega arith, (omega arith, omega arith)))))))))

second_answered : AreAnswered second.who second.history
unfolding receiving.recv_step session.takes_signal receiving.said_to frame.source_of signal.said_between frame.destination_of frame.group_of frame.goes frame.names_message frame.is_announcement frame.is_packet
second_answered = (((((((((omega arith, refl), refl), tt), tt), refl), tt), tt), tt), refl)

later : (f g : FrameRecord) → g.id ≡ f.id → g.bytes ≡ f.bytes → f.stamp ≤ g.stamp → g.stamp ≤ f.stamp + 1000 → IsLater 1000 f g
later f g id bytes behind in_time = record { id = id; bytes = bytes; behind = behind; in_time = in_time }

apart : (i j : ℕ) (m n : Member) → IsMember both i m → IsMember both j n → m.who.name ≡ n.who.name → i ≡ j
apart i j m n a b e = each (λ i m. m.who.name ≡ n.who.name → i ≡ j)
    (λ e. each (λ j n. 2 ≡ n.who.name → 0 ≡ j) (λ e. refl) (λ e. absurd (omega (arith, e))) j n b e)
    (λ e. each (λ j n. 3 ≡ n.who.name → 1 ≡ j) (λ e. absurd (omega (arith, e))) (λ e. refl) j n b e) i m a e

-- whatever may be missing, nothing is
net : (missing : FrameRecord → Type 0) → Net 1000 404000 missing passed both
net missing = record {
  ordered = (omega arith, (omega arith, (omega arith, (omega arith, (omega arith, (omega arith, (omega arith, tt)))))));
  answered = each (λ i m. AreAnswered m.who m.history) first_answered second_answered;
  in_time = each (λ i m. InTime m.since 404000 m.history)
      first_in_time (omega arith, (omega arith, (omega arith, (omega arith, (omega arith, (omega arith, omega arith))))));
  sent = each (λ i m. Come 1000 missing (frames m.history) (own i passed))
      (inl (later _ _ refl refl (omega arith) (omega arith), inl (later _ _ refl refl (omega arith) (omega arith), inl (later _ _ refl refl (omega arith) (omega arith), rest 303100 353100 403100 303300 353300 403300 (omega arith) (omega arith) (omega arith) (omega arith) (omega arith) (omega arith)))))
      (inl (later _ _ refl refl (omega arith) (omega arith), tt));
  heard = each (λ i m. Come 1000 missing (others i m.since passed) (hears m.history))
      (inl (later _ _ refl refl (omega arith) (omega arith), tt))
      (inl (later _ _ refl refl (omega arith) (omega arith), inl (later _ _ refl refl (omega arith) (omega arith), rest 303300 353300 403300 303400 353400 403400 (omega arith) (omega arith) (omega arith) (omega arith) (omega arith) (omega arith))));
  address = each (λ i m. m.who.address < 254) (omega arith) (omega arith);
  name = each (λ i m. m.who.name < 18446744073709551616) (omega arith) (omega arith);
  apart = apart;
}
  where
    rest : (a b c d e f : ℕ) → a ≤ d → d ≤ a + 1000 → b ≤ e → e ≤ b + 1000 → c ≤ f → f ≤ c + 1000
        → Come 1000 missing (announcement a ∷ first_packet b ∷ last_packet c ∷ []) (announcement d ∷ first_packet e ∷ last_packet f ∷ [])
    rest a b c d e f l m n o p q = inl (later (announcement a) (announcement d) refl refl l m, inl (later (first_packet b) (first_packet e) refl refl n o, inl (later (last_packet c) (last_packet f) refl refl p q, tt)))

pub returns-clause-at_rest : goal.returns-clause-at_rest
returns-clause-at_rest c = net (IsNoClaim both)

pub returns-clause-never : goal.returns-clause-never
returns-clause-never c = net _

pub returns-clause-announced : goal.returns-clause-announced
returns-clause-announced c = net _

pub returns-clause-told : goal.returns-clause-told
returns-clause-told c = (net _, refl, (((tt, (omega arith, refl)), (omega arith, refl)), (omega arith, refl)))

pub returns-clause-welcome : goal.returns-clause-welcome
unfolding frame.source_of frame.destination_of frame.group_of frame.goes frame.names_message frame.is_announcement frame.is_packet
returns-clause-welcome c = record { box = refl; none = refl; holder = (refl, (refl, (refl, tt))) }

pub returns-clause-comes : goal.returns-clause-comes
returns-clause-comes c = first_comes

pub returns-clause-defends : goal.returns-clause-defends
returns-clause-defends c = defends first.who first.history 100000 200001 0 404000 first_answered first_in_time first_comes refl (omega arith)

pub returns-clause-sends : goal.returns-clause-sends
returns-clause-sends c zero d l a b = refl
returns-clause-sends c (suc zero) d l a b = absurd (not_both (is_claim (larger_claim 300300)) a refl)
returns-clause-sends c (suc (suc zero)) d l a b = refl
returns-clause-sends c (suc (suc (suc zero))) d l a b = refl
returns-clause-sends c (suc (suc (suc (suc zero)))) d l a b = refl
returns-clause-sends c (suc (suc (suc (suc (suc zero))))) d l a b = refl
returns-clause-sends c (suc (suc (suc (suc (suc (suc zero)))))) d l a b = refl
returns-clause-sends c (suc (suc (suc (suc (suc (suc (suc k))))))) d l a b = absurd (omega (arith, l))

pub returns-clause-alone : goal.returns-clause-alone
returns-clause-alone c zero x d l e f by = absurd (by (let z : record { frame = own_claim 200; by = Some 0 } ≡ x = cc in ap (λ (v : Passed). v.by) (sym z)))
returns-clause-alone c (suc zero) x d l e f by =
    let z : record { frame = larger_claim 300300; by = Some 1 } ≡ x = cc in
    let y : Some (record { name = 3; address = 128 }) ≡ Some d = ap (λ (v : Passed). claim_of v.frame) z ∙ f in
    let w : record { name = 3; address = 128 } ≡ d = cc in
    let n : 3 ≡ d.name = ap (λ (k : Claim). k.name) w in
    (λ a. (let b = a in absurd (omega (arith, b, n))), λ a. omega (arith, n))
returns-clause-alone c (suc (suc zero)) x d l e f by = absurd (by (let z : record { frame = own_claim 300800; by = Some 0 } ≡ x = cc in ap (λ (v : Passed). v.by) (sym z)))
returns-clause-alone c (suc (suc (suc zero))) x d l e f by = absurd (by (let z : record { frame = speed_frame 302300; by = Some 0 } ≡ x = cc in ap (λ (v : Passed). v.by) (sym z)))
returns-clause-alone c (suc (suc (suc (suc zero)))) x d l e f by = absurd (by (let z : record { frame = announcement 303300; by = Some 0 } ≡ x = cc in ap (λ (v : Passed). v.by) (sym z)))
returns-clause-alone c (suc (suc (suc (suc (suc zero))))) x d l e f by = absurd (by (let z : record { frame = first_packet 353300; by = Some 0 } ≡ x = cc in ap (λ (v : Passed). v.by) (sym z)))
returns-clause-alone c (suc (suc (suc (suc (suc (suc q)))))) x d l e f by = absurd (omega (arith, l))

pub returns-clause-whole : goal.returns-clause-whole
unfolding frame.source_of frame.destination_of frame.group_of frame.goes frame.names_message frame.is_announcement frame.is_packet
returns-clause-whole c = refl

pub returns-clause-taken : goal.returns-clause-taken
unfolding cutting.cut_frame cutting.announcement_of cutting.packet_of cutting.packet_data
returns-clause-taken c = (refl, refl)

-- none is before the announcement, nor behind the last packet
early : (p : ℕ) → 4 ≤ p → p < 6 → 303300 ≤ (frame_at (log passed) p).stamp
early zero l r = absurd (omega (arith, l))
early (suc zero) l r = absurd (omega (arith, l))
early (suc (suc zero)) l r = absurd (omega (arith, l))
early (suc (suc (suc zero))) l r = absurd (omega (arith, l))
early (suc (suc (suc (suc zero)))) l r = omega arith
early (suc (suc (suc (suc (suc zero))))) l r = omega arith
early (suc (suc (suc (suc (suc (suc p)))))) l r = absurd (omega (arith, r))

late : (q : ℕ) → q ≤ 6 → (frame_at (log passed) q).stamp ≤ 403300
late zero l = omega arith
late (suc zero) l = omega arith
late (suc (suc zero)) l = omega arith
late (suc (suc (suc zero))) l = omega arith
late (suc (suc (suc (suc zero)))) l = omega arith
late (suc (suc (suc (suc (suc zero))))) l = omega arith
late (suc (suc (suc (suc (suc (suc zero)))))) l = omega arith
late (suc (suc (suc (suc (suc (suc (suc q))))))) l = absurd (omega (arith, l))

pub returns-clause-timely : goal.returns-clause-timely
returns-clause-timely c p q l r s = let o = s.order in let a = early p l (omega (arith, o, r)) in let b = late q r in omega (arith, a, b)
