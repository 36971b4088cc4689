-- Packets that are lost or repeated change no holder.
use Rattle.std.proofs.Common.{◌≡◌, ℕ, zero, suc, ◌<◌, ◌≤◌, Bool, true, List, [], ◌∷◌, length, get_or, Option, None, refl, sym, ap, ◌∙◌, subst, inl, inr, arith, eqb-true}
use Rattle.std.proofs.lemmas.Bool.{cases_Bool, false_from_ne_true}
use Rattle.j39_address.proofs.HolderLemmas.{held_after, holder_agree, holder_is, one_more, same_holder}
use Rattle.j39_address.specs.Claim.{claim_of, claims_of}
use Rattle.j39_address.specs.Holder.{IsHolder}
use Rattle.j39_frame.specs.Frame.{FrameRecord}
use Rattle.j39_frame.specs.Identifier.{pgn_of}
use Rattle.j39_groups.specs.Row.{RowRecord}
use Rattle.j39_listen.proofs.ListenerLemmas.{no_claim}
use Rattle.j39_listen.proofs.Masks.{kept_at, rank, rank_gone, rank_kept}
use Rattle.j39_listen.proofs.Reported.{packet_group}
use Rattle.j39_listen.proofs.Story.{Story, copy_packet}
use Rattle.j39_listen.specs.Heard.{frame_at}
use Rattle.j39_listen.specs.Loss.{without}
use Rattle.j39_listen.specs.Published.{Publishing}
use Rattle.j39_transport.specs.Frames.{is_packet}
use Rattle.j39_transport.specs.Key.{Key}
use Rattle.j39_transport.specs.Key.Key.{Broadcast}

claim_entry : (F : List FrameRecord) (i : ℕ) → get_or (claims_of F) i None ≡ claim_of (frame_at F i)
claim_entry [] i = refl
claim_entry (f ∷ F) zero = refl
claim_entry (f ∷ F) (suc i) = claim_entry F i

packet_claims : (k : Key) (f : FrameRecord) → is_packet k f ≡ true → claim_of f ≡ None
packet_claims k f h = no_claim f (false_from_ne_true _ (λ e.
    let a : pgn_of f.id ≡ 60160 = packet_group k f h in let b : pgn_of f.id ≡ 60928 = eqb-true _ _ e in omega arith))

-- who holds an address is the same without frames that claim nothing
holder_rest : (X : ℕ → Bool) (F : List FrameRecord) → ((i : ℕ) → X i ≡ true → claim_of (frame_at F i) ≡ None)
    → (i a : ℕ) (o : Option ℕ) → a < 254 → i ≤ length F → IsHolder (claims_of F) i a o → IsHolder (claims_of (without X F)) (rank X i) a o
holder_rest X F n zero a o w l h = holder_agree (claims_of F) (claims_of (without X F)) 0 a o (λ j m. absurd (omega arith)) h
holder_rest X F n (suc i) a o w l h =
    let G = without X F in
    let p = holder_is (claims_of F) i a in
    let r : IsHolder (claims_of G) (rank X i) a p.0 = holder_rest X F n i a p.0 w (omega arith) p.1 in
    elim (cases_Bool (X i)) [
      | inl e ↦
          let q : p.0 ≡ o = same_holder (claims_of F) (suc i) a p.0 o (one_more (claims_of F) i a None p.0 w (claim_entry F i ∙ n i e) p.1) h in
          subst (λ (k : ℕ). IsHolder (claims_of G) k a o) (sym (rank_gone X i e)) (subst (λ (x : Option ℕ). IsHolder (claims_of G) (rank X i) a x) q r)
      | inr e ↦
          let c = get_or (claims_of F) i None in
          let d : get_or (claims_of G) (rank X i) None ≡ c =
          claim_entry G (rank X i) ∙ (ap claim_of (kept_at X F i (record { stamp = 0; id = 0; bytes = [] }) e (omega arith)) ∙ sym (claim_entry F i)) in
          let q : held_after a c p.0 ≡ o = same_holder (claims_of F) (suc i) a (held_after a c p.0) o (one_more (claims_of F) i a c p.0 w refl p.1) h in
          subst (λ (k : ℕ). IsHolder (claims_of G) k a o) (sym (rank_kept X i e))
          (subst (λ (x : Option ℕ). IsHolder (claims_of G) (suc (rank X i)) a x) q (one_more (claims_of G) (rank X i) a c p.0 w d r))
    ]

module _ (groups : List RowRecord) (F H : List FrameRecord) (P : Publishing) (X Y : ℕ → Bool) (st : Story groups F H P X Y) where
  -- at places up to which the same frames stand, but for what is lost and repeated
  pub holder_to_H : (f h a : ℕ) (o : Option ℕ) → a < 254 → f ≤ length F → h ≤ length H → rank X f ≡ rank Y h
      → IsHolder (claims_of F) f a o → IsHolder (claims_of H) h a o
  holder_to_H f h a o w l m e k =
      let p = holder_is (claims_of H) h a in
      let x : IsHolder (claims_of (without X F)) (rank X f) a o = holder_rest X F (λ i t. let r = st.lost i t in packet_claims r.0 _ r.1) f a o w l k in
      let y : IsHolder (claims_of (without Y H)) (rank Y h) a p.0 = holder_rest Y H (λ i t. let r = copy_packet groups F H P X Y st i t in packet_claims (Broadcast r.0) _ r.1) h a p.0 w m p.1 in
      let z : IsHolder (claims_of (without Y H)) (rank Y h) a o =
      subst (λ (G : List FrameRecord). IsHolder (claims_of G) (rank Y h) a o) st.one_rest (subst (λ (i : ℕ). IsHolder (claims_of (without X F)) i a o) e x) in
      subst (λ (q : Option ℕ). IsHolder (claims_of H) h a q) (same_holder (claims_of (without Y H)) (rank Y h) a p.0 o y z) p.1
