-- What was sent with a loss and a copy: the premises of the law on repeats can be met, with a loss and a copy in them.
use Rattle.std.proofs.Common.{◌≡◌, ◌⊎◌, ℕ, ◌<◌, Bool, true, false, ◌&&◌, refl, sym, ap, ◌∙◌, subst, inl, inr, arith, ◌==◌, eqb-true, eq-eqb}
use Rattle.std.proofs.lemmas.Bool.{and_from, or_cases}
use Rattle.j39_groups.specs.Readings as readings
use Rattle.j39_groups.specs.Readings.{is_reported_in, readings_in}
use Rattle.j39_groups.specs.Table.{the_table}
use Rattle.j39_frame.specs.Identifier.{pgn_of}
use Rattle.j39_listen.proofs.Checked as checked
use Rattle.j39_listen.proofs.Checked.{never_back}
use Rattle.j39_listen.proofs.CheckedItems.{all_below, below_at, implied, implies}
use Rattle.j39_listen.proofs.Events.{packet_within}
use Rattle.j39_listen.proofs.TransferExample.{directed_carried}
use Rattle.j39_listen.proofs.NoTransferExamples.{parts_carried}
use Rattle.j39_listen.proofs.Reported.{packet_group}
use Rattle.j39_listen.specs.Heard.{frame_at}
use Rattle.j39_listen.specs.Loss.{IsCopy, LostTogether, Repeated, Thinned}
use Rattle.j39_listen.specs.LossExample.{heard_frames, left_frames, left_values, lost, sent, sent_frames, sent_values}
use Rattle.j39_listen.specs.Published.{Published, number_at}
use Rattle.j39_listen.specs.Values.{no_place, values}
use Rattle.j39_transport.specs.Frames as frames
use Rattle.j39_transport.specs.Frames.{destination_of, goes, group_of, is_announcement, is_control, is_end, is_packet}
use Rattle.j39_transport.specs.Key.{Key}
use Rattle.j39_transport.specs.Key.Key.{Broadcast, Directed}

pub is_published : Published the_table sent_frames sent
unfolding is_reported_in the_table is_end is_control goes group_of destination_of frames.source_of
is_published = checked.is_published sent_frames sent (checked.passes sent_frames sent
    (((0, omega arith, refl), directed_carried, refl), (((1, omega arith, refl), parts_carried 2005000 2055000 2105000, refl), tt)) refl)

pub are_sent : values the_table sent_frames sent no_place ≡ sent_values
unfolding readings_in the_table readings.values_at readings.text_meaning
are_sent = refl

pub are_left : values the_table sent_frames sent lost ≡ left_values
unfolding readings_in the_table readings.values_at readings.text_meaning
are_left = refl

-- ---- the loss

two_places : (i : ℕ) → lost i ≡ true → (i ≡ 6) ⊎ (i ≡ 10)
two_places i h = elim (or_cases (i == 6) (i == 10) h) [ inl e ↦ inl (eqb-true _ _ e) | inr e ↦ inr (eqb-true _ _ e) ]

at_both : (T : ℕ → Type 0) → T 6 → T 10 → (i : ℕ) → lost i ≡ true → T i
at_both T a b i h = elim (two_places i h) [ inl e ↦ subst T (sym e) a | inr e ↦ subst T (sym e) b ]

pub is_thinned : Thinned sent_frames left_frames lost
unfolding is_packet goes group_of destination_of frames.source_of
is_thinned = record {
  inside = at_both (λ i. i < 13) (omega arith) (omega arith);
  packets_only = at_both (λ i. (k : Key) × (is_packet k (frame_at sent_frames i) ≡ true)) (Directed 0 11, refl) (Directed 0 11, refl);
  rest_is = refl;
}

-- each packet numbered 3 is lost
is_third : ℕ → Bool
is_third j = pgn_of (frame_at sent_frames j).id == 60160 && number_at sent_frames j == 3

thirds_lost : all_below (λ j. implies (is_third j) (lost j)) 13 ≡ true
unfolding is_third
thirds_lost = refl

pub are_lost_together : LostTogether sent_frames sent lost
unfolding is_third
are_lost_together i j s d of_publisher gone behind packet_i packet_j same no_announcement =
    let third : number_at sent_frames i ≡ 3 = at_both (λ q. number_at sent_frames q ≡ 3) refl refl i gone in
    implied _ _ (below_at (λ q. implies (is_third q) (lost q)) 13 j thirds_lost (packet_within sent_frames (Directed s d) j packet_j))
    (and_from _ _ (eq-eqb _ _ (packet_group (Directed s d) (frame_at sent_frames j) packet_j)) (eq-eqb _ _ (same ∙ third)))

-- ---- the copy

abbrev copied : ℕ → Bool
copied c = c == 9

pub is_repeated : Repeated left_frames heard_frames
unfolding is_announcement is_packet goes group_of destination_of frames.source_of
is_repeated = record {
  copies = copied;
  inside = λ c h. let e : c ≡ 9 = eqb-true _ _ h in omega arith;
  rest_is = refl;
  each = λ c h. subst (λ (t : ℕ). (s : ℕ) × (q : ℕ) × (copied q ≡ false) × IsCopy heard_frames s q t) (sym (eqb-true _ _ h)) (
    11,
    7,
    refl,
    record {
      behind = omega arith;
      packet = refl;
      same_id = refl;
      same_bytes = refl;
      no_announcement = λ r u v. let e : r ≡ 8 = omega arith in ap (λ (t : ℕ). is_announcement (Broadcast 11) (frame_at heard_frames t)) e;
    },
  );
  never_back = never_back heard_frames refl;
}
