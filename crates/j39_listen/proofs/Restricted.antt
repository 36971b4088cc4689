-- The report by the rows of some parameters: the entries of these parameters, frame by frame.
use Rattle.std.proofs.Common.{◌≡◌, ◌∙◌, ◌++◌, ◌∷◌, ℕ, zero, suc, true, List, [], Option, Some, None, length, map, ap, sym, inl, inr, refl, flat_map, append-nil}
use Rattle.std.specs.Prelude.{◌⊎◌, filter}
use Rattle.std.proofs.lemmas.Bool.{cases_Bool}
use Rattle.std.proofs.lemmas.Grind.{flat_map-append}
use Rattle.std.proofs.lemmas.List.Elements.{filter-append}
use Rattle.j39_frame.specs.Frame.{FrameRecord}
use Rattle.j39_groups.proofs.RestrictedLemmas.{restricted_readings, restricted_reported, same_readings, same_reported, unreported_readings}
use Rattle.j39_groups.specs.Readings.{HaveSameGroups, is_among, is_reported_in, readings_in, rows_of_spns}
use Rattle.j39_groups.specs.Row.{RowRecord}
use Rattle.j39_groups.specs.Value.{ReadingRecord}
use Rattle.j39_transport.specs.Message.{MessageRecord}
use Rattle.j39_listen.proofs.Reported.{reported_free, reported_leaves}
use Rattle.j39_listen.proofs.Unique.{heard_unique}
use Rattle.j39_listen.specs.Heard.{HeardAt, HeardBelowWith, Hearing, IsAssembled, IsHeard, IsSingle, or_none}
use Rattle.j39_listen.specs.Report.{Entry, IsReport, entries_among, entries_of, entry_of}

of_readings : (spns : List ℕ) (h : Hearing) (readings : List ReadingRecord)
    → map (entry_of h) (filter (λ r. is_among spns r.spn) readings) ≡ entries_among spns (map (entry_of h) readings)
of_readings spns h [] = refl
of_readings spns h (r ∷ readings) = elim (cases_Bool (is_among spns r.spn)) [
  | inl kept ↦ rw kept (ap (λ es. entry_of h r ∷ es) (of_readings spns h readings))
  | inr left ↦ rw left (of_readings spns h readings)
]

module _ (spns : List ℕ) (these those : List RowRecord) (same : HaveSameGroups these (rows_of_spns spns those)) where
  entries_kept : (h : Hearing) → entries_of these h ≡ entries_among spns (entries_of those h)
  entries_kept h =
      ap (map (entry_of h)) (same_readings these (rows_of_spns spns those) same h.message.pgn h.message.bytes ∙ restricted_readings spns those h.message.pgn h.message.bytes)
      ∙ of_readings spns h (readings_in those h.message.pgn h.message.bytes)

  single_of_both : (F : List FrameRecord) (i : ℕ) (m : MessageRecord) → IsSingle those F i m → is_reported_in these m.pgn ≡ true → IsSingle these F i m
  single_of_both F i m s reported = record {
    inside = s.inside;
    single = ap (is_reported_in these) s.pgn_is ∙ reported;
    address = s.address;
    source_is = s.source_is;
    pgn_is = s.pgn_is;
    bytes_are = s.bytes_are;
  }

  heard_of_both : (F : List FrameRecord) (i : ℕ) (h : Hearing) → IsHeard these F i h → IsHeard those F i h
  heard_of_both F i h x = record {
    carried = by x.carried;
    held_by = x.held_by;
    destination_is = x.destination_is;
    stamp_is = x.stamp_is;
  }
    where
      by : IsSingle these F i h.message ⊎ IsAssembled F i h.message h.name → IsSingle those F i h.message ⊎ IsAssembled F i h.message h.name
      by (inl s) = inl (record {
        inside = s.inside;
        single = restricted_reported spns those _ (sym (same_reported these (rows_of_spns spns those) same _) ∙ s.single);
        address = s.address;
        source_is = s.source_is;
        pgn_is = s.pgn_is;
        bytes_are = s.bytes_are;
      })
      by (inr a) = inr a

  -- what is heard at a place by both, and its entries
  here : (F : List FrameRecord) (i : ℕ) (o p : Option Hearing) → HeardAt these F i o → HeardAt those F i p
      → flat_map (entries_of these) (or_none o) ≡ entries_among spns (flat_map (entries_of those) (or_none p))
  here F i None None h k = refl
  here F i (Some x) None h k = absurd (k x (heard_of_both F i x h))
  here F i (Some x) (Some y) h k =
      let one = heard_unique (is_reported_in those) (reported_leaves those) F i x y (heard_of_both F i x h) k in
      append-nil (entries_of these x) ∙ entries_kept x ∙ ap (λ z. entries_among spns (entries_of those z)) one ∙ ap (entries_among spns) (sym (append-nil (entries_of those y)))
  here F i None (Some y) h k = silent k.carried
    where
      silent : IsSingle those F i y.message ⊎ IsAssembled F i y.message y.name → [] ≡ entries_among spns (flat_map (entries_of those) (y ∷ []))
      silent (inr a) = absurd (h y (record { carried = inr a; held_by = k.held_by; destination_is = k.destination_is; stamp_is = k.stamp_is }))
      silent (inl s) = elim (cases_Bool (is_reported_in these y.message.pgn)) [
        | inl reported ↦ absurd (h y (record { carried = inl (single_of_both F i y.message s reported); held_by = k.held_by; destination_is = k.destination_is; stamp_is = k.stamp_is }))
        | inr left ↦
            let free = reported_free those y.message.pgn (ap (is_reported_in those) (sym s.pgn_is) ∙ s.single) in
            let none : entries_of these y ≡ [] = ap (map (entry_of y)) (unreported_readings these y.message.pgn y.message.bytes free left) in
            sym none ∙ entries_kept y ∙ ap (entries_among spns) (sym (append-nil (entries_of those y)))
      ]

  -- at the first n places
  below : (F : List FrameRecord) (n : ℕ) (hs ks : List Hearing) → HeardBelowWith (is_reported_in these) F n hs → HeardBelowWith (is_reported_in those) F n ks
      → flat_map (entries_of these) hs ≡ entries_among spns (flat_map (entries_of those) ks)
  below F zero hs ks h k = ap (flat_map (entries_of these)) h ∙ sym (ap (λ xs. entries_among spns (flat_map (entries_of those) xs)) k)
  below F (suc n) hs ks h k =
      ap (flat_map (entries_of these)) h.4 ∙ flat_map-append (entries_of these) h.0 (or_none h.1)
      ∙ ap (λ es. es ++ flat_map (entries_of these) (or_none h.1)) (below F n h.0 k.0 h.2 k.2)
      ∙ ap (λ es. entries_among spns (flat_map (entries_of those) k.0) ++ es) (here F n h.1 k.1 h.3 k.3)
      ∙ sym (filter-append (λ (e : Entry). is_among spns e.spn) (flat_map (entries_of those) k.0) (flat_map (entries_of those) (or_none k.1)))
      ∙ ap (entries_among spns) (sym (flat_map-append (entries_of those) k.0 (or_none k.1)) ∙ ap (flat_map (entries_of those)) (sym k.4))

  pub report_among : (F : List FrameRecord) (some all : List Entry) → IsReport these F some → IsReport those F all → some ≡ entries_among spns all
  report_among F some all h k = h.2 ∙ below F (length F) h.0 k.0 h.1 k.1 ∙ ap (entries_among spns) (sym k.2)
