-- One line of a run, by the definitions over the list of it alone.
use Rattle.std.proofs.Common.{◌≡◌, ◌<◌, ◌+◌, ◌^◌, ℕ, List, [], ◌∷◌, Option, Some, true, false, length, refl, sym, ap, ◌∙◌, subst, arith, append-nil}
use Rattle.std.specs.Prelude.{unwrap_or, count_by}
use Rattle.std.specs.List.{filter_map}
use Rattle.std.specs.Str.{bytes_eq}
use Rattle.std.proofs.KnownBytes.{Appends-nil}
use Rattle.std.proofs.lemmas.Slice.Eq.{bytes_eq-Decides}
use Rattle.j39_frame.specs.Frame.{FrameRecord}
use Rattle.j39_log.specs.Log.{bus_of, frame_on, frames_of, is_other_on, others_of, unread_of}
use Rattle.j39_log.specs.Spelled.{Spelled, frame, other, unread, blank}
use Rattle.j39_log.proofs.BusLemmas.{bus_of-frame, bus_of-kept}
use Rattle.j39_listen.specs.AccountCalls.{Meets, Stops}
use Rattle.j39_listen.specs.Counting.{capped}
use Rattle.j39_listen.specs.LinesSoFar.{IsNamed, MeetsLine, StopsLine, tally_of}
use Rattle.j39_listen.specs.Output.{Output, Making, Meeting}
use Rattle.j39_listen.specs.declared.counts.Tally.{Tally}

-- ---- tallies

pub capped-fits : (n : ℕ) → n < 2 ^ 64 → capped n ≡ n
capped-fits n h = omega arith

pub capped-sum : (a b n : ℕ) → n ≡ a + b → capped n ≡ capped (capped a + capped b)
capped-sum a b n e = omega arith

pub same_tally : (a b : Tally) → a.frames ≡ b.frames → a.other ≡ b.other → a.unread ≡ b.unread → a ≡ b
same_tally a b f o u = λ i. record { frames = f i; other = o i; unread = u i }

abbrev pub tally : ℕ → ℕ → ℕ → Tally
tally f o u = record { frames = f; other = o; unread = u }

-- a line counts for one at most
pub line_tally : (bus : Option (List ℕ)) (spelled : List Spelled) (f o u : ℕ) → length (frames_of bus spelled) ≡ f → others_of bus spelled ≡ o → unread_of spelled ≡ u
    → f < 2 → o < 2 → u < 2 → tally f o u ≡ tally_of bus spelled
unfolding tally_of
line_tally bus spelled f o u is_f is_o is_u small_f small_o small_u =
    same_tally (tally f o u) (tally_of bus spelled)
    (sym (ap capped is_f ∙ capped-fits f (omega arith)))
    (sym (ap capped is_o ∙ capped-fits o (omega arith)))
    (sym (ap capped is_u ∙ capped-fits u (omega arith)))

-- ---- a frame of the run's bus

-- with a frame the bus is known
with_frame : (name : List ℕ) (f : FrameRecord) (bus : Option (List ℕ)) (own : List ℕ) → own ≡ unwrap_or bus name → bus_of bus (frame name f ∷ []) ≡ Some own
with_frame name f bus own is = bus_of-frame bus name f ∙ ap (λ (b : List ℕ). Some b) (sym is)

pub on_bus : (name : List ℕ) (f : FrameRecord) (bus : Option (List ℕ)) (own : List ℕ) → own ≡ unwrap_or bus name → bytes_eq name own ≡ true → frames_of bus (frame name f ∷ []) ≡ f ∷ []
on_bus name f bus own is on =
    ap (λ (b : Option (List ℕ)). filter_map (frame_on b) (frame name f ∷ [])) (with_frame name f bus own is) ∙ rw on refl

pub its_name : (name : List ℕ) (f : FrameRecord) (bus : Option (List ℕ)) (own given : List ℕ) → own ≡ unwrap_or bus name → IsNamed (bus_of bus (frame name f ∷ [])) given → own ≡ given
its_name name f bus own given is named = sym (ap (λ (o : Option (List ℕ)). unwrap_or o given) (with_frame name f bus own is)) ∙ named

pub known_bus : (bus : Option (List ℕ)) (own name : List ℕ) → bus ≡ Some own → bus ≡ Some name → own ≡ name
known_bus bus own name is as_named = ap (λ (o : Option (List ℕ)). unwrap_or o name) (sym is ∙ as_named)

pub meets_frame : {A : Type 0} (has_met : Meeting A) (name : List ℕ) (f : FrameRecord) (bus : Option (List ℕ)) (own : List ℕ) (a a' : A) (old new : Option (List ℕ))
    → own ≡ unwrap_or bus name → bytes_eq name own ≡ true → Meets (has_met own) a a' (f ∷ []) old new
    → MeetsLine has_met (frame name f) bus (Some own) a a' (tally 1 0 0) old new
meets_frame has_met name f bus own a a' old new is on meets =
    let bus_is = with_frame name f bus own is in
    let frames_are = on_bus name f bus own is on in
    let others_are : others_of bus (frame name f ∷ []) ≡ 0 =
    ap (λ (b : Option (List ℕ)). count_by (is_other_on b) (frame name f ∷ [])) bus_is ∙ rw on refl in
    record {
      bus_is = sym bus_is;
      met_is = line_tally bus (frame name f ∷ []) 1 0 0 (ap length frames_are) others_are refl (omega arith) (omega arith) (omega arith);
      meets = λ given named.
          subst (λ (b : List ℕ). Meets (has_met b) a a' (frames_of bus (frame name f ∷ [])) old new) (its_name name f bus own given is named)
          (subst (λ (fs : List FrameRecord). Meets (has_met own) a a' fs old new) (sym frames_are) meets);
    }

-- the frame of a bus that is known by its name
pub is_own : (bus : Option (List ℕ)) (own name : List ℕ) → bus ≡ Some own → bus ≡ Some name → (own ≡ unwrap_or bus name) × (bytes_eq name own ≡ true)
is_own bus own name is named =
    let same = known_bus bus own name is named in
    (same ∙ sym (ap (λ (o : Option (List ℕ)). unwrap_or o name) named), (bytes_eq-Decides name own).1 (sym same))

pub meets_own : {A : Type 0} (has_met : Meeting A) (name : List ℕ) (f : FrameRecord) (bus : Option (List ℕ)) (own : List ℕ) (a a' : A) (old new : Option (List ℕ))
    → bus ≡ Some own → bus ≡ Some name → Meets (has_met own) a a' (f ∷ []) old new → MeetsLine has_met (frame name f) bus bus a a' (tally 1 0 0) old new
meets_own has_met name f bus own a a' old new is named meets =
    let own_is = is_own bus own name is named in
    subst (λ (b : Option (List ℕ)). MeetsLine has_met (frame name f) bus b a a' (tally 1 0 0) old new) (sym is)
    (meets_frame has_met name f bus own a a' old new own_is.0 own_is.1 meets)

pub stops_frame : {A : Type 0} (has_met : Meeting A) (makes : Making) (name : List ℕ) (f : FrameRecord) (bus : Option (List ℕ))
    (own : List ℕ) (a : A) (old new : Option (List ℕ)) → own ≡ unwrap_or bus name → bytes_eq name own ≡ true → Stops (has_met own) (makes own) a (f ∷ []) old new
    → StopsLine has_met makes (frame name f) bus a old new
stops_frame has_met makes name f bus own a old new is on stops = λ given named.
    subst (λ (b : List ℕ). Stops (has_met b) (makes b) a (frames_of bus (frame name f ∷ [])) old new) (its_name name f bus own given is named)
    (subst (λ (fs : List FrameRecord). Stops (has_met own) (makes own) a fs old new) (sym (on_bus name f bus own is on)) stops)

-- ---- a line that spells none

meets_nothing : {A : Type 0} (has_met : A → List FrameRecord → Output → Type 0) (a : A) (held : Option (List ℕ)) → Meets has_met a a [] held held
meets_nothing has_met a held = λ F before met. record {
  after = before;
  met = subst (λ (fs : List FrameRecord). has_met a fs before) (sym (append-nil F)) met;
  more = [];
  text_is = sym (append-nil before.text);
  written = Appends-nil held;
}

meets_none : {A : Type 0} (has_met : Meeting A) (s : Spelled) (bus bus' : Option (List ℕ)) (a : A) (o u : ℕ) (held : Option (List ℕ))
    → bus' ≡ bus_of bus (s ∷ []) → frames_of bus (s ∷ []) ≡ [] → others_of bus (s ∷ []) ≡ o → unread_of (s ∷ []) ≡ u → o < 2 → u < 2
    → MeetsLine has_met s bus bus' a a (tally 0 o u) held held
meets_none has_met s bus bus' a o u held is none is_o is_u small_o small_u = record {
  bus_is = is;
  met_is = line_tally bus (s ∷ []) 0 o u (ap length none) is_o is_u (omega arith) small_o small_u;
  meets = λ own named. subst (λ (fs : List FrameRecord). Meets (has_met own) a a fs held held) (sym none) (meets_nothing (has_met own) a held);
}

pub meets_frame_elsewhere : {A : Type 0} (has_met : Meeting A) (name : List ℕ) (f : FrameRecord) (bus : Option (List ℕ)) (own : List ℕ) (a : A) (held : Option (List ℕ))
    → own ≡ unwrap_or bus name → bytes_eq name own ≡ false → MeetsLine has_met (frame name f) bus (Some own) a a (tally 0 1 0) held held
meets_frame_elsewhere has_met name f bus own a held is off =
    let bus_is = with_frame name f bus own is in
    let none : frames_of bus (frame name f ∷ []) ≡ [] =
    ap (λ (b : Option (List ℕ)). filter_map (frame_on b) (frame name f ∷ [])) bus_is ∙ rw off refl in
    let one : others_of bus (frame name f ∷ []) ≡ 1 =
    ap (λ (b : Option (List ℕ)). count_by (is_other_on b) (frame name f ∷ [])) bus_is ∙ rw off refl in
    meets_none has_met (frame name f) bus (Some own) a 1 0 held (sym bus_is) none one refl (omega arith) (omega arith)

pub meets_other : {A : Type 0} (has_met : Meeting A) (bus : Option (List ℕ)) (a : A) (held : Option (List ℕ)) → MeetsLine has_met other bus bus a a (tally 0 1 0) held held
meets_other has_met bus a held = meets_none has_met other bus bus a 1 0 held (bus_of-kept bus other refl) refl refl refl (omega arith) (omega arith)

pub meets_unread : {A : Type 0} (has_met : Meeting A) (bus : Option (List ℕ)) (a : A) (held : Option (List ℕ)) → MeetsLine has_met unread bus bus a a (tally 0 0 1) held held
meets_unread has_met bus a held = meets_none has_met unread bus bus a 0 1 held (bus_of-kept bus unread refl) refl refl refl (omega arith) (omega arith)

pub meets_blank : {A : Type 0} (has_met : Meeting A) (bus : Option (List ℕ)) (a : A) (held : Option (List ℕ)) → MeetsLine has_met blank bus bus a a (tally 0 0 0) held held
meets_blank has_met bus a held = meets_none has_met blank bus bus a 0 0 held (bus_of-kept bus blank refl) refl refl refl (omega arith) (omega arith)
