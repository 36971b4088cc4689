-- A line with one space between its fields, and none before or after them.
use Rattle.std.proofs.Common.{◌≡◌, ◌≢◌, ◌<◌, ◌≤◌, ℕ, true, false, List, [], ◌∷◌, ◌++◌, length, ◌⊎◌, ◌+◌, suc, refl, sym, ap, ◌∙◌, arith, subst, append-nil, append_assoc, length-append, lit<, inl, inr, Ok, ◌==◌}
use Rattle.std.specs.List.{AllByRecursion}
use Rattle.std.specs.Int.{to_be_bytes, w32}
use Rattle.std.specs.Char.{digit_value}
use Rattle.std.specs.Str.Parse.{AllDigits}
use Rattle.std.proofs.lemmas.Bool.{ne_eqb}
use Rattle.std.proofs.lemmas.List.Elements.{recursion_from_All}
use Rattle.hex.specs.Hex.{decode_of, is_hex_digit}
use Rattle.hex.proofs.HexLemmas.{decode_of-ok}
use Rattle.j39_log.specs.Bus.{IsBusName}
use Rattle.j39_log.specs.Fields.{IsField, IsAfterField, TakesField, IsSpaced}
use Rattle.j39_log.specs.Text.{IsStampText, IsFrameText}
use Rattle.j39_frame.specs.Frame.{FrameRecord}
use Rattle.j39_log.specs.FrameLine.{EndsAt, IsFlag}
use Rattle.j39_log.specs.Line.{IsBody, IsFlags, IsFrameLine, HasParts}
use Rattle.j39_log.specs.Log.{HasNoNewline}
use Rattle.j39_log.specs.Newline.{TakesLine}

-- each byte is above the space
abbrev pub AreAbove : List ℕ → Type 0
AreAbove bs = AllByRecursion (λ b. 32 < b) bs

AreAbove-append : (xs ys : List ℕ) → AreAbove xs → AreAbove ys → AreAbove (xs ++ ys)
AreAbove-append [] ys p q = q
AreAbove-append (x ∷ xs) ys p q = (p.0, AreAbove-append xs ys p.1 q)

AreAbove-digits : (cs : List ℕ) → AllDigits 10 cs → AreAbove cs
AreAbove-digits [] h = tt
AreAbove-digits (c ∷ cs) h = (above c h.0, AreAbove-digits cs h.1) where
  above : (c : ℕ) → digit_value c < 10 → 32 < c
  above c h = grind arith

AreAbove-hex : (text bytes : List ℕ) → decode_of text ≡ Ok bytes → AreAbove text
AreAbove-hex text bytes h = go text (recursion_from_All (λ c. is_hex_digit c ≡ true) text (decode_of-ok text bytes h).1) where
  above : (c : ℕ) → is_hex_digit c ≡ true → 32 < c
  above c h = grind arith

  go : (cs : List ℕ) → AllByRecursion (λ c. is_hex_digit c ≡ true) cs → AreAbove cs
  go [] p = tt
  go (c ∷ cs) p = (above c p.0, go cs p.1)

AreAbove-bus : (bus : List ℕ) → IsBusName bus → AreAbove bus
AreAbove-bus bus h = go bus (recursion_from_All _ bus h.2) where
  go : (xs : List ℕ) → AllByRecursion (λ b. (0x20 < b) × (b ≢ 0x7F)) xs → AreAbove xs
  go [] p = tt
  go (x ∷ xs) p = (p.0.0, go xs p.1)

AreAbove-stamp : (text : List ℕ) (stamp : ℕ) → IsStampText text stamp → AreAbove text
AreAbove-stamp text stamp h =
    subst AreAbove (sym h.parts.text_is) (
      lit< tt,
      AreAbove-append h.seconds (46 ∷ (h.micros ++ (h.cut ++ (41 ∷ [])))) (AreAbove-digits h.seconds h.seconds_are) (
        lit< tt,
        AreAbove-append h.micros (h.cut ++ (41 ∷ [])) (AreAbove-digits h.micros h.micros_are)
            (AreAbove-append h.cut (41 ∷ []) (AreAbove-digits h.cut h.cut_are) (lit< tt, tt)),
      ),
    )

pub AreAbove-frame : (text : List ℕ) (id : ℕ) (bytes : List ℕ) → IsFrameText text id bytes → AreAbove text
AreAbove-frame text id bytes h =
    subst AreAbove (sym h.parts.text_is)
    (AreAbove-append h.digits (35 ∷ h.pairs) (AreAbove-hex h.digits (to_be_bytes w32 id) h.id_is) (lit< tt, AreAbove-hex h.pairs bytes h.bytes_are))

IsField-above : (xs : List ℕ) → 0 < length xs → AreAbove xs → IsField xs
IsField-above xs some above = (some, go xs above) where
  go : (ys : List ℕ) → AreAbove ys → AllByRecursion (λ b. b == 32 ≡ false) ys
  go [] h = tt
  go (y ∷ ys) h = (ne_eqb y 32 (λ e. omega arith), go ys h.1)

takes_first : (field rest : List ℕ) → IsField field → IsAfterField rest → TakesField (field ++ rest) field rest
takes_first field rest h after = record { spaces = []; text_is = refl; spaces_are = tt; field_is = h; rest_is = after }

takes_next : (field rest : List ℕ) → IsField field → IsAfterField rest → TakesField (32 ∷ (field ++ rest)) field rest
takes_next field rest h after = record { spaces = 32 ∷ []; text_is = refl; spaces_are = (refl, tt); field_is = h; rest_is = after }

-- no byte is a control character
abbrev AreFromSpace : List ℕ → Type 0
AreFromSpace bytes = AllByRecursion (λ b. 32 ≤ b) bytes

-- one field behind a space, or none
record Flagged (flag : List ℕ) : Type 0 where
  flags : List (List ℕ)
  are : IsFlags flags
  spaced : IsSpaced flags flag
  after : IsAfterField flag
  from : AreFromSpace flag
  short : length flag ≤ 2

with_flag : (c : ℕ) → IsFlags ((c ∷ []) ∷ []) → 32 < c → Flagged (32 ∷ c ∷ [])
with_flag c are above = record {
  flags = (c ∷ []) ∷ [];
  are = are;
  spaced = ([], takes_next (c ∷ []) [] (IsField-above (c ∷ []) (omega arith) (above, tt)) tt, tt);
  after = refl;
  from = (omega arith, (omega (arith, above), tt));
  short = omega arith;
}

flags_of : (flag : List ℕ) → IsFlag flag → Flagged flag
flags_of flag (inl none) = subst Flagged (sym none) (record { flags = []; are = inl refl; spaced = tt; after = tt; from = tt; short = omega arith })
flags_of flag (inr (inl r)) = subst Flagged (sym r) (with_flag 82 (inr (inl refl)) (lit< tt))
flags_of flag (inr (inr t)) = subst Flagged (sym t) (with_flag 84 (inr (inr refl)) (lit< tt))

-- such a stamp, bus and field, and a flag, are a line's parts
flagged_parts : (line body first bus third flag : List ℕ) (stamp : ℕ) → length line ≤ 256 → IsBody line body → body ≡ first ++ (32 ∷ (bus ++ (32 ∷ (third ++ flag))))
    → IsStampText first stamp → IsBusName bus → IsField third → IsFlag flag → HasParts line bus third stamp
flagged_parts line body first bus third flag stamp short body_is is s b f flagged =
    let first_some : 0 < length first = omega (arith, ap length s.parts.text_is) in
    let more = flags_of flag flagged in
    record {
      short = short;
      body = body;
      body_is = body_is;
      first = first;
      flags = more.flags;
      fields_are = subst (IsSpaced (first ∷ bus ∷ third ∷ more.flags)) (sym is) (
        32 ∷ (bus ++ (32 ∷ (third ++ flag))),
        takes_first first (32 ∷ (bus ++ (32 ∷ (third ++ flag)))) (IsField-above first first_some (AreAbove-stamp first stamp s)) refl,
        (
          32 ∷ (third ++ flag),
          takes_next bus (32 ∷ (third ++ flag)) (IsField-above bus b.0 (AreAbove-bus bus b)) refl,
          (flag, takes_next third flag f more.after, more.spaced),
        ),
      );
      stamp_is = s;
      bus_is = b;
      flags_are = more.are;
    }

-- the same without a flag
pub spaced_parts : (line body first bus third : List ℕ) (stamp : ℕ) → length line ≤ 256 → IsBody line body → body ≡ first ++ (32 ∷ (bus ++ (32 ∷ third)))
    → IsStampText first stamp → IsBusName bus → IsField third → HasParts line bus third stamp
spaced_parts line body first bus third stamp short body_is is s b f =
    flagged_parts line body first bus third [] stamp short body_is (is ∙ ap (λ t. first ++ (32 ∷ (bus ++ (32 ∷ t)))) (sym (append-nil third))) s b f (inl refl)

pub IsField-frame : (text : List ℕ) (id : ℕ) (bytes : List ℕ) → IsFrameText text id bytes → IsField text
IsField-frame text id bytes f =
    let some : 0 < length text = omega (arith, ap length f.parts.text_is, f.parts.digits_fit, length-append f.digits (35 ∷ f.pairs)) in
    IsField-above text some (AreAbove-frame text id bytes f)

-- ---- the end of such a line

from_append : (xs ys : List ℕ) → AreFromSpace xs → AreFromSpace ys → AreFromSpace (xs ++ ys)
from_append [] ys p q = q
from_append (x ∷ xs) ys p q = (p.0, from_append xs ys p.1 q)

from_above : (xs : List ℕ) → AreAbove xs → AreFromSpace xs
from_above [] h = tt
from_above (x ∷ xs) h = (omega (arith, h.0), from_above xs h.1)

spaced_from : (first bus third flag : List ℕ) (stamp id : ℕ) (bytes : List ℕ) → IsStampText first stamp → IsBusName bus → IsFrameText third id bytes → AreFromSpace flag
    → AreFromSpace (first ++ (32 ∷ (bus ++ (32 ∷ (third ++ flag)))))
spaced_from first bus third flag stamp id bytes s b f more =
    from_append first (32 ∷ (bus ++ (32 ∷ (third ++ flag)))) (from_above first (AreAbove-stamp first stamp s)) (
      omega arith,
      from_append bus (32 ∷ (third ++ flag)) (from_above bus (AreAbove-bus bus b)) (omega arith, from_append third flag (from_above third (AreAbove-frame third id bytes f)) more),
    )

no_newline_in : (xs ys : List ℕ) → AreFromSpace xs → HasNoNewline ys → HasNoNewline (xs ++ ys)
no_newline_in [] ys h k = k
no_newline_in (x ∷ xs) ys h k = (λ e. omega (arith, h.0, e), no_newline_in xs ys h.1 k)

no_return : (front : List ℕ) → AreFromSpace (front ++ (13 ∷ [])) → ⊥
no_return [] h = absurd (omega (arith, h.0))
no_return (x ∷ xs) h = no_return xs h.1

-- the line of such a body, with one CR at its end or none
end_is : (body cr : List ℕ) → AreFromSpace body → (cr ≡ []) ⊎ (cr ≡ 13 ∷ []) → IsBody (body ++ cr) body × HasNoNewline (body ++ cr) × (length cr ≤ 1)
end_is body cr from (inl none) =
    subst (λ cs. IsBody (body ++ cs) body × HasNoNewline (body ++ cs) × (length cs ≤ 1)) (sym none) (
      record { cr = []; line_is = refl; cr_is = inr (refl, λ front e. no_return front (subst AreFromSpace (sym (append-nil body) ∙ e) from)) },
      no_newline_in body [] from tt,
      omega arith,
    )
end_is body cr from (inr one) =
    subst (λ cs. IsBody (body ++ cs) body × HasNoNewline (body ++ cs) × (length cs ≤ 1)) (sym one) (
      record { cr = 13 ∷ []; line_is = refl; cr_is = inl refl },
      no_newline_in body (13 ∷ []) from (λ e. omega (arith, e), tt),
      omega arith,
    )

-- the line that bytes begin with, part by part, and the frames that it spells
pub first_line : (bytes front cut bus third end later payload : List ℕ) (stamp id : ℕ) → length front ≡ 18 → length third ≡ 25
    → bytes ≡ front ++ (cut ++ (41 ∷ (32 ∷ (bus ++ (32 ∷ (third ++ end)))))) → length cut ≤ 3 → EndsAt end later
    → IsStampText (front ++ (cut ++ (41 ∷ []))) stamp → IsBusName bus → IsFrameText third id payload
    → (line : List ℕ) × TakesLine bytes line later
    × ((frame : FrameRecord) → IsStampText (front ++ (cut ++ (41 ∷ []))) frame.stamp → IsFrameText third frame.id frame.bytes → IsFrameLine line bus frame)
first_line bytes front cut bus third end later payload stamp id long whole is short ends s named t =
    let cr = ends.cr in
    let flag = ends.flag in
    let flagged = flags_of flag ends.flag_is in
    let first = front ++ (cut ++ (41 ∷ [])) in
    let body = first ++ (32 ∷ (bus ++ (32 ∷ (third ++ flag)))) in
    let end = end_is body cr (spaced_from first bus third flag stamp id payload s named t flagged.from) ends.cr_is in
    let cut_first : length first ≡ 18 + (length cut + 1) = length-append front (cut ++ (41 ∷ [])) ∙ (let n = length-append cut (41 ∷ []) in omega (arith, long, n)) in
    let cut_body : length body ≡ length first + suc (length bus + suc (length third + length flag)) =
    length-append first (32 ∷ (bus ++ (32 ∷ (third ++ flag)))) ∙ ap (λ n. length first + suc n) (length-append bus (32 ∷ (third ++ flag)) ∙ ap (λ n. length bus + suc n) (length-append third flag)) in
    let few : length (body ++ cr) ≤ 256 =
    (let n = length-append body cr in let m = named.1 in let k = end.2 in let f = flagged.short in omega (arith, n, m, k, f, cut_first, cut_body, short, whole)) in
    let joined : front ++ (cut ++ (41 ∷ (32 ∷ (bus ++ (32 ∷ (third ++ (flag ++ (cr ++ (10 ∷ later))))))))) ≡ (body ++ cr) ++ (10 ∷ later) = simp append_assoc refl in (
      body ++ cr,
      record { whole = end.1; bytes_are = is ∙ ap (λ xs. front ++ (cut ++ (41 ∷ (32 ∷ (bus ++ (32 ∷ (third ++ xs))))))) ends.text_is ∙ joined },
      λ frame spelled text. record {
        third = third;
        parts = flagged_parts (body ++ cr) body first bus third flag frame.stamp few end.0 refl spelled named (IsField-frame third frame.id frame.bytes text) ends.flag_is;
        third_is = text;
      },
    )
