-- The canonical line of a frame spells it.
use Rattle.std.proofs.Common.{◌≡◌, ◌≢◌, ◌<◌, ◌≤◌, ◌+◌, ◌/◌, ◌%◌, ◌^◌, ℕ, zero, suc, List, [], ◌∷◌, ◌++◌, length, refl, sym, ap, ◌∙◌, arith, append_assoc, append-nil, length-append, lit<, inl, inr}
use Rattle.std.specs.Prelude.{All}
use Rattle.std.specs.Int.{to_be_bytes, w32}
use Rattle.std.proofs.lemmas.List.Elements.{All-head, All-tail}
use Rattle.hex.specs.Hex.{encode_upper, upper_digits, IsBytes}
use Rattle.hex.proofs.HexLemmas.{decode_of-encode_upper, length-encode_with}
use Rattle.j39_frame.specs.Frame.{FrameRecord, IsFrame}
use Rattle.j39_log.specs.Bus.{IsBusName}
use Rattle.j39_log.specs.Text.{IsStampText, IsFrameText}
use Rattle.j39_log.specs.Line.{IsFrameLine}
use Rattle.j39_log.specs.StampText.{stamp_text}
use Rattle.j39_io.specs.Printing.{last_digits}
use Rattle.j39_log.specs.Canonical.{frame_text, line_text}
use Rattle.j39_log.proofs.SpacedLemmas.{AreAbove, AreAbove-frame, IsField-frame, spaced_parts}
use Rattle.j39_io.proofs.PrintingLemmas.{length-last_digits, AllDigits-last_digits, digits_value-last_digits}

no_cr : (xs front : List ℕ) → AreAbove xs → xs ≡ front ++ (13 ∷ []) → ⊥
no_cr [] [] h e = cc
no_cr [] (f ∷ fs) h e = cc
no_cr (x ∷ xs) [] h e = let same : x ≡ 13 = cc in omega arith
no_cr (x ∷ xs) (f ∷ fs) h e = no_cr xs fs h.1 cc

-- a text whose end is above the space has no CR at its end
no_cr_at_end : (xs ys front : List ℕ) → 0 < length ys → AreAbove ys → xs ++ ys ≡ front ++ (13 ∷ []) → ⊥
no_cr_at_end [] ys front some h e = no_cr ys front h e
no_cr_at_end (x ∷ xs) ys [] some h e =
    let none : xs ++ ys ≡ [] = cc in
    let len : length xs + length ys ≡ 0 = sym (length-append xs ys) ∙ ap length none in
    absurd (omega arith)
no_cr_at_end (x ∷ xs) ys (f ∷ fs) some h e = no_cr_at_end xs ys fs some h cc

pub stamp_spelled : (stamp : ℕ) → stamp < 10 ^ 16 → IsStampText (stamp_text stamp) stamp
stamp_spelled stamp fits =
    let s = stamp / 10 ^ 6 in
    let u = stamp % 10 ^ 6 in
    let s_fits : s < 10 ^ 10 = omega arith in
    let u_fits : u < 10 ^ 6 = omega arith in
    let s_len = length-last_digits 10 s in
    let u_len = length-last_digits 6 u in
    record {
      seconds = last_digits 10 s;
      micros = last_digits 6 u;
      cut = [];
      parts = record {
        text_is = simp append_assoc refl;
        some = omega (arith, s_len);
        seconds_fit = omega (arith, s_len);
        micros_fit = u_len;
        cut_fits = inl refl;
      };
      seconds_are = AllDigits-last_digits 10 s;
      micros_are = AllDigits-last_digits 6 u;
      cut_are = tt;
      stamp_is = rw (digits_value-last_digits 10 s s_fits, digits_value-last_digits 6 u u_fits) (omega arith);
    }

IsBytes-from_all : (xs : List ℕ) → All (λ b. b < 256) xs → IsBytes xs
IsBytes-from_all [] h i = lit< tt
IsBytes-from_all (x ∷ xs) h zero = All-head (λ b. b < 256) x xs h
IsBytes-from_all (x ∷ xs) h (suc i) = IsBytes-from_all xs (All-tail (λ b. b < 256) x xs h) i

id_bytes : (id : ℕ) → IsBytes (to_be_bytes w32 id)
id_bytes id zero = omega arith
id_bytes id (suc zero) = omega arith
id_bytes id (suc (suc zero)) = omega arith
id_bytes id (suc (suc (suc zero))) = omega arith
id_bytes id (suc (suc (suc (suc i)))) = lit< tt

pub frame_spelled : (id : ℕ) (bytes : List ℕ) → id < 2 ^ 29 → length bytes ≤ 8 → All (λ b. b < 256) bytes → IsFrameText (frame_text id bytes) id bytes
frame_spelled id bytes fits short all =
    record {
      digits = encode_upper (to_be_bytes w32 id);
      pairs = encode_upper bytes;
      parts = record { text_is = append_assoc (encode_upper (to_be_bytes w32 id)) (35 ∷ []) (encode_upper bytes); digits_fit = length-encode_with upper_digits (to_be_bytes w32 id) };
      id_is = decode_of-encode_upper (to_be_bytes w32 id) (id_bytes id);
      id_fits = fits;
      bytes_are = decode_of-encode_upper bytes (IsBytes-from_all bytes all);
      bytes_fit = short;
    }

regroup : (a b c : List ℕ) → a ++ (32 ∷ []) ++ b ++ (32 ∷ []) ++ c ≡ a ++ (32 ∷ (b ++ (32 ∷ c)))
regroup a b c = simp append_assoc refl

-- the canonical line spells the frame and the bus
pub line_spelled : (frame : FrameRecord) (bus : List ℕ) → IsFrame frame → IsBusName bus → IsFrameLine (line_text frame bus) bus frame
line_spelled frame bus f b =
    let line = line_text frame bus in
    let first = stamp_text frame.stamp in
    let third = frame_text frame.id frame.bytes in
    let text = frame_spelled frame.id frame.bytes f.id f.len f.bytes in
    let third_some : 0 < length third = simp (length-append, length-encode_with) (omega arith) in
    let no_end : (front : List ℕ) → line ≢ front ++ (13 ∷ []) =
    λ front e. no_cr_at_end (((first ++ (32 ∷ [])) ++ bus) ++ (32 ∷ [])) third front third_some (AreAbove-frame third frame.id frame.bytes text) e in
    record {
      third = third;
      parts = spaced_parts line line first bus third frame.stamp
          (simp (length-append, length-last_digits, length-encode_with) (omega (arith, b.1, f.len)))
          (record { cr = []; line_is = sym (append-nil line); cr_is = inr (refl, no_end) })
          (regroup first bus third) (stamp_spelled frame.stamp f.stamp) b (IsField-frame third frame.id frame.bytes text);
      third_is = text;
    }
