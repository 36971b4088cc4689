-- Strings of JSON, chunk by chunk.
use Rattle.std.proofs.Common.{◌≡◌, ◌∙◌, ◌++◌, ℕ, List, Result, Ok, Err, ap, drop, eq-zero-or-pos, inl, inr, length, sym}
use Rattle.std.specs.Prelude.{IsErr}
use Rattle.std.specs.List.{flat_map}
use Rattle.std.specs.Str.Lossy.{replacement_bytes, utf8_invalid_len, utf8_lossy, utf8_valid_len}
use Rattle.std.proofs.lemmas.Grind.{flat_map-append}
use Rattle.std.proofs.lemmas.Str.{utf8_lossy_chunk, utf8_lossy_last_chunk}
use Rattle.j39_io.specs.Puts.{Puts}
use Rattle.j39_io.specs.Turn.{Device}
use Rattle.j39_io.proofs.PutsLemmas.{puts_as, puts_done, puts_first, puts_then}
use Rattle.j39_rows.specs.Json.{character_text}

-- the text of bytes begins with their first chunk
pub valid_first : (bs valid invalid rest : List ℕ) → bs ≡ valid ++ (invalid ++ rest) → (length invalid ≡ 0 → length rest ≡ 0) → length valid ≡ utf8_valid_len bs
    → length invalid ≡ utf8_invalid_len (drop (utf8_valid_len bs) bs) → (tail : List ℕ) × (utf8_lossy bs ≡ valid ++ tail)
valid_first bs valid invalid rest cut ends valid_len invalid_len = elim (eq-zero-or-pos (length invalid)) [
  | inl none ↦ (utf8_lossy rest, utf8_lossy_last_chunk bs valid invalid rest cut valid_len none (ends none))
  | inr some ↦ (replacement_bytes ++ utf8_lossy rest, utf8_lossy_chunk bs valid invalid rest cut valid_len invalid_len some)
]

module _ (done more : List ℕ) (old mid new : Device) (first : Puts {T = Unit} {E = Unit} (flat_map character_text done) (Ok tt) (record { old = old; new = mid })) where
  -- the characters of these, and behind them what came of more
  pub puts_both : {U F : Type 0} (last : Result U F)
      → Puts (flat_map character_text more) last (record { old = mid; new = new }) → Puts (flat_map character_text (done ++ more)) last (record { old = old; new = new })
  puts_both last second =
      puts_as _ _ _ _ (sym (flat_map-append character_text done more)) (puts_then (flat_map character_text done) (flat_map character_text more) tt last old mid new first second)

  pub puts_more_too : {U F : Type 0} (x : U) → Puts {E = F} (flat_map character_text more) (Ok x) (record { old = mid; new = new })
      → Puts {T = Unit} {E = Unit} (flat_map character_text (done ++ more)) (Ok tt) (record { old = old; new = new })
  puts_more_too x second = puts_done _ x tt _ (puts_both (Ok x) second)

  -- a fault in these
  pub stops_in : {U V E F : Type 0} (all tail : List ℕ) (e : E) (last : Result U F) → all ≡ (done ++ more) ++ tail → IsErr last
      → Puts {T = V} (flat_map character_text more) (Err e) (record { old = mid; new = new }) → Puts (flat_map character_text all) last (record { old = old; new = new })
  stops_in {V = V} all tail e last cut failed second =
      puts_as _ _ _ _ (sym (ap (flat_map character_text) cut ∙ flat_map-append character_text (done ++ more) tail))
      (puts_first {T = V} (flat_map character_text (done ++ more)) (flat_map character_text tail) e last _ failed (puts_both (Err e) second))
