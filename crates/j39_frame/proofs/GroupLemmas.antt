-- Groups that an identifier can have.
use Rattle.std.proofs.Common.{◌≡◌, ◌<◌, ◌≤◌, ◌%◌, ◌/◌, ◌*◌, ◌+◌, ℕ, arith, inl, inr, refl}
use Rattle.std.proofs.lemmas.Bool.{cases_lt, le-ltb, lt-ltb}
use Rattle.j39_frame.specs.Groups.{IsHeardGroup, place_of_group}
use Rattle.j39_frame.specs.Identifier.{page_of, pf_of, pgn_of, ps_of}

broadcast : (page pf ps : ℕ) → page < 4 → pf < 256 → ps < 256 → 240 ≤ pf → IsHeardGroup (page * 65536 + pf * 256 + ps)
broadcast page pf ps p f s high = (omega arith, λ directed. absurd (omega arith))

small : (raw page : ℕ) → page ≡ page_of raw → pf_of raw < 240 → IsHeardGroup (page * 65536 + pf_of raw * 256 + 0)
small raw page is low = (omega arith, λ _. omega arith)

-- the group of an identifier is one
pub heard : (raw : ℕ) → IsHeardGroup (pgn_of raw)
heard raw = elim (cases_lt (pf_of raw) 240) [
  | inl low ↦ rw (lt-ltb (pf_of raw) 240 low) (small raw (page_of raw) refl low)
  | inr high ↦ rw (le-ltb (pf_of raw) 240 high) (broadcast (page_of raw) (pf_of raw) (ps_of raw) (omega arith) (omega arith) (omega arith) high)
]

-- there are 17,344 of them
pub place_below : (pgn : ℕ) → IsHeardGroup pgn → place_of_group pgn < 17344
place_below pgn can = elim (cases_lt (pgn / 256 % 256) 240) [
  | inl low ↦ rw (lt-ltb (pgn / 256 % 256) 240 low) (omega (arith, can.0))
  | inr high ↦ rw (le-ltb (pgn / 256 % 256) 240 high) (omega (arith, can.0))
]
