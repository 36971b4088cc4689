-- A line is read in one way.
use Rattle.std.proofs.Common.{◌≡◌, ◌<◌, ◌≤◌, ◌^◌, ℕ, List, [], ◌∷◌, ◌++◌, length, take, refl, sym, ap, ap₂, ◌∙◌, arith, subst, inl, inr, append-nil, length-append, Ok, ◌≢◌}
use Rattle.std.specs.Int.{to_be_bytes, from_be_bytes, w32}
use Rattle.std.specs.Prelude.{Contains}
use Rattle.std.proofs.Math.Seq.{take-append_seam}
use Rattle.std.proofs.lemmas.Nat.{from_be_bytes-to_be_bytes_4}
use Rattle.hex.proofs.HexLemmas.{decode_of-same}
use Rattle.hex.specs.Hex.{decode_of}
use Rattle.j39_frame.specs.Frame.{FrameRecord}
use Rattle.j39_log.specs.Fields.{fields_in, IsSpaced}
use Rattle.j39_log.specs.Text.{IsStampText, IsFrameText}
use Rattle.j39_log.specs.Line.{IsBody, HasParts, IsFrameLine, IsOtherLine, IsBlankLine, IsFlags}
use Rattle.j39_log.specs.Bus.{IsBusName}
use Rattle.j39_log.specs.Spelled.{Spelled, frame, other, unread, blank, Spells}
use Rattle.j39_log.proofs.FieldLemmas.{fields_in-spaced, IsSpaced-fields_in}
use Rattle.j39_log.proofs.TextLemmas.{one_stamp, frame_only}

snoc_front : (a b : List ℕ) → a ++ (13 ∷ []) ≡ b ++ (13 ∷ []) → a ≡ b
snoc_front a b e =
    let n : length a ≡ length b = omega (arith, simp length-append at (ap length e)) in
    sym (take-append_seam a (13 ∷ [])) ∙ ap (take (length a)) e ∙ rw n (take-append_seam b (13 ∷ []))

-- a line has one body
pub one_body : (line a b : List ℕ) → IsBody line a → IsBody line b → a ≡ b
one_body line a b p q =
    elim p.cr_is [
      | inl x ↦ elim q.cr_is [
        | inl y ↦ snoc_front a b (sym (p.line_is ∙ ap (λ t. a ++ t) x) ∙ (q.line_is ∙ ap (λ t. b ++ t) y))
        | inr y ↦ absurd (y.1 a (p.line_is ∙ ap (λ t. a ++ t) x))
      ]
      | inr x ↦ elim q.cr_is [
        | inl y ↦ absurd (x.1 b (q.line_is ∙ ap (λ t. b ++ t) y))
        | inr y ↦ sym (p.line_is ∙ (ap (λ t. a ++ t) x.0 ∙ append-nil a)) ∙ (q.line_is ∙ (ap (λ t. b ++ t) y.0 ∙ append-nil b))
      ]
    ]

-- the fields of a line's body are its parts
pub fields_in-parts : (line body bus third : List ℕ) (stamp : ℕ) (h : HasParts line bus third stamp) → IsBody line body → fields_in body ≡ h.first ∷ bus ∷ third ∷ h.flags
fields_in-parts line body bus third stamp h is =
    ap fields_in (one_body line body h.body is h.body_is) ∙ fields_in-spaced (h.first ∷ bus ∷ third ∷ h.flags) h.body h.fields_are

pub fields_in-blank : (line body : List ℕ) → IsBlankLine line → IsBody line body → fields_in body ≡ []
fields_in-blank line body h is = ap fields_in (one_body line body h.body is h.body_is) ∙ fields_in-spaced [] h.body h.fields_are

pub blank_has_no_parts : (line bus third : List ℕ) (stamp : ℕ) → IsBlankLine line → HasParts line bus third stamp → ⊥
blank_has_no_parts line bus third stamp h p =
    let e = fields_in-blank line p.body h p.body_is in
    let f = fields_in-parts line p.body bus third stamp p p.body_is in
    cc

-- a line has one set of parts
pub one_bus : (line b b' t t' : List ℕ) (m n : ℕ) → HasParts line b t m → HasParts line b' t' n → (b ≡ b') × (t ≡ t') × (m ≡ n)
one_bus line b b' t t' m n p q =
    let e = sym (fields_in-parts line p.body b t m p p.body_is) ∙ fields_in-parts line p.body b' t' n q p.body_is in
    let first : p.first ≡ q.first = cc in
    (cc, cc, one_stamp q.first m n (subst (λ x. IsStampText x m) first p.stamp_is) q.stamp_is)

-- a text spells one identifier and one list of data
pub one_frame : (text : List ℕ) (i j : ℕ) (xs ys : List ℕ) → IsFrameText text i xs → IsFrameText text j ys → (i ≡ j) × (xs ≡ ys)
one_frame text i j xs ys p q =
    let a = frame_only text p.digits p.pairs p.parts in
    let b = frame_only text q.digits q.pairs q.parts in
    let d : p.digits ≡ q.digits = sym a.0 ∙ b.0 in
    let r : p.pairs ≡ q.pairs = sym a.1 ∙ b.1 in
    let id : to_be_bytes w32 i ≡ to_be_bytes w32 j =
    decode_of-same q.digits (to_be_bytes w32 i) (to_be_bytes w32 j) (subst (λ t. decode_of t ≡ Ok (to_be_bytes w32 i)) d p.id_is) q.id_is in
    let bytes : xs ≡ ys = decode_of-same q.pairs xs ys (subst (λ t. decode_of t ≡ Ok xs) r p.bytes_are) q.bytes_are in
    let i_fits : i < 2 ^ 32 = omega (arith, p.id_fits) in
    let j_fits : j < 2 ^ 32 = omega (arith, q.id_fits) in
    (sym (from_be_bytes-to_be_bytes_4 i i_fits) ∙ (ap (from_be_bytes w32) id ∙ from_be_bytes-to_be_bytes_4 j j_fits), bytes)

same_frame : (f g : FrameRecord) → f.stamp ≡ g.stamp → f.id ≡ g.id → f.bytes ≡ g.bytes → f ≡ g
same_frame f g p q r = λ i. record { stamp = p i; id = q i; bytes = r i }

-- a line spells one frame of one bus
pub one_frame_line : (line b b' : List ℕ) (f g : FrameRecord) → IsFrameLine line b f → IsFrameLine line b' g → (b ≡ b') × (f ≡ g)
one_frame_line line b b' f g p q =
    let parts = one_bus line b b' p.third q.third f.stamp g.stamp p.parts q.parts in
    let frame = one_frame q.third f.id g.id f.bytes g.bytes (subst (λ t. IsFrameText t f.id f.bytes) parts.1 p.third_is) q.third_is in
    (parts.0, same_frame f g parts.2 frame.0 frame.1)

-- ---- what the fields of the body say of the line

pub is_blank : (line body : List ℕ) → length line ≤ 256 → IsBody line body → fields_in body ≡ [] → IsBlankLine line
is_blank line body short is e =
    record { short = short; body = body; body_is = is; fields_are = subst (λ fs. IsSpaced fs body) e (IsSpaced-fields_in body) }

pub has_parts : (line body first bus third : List ℕ) (flags : List (List ℕ)) (stamp : ℕ) → length line ≤ 256 → IsBody line body
    → fields_in body ≡ first ∷ bus ∷ third ∷ flags → IsFlags flags → IsStampText first stamp → IsBusName bus → HasParts line bus third stamp
has_parts line body first bus third flags stamp short is e flag text name =
    let spaced : IsSpaced (first ∷ bus ∷ third ∷ flags) body = subst (λ fs. IsSpaced fs body) e (IsSpaced-fields_in body) in
    record { short = short; body = body; body_is = is; first = first; flags = flags; fields_are = spaced; stamp_is = text; bus_is = name; flags_are = flag }

-- the line is neither blank nor has a frame's parts
abbrev pub HasNoParts : List ℕ → Type 0
HasNoParts line = ((bus third : List ℕ) (stamp : ℕ) → HasParts line bus third stamp → ⊥) × (IsBlankLine line → ⊥)

pub odd_has_no_parts : (line body : List ℕ) → IsBody line body → fields_in body ≢ []
    → ((a b c : List ℕ) (flags : List (List ℕ)) → IsFlags flags → fields_in body ≢ a ∷ b ∷ c ∷ flags) → HasNoParts line
odd_has_no_parts line body is some h = (
  λ bus third stamp p. h p.first bus third p.flags p.flags_are (fields_in-parts line body bus third stamp p is),
  λ b. some (fields_in-blank line body b is),
)

pub three_has_no_parts : (line body first bus third : List ℕ) (flags : List (List ℕ)) → IsBody line body → fields_in body ≡ first ∷ bus ∷ third ∷ flags
    → ((s : ℕ) → IsStampText first s → IsBusName bus → ⊥) → HasNoParts line
three_has_no_parts line body first bus third flags is e h = (
  λ b t s p.
      let same = sym (fields_in-parts line body b t s p is) ∙ e in
      let firsts : p.first ≡ first = cc in
      let buses : b ≡ bus = cc in
      h s (subst (λ x. IsStampText x s) firsts p.stamp_is) (subst IsBusName buses p.bus_is),
  λ b. let none = sym (fields_in-blank line body b is) ∙ e in cc,
)

pub no_frame_from : (line bus third : List ℕ) (stamp : ℕ) → HasParts line bus third stamp → ((id : ℕ) (bytes : List ℕ) → IsFrameText third id bytes → ⊥)
    → (b : List ℕ) (f : FrameRecord) → IsFrameLine line b f → ⊥
no_frame_from line bus third stamp p none b f q =
    none f.id f.bytes (subst (λ t. IsFrameText t f.id f.bytes) (one_bus line b bus q.third third f.stamp stamp q.parts p).1 q.third_is)

pub no_other_from : (line bus third : List ℕ) (stamp : ℕ) → HasParts line bus third stamp → (Contains third 35 → ⊥) → IsOtherLine line → ⊥
no_other_from line bus third stamp p none o =
    none (subst (λ t. Contains t 35) (one_bus line o.bus bus o.third third o.stamp stamp o.parts p).1 o.marked)

-- ---- one reading

-- a line spells one thing
pub one_spelled : (line : List ℕ) (s t : Spelled) → Spells line s → Spells line t → s ≡ t
one_spelled line (frame b f) (frame c g) p q =
    let same = one_frame_line line b c f g p q in
    ap₂ frame same.0 same.1
one_spelled line (frame b f) other p q = absurd (q.no_frame b f p)
one_spelled line (frame b f) unread p q = absurd (q.no_frame b f p)
one_spelled line (frame b f) blank p q = absurd (blank_has_no_parts line b p.third f.stamp q p.parts)
one_spelled line other (frame c g) p q = absurd (p.no_frame c g q)
one_spelled line other other p q = refl
one_spelled line other unread p q = absurd (q.no_other p)
one_spelled line other blank p q = absurd (blank_has_no_parts line p.bus p.third p.stamp q p.parts)
one_spelled line unread (frame c g) p q = absurd (p.no_frame c g q)
one_spelled line unread other p q = absurd (p.no_other q)
one_spelled line unread unread p q = refl
one_spelled line unread blank p q = absurd (p.no_blank q)
one_spelled line blank (frame c g) p q = absurd (blank_has_no_parts line c q.third g.stamp p q.parts)
one_spelled line blank other p q = absurd (blank_has_no_parts line q.bus q.third q.stamp p q.parts)
one_spelled line blank unread p q = absurd (q.no_blank p)
one_spelled line blank blank p q = refl
