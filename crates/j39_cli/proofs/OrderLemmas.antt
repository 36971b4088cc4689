-- The lines of a text, and what is told of FILEs.
use Rattle.j39_cli.proofs.Common.{◌≡◌, ◌==◌, ◌<◌, ◌+◌, ◌∷◌, ◌∙◌, [], ℕ, suc, Bool, true, false, List, Option, None, Some, ap, arith, drop, get_or, if◌then◌else◌, length, map, refl, sym, take}
use Rattle.std.proofs.Common.{add-one, drop-cons}
use Rattle.std.specs.List.{prefix_len}
use Rattle.j39_io.specs.Chars.{newline}
use Rattle.j39_log.specs.Newline.{is_no_newline}
use Rattle.j39_cli.specs.FileEnds.{ends_record, lines_behind, span_record}
use Rattle.j39_cli.specs.Order.{begun_with, is_before, latest, lines_of, name_of, order_after, order_line}
use Rattle.j39_cli.specs.declared.file_ends.FileEnds.{FileEnds}

-- behind the newline that a text begins with
abbrev pub behind : List ℕ → Option (List ℕ)
behind [] = None
behind (byte ∷ text) = Some text

abbrev IsCut : List ℕ → Type 0
IsCut text = lines_of text ≡ take (prefix_len is_no_newline text) text ∷ lines_behind (behind (drop (prefix_len is_no_newline text) text))

cut_more : (byte : ℕ) (text : List ℕ) (b : Bool) → (byte == newline) ≡ b → IsCut text → IsCut (byte ∷ text)
cut_more byte text true is cut = rw is refl
cut_more byte text false is cut =
    let more : 1 + prefix_len is_no_newline text ≡ suc (prefix_len is_no_newline text) = omega arith in
    rw (is, more) (ap (begun_with byte) cut)

pub cut : (text : List ℕ) → IsCut text
cut [] = refl
cut (byte ∷ text) = cut_more byte text (byte == newline) refl (cut text)

pub cut_at : (text line rest : List ℕ) (n : ℕ) → n ≡ prefix_len is_no_newline text → line ≡ take n text → rest ≡ drop n text
    → lines_of text ≡ line ∷ lines_behind (behind rest)
cut_at text line rest n value front back = rw (front, back, value) (cut text)

-- what is told of these, behind the last
abbrev pub told_after : Option (List ℕ × ℕ) → List FileEnds → List ℕ
told_after last files = order_after last (map (λ ends. (ends.file, ends.span)) (map ends_record files))

pub told_next : (last : Option (List ℕ × ℕ)) (files : List FileEnds) (i : ℕ) (e : FileEnds) → i < length files → e ≡ get_or files i e
    → told_after last (drop i files) ≡ (if is_before (span_record e.span).begins last then order_line (name_of last) e.file.now
    else told_after (latest e.file.now (span_record e.span).ends last) (drop (i + 1) files))
told_next last files i e fits is = rw (add-one, drop-cons files i e, sym is) refl

-- the one that is told
overtakes : (b : Bool) (x y : List ℕ) → Some x ≡ (if b then Some y else None) → (b ≡ true) × (x ≡ y)
overtakes true x y is = (refl, cc)
overtakes false x y is = absurd (cc)

pub told_here : (last : Option (List ℕ × ℕ)) (files : List FileEnds) (i : ℕ) (e : FileEnds) (before : List ℕ) → i < length files → e ≡ get_or files i e
    → Some before ≡ (if is_before (span_record e.span).begins last then Some (name_of last) else None)
    → told_after last (drop i files) ≡ order_line before e.file.now
told_here last files i e before fits is told =
    let o = overtakes (is_before (span_record e.span).begins last) before (name_of last) told in
    told_next last files i e fits is ∙ rw (o.0, o.1) refl
