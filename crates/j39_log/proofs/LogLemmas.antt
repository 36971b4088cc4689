-- The lines of a log are determined by its bytes.
use Rattle.std.proofs.Common.{◌≡◌, ◌≢◌, ◌==◌, ◌⊎◌, ℕ, List, [], ◌∷◌, ◌++◌, refl, sym, ap, ap₂, ◌∙◌, if◌then◌else◌, append-nil, append_assoc, inl, inr, false}
use Rattle.std.specs.List.{AllByRecursion}
use Rattle.std.proofs.lemmas.Bool.{eqb-true, eqb-false, ne_eqb, cond_both}
use Rattle.j39_frame.specs.Frame.{FrameRecord}
use Rattle.j39_log.specs.Spelled.{Spelled}
use Rattle.j39_log.specs.Log.{HasNoNewline, ended, LacksLastNewline, AreLines, SpellEach, IsLog, frames_of, AreFrames}
use Rattle.j39_log.proofs.LineLemmas.{one_spelled}

-- b before the first line
abbrev with_first : ℕ → List (List ℕ) → List (List ℕ)
with_first b [] = (b ∷ []) ∷ []
with_first b (line ∷ lines) = (b ∷ line) ∷ lines

-- the lines of bytes, computed
lines_of : List ℕ → List (List ℕ)
lines_of [] = []
lines_of (b ∷ bs) = if b == 10 then [] ∷ lines_of bs else with_first b (lines_of bs)

lines_of-line : (line bs : List ℕ) → HasNoNewline line → lines_of (line ++ (10 ∷ bs)) ≡ line ∷ lines_of bs
unfolding lines_of
lines_of-line [] bs h = refl
lines_of-line (b ∷ line) bs h = rw (ne_eqb b 10 h.0) (ap (with_first b) (lines_of-line line bs h.1))

lines_of-last : (last : List ℕ) → HasNoNewline last → last ≢ [] → lines_of last ≡ last ∷ []
unfolding lines_of
lines_of-last [] h some = absurd (some refl)
lines_of-last (b ∷ []) h some = rw (ne_eqb b 10 h.0) refl
lines_of-last (b ∷ c ∷ cs) h some = rw (ne_eqb b 10 h.0) (ap (with_first b) (lines_of-last (c ∷ cs) h.1 (λ e. cc)))

lines_of-ended : (lines : List (List ℕ)) (bs : List ℕ) → AllByRecursion HasNoNewline lines → lines_of (ended lines ++ bs) ≡ lines ++ lines_of bs
unfolding lines_of
lines_of-ended [] bs h = refl
lines_of-ended (line ∷ lines) bs h =
    ap lines_of (append_assoc line (10 ∷ ended lines) bs) ∙ lines_of-line line (ended lines ++ bs) h.0
    ∙ ap (λ ls. line ∷ ls) (lines_of-ended lines bs h.1)

All-front : (front : List (List ℕ)) (last : List ℕ) → AllByRecursion HasNoNewline (front ++ (last ∷ [])) → AllByRecursion HasNoNewline front
All-front [] last h = tt
All-front (line ∷ front) last h = (h.0, All-front front last h.1)

All-last : (front : List (List ℕ)) (last : List ℕ) → AllByRecursion HasNoNewline (front ++ (last ∷ [])) → HasNoNewline last
All-last [] last h = h.0
All-last (line ∷ front) last h = All-last front last h.1

lines_of-lines : (bytes : List ℕ) (lines : List (List ℕ)) → AreLines bytes lines → lines_of bytes ≡ lines
unfolding lines_of
lines_of-lines bytes lines h =
    elim h.bytes_are [
      | inl e ↦ ap lines_of (e ∙ sym (append-nil (ended lines))) ∙ lines_of-ended lines [] h.whole ∙ append-nil lines
      | inr k ↦
          let whole : AllByRecursion HasNoNewline (k.front ++ (k.last ∷ [])) = rw k.lines_are at h.whole in
          ap lines_of k.bytes_are ∙ lines_of-ended k.front k.last (All-front k.front k.last whole)
          ∙ ap (λ ls. k.front ++ ls) (lines_of-last k.last (All-last k.front k.last whole) k.last_is) ∙ sym k.lines_are
    ]

-- the bytes have one list of lines
pub same_lines : (bytes : List ℕ) (a b : List (List ℕ)) → AreLines bytes a → AreLines bytes b → a ≡ b
same_lines bytes a b p q = sym (lines_of-lines bytes a p) ∙ lines_of-lines bytes b q

same_each : (lines : List (List ℕ)) (s t : List Spelled) → SpellEach lines s → SpellEach lines t → s ≡ t
same_each [] [] [] p q = refl
same_each [] [] (y ∷ t) p q = absurd q
same_each [] (x ∷ s) t p q = absurd p
same_each (line ∷ lines) [] t p q = absurd p
same_each (line ∷ lines) (x ∷ s) [] p q = absurd q
same_each (line ∷ lines) (x ∷ s) (y ∷ t) p q = ap₂ (λ h ts. h ∷ ts) (one_spelled line x y p.0 q.0) (same_each lines s t p.1 q.1)

-- the bytes spell one list
pub same_log : (bytes : List ℕ) (s t : List Spelled) → IsLog bytes s → IsLog bytes t → s ≡ t
same_log bytes s t p q =
    let lines = same_lines bytes p.lines q.lines p.are_lines q.are_lines in
    same_each q.lines s t (rw lines at p.spell_each) q.spell_each

pub same_frames : (given : _) (bytes : List ℕ) (f g : List FrameRecord) → AreFrames given bytes f → AreFrames given bytes g → f ≡ g
same_frames given bytes f g p q = p.2 ∙ ap (frames_of given) (same_log bytes p.0 q.0 p.1 q.1) ∙ sym q.2

-- ---- the first lines of a log

-- lines that are ended, with any bytes behind them, are the first lines of all
pub first_lines : (bytes rest : List ℕ) (lines all : List (List ℕ)) → AllByRecursion HasNoNewline lines → bytes ≡ ended lines ++ rest → AreLines bytes all
    → (more : List (List ℕ)) × (all ≡ lines ++ more)
first_lines bytes rest lines all whole is h = (lines_of rest, sym (lines_of-lines bytes all h) ∙ ap lines_of is ∙ lines_of-ended lines rest whole)

first_each : (lines more : List (List ℕ)) (spelled all : List Spelled) → SpellEach lines spelled → SpellEach (lines ++ more) all
    → (left : List Spelled) × (all ≡ spelled ++ left)
first_each [] more [] all p q = (all, refl)
first_each [] more (x ∷ spelled) all p q = absurd p
first_each (line ∷ lines) more [] all p q = absurd p
first_each (line ∷ lines) more (x ∷ spelled) [] p q = absurd q
first_each (line ∷ lines) more (x ∷ spelled) (y ∷ all) p q =
    let left = first_each lines more spelled all p.1 q.1 in
    (left.0, ap₂ (λ h ts. h ∷ ts) (one_spelled line y x q.0 p.0) left.1)

-- what they spell is the front of what the log spells
pub first_spelled : (bytes rest : List ℕ) (lines : List (List ℕ)) (spelled all : List Spelled) → AllByRecursion HasNoNewline lines → SpellEach lines spelled
    → bytes ≡ ended lines ++ rest → IsLog bytes all → (left : List Spelled) × (all ≡ spelled ++ left)
first_spelled bytes rest lines spelled all whole each is log =
    let more = first_lines bytes rest lines log.lines whole is log.are_lines in
    first_each lines more.0 spelled all each (rw (sym more.1) log.spell_each)

-- ---- each log has its lines

whole_lines_of : (bytes : List ℕ) → AllByRecursion HasNoNewline (lines_of bytes)
unfolding lines_of
whole_lines_of [] = tt
whole_lines_of (b ∷ bs) =
    cond_both (b == 10) ([] ∷ lines_of bs) (with_first b (lines_of bs)) (AllByRecursion HasNoNewline)
    (λ e. (tt, whole_lines_of bs))
    (λ e. go (lines_of bs) e (whole_lines_of bs))
  where
    go : (lines : List (List ℕ)) → b == 10 ≡ false → AllByRecursion HasNoNewline lines → AllByRecursion HasNoNewline (with_first b lines)
    go [] e h = ((eqb-false b 10 e, tt), tt)
    go (line ∷ lines) e h = ((eqb-false b 10 e, h.0), h.1)

-- the bytes are these lines, all ended or but for the last
abbrev Joined : List ℕ → List (List ℕ) → Type 0
Joined bytes lines = (bytes ≡ ended lines) ⊎ LacksLastNewline bytes lines

joined_newline : (bs : List ℕ) (lines : List (List ℕ)) → Joined bs lines → Joined (10 ∷ bs) ([] ∷ lines)
joined_newline bs lines h =
    elim h [
      | inl e ↦ inl (ap (λ t. 10 ∷ t) e)
      | inr k ↦ inr (record { front = [] ∷ k.front; last = k.last; lines_are = ap (λ ls. [] ∷ ls) k.lines_are; last_is = k.last_is; bytes_are = ap (λ t. 10 ∷ t) k.bytes_are })
    ]

joined_byte : (b : ℕ) (bs : List ℕ) (lines : List (List ℕ)) → Joined bs lines → Joined (b ∷ bs) (with_first b lines)
joined_byte b bs [] h =
    elim h [
      | inl e ↦ inr (record { front = []; last = b ∷ []; lines_are = refl; last_is = λ n. cc; bytes_are = ap (λ t. b ∷ t) e })
      | inr k ↦ absurd (none k.front k.last k.lines_are)
    ]
  where
    none : (front : List (List ℕ)) (last : List ℕ) → [] ≡ front ++ (last ∷ []) → ⊥
    none [] last e = cc
    none (x ∷ front) last e = cc
joined_byte b bs (line ∷ lines) h =
    elim h [
      | inl e ↦ inl (ap (λ t. b ∷ t) e)
      | inr k ↦ inr (go k.front k.last k.lines_are k.last_is k.bytes_are)
    ]
  where
    go : (front : List (List ℕ)) (last : List ℕ) → line ∷ lines ≡ front ++ (last ∷ []) → last ≢ [] → bs ≡ ended front ++ last
        → LacksLastNewline (b ∷ bs) ((b ∷ line) ∷ lines)
    go [] last e some is =
        let same : line ≡ last = cc in
        let none : lines ≡ [] = cc in
        record { front = []; last = b ∷ last; lines_are = ap₂ (λ x xs. (b ∷ x) ∷ xs) same none; last_is = λ n. cc; bytes_are = ap (λ t. b ∷ t) is }
    go (x ∷ front) last e some is =
        let same : line ≡ x = cc in
        let rest : lines ≡ front ++ (last ∷ []) = cc in
        record { front = (b ∷ x) ∷ front; last = last; lines_are = ap₂ (λ y ys. (b ∷ y) ∷ ys) same rest; last_is = some; bytes_are = ap (λ t. b ∷ t) is }

joined_lines_of : (bytes : List ℕ) → Joined bytes (lines_of bytes)
unfolding lines_of
joined_lines_of [] = inl refl
joined_lines_of (b ∷ bs) =
    cond_both (b == 10) ([] ∷ lines_of bs) (with_first b (lines_of bs)) (Joined (b ∷ bs))
    (λ e. rw (eqb-true b 10 e) (joined_newline bs (lines_of bs) (joined_lines_of bs)))
    (λ e. joined_byte b bs (lines_of bs) (joined_lines_of bs))

-- each log has its lines
pub some_lines : (bytes : List ℕ) → (lines : List (List ℕ)) × AreLines bytes lines
some_lines bytes = (lines_of bytes, record { whole = whole_lines_of bytes; bytes_are = joined_lines_of bytes })
