-- The parts of a line where they mostly stand.
use Rattle.std.proofs.Common.{◌≡◌, ◌<◌, ◌≤◌, ◌+◌, ◌-◌, ◌^◌, ◌⊎◌, inl, inr, ℕ, Bool, true, false, zero, suc, List, [], ◌∷◌, ◌++◌, length, take, drop, replicate, get_or, refl, sym, ap, ap₂, ◌∙◌, arith, subst, append_assoc, take-append-drop, length-append, length-take, length-drop}
use Rattle.std.specs.Prelude.{if◌then◌else◌, min, nat_le}
use Rattle.std.specs.List.{AllByRecursion}
use Rattle.std.specs.Str.Parse.{AllDigits, digits_value}
use Rattle.std.proofs.Math.Seq.{drop-append_seam, take-append-add, take-append_seam}
use Rattle.std.proofs.lemmas.Bool.{leb-true}
use Rattle.std.proofs.lemmas.List.{drop-drop, drop_more, get_or-replicate, take_all}
use Rattle.j39_frame.specs.Identifier.{id_raw}
use Rattle.j39_log.specs.Bus.{IsBetween, IsBusName, third_of}
use Rattle.j39_log.specs.Form.{Fits, rests}
use Rattle.j39_log.specs.FrameLine.{BeginsLine, BeginsStamp, HasForm, HasFront, HasThird}
use Rattle.j39_log.specs.Lanes.{bytes_of}
use Rattle.j39_log.specs.LastSecond.{AreDecimals, HasSecond, IsSecond}
use Rattle.j39_log.specs.Text.{IsFrameText, IsStampText}
use Rattle.j39_log.specs.declared.fast.form.Form.{Form}
use Rattle.j39_log.specs.declared.fast.frame_line.FrameLine.{FrameLine}
use Rattle.j39_log.proofs.FormLemmas.{all_dropped, digit_lanes, fixed, rests_behind}
use Rattle.j39_log.proofs.SpacedLemmas.{first_line}
use Rattle.j39_log.proofs.StampLaneLemmas.{digits_front, stamp_read}

-- ---- fronts of fronts

pub take_twice : (n m : ℕ) (xs : List ℕ) → n ≤ m → take n (take m xs) ≡ take n xs
take_twice zero m xs h = refl
take_twice (suc n) zero xs h = absurd (omega arith)
take_twice (suc n) (suc m) [] h = refl
take_twice (suc n) (suc m) (x ∷ xs) h = ap (λ ys. x ∷ ys) (take_twice n m xs (omega arith))

pub take_dropped : (k n m : ℕ) (xs : List ℕ) → n + k ≤ m → take n (drop k (take m xs)) ≡ take n (drop k xs)
take_dropped zero n m xs h = take_twice n m xs (omega arith)
take_dropped (suc k) zero m xs h = refl
take_dropped (suc k) (suc n) zero xs h = absurd (omega arith)
take_dropped (suc k) (suc n) (suc m) [] h = refl
take_dropped (suc k) (suc n) (suc m) (x ∷ xs) h = take_dropped k (suc n) m xs (omega arith)

pub take_min : (xs : List ℕ) (n : ℕ) → take (min (length xs) n) xs ≡ take n xs
take_min xs n = grind (arith, take_all (min (length xs) n) xs, take_all n xs)

take_whole : (xs ys : List ℕ) (n : ℕ) → length xs ≡ n → take n (xs ++ ys) ≡ xs
take_whole xs ys n e = ap (λ k. take k (xs ++ ys)) (sym e) ∙ take-append_seam xs ys

drop_whole : (xs ys : List ℕ) (n : ℕ) → length xs ≡ n → drop n (xs ++ ys) ≡ ys
drop_whole xs ys n e = ap (λ k. drop k (xs ++ ys)) (sym e) ∙ drop-append_seam xs ys

-- ---- the first two blocks

-- the second and four digits
second_found : (bytes : List ℕ) (form : Form) (micros : ℕ) → 16 ≤ length bytes → Fits (take 16 bytes) form → HasSecond form micros
    → IsSecond (take 12 bytes) micros × AllDigits 10 (take 4 (drop 12 bytes))
second_found bytes form micros long fits h =
    let s = h.second in
    let fit : length h.text ≡ 12 = ap length s.text_is ∙ ap suc (length-append s.seconds (46 ∷ [])) ∙ (let l = s.seconds_fit in omega (arith, l)) in
    let few : length (take 16 bytes) ≡ 16 = simp length-take (omega (arith, long)) in
    let inside : AllByRecursion (λ x. x ≡ 0) (rests (take 16 bytes) (h.text ++ (48 ∷ 48 ∷ 48 ∷ 48 ∷ [])) (replicate 12 0 ++ replicate 4 9)) = rw (h.least_is, h.above_is) at fits.inside in
    let least : AllByRecursion (λ b. b < 256) (h.text ++ (48 ∷ 48 ∷ 48 ∷ 48 ∷ [])) = rw h.least_is at fits.least in
    let all : length (h.text ++ (48 ∷ 48 ∷ 48 ∷ 48 ∷ [])) ≡ 16 = length-append h.text (48 ∷ 48 ∷ 48 ∷ 48 ∷ []) ∙ (omega (arith, fit)) in
    let same : take 12 (take 16 bytes) ≡ take 12 (h.text ++ (48 ∷ 48 ∷ 48 ∷ 48 ∷ [])) =
    fixed 12 (take 16 bytes) _ (replicate 4 9) fits.bytes least (omega (arith, few)) (omega (arith, all)) inside in
    let text : take 12 bytes ≡ h.text = sym (take_twice 12 16 bytes (omega arith)) ∙ same ∙ take_whole h.text _ 12 fit in
    let behind = rests_behind 12 (take 16 bytes) (h.text ++ (48 ∷ 48 ∷ 48 ∷ 48 ∷ [])) (replicate 12 0 ++ replicate 4 9) inside (omega (arith, few)) (omega (arith, all)) (omega arith) in
    let digits : drop 12 (h.text ++ (48 ∷ 48 ∷ 48 ∷ 48 ∷ [])) ≡ 48 ∷ 48 ∷ 48 ∷ 48 ∷ [] = drop_whole h.text (48 ∷ 48 ∷ 48 ∷ 48 ∷ []) 12 fit in
    let left : length (drop 12 (take 16 bytes)) ≡ 4 = simp length-drop (omega (arith, few)) in (
      subst (λ t. IsSecond t micros) (sym text) h.second,
      subst (AllDigits 10) (take_dropped 12 4 16 bytes (omega arith))
          (digit_lanes 4 (drop 12 (take 16 bytes)) [] [] (all_dropped 12 (take 16 bytes) fits.bytes) (omega (arith, left))
          (subst (λ ls. AllByRecursion (λ x. x ≡ 0) (rests (drop 12 (take 16 bytes)) ls (9 ∷ 9 ∷ 9 ∷ 9 ∷ []))) digits behind)),
    )

-- two digits, and the name with what stands round it
name_found : (between bus : List ℕ) (form : Form) → length between ≡ 16 → Fits between form → IsBetween bus form
    → AllDigits 10 (take 2 between) × (length bus ≤ 11 → take (3 + length bus) (drop 2 between) ≡ 41 ∷ 32 ∷ (bus ++ (32 ∷ [])))
name_found between bus form few fits b =
    let front = take 11 bus in
    let ls : List ℕ = 41 ∷ 32 ∷ (front ++ drop (4 + length front) (replicate 16 32)) in
    let ms : List ℕ = replicate (3 + length front) 0 ++ drop (5 + length front) (replicate 16 255) in
    let inside : AllByRecursion (λ x. x ≡ 0) (rests between (48 ∷ 48 ∷ ls) (9 ∷ 9 ∷ ms)) = rw (b.least_is, b.above_is) at fits.inside in
    let least : AllByRecursion (λ x. x < 256) (48 ∷ 48 ∷ ls) = rw b.least_is at fits.least in
    let behind = rests_behind 2 between (48 ∷ 48 ∷ ls) (9 ∷ 9 ∷ ms) inside (omega (arith, few)) (omega arith) (omega arith) in
    let left : length (drop 2 between) ≡ 14 = simp length-drop (omega (arith, few)) in (
      digit_lanes 2 between ls ms fits.bytes (omega (arith, few)) inside,
      λ short.
          let is : front ≡ bus = take_all 11 bus short in
          let all : List ℕ = replicate 16 32 in
          let later : List ℕ = drop (4 + length bus + 1) all in
          let space : get_or all (4 + length bus) 0 ≡ 32 = get_or-replicate 16 (4 + length bus) 32 0 (omega (arith, short)) in
          let spaces : drop (4 + length bus) all ≡ 32 ∷ later = drop_more all (4 + length bus) 0 (omega (arith, short)) ∙ ap (λ b. b ∷ later) space in
          let ls_is : ls ≡ 41 ∷ 32 ∷ (bus ++ (32 ∷ later)) =
          ap (λ (name : List ℕ). 41 ∷ 32 ∷ (name ++ drop (4 + length name) all)) is ∙ ap (λ t. 41 ∷ 32 ∷ (bus ++ t)) spaces in
          let long : 3 + length bus ≤ length ls = omega (arith, ap length ls_is, length-append bus (32 ∷ later)) in
          let ms_is : ms ≡ replicate (3 + length bus) 0 ++ drop (5 + length bus) (replicate 16 255) = ap (λ (name : List ℕ). replicate (3 + length name) 0 ++ drop (5 + length name) (replicate 16 255)) is in
          fixed (3 + length bus) (drop 2 between) ls (drop (5 + length bus) (replicate 16 255)) (all_dropped 2 between fits.bytes) least.1.1 (omega (arith, left, short)) long
          (subst (λ xs. AllByRecursion (λ x. x ≡ 0) (rests (drop 2 between) ls xs)) ms_is behind)
          ∙ ap (take (3 + length bus)) ls_is ∙ ap (λ k. take k (41 ∷ 32 ∷ (bus ++ (32 ∷ later)))) (plus_three (length bus))
          ∙ ap (λ xs. 41 ∷ 32 ∷ xs) (take-append-add bus (32 ∷ later) 1),
    )
  where
    plus_three : (n : ℕ) → 3 + n ≡ suc (suc (n + 1))
    plus_three n = omega arith

pub front_found : (bytes between bus : List ℕ) (found : FrameLine) (second form : Form) → 16 ≤ length bytes → length between ≡ 16 → found.front.now ≡ take 18 bytes
    → Fits (take 16 bytes) second → HasSecond second found.second → Fits between form → IsBetween bus form → IsBusName bus → HasFront bytes between bus found
front_found bytes between bus found second form long few front fits_first has fits_next is named =
    let s = second_found bytes second found.second long fits_first has in
    let n = name_found between bus form few fits_next is in
    record { front_is = front; second = s.0; four = s.1; two = n.0; bus_is = named; named = n.1 }

-- ---- the last field and its end

pub third_parts : (text block digits rest1 rest2 «data» rest3 rest4 rest : List ℕ) (mark end : ℕ) → block ≡ take 26 text → rest ≡ drop 26 text → 26 ≤ length text
    → digits ≡ take 8 block → rest1 ≡ drop 8 block → rest1 ≡ mark ∷ rest2 → «data» ≡ take 16 rest2 → rest3 ≡ drop 16 rest2 → rest3 ≡ end ∷ rest4
    → (text ≡ digits ++ (mark ∷ («data» ++ (end ∷ rest)))) × (length digits ≡ 8) × (length «data» ≡ 16)
third_parts text block digits rest1 rest2 d rest3 rest4 rest mark end b r long di r1 m da r3 e =
    let len : length block ≡ 26 = ap length b ∙ simp length-take (omega (arith, long)) in
    let eight : length digits ≡ 8 = ap length di ∙ simp length-take (omega (arith, len)) in
    let left1 : length rest1 ≡ 18 = ap length r1 ∙ simp length-drop (omega (arith, len)) in
    let left2 : length rest2 ≡ 17 = (let k = sym (ap length m) ∙ left1 in omega (arith, k)) in
    let sixteen : length d ≡ 16 = ap length da ∙ simp length-take (omega (arith, left2)) in
    let left3 : length rest3 ≡ 1 = ap length r3 ∙ simp length-drop (omega (arith, left2)) in
    let none : rest4 ≡ [] = nothing rest4 (let k = sym (ap length e) ∙ left3 in omega (arith, k)) in
    let block_is : block ≡ digits ++ (mark ∷ (d ++ (end ∷ []))) =
    sym (take-append-drop 8 block) ∙ ap₂ (λ xs ys. xs ++ ys) (sym di) (sym r1 ∙ m ∙ ap (λ xs. mark ∷ xs)
    (sym (take-append-drop 16 rest2) ∙ ap₂ (λ xs ys. xs ++ ys) (sym da) (sym r3 ∙ e ∙ ap (λ xs. end ∷ xs) none))) in (
      sym (take-append-drop 26 text) ∙ ap₂ (λ xs ys. xs ++ ys) (sym b ∙ block_is) (sym r) ∙ append_assoc digits (mark ∷ (d ++ (end ∷ []))) rest
          ∙ ap (λ xs. digits ++ (mark ∷ xs)) (append_assoc d (end ∷ []) rest),
      eight,
      sixteen,
    )
  where
    nothing : (xs : List ℕ) → length xs ≡ 0 → xs ≡ []
    nothing [] e = refl
    nothing (x ∷ xs) e = absurd (omega arith)

-- ---- the line

pub line_found : (bytes cut third bus rest : List ℕ) (found : FrameLine) → 18 ≤ length bytes → found.front.now ≡ take 18 bytes → drop 18 bytes ≡ cut ++ (41 ∷ (32 ∷ (bus ++ (32 ∷ third))))
    → IsSecond (take 12 bytes) found.second → AllDigits 10 (drop 12 (take 18 bytes)) → AllDigits 10 cut → (length cut ≡ 0) ⊎ (length cut ≡ 3)
    → IsBusName bus → HasThird third found rest → BeginsLine bytes bus found rest
line_found bytes cut third bus rest found long front_is behind second decimals digits short named t =
    let front = take 18 bytes in
    let len : length front ≡ 18 = simp length-take (omega (arith, long)) in
    let within : IsSecond (take 12 front) found.second = subst (λ x. IsSecond x found.second) (sym (take_twice 12 18 bytes (omega arith))) second in
    let more = digits_value 10 (drop 12 front) in
    let are : AreDecimals (drop 12 front) more = record { fit = simp length-drop (omega (arith, len)); are = decimals; micros_are = refl } in
    let stamp : IsStampText (front ++ (cut ++ (41 ∷ []))) (found.second + more) = stamp_read front cut found.second more within are digits short in
    let few : length cut ≤ 3 = elim short [
      | inl none ↦ omega (arith, none)
      | inr three ↦ omega (arith, three)
    ] in
    let last = t.digits ++ (35 ∷ found.data.now) in
    let last_len : length last ≡ 25 = length-append t.digits (35 ∷ found.data.now) ∙ (let a = t.digits_fit in let b = t.data_fit in omega (arith, a, b)) in
    let spelled : IsFrameText last (id_raw found.id) (bytes_of found.data.now) = record {
      digits = t.digits;
      pairs = found.data.now;
      parts = record { text_is = refl; digits_fit = t.digits_fit };
      id_is = t.written.digits_are;
      id_fits = t.written.fits;
      bytes_are = t.bytes_are;
      bytes_fit = omega arith;
    } in
    let whole : bytes ≡ front ++ (cut ++ (41 ∷ (32 ∷ (bus ++ (32 ∷ (last ++ t.end)))))) =
    sym (take-append-drop 18 bytes) ∙ ap (λ xs. front ++ xs) (behind ∙ ap (λ xs. cut ++ (41 ∷ (32 ∷ (bus ++ (32 ∷ xs)))))
    (t.text_is ∙ sym (append_assoc t.digits (35 ∷ found.data.now) t.end))) in
    let l = first_line bytes front cut bus last t.end rest (bytes_of found.data.now) (found.second + more) (id_raw found.id) len last_len whole few t.ends stamp named spelled in
    let at_front : (P : List ℕ → Type 0) → P front → P found.front.now = λ P. subst P (sym front_is) in
    let begins : BeginsStamp found =
    record { second = at_front (λ f. IsSecond (take 12 f) found.second) within; decimals = at_front (λ f. AllDigits 10 (drop 12 f)) decimals } in
    record {
      line = l.0;
      takes = l.1;
      spells = record {
        stamped = begins;
        spells = λ frame its. l.2 frame
            (subst (λ f. IsStampText (f ++ (cut ++ (41 ∷ []))) frame.stamp) front_is (its.stamp_is begins cut digits short))
            (subst (λ bs. IsFrameText last frame.id bs) (sym its.bytes_are) (subst (λ i. IsFrameText last i (bytes_of found.data.now)) (sym its.id_is) spelled));
        frame = record { stamp = found.second + more; id = id_raw found.id; bytes = bytes_of found.data.now };
        is_its = record {
          stamp_is = λ b c d e. at_front (λ f. IsStampText (f ++ (c ++ (41 ∷ []))) (found.second + more)) (stamp_read front c found.second more within are d e);
          id_is = refl;
          bytes_are = refl;
        };
      };
    }

-- where what stands behind the front begins
behind_name : (bus text : List ℕ) (n : ℕ) → n ≡ 3 + length bus → take n text ≡ 41 ∷ 32 ∷ (bus ++ (32 ∷ [])) → text ≡ 41 ∷ 32 ∷ (bus ++ (32 ∷ drop n text))
behind_name bus text n e h = sym (take-append-drop n text) ∙ ap (λ xs. xs ++ drop n text) h ∙ ap (λ xs. 41 ∷ 32 ∷ xs) (append_assoc bus (32 ∷ []) (drop n text))

drop_take : (k n : ℕ) (xs : List ℕ) → drop k (take (n + k) xs) ≡ take n (drop k xs)
drop_take zero n xs = ap (λ m. take m xs) (omega arith)
drop_take (suc k) n [] = ap (drop (suc k)) (none (n + suc k)) ∙ sym (none n) where
  none : (m : ℕ) → take {A = ℕ} m [] ≡ []
  none zero = refl
  none (suc m) = refl
drop_take (suc k) n (x ∷ xs) = ap (λ m. drop (suc k) (take m (x ∷ xs))) (more n k) ∙ drop_take k n xs where
  more : (n k : ℕ) → n + suc k ≡ suc (n + k)
  more n k = omega arith

take_split : (m n : ℕ) (xs : List ℕ) → take (n + m) xs ≡ take m xs ++ take n (drop m xs)
take_split zero n xs = ap (λ m. take m xs) (omega arith)
take_split (suc m) n [] = none (n + suc m) ∙ sym (none n) where
  none : (m : ℕ) → take {A = ℕ} m [] ≡ []
  none zero = refl
  none (suc m) = refl
take_split (suc m) n (x ∷ xs) = ap (λ k. take k (x ∷ xs)) (more n m) ∙ ap (λ ys. x ∷ ys) (take_split m n xs) where
  more : (n k : ℕ) → n + suc k ≡ suc (n + k)
  more n k = omega arith

digits_append : (xs ys : List ℕ) → AllDigits 10 xs → AllDigits 10 ys → AllDigits 10 (xs ++ ys)
digits_append [] ys p q = q
digits_append (x ∷ xs) ys p q = (p.0, digits_append xs ys p.1 q)

digits_behind : (n : ℕ) (xs : List ℕ) → AllDigits 10 xs → AllDigits 10 (drop n xs)
digits_behind zero xs p = p
digits_behind (suc n) [] p = tt
digits_behind (suc n) (x ∷ xs) p = digits_behind n xs p.1

decimals_found : (bytes : List ℕ) → AllDigits 10 (take 4 (drop 12 bytes)) → AllDigits 10 (take 2 (drop 16 bytes)) → AllDigits 10 (drop 12 (take 18 bytes))
decimals_found bytes four two =
    subst (AllDigits 10) (sym (drop_take 12 6 bytes ∙ take_split 4 2 (drop 12 bytes) ∙ ap (λ xs. take 4 (drop 12 bytes) ++ take 2 xs) (drop-drop 4 12 bytes)))
    (digits_append _ _ four two)

-- a name that is found is short
short_name : (bus : List ℕ) (at len : ℕ) → at ≡ third_of bus → at ≤ len → len < 2 ^ 63 → (length bus ≤ 11) × (at ≡ length bus + 21)
short_name bus at len is within few = go (nat_le (length bus) 11) refl is where
  go : (b : Bool) → nat_le (length bus) 11 ≡ b → at ≡ (if b then length bus + 21 else 2 ^ 64 - 1) → (length bus ≤ 11) × (at ≡ length bus + 21)
  go true short e = (leb-true _ _ short, e)
  go false long e = absurd (omega (arith, e, few, within))

-- the name stands behind two bytes of the block, which is `at` bytes behind the line's begin
named_at : (bytes bus : List ℕ) (at third_at : ℕ) → length bus ≤ 11 → take (3 + length bus) (drop 2 (take 16 (drop at bytes))) ≡ 41 ∷ 32 ∷ (bus ++ (32 ∷ []))
    → third_at ≡ at + 2 + (3 + length bus) → drop (at + 2) bytes ≡ 41 ∷ 32 ∷ (bus ++ (32 ∷ drop third_at bytes))
named_at bytes bus at third_at short named is =
    let n = 3 + length bus in
    let text = drop (at + 2) bytes in
    let front : take n text ≡ 41 ∷ 32 ∷ (bus ++ (32 ∷ [])) = sym (ap (take n) (drop-drop 2 at bytes)) ∙ sym (take_dropped 2 n 16 (drop at bytes) (omega arith)) ∙ named in
    behind_name bus text n refl front ∙ ap (λ xs. 41 ∷ 32 ∷ (bus ++ (32 ∷ xs))) (drop-drop n (at + 2) bytes ∙ ap (λ k. drop k bytes) (sym is))

-- six decimals: the block begins with the last two
pub six_found : (bytes between bus rest : List ℕ) (found : FrameLine) (third_at : ℕ) → 18 ≤ length bytes → length bytes < 2 ^ 63 → third_at ≡ third_of bus
    → between ≡ take 16 (drop 16 bytes) → HasForm bytes between third_at bus found rest → BeginsLine bytes bus found rest
six_found bytes between bus rest found third_at long bounded at block h =
    let short = short_name bus third_at (length bytes) at h.within bounded in
    let f = h.front in
    let two : AllDigits 10 (take 2 (drop 16 bytes)) = subst (AllDigits 10) (ap (take 2) block ∙ take_twice 2 16 (drop 16 bytes) (omega arith)) f.two in
    let named = subst (λ b. take (3 + length bus) (drop 2 b) ≡ 41 ∷ 32 ∷ (bus ++ (32 ∷ []))) block (f.named short.0) in
    line_found bytes [] (drop third_at bytes) bus rest found long f.front_is (named_at bytes bus 16 third_at short.0 named (omega (arith, short.1)))
    f.second (decimals_found bytes f.four two) tt (inl refl) f.bus_is h.third

-- nine: three digits stand before the block, of which the first is cut, as those are with which it begins
pub nine_found : (bytes between three later bus rest : List ℕ) (found : FrameLine) (at third_at : ℕ) → 16 ≤ length bytes → length bytes < 2 ^ 63 → at ≡ third_of bus → third_at ≡ at + 3 → at ≤ length bytes
    → AllDigits 10 three → length three ≡ 3 → drop 16 bytes ≡ three ++ later → between ≡ take 16 later → HasForm bytes between third_at bus found rest → BeginsLine bytes bus found rest
nine_found bytes between three later bus rest found at third_at some bounded is third_is within digits fit cut block h =
    let behind : length bytes ≡ 16 + (3 + length later) = (let a = ap length cut in let b = length-drop 16 bytes in let d = length-append three later in omega (arith, some, fit, a, b, d)) in
    let long : 18 ≤ length bytes = omega (arith, behind) in
    let short = short_name bus at (length bytes) is within bounded in
    let f = h.front in
    let later_is : later ≡ drop 19 bytes = sym (drop_whole three later 3 fit) ∙ ap (drop 3) (sym cut) ∙ drop-drop 3 16 bytes in
    let block_is : between ≡ take 16 (drop 19 bytes) = block ∙ ap (take 16) later_is in
    let two : take 2 (drop 16 bytes) ≡ take 2 three = ap (take 2) cut ∙ take_front three later fit in
    let named = subst (λ b. take (3 + length bus) (drop 2 b) ≡ 41 ∷ 32 ∷ (bus ++ (32 ∷ []))) block_is (f.named short.0) in
    let one : take 1 (drop 18 bytes) ≡ drop 2 three = ap (take 1) (sym (drop-drop 2 16 bytes) ∙ ap (drop 2) cut) ∙ one_front three later fit in
    let pair : AllDigits 10 (take 2 (drop 19 bytes)) = subst (AllDigits 10) (ap (take 2) block_is ∙ take_twice 2 16 (drop 19 bytes) (omega arith)) f.two in
    let cut_is : take 3 (drop 18 bytes) ≡ take 1 (drop 18 bytes) ++ take 2 (drop 19 bytes) = take_split 1 2 (drop 18 bytes) ∙ ap (λ xs. take 1 (drop 18 bytes) ++ take 2 xs) (drop-drop 1 18 bytes) in
    let are : AllDigits 10 (take 3 (drop 18 bytes)) = subst (AllDigits 10) (sym cut_is) (digits_append _ _ (subst (AllDigits 10) (sym one) (digits_behind 2 three digits)) pair) in
    let len : length (take 3 (drop 18 bytes)) ≡ 3 = simp (length-take, length-drop) (let w = h.within in omega (arith, short.1, third_is, w)) in
    line_found bytes (take 3 (drop 18 bytes)) (drop third_at bytes) bus rest found long f.front_is
    (sym (take-append-drop 3 (drop 18 bytes)) ∙ ap (λ xs. take 3 (drop 18 bytes) ++ xs) (drop-drop 3 18 bytes ∙ named_at bytes bus 19 third_at short.0 named (omega (arith, short.1, third_is))))
    f.second (decimals_found bytes f.four (subst (AllDigits 10) (sym two) (digits_front 2 three digits))) are (inr len) f.bus_is h.third
  where
    take_front : (xs ys : List ℕ) → length xs ≡ 3 → take 2 (xs ++ ys) ≡ take 2 xs
    take_front (a ∷ b ∷ xs) ys e = refl
    take_front (a ∷ []) ys e = absurd (omega arith)
    take_front [] ys e = absurd (omega arith)

    one_front : (xs ys : List ℕ) → length xs ≡ 3 → take 1 (drop 2 (xs ++ ys)) ≡ drop 2 xs
    one_front (a ∷ b ∷ d ∷ []) ys e = refl
    one_front (a ∷ b ∷ d ∷ x ∷ xs) ys e = absurd (omega arith)
    one_front (a ∷ b ∷ []) ys e = absurd (omega arith)
    one_front (a ∷ []) ys e = absurd (omega arith)
    one_front [] ys e = absurd (omega arith)
