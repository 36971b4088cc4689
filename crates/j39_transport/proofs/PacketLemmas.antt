-- The data of packets.
use Rattle.std.proofs.Common.{◌≡◌, ℕ, ◌+◌, ◌-◌, ◌*◌, ◌<◌, ◌≤◌, Bool, true, false, nat_le, List, ◌++◌, length, take, drop, replicate, min, refl, sym, ap, ◌∙◌, arith, take_all, take-add, length-append}
use Rattle.j39_transport.specs.Protocol.{filler}
use Rattle.j39_transport.specs.Cutting.{packet_data}
use Rattle.std.proofs.Math.Seq.{take-append-add}
use Rattle.std.proofs.lemmas.Bool.{leb-true, leb-false}
use Rattle.std.proofs.lemmas.List.{append-nil, take-append-le, take-replicate, drop-replicate, drop-append-le, length-take}

filled_short : (bytes : List ℕ) → length bytes ≤ 7
    → bytes ++ drop (length bytes) (replicate 7 filler) ≡ take 7 (bytes ++ replicate 7 filler)
filled_short bytes h =
    let n : length bytes + (7 - length bytes) ≡ 7 = omega arith in
    let m : 7 - length bytes ≤ 7 = omega arith in
    ap (λ (r : List ℕ). bytes ++ r) (drop-replicate (length bytes) 7 255 ∙ sym (take-replicate (7 - length bytes) 7 255 m))
    ∙ (sym (take-append-add bytes (replicate 7 filler) (7 - length bytes)) ∙ ap (λ (k : ℕ). take k (bytes ++ replicate 7 filler)) n)

filled_by : (bytes : List ℕ) (b : Bool) → nat_le (length bytes) 7 ≡ b
    → take (min (length bytes) 7) bytes ++ drop (min (length bytes) 7) (replicate 7 filler) ≡ take 7 (bytes ++ replicate 7 filler)
filled_by bytes true e =
    let h : length bytes ≤ 7 = leb-true _ _ e in
    let n : min (length bytes) 7 ≡ length bytes = omega arith in
    let t : take (length bytes) bytes ≡ bytes = take_all (length bytes) bytes (omega arith) in
    ap (λ (k : ℕ). take k bytes ++ drop k (replicate 7 filler)) n ∙ (ap (λ (r : List ℕ). r ++ drop (length bytes) (replicate 7 filler)) t ∙ filled_short bytes h)
filled_by bytes false e =
    let h : 7 < length bytes = leb-false _ _ e in
    let n : min (length bytes) 7 ≡ 7 = omega arith in
    ap (λ (k : ℕ). take k bytes ++ drop k (replicate 7 filler)) n ∙ (append-nil (take 7 bytes) ∙ sym (take-append-le 7 bytes (replicate 7 filler) (omega arith)))

pub filled_up : (bytes front : List ℕ) (n : ℕ) → n ≡ min (length bytes) 7 → front ≡ take n bytes
    → front ++ drop n (replicate 7 filler) ≡ take 7 (bytes ++ replicate 7 filler)
filled_up bytes front n e f =
    ap (λ (r : List ℕ). r ++ drop n (replicate 7 filler)) f
    ∙ (ap (λ (k : ℕ). take k bytes ++ drop k (replicate 7 filler)) e ∙ filled_by bytes (nat_le (length bytes) 7) refl)

pub packet_length : (bytes : List ℕ) (k : ℕ) → length (packet_data bytes k) ≡ 7
unfolding packet_data
packet_length bytes k =
    length-take 7 (drop (7 * (k - 1)) bytes ++ replicate 7 filler)
    ∙ (let e : length (drop (7 * (k - 1)) bytes ++ replicate 7 filler) ≡ length (drop (7 * (k - 1)) bytes) + 7 = length-append (drop (7 * (k - 1)) bytes) (replicate 7 filler) in omega arith)

-- the first packets and one more
pub joined_more : (bytes : List ℕ) (n : ℕ) → 7 * n ≤ length bytes
    → take (7 * n) (bytes ++ replicate 7 filler) ++ packet_data bytes (n + 1) ≡ take (7 * (n + 1)) (bytes ++ replicate 7 filler)
unfolding packet_data
joined_more bytes n h =
    let a : n + 1 - 1 ≡ n = omega arith in
    let d : drop (7 * n) (bytes ++ replicate 7 filler) ≡ drop (7 * n) bytes ++ replicate 7 filler = drop-append-le (7 * n) bytes (replicate 7 filler) h in
    let e : 7 * n + 7 ≡ 7 * (n + 1) = omega arith in
    (λ i. take (7 * n) (bytes ++ replicate 7 filler) ++ take 7 (drop (7 * a i) bytes ++ replicate 7 filler))
    ∙ (ap (λ (r : List ℕ). take (7 * n) (bytes ++ replicate 7 filler) ++ take 7 r) (sym d)
    ∙ (sym (take-add (7 * n) 7 (bytes ++ replicate 7 filler)) ∙ ap (λ (k : ℕ). take k (bytes ++ replicate 7 filler)) e))
