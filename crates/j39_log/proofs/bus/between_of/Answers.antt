-- What was written last stands first.
use Rattle.std.proofs.Common.{◌≡◌, ◌≤◌, ◌∙◌, ◌+◌, ◌++◌, ◌∷◌, ap, arith, drop, length, replicate, take, List, ℕ}
use Rattle.std.proofs.lemmas.List.{take-replicate}
use Rattle.j39_log.proofs.ReaderLemmas.{take_min}
use Rattle.j39_log.proofs.bus.between_of.Goals as goal

pub returns : goal.returns
returns c =
    let name = c.args.name.now in
    let front = c.split_at.result.0.now in
    let fixed = c.split_at-2.result.0.now in
    let is : front ≡ take 11 name = c.split_at.ensures.front ∙ ap (λ n. take n name) c.min.ensures ∙ take_min name 11 in
    let few : length front ≤ 11 = omega (arith, c.split_at.ensures.front_len, c.min.ensures) in
    let zeros : fixed ≡ replicate (3 + length front) 0 = c.split_at-2.ensures.front ∙ take-replicate (3 + length front) 14 0 (omega (arith, few)) in
    let text : c.slice_before-text.result ≡ 4 = omega (arith, c.slice_before-text.ensures.starts) in
    let whole : c.bytes_before.result ≡ 0 = omega (arith, text, c.bytes_before.ensures.starts) in
    let text2 : c.slice_before-text-2.result ≡ 2 = omega (arith, c.slice_before-text-2.ensures.starts, c.split_at-2.ensures.front_len) in
    let whole2 : c.bytes_before-2.result ≡ 0 = omega (arith, text2, c.bytes_before-2.ensures.starts) in
    record {
      least_is = (rw whole at c.bytes_before.ensures.written.written) ∙ ap (λ (t : List ℕ). 48 ∷ 48 ∷ 41 ∷ 32 ∷ t) c.slice_before-text.ensures.written
          ∙ ap (λ (f : List ℕ). 48 ∷ 48 ∷ 41 ∷ 32 ∷ (f ++ drop (4 + length f) (replicate 16 32))) is;
      above_is = (rw whole2 at c.bytes_before-2.ensures.written.written) ∙ ap (λ (t : List ℕ). 9 ∷ 9 ∷ t) (c.slice_before-text-2.ensures.written ∙ ap (λ (f : List ℕ). f ++ drop (5 + length front) (replicate 16 255)) zeros)
          ∙ ap (λ (f : List ℕ). 9 ∷ 9 ∷ (replicate (3 + length f) 0 ++ drop (5 + length f) (replicate 16 255))) is;
    }
