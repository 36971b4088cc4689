-- What stands by the codes of a payload, one code after the other.
use Rattle.j39_fault_reports.proofs.Common.{◌≡◌, ◌∙◌, ◌≤◌, ◌<◌, ◌+◌, ◌*◌, ℕ, List, [], ◌∷◌, ◌++◌, Option, Some, append_assoc, ap, arith, length, length-append, map, sym, length-map, map-append, length-range_with_len, map-map, range_with_len, code_at, places_of, code_by, codes_by, Code, Version}
use Rattle.j39_faults.specs.Codes.{codes_of}
use Rattle.j39_fault_reports.specs.CurrentPlaces.{StandingRecord, continued, next_standings, standing_record}
use Rattle.j39_fault_reports.specs.declared.current_faults.standing.Standing.{Standing}
use Rattle.j39_fault_reports.proofs.FaultLineLemmas.{few_found}

abbrev pub by_codes : List StandingRecord → ℕ → List Code → List StandingRecord
by_codes before stamp cs = map (λ code. continued before stamp (Some code)) cs

-- what stands by the codes before these, the last of a payload
pub record HaveStood (before : List StandingRecord) (stamp : ℕ) (version : Option Version) (payload : List ℕ) (left : List Code) (standings : List Standing) : Type 0 where
  pub first : List Code
  pub all_are : codes_by version payload ≡ first ++ map (code_by version) left
  pub stand : map standing_record standings ≡ by_codes before stamp first

-- how many codes so many bytes have at most
pub few_codes : (n : ℕ) (payload : List ℕ) (version : Option Version) → length payload < 4 * n + 6 → length (codes_by version payload) ≤ n
unfolding codes_of
few_codes n payload version short =
    let l = few_found (code_at payload) (range_with_len 0 (places_of payload)) in
    let r = length-range_with_len 0 (places_of payload) in
    let c = length-map (codes_of payload) (code_by version) in
    let p : places_of payload ≤ n = omega (arith, short) in
    omega (arith, l, r, c, p)

module _ (before : List StandingRecord) (stamp : ℕ) (version : Option Version) (payload : List ℕ) where
  pub stood_more : (code : Code) (left more : List Code) (standings new : List Standing) (s : Standing) → HaveStood before stamp version payload left standings → left ≡ code ∷ more
      → standing_record s ≡ continued before stamp (Some (code_by version code)) → new ≡ standings ++ s ∷ []
      → HaveStood before stamp version payload more new
  stood_more code left more standings new s h is here push = record {
    first = h.first ++ code_by version code ∷ [];
    all_are = h.all_are ∙ ap (λ x. h.first ++ map (code_by version) x) is ∙ sym (append_assoc h.first (code_by version code ∷ []) (map (code_by version) more));
    stand = ap (map standing_record) push ∙ map-append standing_record standings (s ∷ []) ∙ (λ i. h.stand i ++ here i ∷ [])
        ∙ sym (map-append (λ (c : Code). continued before stamp (Some c)) h.first (code_by version code ∷ []));
  }

  pub room_more : (n : ℕ) (code : Code) (left more : List Code) (standings : List Standing) → HaveStood before stamp version payload left standings → left ≡ code ∷ more
      → length payload < 4 * n + 6 → length standings < n
  room_more n code left more standings h is short =
      let few = few_codes n payload version short in
      let all : length (codes_by version payload) ≡ length h.first + length (map (code_by version) left) = ap length h.all_are ∙ length-append h.first (map (code_by version) left) in
      let some : length (map (code_by version) left) ≡ length more + 1 = length-map left (code_by version) ∙ ap length is ∙ omega arith in
      let stood : length standings ≡ length h.first = sym (length-map standings standing_record) ∙ ap length h.stand ∙ length-map h.first (λ (c : Code). continued before stamp (Some c)) in
      omega (arith, few, all, some, stood)

  pub by_some : (cs : List Code) (standings : List Standing) → (length standings ≡ 0 → ⊥) → map standing_record standings ≡ by_codes before stamp cs
      → map standing_record standings ≡ next_standings before stamp cs
  by_some [] standings some stand = absurd (some (sym (length-map standings standing_record) ∙ ap length stand))
  by_some (c ∷ cs) standings some stand = stand ∙ sym (map-map (continued before stamp) (λ (x : Code). Some x) (c ∷ cs))
