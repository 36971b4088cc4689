-- Other lines of a survey, one more.
use Rattle.j39_survey.proofs.Common.{◌≡◌, ◌+◌, ◌++◌, ℕ, List, [], ◌∷◌, Bool, true, false, length, refl, sym, ap, ◌∙◌, arith, length-append, subst, count_by, common_steps, capped}
use Rattle.j39_log.specs.Kind.{kind_of}
use Rattle.j39_log.specs.declared.kind.OtherKind.{OtherKind}
use Rattle.j39_listen.specs.Counting.{one_if}
use Rattle.j39_survey.specs.OtherLines.{OthersRecord, is_kind, kinds_in, others_of}
use Rattle.j39_log.specs.declared.kind.OtherKind.TheVariants.{Standard, Remote, Flexible, Error, Odd}
use Rattle.j39_listen.proofs.CountLemmas.{capped_more, count_by-append}

-- one more where it counts
abbrev pub count_one : Bool → ℕ → ℕ
count_one true n = capped (n + 1)
count_one false n = n

pub kinds_more : (kind : OtherKind) (texts : List (List ℕ)) (text : List ℕ) → kinds_in kind (texts ++ text ∷ []) ≡ count_one (is_kind kind (kind_of text)) (kinds_in kind texts)
kinds_more kind texts text =
    elim (is_kind kind (kind_of text)) as (λ b. is_kind kind (kind_of text) ≡ b → kinds_in kind (texts ++ text ∷ []) ≡ count_one b (kinds_in kind texts)) [
      | true ↦ λ e. ap capped (count_by-append (λ (t : List ℕ). is_kind kind (kind_of t)) texts (text ∷ [])) ∙ rw e (sym (capped_more (kinds_in kind texts) (count_by (λ (t : List ℕ). is_kind kind (kind_of t)) texts) refl))
      | false ↦ λ e. ap capped (count_by-append (λ (t : List ℕ). is_kind kind (kind_of t)) texts (text ∷ [])) ∙ rw e (omega arith)
    ] refl

abbrev pub with_kind : OtherKind → OthersRecord → OthersRecord
with_kind kind o = record {
  standard = count_one (is_kind Standard kind) o.standard;
  remote = count_one (is_kind Remote kind) o.remote;
  flexible = count_one (is_kind Flexible kind) o.flexible;
  error = count_one (is_kind Error kind) o.error;
  odd = count_one (is_kind Odd kind) o.odd;
}

pub others_more : (texts : List (List ℕ)) (text : List ℕ) (kind : OtherKind) (o o' : OthersRecord) → o ≡ others_of texts → kind_of text ≡ kind → o' ≡ with_kind kind o → o' ≡ others_of (texts ++ text ∷ [])
unfolding others_of
others_more texts text kind o o' h is more =
    let all : with_kind kind (others_of texts) ≡ others_of (texts ++ text ∷ []) =
    subst (λ (k : OtherKind). with_kind k (others_of texts) ≡ others_of (texts ++ text ∷ [])) is (λ i. record {
      standard = sym (kinds_more Standard texts text) i;
      remote = sym (kinds_more Remote texts text) i;
      flexible = sym (kinds_more Flexible texts text) i;
      error = sym (kinds_more Error texts text) i;
      odd = sym (kinds_more Odd texts text) i;
    }) in
    more ∙ ap (with_kind kind) h ∙ all
