-- That every message of one frame ends.
use Rattle.j39_node.proofs.Common.{AreAnswered, Ask, At, Bool, Call, Controller, Done, Draft, Ending, Is, IsAnswered, IsPrompt, List, Message, None, Ok, Option, Renew, Send, Some, TakeFrame, Who, Withdraw, Withdrawn, [], accepted, address_after, ap, arith, blank, claims_anew, end_of, ending_of, false, inl, inr, is_acknowledgment, is_blank, is_claim, is_held, is_lost, is_session, later, length, length-set, lost, lt-ltb, marks, message_from, moment, nat_lt, next_ended, not, passed_in, reached, refl, request_for, slice_get, slice_set, step, suc, told, true, waited_in, zero, ℕ, ◌++◌, ◌+◌, ◌<◌, ◌||◌, ◌∙◌, ◌∷◌, ◌≡◌, ◌≤◌, ◌⊎◌, cond_both, not_both}
use Rattle.j39_node.proofs.PromptLaws.{answered_from, ended_or_lost, Fate, later_on, waited_last}
use Rattle.j39_node.proofs.PromptLaws.Fate.{runs}
use Rattle.j39_node.proofs.QueueLemmas.{length_one_more}
use Rattle.j39_node.proofs.SoundLemmas.{held_older, none_next, sound, past_end}
use Rattle.j39_node.proofs.WithdrawLemmas.{past_more}
use Rattle.j39_node.proofs.AnswerCases.{send_accepts, ask_accepts}

pub more_sent : (H : List Call) (call : Call) → reached H ≤ reached (call ∷ H)
more_sent H (At now (TakeFrame (Some f))) =
    cond_both (is_claim f || (is_acknowledgment f || is_session f)) _ _ (λ n. reached H ≤ n) (λ z. omega arith) (λ z. let e = past_more (marks H) (suc (reached H)) in omega (arith, e))
more_sent H (Withdraw k true) = past_more (slice_set (marks H) k true) (reached H)
more_sent H call = omega arith

pub accepts_more : (w : Who) (H : List Call) (call : Call) → length (accepted w H) ≤ length (accepted w (call ∷ H))
accepts_more w H (At now (Send d (Ok k))) = let e = length_one_more (accepted w H) (k, message_from w d) in omega (arith, e)
accepts_more w H (At now (Ask group to (Ok k))) = let e = length_one_more (accepted w H) (k, message_from w (request_for group to)) in omega (arith, e)
accepts_more w H (Withdraw k true) = let e = length-set (accepted w H) k (k, blank) in omega (arith, e)
accepts_more w H (Renew d (Some k)) = let e = length-set (accepted w H) k (k, message_from w d) in omega (arith, e)
accepts_more w H call = omega arith

module _ (w : Who) (B : List Call) (g k : ℕ) where
  -- taken, or the address is lost; or it waits, and no take answered none since its acceptance
  record Stands (later : List Call) : Type 0 where
    pub among : k < length (accepted w (later ++ B))
    pub course : Fate (address_after w (later ++ B)) (k < reached (later ++ B)) (passed_in later B ≡ waited_in later B)

  one_more : (call : Call) (later : List Call) → IsAnswered w (later ++ B) call → claims_anew call ≡ false → Stands later → Stands (call ∷ later)
  one_more (At now (TakeFrame None)) later a n h = record {
    among = h.among;
    course = later_on w (later ++ B) (At now (TakeFrame None)) refl (λ l. l)
        (λ e z p. inl (let l = past_end (accepted w (later ++ B)) (reached (later ++ B))
        (none_next w (later ++ B) now (held_older (step (later ++ B) now) (address_after w (later ++ B)) e) a).rest.message in
        let b = h.among in omega (arith, l, b))) h.course;
  }
  one_more call later a n h = record {
    among = (let m = accepts_more w (later ++ B) call in let b = h.among in omega (arith, m, b));
    course = later_on w (later ++ B) call n (λ l. (let e = more_sent (later ++ B) call in omega (arith, e, l)))
        (λ e z p. inr (ap (λ (n : ℕ). n + step (later ++ B) (moment (call ∷ later ++ B))) p)) h.course;
  }

  stands : (later : List Call) → AreAnswered w (later ++ B) → IsPrompt g later B → Stands [] → Stands later
  stands [] a p h = h
  stands (call ∷ later) a p h = one_more call later a.1 p.1.1 (stands later a.0 p.0 h)

-- the oldest that isn't told would be told
some_at : {T : Type 0} (L : List T) (n : ℕ) → n < length L → (x : T) × (slice_get L n ≡ Some x)
some_at [] n l = absurd (omega (arith, l))
some_at (x ∷ L) zero l = (x, refl)
some_at (x ∷ L) (suc n) l = some_at L n (omega (arith, l))

tells : (b lost : Bool) (x : ℕ × Message) → (b ≡ true) ⊎ (lost ≡ true) → (e : Ending) × (end_of b lost (Some x) ≡ Some (x.0, e))
tells true lost x h = go (is_blank x)
  where
    go : (c : Bool) → (e : Ending) × (ending_of (not c) true x.0 ≡ Some (x.0, e))
    go true = (Withdrawn, refl)
    go false = (Done, refl)
tells false true x h = (Withdrawn, refl)
tells false false x h = absurd (elim h [ inl e ↦ not_both false refl e | inr e ↦ not_both false refl e ])

pub told_next : (w : Who) (H : List Call) (k : ℕ) → AreAnswered w H → k < length (accepted w H) → length (told H) ≤ k
    → (k < reached H) ⊎ (is_lost (address_after w H) ≡ true) → (e : Ending) × (next_ended w H ≡ Some (length (told H), e))
told_next w H k a l t h =
    let x = some_at (accepted w H) (length (told H)) (omega (arith, l, t)) in
    let y = tells (nat_lt (length (told H)) (reached H)) (is_lost (address_after w H)) x.0 (go h) in (
      y.0,
      ap (end_of (nat_lt (length (told H)) (reached H)) (is_lost (address_after w H))) x.1
          ∙ (y.1 ∙ ap (λ (n : ℕ). (let z : Option (ℕ × Ending) = Some (n, y.0) in z)) ((sound w H a).numbered (length (told H)) x.0 x.1)),
    )
  where
    go : (k < reached H) ⊎ (is_lost (address_after w H) ≡ true)
        → (nat_lt (length (told H)) (reached H) ≡ true) ⊎ (is_lost (address_after w H) ≡ true)
    go (inl z) = inl (lt-ltb _ _ (omega (arith, z, t)))
    go (inr z) = inr z

-- ---- what was accepted

module _ (w : Who) (later B : List Call) (c : Controller) (g k : ℕ) (is : Is w (later ++ B) c)
    (fits : (is_held (address_after w B) ≡ true) × (k < length (accepted w B))) (prompt : IsPrompt g later B) (l : g < passed_in later B) where
  here : Stands w B g k later
  here = stands w B g k later is.answered prompt (record { among = fits.1; course = runs fits.0 refl })

  pub ends_taken : (k < reached (later ++ B)) ⊎ (is_lost (address_after w (later ++ B)) ≡ true)
  ends_taken = let p = waited_last g later B prompt in ended_or_lost here.course (λ q. absurd (omega (arith, l, p, q)))

  pub ends_told : length (told (later ++ B)) ≤ k → (e : Ending) × (next_ended w (later ++ B) ≡ Some (length (told (later ++ B)), e))
  ends_told t = told_next w (later ++ B) k is.answered here.among t ends_taken

pub sent_fits : (w : Who) (later earlier : List Call) (c : Controller) (now k : ℕ) (d : Draft) → Is w (later ++ At now (Send d (Ok k)) ∷ earlier) c
    → (is_held (address_after w (At now (Send d (Ok k)) ∷ earlier)) ≡ true) × (k < length (accepted w (At now (Send d (Ok k)) ∷ earlier)))
sent_fits w later earlier c now k d is =
    let x = send_accepts w earlier now k d (answered_from w later (At now (Send d (Ok k)) ∷ earlier) is.answered).1 in
    let z = x.3 in let y = length_one_more (accepted w earlier) (k, message_from w d) in (x.0, omega (arith, z, y))

pub asked_fits : (w : Who) (later earlier : List Call) (c : Controller) (now group to k : ℕ) → Is w (later ++ At now (Ask group to (Ok k)) ∷ earlier) c
    → (is_held (address_after w (At now (Ask group to (Ok k)) ∷ earlier)) ≡ true) × (k < length (accepted w (At now (Ask group to (Ok k)) ∷ earlier)))
asked_fits w later earlier c now group to k is =
    let x = ask_accepts w earlier now group to k (answered_from w later (At now (Ask group to (Ok k)) ∷ earlier) is.answered).1 in
    let z = x.3 in let y = length_one_more (accepted w earlier) (k, message_from w (request_for group to)) in (x.0, omega (arith, z, y))
