-- The open request, a call more.
use Rattle.j39_node.proofs.Common.{◌||◌, ◌∙◌, ◌∷◌, ◌≡◌, ap, AreAnswered, arith, asked_by, AskEnding, asking_after, AskRecord, Bool, Call, end_at, ended, first, FrameRecord, hears_with, is_asking, List, marks, nat_eq, nat_lt, None, open_ask, Option, option_map, past, Question, reached, refl, silence, slice_set, Some, suc, sym, true, Who, Withdraw, ℕ}
use Rattle.j39_node.proofs.WithdrawLemmas.{unpassed}
use Rattle.j39_node.proofs.SoundLemmas.{passes_request, request_stays}

-- a message is taken
pub token_of : (o : Option Question) (n : ℕ) (e : Option AskEnding) → option_map (λ (x : AskRecord). x.question) (asked_by o n e) ≡ o
token_of o n e = grind arith

lt_more : (t n : ℕ) → (nat_lt t n || nat_eq t n) ≡ nat_lt t (suc n)
lt_more t n = grind arith

abbrev pub takes : ℕ → AskRecord → AskRecord
takes k x = record { question = x.question; taken = x.taken || nat_eq x.question.token k; ending = x.ending }

pub ask_more : (w : Who) (H : List Call) (k : ℕ) → AreAnswered w H → k ≡ reached H
    → option_map (takes k) (asking_after w H) ≡ asked_by (open_ask H) (past (marks H) (suc (reached H))) (ended w H)
ask_more w H k right t = go (open_ask H) refl
  where
    go : (o : Option Question) → open_ask H ≡ o → option_map (takes k) (asked_by o (reached H) (ended w H)) ≡ asked_by o (past (marks H) (suc (reached H))) (ended w H)
    go None i = refl
    go (Some q) i =
        ap (λ (b : Bool). (let r : Option AskRecord = Some (record { question = q; taken = b; ending = ended w H }) in r))
        (ap (λ (n : ℕ). nat_lt q.token (reached H) || nat_eq q.token n) t ∙ (lt_more q.token (reached H) ∙ sym (passes_request w H right q i)))

-- one is withdrawn
pub ask_withdrawn : (w : Who) (H : List Call) (k : ℕ) → AreAnswered w (Withdraw k true ∷ H) → asking_after w H ≡ asking_after w (Withdraw k true ∷ H)
ask_withdrawn w H k right = go (open_ask H) refl
  where
    go : (o : Option Question) → open_ask H ≡ o → asked_by o (reached H) (ended w H) ≡ asked_by o (reached (Withdraw k true ∷ H)) (ended w H)
    go None i = refl
    go (Some q) i =
        ap (λ (b : Bool). (let r : Option AskRecord = Some (record { question = q; taken = b; ending = ended w H }) in r))
        (sym (unpassed (slice_set (marks H) k true) (reached H) q.token (request_stays w (Withdraw k true ∷ H) right q i)))

-- a frame is heard
pub ask_heard : (w : Who) (o : Option Question) (n left : ℕ) (e : Option AskEnding) (coming lost : Bool) (f : FrameRecord) (m : Option (ℕ × ℕ))
    → option_map (hears_with w (silence left coming lost (asked_by o n e)) f m) (asked_by o n e) ≡ asked_by o n (first e (end_at w o n left coming lost f m))
ask_heard w o n left e coming lost f m = grind arith

-- none is open, or one
pub asking_is : (o : Option Question) (n : ℕ) (e : Option AskEnding) → is_asking (option_map (λ (x : AskRecord). x.question) (asked_by o n e)) ≡ is_asking o
asking_is o n e = ap is_asking (token_of o n e)
