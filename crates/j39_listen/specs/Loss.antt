-- A log with packets lost on the way, and others heard more than once.
use Rattle.std.specs.Prelude.{◌≡◌, ℕ, suc, ◌<◌, Bool, true, false, List, [], ◌∷◌, length, if◌then◌else◌}
use Rattle.j39_frame.specs.Frame.{FrameRecord}
use Rattle.j39_transport.specs.Frames.{is_announcement, is_packet}
use Rattle.j39_transport.specs.Key.{Key}
use Rattle.j39_transport.specs.Key.Key.{Broadcast, Directed}
use Rattle.j39_listen.specs.Heard.{frame_at}
use Rattle.j39_listen.specs.Published.{NeverBack, Publishing, is_publisher, number_at}

-- the places from the second on, counted anew
abbrev pub later : (ℕ → Bool) → ℕ → Bool
later X i = X (suc i)

-- the list without the elements at the places that X names
abbrev pub without : {A : Type 0} → (ℕ → Bool) → List A → List A
without X [] = []
without X (x ∷ xs) = if X 0 then without (later X) xs else x ∷ without (later X) xs

-- G is F without the places that X names, at which packets stand, whoever sent them
pub record Thinned (F G : List FrameRecord) (X : ℕ → Bool) : Type 0 where
  pub inside : (i : ℕ) → X i ≡ true → i < length F
  pub packets_only : (i : ℕ) → X i ≡ true → (k : Key) × (is_packet k (frame_at F i) ≡ true)
  pub rest_is : G ≡ without X F

-- a directed packet of a publisher's address is lost with each later packet of its pair and number before the next
-- announcement of the pair: with all that repeat it
abbrev pub LostTogether : List FrameRecord → Publishing → (ℕ → Bool) → Type 0
LostTogether F P X = (i j s d : ℕ) → is_publisher P s ≡ true → X i ≡ true → i < j
    → is_packet (Directed s d) (frame_at F i) ≡ true → is_packet (Directed s d) (frame_at F j) ≡ true
    → number_at F j ≡ number_at F i
    → ((q : ℕ) → i < q → q < j → is_announcement (Directed s d) (frame_at F q) ≡ false) → X j ≡ true

-- the frame at place c of H is a copy of the broadcast packet at q: it has its identifier and data, and stands behind it
-- and before the next announcement of its source
pub record IsCopy (H : List FrameRecord) (s q c : ℕ) : Type 0 where
  pub behind : q < c
  pub packet : is_packet (Broadcast s) (frame_at H q) ≡ true
  pub same_id : (frame_at H c).id ≡ (frame_at H q).id
  pub same_bytes : (frame_at H c).bytes ≡ (frame_at H q).bytes
  pub no_announcement : (r : ℕ) → q < r → r < c → is_announcement (Broadcast s) (frame_at H r) ≡ false

-- H is G with copies added, each of a packet of G, whatever their stamps, and H's stamps never go back
pub record Repeated (G H : List FrameRecord) : Type 0 where
  pub copies : ℕ → Bool
  pub inside : (c : ℕ) → copies c ≡ true → c < length H
  pub rest_is : G ≡ without copies H
  pub each : (c : ℕ) → copies c ≡ true → (s : ℕ) × (q : ℕ) × (copies q ≡ false) × IsCopy H s q c
  pub never_back : NeverBack H
