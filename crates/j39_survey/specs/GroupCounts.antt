-- What came of each group: its frames, its messages in packets that were announced and came whole, from how many addresses, and how
-- far apart (J1939-21, 5.2 and 5.10).
use Rattle.std.specs.Prelude.{◌==◌, ◌||◌, ◌-◌, ◌*◌, ◌/◌, ◌%◌, ◌++◌, ◌∷◌, [], ℕ, List, Bool, false, Option, Some, None, count_by, filter, fold, length, map, max, min, nat_eq, nat_lt, if◌then◌else◌}
use Rattle.std.specs.List.{flat_map, sum_by}
use Rattle.j39_frame.specs.Frame.{FrameRecord}
use Rattle.j39_frame.specs.Identifier.{pgn_of, source_of}
use Rattle.j39_groups.specs.Readings.{is_network_group}
use Rattle.j39_transport.specs.Announced.{announced_by}
use Rattle.j39_listen.specs.Counting.{capped}
use Rattle.j39_listen.specs.Heard.{AreHeardWith, Hearing}
use Rattle.j39_survey.specs.Firsts.{firsts}

-- ---- what came of a group

abbrev pub is_of : ℕ → FrameRecord → Bool
is_of pgn f = pgn_of f.id == pgn

-- the group that a number names: where PF is below 240, PS is a destination and no part of it (J1939-21, 5.2.4)
abbrev pub group_named : ℕ → ℕ
group_named n = if nat_lt (n / 256 % 256) 240 then n / 256 * 256 else n

abbrev pub is_named : ℕ → Option ℕ → Bool
is_named pgn None = false
is_named pgn (Some n) = group_named n == pgn

-- the frame announces a message of the group
abbrev pub announces : ℕ → FrameRecord → Bool
announces pgn f = is_named pgn (announced_by f)

abbrev pub one_where : Bool → FrameRecord → List FrameRecord
one_where b f = if b then f ∷ [] else []

-- the group comes with a frame of its own, and with one that announces a message of it
abbrev pub came_with : ℕ → FrameRecord → List FrameRecord
came_with pgn f = one_where (is_of pgn f) f ++ one_where (announces pgn f) f

-- ---- from how many addresses

-- those that a controller can hold: 254 and 255 are none's (J1939-81, 4.2.1)
abbrev pub controllers_in : List ℕ → List ℕ
controllers_in sources = filter (λ a. nat_lt a 254) sources

-- each counts once
abbrev pub senders_in : List ℕ → ℕ
senders_in sources = capped (length (firsts nat_eq (controllers_in sources)))

-- ---- how far apart

-- a moment, and how long after it the next came; where that goes back, not at all
pub record Silence : Type 0 where
  pub since : ℕ
  pub length : ℕ

abbrev pub silences_behind : ℕ → List ℕ → List Silence
silences_behind x [] = []
silences_behind x (y ∷ ys) = record { since = x; length = y - x } ∷ silences_behind y ys

abbrev pub silences_in : List ℕ → List Silence
silences_in [] = []
silences_in (x ∷ xs) = silences_behind x xs

-- the longer of two, or the first
abbrev pub longer : Silence → Silence → Silence
longer a b = if nat_lt a.length b.length then b else a

-- how many silences there are, their sum, the least, and the first of the longest; of none there is none
pub record Spread : Type 0 where
  pub count : ℕ
  pub sum : ℕ
  pub least : ℕ
  pub longest : Silence

abbrev pub spread_of : List Silence → Option Spread
spread_of [] = None
spread_of (s ∷ ss) = Some (record {
  count = capped (length (s ∷ ss));
  sum = capped (sum_by (λ x. x.length) (s ∷ ss));
  least = fold (λ n x. min n x.length) s.length ss;
  longest = fold longer s ss;
})

-- ---- all of it

-- these messages in packets are heard in these frames, in order: none is heard in one frame
abbrev pub ArePutTogether : List FrameRecord → List Hearing → Type 0
ArePutTogether F heard = AreHeardWith (λ _. false) F heard

-- what came of a group: with which frames, how many of these were its own and how many announced it, and how many messages
-- came whole
pub record Came : Type 0 where
  pub frames : List FrameRecord
  pub own : ℕ
  pub announced : ℕ
  pub whole : ℕ

abbrev pub nothing : Came
nothing = record { frames = []; own = 0; announced = 0; whole = 0 }

-- in these frames of an interface, in which these messages in packets were heard
abbrev pub came_in : List FrameRecord → List Hearing → ℕ → Came
came_in F heard pgn = record {
  frames = flat_map (came_with pgn) F;
  own = count_by (is_of pgn) F;
  announced = count_by (announces pgn) F;
  whole = count_by (λ h. group_named h.message.pgn == pgn) heard;
}

-- what is told of that
pub record GroupRecord : Type 0 where
  pub came : ℕ
  pub frames : ℕ
  pub addresses : ℕ
  pub announced : ℕ
  pub whole : ℕ
  pub spread : Option Spread

unfoldable pub group_of : Came → GroupRecord
group_of c = record {
  came = capped (length c.frames);
  frames = capped c.own;
  addresses = senders_in (map (λ f. source_of f.id) c.frames);
  announced = capped c.announced;
  whole = capped c.whole;
  spread = spread_of (silences_in (map (λ f. f.stamp) c.frames));
}

-- the groups that the network itself needs: packets, announcements, claims, and requests (59904)
abbrev pub is_of_network : ℕ → Bool
is_of_network pgn = is_network_group pgn || pgn == 59904
