-- What a node sends with more frames, and its text.
use Rattle.std.proofs.Common.{◌≡◌, ◌≢◌, ◌+◌, ℕ, zero, suc, List, [], ◌∷◌, ◌++◌, Option, Some, None, length, refl, sym, ap, ◌∙◌, subst, arith, append-nil, append_assoc, length-append}
use Rattle.std.specs.Option.{option_map}
use Rattle.std.proofs.lemmas.Grind.{flat_map-append}
use Rattle.std.proofs.lemmas.List.{length_push}
use Rattle.j39_frame.specs.Address.{global_address}
use Rattle.j39_frame.specs.Frame.{FrameRecord}
use Rattle.j39_frame.specs.Identifier.{destination_of}
use Rattle.j39_groups.specs.Table.{the_table}
use Rattle.j39_address.proofs.OneStepLemmas.{same_step}
use Rattle.j39_address.specs.Call.{Call}
use Rattle.j39_address.specs.Command.{Command, commanded_of}
use Rattle.j39_address.specs.Node.{Node}
use Rattle.j39_listen.proofs.Causal.{SameBelow, frame_new, heard_same, same_below_append, same_below_less, same_below_sym}
use Rattle.j39_groups.specs.Readings.{is_reported_in}
use Rattle.j39_listen.proofs.Reported.{reported_leaves}
use Rattle.j39_listen.proofs.Unique.{heard_unique}
use Rattle.j39_listen.specs.Answers.{AnsweredBelow, Called, CommandedAt, IsCommanded, calls_at, sent_by, sent_line, sent_text}
use Rattle.j39_listen.specs.Heard.{Hearing, HeardAt, IsHeard, frame_at}

-- ---- the text

pub sent_text-append : (bus : List ℕ) (xs ys : List FrameRecord) → sent_text bus (xs ++ ys) ≡ sent_text bus xs ++ sent_text bus ys
unfolding sent_text
sent_text-append bus xs ys = flat_map-append (sent_line bus) xs ys

pub sent_text-none : (bus : List ℕ) → sent_text bus [] ≡ []
unfolding sent_text
sent_text-none bus = refl

pub sent_text-one : (bus : List ℕ) (f : FrameRecord) → sent_text bus (f ∷ []) ≡ sent_line bus f
unfolding sent_text
sent_text-one bus f = append-nil (sent_line bus f)

-- ---- what a node is commanded

pub same_command : (x y : Option Command) (c d : Command) → x ≡ Some c → y ≡ Some d → x ≡ y → c ≡ d
same_command x y c d is_x is_y same = by_some c d (sym is_x ∙ same ∙ is_y)
  where
    or_this : Command → Option Command → Command
    or_this d None = d
    or_this d (Some c) = c

    by_some : (c d : Command) → Some c ≡ Some d → c ≡ d
    by_some c d e = ap (or_this d) e

pub one_command : (F : List FrameRecord) (i : ℕ) (x y : Option Command) → CommandedAt F i x → CommandedAt F i y → x ≡ y
one_command F i None None h k = refl
one_command F i None (Some d) h k = absurd (h d k)
one_command F i (Some c) None h k = absurd (k c h)
one_command F i (Some c) (Some d) h k =
    let heard = heard_unique (is_reported_in the_table) (reported_leaves the_table) F i h.heard k.heard h.is_heard k.is_heard in
    ap (λ (z : Command). Some z) (same_command _ _ c d h.command_is k.command_is (ap (λ (x : Hearing). commanded_of x.message.pgn x.message.bytes) heard))

command_same : (F G : List FrameRecord) (i : ℕ) (c : Command) → SameBelow F G (suc i) → IsCommanded F i c → IsCommanded G i c
command_same F G i c h k = record {
  heard = k.heard;
  is_heard = heard_same (is_reported_in the_table) F G i k.heard h k.is_heard;
  command_is = k.command_is;
  to_all = ap (λ (f : FrameRecord). destination_of f.id) (h.same i (omega arith)) ∙ k.to_all;
}

pub commanded_same : (F G : List FrameRecord) (i : ℕ) (x : Option Command) → SameBelow F G (suc i) → CommandedAt F i x → CommandedAt G i x
commanded_same F G i None h k = λ c d. k c (command_same G F i c (same_below_sym h) d)
commanded_same F G i (Some c) h k = command_same F G i c h k

-- nothing is heard, so nothing is commanded
pub silent_command : (F : List FrameRecord) (i : ℕ) → HeardAt the_table F i None → CommandedAt F i None
silent_command F i silent = λ c h. silent h.heard h.is_heard

-- the message that is heard commands, if it was broadcast
pub heard_command : (F : List FrameRecord) (i : ℕ) (h : Hearing) (f : FrameRecord) (x : Option Command) → IsHeard the_table F i h → frame_at F i ≡ f
    → ((c : Command) → x ≡ Some c → destination_of f.id ≡ Some global_address)
    → (destination_of f.id ≡ Some global_address → x ≡ commanded_of h.message.pgn h.message.bytes) → CommandedAt F i x
heard_command F i h f None heard at to_all command = λ c k.
    let same = heard_unique (is_reported_in the_table) (reported_leaves the_table) F i k.heard h k.is_heard heard in
    let all = sym (ap (λ (g : FrameRecord). destination_of g.id) at) ∙ k.to_all in
    let none : None ≡ Some c = command all ∙ sym (ap (λ (z : Hearing). commanded_of z.message.pgn z.message.bytes) same) ∙ k.command_is in
    cc
heard_command F i h f (Some c) heard at to_all command =
    let all = to_all c refl in
    record {
      heard = h;
      is_heard = heard;
      command_is = sym (command all);
      to_all = ap (λ (g : FrameRecord). destination_of g.id) at ∙ all;
    }

pub not_none : {A B : Type 0} (f : A → B) (r : Option A) (y : B) → option_map f r ≡ Some y → r ≢ None
not_none f None y e = λ n. cc
not_none f (Some x) y e = λ n. cc

-- ---- the calls of a node

pub called_unique : (node m n : Node) (calls : List Call) (now : ℕ) (xs ys : List FrameRecord) → Called node calls now xs m → Called node calls now ys n → (xs ≡ ys) × (m ≡ n)
called_unique node m n [] now xs ys (x, at_x) (y, at_y) = (x ∙ sym y, at_x ∙ sym at_y)
called_unique node m n (call ∷ calls) now xs ys (a, mid_x, rest_x, step_x, later_x, is_x) (b, mid_y, rest_y, step_y, later_y, is_y) =
    let step = same_step node call now a b mid_x mid_y step_x step_y in
    let later = called_unique mid_x m n calls now rest_x rest_y later_x (subst (λ (z : Node). Called z calls now rest_y n) (sym step.1) later_y) in (
      is_x ∙ ap (λ (o : Option ℕ). sent_by now node.name o ++ rest_x) step.0 ∙ ap (λ (zs : List FrameRecord). sent_by now node.name b ++ zs) later.0 ∙ sym is_y,
      later.1,
    )

pub called-append : (node mid new : Node) (first later : List Call) (now : ℕ) (xs ys : List FrameRecord) → Called node first now xs mid → Called mid later now ys new
    → Called node (first ++ later) now (xs ++ ys) new
called-append node mid new [] later now xs ys (none, same) h =
    subst (λ (zs : List FrameRecord). Called node later now (zs ++ ys) new) (sym none) (subst (λ (z : Node). Called z later now ys new) same h)
called-append node mid new (call ∷ first) later now xs ys (a, after, rest, step, goes, is) h = (
  a,
  after,
  rest ++ ys,
  step,
  called-append after mid new first later now rest ys goes h,
  ap (λ (zs : List FrameRecord). zs ++ ys) is ∙ append_assoc (sent_by now node.name a) rest ys,
)

-- ---- what it sends

pub answered_same : (node : Node) (F G : List FrameRecord) (n : ℕ) (sent : List FrameRecord) (after : Node) → SameBelow F G n
    → AnsweredBelow node F n sent after → AnsweredBelow node G n sent after
answered_same node F G zero sent after h k = k
answered_same node F G (suc n) sent after h (before, mid, command, here, below, commanded, called, is) = (
  before,
  mid,
  command,
  here,
  answered_same node F G n before mid (same_below_less n (omega arith) h) below,
  commanded_same F G n command h commanded,
  subst (λ (f : FrameRecord). Called mid (calls_at n f command) f.stamp here after) (sym (h.same n (omega arith))) called,
  is,
)

pub answered_unique : (node : Node) (F : List FrameRecord) (n : ℕ) (xs ys : List FrameRecord) (a b : Node) → AnsweredBelow node F n xs a → AnsweredBelow node F n ys b
    → (xs ≡ ys) × (a ≡ b)
answered_unique node F zero xs ys a b (x, at_x) (y, at_y) = (x ∙ sym y, at_x ∙ sym at_y)
answered_unique node F (suc n) xs ys a b (before_x, mid_x, command_x, here_x, below_x, commanded_x, called_x, is_x) (before_y, mid_y, command_y, here_y, below_y, commanded_y, called_y, is_y) =
    let f = frame_at F n in
    let below = answered_unique node F n before_x before_y mid_x mid_y below_x below_y in
    let command = one_command F n command_x command_y commanded_x commanded_y in
    let again = subst (λ (z : Node). Called z (calls_at n f command_x) f.stamp here_y b) (sym below.1)
    (subst (λ (c : Option Command). Called mid_y (calls_at n f c) f.stamp here_y b) (sym command) called_y) in
    let here = called_unique mid_x a b (calls_at n f command_x) f.stamp here_x here_y called_x again in (
      is_x ∙ ap (λ (zs : List FrameRecord). zs ++ here_x) below.0 ∙ ap (λ (zs : List FrameRecord). before_y ++ zs) here.0 ∙ sym is_y,
      here.1,
    )

-- with one frame more
pub answered_more : (node mid after : Node) (F : List FrameRecord) (f : FrameRecord) (sent here : List FrameRecord) (command : Option Command)
    → AnsweredBelow node F (length F) sent mid → CommandedAt (F ++ f ∷ []) (length F) command → Called mid (calls_at (length F) f command) f.stamp here after
    → AnsweredBelow node (F ++ f ∷ []) (length (F ++ f ∷ [])) (sent ++ here) after
answered_more node mid after F f sent here command below commanded called =
    let n : suc (length F) ≡ length (F ++ f ∷ []) = omega (arith, length_push F f) in
    subst (λ (k : ℕ). AnsweredBelow node (F ++ f ∷ []) k (sent ++ here) after) n (
      sent,
      mid,
      command,
      here,
      answered_same node F (F ++ f ∷ []) (length F) sent mid (same_below_append F (f ∷ []) (length F) (omega arith)) below,
      commanded,
      subst (λ (g : FrameRecord). Called mid (calls_at (length F) g command) g.stamp here after) (sym (frame_new F f)) called,
      refl,
    )

-- what is sent with the first frames comes first
below : (node : Node) (F : List FrameRecord) (k m : ℕ) (sent : List FrameRecord) (after : Node) → AnsweredBelow node F (k + m) sent after
    → (first : List FrameRecord) × (mid : Node) × (rest : List FrameRecord) × AnsweredBelow node F m first mid × (sent ≡ first ++ rest)
below node F zero m sent after h = (sent, after, [], subst (λ (n : ℕ). AnsweredBelow node F n sent after) (omega arith) h, sym (append-nil sent))
below node F (suc k) m sent after h =
    let next : suc k + m ≡ suc (k + m) = omega arith in
    let g = subst (λ (n : ℕ). AnsweredBelow node F n sent after) next h in
    let b = below node F k m g.0 g.1 g.4 in
    (b.0, b.1, b.2 ++ g.3, b.3, g.7 ∙ ap (λ (xs : List FrameRecord). xs ++ g.3) b.4 ∙ append_assoc b.0 b.2 g.3)

pub answered_first : (node : Node) (F G : List FrameRecord) (all first : List FrameRecord) (after mid : Node) → AnsweredBelow node (F ++ G) (length (F ++ G)) all after
    → AnsweredBelow node F (length F) first mid → (rest : List FrameRecord) × (all ≡ first ++ rest)
answered_first node F G all first after mid whole part =
    let len : length (F ++ G) ≡ length G + length F = length-append F G ∙ omega arith in
    let b = below node (F ++ G) (length G) (length F) all after (subst (λ (n : ℕ). AnsweredBelow node (F ++ G) n all after) len whole) in
    let same = answered_unique node (F ++ G) (length F) b.0 first b.1 mid b.3
    (answered_same node F (F ++ G) (length F) first mid (same_below_append F G (length F) (omega arith)) part) in
    (b.2, b.4 ∙ ap (λ (x : List FrameRecord). x ++ b.2) same.0)
