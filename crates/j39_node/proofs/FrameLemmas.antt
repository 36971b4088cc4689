-- Frames that are made, and the lane of broadcasts.
use Rattle.j39_node.proofs.Common.{if◌then◌else◌, ◌<◌, ◌==◌, ◌↔◌, ◌∙◌, ◌≡◌, ◌≤◌, ap, arith, as_broadcast, Bool, broadcast_end, carried, cut_frame, false, FrameRecord, IfSome, is_left, IsSome, length, List, Message, MessageRecord, nat_le, nat_lt, None, Option, option_map, packet_by, packets_of, Some, stamped, sym, ToSend, transport_control_group, transport_data_group, ℕ, ending_of}

-- the frame that is made is one of this message
pub made : (r : Option FrameRecord) (now id : ℕ) (bytes : List ℕ) (m : Message) → (IsSome r ↔ (length bytes ≤ 8))
    → IfSome r (λ f. f ≡ record { stamp = now; id = id; bytes = bytes }) → length bytes ≤ 8 → carried id bytes ≡ m
    → option_map stamped r ≡ Some (now, m)
made r now id bytes m e g i j = grind (arith, e, g, i, j)

pub lt_false : (i n : ℕ) → i ≤ n → nat_lt n i ≡ false
lt_false i n l = grind arith

pub left_is : (o : Option (ℕ × MessageRecord)) (x : ℕ × MessageRecord) (i n : ℕ) → o ≡ Some x → n ≡ packets_of x.1 → nat_le i n ≡ is_left o i
left_is o x i n e f = ap (nat_le i) f ∙ sym (ap (λ y. is_left y i) e)

pub ended_is : (o : Option (ℕ × MessageRecord)) (x : ℕ × MessageRecord) (i n : ℕ) (lost b l : Bool) → o ≡ Some x → n ≡ packets_of x.1 → nat_lt n i ≡ b → lost ≡ l
    → ending_of b l x.0 ≡ broadcast_end o i lost
ended_is o x i n lost b l e f g h = sym (ap (λ y. broadcast_end y i lost) e ∙ λ t. ending_of ((ap (λ (k : ℕ). nat_lt k i) (sym f) ∙ g) t) (h t) x.0)

abbrev pub at_now : ℕ → Message → ℕ × Message
at_now now m = (now, m)

pub packet_past : (o : Option (ℕ × MessageRecord)) (x : ℕ × MessageRecord) (i n left now : ℕ) → o ≡ Some x → n ≡ packets_of x.1 → n < i → left ≤ 100000
    → (let none : Option (ℕ × Message) = None in none) ≡ option_map (at_now now) (packet_by o i left)
packet_past o x i n left now e f g j = grind (arith, e, f, g, j)

abbrev pub framed : ℕ → ℕ → List ℕ → Message
framed source i bytes = record {
  source = source;
  destination = Some 255;
  priority = 7;
  group = if i == 0 then transport_control_group else transport_data_group;
  bytes = bytes;
}

pub packet_made : (r : Option FrameRecord) (now id i : ℕ) (bytes : List ℕ) (s : ToSend) (x : ℕ × MessageRecord) (m : MessageRecord) → (IsSome r ↔ (length bytes ≤ 8))
    → IfSome r (λ f. f ≡ record { stamp = now; id = id; bytes = bytes }) → length bytes ≤ 8 → carried id bytes ≡ framed x.1.source i bytes
    → s ≡ cut_frame (as_broadcast m) m i → s.bytes ≡ bytes → m ≡ x.1 → i ≤ packets_of m
    → option_map stamped r ≡ option_map (at_now now) (packet_by (Some x) i 0)
packet_made r now id i bytes s x m e g j k l n p q = grind (arith, e, g, j, k, l, n, p, q)
