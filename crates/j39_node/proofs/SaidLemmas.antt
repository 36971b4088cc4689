-- The frames of transfers that are made.
use Rattle.j39_node.proofs.Common.{◌↔◌, ◌≡◌, ◌≤◌, arith, carried, FrameRecord, IfSome, IsSome, length, List, Message, Option, option_map, Some, stamped, ℕ}

pub frame_made : (r : Option FrameRecord) (now id : ℕ) (bytes : List ℕ) → (IsSome r ↔ (length bytes ≤ 8)) → IfSome r (λ f. f ≡ record { stamp = now; id = id; bytes = bytes })
    → length bytes ≤ 8 → option_map stamped r ≡ (let o : Option (ℕ × Message) = Some (now, carried id bytes) in o)
frame_made r now id bytes e g l = grind (arith, e, g, l)
