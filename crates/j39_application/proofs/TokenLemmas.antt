-- Two tokens have one code only if they are one.
use Rattle.std.proofs.Common.{◌≡◌, ◌<◌, ◌^◌, ℕ, refl, arith}
use Rattle.j39_application.specs.Sending.{coded}
use Rattle.j39_application.specs.declared.sending.Way.{Way}
use Rattle.j39_application.specs.declared.sending.Way.TheVariants as way

pub apart : (v w : Way) (m n : ℕ) → m < 2 ^ 62 → n < 2 ^ 62 → coded v m ≡ coded w n → (v ≡ w) × (m ≡ n)
apart way.Frame way.Frame m n l h e = (refl, omega arith)
apart way.Broadcast way.Broadcast m n l h e = (refl, omega arith)
apart way.Transfer way.Transfer m n l h e = (refl, omega arith)
apart way.Frame way.Broadcast m n l h e = absurd (omega arith)
apart way.Frame way.Transfer m n l h e = absurd (omega arith)
apart way.Broadcast way.Frame m n l h e = absurd (omega arith)
apart way.Broadcast way.Transfer m n l h e = absurd (omega arith)
apart way.Transfer way.Frame m n l h e = absurd (omega arith)
apart way.Transfer way.Broadcast m n l h e = absurd (omega arith)
