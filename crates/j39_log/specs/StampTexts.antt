-- Stamps that are kept with their texts.
use Rattle.std.specs.Prelude.{ℕ}
use Rattle.j39_log.specs.declared.stamp_text.StampText.{StampText}

abbrev pub text_micros : StampText → ℕ
text_micros text = text.micros
