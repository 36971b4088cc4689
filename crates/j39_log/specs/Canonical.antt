-- The canonical line of a frame.
use Rattle.std.specs.Prelude.{ℕ, List, ◌++◌, codes}
use Rattle.std.specs.Int.{to_be_bytes, w32}
use Rattle.hex.specs.Hex.{encode_upper}
use Rattle.j39_frame.specs.Frame.{FrameRecord}
use Rattle.j39_log.specs.StampText.{stamp_text}

-- the identifier, `#` and the data in upper-case hex
abbrev pub frame_text : ℕ → List ℕ → List ℕ
frame_text id bytes = encode_upper (to_be_bytes w32 id) ++ codes "#" ++ encode_upper bytes

-- stamp, bus and frame with one space between
abbrev pub line_text : FrameRecord → List ℕ → List ℕ
line_text frame bus = stamp_text frame.stamp ++ codes " " ++ bus ++ codes " " ++ frame_text frame.id frame.bytes
