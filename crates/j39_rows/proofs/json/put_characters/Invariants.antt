use Rattle.std.proofs.Common.{◌≡◌, ◌++◌, List, ℕ, Ok}
use Rattle.std.specs.List.{flat_map}
use Rattle.std.specs.Str.Chunks.{utf8_chunks_rest}
use Rattle.std.specs.Str.Lossy.{utf8_lossy}
use Rattle.j39_io.specs.Puts.{Puts}
use Rattle.j39_io.specs.Turn.{turn}
use Rattle.j39_rows.specs.Json.{character_text}
use Rattle.j39_rows.proofs.json.put_characters.Given as goal

-- what was written, with the text of the bytes that are left, is the text of all
abbrev pub invariant-loop-chunk : goal.invariant-loop-chunk
invariant-loop-chunk g l =
    (done : List ℕ) × (done ++ utf8_lossy (utf8_chunks_rest l.chunk-iterator) ≡ utf8_lossy l.fn.text)
    × Puts {T = Unit} {E = Unit} (flat_map character_text done) (Ok tt) (turn g.W.Sink.written g.W.Sink.has_failed l.initial.sink l.sink)
