-- The marks and what stands between them.
use Rattle.std.proofs.Common.{codes}
use Rattle.std.specs.List.{flat_map}
use Rattle.std.specs.Str.Lossy.{utf8_lossy}
use Rattle.j39_rows.specs.Json.{character_text, string_text}
use Rattle.j39_rows.proofs.PartLemmas.{first_of_three, second_of_three, third_of_three}
use Rattle.j39_rows.proofs.json.put_string.Goals as goal

pub returns-in_err-put_all : goal.returns-in_err-put_all
unfolding string_text
returns-in_err-put_all g c =
    first_of_three (codes "\"") (flat_map character_text (utf8_lossy c.args.text.now)) (codes "\"") _ _ _ c.from_residual.ensures.0 c.in_err-put_all.ensures.puts

pub returns-in_err-put_characters : goal.returns-in_err-put_characters
unfolding string_text
returns-in_err-put_characters g c =
    second_of_three (codes "\"") (flat_map character_text (utf8_lossy c.args.text.now)) (codes "\"") _ _ _ _ _ _ c.from_residual-in_err-put_characters.ensures.0
    c.in_ok-put_all.ensures.puts c.in_err-put_characters.ensures

pub returns : goal.returns
unfolding string_text
returns g c =
    third_of_three (codes "\"") (flat_map character_text (utf8_lossy c.args.text.now)) (codes "\"") _ _ _ _ _ _ _ c.in_ok-put_all.ensures.puts c.in_ok-put_characters.ensures c.put_all-2.ensures.puts
