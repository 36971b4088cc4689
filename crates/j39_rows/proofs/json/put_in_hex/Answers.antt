-- The key with a mark, the digits, and the mark behind them.
use Rattle.std.proofs.Common.{◌≡◌, ◌++◌, [], List, ℕ, codes, append_assoc, refl}
use Rattle.j39_io.proofs.PutsLemmas.{puts_as, puts_first, puts_then}
use Rattle.j39_rows.specs.Json.{hex_text, key_text}
use Rattle.j39_rows.proofs.json.put_in_hex.Goals as goal

regrouped : (name ending hex : List ℕ) → (codes ",\"" ++ (name ++ (ending ++ (codes "\":" ++ (codes "\"" ++ []))))) ++ (hex ++ codes "\"")
    ≡ key_text (name ++ ending) ++ (codes "\"" ++ (hex ++ codes "\""))
regrouped name ending hex = simp append_assoc refl

pub returns-in_err-put_parts : goal.returns-in_err-put_parts
returns-in_err-put_parts g c =
    puts_as _ _ _ _ (regrouped c.args.name.now c.args.ending.now (hex_text c.args.text.now)) (puts_first _ _ _ _ _ c.from_residual.ensures.0 c.in_err-put_parts.ensures)

pub returns-in_err-put_hex : goal.returns-in_err-put_hex
returns-in_err-put_hex g c =
    puts_as _ _ _ _ (regrouped c.args.name.now c.args.ending.now (hex_text c.args.text.now))
    (puts_then _ _ _ _ _ _ _ c.in_ok-put_parts.ensures (puts_first _ _ _ _ _ c.from_residual-in_err-put_hex.ensures.0 c.in_err-put_hex.ensures))

pub returns : goal.returns
returns g c =
    puts_as _ _ _ _ (regrouped c.args.name.now c.args.ending.now (hex_text c.args.text.now))
    (puts_then _ _ _ _ _ _ _ c.in_ok-put_parts.ensures (puts_then _ _ _ _ _ _ _ c.in_ok-put_hex.ensures c.put_all.ensures.puts))
