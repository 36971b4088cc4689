-- One behind the other.
use Rattle.j39_cli.proofs.Common.{◌≡◌, flat_map, map, sym, None, List, puts_as, puts_first, puts_then}
use Rattle.std.proofs.lemmas.List.Folds.{flat_map-map}
use Rattle.j39_cli.specs.FileEnds.{Ends, ends_record}
use Rattle.j39_cli.specs.OtherLog.{other_line}
use Rattle.j39_cli.specs.declared.file_ends.FileEnds.{FileEnds}
use Rattle.j39_cli.proofs.OrderLemmas.{told_after}
use Rattle.j39_cli.proofs.order.put_files.Goals as goal

others : (files : List FileEnds) → flat_map (λ ends. other_line ends.file.now ends.other) files
    ≡ flat_map (λ ends. other_line ends.file ends.other) (map ends_record files)
others files = sym (flat_map-map (λ (ends : Ends). other_line ends.file ends.other) ends_record files)

pub returns-in_err-put_others : goal.returns-in_err-put_others
returns-in_err-put_others g c =
    puts_first _ (told_after None c.args.files.now) _ _ _ c.from_residual.ensures.0 (puts_as _ _ _ _ (others c.args.files.now) c.in_err-put_others.ensures)

pub returns : goal.returns
returns g c =
    puts_then _ (told_after None c.args.files.now) _ _ _ _ _ (puts_as _ _ _ _ (others c.args.files.now) c.in_ok-put_others.ensures) c.put_order.ensures
