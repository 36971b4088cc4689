-- A quote, the front, the bytes and a quote, one after another.
use Rattle.std.proofs.Common.{◌++◌, codes}
use Rattle.std.specs.List.{flat_map}
use Rattle.j39_io.proofs.PutsLemmas.{puts_first, puts_then}
use Rattle.j39_io.specs.Records.{quoted_byte}
use Rattle.j39_io.proofs.csv.put_quoted.Goals as goal

pub returns-in_err-put_all : goal.returns-in_err-put_all
returns-in_err-put_all g c =
    puts_first (codes "\"") (c.args.front.now ++ (flat_map quoted_byte c.args.rest.now ++ codes "\"")) _ _ _ c.from_residual.ensures.0 c.in_err-put_all.ensures.puts

pub returns-in_err-put_all-2 : goal.returns-in_err-put_all-2
returns-in_err-put_all-2 g c =
    puts_then (codes "\"") (c.args.front.now ++ (flat_map quoted_byte c.args.rest.now ++ codes "\"")) _ _ _ _ _ c.in_ok-put_all.ensures.puts
    (puts_first c.args.front.now (flat_map quoted_byte c.args.rest.now ++ codes "\"") _ _ _ c.from_residual-in_err-put_all-2.ensures.0 c.in_err-put_all-2.ensures.puts)

pub returns-in_err-put_doubled : goal.returns-in_err-put_doubled
returns-in_err-put_doubled g c =
    puts_then (codes "\"") (c.args.front.now ++ (flat_map quoted_byte c.args.rest.now ++ codes "\"")) _ _ _ _ _ c.in_ok-put_all.ensures.puts
    (puts_then c.args.front.now (flat_map quoted_byte c.args.rest.now ++ codes "\"") _ _ _ _ _ c.in_ok-put_all-2.ensures.puts
    (puts_first (flat_map quoted_byte c.args.rest.now) (codes "\"") _ _ _ c.from_residual-in_err-put_doubled.ensures.0 c.in_err-put_doubled.ensures))

pub returns : goal.returns
returns g c =
    puts_then (codes "\"") (c.args.front.now ++ (flat_map quoted_byte c.args.rest.now ++ codes "\"")) _ _ _ _ _ c.in_ok-put_all.ensures.puts
    (puts_then c.args.front.now (flat_map quoted_byte c.args.rest.now ++ codes "\"") _ _ _ _ _ c.in_ok-put_all-2.ensures.puts
    (puts_then (flat_map quoted_byte c.args.rest.now) (codes "\"") _ _ _ _ _ c.in_ok-put_doubled.ensures c.put_all-3.ensures.puts))
