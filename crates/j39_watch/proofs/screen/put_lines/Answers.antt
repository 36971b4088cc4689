-- The moment, the faults, the values.
use Rattle.j39_watch.proofs.Common.{◌∷◌, ◌++◌, [], flat_map, stamp_micros, holder_of, pairs_of, naming_of}
use Rattle.j39_watch.proofs.ScreenLemmas.{left_then, limited_first, limited_then}
use Rattle.std.proofs.lemmas.Result.{IfOk-weaker}
use Rattle.j39_watch.specs.Watch.{moment_text, plain}
use Rattle.j39_watch.specs.WatchSoFar.{faults_of_places, value_lines}
use Rattle.j39_watch.specs.NotesSoFar.{size_of}
use Rattle.j39_watch.proofs.screen.put_lines.Goals as goal

pub returns-in_err-left-clause-puts : goal.returns-in_err-left-clause-puts
returns-in_err-left-clause-puts g c =
    let view = c.args.view in
    let moment = plain (moment_text view.size.clock (stamp_micros view.now)) ∷ [] in
    let faults = faults_of_places (naming_of view.naming) (holder_of view.listener.now) (stamp_micros view.now) c.args.places.now 256 in
    let values = flat_map (value_lines (naming_of view.naming) (holder_of view.listener.now) (stamp_micros view.now)) (pairs_of c.args.values.now.rows) in
    limited_first (size_of view.size) c.args.rows moment (faults ++ values) _ _ _ _ c.from_residual.ensures.0 c.in_err-left.ensures.puts

pub returns-in_err-left-2-clause-puts : goal.returns-in_err-left-2-clause-puts
returns-in_err-left-2-clause-puts g c =
    let view = c.args.view in
    let moment = plain (moment_text view.size.clock (stamp_micros view.now)) ∷ [] in
    let faults = faults_of_places (naming_of view.naming) (holder_of view.listener.now) (stamp_micros view.now) c.args.places.now 256 in
    let values = flat_map (value_lines (naming_of view.naming) (holder_of view.listener.now) (stamp_micros view.now)) (pairs_of c.args.values.now.rows) in
    limited_first (size_of view.size) c.args.rows (moment ++ faults) values _ _ _ _ c.from_residual-in_err-left-2.ensures.0
    (limited_then (size_of view.size) c.args.rows _ moment faults _ _ _ _ _ c.in_ok-left.ensures.left c.in_ok-left.ensures.puts c.in_err-left-2.ensures.puts)

pub returns-clause-left : goal.returns-clause-left
returns-clause-left g c =
    let view = c.args.view in
    let moment = plain (moment_text view.size.clock (stamp_micros view.now)) ∷ [] in
    let faults = faults_of_places (naming_of view.naming) (holder_of view.listener.now) (stamp_micros view.now) c.args.places.now 256 in
    let values = flat_map (value_lines (naming_of view.naming) (holder_of view.listener.now) (stamp_micros view.now)) (pairs_of c.args.values.now.rows) in
    let left = left_then c.args.rows _ _ moment faults c.in_ok-left.ensures.left c.in_ok-left-2.ensures.left in
    IfOk-weaker c.put_values.result _ _ (λ n is. left_then c.args.rows _ n (moment ++ faults) values left is) c.put_values.ensures.left

pub returns-clause-puts : goal.returns-clause-puts
returns-clause-puts g c =
    let view = c.args.view in
    let moment = plain (moment_text view.size.clock (stamp_micros view.now)) ∷ [] in
    let faults = faults_of_places (naming_of view.naming) (holder_of view.listener.now) (stamp_micros view.now) c.args.places.now 256 in
    let values = flat_map (value_lines (naming_of view.naming) (holder_of view.listener.now) (stamp_micros view.now)) (pairs_of c.args.values.now.rows) in
    let left = left_then c.args.rows _ _ moment faults c.in_ok-left.ensures.left c.in_ok-left-2.ensures.left in
    limited_then (size_of view.size) c.args.rows _ (moment ++ faults) values _ _ _ _ _ left
    (limited_then (size_of view.size) c.args.rows _ moment faults _ _ _ _ _ c.in_ok-left.ensures.left c.in_ok-left.ensures.puts c.in_ok-left-2.ensures.puts) c.put_values.ensures.puts
