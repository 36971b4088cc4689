-- An address more.
use Rattle.j39_watch.proofs.Common.{◌∙◌, List, ℕ, ap, length, sym, stamp_micros, capped, holder_of, naming_of}
use Rattle.j39_watch.proofs.ScreenLemmas.{at_place, below_place, counted_then, next_place, none_below}
use Rattle.j39_watch.specs.Watch.{Line}
use Rattle.j39_watch.proofs.screen.count_faults.Goals as goal

pub loop-address-init : goal.loop-address-init
loop-address-init c =
    let view = c.args.view in
    ap (λ (ls : List Line). capped (length ls)) (none_below (naming_of view.naming) (holder_of view.listener.now) (stamp_micros view.now) c.args.places.now)

pub loop-address-preserved : goal.loop-address-preserved
loop-address-preserved c =
    let view = c.args.view in
    let holder = holder_of view.listener.now in
    let now = stamp_micros view.now in
    let n = c.loop-address.address in
    counted_then c.loop-address.count _ _ (below_place (naming_of view.naming) holder now c.args.places.now n) (at_place (naming_of view.naming) holder now c.args.places.now n)
    c.loop-address.invariant c.count_at.ensures c.saturating_add-count.ensures
    ∙ ap (λ (ls : List Line). capped (length ls)) (sym (next_place (naming_of view.naming) holder now c.args.places.now n))
