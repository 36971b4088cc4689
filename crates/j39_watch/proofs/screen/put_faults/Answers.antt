-- An address more; after a fault a front of what is left was written.
use Rattle.j39_watch.proofs.Common.{◌≡◌, ◌-◌, ◌∙◌, ℕ, List, Option, None, ap, arith, length, sym, flat_map, puts_as, puts_nothing, stamp_micros, holder_of, naming_of}
use Rattle.j39_watch.proofs.ScreenLemmas.{limited_none, lines_of_place, none_below, place_left, stops_at_place}
use Rattle.j39_fault_reports.specs.CurrentPlaces.{LastRecord, at}
use Rattle.j39_fault_reports.specs.CurrentSoFar.{told_shown}
use Rattle.j39_watch.specs.Watch.{Line}
use Rattle.j39_watch.specs.WatchSoFar.{fault_lines, limited}
use Rattle.j39_watch.specs.NotesSoFar.{size_of}
use Rattle.j39_watch.proofs.screen.put_faults.Goals as goal
use Rattle.j39_watch.proofs.screen.put_faults.Goals.{in-Some+in_ok-left, in_default}

all_left : (n : ℕ) → n ≡ n - 0
all_left n = omega arith

pub loop-address-init : goal.loop-address-init
loop-address-init g c =
    let view = c.args.view in
    let none = none_below (naming_of view.naming) (holder_of view.listener.now) (stamp_micros view.now) c.args.places.now in (
      all_left c.args.room ∙ ap (λ ls. c.args.room - length ls) none,
      puts_as _ _ _ _ (sym (limited_none (size_of view.size) c.args.room) ∙ ap (limited (size_of view.size) c.args.room) none) (puts_nothing _ _),
    )

pub loop-address-preserved : goal.loop-address-preserved
loop-address-preserved g c =
    let view = c.args.view in
    let holder = holder_of view.listener.now in
    let lines : Option LastRecord → List Line = λ o. flat_map (fault_lines (naming_of view.naming) holder (stamp_micros view.now)) (told_shown c.loop-address.address o) in
    elim c.match-get.branch [
      | in-Some+in_ok-left w ↦ (
        w.left-is ∙ place_left (naming_of view.naming) holder (stamp_micros view.now) c.args.places.now c.args.room c.loop-address.address _ _ c.loop-address.invariant.0
            (w.in_ok-left.ensures.left ∙ ap (λ o. c.loop-address.left - length (lines o)) w.in-Some.ensures),
        rw w.sink-is (lines_of_place (naming_of view.naming) holder (stamp_micros view.now) c.args.places.now (size_of view.size) c.args.room c.loop-address.address _ _ _ _ _ c.loop-address.invariant.0 c.loop-address.invariant.1
            (puts_as _ _ _ _ (ap (λ o. limited (size_of view.size) c.loop-address.left (lines o)) w.in-Some.ensures) w.in_ok-left.ensures.puts)),
      )
      | in_default w ↦
          let none : None ≡ at c.args.places.now c.loop-address.address = rw w.in_default.is at c.get.ensures in (
            w.left-is ∙ place_left (naming_of view.naming) holder (stamp_micros view.now) c.args.places.now c.args.room c.loop-address.address _ _ c.loop-address.invariant.0
                (all_left c.loop-address.left ∙ ap (λ o. c.loop-address.left - length (lines o)) none),
            rw w.sink-is (lines_of_place (naming_of view.naming) holder (stamp_micros view.now) c.args.places.now {T = Unit {0}} {F = Unit {0}} (size_of view.size) c.args.room c.loop-address.address _ tt _ _ _ c.loop-address.invariant.0 c.loop-address.invariant.1
                (puts_as _ _ _ _ (sym (limited_none (size_of view.size) c.loop-address.left) ∙ ap (λ o. limited (size_of view.size) c.loop-address.left (lines o)) none) (puts_nothing _ _))),
          )
    ]

pub returns-in_err-left-clause-puts : goal.returns-in_err-left-clause-puts
returns-in_err-left-clause-puts g c =
    let view = c.args.view in
    let lines : Option LastRecord → List Line = λ o. flat_map (fault_lines (naming_of view.naming) (holder_of view.listener.now) (stamp_micros view.now)) (told_shown c.loop-address.address o) in
    stops_at_place (naming_of view.naming) (holder_of view.listener.now) (stamp_micros view.now) c.args.places.now (size_of view.size) c.args.room c.loop-address.address _ _ _ _ _ _ c.loop-address-test.true c.loop-address.invariant.0
    c.from_residual.ensures.0 c.loop-address.invariant.1 (puts_as _ _ _ _ (ap (λ o. limited (size_of view.size) c.loop-address.left (lines o)) c.in-Some.ensures) c.in_err-left.ensures.puts)
