-- One player more was told, or is the sender.
use Rattle.std.proofs.Common.{◌≡◌, ◌<◌, ◌+◌, ℕ, arith, length, refl, rules, subst, sym}
use Rattle.std.proofs.lemmas.Option.{slice_get_read}
use Rattle.bus_demo.specs.Playing.{AreNotedBelow, HappenedBelow, IsHeardNoted, IsToldAt}
use Rattle.bus_demo.specs.declared.bus.Bus.{Bus}
use Rattle.bus_demo.specs.declared.bus.player.Player.{Player}
use Rattle.bus_demo.proofs.TellingLemmas.{happened_then, happened_to_none, noted_then, same_player}
use Rattle.bus_demo.proofs.bus.Bus.tell.Goals.{else-place-sender, then-place-sender+in_ok-hear}
use Rattle.bus_demo.proofs.bus.Bus.tell.Goals as goal

pub loop-place-preserved : goal.loop-place-preserved
loop-place-preserved c =
    let inv = c.loop-place.invariant in
    let n = c.loop-place.place in
    let start = c.args.self.now in
    let old = start.controllers.items in
    let mid = c.loop-place.self.controllers.items in
    let Told : ℕ → Player → Player → Type 0 = λ k. IsToldAt k c.args.sender c.args.frame.now in
    let Holds = λ (b : Bus). HappenedBelow Told (n + 1) old b.controllers.items
    × AreNotedBelow (n + 1) c.args.sender c.args.frame.now old start.book b.book
    × (b.now ≡ start.now) × (b.frames ≡ start.frames) × (b.lose ≡ start.lose) in
    elim c.if-place-sender.branch [
      | then-place-sender+in_ok-hear w ↦
          let inside : n < length mid = search rules in
          let stands = slice_get_read mid (length mid) n w.index_mut.result.now refl inside w.index_mut.ensures.value in
          subst Holds (sym w.self-is) (
            happened_then Told n old mid w.index_mut.result.now w.hear.new.self inside inv.0 stands
                ((λ same. absurd (w.if-place-sender.true same)), (λ _. w.in_ok-hear.ensures.heard)),
            noted_then n c.args.sender c.args.frame.now old start.book c.loop-place.self.book _ inv.1 (
              (λ same. absurd (w.if-place-sender.true same)),
              (λ _ player there. subst (λ p. IsHeardNoted p c.args.frame.now c.loop-place.self.book w.hear.new.book)
                  (same_player mid old n w.index_mut.result.now player stands (inv.0.others n (omega arith)) there) w.in_ok-hear.ensures.noted),
            ),
            inv.2,
            inv.3,
            inv.4,
          )
      | else-place-sender w ↦
          subst Holds (sym w.self-is) (
            happened_to_none Told n old mid (λ p. ((λ _. refl), (λ other. absurd (other w.if-place-sender.false)))) inv.0,
            noted_then n c.args.sender c.args.frame.now old start.book c.loop-place.self.book _ inv.1
                ((λ _. refl), (λ other. absurd (other w.if-place-sender.false))),
            inv.2,
            inv.3,
            inv.4,
          )
    ]

pub returns-clause-told : goal.returns-clause-told
returns-clause-told c =
    let old = c.args.self.now.controllers.items in
    let all : c.loop-place.place ≡ length old = search rules in
    subst (λ n. HappenedBelow (λ k. IsToldAt k c.args.sender c.args.frame.now) n old c.loop-place.self.controllers.items) all c.loop-place.invariant.0
