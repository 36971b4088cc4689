use Rattle.j39_node.proofs.Common.{[], ◌∙◌, ◌∷◌, ap, arith, holder_in, length, length-append, map, message_by, nat_lt, stamp_micros, stay, sym}
use Rattle.std.proofs.lemmas.List.Edits.{length-remove}
use Rattle.std.proofs.lemmas.List.Quantifiers.{position-Some}
use Rattle.j39_node.specs.Boxes.{in_box}
use Rattle.j39_node.specs.Hearing.{is_over}
use Rattle.j39_node.proofs.ListenLemmas.{all_left, over_lengths, shown_as, without_one}
use Rattle.j39_node.proofs.hearing.Hearing.leave.Goals as goal

pub loop-place-preserved : goal.loop-place-preserved
loop-place-preserved c =
    let p = is_over c.args.gone (holder_in c.args.holders.now) (stamp_micros c.args.time) in
    let xs = c.loop-place.self.current.items in
    let k = c.in-Some.place in
    let at = position-Some (λ b. p (in_box b)) xs k c.remove-heard.result (sym c.over.ensures ∙ c.in-Some.is) in
    let current = ap length c.remove-heard.ensures.items in
    let less = length-remove xs k at.0 in
    let free = ap length c.push_reserved.ensures.items ∙ length-append c.loop-place.self.free.items (c.remove-heard.result ∷ []) in
    let all = c.loop-place.invariant.1 in (
      ap (λ ys. stay c.args.gone (holder_in c.args.holders.now) (stamp_micros c.args.time) (map in_box ys)) c.remove-heard.ensures.items
          ∙ (without_one p in_box xs k c.remove-heard.result at.0 at.1 ∙ c.loop-place.invariant.0),
      omega (arith, current, less, free, all),
      c.loop-place.invariant.2,
      c.loop-place.invariant.3,
    )

pub overflow_sub-over : goal.overflow_sub-over
overflow_sub-over c =
    let n = over_lengths (is_over c.args.gone (holder_in c.args.holders.now) (stamp_micros c.args.time)) in_box c.loop-place.self.current.items c.args.self.now.current.items
    (sym c.in_default.is ∙ c.over.ensures) c.loop-place.invariant.0 in
    let a = c.len-before.ensures in
    let b = c.len.ensures in
    omega (arith, n, a, b)

pub returns-clause-broken : goal.returns-clause-broken
returns-clause-broken c =
    let n = over_lengths (is_over c.args.gone (holder_in c.args.holders.now) (stamp_micros c.args.time)) in_box c.loop-place.self.current.items c.args.self.now.current.items
    (sym c.in_default.is ∙ c.over.ensures) c.loop-place.invariant.0 in
    let a = c.len-before.ensures in
    let b = c.len.ensures in
    ap (λ j. nat_lt 0 j) (omega (arith, n, a, b))

pub returns-clause-left : goal.returns-clause-left
returns-clause-left c =
    let p = is_over c.args.gone (holder_in c.args.holders.now) (stamp_micros c.args.time) in
    let none = sym c.in_default.is ∙ c.over.ensures in
    let n = over_lengths p in_box c.loop-place.self.current.items c.args.self.now.current.items none c.loop-place.invariant.0 in
    let a = c.len-before.ensures in
    let b = c.len.ensures in
    let m = c.loop-place.invariant.2 in
    let whole = ap (λ v. length v.items) c.loop-place.invariant.3 in
    let all = c.loop-place.invariant.1 in
    let s = c.saturating_add-self.ensures in
    shown_as _ _ _ _ _ _ (λ i. record {
      current = (sym (all_left p in_box c.loop-place.self.current.items none) ∙ c.loop-place.invariant.0) i;
      waits = map (λ h. message_by (in_box h)) (c.loop-place.invariant.3 i).items;
    }) (omega (arith, whole, all)) (omega (arith, n, a, b, m, s))
