use Rattle.std.proofs.Common.{◌≡◌, ◌≢◌, ◌<◌, ℕ, None, refl, sym, ap, ◌∙◌, subst, arith}
use Rattle.j39_frame.specs.Stamp.{stamp_micros}
use Rattle.j39_frame.specs.Address.{null_address}
use Rattle.j39_address.specs.declared.status.Status.TheVariants as status
use Rattle.j39_address.specs.Name.{name_raw}
use Rattle.j39_address.specs.Claims.{StandsFor}
use Rattle.j39_address.specs.Node.{IsAt, IsCapable, address_of, with_claim}
use Rattle.j39_address.specs.Node.NodeStatus.{Claiming, Cannot}
use Rattle.j39_address.specs.Call.Call.{Heard}
use Rattle.j39_address.specs.NodeStep.NodeStep.{hears_itself, notes, wins, moves, gives_up}
use Rattle.j39_address.proofs.ClaimerLemmas.{says_step, rests_step, least_free_from, none_free_from}
use Rattle.j39_address.specs.Claimer.{plain}
use Rattle.j39_address.proofs.claimer.Claimer.hear.Goals as goal

pub returns-then-is_named : goal.returns-then-is_named
returns-then-is_named c = λ node h.
    let named : name_raw c.args.name ≡ node.name = c.if-is_named.ensures.0 refl ∙ h.name in
    rests_step node _ _ _ h (hears_itself c.args.address (ap (λ (n : ℕ). Heard (record { name = n; address = c.args.address })) named) (refl, refl))

pub returns-then-not-is_at : goal.returns-then-not-is_at
returns-then-not-is_at c = λ node h.
    let n = name_raw c.args.name in
    let a = c.args.address in
    record {
      answer = None;
      after = record node { claims = with_claim node.claims n a };
      step = notes n a refl
          (λ e. let z = c.if-is_named.ensures.1 (e ∙ sym h.name) in absurd (cc))
          (λ at. let z = c.is_at.ensures.1 (ap address_of h.status ∙ at) in let y = c.if-not-is_at.true in absurd (cc))
          (refl, refl);
      is_node = record { name = h.name; preferred = h.preferred; status = h.status; moment = h.moment; claims = c.note_claim.ensures.stands node.claims h.claims };
      frame_is = refl;
    }

pub returns-then-raw : goal.returns-then-raw
returns-then-raw c = λ node h.
    let n = name_raw c.args.name in
    let a = c.args.address in
    let m = record node { claims = with_claim node.claims n a } in
    let s = record c.args.self.now { claims = c.note_claim.new.self } in
    let at : IsAt node a = ap address_of (sym h.status) ∙ c.is_at.ensures.0 c.if-not-is_at.false in
    let named : name_raw c.args.self.now.name ≡ node.name = h.name in
    let less : node.name < n = omega (arith, c.if-raw.true, c.raw.ensures, c.raw-2.ensures, named) in
    says_step node m s _ _ _ a _ refl
    (record { name = h.name; preferred = h.preferred; status = h.status; moment = h.moment; claims = c.note_claim.ensures.stands node.claims h.claims })
    c.say.ensures
    (wins n a refl at less (refl, refl))

pub returns-in-Some : goal.returns-in-Some
returns-in-Some c = λ node h.
    let n = name_raw c.args.name in
    let a = c.args.address in
    let b = c.in-Some.free in
    let now = stamp_micros c.args.now in
    let C = with_claim node.claims n a in
    let stands : StandsFor c.note_claim.new.self C = c.note_claim.ensures.stands node.claims h.claims in
    let m = record node { status = Claiming b; moment = now; claims = C } in
    let s = record c.args.self.now { status = plain (status.Claiming b); moment = now; claims = c.note_claim.new.self } in
    let at : IsAt node a = ap address_of (sym h.status) ∙ c.is_at.ensures.0 c.if-not-is_at.false in
    let named : name_raw c.args.self.now.name ≡ node.name = h.name in
    let other : n ≢ node.name = λ e. let z = c.if-is_named.ensures.1 (e ∙ sym h.name) in absurd (cc) in
    let less : n < node.name = omega (arith, c.if-raw.false, c.raw.ensures, c.raw-2.ensures, named, other) in
    let free = c.in-Some.ensures.found in
    says_step node m s _ _ _ b _ refl
    (record { name = h.name; preferred = h.preferred; status = refl; moment = refl; claims = stands })
    c.claim.ensures
    (moves n a b refl at less (subst (λ (x : ℕ). IsCapable x) named free.0) (least_free_from c.note_claim.new.self C b stands free.1) (refl, refl))

pub returns-in-None : goal.returns-in-None
returns-in-None c = λ node h.
    let n = name_raw c.args.name in
    let a = c.args.address in
    let C = with_claim node.claims n a in
    let stands : StandsFor c.note_claim.new.self C = c.note_claim.ensures.stands node.claims h.claims in
    let m = record node { status = Cannot; claims = C } in
    let s = record c.args.self.now { status = plain status.Cannot; claims = c.note_claim.new.self } in
    let at : IsAt node a = ap address_of (sym h.status) ∙ c.is_at.ensures.0 c.if-not-is_at.false in
    let named : name_raw c.args.self.now.name ≡ node.name = h.name in
    let other : n ≢ node.name = λ e. let z = c.if-is_named.ensures.1 (e ∙ sym h.name) in absurd (cc) in
    let less : n < node.name = omega (arith, c.if-raw.false, c.raw.ensures, c.raw-2.ensures, named, other) in
    says_step node m s _ _ _ null_address _ refl
    (record { name = h.name; preferred = h.preferred; status = refl; moment = h.moment; claims = stands })
    c.give_up.ensures
    (gives_up n a refl at less
    (λ can. none_free_from c.note_claim.new.self C stands (c.in-None.ensures.none refl (subst (λ (x : ℕ). IsCapable x) (sym named) can)))
    (refl, refl))
