use Rattle.j39_node.proofs.Common.{if◌then◌else◌, ◌+◌, ◌∙◌, ◌≡◌, ap, Bool, false, hearing_of, HearingRecord, holder_in, made_of, MessageRecord, min, not_true, nothing, of, option_map, Option, packed, refl, source_of, stamp_micros, sym, true, who_of, with_one, without_source, ℕ}
use Rattle.j39_node.specs.Hearing.{is_whole}
use Rattle.j39_node.proofs.ListenLemmas.{hears_other, hears_packet, if_all, made_by_announcement, made_by_none, made_by_packet, packs_is, unheard_by_kind}
use Rattle.j39_node.proofs.hearing.Hearing.hear.Goals as goal

pub returns-then-is_to_all-clause-missed : goal.returns-then-is_to_all-clause-missed
returns-then-is_to_all-clause-missed c =
    c.pack.ensures.missed
    ∙ sym (unheard_by_kind (who_of nothing c.args.own.now) c.args.frame.now (hearing_of c.args.self.now).boxes (hearing_of c.args.self.now).listening true (not_true _ c.in-None.ensures.known.1)
    (packs_is c.args.frame.now _ c.is_to_all.ensures.value ∙ c.if-is_to_all.true))

pub returns-then-is_to_all-clause-made : goal.returns-then-is_to_all-clause-made
returns-then-is_to_all-clause-made c = λ apart fits.
    c.pack.ensures.made fits
    ∙ sym (ap (λ (o : Option (ℕ × MessageRecord)). made_of (option_map (λ (u : ℕ × MessageRecord). u.1) o))
    (made_by_packet (who_of nothing c.args.own.now) (holder_in c.args.holders.now (source_of c.args.frame.now.id)) (stamp_micros c.args.time) c.args.frame.now (hearing_of c.args.self.now).boxes
    (hearing_of c.args.self.now).listening (not_true _ c.in-None.ensures.known.1) (packs_is c.args.frame.now _ c.is_to_all.ensures.value ∙ c.if-is_to_all.true)))

pub returns-then-is_to_all-clause-heard : goal.returns-then-is_to_all-clause-heard
returns-then-is_to_all-clause-heard c = λ apart fits.
    c.pack.ensures.heard apart fits
    ∙ (ap (λ (b : Bool). (let x : HearingRecord = record {
      listening = with_one (packed (stamp_micros c.args.time) c.args.frame.now (of (source_of c.args.frame.now.id) (hearing_of c.args.self.now).listening.current))
          (without_source (source_of c.args.frame.now.id) (hearing_of c.args.self.now).listening);
      boxes = (hearing_of c.args.self.now).boxes;
      missed = if b then min (c.args.self.now.missed + 1) 18446744073709551615 else c.args.self.now.missed;
    } in x)) c.pack.ensures.missed
    ∙ sym (hears_packet (who_of nothing c.args.own.now) (holder_in c.args.holders.now (source_of c.args.frame.now.id)) (stamp_micros c.args.time) c.args.frame.now (hearing_of c.args.self.now)
    (not_true _ c.in-None.ensures.known.1) (packs_is c.args.frame.now _ c.is_to_all.ensures.value ∙ c.if-is_to_all.true)))

pub returns-in-Some-clause-made : goal.returns-in-Some-clause-made
returns-in-Some-clause-made c = λ apart fits.
    sym (ap (λ (o : Option (ℕ × MessageRecord)). made_of (option_map (λ (u : ℕ × MessageRecord). u.1) o))
    (made_by_announcement (who_of nothing c.args.own.now) (holder_in c.args.holders.now (source_of c.args.frame.now.id)) (stamp_micros c.args.time) c.args.frame.now (hearing_of c.args.self.now).boxes
    (hearing_of c.args.self.now).listening (c.in-Some.ensures.known.0 refl)
    (if_all (λ y. is_whole y ≡ false) (source_of c.args.frame.now.id) (hearing_of c.args.self.now).listening.current (λ k d l. (fits k d l).2))))

pub returns-else-is_to_all-clause-missed : goal.returns-else-is_to_all-clause-missed
returns-else-is_to_all-clause-missed c =
    sym (unheard_by_kind (who_of nothing c.args.own.now) c.args.frame.now (hearing_of c.args.self.now).boxes (hearing_of c.args.self.now).listening false (not_true _ c.in-None.ensures.known.1)
    (packs_is c.args.frame.now _ c.is_to_all.ensures.value ∙ c.if-is_to_all.false))

pub returns-else-is_to_all-clause-made : goal.returns-else-is_to_all-clause-made
returns-else-is_to_all-clause-made c = λ apart fits.
    sym (ap (λ (o : Option (ℕ × MessageRecord)). made_of (option_map (λ (u : ℕ × MessageRecord). u.1) o))
    (made_by_none (who_of nothing c.args.own.now) (holder_in c.args.holders.now (source_of c.args.frame.now.id)) (stamp_micros c.args.time) c.args.frame.now (hearing_of c.args.self.now).boxes
    (hearing_of c.args.self.now).listening (not_true _ c.in-None.ensures.known.1) (packs_is c.args.frame.now _ c.is_to_all.ensures.value ∙ c.if-is_to_all.false)))

pub returns-else-is_to_all-clause-heard : goal.returns-else-is_to_all-clause-heard
returns-else-is_to_all-clause-heard c = λ apart fits.
    sym (hears_other (who_of nothing c.args.own.now) (holder_in c.args.holders.now (source_of c.args.frame.now.id)) (stamp_micros c.args.time) c.args.frame.now (hearing_of c.args.self.now)
    (not_true _ c.in-None.ensures.known.1) (packs_is c.args.frame.now _ c.is_to_all.ensures.value ∙ c.if-is_to_all.false))
