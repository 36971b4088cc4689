-- What the program got was heard.
use Rattle.std.proofs.Common.{[], if◌then◌else◌, ◌&&◌, ◌++◌, ◌-◌, ◌∷◌, ◌∙◌, ◌≡◌, ap, arith, refl, Bool, false, filter, length, List, map, nat_eq, nat_lt, subst, sym, true, ℕ}
use Rattle.std.proofs.lemmas.List.{map-append}
use Rattle.std.proofs.lemmas.List.Elements.{filter-append}
use Rattle.j39_frame.specs.Frame.{FrameRecord}
use Rattle.j39_node.proofs.SoundLemmas.{sound}
use Rattle.j39_node.specs.History.{Call, Message, Who, content, frames, got, holds, is_for_program, kept, message_of}
use Rattle.j39_node.specs.History.Call.{At}
use Rattle.j39_node.specs.History.Act.{Hear}
use Rattle.j39_node.specs.Is.{AreAnswered}
use Rattle.j39_net.proofs.PartLemmas.{is_plain, part_front, part_longer, part_push, part_trans, through}
use Rattle.j39_net.specs.Net.{hears, IsMember, IsPart, Member, Net, OnlySends, Passed}

-- a frame more is heard
heard_more : (fs : List FrameRecord) (g : FrameRecord) (b : Bool) → is_plain (message_of g) ≡ b
    → filter is_plain (map message_of (fs ++ g ∷ [])) ≡ filter is_plain (map message_of fs) ++ (if b then message_of g ∷ [] else [])
heard_more fs g b e =
    ap (filter is_plain) (map-append message_of fs (g ∷ [])) ∙ (filter-append is_plain (map message_of fs) (message_of g ∷ [])
    ∙ ap (λ (t : Bool). filter is_plain (map message_of fs) ++ (if t then message_of g ∷ [] else [])) e)

kept_one : (b : Bool) (xs : List (ℕ × Message)) (fs : List FrameRecord) (now : ℕ) (f : FrameRecord) → (b ≡ true → is_plain (message_of f) ≡ true)
    → IsPart (map content xs) (filter is_plain (map message_of fs))
    → IsPart (map content (if b then xs ++ (f.stamp, message_of f) ∷ [] else xs)) (filter is_plain (map message_of (fs ++ record { stamp = now; id = f.id; bytes = f.bytes } ∷ [])))
kept_one true xs fs now f e p =
    let g : FrameRecord = record { stamp = now; id = f.id; bytes = f.bytes } in
    subst (λ ys. IsPart ys (filter is_plain (map message_of (fs ++ g ∷ [])))) (sym (map-append content xs ((f.stamp, message_of f) ∷ [])))
    (subst (IsPart (map content xs ++ message_of f ∷ [])) (sym (heard_more fs g true (e refl)))
    (part_push (map content xs) (filter is_plain (map message_of fs)) (message_of f) p))
kept_one false xs fs now f e p =
    let g : FrameRecord = record { stamp = now; id = f.id; bytes = f.bytes } in
    subst (IsPart (map content xs)) (sym (heard_more fs g (is_plain (message_of g)) refl))
    (part_longer (map content xs) (filter is_plain (map message_of fs)) (if is_plain (message_of g) then message_of g ∷ [] else []) p)

program_plain : (w : Who) (held : Bool) (f : FrameRecord) (b : Bool) → (is_for_program w held f && b) ≡ true → is_plain (message_of f) ≡ true
program_plain w held f b e = grind (arith, e)

kept_part : (w : Who) (H : List Call) → IsPart (map content (kept w H)) (filter is_plain (map message_of (hears H)))
kept_part w [] = tt
kept_part w (At now (Hear f) ∷ H) =
    kept_one (is_for_program w (holds w H now) f && nat_lt (length (kept w H) - length (got H)) 16) (kept w H) (hears H) now f
    (program_plain w (holds w H now) f (nat_lt (length (kept w H) - length (got H)) 16)) (kept_part w H)
kept_part w (call ∷ H) = kept_part w H

got_part : (w : Who) (H : List Call) → AreAnswered w H → IsPart (map content (got H)) (filter is_plain (map message_of (hears H)))
got_part w H right =
    let r = (sound w H right).reads in
    part_trans (map content (got H)) (map content (kept w H)) (filter is_plain (map message_of (hears H)))
    (subst (λ ks. IsPart (map content (got H)) (map content ks)) (sym r.1)
    (subst (IsPart (map content (got H))) (sym (map-append content (got H) r.0)) (part_front (map content (got H)) (map content r.0))))
    (kept_part w H)

pub singles : (delay now i j : ℕ) (L : List Passed) (members : List Member) (m n : Member) → Net delay now (λ f. Unit {0}) L members
    → IsMember members i m → IsMember members j n → OnlySends L i m.who.address
    → IsPart (filter (λ x. nat_eq x.source m.who.address) (map content (got n.history))) (map message_of (frames m.history))
singles delay now i j L members m n net hm hn o =
    through i j n.since m.who.address delay (λ f. Unit {0}) (λ f. Unit {0}) L (frames m.history) (hears n.history) (map content (got n.history)) o (net.sent i m hm) (net.heard j n hn)
    (got_part n.who n.history (net.answered j n hn))
