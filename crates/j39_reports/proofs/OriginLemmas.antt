-- Entries of one origin.
use Rattle.j39_reports.proofs.Common.{◌≡◌, true, ap, is_same, Origin, Entry}
use Rattle.j39_frame.proofs.OriginLemmas as origins
use Rattle.j39_reports.specs.Summary.{have_one_origin, origin_of}

pub same_self : (e : Entry) → have_one_origin e e ≡ true
same_self e = origins.same_self (origin_of e)

-- what is of the origin of one is of that of the other
pub same_like : (e f g : Entry) → have_one_origin e f ≡ true → have_one_origin e g ≡ have_one_origin f g
same_like e f g h = ap (λ (o : Origin). is_same o (origin_of g)) (origins.same_true (origin_of e) (origin_of f) h)

pub same_sym : (e f : Entry) → have_one_origin e f ≡ have_one_origin f e
same_sym e f = origins.same_sym (origin_of e) (origin_of f)
