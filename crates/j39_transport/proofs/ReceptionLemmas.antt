-- What a tick does to a session.
use Rattle.std.proofs.Common.{◌≡◌, ℕ, ◌+◌, ◌==◌, nat_lt, Bool, true, false, ◌||◌, Option, Some, None, refl, ap, ◌∙◌}
use Rattle.std.proofs.lemmas.Bool.{cond_both}
use Rattle.j39_transport.specs.Receiving.{lent_after}
use Rattle.j39_transport.specs.Reception.{ReceptionRecord, Reaction, grants, asks_again, limit_of, takes_tick}

-- a tick asks or aborts, and delivers nothing
pub tick_delivers_nothing : (now : ℕ) (o : Option ReceptionRecord) → (takes_tick now o).delivers ≡ None
unfolding takes_tick asks_again grants
tick_delivers_nothing now None = refl
tick_delivers_nothing now (Some r) = cond_both (nat_lt (r.message.last + limit_of r) now) _ _ (λ (x : Reaction). x.delivers ≡ None)
    (λ t. cond_both (r.asks == 2) _ _ (λ (x : Reaction). x.delivers ≡ None) (λ u. refl) (λ u. refl))
    (λ t. refl)

-- so where nothing lay whole, nothing does then
pub tick_lends_nothing : (now : ℕ) (o session : Option ReceptionRecord) → lent_after now (takes_tick now o).delivers session None ≡ None
tick_lends_nothing now o session = ap (λ m. lent_after now m session None) (tick_delivers_nothing now o) ∙ still session
  where
    still : (session : Option ReceptionRecord) → lent_after now None session None ≡ None
    still None = refl
    still (Some r) = refl

-- a box that is there still, where a session has it or not
pub box_again : (a l b : Bool) → (a || l) ≡ b → (a || l) ≡ (a || b)
box_again true l b e = refl
box_again false l b e = e
