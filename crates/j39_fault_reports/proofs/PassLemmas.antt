-- A frame at which nothing is heard, and that leaves the account as it is.
use Rattle.j39_fault_reports.proofs.Common.{◌≡◌, ◌∙◌, ◌+◌, ◌++◌, ◌∷◌, [], ℕ, Bool, false, List, Option, None, ap, arith, count_by, refl, sym, FrameRecord, pgn_of, Meets, Chooses, FilterRecord, capped, first_stamp, Hearing, Format, Made, made_sum, same_made}
use Rattle.std.proofs.lemmas.Bool.{or_parts}
use Rattle.j39_groups.specs.Readings.{is_network_group}
use Rattle.j39_listen.specs.Counting.{one_if}
use Rattle.j39_listen.specs.ReportSoFar.{made_by}
use Rattle.j39_listen.proofs.LineLemmas.{capped-sum}
use Rattle.j39_listen.proofs.ListenerLemmas.{hears_single, outside_claims, silent_outside}
use Rattle.j39_fault_reports.specs.Broken.{announces_codes}
use Rattle.j39_fault_reports.specs.FaultsSoFar.{HasTold, Subject, announced_in, manner_of, with_frame}
use Rattle.j39_fault_reports.specs.News.{chosen_of, is_fault_group}
use Rattle.j39_fault_reports.specs.declared.fault_news.account.FaultNews.{FaultNews}
use Rattle.j39_fault_reports.specs.declared.fault_news.announced.Announced.{Announced}
use Rattle.j39_fault_reports.proofs.BrokenLemmas.{announces_none}
use Rattle.j39_fault_reports.proofs.FaultAccountLemmas.{faults_leave, news_meets, same_announced, tells_nothing}

-- it announces nothing
same_count : (F : List FrameRecord) (heard : List Hearing) (f : FrameRecord) (a : Announced) → is_network_group (pgn_of f.id) ≡ false → a ≡ announced_in F heard → a ≡ with_frame a f
same_count F heard f a free is =
    let quiet : announces_codes f ≡ false = announces_none f (or_parts _ _ (or_parts _ _ free).1).0 in
    let fits : a.announced ≡ capped (count_by announces_codes F) = ap (λ (x : Announced). x.announced) is in
    let same : a.announced ≡ capped (a.announced + 0) = omega (arith, fits) in
    same_announced _ _ (same ∙ sym (ap (λ (b : Bool). capped (a.announced + one_if b)) quiet)) refl

module _ (form : Format) (f : FrameRecord) (held : Option (List ℕ)) (other : is_fault_group (pgn_of f.id) ≡ false) (free : is_network_group (pgn_of f.id) ≡ false) where
  pub news_passes : (s : Subject) (a : FaultNews) → ((which : FilterRecord) (F : List FrameRecord) → Chooses which a.chooser F → Chooses which a.chooser (F ++ f ∷ []))
      → Meets (HasTold form s) a a (f ∷ []) held held
  news_passes s a notes = λ F before has.
      let same : a.made ≡ made_sum a.made (made_by None) =
      has.made_is ∙ same_made _ _ (capped-sum before.messages 0 before.messages (omega arith)) (capped-sum before.lines 0 before.lines (omega arith))
      ∙ ap (λ (x : Made). made_sum x (made_by None)) (sym has.made_is) in
      news_meets form s a a refl refl f (made_by None) held held notes (λ G ms hears chosen remembers. record {
        heard = None;
        announced_is = same_count F has.heard f a.announced free has.announced_is;
        heard_at = silent_outside is_fault_group faults_leave a.listener G f free other hears;
        hears = hears_single a.listener G f free (outside_claims f free) hears;
        tells = tells_nothing a.writing.form (manner_of a.writing) (chosen_of a.choice) (first_stamp (G ++ f ∷ [])) a.last ms None (made_by None) held refl refl remembers refl refl;
      }) same F before has
