-- It came between the moments, or not.
use Rattle.j39_fault_reports.proofs.Common.{◌≡◌, ◌∙◌, ◌++◌, ◌∷◌, [], Bool, ℕ, Some, ap, sym, FrameRecord, FilterRecord, first_stamp, is_in_time}
use Rattle.j39_fault_reports.proofs.SilenceLemmas.{last_before, last_now}
use Rattle.j39_fault_reports.proofs.current_faults.silence.last_with.Goals as goal

-- what the chooser answered of it
answered : (which : FilterRecord) (first : ℕ) (view frame : FrameRecord) (r : Bool) → view ≡ frame → r ≡ is_in_time which first view.stamp → is_in_time which first frame.stamp ≡ r
answered which first view frame r same is = sym (is ∙ ap (λ (f : FrameRecord). is_in_time which first f.stamp) same)

pub returns-then-is_in_time : goal.returns-then-is_in_time
returns-then-is_in_time c = λ which F chosen is.
    ap (λ (f : FrameRecord). Some f.stamp) c.frame.view_is
    ∙ last_now which F c.args.frame.now (answered which (first_stamp (F ++ c.args.frame.now ∷ [])) _ c.args.frame.now _ c.frame.view_is (c.is_in_time.ensures which (F ++ c.args.frame.now ∷ []) chosen) ∙ c.if-is_in_time.true)

pub returns-else-is_in_time : goal.returns-else-is_in_time
returns-else-is_in_time c = λ which F chosen is.
    is ∙ last_before which F c.args.frame.now (answered which (first_stamp (F ++ c.args.frame.now ∷ [])) _ c.args.frame.now _ c.frame.view_is (c.is_in_time.ensures which (F ++ c.args.frame.now ∷ []) chosen) ∙ c.if-is_in_time.false)
