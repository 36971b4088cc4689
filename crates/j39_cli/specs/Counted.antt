-- The counts of a run, as they are printed.
use Rattle.std.specs.Prelude.{ℕ, List, [], ◌∷◌, ◌++◌, codes, decimal}
use Rattle.j39_io.specs.Chars.{newline}
use Rattle.j39_listen.specs.declared.counts.Counts.{Counts}
use Rattle.j39_fault_reports.specs.declared.fault_news.run.FaultCounts.{FaultCounts}

-- what every run counts
abbrev pub counts_words : Counts → List ℕ
counts_words counts =
    codes "frames " ++ decimal counts.frames ++ codes " other " ++ decimal counts.other ++ codes " unread "
    ++ decimal counts.unread
    ++ codes " messages " ++ decimal counts.messages ++ codes " lines " ++ decimal counts.lines

-- the line of a run's counts
abbrev pub counts_text : Counts → List ℕ
counts_text counts = counts_words counts ++ (newline ∷ [])

-- that of a run that tells faults
abbrev pub fault_counts_text : FaultCounts → List ℕ
fault_counts_text told = counts_words told.counts ++ codes " broken " ++ decimal told.broken ++ (newline ∷ [])
