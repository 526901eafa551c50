-- How much was found in all (this project's own).
use Rattle.std.specs.Prelude.{ℕ, ◌+◌, Bool, true, false, List, [], ◌∷◌, ◌++◌, codes, decimal}
use Rattle.std.specs.Prelude.{length, if◌then◌else◌, count_by, sum_by}
use Rattle.std.specs.List.{list_any}
use Rattle.lab_model.specs.Report.{text_line}
use Rattle.lab_findings.specs.declared.finding.Finding.{Finding}
use Rattle.lab_findings.specs.declared.finding.Finding.TheVariants.{Eio, Lost, Corrupt, Stale}
use Rattle.lab_findings.specs.declared.finding.Finding.TheVariants.{Misplaced, BrokenSync}
use Rattle.lab_findings.specs.declared.noted.Noted.{Noted}
use Rattle.lab_findings.specs.declared.noted.Noted.TheVariants.{Found as Finds, Synced as Syncs}
use Rattle.lab_findings.specs.declared.sought.Sought.{Sought}
use Rattle.lab_sweep.specs.ByLine.{same_finding}
use Rattle.lab_sweep.specs.FoundRow.{finding_word}
use Rattle.lab_sweep.specs.declared.totals.Totals.{Totals}

-- whether it is a finding
abbrev pub is_finding : Noted → Bool
is_finding (Finds found) = true
is_finding (Syncs synced) = false

-- whether it is a finding of this sort
abbrev pub is_of : Finding → Noted → Bool
is_of sort (Finds found) = same_finding sort found.finding
is_of sort (Syncs synced) = false

-- how many findings of a sort were noted in a run
abbrev pub count_in_run : Finding → List Noted → ℕ
count_in_run sort noted = count_by (is_of sort) noted

-- how many findings of a sort were noted in some runs
abbrev pub count_in_runs : Finding → List (List Noted) → ℕ
count_in_runs sort runs = sum_by (count_in_run sort) runs

-- whether anything was found in a run
abbrev pub has_finding : List Noted → Bool
has_finding noted = list_any is_finding noted

-- how many runs there were, in how many something was found, and how many findings of each sort
-- there are
abbrev pub totals_of : List (List Noted) → Totals
totals_of runs = record {
  runs = length runs;
  found = count_by has_finding runs;
  eio = count_in_runs Eio runs;
  lost = count_in_runs Lost runs;
  corrupt = count_in_runs Corrupt runs;
  stale = count_in_runs Stale runs;
  misplaced = count_in_runs Misplaced runs;
  broken_sync = count_in_runs BrokenSync runs;
}

-- the totals with one run more, in which this was noted
abbrev pub totals_with : Totals → List Noted → Totals
totals_with totals noted = record {
  runs = totals.runs + 1;
  found = totals.found + (if has_finding noted then 1 else 0);
  eio = totals.eio + count_in_run Eio noted;
  lost = totals.lost + count_in_run Lost noted;
  corrupt = totals.corrupt + count_in_run Corrupt noted;
  stale = totals.stale + count_in_run Stale noted;
  misplaced = totals.misplaced + count_in_run Misplaced noted;
  broken_sync = totals.broken_sync + count_in_run BrokenSync noted;
}

-- `runs=N found=N`
abbrev pub runs_found_text : Totals → List ℕ
runs_found_text totals = codes "runs=" ++ decimal totals.runs ++ codes " found="
    ++ decimal totals.found

-- ` WORD=COUNT` of a finding that is sought
abbrev pub sought_text : Bool → Finding → ℕ → List ℕ
sought_text asked sort count =
    if asked then 32 ∷ finding_word sort ++ 61 ∷ decimal count else []

-- `runs=N found=N`, and ` WORD=COUNT` of each finding that is sought
abbrev pub totals_text : Sought → Totals → List ℕ
totals_text sought totals = text_line
    (runs_found_text totals ++ sought_text sought.eio Eio totals.eio
    ++ sought_text sought.lost Lost totals.lost
    ++ sought_text sought.corrupt Corrupt totals.corrupt
    ++ sought_text sought.stale Stale totals.stale
    ++ sought_text sought.misplaced Misplaced totals.misplaced
    ++ sought_text sought.broken_sync BrokenSync totals.broken_sync)
