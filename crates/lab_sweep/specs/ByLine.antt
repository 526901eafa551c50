-- How many seeds have each finding at each operation (this project's own).
use Rattle.std.specs.Prelude.{◌≡◌, ℕ, ◌+◌, ◌*◌, ◌/◌, ◌%◌, ◌==◌, ◌&&◌, nat_lt, max, Bool, true}
use Rattle.std.specs.Prelude.{false, List, [], ◌∷◌, ◌++◌, codes, decimal, fold}
use Rattle.std.specs.List.{flat_map}
use Rattle.std.specs.List.Sorted.{IsPermutation, IsSortedBy, IsStableBy}
use Rattle.lab_model.specs.Report.{text_line}
use Rattle.lab_model.specs.Scenario.{Scenario}
use Rattle.lab_findings.specs.declared.finding.Finding.{Finding}
use Rattle.lab_findings.specs.declared.finding.Finding.TheVariants.{Eio, Lost, Corrupt, Stale}
use Rattle.lab_findings.specs.declared.finding.Finding.TheVariants.{Misplaced, BrokenSync}
use Rattle.lab_findings.specs.declared.found.Found.{Found}
use Rattle.lab_findings.specs.declared.noted.Noted.{Noted}
use Rattle.lab_findings.specs.declared.noted.Noted.TheVariants.{Found as Finds, Synced as Syncs}
use Rattle.lab_sweep.specs.FoundRow.{finding_word, log_name, tabbed}
use Rattle.lab_sweep.specs.Tally.{counted_seed}
use Rattle.lab_sweep.specs.declared.line_counts.FoundAt.{FoundAt}
use Rattle.lab_sweep.specs.declared.tally.SeedCount.{SeedCount}

-- by finding and operation: how many seeds have it there
abbrev pub LineCounts : Type 0
LineCounts = List (FoundAt × SeedCount)

-- whether two findings are of one sort
abbrev pub same_finding : Finding → Finding → Bool
same_finding Eio Eio = true
same_finding Lost Lost = true
same_finding Corrupt Corrupt = true
same_finding Stale Stale = true
same_finding Misplaced Misplaced = true
same_finding BrokenSync BrokenSync = true
same_finding _ _ = false

-- whether two findings are of one sort and at one operation
abbrev pub same_found_at : FoundAt → FoundAt → Bool
same_found_at a b = same_finding a.finding b.finding && (a.log == b.log && a.line == b.line)

-- what a finding is, and at which operation
abbrev pub found_at : Found → FoundAt
found_at found = record {
  finding = found.finding;
  log = found.origin.log;
  line = found.origin.line;
}

-- the counts with something more that was noted in a seed's run; a sync is no finding
abbrev pub count_noted : ℕ → LineCounts → Noted → LineCounts
count_noted seed counts (Finds found) = counted_seed same_found_at counts (found_at found) seed
count_noted seed counts (Syncs synced) = counts

-- the counts with all that was noted in a seed's run: a run has each finding at most once at one
-- operation, so its seed is counted once
abbrev pub count_run : LineCounts → ℕ → List Noted → LineCounts
count_run counts seed noted = fold (count_noted seed) counts noted

-- the counts with what was noted in the runs by this seed and the ones after it
abbrev pub count_runs : LineCounts → ℕ → List (List Noted) → LineCounts
count_runs counts seed [] = counts
count_runs counts seed (noted ∷ runs) = count_runs (count_run counts seed noted) (seed + 1) runs

-- whether one has more seeds than another
abbrev pub has_more : FoundAt × SeedCount → FoundAt × SeedCount → Bool
has_more a b = nat_lt b.1.count a.1.count

-- the counts, those of the most seeds first, and equal ones in the order in which they were
pub record HasMostFirst (counts ranked : LineCounts) : Type 0 where
  pub all : IsPermutation counts ranked
  pub most : IsSortedBy has_more ranked
  pub kept : IsStableBy has_more counts ranked

-- a share in hundredths of a percent, cut off; where there is no whole there is no part of it
abbrev pub share : ℕ → ℕ → ℕ
share part whole = part * 10000 / max whole 1

-- hundredths of a percent as a percentage with two decimals
abbrev pub percent_text : ℕ → List ℕ
percent_text share = decimal (share / 100) ++ 46 ∷ (48 + share / 10 % 10) ∷ (48 + share % 10) ∷ []

-- the operation of a count: its log, the log's name and its line
abbrev pub place_columns : {S : Type 0} → Scenario S → FoundAt → List (List ℕ)
place_columns c at = decimal at.log ∷ log_name c at.log ∷ decimal at.line ∷ []

-- how many seeds have it, the first of them, and which share of all seeds that were run they are
abbrev pub count_columns : ℕ → SeedCount → List (List ℕ)
count_columns runs count = decimal count.count ∷ decimal count.first
    ∷ percent_text (share count.count runs) ∷ []

-- the line of a count, where this many seeds were run
abbrev pub count_line : {S : Type 0} → Scenario S → ℕ → FoundAt × SeedCount → List ℕ
count_line c runs entry = text_line (finding_word entry.0.finding
    ++ tabbed (place_columns c entry.0) ++ tabbed (count_columns runs entry.1))

-- the names of the columns
abbrev pub count_names : List ℕ
count_names = text_line (codes "finding" ++ tabbed (codes "log" ∷ codes "name" ∷ codes "line"
    ∷ codes "seeds" ∷ codes "first" ∷ codes "percent" ∷ []))

-- the text has the names of the columns, and a line for each count, ranked
pub record IsByLine {S : Type 0} (c : Scenario S) (runs : ℕ) (counts : LineCounts)
    (text : List ℕ) : Type 0 where
  pub ranked : LineCounts
  pub ranks : HasMostFirst counts ranked
  pub told : text ≡ count_names ++ flat_map (count_line c runs) ranked
