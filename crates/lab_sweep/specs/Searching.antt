-- A search while it goes from seed to seed (this project's own).
use Rattle.std.specs.Prelude.{◌≡◌, ℕ, Bool, true, false, List, [], ◌++◌, length, if◌then◌else◌}
use Rattle.lab_target.specs.Meaning.{Meaning}
use Rattle.lab_model.specs.Scenario.{Scenario}
use Rattle.lab_findings.specs.declared.noted.Noted.{Noted}
use Rattle.lab_findings.specs.declared.sought.Sought.{Sought}
use Rattle.lab_sweep.specs.ByLine.{IsByLine, count_run, count_runs}
use Rattle.lab_sweep.specs.FoundRow.{row_names}
use Rattle.lab_sweep.specs.FoundRows.{found_rows}
use Rattle.lab_sweep.specs.Search.{NotedFrom, all_found_rows}
use Rattle.lab_sweep.specs.Totals.{totals_of, totals_with}
use Rattle.lab_sweep.specs.declared.searcher.Searcher.{Searcher}

-- the text before the first seed: the names of the columns, but for counts by line
abbrev pub begun_text : Bool → List ℕ
begun_text by_line = if by_line then [] else row_names

-- one search goes on to another by what was noted in the run by a seed: by line it is counted, or
-- else its rows are written
pub record AddsRun {S : Type 0} (c : Scenario S) (by_line : Bool) (seed : ℕ) (noted : List Noted)
    (before after : Searcher) : Type 0 where
  pub text : after.text.items
      ≡ before.text.items ++ (if by_line then [] else found_rows c seed noted)
  pub lines : after.counts.entries
      ≡ (if by_line then count_run before.counts.entries seed noted else before.counts.entries)
  pub totals : after.totals ≡ totals_with before.totals noted

-- a search has gone through so many seeds from the first on
pub record IsSearched {S : Type 0} (m : Meaning S) (c : Scenario S) (prompt : Bool)
    (sought : Sought) (by_line : Bool) (first count : ℕ) (searcher : Searcher) : Type 0 where
  pub runs : List (List Noted)
  pub all : length runs ≡ count
  pub each : NotedFrom m c prompt sought first runs
  pub text : searcher.text.items
      ≡ begun_text by_line ++ (if by_line then [] else all_found_rows c first runs)
  pub lines : searcher.counts.entries ≡ (if by_line then count_runs [] first runs else [])
  pub totals : searcher.totals ≡ totals_of runs

-- a search ends with this text: by line the counts come last
abbrev pub SearchEnds : {S : Type 0} → Scenario S → Bool → Searcher → List ℕ → Type 0
SearchEnds c true searcher text = (lines : List ℕ)
    × IsByLine c searcher.totals.runs searcher.counts.entries lines
    × (text ≡ searcher.text.items ++ lines)
SearchEnds c false searcher text = text ≡ searcher.text.items
