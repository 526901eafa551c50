-- What a sweep tells of findings: their rows, how many seeds have them, and the totals.
use Prim.Native.String.{String}
use Rattle.std.specs.Prelude.{◌≡◌, ℕ, List, [], ◌∷◌, ◌++◌, Some, None, codes, false, refl}
use Rattle.std.specs.List.{flat_map}
use Rattle.lab_sector.specs.declared.device.DevNo.TheVariants.{Dm}
use Rattle.lab_model.specs.declared.entry.Action.TheVariants.{Read, Write, Datasync}
use Rattle.lab_model.specs.Report.{text_line}
use Rattle.lab_model.specs.Scenario.{Scenario}
use Rattle.lab_findings.specs.declared.finding.Finding.TheVariants.{BrokenSync, Eio, Lost, Stale}
use Rattle.lab_findings.specs.declared.noted.Noted.{Noted}
use Rattle.lab_sweep.specs.ByLine.{count_line, count_runs}
use Rattle.lab_sweep.specs.FoundRows.{found_rows}
use Rattle.lab_sweep.specs.Totals.{totals_of, totals_text}
use Rattle.test_examples.specs.Example.{log_on, one_row, replayed}
use Rattle.test_examples.specs.Findings.{by, everything, found, sector_of, sectors, synced, timed}
use Rattle.test_examples.specs.Findings.{with_writers, wrong}
use Rattle.test_examples.specs.Moody.{Moody, nowhere}
unfoldable use Rattle.std.specs.Fmt.{digits}

-- a scenario with a log that is named `a`
abbrev scenario : Scenario Moody
scenario = replayed 2 (one_row 2 nowhere) (log_on (Dm 0) [] ∷ [])

-- columns with a tab between two
abbrev columns : List String → List ℕ
columns [] = []
columns (first ∷ others) =
    text_line (codes first ++ flat_map (λ column. 9 ∷ codes column) others)

-- a write of three sectors that is issued at 100 and answered at 350 lost two
abbrev lost : Noted
lost = timed 100 350 (found Lost 1 4 Write (Dm 0) (sectors 1 3) (wrong 2 2) (by 0 2))

-- a read is stale
abbrev stale : Noted
stale = with_writers (Some (sector_of 1 4 1)) (Some (sector_of 2 5 0))
    (found Stale 1 6 Read (Dm 0) (sectors 1 1) (wrong 1 1) (by 0 2))

-- the row of a lost write tells the first sync of its device behind it
lost_row : found_rows scenario 7 (synced 3 (Dm 0) ∷ lost ∷ synced 5 (Dm 1) ∷ synced 6 (Dm 0)
    ∷ synced 7 (Dm 0) ∷ [])
    ≡ columns ("lost" ∷ "7" ∷ "1" ∷ "a" ∷ "4" ∷ "write" ∷ "dm0" ∷ "1+3" ∷ "100" ∷ "250" ∷ "2" ∷ "2"
    ∷ "dm0" ∷ "2" ∷ "moody" ∷ "-" ∷ "-" ∷ "1.6" ∷ [])
unfolding digits
lost_row = refl

-- the row of a stale read tells no sync, but who wrote what was found and what was wanted
stale_row : found_rows scenario 8 (stale ∷ synced 7 (Dm 0) ∷ [])
    ≡ columns ("stale" ∷ "8" ∷ "1" ∷ "a" ∷ "6" ∷ "read" ∷ "dm0" ∷ "1+1" ∷ "0" ∷ "0" ∷ "1" ∷ "1"
    ∷ "dm0" ∷ "2" ∷ "moody" ∷ "1.4+1" ∷ "2.5+0" ∷ "-" ∷ [])
unfolding digits
stale_row = refl

-- a sync has no sectors, and a failed operation no wrong ones
sync_rows : found_rows scenario 9 (found Eio 1 4 Datasync (Dm 0) (sectors 0 0) None None
    ∷ with_writers None (Some (sector_of 1 4 1))
    (found BrokenSync 1 5 Datasync (Dm 0) (sectors 0 0) (wrong 2 2) (by 0 2)) ∷ [])
    ≡ columns ("eio" ∷ "9" ∷ "1" ∷ "a" ∷ "4" ∷ "datasync" ∷ "dm0" ∷ "-" ∷ "0" ∷ "0" ∷ "-" ∷ "-" ∷ "-"
    ∷ "-" ∷ "-" ∷ "-" ∷ "-" ∷ "-" ∷ [])
    ++ columns ("broken-sync" ∷ "9" ∷ "1" ∷ "a" ∷ "5" ∷ "datasync" ∷ "dm0" ∷ "-" ∷ "0" ∷ "0" ∷ "2"
    ∷ "2" ∷ "dm0" ∷ "2" ∷ "moody" ∷ "-" ∷ "1.4+1" ∷ "-" ∷ [])
unfolding digits
sync_rows = refl

-- what was noted by three seeds, from 5 on
abbrev runs : List (List Noted)
runs = (lost ∷ stale ∷ []) ∷ (synced 6 (Dm 0) ∷ []) ∷ (stale ∷ []) ∷ []

-- how many of the three seeds have each, and the first of them
counts : flat_map (count_line scenario 3) (count_runs [] 5 runs)
    ≡ columns ("lost" ∷ "1" ∷ "a" ∷ "4" ∷ "1" ∷ "5" ∷ "33.33" ∷ [])
    ++ columns ("stale" ∷ "1" ∷ "a" ∷ "6" ∷ "2" ∷ "5" ∷ "66.66" ∷ [])
unfolding digits
counts = refl

-- the totals: a run with two findings is counted once, and only what is asked for is told
totals : totals_text (record everything { corrupt = false; misplaced = false }) (totals_of runs)
    ≡ columns ("runs=3 found=2 eio=0 lost=1 stale=2 broken-sync=0" ∷ [])
unfolding digits
totals = refl
