-- What is told of some runs, with one run more.
use Rattle.lab_model.proofs.Common.{◌≡◌, ◌∙◌, ℕ, ◌+◌, Bool, true, false, List, [], ◌∷◌, ◌++◌}
use Rattle.lab_model.proofs.Common.{append_assoc, append-nil, ap, arith, cond, if◌then◌else◌}
use Rattle.lab_model.proofs.Common.{length, length-append, refl, subst, sum_by, sym}
use Rattle.lab_model.proofs.Common.{Meaning, Scenario}
use Rattle.std.proofs.Common.{add-zero, zero-add}
use Rattle.std.proofs.lemmas.List.Sums.{sum_by-append}
use Rattle.lab_findings.specs.declared.finding.Finding.TheVariants.{Eio, Lost, Corrupt, Stale}
use Rattle.lab_findings.specs.declared.finding.Finding.TheVariants.{Misplaced, BrokenSync}
use Rattle.lab_findings.specs.declared.noted.Noted.{Noted}
use Rattle.lab_findings.specs.declared.sought.Sought.{Sought}
use Rattle.lab_sweep.specs.ByLine.{LineCounts, count_run, count_runs}
use Rattle.lab_sweep.specs.Found.{IsNotedOf}
use Rattle.lab_sweep.specs.FoundRow.{row_names}
use Rattle.lab_sweep.specs.FoundRows.{found_rows}
use Rattle.lab_sweep.specs.Search.{NotedFrom, all_found_rows}
use Rattle.lab_sweep.specs.Searching.{begun_text}
use Rattle.lab_sweep.specs.Totals.{count_in_run, has_finding, totals_of, totals_with}

-- the rows of one run more come last
pub rows-more : {S : Type 0} (c : Scenario S) (first seed : ℕ) (runs : List (List Noted))
    (noted : List Noted) → first + length runs ≡ seed
    → all_found_rows c first (runs ++ noted ∷ []) ≡ all_found_rows c first runs
    ++ found_rows c seed noted
rows-more c first seed [] noted at =
    append-nil (found_rows c first noted)
    ∙ ap (λ n. found_rows c n noted) (sym (add-zero first) ∙ at)
rows-more c first seed (run ∷ runs) noted at =
    ap (λ rest. found_rows c first run ++ rest)
    (rows-more c (first + 1) seed runs noted (omega (arith, at)))
    ∙ sym (append_assoc (found_rows c first run) (all_found_rows c (first + 1) runs)
    (found_rows c seed noted))

-- one run more is counted last
pub counts-more : (counts : LineCounts) (first seed : ℕ) (runs : List (List Noted))
    (noted : List Noted) → first + length runs ≡ seed
    → count_runs counts first (runs ++ noted ∷ [])
    ≡ count_run (count_runs counts first runs) seed noted
counts-more counts first seed [] noted at =
    ap (λ n. count_run counts n noted) (sym (add-zero first) ∙ at)
counts-more counts first seed (run ∷ runs) noted at =
    counts-more (count_run counts first run) (first + 1) seed runs noted (omega (arith, at))

module _ {S : Type 0} (m : Meaning S) where
  -- what is noted in the next seed's run comes after what is noted in those before it
  pub noted-more : (c : Scenario S) (prompt : Bool) (sought : Sought) (first seed : ℕ)
      (runs : List (List Noted)) (noted : List Noted)
      → NotedFrom m c prompt sought first runs → first + length runs ≡ seed
      → IsNotedOf m c prompt seed sought noted
      → NotedFrom m c prompt sought first (runs ++ noted ∷ [])
  noted-more c prompt sought first seed [] noted before at next =
      (subst (λ (n : ℕ). IsNotedOf m c prompt n sought noted) (sym at ∙ add-zero first) next, tt)
  noted-more c prompt sought first seed (run ∷ runs) noted before at next = (
    before.0,
    noted-more c prompt sought (first + 1) seed runs noted before.1 (omega (arith, at)) next,
  )

-- a sum over runs with one run more
pub sum-more : (f : List Noted → ℕ) (runs : List (List Noted)) (noted : List Noted)
    → sum_by f (runs ++ noted ∷ []) ≡ sum_by f runs + f noted
sum-more f runs noted =
    sum_by-append f runs (noted ∷ []) ∙ ap (λ n. sum_by f runs + n) (zero-add (f noted))

-- the totals with one run more
pub totals-more : (runs : List (List Noted)) (noted : List Noted)
    → totals_of (runs ++ noted ∷ []) ≡ totals_with (totals_of runs) noted
totals-more runs noted = rw (
  length-append runs (noted ∷ []),
  sum-more (λ run. cond (has_finding run) 1 0) runs noted,
  sum-more (count_in_run Eio) runs noted,
  sum-more (count_in_run Lost) runs noted,
  sum-more (count_in_run Corrupt) runs noted,
  sum-more (count_in_run Stale) runs noted,
  sum-more (count_in_run Misplaced) runs noted,
  sum-more (count_in_run BrokenSync) runs noted,
) refl

-- the text with one run more: by line there is none, or else its rows come last
pub text-more : {S : Type 0} (c : Scenario S) (by_line : Bool) (first seed : ℕ)
    (runs : List (List Noted)) (noted : List Noted) (before after : List ℕ)
    → first + length runs ≡ seed
    → before ≡ begun_text by_line ++ (if by_line then [] else all_found_rows c first runs)
    → after ≡ before ++ (if by_line then [] else found_rows c seed noted)
    → after ≡ begun_text by_line
    ++ (if by_line then [] else all_found_rows c first (runs ++ noted ∷ []))
text-more c true first seed runs noted before after at so_far more =
    more ∙ ap (λ t. t ++ []) so_far
text-more c false first seed runs noted before after at so_far more =
    more ∙ ap (λ t. t ++ found_rows c seed noted) so_far
    ∙ append_assoc row_names (all_found_rows c first runs) (found_rows c seed noted)
    ∙ ap (λ rows. row_names ++ rows) (sym (rows-more c first seed runs noted at))

-- the counts with one run more: by line it is counted, or else there are none
pub lines-more : (by_line : Bool) (first seed : ℕ) (runs : List (List Noted))
    (noted : List Noted) (before after : LineCounts) → first + length runs ≡ seed
    → before ≡ (if by_line then count_runs [] first runs else [])
    → after ≡ (if by_line then count_run before seed noted else before)
    → after ≡ (if by_line then count_runs [] first (runs ++ noted ∷ []) else [])
lines-more true first seed runs noted before after at so_far more =
    more ∙ ap (λ counts. count_run counts seed noted) so_far
    ∙ sym (counts-more [] first seed runs noted at)
lines-more false first seed runs noted before after at so_far more = more ∙ so_far
