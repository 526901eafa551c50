-- A search that goes from seed to seed: before the first, with one more, and at its end.
use Rattle.lab_model.proofs.Common.{◌≡◌, ◌∙◌, ℕ, ◌+◌, ◌-◌, Bool, true, false, List, [], ◌∷◌, ◌++◌}
use Rattle.lab_model.proofs.Common.{ap, arith, length, length-append, subst, sym, Meaning, Scenario}
use Rattle.lab_findings.specs.declared.noted.Noted.{Noted}
use Rattle.lab_findings.specs.declared.sought.Sought.{Sought}
use Rattle.lab_sweep.specs.ByLine.{IsByLine, LineCounts, count_runs}
use Rattle.lab_sweep.specs.Found.{IsNotedOf}
use Rattle.lab_sweep.specs.Search.{IsSearch, TellsRuns}
use Rattle.lab_sweep.specs.Searching.{AddsRun, IsSearched, SearchEnds}
use Rattle.lab_sweep.specs.Totals.{totals_with}
use Rattle.lab_sweep.specs.declared.searcher.Searcher.{Searcher}
use Rattle.lab_sweep.specs.declared.totals.Totals.{Totals}
use Rattle.lab_sweep.proofs.MoreRuns.{lines-more, noted-more, text-more, totals-more}

module _ {S : Type 0} (m : Meaning S) (c : Scenario S) (prompt : Bool) (sought : Sought) where
  -- with the next seed's run a search has gone through one seed more
  pub search-more : (by_line : Bool) (first seed count more : ℕ) (noted : List Noted)
      (before after : Searcher) → IsSearched m c prompt sought by_line first count before
      → first + count ≡ seed → count + 1 ≡ more → IsNotedOf m c prompt seed sought noted
      → AddsRun c by_line seed noted before after
      → IsSearched m c prompt sought by_line first more after
  search-more by_line first seed count more noted before after so_far at one next adds =
      let runs = so_far.runs in
      let here : first + length runs ≡ seed = omega (arith, so_far.all, at) in
      record {
        runs = runs ++ noted ∷ [];
        all = length-append runs (noted ∷ []) ∙ ap (λ n. n + 1) so_far.all ∙ one;
        each = noted-more m c prompt sought first seed runs noted so_far.each here next;
        text = text-more c by_line first seed runs noted before.text.items after.text.items here
            so_far.text adds.text;
        lines = lines-more by_line first seed runs noted before.counts.entries
            after.counts.entries here so_far.lines adds.lines;
        totals = adds.totals ∙ ap (λ totals. totals_with totals noted) so_far.totals
            ∙ sym (totals-more runs noted);
      }

  -- what is told at the end of a search is told of its runs
  pub tells-runs : (by_line : Bool) (first count : ℕ) (searcher : Searcher) (text : List ℕ)
      (so_far : IsSearched m c prompt sought by_line first count searcher)
      → SearchEnds c by_line searcher text → TellsRuns c first by_line so_far.runs text
  tells-runs true first count searcher text so_far ends =
      let runs-are : searcher.totals.runs ≡ length so_far.runs =
      ap (λ totals. totals.runs) so_far.totals in
      let text-is : text ≡ ends.0 = ends.2 ∙ ap (λ t. t ++ ends.0) so_far.text in
      subst (IsByLine c (length so_far.runs) (count_runs [] first so_far.runs)) (sym text-is)
      (subst (λ (n : ℕ). IsByLine c n (count_runs [] first so_far.runs) ends.0) runs-are
      (subst (λ (counts : LineCounts). IsByLine c searcher.totals.runs counts ends.0) so_far.lines
      ends.1))
  tells-runs false first count searcher text so_far ends = ends ∙ so_far.text

  -- a search that has gone through all seeds and ended tells what is found
  pub search-ends : (d : Scenario S) (by_line : Bool) (first last : ℕ) (searcher : Searcher)
      (text : List ℕ) (totals : Totals)
      → IsSearched m c prompt sought by_line first (last + 1 - first) searcher → d ≡ c
      → SearchEnds d by_line searcher text → totals ≡ searcher.totals
      → IsSearch m c prompt first last sought by_line text totals
  search-ends d by_line first last searcher text totals so_far same ends counted = record {
    runs = so_far.runs;
    all = so_far.all;
    each = so_far.each;
    told = tells-runs by_line first (last + 1 - first) searcher text so_far
        (subst (λ (d : Scenario S). SearchEnds d by_line searcher text) same ends);
    counted = counted ∙ so_far.totals;
  }
