-- What is found in a run, and in the runs by some seeds, is one thing, and it is told in one way.
use Rattle.lab_model.proofs.Common.{rules, ◌≡◌, ◌∙◌, ◌+◌, ℕ, Bool, true, false, List, [], ◌∷◌, ◌++◌}
use Rattle.lab_model.proofs.Common.{ap, refl, sym, length, Meaning, Scenario, State, Leads, IsRun}
use Rattle.lab_model.proofs.Common.{opening}
use Rattle.std.proofs.Common.{ap₂, nat_lt}
use Rattle.std.specs.List.{flat_map}
use Rattle.std.specs.Cmp.{IsStrictWeakOrder}
use Rattle.std.proofs.lemmas.List.Sorted.{IsStrictWeakOrder-by_number, IsStrictWeakOrder-flip}
use Rattle.lab_model.specs.declared.event.Event.{Event}
use Rattle.lab_core.specs.Words.{seeded}
use Rattle.lab_core.proofs.Seeded.{Rests, chosen-once}
use Rattle.lab_findings.specs.Searched.{FindsIn}
use Rattle.lab_findings.specs.Watched.{Watched, unwatched}
use Rattle.lab_findings.specs.declared.noted.Noted.{Noted}
use Rattle.lab_findings.specs.declared.sought.Sought.{Sought}
use Rattle.lab_sweep.specs.ByLine.{IsByLine, LineCounts, count_line, count_names, count_runs, has_more}
use Rattle.lab_sweep.specs.Found.{IsNotedOf, TellsRun}
use Rattle.lab_sweep.specs.FoundRow.{row_names}
use Rattle.lab_sweep.specs.FoundRows.{found_rows}
use Rattle.lab_sweep.specs.Search.{IsSearch, NotedFrom, TellsRuns}
use Rattle.lab_sweep.specs.Totals.{totals_of}
use Rattle.lab_sweep.specs.declared.tally.SeedCount.{SeedCount}
use Rattle.lab_sweep.specs.declared.totals.Totals.{Totals}
use Rattle.law_one_output.proofs.RankedOne.{sorted-one}

-- having a greater count is an order
counts-order : {X : Type 0}
    → IsStrictWeakOrder (λ (a b : X × SeedCount). nat_lt b.1.count a.1.count)
counts-order {X} = IsStrictWeakOrder-flip _ (IsStrictWeakOrder-by_number
    (λ (entry : X × SeedCount). entry.1.count))

module _ {S : Type 0} (m : Meaning S) (c : Scenario S) where
  -- what is noted while events are fired is one list
  finds-one : (events : List Event) (s : State S) (watched : Watched) (one other : List Noted)
      → FindsIn m c s watched events one → FindsIn m c s watched events other → one ≡ other
  finds-one [] s watched one other first second = first ∙ sym second
  finds-one (event ∷ events) s watched one other first second =
      let same : first.0 ≡ second.0 = cc in
      let rest = finds-one events second.0 _ first.2 second.2 (rw same at first.4) second.4 in
      rw (first.3, second.3, rest)

  -- and there is one
  finds-some : (events : List Event) (s end : State S) (watched : Watched)
      → Leads m c s events end → (noted : List Noted) × FindsIn m c s watched events noted
  finds-some [] s end watched leads = ([], refl)
  finds-some (event ∷ events) s end watched leads =
      let rest = finds-some events leads.1 end _ leads.3 in
      (_, (leads.1, leads.2, rest.0, refl, rest.1))

  -- so what is told of a run's findings is one
  pub found-one : (seed : ℕ) (sought : Sought) (events : List Event) (one other : List ℕ)
      (first second : Totals) → TellsRun m c seed sought events one first
      → TellsRun m c seed sought events other second → (one ≡ other) × (first ≡ second)
  found-one seed sought events one other first second tells also =
      let same = finds-one events (opening c) (unwatched sought) tells.noted also.noted
      tells.finds also.finds in (
        tells.told ∙ ap (λ noted. row_names ++ found_rows c seed noted) same ∙ sym also.told,
        tells.counted ∙ ap (λ (noted : List Noted). totals_of (noted ∷ [])) same
            ∙ sym also.counted,
      )

  -- and of each run something is
  pub found-told : (seed : ℕ) (sought : Sought) (events : List Event) (end : State S)
      → IsRun m c events end
      → (text : List ℕ) × (totals : Totals) × TellsRun m c seed sought events text totals
  found-told seed sought events end run =
      let some = finds-some events (opening c) end (unwatched sought) run in
      (_, _, record { noted = some.0; finds = some.1; told = refl; counted = refl })

  -- more seeds come first
  more-orders : IsStrictWeakOrder has_more
  more-orders = counts-order

  -- the counts by line are told in one way
  by-line-one : (runs : ℕ) (counts : LineCounts) (one other : List ℕ)
      → IsByLine c runs counts one → IsByLine c runs counts other → one ≡ other
  by-line-one runs counts one other first second =
      let same = sorted-one has_more more-orders first.ranked second.ranked first.ranks.most
      second.ranks.most (λ entry. first.ranks.kept entry ∙ sym (second.ranks.kept entry)) in
      first.told ∙ ap (λ ranked. count_names ++ flat_map (count_line c runs) ranked) same
      ∙ sym second.told

  -- and so is what was noted in some runs
  tells-runs-one : (by_line : Bool) (from : ℕ) (runs : List (List Noted)) (one other : List ℕ)
      → TellsRuns c from by_line runs one → TellsRuns c from by_line runs other → one ≡ other
  tells-runs-one true from runs one other first second =
      by-line-one (length runs) (count_runs [] from runs) one other first second
  tells-runs-one false from runs one other first second = first ∙ sym second

  module _ (rests : Rests m c) where
    -- what is noted in a seed's run is one list
    noted-one : (prompt : Bool) (sought : Sought) (seed : ℕ) (one other : List Noted)
        → IsNotedOf m c prompt seed sought one → IsNotedOf m c prompt seed sought other
        → one ≡ other
    noted-one prompt sought seed one other first second =
        let same = chosen-once m c rests prompt first.events second.events (seeded seed) []
        (opening c) first.end second.end refl first.picks second.picks first.done second.done in
        finds-one second.events (opening c) (unwatched sought) one other
        (rw same.0 at first.finds) second.finds

    -- so it is in the runs by some seeds
    runs-one : (prompt : Bool) (sought : Sought) (seed : ℕ) (one other : List (List Noted))
        → length one ≡ length other → NotedFrom m c prompt sought seed one
        → NotedFrom m c prompt sought seed other → one ≡ other
    runs-one prompt sought seed [] [] long first second = refl
    runs-one prompt sought seed (noted ∷ one) (also ∷ other) long first second =
        ap₂ (λ (run : List Noted) runs. run ∷ runs)
        (noted-one prompt sought seed noted also first.0 second.0)
        (runs-one prompt sought (seed + 1) one other (search rules) first.1 second.1)
    runs-one prompt sought seed one other long first second = cc

    -- and what is told of a search is one
    pub search-one : (prompt : Bool) (from to : ℕ) (sought : Sought) (by_line : Bool)
        (one other : List ℕ) (first second : Totals)
        → IsSearch m c prompt from to sought by_line one first
        → IsSearch m c prompt from to sought by_line other second
        → (one ≡ other) × (first ≡ second)
    search-one prompt from to sought by_line one other first second tells also =
        let same = runs-one prompt sought from tells.runs also.runs (tells.all ∙ sym also.all)
        tells.each also.each in (
          tells-runs-one by_line from also.runs one other (rw same at tells.told) also.told,
          tells.counted ∙ ap totals_of same ∙ sym also.counted,
        )
