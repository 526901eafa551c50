-- Sectors side by side.
use Rattle.std.proofs.Common.{rules, ◌≡◌, ◌∙◌, ap, sym, ℕ, suc, zero, ◌+◌, List, [], ◌∷◌, ◌++◌}
use Rattle.std.proofs.Common.{arith}
use Rattle.std.proofs.Common.{Option, None, Some, append_assoc, ap₂}
use Rattle.std.proofs.lemmas.List.{append-nil}
use Rattle.lab_watch.specs.Grids.{Grid, Joins, cleared, next, set, side_by_side, spelled_writers}
use Rattle.lab_watch.specs.Grids.{spread, with_writers_from, writer_from}
use Rattle.lab_watch.specs.declared.row.Run.{Run}
use Rattle.lab_next.specs.declared.writer.Writer.{Writer}

-- nobody's sectors behind nobody's
pub nobody-more : (count more : ℕ) → side_by_side (count + more) None
    ≡ side_by_side count None ++ side_by_side more None
nobody-more zero more = ap (λ all. side_by_side all None) (omega arith)
nobody-more (suc count) more =
    let all : suc count + more ≡ suc (count + more) = omega arith in
    ap (λ n. side_by_side n None) all ∙ ap (λ row. None ∷ row) (nobody-more count more)

-- an operation's sectors behind those that come before them
pub writer-more : (count more : ℕ) (writer : Writer) → side_by_side (count + more) (Some writer)
    ≡ side_by_side count (Some writer) ++ side_by_side more (Some (writer_from writer count))
writer-more zero more writer =
    let all : zero + more ≡ more = omega arith in
    let from : writer.sector ≡ writer.sector + 0 = omega arith in
    ap₂ (λ n sector. side_by_side n (Some (record writer { sector = sector }))) all from
writer-more (suc count) more writer =
    let all : suc count + more ≡ suc (count + more) = omega arith in
    let from : writer.sector + 1 + count ≡ writer.sector + suc count = omega arith in
    ap (λ n. side_by_side n (Some writer)) all
    ∙ ap (λ row. Some writer ∷ row) (writer-more count more (next writer)
    ∙ ap (λ sector. side_by_side count (Some (next writer))
    ++ side_by_side more (Some (record writer { sector = sector }))) from)

-- nobody's sectors go on as one run
pub nobody-joins : (run other joined : Run) → run.writer ≡ None → other.writer ≡ None
    → joined.count ≡ run.count + other.count → joined.writer ≡ run.writer → Joins run other joined
nobody-joins run other joined none others all from = record {
  count = all;
  sectors = ap₂ side_by_side all (from ∙ none) ∙ nobody-more run.count other.count
      ∙ ap₂ (λ a b. side_by_side run.count a ++ side_by_side other.count b) (sym none)
      (sym others);
}

-- an operation's sectors go on as one run where they come next
pub writer-joins : (run other joined : Run) (first writer : Writer) → run.writer ≡ Some first
    → other.writer ≡ Some writer → writer ≡ writer_from first run.count
    → joined.count ≡ run.count + other.count → joined.writer ≡ run.writer → Joins run other joined
writer-joins run other joined first writer is others goes_on all from = record {
  count = all;
  sectors = ap₂ side_by_side all (from ∙ is) ∙ writer-more run.count other.count first
      ∙ ap₂ (λ a b. side_by_side run.count a ++ side_by_side other.count b) (sym is)
      (ap Some (sym goes_on) ∙ sym others);
}

-- the sectors of some runs and then of others
spelled-append : (runs others : List Run)
    → spelled_writers (runs ++ others) ≡ spelled_writers runs ++ spelled_writers others
spelled-append [] others = search rules
spelled-append (run ∷ runs) others =
    ap (λ row. side_by_side run.count run.writer ++ row) (spelled-append runs others)
    ∙ sym (append_assoc (side_by_side run.count run.writer) (spelled_writers runs)
    (spelled_writers others))

-- a run behind others has its sectors behind theirs
pub spelled-push : (runs : List Run) (run : Run)
    → spelled_writers (runs ++ run ∷ []) ≡ spelled_writers runs ++ side_by_side run.count run.writer
spelled-push runs run = spelled-append runs (run ∷ [])
    ∙ ap (λ row. spelled_writers runs ++ row) (append-nil (side_by_side run.count run.writer))

-- a run that joins two has their sectors behind those of the others
pub spelled-joined : (runs : List Run) (last run joined : Run) → Joins last run joined
    → spelled_writers (runs ++ joined ∷ [])
    ≡ spelled_writers (runs ++ last ∷ []) ++ side_by_side run.count run.writer
spelled-joined runs last run joined joins = spelled-push runs joined
    ∙ ap (λ row. spelled_writers runs ++ row) joins.sectors
    ∙ sym (append_assoc (spelled_writers runs) (side_by_side last.count last.writer)
    (side_by_side run.count run.writer))
    ∙ ap (λ row. row ++ side_by_side run.count run.writer) (sym (spelled-push runs last))

-- two runs behind others have their sectors behind theirs
pub spelled-both : (runs more whole : List Run) (last run : Run) → more ≡ runs ++ last ∷ []
    → whole ≡ more ++ run ∷ []
    → spelled_writers whole ≡ spelled_writers (runs ++ last ∷ [])
    ++ side_by_side run.count run.writer
spelled-both runs more whole last run is all = ap spelled_writers all ∙ spelled-push more run
    ∙ ap (λ front. spelled_writers front ++ side_by_side run.count run.writer) is

-- where nobody's sectors are put before others, they are cleared and then the others are put
pub put-cleared : (count : ℕ) (grid : Grid) (number first : ℕ) (rest : List (Option Writer))
    → with_writers_from grid number first (side_by_side count None ++ rest)
    ≡ with_writers_from (cleared grid number first count) number (first + count) rest
put-cleared zero grid number first rest =
    ap (λ sector. with_writers_from grid number sector rest) (omega arith)
put-cleared (suc more) grid number first rest =
    put-cleared more (set grid number first None) number (first + 1) rest
    ∙ ap (λ sector. with_writers_from
    (cleared (set grid number first None) number (first + 1) more) number
    sector rest) (omega arith)

-- where an operation's are put before others, they are spread and then the others are put
pub put-spread : (count : ℕ) (grid : Grid) (number first : ℕ) (writer : Writer)
    (rest : List (Option Writer))
    → with_writers_from grid number first (side_by_side count (Some writer) ++ rest)
    ≡ with_writers_from (spread grid number first count writer) number (first + count) rest
put-spread zero grid number first writer rest =
    ap (λ sector. with_writers_from grid number sector rest) (omega arith)
put-spread (suc more) grid number first writer rest =
    put-spread more (set grid number first (Some writer)) number (first + 1) (next writer) rest
    ∙ ap (λ sector. with_writers_from
    (spread (set grid number first (Some writer)) number (first + 1) more
    (next writer)) number sector rest) (omega arith)
