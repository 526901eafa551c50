-- The runs of sectors by origin, one run of a row after another.
use Rattle.lab_model.proofs.Common.{◌≡◌, ◌∙◌, ℕ, suc, zero, ◌+◌, ◌<◌, true, false, List, []}
use Rattle.lab_model.proofs.Common.{◌∷◌, ◌++◌, Option, None, Some, refl, sym, ap, arith, eq-eqb}
use Rattle.lab_model.proofs.Common.{append_assoc, add-zero, if◌then◌else◌, ◌&&◌, ap₂}
use Rattle.lab_next.specs.declared.origin.Origin.{Origin}
use Rattle.lab_watch.specs.declared.row.Run.{Run}
use Rattle.lab_next.specs.declared.writer.Writer.{Writer}
use Rattle.lab_watch.specs.Grids.{next, side_by_side, spelled_writers}
use Rattle.lab_trace.specs.Answered.{origin_run_text, origin_runs_text, origins_text, same_origin}
use Rattle.lab_trace.specs.Answered.{wrote}

-- an operation is itself
same-itself : (origin : Option Origin) → same_origin origin origin ≡ true
same-itself None = refl
same-itself (Some origin) = ap₂ (λ a b. a && b) (eq-eqb origin.log origin.log refl)
    (eq-eqb origin.line origin.line refl)

-- one more and the others are one more of them
counted : (count more : ℕ) → count + 1 + more ≡ count + suc more
counted count more = omega arith

-- and one and more are one more
one-more : (more : ℕ) → 1 + more ≡ suc more
one-more more = omega arith

-- where a run comes from the same operation, the run before goes on over all of it
run-goes : (more count : ℕ) (origin : Option Origin) (writer : Option Writer)
    (rest : List (Option Writer)) → same_origin origin (wrote writer) ≡ true
    → origin_runs_text count origin (side_by_side more writer ++ rest)
    ≡ origin_runs_text (count + more) origin rest
run-goes zero count origin writer rest same =
    ap (λ n. origin_runs_text n origin rest) (sym (add-zero count))
run-goes (suc more) count origin None rest same =
    ap (λ b. if b then origin_runs_text (count + 1) origin (side_by_side more None ++ rest)
    else origin_run_text count origin ++ 44
    ∷ origin_runs_text 1 None (side_by_side more None ++ rest)) same
    ∙ run-goes more (count + 1) origin None rest same
    ∙ ap (λ n. origin_runs_text n origin rest) (counted count more)
run-goes (suc more) count origin (Some writer) rest same =
    let others = side_by_side more (Some (next writer)) ++ rest in
    ap (λ b. if b then origin_runs_text (count + 1) origin others
    else origin_run_text count origin ++ 44 ∷ origin_runs_text 1 (Some writer.origin) others) same
    ∙ run-goes more (count + 1) origin (Some (next writer)) rest same
    ∙ ap (λ n. origin_runs_text n origin rest) (counted count more)

-- a run of one and more sectors of an operation has all of them
run-begins : (more : ℕ) (writer : Option Writer) (rest : List (Option Writer))
    → origins_text (side_by_side (suc more) writer ++ rest)
    ≡ origin_runs_text (suc more) (wrote writer) rest
run-begins more None rest =
    run-goes more 1 None None rest refl ∙ ap (λ n. origin_runs_text n None rest) (one-more more)
run-begins more (Some writer) rest =
    let origin = Some writer.origin in
    run-goes more 1 origin (Some (next writer)) rest (same-itself origin)
    ∙ ap (λ n. origin_runs_text n origin rest) (one-more more)

-- where it comes from another, the run before ends with a comma, and a new one begins
run-ends : (more count : ℕ) (origin : Option Origin) (writer : Option Writer)
    (rest : List (Option Writer)) → same_origin origin (wrote writer) ≡ false
    → origin_runs_text count origin (side_by_side (suc more) writer ++ rest)
    ≡ origin_run_text count origin ++ 44 ∷ origins_text (side_by_side (suc more) writer ++ rest)
run-ends more count origin None rest other =
    let others = side_by_side more None ++ rest in
    ap (λ b. if b then origin_runs_text (count + 1) origin others
    else origin_run_text count origin ++ 44 ∷ origin_runs_text 1 None others) other
run-ends more count origin (Some writer) rest other =
    let others = side_by_side more (Some (next writer)) ++ rest in
    ap (λ b. if b then origin_runs_text (count + 1) origin others
    else origin_run_text count origin ++ 44 ∷ origin_runs_text 1 (Some writer.origin) others) other

-- the first run of a row, which has a sector, is the first run of the text
pub first-run : (run : Run) (runs : List Run) → 0 < run.count
    → origins_text (spelled_writers (run ∷ runs))
    ≡ origin_runs_text run.count (wrote run.writer) (spelled_writers runs)
first-run run runs some = begins run.count some where
  begins : (count : ℕ) → 0 < count
      → origins_text (side_by_side count run.writer ++ spelled_writers runs)
      ≡ origin_runs_text count (wrote run.writer) (spelled_writers runs)
  begins zero none = elim none [ ]
  begins (suc more) is = run-begins more run.writer (spelled_writers runs)

module _ (text : List ℕ) (count : ℕ) (origin : Option Origin) (run : Run) (runs : List Run) where
  -- where the next run comes from the same operation the run goes on
  pub run-on : same_origin origin (wrote run.writer) ≡ true
      → text ++ origin_runs_text (count + run.count) origin (spelled_writers runs)
      ≡ text ++ origin_runs_text count origin (spelled_writers (run ∷ runs))
  run-on same = ap (λ more. text ++ more)
      (sym (run-goes run.count count origin run.writer (spelled_writers runs) same))

  -- else it ends with a comma, and a new one begins
  pub run-ended : (longer : List ℕ) → same_origin origin (wrote run.writer) ≡ false
      → 0 < run.count → longer ≡ text ++ (origin_run_text count origin ++ 44 ∷ [])
      → longer ++ origin_runs_text run.count (wrote run.writer) (spelled_writers runs)
      ≡ text ++ origin_runs_text count origin (spelled_writers (run ∷ runs))
  run-ended longer other some written =
      let here = origin_runs_text run.count (wrote run.writer) (spelled_writers runs) in
      ap (λ t. t ++ here) written ∙ append_assoc text (origin_run_text count origin ++ 44 ∷ []) here
      ∙ ap (λ t. text ++ t) (append_assoc (origin_run_text count origin) (44 ∷ []) here
      ∙ sym (ends run.count some)) where
        ends : (n : ℕ) → 0 < n
            → origin_runs_text count origin (side_by_side n run.writer ++ spelled_writers runs)
            ≡ origin_run_text count origin ++ 44
            ∷ origin_runs_text n (wrote run.writer) (spelled_writers runs)
        ends zero none = elim none [ ]
        ends (suc more) is = run-ends more count origin run.writer (spelled_writers runs) other
            ∙ ap (λ t. origin_run_text count origin ++ 44 ∷ t)
            (run-begins more run.writer (spelled_writers runs))
