-- Which operation is the newest at each of some sectors, run by run.
use Rattle.lab_model.proofs.Common.{◌≡◌, ◌∙◌, ℕ, suc, zero, ◌+◌, List, [], ◌∷◌, ◌++◌, Option, None, Some}
use Rattle.lab_model.proofs.Common.{Bool, true, false, refl, sym, ap, ap₂, arith, append_assoc, length}
use Rattle.lab_model.proofs.Common.{if◌then◌else◌, add-zero, option_map}
use Rattle.lab_next.specs.declared.writer.Writer.{Writer}
use Rattle.lab_watch.specs.declared.row.Run.{Run}
use Rattle.lab_watch.specs.Grids.{Grid, next, side_by_side, spelled_writers, writer_from}
use Rattle.lab_watch.specs.Grids.{writers_in}
use Rattle.lab_watch.proofs.Rows.{length-part, length-spelled, part-append}
use Rattle.lab_findings.specs.Deeds.{Deeds, deed_of}
use Rattle.lab_findings.specs.Settled.{all_newer, issued_after, newer, newer_if}

-- none and so many are so many
none-more : (more : ℕ) → 0 + more ≡ more
none-more more = omega arith

-- one more in front is one more in all
one-more : (count more : ℕ) → suc count + more ≡ suc (count + more)
one-more count more = omega arith

-- the sector of a claim that comes so far behind
abbrev pub further : ℕ → Option Writer → Option Writer
further count claim = option_map (λ writer. writer_from writer count) claim

-- the sector behind the next one comes one further behind
further-next : (more : ℕ) (writer : Writer)
    → further more (Some (next writer)) ≡ further (suc more) (Some writer)
further-next more writer =
    ap (λ n. Some (record { origin = writer.origin; sector = n })) (behind writer.sector more) where
      behind : (n more : ℕ) → n + 1 + more ≡ n + suc more
      behind n more = omega arith

-- no sector further is the sector itself
further-none : (claim : Option Writer) → claim ≡ further 0 claim
further-none None = refl
further-none (Some writer) =
    ap (λ n. Some (record { origin = writer.origin; sector = n })) (sym (add-zero writer.sector))

-- of two sectors the one that is chosen goes on as they do
next-chosen : (b : Bool) (one other : Writer)
    → (if b then next one else next other) ≡ next (if b then one else other)
next-chosen true one other = refl
next-chosen false one other = refl

module _ (deeds : Deeds) (number : ℕ) where
  -- the newest at the next sector is the next sector of the newest
  newer-next : (writer other : Writer)
      → newer deeds number (next writer) (Some (next other))
      ≡ next (newer deeds number writer (Some other))
  newer-next writer other =
      next-chosen (issued_after number (deed_of deeds other.origin)) other writer

  -- where both a claim and what stood there go on, so does the newest
  newer-run : (count more : ℕ) (claim other : Option Writer) (rest : List (Option Writer))
      → all_newer deeds number (side_by_side (count + more) claim) (side_by_side count other ++ rest)
      ≡ side_by_side count (newer_if deeds number claim other)
      ++ all_newer deeds number (side_by_side more (further count claim)) rest
  newer-run zero more claim other rest =
      ap₂ (λ n one. all_newer deeds number (side_by_side n one) rest) (none-more more)
      (further-none claim)
  newer-run (suc count) more None None rest = rw (one-more count more)
      (ap (λ others. None ∷ others) (newer-run count more None None rest))
  newer-run (suc count) more None (Some other) rest = rw (one-more count more)
      (ap (λ others. Some other ∷ others) (newer-run count more None (Some (next other)) rest))
  newer-run (suc count) more (Some writer) None rest = rw (one-more count more)
      (ap (λ others. Some writer ∷ others) (newer-run count more (Some (next writer)) None rest
      ∙ ap (λ one. side_by_side count (Some (next writer))
      ++ all_newer deeds number (side_by_side more one) rest) (further-next count writer)))
  newer-run (suc count) more (Some writer) (Some other) rest = rw (one-more count more)
      (ap (λ others. Some (newer deeds number writer (Some other)) ∷ others)
      (newer-run count more (Some (next writer)) (Some (next other)) rest
      ∙ ap₂ (λ one behind. side_by_side count (Some one)
      ++ all_newer deeds number (side_by_side more behind) rest)
      (newer-next writer other) (further-next count writer)))

  -- with those of a run of what stood there, and of the runs that are left, the same whole is made
  pub run-newer : (claim : Option Writer) (run : Run) (runs : List Run)
      (before after whole : List (Option Writer))
      → after ≡ before ++ side_by_side run.count (newer_if deeds number claim run.writer)
      → before ++ all_newer deeds number
      (side_by_side (length (spelled_writers (run ∷ runs))) claim) (spelled_writers (run ∷ runs))
      ≡ whole
      → after ++ all_newer deeds number
      (side_by_side (length (spelled_writers runs)) (further run.count claim))
      (spelled_writers runs) ≡ whole
  run-newer claim run runs before after whole one-is so_far =
      let left = length (spelled_writers runs) in
      let rest = all_newer deeds number (side_by_side left (further run.count claim))
      (spelled_writers runs) in
      let here = side_by_side run.count (newer_if deeds number claim run.writer) in
      ap (λ row. row ++ rest) one-is ∙ append_assoc before here rest
      ∙ ap (λ row. before ++ row)
      (sym (newer-run run.count left claim run.writer (spelled_writers runs))
      ∙ ap (λ n. all_newer deeds number (side_by_side n claim) (spelled_writers (run ∷ runs)))
      (sym (length-spelled run runs)))
      ∙ so_far

  -- the newest at sectors and at those behind them, where claims and what stood there are as many
  newer-append : (claims more others behind : List (Option Writer)) → length claims ≡ length others
      → all_newer deeds number (claims ++ more) (others ++ behind)
      ≡ all_newer deeds number claims others ++ all_newer deeds number more behind
  newer-append [] more [] behind same = refl
  newer-append [] more (other ∷ others) behind same = grind arith
  newer-append (claim ∷ claims) more [] behind same = grind arith
  newer-append (claim ∷ claims) more (other ∷ others) behind same =
      ap (λ rest. newer_if deeds number claim other ∷ rest)
      (newer-append claims more others behind (omega arith))

-- so many sectors side by side are so many
pub length-side : (count : ℕ) (writer : Option Writer) → length (side_by_side count writer) ≡ count
length-side zero writer = refl
length-side (suc more) None = ap suc (length-side more None)
length-side (suc more) (Some writer) = ap suc (length-side more (Some (next writer)))

module _ (deeds : Deeds) (number : ℕ) (newest : Grid) (device : ℕ) where
  -- the newest where claims stand side by side, and where others stand behind them
  claims-append : (first count : ℕ) (claim : Option Writer) (rest : List (Option Writer))
      → all_newer deeds number (side_by_side count claim ++ rest)
      (writers_in newest device first (count + length rest))
      ≡ all_newer deeds number (side_by_side count claim) (writers_in newest device first count)
      ++ all_newer deeds number rest (writers_in newest device (first + count) (length rest))
  claims-append first count claim rest =
      ap (λ others. all_newer deeds number (side_by_side count claim ++ rest) others)
      (part-append newest device first count (length rest))
      ∙ newer-append deeds number (side_by_side count claim) rest
      (writers_in newest device first count)
      (writers_in newest device (first + count) (length rest))
      (length-side count claim ∙ sym (length-part newest device first count))

  -- with those of a run of claims, and of the runs that are left, the same whole is made
  pub claims-newer : (first : ℕ) (run : Run) (runs : List Run)
      (others before after whole : List (Option Writer))
      → others ≡ writers_in newest device first run.count
      → after ≡ before ++ all_newer deeds number (side_by_side (length others) run.writer) others
      → before ++ all_newer deeds number (spelled_writers (run ∷ runs))
      (writers_in newest device first (length (spelled_writers (run ∷ runs)))) ≡ whole
      → after ++ all_newer deeds number (spelled_writers runs)
      (writers_in newest device (first + run.count) (length (spelled_writers runs))) ≡ whole
  claims-newer first run runs others before after whole others-are one-is so_far =
      let stood = writers_in newest device first run.count in
      let here = all_newer deeds number (side_by_side run.count run.writer) stood in
      let rest = all_newer deeds number (spelled_writers runs)
      (writers_in newest device (first + run.count) (length (spelled_writers runs))) in
      ap (λ row. row ++ rest) (one-is
      ∙ ap (λ row. before ++ all_newer deeds number (side_by_side (length row) run.writer) row)
      others-are
      ∙ ap (λ n. before ++ all_newer deeds number (side_by_side n run.writer) stood)
      (length-part newest device first run.count))
      ∙ append_assoc before here rest
      ∙ ap (λ row. before ++ row)
      (sym (claims-append first run.count run.writer (spelled_writers runs))
      ∙ ap (λ n. all_newer deeds number (spelled_writers (run ∷ runs))
      (writers_in newest device first n))
      (sym (length-spelled run runs)))
      ∙ so_far
