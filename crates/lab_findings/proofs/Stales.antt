-- Which sectors of a read are stale, run by run of its claims and of what it was answered.
use Rattle.lab_model.proofs.Common.{◌≡◌, ◌∙◌, ℕ, suc, zero, ◌+◌, ◌-◌, ◌<◌, ◌≤◌, List, [], ◌∷◌, ◌++◌}
use Rattle.lab_model.proofs.Common.{Option, None, Some, false, refl, sym, ap, arith, append_assoc, length, length-append}
use Rattle.std.specs.Prelude.{replicate}
use Rattle.lab_next.specs.declared.writer.Writer.{Writer}
use Rattle.lab_watch.specs.Grids.{Grid, next, side_by_side, spelled_writers, writer_at, writers_in}
use Rattle.lab_watch.specs.declared.row.Run.{Run}
use Rattle.lab_watch.proofs.Runs.{nobody-more, writer-more}
use Rattle.lab_findings.specs.declared.deed.Deed.{Deed}
use Rattle.lab_findings.specs.Deeds.{Deeds, deed_of}
use Rattle.lab_findings.specs.Judged.{is_older_than, is_stale, stale_hits, stale_pairs}
use Rattle.lab_findings.specs.declared.found.Wrong.{Wrong}
use Rattle.lab_findings.specs.Wrongs.{joined, wrong_from}
use Rattle.lab_findings.proofs.Newest.{further, length-side}
use Rattle.lab_findings.proofs.Wrongs.{joined-none}

module _ (deeds : Deeds) where
  -- the next sector of an operation is older where this one is
  older-next : (claim : Option Deed) (writer : Writer)
      → is_older_than deeds (Some (next writer)) claim ≡ is_older_than deeds (Some writer) claim
  older-next None writer = refl
  older-next (Some claim) writer = refl

  -- where both a claim and what was answered go on, all sectors are stale, or none
  pub pairs-run : (count : ℕ) (claim got : Option Writer) (claims answers : List (Option Writer))
      → stale_pairs deeds (side_by_side count claim ++ claims) (side_by_side count got ++ answers)
      ≡ replicate count (is_stale deeds claim got) ++ stale_pairs deeds claims answers
  pairs-run zero claim got claims answers = refl
  pairs-run (suc more) None None claims answers =
      ap (λ others. false ∷ others) (pairs-run more None None claims answers)
  pairs-run (suc more) None (Some writer) claims answers =
      ap (λ others. false ∷ others) (pairs-run more None (Some (next writer)) claims answers)
  pairs-run (suc more) (Some claim) None claims answers =
      ap (λ others. is_stale deeds (Some claim) None ∷ others)
      (pairs-run more (Some (next claim)) None claims answers)
  pairs-run (suc more) (Some claim) (Some writer) claims answers =
      ap (λ others. is_stale deeds (Some claim) (Some writer) ∷ others)
      (pairs-run more (Some (next claim)) (Some (next writer)) claims answers
      ∙ ap (λ hit. replicate more hit ++ stale_pairs deeds claims answers)
      (older-next (deed_of deeds claim.origin) writer))

  -- with the parts of two grids it is known which sectors are stale
  pub pairs-part : (claims reads : Grid) (number place count : ℕ)
      → stale_pairs deeds (writers_in claims number place count) (writers_in reads number place count)
      ≡ stale_hits deeds reads number place (writers_in claims number place count)
  pairs-part claims reads number place zero = refl
  pairs-part claims reads number place (suc more) =
      ap (λ others. is_stale deeds (writer_at claims number place) (writer_at reads number place)
      ∷ others) (pairs-part claims reads number (place + 1) more)

  -- where no sector is left none is stale
  none-answered : (claims : List (Option Writer)) → [] ≡ stale_pairs deeds claims []
  none-answered [] = refl
  none-answered (claim ∷ claims) = refl

  -- once no claim is left, those found are all
  pub claims-done : (place : ℕ) (wrong whole : Option Wrong) (claims answers : List (Option Writer))
      → claims ≡ [] → joined wrong (wrong_from place (stale_pairs deeds claims answers)) ≡ whole
      → wrong ≡ whole
  claims-done place wrong whole claims answers none so_far = joined-none wrong
      ∙ ap (λ left. joined wrong (wrong_from place (stale_pairs deeds left answers))) (sym none)
      ∙ so_far

  -- and once no answer is left
  pub answers-done : (place : ℕ) (wrong whole : Option Wrong) (claims answers : List (Option Writer))
      → answers ≡ [] → joined wrong (wrong_from place (stale_pairs deeds claims answers)) ≡ whole
      → wrong ≡ whole
  answers-done place wrong whole claims answers none so_far = joined-none wrong
      ∙ ap (λ hits. joined wrong (wrong_from place hits))
      (none-answered claims ∙ ap (stale_pairs deeds claims) (sym none))
      ∙ so_far

-- behind a run that has a sector fewer are left
pub left-fewer : (count : ℕ) (writer : Option Writer) (all behind : List (Option Writer)) → 0 < count
    → all ≡ side_by_side count writer ++ behind → length behind < length all
left-fewer count writer all behind some is =
    omega (
      arith,
      ap length is,
      length-append (side_by_side count writer) behind,
      length-side count writer,
    )

-- a run is its first sectors and those behind them
side-more : (count more : ℕ) (writer : Option Writer) → side_by_side (count + more) writer
    ≡ side_by_side count writer ++ side_by_side more (further count writer)
side-more count more None = nobody-more count more
side-more count more (Some writer) = writer-more count more writer

-- so are a run and those behind it
pub run-past : (run left : Run) (rest : List Run) (count : ℕ) → count ≤ run.count
    → left.count ≡ run.count - count → left.writer ≡ further count run.writer
    → spelled_writers (run ∷ rest)
    ≡ side_by_side count run.writer ++ spelled_writers (left ∷ rest)
run-past run left rest count within left-is from =
    let all : run.count ≡ count + left.count = omega arith in
    ap (λ n. side_by_side n run.writer ++ spelled_writers rest) all
    ∙ ap (λ row. row ++ spelled_writers rest) (side-more count left.count run.writer)
    ∙ append_assoc (side_by_side count run.writer)
    (side_by_side left.count (further count run.writer)) (spelled_writers rest)
    ∙ ap (λ writer. side_by_side count run.writer
    ++ (side_by_side left.count writer ++ spelled_writers rest)) (sym from)
