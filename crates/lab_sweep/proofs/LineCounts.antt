-- One finding more at an operation, as a map that is kept by both takes it.
use Rattle.lab_model.proofs.Common.{◌≡◌, ◌∙◌, ◌&&◌, ℕ, List, ap, eqb, lookup, refl}
use Rattle.indexmap.specs.IndexMap.{insert_entry}
use Rattle.lab_findings.specs.contracts.finding.FindingPartialEq.TheImpl.{eq-value as sorts}
use Rattle.lab_findings.specs.declared.finding.Finding.{Finding}
use Rattle.lab_findings.specs.declared.finding.Finding.TheVariants.{Eio, Lost, Corrupt, Stale}
use Rattle.lab_findings.specs.declared.finding.Finding.TheVariants.{Misplaced, BrokenSync}
use Rattle.lab_sweep.specs.contracts.line_counts.FoundAtPartialEq.TheImpl.{eq-value as places}
use Rattle.lab_sweep.specs.ByLine.{same_finding, same_found_at}
use Rattle.lab_sweep.specs.Tally.{count_after, counted_seed}
use Rattle.lab_sweep.specs.declared.line_counts.FoundAt.{FoundAt}
use Rattle.lab_sweep.specs.declared.tally.SeedCount.{SeedCount}
use Rattle.lab_sweep.proofs.Counting.{counted-in, counted-same}

-- findings compare by their sorts
pub sorts-same : (a b : Finding) → sorts.it a b ≡ same_finding a b
sorts-same Eio Eio = refl
sorts-same Lost Lost = refl
sorts-same Corrupt Corrupt = refl
sorts-same Stale Stale = refl
sorts-same Misplaced Misplaced = refl
sorts-same BrokenSync BrokenSync = refl
sorts-same _ _ = refl

-- the keys compare by sort and operation
pub places-same : (a b : FoundAt) → places.it a b ≡ same_found_at a b
places-same a b =
    ap (λ same. same && (eqb a.log b.log && eqb a.line b.line)) (sorts-same a.finding b.finding)

-- the count that is found for a finding at an operation gives the count that is put in its place
pub counted-at : (entries : List (FoundAt × SeedCount)) (at : FoundAt) (seed : ℕ)
    → insert_entry places.it entries at (count_after (lookup (places.it at) entries) seed)
    ≡ counted_seed same_found_at entries at seed
counted-at entries at seed = counted-in places.it entries at seed
    ∙ counted-same places.it same_found_at places-same entries at seed
