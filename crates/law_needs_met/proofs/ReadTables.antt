-- A table as it was read is in its opening state, so each version of a scenario that is well read
-- is.
use Rattle.lab_model.proofs.Common.{◌≡◌, ℕ, suc, [], ◌∷◌, Some, slice_get, refl, Meaning}
use Rattle.lab_model.proofs.Common.{Table, opened}
use Rattle.lab_model.specs.declared.table_line.TableLine.{TableLine}
use Rattle.lab_model.specs.Steps.{AreOpening}
use Rattle.lab_rulebook.specs.Parts.{Parts}
use Rattle.lab_rulebook.specs.Read.{WellRead}
use Rattle.lab_rulebook.specs.Walked.{scenario_of}
use Rattle.lab_rulebook.proofs.ReadVersions.{version-read}

-- a table whose targets are in their opening state is as it opens
opened-table : {S : Type 0} (m : Meaning S) (table : Table S) → ((n : ℕ) (l : TableLine S)
    → slice_get table n ≡ Some l → (m.shape l.target).opening ≡ l.target) → opened m table ≡ table
opened-table m [] opens = refl
opened-table m (l ∷ t) opens = rw (opens 0 l refl, opened-table m t (λ n. opens (suc n))) refl

-- so is each version
pub read-opening : {S : Type 0} (m : Meaning S) (parts : Parts S) → WellRead m parts
    → AreOpening m (scenario_of m parts)
read-opening m parts read device version table is =
    opened-table m table
    (λ n l found. ((version-read m parts read device version table is).lines n l found).1)
