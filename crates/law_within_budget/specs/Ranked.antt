-- Ranks of devices, as a proof that none lies below itself (this project's own).
use Rattle.std.specs.Prelude.{◌≡◌, ℕ, ◌<◌, ◌≤◌, Some, length, slice_get}
use Rattle.lab_sector.specs.declared.device.DevNo.{DevNo}
use Rattle.lab_sector.specs.declared.device.DevNo.TheVariants.{Dm}
use Rattle.lab_sector.specs.declared.request.Kind.{Kind}
use Rattle.lab_target.specs.declared.verdict.Ref.{Ref}
use Rattle.lab_target.specs.Meaning.{Meaning}
use Rattle.lab_model.specs.declared.table_line.TableLine.{TableLine}
use Rattle.lab_model.specs.Scenario.{Scenario, version_of}
use Rattle.lab_model.specs.Tables.{Table}

-- over all versions each device has a rank above those of all that its lines refer to, and no
-- mapped device's is above the number of devices
pub record Ranked {S : Type 0} (m : Meaning S) (c : Scenario S) : Type 0 where
  pub rank : DevNo → ℕ
  pub bounded : (device : ℕ) → rank (Dm device) ≤ length c.versions
  pub falls : (device version : ℕ) (table : Table S) (number : ℕ) (line : TableLine S)
      (kind : Kind) (ref : Ref)
      → version_of c device version ≡ Some table → slice_get table number ≡ Some line
      → (m.shape line.target).reference kind ≡ Some ref → rank ref.dev < rank (Dm device)
