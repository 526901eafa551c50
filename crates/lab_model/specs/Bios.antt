-- Bios: requests on their way (the block layer's word; the stages are this project's own).
use Rattle.std.specs.Prelude.{ℕ, Bool, false}
use Rattle.lab_sector.specs.declared.device.DevNo.{DevNo}
use Rattle.lab_sector.specs.declared.request.Kind.{Kind}
use Rattle.lab_sector.specs.declared.span.Span.{Span}
use Rattle.lab_target.specs.declared.verdict.Marks.{Marks}
use Rattle.lab_model.specs.declared.parent.Parent.{Parent}
use Rattle.lab_model.specs.Sectors.{Sectors}

-- how far a bio has come
pub data Stage : Type 0 where
  -- its device is to take it
  Entering : Stage
  -- it waits for this moment, held by this device
  Held : ℕ → ℕ → Stage
  -- its pieces are under way: whether one has failed, and of a read the sectors answered so far
  InFlight : Bool → Sectors → Stage

-- whether a piece of a bio that has come this far has failed
abbrev pub stage_failed : Stage → Bool
stage_failed (InFlight failed answered) = failed
stage_failed _ = false

-- a request: what it asks of which sectors of which device, for whom, and how far it has come
pub record Bio : Type 0 where
  pub kind : Kind
  pub device : DevNo
  pub span : Span
  pub parent : Parent
  -- the bytes that were changed for it, counted from its first: of a write they are in what it writes,
  -- of a read they change its answer
  pub marks : Marks
  -- the sectors that it writes; a write's
  pub sectors : Sectors
  pub stage : Stage
