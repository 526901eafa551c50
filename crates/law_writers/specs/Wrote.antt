-- The bytes that the writer of a sector wrote there.
use Rattle.std.specs.Prelude.{◌≡◌, ℕ, List, [], Option, Some, None, replicate, slice_get}
use Rattle.lab_sector.specs.declared.span.Span.{Span}
use Rattle.lab_model.specs.declared.entry.Action.{Action}
use Rattle.lab_model.specs.declared.entry.Action.TheVariants.{Write, Trim}
use Rattle.lab_model.specs.declared.entry.Entry.TheVariants.{Operate}
use Rattle.lab_model.specs.declared.plan.LogLine.{LogLine}
use Rattle.lab_model.specs.Lists.{numbered}
use Rattle.lab_model.specs.LogEffect.{fill_of}
use Rattle.lab_model.specs.Scenario.{LogPlan, Scenario}
use Rattle.lab_model.specs.Sectors.{Sectors, filled}
use Rattle.lab_next.specs.declared.origin.Origin.{Origin}
use Rattle.lab_next.specs.declared.writer.Writer.{Writer}

-- a line of a log asks for an operation
pub record Asks {S : Type 0} (c : Scenario S) (origin : Origin) (action : Action) : Type 0 where
  pub plan : LogPlan
  pub place : ℕ
  pub line : LogLine
  pub span : Span
  pub is_log : numbered c.logs origin.log ≡ Some plan
  pub is_line : slice_get plan.lines place ≡ Some line
  pub is_number : line.number ≡ origin.line
  pub asks : line.entry ≡ Operate action span

-- so many sectors as an operation leaves them, if it changes any: a write leaves the byte of its
-- line, and a trim zero bytes
abbrev pub sectors_left : Action → Origin → ℕ → Sectors
sectors_left Write origin count = filled count (fill_of origin.log origin.line)
sectors_left Trim origin count = filled count 0
sectors_left _ origin count = []

-- a sector's bytes are what this sector of an operation leaves
pub record Left {S : Type 0} (c : Scenario S) (writer : Writer) (bytes : List ℕ) : Type 0 where
  pub action : Action
  pub asks : Asks c writer.origin action
  pub leaves : slice_get (sectors_left action writer.origin asks.span.len) writer.sector
      ≡ Some bytes

-- these are the bytes of a sector with this writer: zero bytes where it has none
abbrev pub WroteBytes : {S : Type 0} → Scenario S → Option Writer → List ℕ → Type 0
WroteBytes c None bytes = bytes ≡ replicate 512 0
WroteBytes c (Some writer) bytes = Left c writer bytes
