-- What a flush takes on each mapped device, by what it takes on those below (this project's own).
use Rattle.std.specs.Prelude.{◌≡◌, ℕ, ◌+◌, List, Some, map, sum, slice_get, unwrap_or}
use Rattle.lab_sector.specs.declared.device.DevNo.{DevNo}
use Rattle.lab_sector.specs.declared.device.DevNo.TheVariants.{Ram, Dm}
use Rattle.lab_sector.specs.declared.request.Kind.{Kind}
use Rattle.lab_sector.specs.declared.request.Kind.TheVariants.{Flush}
use Rattle.lab_sector.specs.declared.span.Span.{Span}
use Rattle.lab_target.specs.Meaning.{Meaning}
use Rattle.lab_model.specs.declared.table_line.TableLine.{TableLine}
use Rattle.lab_model.specs.Cost.{cost_within, greatest, piece_by, table_cost, table_visits, visits_by, visits_within}
use Rattle.lab_model.specs.Pieces.{empty_piece}
use Rattle.lab_model.specs.Scenario.{Scenario}
use Rattle.lab_model.specs.Tables.{Table}
use Rattle.lab_budget.specs.declared.cost.OpCost.{OpCost}
use Rattle.lab_budget.specs.Capped.{capped}

-- what a row says of a device: 1 on a disk, and 2 on a mapped device that isn't in it
abbrev pub entry_of : List OpCost → DevNo → OpCost
entry_of row (Ram number) = record { cost = 1; visited = 0 }
entry_of row (Dm number) = unwrap_or (slice_get row number) (record { cost = 2; visited = 0 })

-- the costs that a row says
abbrev pub costs_of : List OpCost → DevNo → Kind → Span → ℕ
costs_of row device kind span = (entry_of row device).cost

-- the visited pieces that a row says
abbrev pub visits_of : List OpCost → DevNo → Kind → Span → ℕ
visits_of row device kind span = (entry_of row device).visited

-- a flush has no sectors
abbrev pub no_sectors : Span
no_sectors = record { first = 0; len = 0 }

-- a flush at one line
abbrev pub line_flush : {S : Type 0} → Meaning S → List OpCost → TableLine S → OpCost
line_flush m row line = record {
  cost = capped (piece_by m (costs_of row) Flush (empty_piece 0) (Some line));
  visited = capped (visits_by m (visits_of row) Flush (empty_piece 0) (Some line));
}

-- a flush on one table
abbrev pub table_flush : {S : Type 0} → Meaning S → List OpCost → Table S → OpCost
table_flush m row table = record {
  cost = capped (table_cost m (costs_of row) Flush no_sectors table);
  visited = capped (table_visits m (visits_of row) Flush no_sectors table);
}

-- a flush on a device of these versions
abbrev pub device_flush : {S : Type 0} → Meaning S → List OpCost → List (Table S) → OpCost
device_flush m row versions = record {
  cost = capped (2 + greatest (map (table_cost m (costs_of row) Flush no_sectors) versions));
  visited = capped (sum (map (table_visits m (visits_of row) Flush no_sectors) versions));
}

-- a flush on each mapped device
abbrev pub next_row : {S : Type 0} → Meaning S → List OpCost → List (List (Table S)) → List OpCost
next_row m row versions = map (device_flush m row) versions

-- a row says what a flush takes on each device with at most so many mapped devices below it
pub record IsFlushRow {S : Type 0} (m : Meaning S) (c : Scenario S) (depth : ℕ) (row : List OpCost)
    : Type 0 where
  pub cost : (device : DevNo) (span : Span)
      → (entry_of row device).cost ≡ capped (cost_within m c depth device Flush span)
  pub visited : (device : DevNo) (span : Span)
      → (entry_of row device).visited ≡ capped (visits_within m c depth device Flush span)
