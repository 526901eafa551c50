-- What an operation can take at most: events and visited pieces, over all tables that are ever
-- loaded
-- (this project's own). Numbers are true whole numbers.
use Rattle.std.specs.Prelude.{ℕ, suc, zero, ◌+◌, max, List, [], ◌∷◌, Option, Some, None, slice_get, length, filter, map, sum, if◌then◌else◌}
use Rattle.std.specs.Option.{option_map_or}
use Rattle.lab_sector.specs.declared.device.DevNo.{DevNo}
use Rattle.lab_sector.specs.declared.device.DevNo.TheVariants.{Ram, Dm}
use Rattle.lab_sector.specs.declared.request.Kind.{Kind}
use Rattle.lab_sector.specs.declared.span.Span.{Span}
use Rattle.lab_target.specs.declared.verdict.Ref.{Ref}
use Rattle.lab_target.specs.Laws.{shifted}
use Rattle.lab_target.specs.Meaning.{Meaning}
use Rattle.lab_model.specs.declared.entry.Entry.{Entry}
use Rattle.lab_model.specs.declared.entry.Entry.TheVariants.{Operate}
use Rattle.lab_model.specs.declared.piece.Piece.{Piece}
use Rattle.lab_model.specs.declared.table_line.TableLine.{TableLine}
use Rattle.lab_model.specs.LogEffect.{kind_of}
use Rattle.lab_model.specs.MapEffect.{fits_table}
use Rattle.lab_model.specs.Pieces.{pieces}
use Rattle.lab_model.specs.Scenario.{Scenario, versions_of}
use Rattle.lab_model.specs.declared.plan.LogLine.{LogLine}
use Rattle.lab_model.specs.Tables.{Table, placed}

-- the greatest of some numbers; 0 of none
abbrev pub greatest : List ℕ → ℕ
greatest [] = 0
greatest (n ∷ more) = max n (greatest more)

-- what a piece costs behind a reference: its hold and what it costs there
abbrev pub beyond : (DevNo → Kind → Span → ℕ) → Kind → ℕ → Span → Option Ref → ℕ
beyond costs kind hold span to =
    option_map_or (λ ref. hold + costs ref.dev kind (shifted ref.first span)) to 0

-- the cost of a piece by its line, one more where it may be held
abbrev pub piece_by : {S : Type 0} → Meaning S → (DevNo → Kind → Span → ℕ) → Kind → Piece
    → Option (TableLine S) → ℕ
piece_by m costs kind piece None = 0
piece_by m costs kind piece (Some line) =
    beyond costs kind (if (m.shape line.target).may_hold kind then 1 else 0)
    (placed kind line piece.span) ((m.shape line.target).reference kind)

-- the cost of an operation on one table: of all its pieces
abbrev pub table_cost : {S : Type 0} → Meaning S → (DevNo → Kind → Span → ℕ) → Kind → Span
    → Table S → ℕ
table_cost m costs kind span table =
    sum (map (λ piece. piece_by m costs kind piece (slice_get table piece.line))
    (pieces m table kind span))

-- the cost on a device with at most so many mapped devices below it: 1 on a disk, else 2 and
-- the greatest over
-- the versions that have the sectors
abbrev pub cost_within : {S : Type 0} → Meaning S → Scenario S → ℕ → DevNo → Kind → Span → ℕ
cost_within m c depth (Ram number) kind span = 1
cost_within m c zero (Dm device) kind span = 2
cost_within m c (suc depth) (Dm device) kind span =
    2 + greatest (map (table_cost m (cost_within m c depth) kind span)
    (filter (λ table. fits_table table kind span) (versions_of c.versions device)))

-- the cost of an operation: no more devices lie below one another than there are
abbrev pub cost : {S : Type 0} → Meaning S → Scenario S → DevNo → Kind → Span → ℕ
cost m c device kind span = cost_within m c (length c.versions) device kind span

-- the visited pieces of an operation: of each such version all pieces, and those that are
-- visited below them
abbrev pub visits_by : {S : Type 0} → Meaning S → (DevNo → Kind → Span → ℕ) → Kind → Piece
    → Option (TableLine S) → ℕ
visits_by m visits kind piece None = 1
visits_by m visits kind piece (Some line) =
    1 + beyond visits kind 0 (placed kind line piece.span) ((m.shape line.target).reference kind)

-- the visited pieces of an operation on one table
abbrev pub table_visits : {S : Type 0} → Meaning S → (DevNo → Kind → Span → ℕ) → Kind → Span
    → Table S → ℕ
table_visits m visits kind span table =
    sum (map (λ piece. visits_by m visits kind piece (slice_get table piece.line))
    (pieces m table kind span))

-- the visited pieces on a device with at most so many mapped devices below it; none on a disk
abbrev pub visits_within : {S : Type 0} → Meaning S → Scenario S → ℕ → DevNo → Kind → Span → ℕ
visits_within m c depth (Ram number) kind span = 0
visits_within m c zero (Dm device) kind span = 0
visits_within m c (suc depth) (Dm device) kind span =
    sum (map (table_visits m (visits_within m c depth) kind span)
    (filter (λ table. fits_table table kind span) (versions_of c.versions device)))

-- the visited pieces of an operation
abbrev pub visits : {S : Type 0} → Meaning S → Scenario S → DevNo → Kind → Span → ℕ
visits m c device kind span = visits_within m c (length c.versions) device kind span

-- what f says of a log line's operation; 0 where it has none
abbrev pub of_operation : (DevNo → Kind → Span → ℕ) → Option DevNo → Entry → ℕ
of_operation f (Some device) (Operate action span) = f device (kind_of action) span
of_operation f _ _ = 0

-- a log line takes its own event, and what its operation costs
abbrev pub line_cost : {S : Type 0} → Meaning S → Scenario S → LogLine → ℕ
line_cost m c line = 1 + of_operation (cost m c) line.device line.entry

-- the budget: the log lines, and one for each micro-command
abbrev pub budget : {S : Type 0} → Meaning S → Scenario S → ℕ
budget m c = sum (map (λ plan. sum (map (line_cost m c) plan.lines)) c.logs) + length c.micros

-- the visited pieces of all log operations
abbrev pub all_visits : {S : Type 0} → Meaning S → Scenario S → ℕ
all_visits m c = sum (map (λ plan. sum (map
    (λ line. of_operation (visits m c) line.device line.entry) plan.lines)) c.logs)
