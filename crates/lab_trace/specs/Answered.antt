-- What a trace tells of an operation's answer: whether a write or a trim is lost, and who wrote what
-- a read is answered (this project's own).
use Rattle.std.specs.Prelude.{ℕ, ◌+◌, ◌==◌, ◌&&◌, Bool, true, false, List, [], ◌∷◌, ◌++◌}
use Rattle.std.specs.Prelude.{Option, Some, None, codes, decimal, if◌then◌else◌, option_map}
use Rattle.lab_sector.specs.declared.request.Kind.{Kind}
use Rattle.lab_sector.specs.declared.request.Kind.TheVariants.{Read, Write, Trim}
use Rattle.lab_next.specs.declared.origin.Origin.{Origin}
use Rattle.lab_next.specs.declared.writer.Writer.{Writer}
use Rattle.lab_core.specs.Columns.{or_dash, origin_text}
use Rattle.lab_watch.specs.Grids.{has_written}

-- ` lost`, where it is so
abbrev pub lost_if : Bool → List ℕ
lost_if lost = if lost then codes " lost" else []

-- ` lost` behind the answer to a write or a trim of which a line dropped some sector
abbrev pub lost_text : Option Kind → List (Option Writer) → List ℕ
lost_text (Some Write) told = lost_if (has_written told)
lost_text (Some Trim) told = lost_if (has_written told)
lost_text _ told = []

-- the operation that wrote a sector
abbrev pub wrote : Option Writer → Option Origin
wrote writer = option_map (λ w. w.origin) writer

-- whether two sectors come from the same operation, or both from none
abbrev pub same_origin : Option Origin → Option Origin → Bool
same_origin None None = true
same_origin (Some a) (Some b) = (a.log == b.log) && (a.line == b.line)
same_origin _ _ = false

-- `LOG.LINE`, and `-` where nobody wrote
abbrev pub origin_or_dash : Option Origin → List ℕ
origin_or_dash origin = or_dash origin_text origin

-- `COUNTxLOG.LINE`: so many sectors from one origin
abbrev pub origin_run_text : ℕ → Option Origin → List ℕ
origin_run_text count origin = decimal count ++ 120 ∷ origin_or_dash origin

-- a run of so many sectors from one origin goes on with the next sector where that has the same
-- origin; else a comma and a new run follow
abbrev pub origin_runs_text : ℕ → Option Origin → List (Option Writer) → List ℕ
origin_runs_text count origin [] = origin_run_text count origin
origin_runs_text count origin (next ∷ more) =
    if same_origin origin (wrote next) then origin_runs_text (count + 1) origin more
    else origin_run_text count origin ++ 44 ∷ origin_runs_text 1 (wrote next) more

-- the runs of sectors by origin, in order; `-` where there is no sector
abbrev pub origins_text : List (Option Writer) → List ℕ
origins_text [] = codes "-"
origins_text (writer ∷ more) = origin_runs_text 1 (wrote writer) more

-- who wrote what a read is answered; `-` where no read is
abbrev pub writers_text : Option Kind → List (Option Writer) → List ℕ
writers_text (Some Read) told = origins_text told
writers_text _ told = codes "-"

-- behind what happened: whether a write or a trim is lost, and the column of who wrote what is read
abbrev pub answer_columns : Option Kind → List (Option Writer) → List ℕ
answer_columns kind told = lost_text kind told ++ 9 ∷ writers_text kind told
