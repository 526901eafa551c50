-- What a trace tells of an answer: whether a write is lost, and who wrote what a read is answered.
use Prim.Native.String.{String}
use Rattle.std.specs.Prelude.{◌≡◌, ℕ, List, [], ◌∷◌, ◌++◌, Option, Some, None, codes, refl}
use Rattle.lab_sector.specs.declared.request.Kind.TheVariants.{Read, Write, Trim, Flush}
use Rattle.lab_next.specs.declared.writer.Writer.{Writer}
use Rattle.lab_trace.specs.Answered.{answer_columns}
use Rattle.test_examples.specs.Findings.{sector_of}
unfoldable use Rattle.std.specs.Fmt.{digits}

-- a line dropped the second of two sectors of line 4
abbrev one_dropped : List (Option Writer)
one_dropped = None ∷ Some (sector_of 1 4 1) ∷ []

-- what is told behind the event, and the column of who wrote what is read
abbrev texts : String → String → List ℕ
texts behind writers = codes behind ++ 9 ∷ codes writers

-- such a write is lost
lost_write : answer_columns (Some Write) one_dropped ≡ texts " lost" "-"
lost_write = refl

-- so is such a trim
lost_trim : answer_columns (Some Trim) one_dropped ≡ texts " lost" "-"
lost_trim = refl

-- a write of which nothing was dropped isn't
whole_write : answer_columns (Some Write) (None ∷ None ∷ []) ≡ texts "" "-"
whole_write = refl

-- of a failed operation nothing is told
failed : answer_columns None one_dropped ≡ texts "" "-"
failed = refl

-- nor of a sync
sync : answer_columns (Some Flush) one_dropped ≡ texts "" "-"
sync = refl

-- a read isn't lost: of its second sector line 4 is the writer
half_written : answer_columns (Some Read) one_dropped ≡ texts "" "1x-,1x1.4"
unfolding digits
half_written = refl

-- two sectors of one operation, one each of two lines of another log, the first of them of the same
-- number, and two of nobody's
runs : answer_columns (Some Read) (Some (sector_of 1 4 0) ∷ Some (sector_of 1 4 1)
    ∷ Some (sector_of 2 4 0) ∷ Some (sector_of 2 5 0) ∷ None ∷ None ∷ [])
    ≡ texts "" "2x1.4,1x2.4,1x2.5,2x-"
unfolding digits
runs = refl

-- a run goes on where the sectors are of one operation, whichever they are
any_sectors : answer_columns (Some Read) (Some (sector_of 1 4 3) ∷ Some (sector_of 1 4 0) ∷ [])
    ≡ texts "" "2x1.4"
unfolding digits
any_sectors = refl

-- a read of no sector
empty : answer_columns (Some Read) [] ≡ texts "" "-"
empty = refl
