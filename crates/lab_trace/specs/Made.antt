-- The bios that are made for the pieces of a bio, as a trace tells them (this project's own).
use Rattle.std.specs.Prelude.{ℕ, suc, zero, ◌+◌, ◌-◌, ◌==◌, ◌||◌, nat_lt, Bool, false}
use Rattle.std.specs.Prelude.{List, [], ◌++◌, Option, Some, None, length, codes, decimal}
use Rattle.std.specs.Prelude.{if◌then◌else◌}
use Rattle.lab_sector.specs.declared.request.Kind.{Kind}
use Rattle.lab_sector.specs.declared.request.Kind.TheVariants.{Read}
use Rattle.lab_target.specs.declared.verdict.Mark.{Mark}
use Rattle.lab_target.specs.declared.verdict.Marks.{Marks}
use Rattle.lab_model.specs.Bios.{Bio, Stage, Held, stage_failed}
use Rattle.lab_model.specs.State.{State, bio_of}
use Rattle.lab_next.specs.Bios.{answer_marks}
use Rattle.lab_next.specs.Own.{made_sectors}
use Rattle.lab_trace.specs.Written.{byte_text, written_text}
use Rattle.lab_trace.specs.declared.lack.Lack.{Lack}
use Rattle.lab_trace.specs.declared.lack.Lack.TheVariants.{Failed, Zeroes, Dropped}

-- `@MOMENT` where it is held until that moment
abbrev pub stage_text : Stage → List ℕ
stage_text (Held due device) = codes "@" ++ decimal due
stage_text _ = []

-- the byte of its answer that is changed, counted from 0, and what it becomes
abbrev pub mark_text : Option Mark → List ℕ
mark_text None = []
mark_text (Some mark) = byte_text mark.place mark.value

-- whether both marks change the same byte
abbrev pub same_byte : Option Mark → Option Mark → Bool
same_byte (Some fixed) (Some random) = fixed.place == random.place
same_byte _ _ = false

-- both marks, the fixed one first; of a byte that both change its last value alone is told, which
-- the random one gives it
abbrev pub marks_text : Marks → List ℕ
marks_text marks = (if same_byte marks.fixed marks.random then [] else mark_text marks.fixed)
    ++ mark_text marks.random

-- until when a bio is held, what its answer changes, and what it writes other than the bio that it
-- was made for
abbrev pub entry_text : Option Bio → Option Bio → List ℕ
entry_text bio None = []
entry_text bio (Some child) =
    stage_text child.stage ++ marks_text (answer_marks child) ++ written_text bio child

-- a comma before each bio but the first
abbrev pub comma : ℕ → ℕ → List ℕ
comma first place = if first == place then [] else codes ","

-- the bio at a place, counted from 0, among those from the first on that were made for a bio
abbrev pub one_text : {S : Type 0} → State S → Option Bio → ℕ → ℕ → List ℕ
one_text s bio first place =
    comma first place ++ decimal (place + 1) ++ entry_text bio (bio_of s (place + 1))

-- so many bios that were made for a bio, from the place on
abbrev pub made_text : {S : Type 0} → State S → Option Bio → ℕ → ℕ → ℕ → List ℕ
made_text s bio first place zero = []
made_text s bio first place (suc more) =
    one_text s bio first place ++ made_text s bio first (place + 1) more

-- what becomes of sectors that no bio is made for: a read's are answered as zeroes
abbrev pub dropped_as : Kind → Lack
dropped_as Read = Zeroes
dropped_as _ = Dropped

-- what a bio lacks where so many bios were made for its pieces, and none for so many of its sectors
abbrev pub bio_lack : Bio → ℕ → ℕ → Option Lack
bio_lack bio made wanting =
    if stage_failed bio.stage then Some Failed
    else if (made == 0) || nat_lt 0 wanting then Some (dropped_as bio.kind)
    else None

-- what a bio lacks where so many were made for its pieces, from the place on
abbrev pub lack_of : {S : Type 0} → State S → ℕ → ℕ → Option Bio → Option Lack
lack_of s first made None = None
lack_of s first made (Some bio) =
    bio_lack bio made (bio.span.len - made_sectors s first made)

-- the word of what a bio lacks
abbrev pub lack_word : Lack → List ℕ
lack_word Failed = codes "failed"
lack_word Zeroes = codes "zeroes"
lack_word Dropped = codes "dropped"

-- what a bio lacks, with a space before it where so many were made
abbrev pub lack_text : ℕ → Option Lack → List ℕ
lack_text made None = []
lack_text made (Some lack) = (if made == 0 then [] else codes " ") ++ lack_word lack

-- what became of a bio that was cut, where so many were made before: the bios for its pieces, and
-- what it lacks
abbrev pub map_text : {S : Type 0} → ℕ → State S → ℕ → List ℕ
map_text first s number =
    let made = length s.bios - first in
    let bio = bio_of s number in
    made_text s bio first first made ++ lack_text made (lack_of s first made bio)
