-- What is changed in the bytes of a write on their way through a device, as a trace tells it (this
-- project's own).
use Rattle.std.specs.Prelude.{ℕ, ◌+◌, ◌*◌, ◌==◌, min, max, List, [], ◌∷◌, ◌++◌, Option, Some, None}
use Rattle.std.specs.Prelude.{codes, decimal, if◌then◌else◌}
use Rattle.lab_sector.specs.declared.request.Kind.TheVariants.{Write}
use Rattle.lab_model.specs.Bios.{Bio}
use Rattle.lab_model.specs.declared.parent.Parent.{Parent}
use Rattle.lab_model.specs.declared.parent.Parent.TheVariants.{FromLog, FromBio}
use Rattle.lab_target.specs.Types.{no_marks}
use Rattle.lab_model.specs.MapEffect.{child_sectors}
use Rattle.lab_model.specs.Sectors.{Sectors, part}

-- `!BYTE=VALUE`: a byte that is changed, counted from 0, and what it becomes
abbrev pub byte_text : ℕ → ℕ → List ℕ
byte_text place value = codes "!" ++ decimal place ++ codes "=" ++ decimal value

-- a byte at this place, where it is another than before
abbrev pub change_text : ℕ → ℕ → ℕ → List ℕ
change_text place before after = if before == after then [] else byte_text place after

-- the bytes of a sector, the first of which is at this place, that are others than before
abbrev pub bytes_text : ℕ → List ℕ → List ℕ → List ℕ
bytes_text place [] bytes = []
bytes_text place (before ∷ others) [] = []
bytes_text place (before ∷ others) (after ∷ bytes) =
    change_text place before after ++ bytes_text (place + 1) others bytes

-- the bytes of sectors, the first of which begin at this place, that are others than before
abbrev pub changes_text : ℕ → Sectors → Sectors → List ℕ
changes_text place [] sectors = []
changes_text place (before ∷ others) [] = []
changes_text place (before ∷ others) (after ∷ sectors) =
    bytes_text place before after ++ changes_text (place + 512) others sectors

-- what a bio asks to be written by one that is made for a piece of it: what a child without marks
-- writes
abbrev pub asked_of : Option Bio → Parent → Sectors
asked_of None parent = []
asked_of (Some bio) (FromLog log line action) = []
asked_of (Some bio) (FromBio number piece) = child_sectors bio piece no_marks Write

-- the bytes that a child writes, counted from its first, that are others than its bio asks for
abbrev pub written_text : Option Bio → Bio → List ℕ
written_text bio child = changes_text 0 (asked_of bio child.parent) child.sectors

-- the bytes of the sector at a place that are others than before
abbrev pub changes_at : ℕ → Sectors → Sectors → List ℕ
changes_at place before after =
    changes_text (place * 512) (part before (record { first = place; len = 1 }))
    (part after (record { first = place; len = 1 }))

-- the bytes of the sectors at two places, in their order, that are others than before; those of one
-- sector, where both are the same
abbrev pub changes_at_both : ℕ → ℕ → Sectors → Sectors → List ℕ
changes_at_both one other before after = if one == other then changes_at one before after
    else changes_at (min one other) before after ++ changes_at (max one other) before after
