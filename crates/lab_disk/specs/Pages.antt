-- How a disk's sectors lie in pages (this project's own).
use Rattle.std.specs.Prelude.{◌≡◌, ℕ, ◌+◌, ◌*◌, ◌/◌, ◌%◌, ◌<◌, ◌≤◌, List, Bool, true, false, Option}
use Rattle.std.specs.Prelude.{None, Some, length, replicate, slice_index_or, All}
use Rattle.std.specs.Global.{Vec}
use Rattle.lab_sector.specs.declared.span.Span.{Span}
use Rattle.lab_disk.specs.Disk.{Sectors, zero_sector}

-- the sectors that a row of pages shows, and for each page whether it is made
pub record PageRow : Type 0 where
  pub sectors : Sectors
  pub made : List Bool

-- the 64 sectors of a slot: those of its page, and zeroes where it has none
abbrev pub sectors_in : Option (Vec (List ℕ)) → Sectors
sectors_in None = replicate 64 zero_sector
sectors_in (Some page) = page.items

-- the page of sector k is made
abbrev pub IsMade : PageRow → ℕ → Type 0
IsMade row k = slice_index_or row.made (k / 64) false ≡ true

-- a part of one page, of a disk of so many sectors
pub record IsPart (part : Span) (size : ℕ) : Type 0 where
  pub some : 0 < part.len
  pub on_page : part.first % 64 + part.len ≤ 64
  pub inside : part.first + part.len ≤ size

-- a slot has 64 sectors
abbrev pub IsWhole : Option (Vec (List ℕ)) → Type 0
IsWhole slot = length (sectors_in slot) ≡ 64

-- each slot is whole, and there are slots for all sectors
pub record IsLaidOut (slots : List (Option (Vec (List ℕ)))) (size : ℕ) : Type 0 where
  pub whole : All IsWhole slots
  pub enough : size ≤ 64 * length slots

-- slots that are laid out, and a page of zeroes
pub record IsKept (slots : List (Option (Vec (List ℕ)))) (page : Sectors) (size : ℕ) : Type 0 where
  pub laid : IsLaidOut slots size
  pub blank : page ≡ replicate 64 zero_sector
