-- What a bio brings to a disk, and what it gives to the bio that it is a piece of (this project's
-- own).
use Rattle.std.specs.Prelude.{◌≡◌, ◌≢◌, ℕ, List, Option, IfSome, length}
use Rattle.std.specs.List.{AllPairs}
use Rattle.lab_sector.specs.declared.request.Kind.{Kind}
use Rattle.lab_sector.specs.declared.request.Kind.TheVariants.{Read, Write}
use Rattle.lab_sector.specs.declared.span.Span.{Span}
use Rattle.lab_model.specs.Bios.{Bio, Stage, InFlight}
use Rattle.lab_model.specs.declared.parent.Parent.{Parent}
use Rattle.lab_model.specs.declared.parent.Parent.TheVariants.{FromLog, FromBio}
use Rattle.lab_model.specs.Lists.{numbered}
use Rattle.lab_model.specs.State.{Disk}
use Rattle.lab_model.specs.Answers.{HasPlaceIn}
use Rattle.std.specs.Option.{option_flatten}

-- a write has as many sectors as its span
abbrev pub Fills : Bio → Type 0
Fills bio = bio.kind ≡ Write → length bio.sectors ≡ bio.span.len

-- how many sectors the answer to a bio gives: to a read those of its span
abbrev pub given_len : Kind → Span → ℕ
given_len Read span = span.len
given_len kind span = 0

-- how many sectors a bio in flight has recorded
abbrev pub recorded_len : Stage → ℕ
recorded_len (InFlight failed answered) = length answered
recorded_len stage = 0

-- no two disks have one number
abbrev pub NumbersDiffer : List Disk → Type 0
NumbersDiffer disks = AllPairs (λ disk other. disk.number ≢ other.number) disks

-- what a bio gives, so many sectors, has its place at the bio that it is a piece of
abbrev pub HasPlace : List (Option Bio) → ℕ → Parent → Type 0
HasPlace bios count (FromLog log line action) = Unit {0}
HasPlace bios count (FromBio number piece) = IfSome (option_flatten (numbered bios number))
    (λ parent. HasPlaceIn piece count parent parent.stage)

-- what the living bio of a number gives, so many sectors, has its place at the bio that it is a
-- piece of
abbrev pub HasRoom : List (Option Bio) → ℕ → (Bio → ℕ) → Type 0
HasRoom bios number count = IfSome (option_flatten (numbered bios number))
    (λ bio. HasPlace bios (count bio) bio.parent)
