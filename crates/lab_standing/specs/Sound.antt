-- What always holds of what stands besides its view (this project's own).
use Rattle.std.specs.Prelude.{◌≡◌, ℕ, ◌<◌, List, Option, Some, None, length}
use Rattle.lab_target.specs.Meaning.{Meaning}
use Rattle.lab_model.specs.State.{Slot}
use Rattle.lab_script.specs.Image.{walk_known}
use Rattle.lab_standing.specs.declared.standing.Standing.{Standing}
use Rattle.lab_standing.specs.Image.{Pairwise, tables_of}
use Rattle.lab_standing.specs.Linked.{IsLinked}

-- a version's number, if one is named, is of one of these versions
abbrev pub IsOneOf : {L : Type 0} → List L → Option ℕ → Type 0
IsOneOf own None = Unit {0}
IsOneOf own (Some number) = number < length own

-- a device that stands has the versions that its slots name
abbrev pub HasVersions : {L : Type 0} → List L → Option (Slot ℕ) → Type 0
HasVersions own None = Unit {0}
HasVersions own (Some slot) = IsOneOf own slot.live × IsOneOf own slot.inactive

-- by device number: there are as many lists of versions as devices, and each has its device's
abbrev pub HaveVersions : {L : Type 0} → List (Option (Slot ℕ)) → List (List L) → Type 0
HaveVersions slots versions = Pairwise (λ slot own. HasVersions own slot) slots versions

-- by device number, each count is that of the device's versions
abbrev pub Counted : {L : Type 0} → List ℕ → List (List L) → Type 0
Counted loads versions = Pairwise (λ count own. count ≡ length own) loads versions

-- what stands agrees with itself
pub record IsSound {S : Type 0} (m : Meaning S) (s : Standing S) : Type 0 where
  -- the devices' slots name versions that are there
  pub slots : HaveVersions (walk_known s.walk).devices (tables_of s.versions.items)
  -- the walk counts the versions
  pub loads : Counted (walk_known s.walk).loads (tables_of s.versions.items)
  -- what is kept of all tables that were ever loaded tells their references
  pub linked : IsLinked m s
