-- What the verifier's values stand for, as the definitions of what is accepted see them (this
-- project's own).
use Rattle.std.specs.Prelude.{ℕ, suc, zero, List, [], ◌∷◌, Option, Some, None, map, slice_get, option_map}
use Rattle.std.specs.Global.{Vec}
use Rattle.lab_text.specs.Bundle.{Line}
use Rattle.lab_text.specs.Lines.{lines_of}
use Rattle.lab_target.specs.Meaning.{Meaning, Shape}
use Rattle.lab_model.specs.State.{Slot}
use Rattle.lab_model.specs.Tables.{Table, image}
use Rattle.lab_model.specs.Walk.{Devices}
use Rattle.lab_standing.specs.declared.named.NamedTable.{NamedTable}

-- the part that a named table was read of: its name, and the lines of its text
abbrev pub text_of : {S : Type 0} → NamedTable S → List ℕ × List Line
text_of named = (named.name.now, lines_of named.table)

-- a version by its number, if one is named
abbrev pub version_at : {L : Type 0} → List L → Option ℕ → Option L
version_at versions None = None
version_at versions (Some number) = slice_get versions number

-- a device with its tables in place of their numbers
abbrev pub slot_of : {S : Type 0} → Meaning S → List (Table S) → Slot ℕ → Slot (Table (Shape S))
slot_of m versions slot = record {
  live = option_map (image m) (version_at versions slot.live);
  inactive = option_map (image m) (version_at versions slot.inactive);
  mode = slot.mode;
}

-- two lists are of one length, and the items at each place are related
abbrev pub Pairwise : {X Y : Type 0} → (X → Y → Type 0) → List X → List Y → Type 0
Pairwise P [] [] = Unit {0}
Pairwise P [] (y ∷ ys) = ⊥
Pairwise P (x ∷ xs) [] = ⊥
Pairwise P (x ∷ xs) (y ∷ ys) = P x y × Pairwise P xs ys

-- the versions of the first device; none where there is no device
abbrev pub first_versions : {L : Type 0} → List (List L) → List L
first_versions [] = []
first_versions (own ∷ versions) = own

-- the versions of the other devices
abbrev pub others_of : {L : Type 0} → List (List L) → List (List L)
others_of [] = []
others_of (own ∷ versions) = versions

-- the devices by number, each with its tables
abbrev pub devices_of : {S : Type 0} → Meaning S → List (Option (Slot ℕ)) → List (List (Table S))
    → Devices S
devices_of m [] versions = []
devices_of m (slot ∷ slots) versions =
    option_map (slot_of m (first_versions versions)) slot ∷ devices_of m slots (others_of versions)

-- the versions of the device of a number; none where there is no device
abbrev pub own_of : {L : Type 0} → List (List L) → ℕ → List L
own_of versions zero = first_versions versions
own_of versions (suc number) = own_of (others_of versions) number

-- the tables that the verifier keeps, by device number
abbrev pub tables_of : {L : Type 0} → List (Vec L) → List (List L)
tables_of versions = map (λ own. own.items) versions
