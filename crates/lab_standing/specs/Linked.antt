-- Which mapped devices each device's tables refer to, over all tables that were ever loaded into it
-- (dm-linear).
use Rattle.std.specs.Prelude.{◌==◌, ℕ, ◌++◌, ◌↔◌, if◌then◌else◌, List, [], ◌∷◌, Contains, map, option_map}
use Rattle.std.specs.Prelude.{Option, Some, None}
use Rattle.std.specs.List.{flat_map, list_any}
use Rattle.lab_sector.specs.declared.device.DevNo.{DevNo}
use Rattle.lab_sector.specs.declared.device.DevNo.TheVariants.{Ram, Dm}
use Rattle.lab_target.specs.declared.verdict.Ref.{Ref}
use Rattle.lab_target.specs.Meaning.{Meaning}
use Rattle.lab_model.specs.declared.table_line.TableLine.{TableLine}
use Rattle.lab_model.specs.Below.{references_of}
use Rattle.lab_model.specs.Tables.{Table, image}
use Rattle.lab_model.specs.Fine.{under_live}
use Rattle.lab_standing.specs.Image.{Pairwise, tables_of}
use Rattle.lab_standing.specs.declared.links.Links.{Links}
use Rattle.lab_standing.specs.declared.standing.Standing.{Standing}

-- by device number, the numbers that it refers to
abbrev pub link_rows : Links → List (List ℕ)
link_rows links = map (λ row. row.items) links.rows.items

-- a row with a number at its end, unless it is there
abbrev pub with_number : ℕ → List ℕ → List ℕ
with_number number row =
    if list_any (λ other. other == number) row then row else row ++ number ∷ []

-- a row with a device's number, if it is a mapped device
abbrev pub with_device : DevNo → List ℕ → List ℕ
with_device (Ram number) row = row
with_device (Dm number) row = with_number number row

-- a row with the numbers of the mapped devices among some devices
abbrev pub grown : List DevNo → List ℕ → List ℕ
grown [] row = row
grown (device ∷ devices) row = grown devices (with_device device row)

-- a row with the device of a reference, if there is one and it is a mapped device
abbrev pub with_reference : Option Ref → List ℕ → List ℕ
with_reference None row = row
with_reference (Some ref) row = with_device ref.dev row

-- the devices that a line refers to, for some kind
abbrev pub devices_of_line : {S : Type 0} → Meaning S → TableLine S → List DevNo
devices_of_line m line = map (λ ref. ref.dev) (references_of (m.shape line.target))

-- a row with what a table refers to, if there is one
abbrev pub with_links : {S : Type 0} → Meaning S → List ℕ → Option (Table S) → List ℕ
with_links m row chosen = grown (under_live (option_map (image m) chosen)) row

-- a new row for a table, if there is one
abbrev pub row_for : {S : Type 0} → Meaning S → Option (Table S) → List ℕ
row_for m chosen = with_links m [] chosen

-- a row tells the mapped devices among some devices
abbrev pub RowTells : List DevNo → List ℕ → Type 0
RowTells devices row = (number : ℕ) → Contains row number ↔ Contains devices (Dm number)

-- the devices that some of these tables refers to, for some kind
abbrev pub ever_of : {S : Type 0} → Meaning S → List (Table S) → List DevNo
ever_of m tables = flat_map (λ table. flat_map (devices_of_line m) table) tables

-- by device number, each row tells what the device's versions refer to
abbrev pub Linked : {S : Type 0} → Meaning S → List (List ℕ) → List (List (Table S)) → Type 0
Linked m rows versions = Pairwise (λ row own. RowTells (ever_of m own) row) rows versions

-- what is kept of all tables that were ever loaded tells their references
abbrev pub IsLinked : {S : Type 0} → Meaning S → Standing S → Type 0
IsLinked m s = Linked m (link_rows s.ever) (tables_of s.versions.items)
