-- Which devices a table refers to.
use Rattle.lab_model.proofs.Common.{rules, ◌≡◌, ◌∙◌, List, [], ◌∷◌, Option, sym, map, list_any}
use Rattle.lab_model.proofs.Common.{DevNo, Kind, Ref, Meaning, Shape, has_device, same_device}
use Rattle.lab_model.proofs.Common.{devices_under, kinds, references_of, Table, image, with_target}
use Rattle.lab_model.specs.declared.table_line.TableLine.{TableLine}
use Rattle.std.specs.List.{filter_map}
use Rattle.lab_standing.specs.Refers.{is_on, line_refers}
use Rattle.lab_standing.proofs.LinkRows.{list_any-flat_map, list_any-same}
use Rattle.lab_standing.proofs.Images.{list_any-map}

-- a device is referred to where it is one of the devices
on-filter_map : (device : DevNo) (f : Kind → Option Ref) (ks : List Kind)
    → list_any (λ kind. is_on device (f kind)) ks
    ≡ has_device device (map (λ ref. ref.dev) (filter_map f ks))
on-filter_map device f [] = search rules
on-filter_map device f (kind ∷ ks) = search (rules, on-filter_map device f ks)

-- the devices of a line
abbrev pub devices_of_line : {S : Type 0} → TableLine (Shape S) → List DevNo
devices_of_line line = map (λ ref. ref.dev) (references_of line.target)

-- a table refers to a device where one of its lines does
pub refers-lines : {S : Type 0} (m : Meaning S) (device : DevNo) (table : Table S)
    → list_any (line_refers m device) table ≡ has_device device (devices_under (image m table))
refers-lines m device table = list_any-same (line_refers m device)
    (λ line. has_device device (devices_of_line (with_target m.shape line)))
    (λ line. on-filter_map device (m.shape line.target).reference kinds) table
    ∙ sym (list_any-map (λ line. has_device device (devices_of_line line)) (with_target m.shape)
    table) ∙ list_any-flat_map (same_device device) devices_of_line (image m table)
