use Rattle.lab_model.proofs.Common.{rules, ◌≡◌, ◌∙◌, Some, sym, ap, slice_get, option_copied}
use Rattle.lab_model.proofs.Common.{slice_get-map}
use Rattle.std.specs.Option.{option_map}
use Rattle.lab_standing.specs.Linked.{link_rows}
use Rattle.lab_standing.proofs.OwnRows.{own-none}
use Rattle.lab_standing.proofs.Versions.{at-own_of}
use Rattle.lab_standing.proofs.links.Links.row.Goals as goal

-- the device's own row
pub returns-in-Some : goal.returns-in-Some
returns-in-Some c =
    let rows = link_rows c.args.self.now in
    let there : slice_get rows c.args.device ≡ Some c.in-Some.row.now.items
    = slice_get-map (λ row. row.items) c.args.self.now.rows.items c.args.device
    ∙ ap (λ o. option_map (λ row. row.items) o)
    (sym c.found.ensures ∙ ap (λ o. option_copied o) c.in-Some.is) in
    c.deref.ensures.value ∙ sym (at-own_of rows c.args.device c.in-Some.row.now.items there)

-- no such device
pub returns-in-None : goal.returns-in-None
returns-in-None c = search (rules, slice_get-map, own-none)
