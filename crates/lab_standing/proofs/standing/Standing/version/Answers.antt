use Rattle.lab_model.proofs.Common.{rules, ◌≡◌, ◌∙◌, Some, sym, ap, slice_get, option_copied}
use Rattle.lab_model.proofs.Common.{slice_get-map}
use Rattle.std.specs.Option.{option_map}
use Rattle.lab_standing.specs.Image.{version_at}
use Rattle.lab_standing.specs.Stands.{standing_of}
use Rattle.lab_standing.proofs.Versions.{at-own_of, past-own_of}
use Rattle.lab_standing.proofs.standing.Standing.version.Goals as goal

-- the device's own versions
pub returns-in-Some : goal.returns-in-Some
returns-in-Some g c =
    let versions = (standing_of g.T.Target.meaning c.args.self.now).versions in
    let there : slice_get versions c.args.device ≡ Some c.in-Some.own.now.items
    = slice_get-map (λ own. own.items) c.args.self.now.versions.items c.args.device
    ∙ ap (λ o. option_map (λ own. own.items) o)
    (sym c.own.ensures ∙ ap (λ o. option_copied o) c.in-Some.is) in
    c.version_of.ensures ∙ ap (λ own. version_at own c.args.number)
    (c.deref.ensures.value ∙ sym (at-own_of versions c.args.device c.in-Some.own.now.items there))

-- the device was never made
pub returns-in-None : goal.returns-in-None
returns-in-None g c = search (rules, slice_get-map, past-own_of)
