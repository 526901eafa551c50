-- What the map finds is what the list has there.
use Rattle.lab_model.proofs.Common.{◌∙◌, [], ap}
use Rattle.std.specs.Option.{option_map_or}
use Rattle.lab_image.specs.Changes.{marks_at}
use Rattle.lab_image.proofs.Kept.{found-marks}
use Rattle.lab_image.proofs.changes.Changes.of.Goals as goal

pub returns-in-Some : goal.returns-in-Some
returns-in-Some c =
    let entries = c.self.inside.entries.entries in
    c.as_slice.ensures.value ∙ ap (λ found. option_map_or (λ marks. marks.items) found [])
    c.in-Some.ensures.value ∙ found-marks entries (c.args.number, c.args.sector)
    ∙ ap (λ changes. marks_at changes (c.args.number, c.args.sector)) c.self.view_is

pub returns-in-None : goal.returns-in-None
returns-in-None c =
    let entries = c.self.inside.entries.entries in
    ap (λ found. option_map_or (λ marks. marks.items) found []) c.in-None.ensures.value
    ∙ found-marks entries (c.args.number, c.args.sector)
    ∙ ap (λ changes. marks_at changes (c.args.number, c.args.sector)) c.self.view_is
