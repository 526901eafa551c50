-- The map has them there, and somebody stands there.
use Rattle.lab_model.proofs.Common.{◌≡◌, ◌∙◌, ap, length, subst, sym, true, ℕ}
use Rattle.lab_next.specs.declared.writer.Writer.{Writer}
use Rattle.lab_watch.specs.Grids.{spread}
use Rattle.lab_image.specs.Changes.{Changes, has_place, some_or, with_marks}
use Rattle.lab_image.specs.Places.{IsNoted}
use Rattle.lab_image.proofs.Kept.{kept, put-marks}
use Rattle.lab_image.proofs.Noted.{noted-more, noted-with}
use Rattle.lab_image.proofs.changes.Changes.put.Goals as goal

-- who stands where changed bytes are kept
abbrev somebody : Writer
somebody = record { origin = record { log = 0; line = 0 }; sector = 0 }

-- where no entry can be made, those before are there
pub invariant_of-self : goal.invariant_of-self
invariant_of-self c =
    let changes = kept c.self.inside.entries.entries in
    let grid = spread c.self.inside.places c.args.number c.args.sector 1 somebody in
    subst (λ places. IsNoted (kept c.insert.new.self.entries) places) (sym c.in-Ok.ensures.spread)
    (subst (λ one. IsNoted one grid) (sym (ap kept c.in_err-insert-in-Ok.ensures.err))
    (noted-more changes c.self.inside.places c.args.number c.args.sector somebody
    c.self.invariant))

-- the map's are the list's with these
pub returns-in_ok-insert-in-Ok : goal.returns-in_ok-insert-in-Ok
returns-in_ok-insert-in-Ok c =
    let entries = c.self.inside.entries.entries in
    let place : ℕ × ℕ = (c.args.number, c.args.sector) in
    ap kept c.in_ok-insert-in-Ok.ensures.entries
    ∙ put-marks entries place c.args.marks (subst (λ (changes : Changes).
    some_or (length c.args.marks.items) (has_place changes place) ≡ true)
    (sym c.self.view_is) c.requires)
    ∙ ap (λ changes. with_marks changes place c.args.marks.items) c.self.view_is

-- and somebody stands there
pub invariant_of-self-in-Ok : goal.invariant_of-self-in-Ok
invariant_of-self-in-Ok c =
    let entries = c.self.inside.entries.entries in
    let place : ℕ × ℕ = (c.args.number, c.args.sector) in
    let grid = spread c.self.inside.places c.args.number c.args.sector 1 somebody in
    subst (λ places. IsNoted (kept c.insert.new.self.entries) places) (sym c.in-Ok.ensures.spread)
    (subst (λ one. IsNoted one grid) (sym (ap kept c.in_ok-insert-in-Ok.ensures.entries
    ∙ put-marks entries place c.args.marks (subst (λ (changes : Changes).
    some_or (length c.args.marks.items) (has_place changes place) ≡ true)
    (sym c.self.view_is) c.requires)))
    (noted-with (kept entries) c.self.inside.places c.args.number c.args.sector somebody
    c.self.invariant c.args.marks.items))
