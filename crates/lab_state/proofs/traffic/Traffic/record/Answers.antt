-- What a bio records of a piece leaves all that is kept beside the bios right.
use Rattle.lab_model.proofs.Common.{[], refl, Ram, Read, Bio, Entering, no_marks}
use Rattle.lab_model.specs.declared.parent.Parent.TheVariants.{FromBio}
use Rattle.lab_model.specs.declared.piece.Piece.{Piece}
use Rattle.lab_bios.specs.Recording.{told}
use Rattle.lab_state.proofs.Flying.{kept-recorded}
use Rattle.lab_state.proofs.traffic.Traffic.record.Goals as goal

-- some bio of a piece without marks, of which nothing else matters
abbrev some-child : Piece → Bio
some-child piece = record {
  kind = Read;
  device = Ram 0;
  span = piece.span;
  parent = FromBio 0 piece;
  marks = no_marks;
  sectors = [];
  stage = Entering;
}

-- nothing of it changes
pub invariant_of-self : goal.invariant_of-self
invariant_of-self g c =
    let child = some-child c.args.piece in
    kept-recorded c.record.new.self.items c.args.number child c.args.piece
    (told c.args.failed c.args.sectors.items)
    (c.record.ensures.items child c.args.sectors.items refl) c.self.invariant

-- callers see what the bio has recorded of a child whose marks are made in the sectors
pub returns-clause-bios : goal.returns-clause-bios
returns-clause-bios g c = rw (← c.self.view_is) c.record.ensures.items
