-- The bio of the number records where it stands what its piece was told.
use Rattle.lab_model.proofs.Common.{rules, ◌≡◌, arith, length, refl, nat_tests, recorded}
use Rattle.lab_model.proofs.Common.{recorded_at, Bio, no_marks}
use Rattle.lab_bios.specs.Recording.{told}
use Rattle.lab_bios.proofs.Changed.{bios-staged, copied-none, kept-staged}
use Rattle.lab_bios.proofs.Living.{bio-there, none-there}
use Rattle.lab_bios.proofs.NothingGiven.{bios-none}
use Rattle.lab_bios.proofs.Numbers.{changed-none}
use Rattle.lab_bios.proofs.bios.Bios.record.Goals as goal

-- a piece that gave nothing leaves all bios as they are
pub returns-then-is_empty-clause-items : goal.returns-then-is_empty-clause-items
returns-then-is_empty-clause-items c child given marks =
    let left = c.args.sectors in
    let none : length left.items ≡ 0 = grind (arith, nat_tests, left.ok.0) in
    search (rules, bios-none)

-- the sectors have their place in the bio that stands there
pub record_piece-requires : goal.record_piece-requires
record_piece-requires c = search (rules, bio-there)

-- it comes to another stage, and that was no parent's; it is the one after a child of no marks,
-- which gave just these sectors
pub invariant_of-self : goal.invariant_of-self
invariant_of-self c =
    let parent : Bio = c.get_mut.result.now.bio in
    let child : Bio = record parent { marks = no_marks } in
    let given = c.args.sectors.items in
    kept-staged c.self.inside.living.items c.self.inside.count c.self.inside.highest
    c.self.inside.logs.logs c.args.number
    (recorded_at child c.args.piece (told c.args.failed given) parent parent.stage)
    c.get_mut.result.now _ c.get_mut.ensures.item (c.record_piece.ensures child given refl) refl
    c.self.invariant

-- callers see that the bio of the number has recorded it
pub returns-then-is_some-clause-items : goal.returns-then-is_some-clause-items
returns-then-is_some-clause-items c child given marks =
    rw (← c.self.view_is) (bios-staged c.self.inside.living.items c.args.number
    (recorded child c.args.piece (told c.args.failed given)) c.get_mut.result.now _
    c.get_mut.ensures.item (c.record_piece.ensures child given marks))

-- none of the number lives
pub returns-else-is_some-clause-items : goal.returns-else-is_some-clause-items
returns-else-is_some-clause-items c child given marks =
    search (rules, changed-none, none-there, copied-none)
