-- The bio of the number comes to another stage where it stands.
use Rattle.lab_model.proofs.Common.{rules, refl}
use Rattle.lab_bios.specs.Views.{stage_of, with_stage}
use Rattle.lab_bios.proofs.Changed.{bios-staged, copied-none, kept-staged}
use Rattle.lab_bios.proofs.Living.{bio-there, none-there}
use Rattle.lab_bios.proofs.Numbers.{changed-none}
use Rattle.lab_bios.proofs.bios.Bios.set_stage.Goals as goal

-- none of the number lives
pub returns-then-is_none-clause-items : goal.returns-then-is_none-clause-items
returns-then-is_none-clause-items c = search (rules, changed-none, none-there, copied-none)

-- the stage was no parent's
pub invariant_of-self : goal.invariant_of-self
invariant_of-self c =
    kept-staged c.self.inside.living.items c.self.inside.count c.self.inside.highest
    c.self.inside.logs.logs c.args.number (stage_of c.args.stage) c.get_mut.result.now _
    c.get_mut.ensures.item c.come_to.ensures.after refl c.self.invariant

-- the stage before is the one that the bio of the number had
pub returns-clause-before : goal.returns-clause-before
returns-clause-before c = search (rules, bio-there)

-- callers see the bio of the number at the stage
pub returns-clause-items : goal.returns-clause-items
returns-clause-items c = rw (← c.self.view_is) (bios-staged c.self.inside.living.items c.args.number
    (with_stage (stage_of c.args.stage)) c.get_mut.result.now _ c.get_mut.ensures.item
    c.come_to.ensures.after)
