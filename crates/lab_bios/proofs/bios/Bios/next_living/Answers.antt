-- A bio lives where it is kept with its count.
use Rattle.std.proofs.Common.{rules}
use Rattle.lab_bios.specs.declared.bio.Living.{Living}
use Rattle.lab_bios.proofs.Living.{gone-each, next-each}
use Rattle.lab_bios.proofs.bios.Bios.next_living.Goals as goal

-- the next one that is kept is the next one
pub returns-clause-next : goal.returns-clause-next
returns-clause-next c =
    rw (← c.self.view_is) (search (rules, next-each))

-- and where none is kept, none lives
pub returns-clause-none : goal.returns-clause-none
returns-clause-none c =
    rw (← c.self.view_is) (gone-each (λ (l : Living). l.bio) c.self.inside.living.items
    c.args.from c.next.result c.next.ensures.none)
