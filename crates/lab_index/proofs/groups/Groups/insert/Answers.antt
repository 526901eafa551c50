-- The set at the group's place is written with the number in it.
use Rattle.std.proofs.lemmas.List.{length-map}
use Rattle.std.proofs.Math.Seq.{map-set_same}
use Rattle.std.proofs.Common.{rules, true, ◌==◌, ap}
use Rattle.std.specs.List.{list_any}
use Rattle.lab_index.proofs.Ranges.{updated-here, updated-others}
use Rattle.lab_index.proofs.Places.{written-here, written-keeps}
use Rattle.lab_index.proofs.groups.Groups.insert.Goals as goal

-- a refusal leaves the numbers of the set, so no number of a group changes
pub returns-in_err-insert-clause-keeps : goal.returns-in_err-insert-clause-keeps
returns-in_err-insert-clause-keeps c = rw (← c.self.view_is)
    (written-keeps c.self.inside.sets.items c.args.group c.args.number c.index_mut.result.now
    c.insert.new.self
    (search (rules, length-map, c.self.view_is, c.requires))
    c.index_mut.ensures.value
    (λ other apart. ap (list_any (λ n. n == other)) c.in_err-insert.ensures.err))

-- a refusal leaves the numbers of the set, and so the groups
pub returns-in_err-insert-clause-err : goal.returns-in_err-insert-clause-err
returns-in_err-insert-clause-err c = search (rules, map-set_same)

-- the number is there afterwards
pub returns-clause-here : goal.returns-clause-here
returns-clause-here c =
    written-here c.self.inside.sets.items c.args.group c.args.number c.insert.new.self true
    (search (rules, length-map, c.self.view_is, c.requires))
    (updated-here c.index_mut.result.now c.insert.new.self c.args.number true
    c.in_ok-insert.ensures.updates)

-- the other numbers stay
pub returns-clause-keeps : goal.returns-clause-keeps
returns-clause-keeps c = rw (← c.self.view_is)
    (written-keeps c.self.inside.sets.items c.args.group c.args.number c.index_mut.result.now
    c.insert.new.self
    (search (rules, length-map, c.self.view_is, c.requires))
    c.index_mut.ensures.value
    (updated-others c.index_mut.result.now c.insert.new.self c.args.number true
    c.in_ok-insert.ensures.updates))
