-- The set at the group's place, if there is one, is written without the number.
use Rattle.std.proofs.lemmas.List.{get_or_past, length-map}
use Rattle.std.proofs.Common.{rules, false}
use Rattle.lab_index.proofs.Ranges.{updated-here, updated-others}
use Rattle.lab_index.proofs.Places.{groups_of, keeps-same, written-here, written-keeps}
use Rattle.lab_index.proofs.groups.Groups.remove.Goals.{in-Some, in_default}
use Rattle.lab_index.proofs.groups.Groups.remove.Goals as goal

-- the number isn't in the set afterwards, nor in a group that isn't there
pub returns-clause-here : goal.returns-clause-here
returns-clause-here c =
    search (rules, in-Some, written-here, updated-here, in_default, get_or_past, length-map)

-- the other numbers stay, and all do where the group isn't there
pub returns-clause-keeps : goal.returns-clause-keeps
returns-clause-keeps c = elim c.match-get_mut.branch [
  | in-Some w ↦ rw (w.self-inside-is, ← c.self.view_is)
      (written-keeps c.self.inside.sets.items c.args.group c.args.number w.in-Some.set.now
      w.remove.new.self w.in-Some.ensures.item.3.0 w.in-Some.ensures.value
      (updated-others w.in-Some.set.now w.remove.new.self c.args.number false
      w.remove.ensures.updates))
  | in_default w ↦ rw (w.self-inside-is, ← c.self.view_is)
      (keeps-same (groups_of c.self.inside.sets.items) c.args.group c.args.number)
]
