-- What the loop that makes the groups keeps.
use Rattle.std.proofs.Common.{◌≡◌, [], map, replicate}
use Rattle.lab_index.proofs.groups.Groups.open.Given as goal

-- so many sets stand as rounds are done, and each is empty
abbrev pub invariant-loop : goal.invariant-loop
invariant-loop l = map (λ set. set.keys) l.sets.items ≡ replicate l.counter []
