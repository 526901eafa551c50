-- A number that was not held yet is free.
use Rattle.lab_model.proofs.Common.{rules}
use Rattle.std.specs.FinMap.{gets}
use Rattle.test_readers.proofs.tests.queues.three_moments.Goals as goal

-- the queue is empty
pub hold-requires-clause-free : goal.hold-requires-clause-free
hold-requires-clause-free c = grind (gets, rules)

-- another one is held
pub hold-requires-2-clause-free : goal.hold-requires-2-clause-free
hold-requires-2-clause-free c = grind (gets, rules)

-- two others are held
pub hold-requires-3-clause-free : goal.hold-requires-3-clause-free
hold-requires-3-clause-free c = grind (gets, rules)
