-- A number that was taken out is free.
use Rattle.lab_model.proofs.Common.{rules}
use Rattle.std.specs.FinMap.{gets}
use Rattle.test_readers.proofs.tests.queues.three_held.Goals as goal

-- it was just taken out
pub hold-requires-clause-free : goal.hold-requires-clause-free
hold-requires-clause-free c = grind (gets, rules)
