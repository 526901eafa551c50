-- A count of one digit is written behind the value.
use Rattle.std.proofs.Common.{rules}
use Rattle.lab_text.proofs.PackedLemmas.{short-begun, short-unpacked}
use Rattle.lab_text.proofs.packed.push_packed.Goals as goal

-- the run is whole
pub returns-then-run-lt128-clause-whole : goal.returns-then-run-lt128-clause-whole
returns-then-run-lt128-clause-whole c = λ whole.
    search (rules, short-begun c.args.packed.now.items c.args.run c.if-run-lt128.true whole)

-- and follows the others
pub returns-then-run-lt128-clause-runs : goal.returns-then-run-lt128-clause-runs
returns-then-run-lt128-clause-runs c = λ whole.
    search (rules, short-unpacked c.args.packed.now.items c.args.run c.if-run-lt128.true whole)
