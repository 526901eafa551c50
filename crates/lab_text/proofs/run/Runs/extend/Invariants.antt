-- The bytes gone over follow, and those that are left are the others.
use Rattle.std.proofs.Common.{◌≡◌, ◌++◌, ℕ, List, length}
use Rattle.lab_text.specs.Runs.{runs_list}
use Rattle.lab_text.proofs.run.Runs.extend.Given as goal

abbrev pub invariant-loop-run : goal.invariant-loop-run
invariant-loop-run l = (done : List ℕ) × (done ++ l.rest ≡ l.fn.bytes)
    × ((before : List ℕ) → l.initial.self ≡ runs_list before → l.self ≡ runs_list (before ++ done))

abbrev pub decreases-loop-run : goal.decreases-loop-run
decreases-loop-run l = length l.rest
