-- The bytes of the value at the front are those before the rest and those at the rest's front.
use Rattle.std.proofs.Common.{◌≡◌, ◌+◌, ◌-◌, ◌≤◌, length}
use Rattle.lab_text.proofs.RunsLemmas.{same}
use Rattle.lab_text.proofs.run.behind_blocks.Given as goal

abbrev pub invariant-blocks-2 : goal.invariant-blocks-2
invariant-blocks-2 l =
    (same l.fn.value l.fn.bytes ≡ length l.fn.bytes - length l.rest + same l.fn.value l.rest)
    × (length l.rest ≤ length l.fn.bytes)

abbrev pub decreases-blocks-2 : goal.decreases-blocks-2
decreases-blocks-2 l = length l.rest
