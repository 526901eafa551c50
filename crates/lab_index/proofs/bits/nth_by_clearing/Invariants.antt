-- What is left of the word.
use Rattle.std.proofs.Common.{◌≡◌}
use Rattle.std.specs.Prelude.{slice_get}
use Rattle.lab_index.specs.Numbers.{members}
use Rattle.lab_index.specs.Words.{marks_of}
use Rattle.lab_index.proofs.bits.nth_by_clearing.Given as goal

-- with so many bits to clear, the k-th member of the word is the next of what is left
abbrev pub invariant-loop-left : goal.invariant-loop-left
invariant-loop-left l =
    slice_get (members (marks_of l.rest)) l.left ≡ slice_get (members (marks_of l.word)) l.k

-- the bits to clear
abbrev pub decreases-loop-left : goal.decreases-loop-left
decreases-loop-left l = l.left
