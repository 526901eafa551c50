-- Where the k-th bit is looked for.
use Rattle.std.proofs.Common.{◌+◌, ◌^◌, ◌<◌, ◌≤◌, take}
use Rattle.lab_index.specs.Words.{marks_of, count_of}
use Rattle.lab_index.proofs.bits.nth_by_halving.Given as goal

-- at most k bits are set before the place, and more than k before 2 ^ level places behind it
abbrev pub invariant-loop-level : goal.invariant-loop-level
invariant-loop-level l = record {
  small : l.level ≤ 6;
  inside : l.low + 2 ^ l.level ≤ 64;
  before : count_of (take l.low (marks_of l.word)) ≤ l.k;
  after : l.k < count_of (take (l.low + 2 ^ l.level) (marks_of l.word));
}

-- the halvings to go
abbrev pub decreases-loop-level : goal.decreases-loop-level
decreases-loop-level l = l.level
