-- How many come before the place, and with it the rest.
use Rattle.std.proofs.Common.{◌≡◌, ◌+◌, ◌-◌, length, take, sum}
use Rattle.lab_index.proofs.counts.place_of.Given as goal

-- the rest is what the counts gone through leave of k
abbrev pub invariant-loop-place : goal.invariant-loop-place
invariant-loop-place l = sum (take l.place l.counts) + l.rest ≡ l.k

-- the counts to go through
abbrev pub decreases-loop-place : goal.decreases-loop-place
decreases-loop-place l = length l.counts - l.place
