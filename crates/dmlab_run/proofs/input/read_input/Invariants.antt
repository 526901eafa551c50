use Rattle.std.proofs.Common.{◌≤◌, ◌-◌, vec_len}
use Rattle.std.specs.Io.KnownBytes.{Consumes}
use Rattle.dmlab_run.specs.Counting.{IsOpen}
use Rattle.dmlab_run.proofs.input.read_input.Given as goal

-- the bytes so far are gone from the reader, and no read has failed
abbrev pub invariant-loop-bytes : goal.invariant-loop-bytes
invariant-loop-bytes g l = record {
  bytes : Consumes (g.R.Read.remaining l.fn.input.inner) (g.R.Read.remaining l.input.inner)
      l.bytes.items;
  most : vec_len l.bytes ≤ 16777217;
  going : IsOpen l.input (vec_len l.bytes);
}

-- each read that goes on gives at least one byte
abbrev pub decreases-loop-bytes : goal.decreases-loop-bytes
decreases-loop-bytes g l = 16777217 - vec_len l.bytes
