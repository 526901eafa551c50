use Rattle.std.proofs.Common.{◌≡◌, List, ℕ, ◌-◌, ◌≤◌, ◌++◌, length}
use Rattle.std.specs.Io.KnownBytes.{Appends}
use Rattle.dmlab_run.specs.Counting.{IsOpen}
use Rattle.dmlab_run.proofs.output.write_output.Given as goal

-- what is gone from the text is behind what the writer held, and no write has failed
abbrev pub invariant-loop-rest : goal.invariant-loop-rest
invariant-loop-rest g l = record {
  written : (done : List ℕ) × (l.fn.text ≡ done ++ l.rest)
      × Appends (g.W.Write.contents l.fn.output.inner) (g.W.Write.contents l.output.inner) done;
  going : IsOpen l.output (length l.fn.text - length l.rest);
  rest : length l.rest ≤ length l.fn.text;
}

-- each write that goes on takes at least one byte
abbrev pub decreases-loop-rest : goal.decreases-loop-rest
decreases-loop-rest g l = length l.rest
