-- What is written and the text of the runs that are left make the whole text.
use Rattle.std.proofs.Common.{◌≡◌, ◌+◌, ◌≤◌, ◌++◌, None, length, vec_len, vec_capacity}
use Rattle.lab_text.specs.Extends.{Extends}
use Rattle.lab_text.specs.Packed.{unpacked, before_others}
use Rattle.lab_text.proofs.run.push_packed_runs.Given as goal

abbrev pub invariant-loop-run : goal.invariant-loop-run
invariant-loop-run l =
    record {
      text : l.out.items ++ before_others (unpacked None l.rest) ≡ l.fn.out.items
          ++ before_others (unpacked None l.fn.packed);
      kept : Extends l.fn.out.items l.out.items;
      room : vec_len l.out + length (before_others (unpacked None l.rest))
          ≡ vec_len l.fn.out + length (before_others (unpacked None l.fn.packed));
      capacity : vec_capacity l.fn.out ≤ vec_capacity l.out;
    }

abbrev pub decreases-loop-run : goal.decreases-loop-run
decreases-loop-run l = length l.rest
