-- The number is put into the row, and marked where it is low.
use Rattle.lab_model.proofs.Common.{rules}
use Rattle.lab_model.proofs.Common.{arith, nat_tests}
use Rattle.lab_bios.proofs.LowLogs.{mark-other}
use Rattle.lab_bios.proofs.log_tally.LogTally.insert.Goals as goal

-- a low one is marked, since it stands there now
pub invariant_of-self : goal.invariant_of-self
invariant_of-self c = record {
  rises = c.put_in.ensures.rises;
  low = λ other below.
      let had = c.self.invariant.low other below in
      let times = c.put_in.ensures.times other in
      search (rules, mark-other);
}

-- one from 64 on has no mark
pub invariant_of-self-else-log-lt-LOW_END : goal.invariant_of-self-else-log-lt-LOW_END
invariant_of-self-else-log-lt-LOW_END c = record {
  rises = c.put_in.ensures.rises;
  low = λ other below.
      let had = c.self.invariant.low other below in
      let times = c.put_in.ensures.times other in
      grind (arith, nat_tests, c.if-log-lt-LOW_END.false);
}
