-- The number is taken out of the row, and its mark cleared where it stands there no more.
use Rattle.lab_model.proofs.Common.{rules}
use Rattle.lab_model.proofs.Common.{ap, ◌∙◌, arith, nat_tests}
use Rattle.lab_index.specs.Numbers.{Marks, has}
use Rattle.lab_bios.proofs.LowLogs.{clear-at, mark-other}
use Rattle.lab_bios.proofs.Tallies.{err-or-ok, found-stands}
use Rattle.lab_bios.proofs.log_tally.LogTally.remove.Goals as goal

-- one that the search finds no more is unmarked
pub invariant_of-self : goal.invariant_of-self
invariant_of-self c =
    let log = c.args.log in
    let stands = found-stands log c.take_out.new.logs.items c.binary_search.result
    c.take_out.ensures.rises (rw (← c.deref.ensures.value) c.binary_search.ensures.position) in
    let clear = ap (λ (s : Marks). has s log) c.remove.ensures ∙ clear-at c.self.inside.low log in
    record {
      rises = c.take_out.ensures.rises;
      low = λ other below.
          let had = c.self.invariant.low other below in
          let times = c.take_out.ensures.times other in
          search (rules, mark-other, err-or-ok);
    }

-- one that still stands there was marked, and is
pub invariant_of-self-else-is_err : goal.invariant_of-self-else-is_err
invariant_of-self-else-is_err c =
    let some = rw (← c.self.view_is) at c.requires in
    let stands = found-stands c.args.log c.take_out.new.logs.items c.binary_search.result
    c.take_out.ensures.rises (rw (← c.deref.ensures.value) c.binary_search.ensures.position) in
    record {
      rises = c.take_out.ensures.rises;
      low = λ other below.
          let had = c.self.invariant.low other below in
          let times = c.take_out.ensures.times other in
          grind (arith, nat_tests, err-or-ok c.binary_search.result, c.if-is_err.ensures.value);
    }

-- one from 64 on has no mark
pub invariant_of-self-else-log-lt-LOW_END : goal.invariant_of-self-else-log-lt-LOW_END
invariant_of-self-else-log-lt-LOW_END c = record {
  rises = c.take_out.ensures.rises;
  low = λ other below.
      let had = c.self.invariant.low other below in
      let times = c.take_out.ensures.times other in
      grind (arith, nat_tests, c.if-log-lt-LOW_END.false);
}
