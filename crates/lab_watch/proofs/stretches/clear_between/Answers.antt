-- What reaches over the first place is cut, what ends between is taken, and the rest is trimmed.
use Rattle.std.proofs.Common.{◌∙◌, ◌+◌, ap, arith, sym}
use Rattle.std.proofs.lemmas.Result.{on_ok_weaker}
use Rattle.lab_watch.specs.Stretches.{first_from}
use Rattle.lab_watch.proofs.Laying.{cleared-seen}
use Rattle.lab_watch.proofs.Rising.{Rises-from_sorted}
use Rattle.lab_watch.proofs.Taken.{first-taken}
use Rattle.lab_watch.proofs.stretches.clear_between.Goals as goal

pub trim-requires-clause-first : goal.trim-requires-clause-first
trim-requires-clause-first c = c.take-behind.ensures.first
    ∙ ap (λ entries. first_from entries (c.args.place + 1)) c.take-behind.ensures.taken
    ∙ first-taken (c.args.place + 1) (c.args.end + 1) c.args.end c.cut.new.stretches.entries
    (omega arith) (omega arith)
    ∙ sym (ap (λ entries. first_from entries c.args.end) c.take-behind.ensures.taken)

pub returns : goal.returns
returns c = on_ok_weaker c.trim.result (λ trimmed_is. cleared-seen c.args.stretches.now.entries
    c.cut.new.stretches.entries c.take-behind.new.stretches.entries _ c.args.place c.args.end
    (Rises-from_sorted c.args.stretches.now.entries c.in_ok-first.ensures.was_ordered)
    c.requires.some
    c.in_ok-first.ensures.cut c.take-behind.ensures.taken trimmed_is) c.trim.ensures
