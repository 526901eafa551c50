-- What reaches over the first place is cut, what ends between is taken, and the stretch is put.
use Rattle.std.proofs.Common.{refl}
use Rattle.lab_watch.proofs.Laying.{laid-seen}
use Rattle.lab_watch.proofs.Rising.{Rises-from_sorted}
use Rattle.lab_watch.proofs.stretches.lay.Goals as goal

pub returns : goal.returns
returns c = laid-seen c.args.stretches.now.entries c.cut.new.stretches.entries
    c.take.new.stretches.entries c.insert.new.self.entries c.args.place c.args.end c.args.writer _
    (Rises-from_sorted c.args.stretches.now.entries c.in_ok-first.ensures.was_ordered)
    c.requires.some refl refl c.in-Some.ensures.1 c.in_ok-first.ensures.cut c.take.ensures.taken
    c.in_ok-insert.ensures.entries
