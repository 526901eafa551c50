-- The last seed is gone through after the others.
use Rattle.lab_model.proofs.Common.{◌+◌, ◌-◌, arith}
use Rattle.lab_sweep.proofs.Searches.{search-more}
use Rattle.lab_sweep.proofs.seeking.seek_all.Goals as goal

pub returns-clause-all : goal.returns-clause-all
returns-clause-all g c =
    let before = c.in_ok-accepted.ensures in
    let asked = c.args.asked in
    let first = asked.seeds.first in
    let last = asked.seeds.last in
    let told = c.in_ok-back.ensures.told in
    search-more g.T.Target.meaning c.args.accepted.scenario asked.seeds.prompt asked.sought
    asked.by_line first last (last - first) (last + 1 - first) told.0 c.seek_before.new.searcher
    c.seek_one.new.searcher before.all (omega arith) (omega arith) (rw before.back at told.1)
    (rw before.back at told.2)
