-- One seed more is gone through.
use Rattle.lab_model.proofs.Common.{◌∙◌, ◌+◌, ◌-◌, arith}
use Rattle.lab_sweep.proofs.Searches.{search-more}
use Rattle.lab_sweep.proofs.seeking.seek_before.Goals as goal

pub loop-seed-preserved : goal.loop-seed-preserved
loop-seed-preserved g c =
    let so_far = c.loop-seed.invariant in
    let seed = c.loop-seed.seed in
    let asked = c.args.asked in
    let first = asked.seeds.first in
    let told = c.in_ok-accepted.ensures.told in
    record {
      all = search-more g.T.Target.meaning c.args.accepted.scenario asked.seeds.prompt asked.sought
          asked.by_line first seed (seed - first) (seed + 1 - first) told.0 c.loop-seed.searcher
          c.seek_one.new.searcher so_far.all (omega arith) (omega arith) (rw so_far.kept at told.1)
          (rw so_far.kept at told.2);
      within = omega arith;
      kept = c.in_ok-accepted.ensures.back ∙ so_far.kept;
    }
