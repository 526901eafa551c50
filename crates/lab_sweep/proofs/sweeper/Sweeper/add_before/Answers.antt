-- The outcome of one seed more comes after the others.
use Rattle.lab_model.proofs.Common.{rules, ◌≡◌, ◌∙◌, ◌+◌, [], ◌∷◌, ap, arith, length, length-append}
use Rattle.lab_sweep.proofs.Running.{outcomes-more}
use Rattle.lab_sweep.proofs.sweeper.Sweeper.add_before.Goals as goal

pub loop-seed-preserved : goal.loop-seed-preserved
loop-seed-preserved g c =
    let m = g.T.Target.meaning in
    let scenario = c.args.accepted.scenario in
    let before = c.loop-seed.self.outcomes.items in
    let told = c.in_ok-accepted.ensures.told in
    let outcome = told.0 in
    let so_far = c.loop-seed.invariant in
    let longer : length c.add_outcome.new.self.outcomes.items ≡ length before + 1 =
    ap length told.2 ∙ length-append before (outcome ∷ []) in
    record {
      each = rw told.2 (outcomes-more m scenario c.args.seeds.prompt c.args.self.now.disks
          c.args.seeds.first c.loop-seed.seed before outcome so_far.each
          (omega (arith, so_far.count)) (rw (so_far.kept, so_far.disks) at told.1));
      count = omega (arith, longer, so_far.count);
      within = omega (arith, longer, so_far.count);
      disks = c.in_ok-accepted.ensures.disks ∙ so_far.disks;
      kept = c.in_ok-accepted.ensures.back ∙ so_far.kept;
    }

-- no seed is left
pub returns-clause-count : goal.returns-clause-count
returns-clause-count g c = search rules
