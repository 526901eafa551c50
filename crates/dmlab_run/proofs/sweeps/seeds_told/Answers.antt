-- A search for findings has no disks to tell the runs apart by.
use Rattle.dmlab_run.proofs.sweeps.seeds_told.Goals as goal

pub returns-then-is_seeking : goal.returns-then-is_seeking
returns-then-is_seeking g c = c.seeds_searched.ensures c.args.disks
