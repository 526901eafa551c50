-- The mark or the search tells whether the number stands there.
use Rattle.lab_model.proofs.Common.{◌∙◌}
use Rattle.lab_bios.proofs.Tallies.{found-stands}
use Rattle.lab_bios.proofs.log_tally.LogTally.has.Goals as goal

-- the search finds the number where it stands, and nothing where it doesn't
pub returns-else-log-lt-LOW_END : goal.returns-else-log-lt-LOW_END
returns-else-log-lt-LOW_END c =
    c.is_ok.ensures.value ∙ rw (← c.self.view_is) (found-stands c.args.log
    c.self.inside.logs.items c.binary_search.result c.self.invariant.rises
    (rw (← c.deref.ensures.value) c.binary_search.ensures.position))
