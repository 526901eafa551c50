-- What was read of a flakey line's words, as the definitions of the target say it.
use Rattle.rand_pcg.specs.Lcg.{Lcg}
use Rattle.lab_target.specs.Meaning.{Draft}
use Rattle.lab_flakey.specs.Flakey.{FlakeyLine, drafted}
use Rattle.lab_flakey.specs.declared.line.Given.{Given}
use Rattle.lab_flakey.specs.Words.{pcg_words}

-- the line that was read, but for its device
abbrev pub draft_read : Given → Draft (FlakeyLine Lcg)
draft_read given = drafted pcg_words given.device.now given.counts given.features
