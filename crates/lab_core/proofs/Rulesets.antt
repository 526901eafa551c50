-- What the answers of functions are searched with, each ruleset by its function's name.
use Rattle.lab_core.proofs.FreeLines.{some-free}
use Rattle.law_slots.proofs.LogsStand.{logs-stand}

-- there are marks just where some log may take a line
pub ruleset can_take_line = (logs-stand, some-free)
