-- What the answers of functions are searched with, each ruleset by its function's name.
use Rattle.lab_logs.proofs.Dues.{dues-push, dues-start}
use Rattle.std.proofs.lemmas.List.Sorted.{IsPermutation-insert, IsPermutation-push_more}
use Rattle.std.proofs.lemmas.List.Sorted.{IsPermutation-map}

-- a log is put in, and the others stay
pub ruleset add = IsPermutation-insert

-- with it the agenda has just the logs again
pub ruleset push = (dues-push, IsPermutation-push_more)

-- the logs start, in whatever order they stood
pub ruleset logs_start = (dues-start, IsPermutation-map)
