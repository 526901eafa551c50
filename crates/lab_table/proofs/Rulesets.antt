-- What the answers of functions are searched with, each ruleset by its function's name.
use Rattle.lab_table.proofs.Lines.{end-last}

-- the last line ends at the table's end
pub ruleset size = end-last
