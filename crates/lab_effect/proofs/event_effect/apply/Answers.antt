-- An event does what the function of its kind does.
use Rattle.lab_model.proofs.Common.{rules}
use Rattle.lab_effect.proofs.event_effect.apply.Goals as goal

-- a log's line is not wrong, and its log's moment after it fits
pub take_line-requires : goal.take_line-requires
take_line-requires g c = search rules

-- nor is the judging of a bio
pub map_bio-requires-clause-moves : goal.map_bio-requires-clause-moves
map_bio-requires-clause-moves g c = (rw c.in-Map.is at c.requires).moves

-- nor is a bio at a disk: it has as many sectors as it writes, and its answer has its place
pub serve-requires : goal.serve-requires
serve-requires g c = search rules

-- the script's step finds what it needs
pub control-requires : goal.control-requires
control-requires g c = rw c.in-Control.is at c.requires

-- the log has taken its line
pub returns-in-Line-clause-next : goal.returns-in-Line-clause-next
returns-in-Line-clause-next g c = rw c.in-Line.is c.take_line.ensures.next

-- the bio is judged
pub returns-in-Map-clause-next : goal.returns-in-Map-clause-next
returns-in-Map-clause-next g c = rw c.in-Map.is c.map_bio.ensures.next

-- the bio is served
pub returns-in-Serve-clause-next : goal.returns-in-Serve-clause-next
returns-in-Serve-clause-next g c = rw c.in-Serve.is c.serve.ensures.next

-- the step is done
pub returns-in-Control-clause-next : goal.returns-in-Control-clause-next
returns-in-Control-clause-next g c = rw c.in-Control.is c.control.ensures.next
