-- What the answers of functions are searched with, each ruleset by its function's name.
use Rattle.lab_advice.proofs.EventLines.{drop_end, drop_tail, event_among-skipped, event_among-kept}
use Rattle.lab_advice.proofs.PlaceLemmas.{line_shown_short, line_shown_long}
use Rattle.lab_text.proofs.LinesLemmas.{length-lines_of}
use Rattle.std.proofs.Common.{add-one, append_assoc}
use Rattle.std.proofs.lemmas.List.{length-drop}

-- at first all lines are left, no more than the bytes
pub ruleset end_number = length-lines_of

-- one more line is passed, if there is one
pub ruleset lines_behind = (drop_end, add-one, drop_tail)

-- one event is passed
pub ruleset event_line = (length-drop, length-lines_of, event_among-skipped, event_among-kept)

-- a longer line is shown by its first 200 bytes and `..`
pub ruleset push_shown = (line_shown_short, append_assoc, line_shown_long)
