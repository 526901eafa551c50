-- The new part is the last one, and its heading is noted. The kinds of parts that it isn't of stay.
use Rattle.std.proofs.Common.{rules}
use Rattle.std.proofs.lemmas.List.{map-append}
use Rattle.std.proofs.lemmas.List.Elements.{filter_map-append}
use Rattle.lab_text.proofs.BundleLemmas.{opened-add, as_script-none, as_history-none}
use Rattle.lab_text.proofs.draft.Draft.add.Goals as goal

-- a table
pub returns-in_ok-push-in-Table : goal.returns-in_ok-push-in-Table
returns-in_ok-push-in-Table c = search (rules, opened-add, map-append, filter_map-append)

-- a script
pub returns-in-Script : goal.returns-in-Script
returns-in-Script c = search (rules, opened-add, filter_map-append, as_script-none)

-- a log
pub returns-in_ok-push-in-Log : goal.returns-in_ok-push-in-Log
returns-in_ok-push-in-Log c = search (rules, opened-add, filter_map-append, map-append)

-- a history
pub returns-in-History : goal.returns-in-History
returns-in-History c = search (rules, opened-add, filter_map-append, as_history-none)
