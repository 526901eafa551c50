-- What the answers of functions are searched with, each ruleset by its function's name.
use Rattle.lab_disk.proofs.Slots.{put-shown, same-made}
use Rattle.lab_disk.proofs.Spans.{All-shown, filled_shown, inside_end, part_more, length-part}
use Rattle.lab_disk.proofs.Spans.{written_set}
use Rattle.std.proofs.lemmas.List.{length-replicate}
use Rattle.std.proofs.lemmas.List.Elements.{All-replicate}
use Rattle.std.proofs.lemmas.Result.{on_ok_weaker}

-- sectors of the byte stand in place of sectors
pub ruleset fill = (All-shown, All-replicate, length-replicate, filled_shown)

-- the part so far is one sector longer
pub ruleset sectors = (inside_end, part_more, length-part)

-- full pages stay full
pub ruleset set = All-shown

-- the sectors of the bytes are put
pub ruleset write = (on_ok_weaker, written_set)

-- a page stays where a page was
pub ruleset pages_fill = (put-shown, length-replicate, same-made)

-- a page stays where a page was
pub ruleset put = (put-shown, same-made)
