-- Marked sectors: they are as many as before, and none where there are none.
use Rattle.lab_model.proofs.Common.{rules, ◌≡◌, [], length, Marks, Sectors, marked, length-change}

-- marks keep the length
pub length_marked : (marks : Marks) (sectors : Sectors)
    → length (marked marks sectors) ≡ length sectors
length_marked marks sectors = search (rules, length-change)

-- no sectors stay none where they are marked
pub marked-none : (marks : Marks) → marked marks [] ≡ []
marked-none marks = search rules
