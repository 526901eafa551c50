use Rattle.std.proofs.Common.{◌≡◌, replicate, None}
use Rattle.lab_disk.proofs.pages.Pages.new.Given as goal

-- no slot has a page
abbrev pub invariant-loop-i : goal.invariant-loop-i
invariant-loop-i l = l.slots.items ≡ replicate l._i None
