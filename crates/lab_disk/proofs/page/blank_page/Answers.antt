use Rattle.std.proofs.Common.{◌≡◌, arith}
use Rattle.lab_disk.proofs.page.blank_page.Goals as goal

-- all 64 are made
pub returns : goal.returns
returns c =
    let all : c.loop-i._i ≡ 64 = omega arith in
    rw all at c.loop-i.invariant.zero
