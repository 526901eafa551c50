use Rattle.std.proofs.Common.{rules}
use Rattle.lab_dust.proofs.Sizes.{cut-CutsAt, mask-of_power}
use Rattle.lab_dust.proofs.dust.DustTarget.cut.Goals as goal

-- the cut is at the end of the block
pub returns : goal.returns
returns c =
    let size = c.args.self.now.size in
    let sectors = c.sectors-sectors.result in
    let rest = mask-of_power sectors c.args.place c.sectors-sectors.ensures.some (search rules)
    c.sectors-sectors.ensures.power in
    rw (c.min.ensures, rest) (cut-CutsAt sectors size c.args.place c.args.left
    c.sectors-sectors.ensures.some c.sectors-sectors.ensures.all c.requires.some)
