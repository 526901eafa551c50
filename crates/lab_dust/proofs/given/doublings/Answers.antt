use Rattle.lab_dust.proofs.Sizes.{doublings-few, size-doubled}
use Rattle.lab_dust.proofs.given.doublings.Goals as goal

-- a block has at most 2 ^ 21 sectors
pub returns-clause-few : goal.returns-clause-few
returns-clause-few c = doublings-few c.args.size c.requires

-- a block has whole sectors, a power of two
pub returns-clause-all : goal.returns-clause-all
returns-clause-all c = size-doubled c.args.size c.requires
