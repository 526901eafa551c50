-- What the answers of functions are searched with, each ruleset by its function's name.
use Rattle.lab_dust.proofs.BlockLemmas.{is_listed-added, is_listed-removed}
use Rattle.lab_dust.proofs.Sets.{remove_key-without_block}
use Rattle.lab_dust.proofs.Sizes.{block_at-sectors, shl-is_power_of_two}
use Rattle.lab_target.proofs.Numbers.{number_of-within}
use Rattle.std.proofs.lemmas.Nat.{pow_pos}

-- a key of a rising list is taken out wherever it stands
pub ruleset remove = remove_key-without_block

-- the block by sectors is the block by bytes
pub ruleset block_at = (block_at-sectors, pow_pos)

-- 1 is doubled fewer than 64 times
pub ruleset sectors = shl-is_power_of_two

-- the offset is a number of at most the greatest sector
pub ruleset read_given = number_of-within

-- each change of the set by its lemma
pub ruleset blocks_are_a_set = (is_listed-added, is_listed-removed)
