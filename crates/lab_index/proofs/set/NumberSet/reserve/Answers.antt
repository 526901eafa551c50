-- A set that grows keeps its members, and is counted again.
use Rattle.std.proofs.Common.{length-append, rules}
use Rattle.std.proofs.lemmas.List.{length-replicate}
use Rattle.std.proofs.Math.Pow.{pow_mono}
use Rattle.std.proofs.lemmas.Nat.{one_shl}
use Rattle.lab_index.proofs.Members.{length-row_of, IsWider, keeps-widened, twice}
use Rattle.lab_index.proofs.Fills.{get_or-filled}
use Rattle.lab_index.proofs.set.NumberSet.reserve.Goals.{After-deref, In_ok-words}
use Rattle.lab_index.proofs.set.NumberSet.reserve.Goals as goal

-- all old words stay
pub widened-requires : goal.widened-requires
widened-requires c = search (rules, one_shl, length-row_of, After-deref)

-- the new words are a power of two
wider : (c : In_ok-words)
    → IsWider c.self.inside.words.items c.in_ok-words.words.items c.in_ok-height.height
wider c = search (rules, one_shl, length-append, length-replicate, length-row_of)

-- which is not too great
pub tree_of-requires : goal.tree_of-requires
tree_of-requires c = search (rules, wider, In_ok-words, pow_mono)

-- the new tree counts the new words
pub invariant_of-self : goal.invariant_of-self
invariant_of-self c = search (rules, wider, In_ok-words, get_or-filled)

-- the height was chosen for the reach
pub returns-clause-ok : goal.returns-clause-ok
returns-clause-ok c = search (rules, wider, In_ok-words, length-row_of)

-- the new words have zero bits
pub returns-clause-members : goal.returns-clause-members
returns-clause-members c = keeps-widened _ _ _ _ c.self.view_is
    (wider (goal.at.returns-clause-members c).In_ok-words).same

-- and they are twice as many, or more
pub returns-clause-doubled : goal.returns-clause-doubled
returns-clause-doubled c below =
    let wide = wider (goal.at.returns-clause-doubled c).In_ok-words in
    let more = twice _ _ _ c.self.invariant.power wide.few in
    search (rules, length-row_of)
