-- One mark is cleared, and the words stay counted.
use Rattle.std.proofs.Common.{rules}
use Rattle.std.proofs.Common.{◌≡◌, ◌+◌, ◌/◌, get_or, ◌<◌, ◌≤◌, length, arith}
use Rattle.std.specs.Prelude.{count_ones}
use Rattle.std.proofs.lemmas.List.{get_or-set_other, get_or_read}
use Rattle.lab_index.proofs.Members.{few-words, first-until}
use Rattle.lab_index.proofs.Sets.{inside_words, set-read}
use Rattle.lab_index.proofs.WordSets.{ones-less}
use Rattle.lab_index.proofs.set.NumberSet.remove.Goals.{After-without_bit-less}
use Rattle.lab_index.proofs.set.NumberSet.remove.Goals as goal

-- there are few words
pub put_emptier-requires-clause-small : goal.put_emptier-requires-clause-small
put_emptier-requires-clause-small c = few-words c.self.invariant

-- which gets one bit less
less : (c : After-without_bit-less)
    → count_ones c.without_bit-less.result + 1
    ≡ count_ones (get_or c.self.inside.words.items (c.args.n / 64) 0)
less c =
    let below : c.args.n < length c.args.self.now = omega (arith, c.reach.ensures) in
    search (rules, ones-less, get_or_read, inside_words)

-- as its count is to be
pub put_emptier-requires-clause-less : goal.put_emptier-requires-clause-less
put_emptier-requires-clause-less c =
    less (goal.at.put_emptier-requires-clause-less c).After-without_bit-less

-- its word wasn't zero, so the first that may not be zero is no later
until : (c : After-without_bit-less) → c.self.inside.first ≤ c.args.n / 64
until c = first-until c.self.invariant _ (omega (arith, less c))

-- the words before it are still zero
pub behind_zero-self-inside-requires : goal.behind_zero-self-inside-requires
behind_zero-self-inside-requires c =
    rw (c.deref.ensures.value, c.put_emptier.ensures.word) (λ k below.
    let upto =
    until (goal.at.behind_zero-self-inside-requires c).After-without_bit-less in
    search (rules, get_or-set_other))

-- its bit is changed
pub returns-clause-clear : goal.returns-clause-clear
returns-clause-clear c = search (rules, set-read)
