-- A replaced word is counted again.
use Rattle.std.proofs.Common.{rules, ◌≡◌, length, arith}
use Rattle.std.proofs.lemmas.Nat.{ones-le}
use Rattle.lab_index.proofs.Writes.{bits-put, leaf-ones}
use Rattle.lab_index.proofs.counts.put_fuller.Goals as goal

-- a word has 64 bits at most
pub raise-requires-clause-few : goal.raise-requires-clause-few
raise-requires-clause-few c = search (rules, leaf-ones, ones-le)

-- the word's leaf has the new count, and the rest stays
pub returns-clause-bits : goal.returns-clause-bits
returns-clause-bits c =
    let words = c.args.words.now in
    let counts = c.args.counts.now in
    let leaf = leaf-ones words.items counts.items c.args.at c.requires.inside c.requires.bits in
    let size : c.len.result ≡ length words.items = omega (arith, c.len.ensures, words.ok.0) in
    bits-put words.items counts.items _ c.raise.new.counts c.len.result counts.len c.args.at
    c.args.word _ c.requires.bits size c.deref_mut.ensures.value
    (omega (arith, c.raise.auto.counts, c.deref_mut.ensures.len, counts.ok.0)) c.requires.inside
    c.ranges.word.fits (rw (size, c.deref_mut.ensures.value) (omega (arith, c.requires.more, leaf)))
    c.raise.ensures.tree c.raise.ensures.leaves
