-- A replaced word is counted again.
use Rattle.std.proofs.Common.{◌≡◌, length, arith}
use Rattle.lab_index.proofs.Writes.{bits-put, leaf-ones}
use Rattle.lab_index.proofs.counts.put_emptier.Goals as goal

-- the word's leaf has the new count, and the rest stays
pub returns-clause-bits : goal.returns-clause-bits
returns-clause-bits c =
    let words = c.args.words.now in
    let counts = c.args.counts.now in
    let leaf = leaf-ones words.items counts.items c.args.at c.requires.inside c.requires.bits in
    let size : c.len.result ≡ length words.items = omega (arith, c.len.ensures, words.ok.0) in
    bits-put words.items counts.items _ c.lower.new.counts c.len.result counts.len c.args.at
    c.args.word _ c.requires.bits size c.deref_mut.ensures.value
    (omega (arith, c.lower.auto.counts, c.deref_mut.ensures.len, counts.ok.0)) c.requires.inside
    c.ranges.word.fits (rw (size, c.deref_mut.ensures.value) (omega (arith, c.requires.less, leaf)))
    c.lower.ensures.tree c.lower.ensures.leaves
