-- The new tree counts the bits of the words.
use Rattle.std.proofs.lemmas.List.{length-replicate, drop-replicate, get_or-append_right}
use Rattle.std.proofs.lemmas.List.{get_or-drop}
use Rattle.std.proofs.Common.{rules, ◌≡◌, ℕ, ◌+◌, ◌*◌, ◌<◌, List, length, drop}
use Rattle.std.proofs.Common.{arith, zero-add}
use Rattle.std.specs.Prelude.{slice_index}
use Rattle.std.proofs.lemmas.Nat.{ones-le}
use Rattle.std.proofs.Math.Seq.{take-nil}
use Rattle.lab_index.proofs.Writes.{zero-sum, zero-before, filled, filled-more, filled-size, zeroes}
use Rattle.lab_index.proofs.Writes.{written_back}
use Rattle.lab_index.proofs.Fills.{get_or-fill}
use Rattle.lab_index.proofs.counts.tree_of.Goals as goal

-- at first all are zero
pub loop-at-init : goal.loop-at-init
loop-at-init c =
    let items : c.resize.new.self.items ≡ zeroes (2 * length c.args.words.now) =
    search (rules, take-nil) in
    search (rules, length-replicate, drop-replicate, get_or-fill, zero-sum, zero-before)

-- a leaf that isn't filled is zero
clear-leaf : (words counts : List ℕ) (at : ℕ) → at < length words
    → drop (length words) counts ≡ filled words at → slice_index counts (length words + at) ≡ 0
clear-leaf words counts at inside leaves =
    search (rules, get_or-drop, get_or-append_right, filled-size, get_or-fill)

-- so it gets no more than its word has bits
pub raise-requires-clause-few : goal.raise-requires-clause-few
raise-requires-clause-few c = search (rules, clear-leaf, ones-le)

-- one more leaf is filled
pub loop-at-preserved : goal.loop-at-preserved
loop-at-preserved c =
    let counts = c.loop-at.counts in
    let whole : length c.raise.new.counts ≡ counts.len =
    omega (arith, c.raise.auto.counts, c.deref_mut.ensures.len, counts.ok.0) in
    let clear = clear-leaf c.args.words.now counts.items c.loop-at.at (omega arith)
    c.loop-at.invariant.leaves in
    let leaves = rw (c.deref_mut.ensures.value, clear, zero-add, c.loop-at.invariant.leaves)
    at c.raise.ensures.leaves in
    search (rules, written_back, filled-more)
