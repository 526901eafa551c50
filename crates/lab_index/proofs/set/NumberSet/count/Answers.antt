-- What is counted are the members.
use Rattle.std.proofs.Common.{◌<◌, ◌∙◌, length, arith, ap, sym}
use Rattle.std.proofs.lemmas.Bool.{eqb-false}
use Rattle.std.proofs.lemmas.List.{get_or_read}
use Rattle.lab_index.specs.Numbers.{Marks, members}
use Rattle.lab_index.proofs.Members.{count-members}
use Rattle.lab_index.proofs.set.NumberSet.count.Goals as goal

-- all that is counted are the members
pub returns : goal.returns
returns c =
    let words = c.self.inside.words in
    let counts = c.self.inside.counts in
    let some : 0 < length words.items =
    omega (arith, eqb-false words.len 0 (sym c.is_empty.ensures ∙ c.if-is_empty.false), words.ok.0)
    in
    let size = c.self.invariant.bits.tree.low.size in
    c.from.ensures ∙ get_or_read counts.items 0 c.index.result.now (omega arith) c.index.ensures 0
    ∙ count-members c.self.invariant ∙ ap (λ (s : Marks). length (members s)) c.self.view_is
