-- The ones of the word are as many as its members.
use Rattle.std.proofs.Common.{length, ap, ◌∙◌}
use Rattle.lab_index.specs.Numbers.{Marks, members}
use Rattle.lab_index.proofs.word_set.WordSet.count.Goals as goal

-- its ones are its members
pub returns-clause-count : goal.returns-clause-count
returns-clause-count c =
    c.from.ensures ∙ c.ones.ensures.members ∙ ap (λ (s : Marks). length (members s)) c.self.view_is
