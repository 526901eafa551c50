use Rattle.std.proofs.Common.{◌∙◌, ◌++◌, ◌-◌, ap, length, take, drop}
use Rattle.std.proofs.lemmas.List.{take_rest}
use Rattle.lab_queue.proofs.row.Row.split.Goals as goal

-- the upper row is empty, so it gets the upper half alone
pub returns-clause-upper : goal.returns-clause-upper
returns-clause-upper c = c.in-Ok.ensures.items
    ∙ ap (λ s. s ++ take (length c.deref.result.now - 64) (drop 64 c.deref.result.now))
    (c.upper.view_is ∙ c.requires.empty) ∙ take_rest c.deref.result.now 64
    ∙ ap (drop 64) (c.deref.ensures.value ∙ c.self.view_is)
