use Rattle.std.proofs.Common.{rules}
use Rattle.lab_queue.proofs.Searches.{first-of-next, none-of-next}
use Rattle.lab_queue.proofs.ranking.Ranking.first_above.Goals as goal

-- what isn't before the next rank's first number is above the rank
pub returns-clause-first : goal.returns-clause-first
returns-clause-first c = search (rules, first-of-next)

-- what is before it isn't above
pub returns-clause-none : goal.returns-clause-none
returns-clause-none c =
    rw (← c.self.view_is) (none-of-next _ c.args.rank _ c.in_ok-above.ensures.1 _
    c.first_from.ensures.none)
