-- What the finder has noted in the end is what is noted in the history.
use Rattle.lab_sweep.proofs.Watching.{finds-all}
use Rattle.lab_sweep.proofs.watched.find_all.Goals as goal

pub returns-clause-noted : goal.returns-clause-noted
returns-clause-noted g c =
    rw c.into_noted.ensures (finds-all g.T.Target.meaning c.args.lab.now c.simulate_watched.new.self
    c.new-finder.result c.simulate_watched.new.observer c.args.sought
    c.in_ok-simulate_watched.ensures.watched c.requires c.new-finder.ensures.none
    c.new-finder.ensures.nothing)
