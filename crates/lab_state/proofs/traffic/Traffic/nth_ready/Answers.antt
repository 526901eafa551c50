-- The event is that of the marked bio of this rank.
use Rattle.lab_model.proofs.Common.{rules, sym, ◌∙◌}
use Rattle.lab_state.proofs.Ready.{below-reach, comes-ready, nth-ready, told-ready}
use Rattle.lab_state.proofs.traffic.Traffic.nth_ready.Goals as goal

-- no bio has this rank
pub returns-in_err-place : goal.returns-in_err-place
returns-in_err-place g c = rw (
  ← c.self.view_is,
  nth-ready c.self.invariant.indexed.marked c.args.rank,
  ← c.nth.ensures,
  c.in_err-place.was,
) (search rules)

-- a member is below the reach, which fits
pub prove-unreachable-requires : goal.prove-unreachable-requires
prove-unreachable-requires g c = search (rules, below-reach)

-- no bio lives at its number
pub returns-in_err-bio : goal.returns-in_err-bio
returns-in_err-bio g c =
    let member = sym c.nth.ensures ∙ c.in_ok-place.was in
    rw (← c.self.view_is, nth-ready c.self.invariant.indexed.marked c.args.rank, member)
    (search rules)

-- the event of the bio that lives there, to which one may come
pub returns : goal.returns
returns g c =
    let member = sym c.nth.ensures ∙ c.in_ok-place.was in
    let comes = comes-ready c.self.invariant.indexed.marked c.args.rank c.in_ok-place.place member in
    rw (← c.self.view_is, nth-ready c.self.invariant.indexed.marked c.args.rank, member)
    (search (rules, comes, told-ready))
