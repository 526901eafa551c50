-- The number is taken from where the search finds it.
use Rattle.lab_model.proofs.Common.{rules, arith}
use Rattle.lab_bios.proofs.Tallies.{falls-remove, found-at, not-found}
use Rattle.lab_bios.proofs.log_tally.take_out.Goals as goal

-- the search finds it, since it stands there
pub unreachable-requires : goal.unreachable-requires
unreachable-requires c =
    let none = not-found c.args.log c.args.logs.now.items c.in_default.field-0
    c.requires.rises (rw (← c.deref.ensures.value) c.in_default.ensures.position) in
    omega (arith, none, c.requires.stands)

-- without it the others still don't fall
pub returns-clause-rises : goal.returns-clause-rises
returns-clause-rises c = search (rules, found-at, falls-remove)
