use Rattle.lab_model.proofs.Common.{rules, ap, sym, ◌∙◌}
use Rattle.std.proofs.Common.{option_copied}
use Rattle.lab_effect.proofs.Mapped.{maps-then}
use Rattle.lab_effect.proofs.map_effect.map_bio.Goals as goal

-- the bio's device has a live table
pub map_by-requires-clause-live : goal.map_by-requires-clause-live
map_by-requires-clause-live g c = search rules

-- and the bio is inside it
pub map_by-requires-clause-fits : goal.map_by-requires-clause-fits
map_by-requires-clause-fits g c = search rules

-- the bio's live table has judged it
pub returns-clause-next : goal.returns-clause-next
returns-clause-next g c =
    let lives = sym c.get.ensures ∙ ap option_copied c.in-Some.is in
    let maps = maps-then g.T.Target.meaning c.args.state.now c.args.number c.in-Dm.device
    c.in-Some.bio.now (rw (← c.state.view_is) lives) (rw (← c.bio.view_is) c.in-Dm.is)
    c.requires.moves.0 c.requires.moves.1 in
    search rules
