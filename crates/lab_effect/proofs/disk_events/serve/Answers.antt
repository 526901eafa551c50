-- A disk serves a bio as the definition says.
use Rattle.lab_model.proofs.Common.{length-take, rules, false, sym}
use Rattle.lab_effect.specs.Served.{disk_sectors, given_to}
use Rattle.lab_effect.proofs.HandedLemmas.{handed-placed}
use Rattle.lab_effect.proofs.Leads.{leads}
use Rattle.lab_effect.proofs.ServeLemmas.{serve-then}
use Rattle.lab_effect.proofs.disk_events.serve.Goals as goal

-- the disk is there, and the bio's sectors are inside it
pub serve_at-requires-clause-disk : goal.serve_at-requires-clause-disk
serve_at-requires-clause-disk g c = search rules

-- a write has as many sectors as its span
pub serve_at-requires-clause-fills : goal.serve_at-requires-clause-fills
serve_at-requires-clause-fills g c = search rules

-- what it hands on has its place at the bio that it is a piece of
pub leave-requires : goal.leave-requires
leave-requires g c =
    let bio = c.in-Some.bio.now in
    rw (← c.in-Some.ensures) (handed-placed c.state.inside.traffic.bios bio false
    (given_to (disk_sectors c.state.inside.disks.items c.in-Ram.disk) bio bio.kind)
    c.in_ok-handed.handed.items bio.parent _ (search (rules, length-take))
    c.in_ok-handed.ensures.handed (rw (← c.state.view_is, ← c.in-Some.ensures) at c.requires.room))

-- the bios, the disks and the logs are those that the definition says
pub returns-clause-next : goal.returns-clause-next
returns-clause-next g c =
    let moves = rw (← c.state.view_is) at c.requires.moves in
    let serves = rw (← c.state.view_is) at (serve-then c.args.state.now c.args.number
    c.in-Some.bio.now c.in-Ram.disk (rw (← c.state.view_is) (sym c.in-Some.ensures))
    (rw (← c.bio.view_is) c.in-Ram.is)) in
    let left = (rw (← c.in-Some.ensures) at (c.leave.ensures.bios (given_to
    (disk_sectors c.state.inside.disks.items c.in-Ram.disk) c.in-Some.bio.now
    c.in-Some.bio.now.kind))) c.in_ok-handed.ensures.handed in
    rw (
      ← c.state.view_is,
      c.leave.ensures.clock,
      c.leave.ensures.devices,
      left,
      c.in_ok-handed.ensures.disks,
      c.in_ok-handed.ensures.logs,
    ) (leads moves (λ next is. (serves next is).is))
