-- The disk of the number is the one that serves.
use Rattle.lab_model.proofs.Common.{rules, ◌≡◌, sym, subst, Gave}
use Rattle.std.specs.Prelude.{OnOk}
use Rattle.std.proofs.lemmas.List.{set-get_or}
use Rattle.lab_effect.proofs.DiskLemmas.{found-changes, disk-none, found-sectors}
use Rattle.lab_effect.specs.Served.{disk_sectors, given_to}
use Rattle.lab_effect.specs.Telling.{told_logs}
use Rattle.lab_effect.proofs.disk_effect.serve_at.Goals.{After-index_mut-ram}
use Rattle.lab_effect.proofs.disk_effect.serve_at.Goals as goal

-- the disk is there, so it is found
pub unreachable-requires : goal.unreachable-requires
unreachable-requires c = search (rules, disk-none)

-- its sectors are those of the number
its : (c : After-index_mut-ram)
    → disk_sectors c.args.disks.now.items c.args.number ≡ c.index_mut-ram.result.now.sectors
its c = found-sectors c.args.disks.now.items c.args.number c.in-Some.place
    c.index_mut-ram.result.now (rw (sym c.deref.ensures.value) (sym c.in-Some.ensures))
    c.index_mut-ram.ensures.value

-- the bio's are inside
pub serve_bio-requires-clause-inside : goal.serve_bio-requires-clause-inside
serve_bio-requires-clause-inside c = search (rules, its, After-index_mut-ram)

-- so it hands on what the number's disk gives
pub returns-clause-handed : goal.returns-clause-handed
returns-clause-handed c = search (rules, its, After-index_mut-ram)

-- the log is told of that
pub returns-clause-logs : goal.returns-clause-logs
returns-clause-logs c =
    let is : disk_sectors c.args.disks.now.items c.args.number ≡ c.ram.inside.disk =
    search (rules, its, After-index_mut-ram) in
    subst (λ sectors. OnOk c.serve_bio.result (c.serve_bio.new.logs ≡ told_logs c.args.logs.now
    c.args.bio.now (Gave (given_to sectors c.args.bio.now c.args.bio.now.kind))
    c.args.bio.now.parent)) (sym is) c.serve_bio.ensures.logs

-- it alone changes, as the bio asks
pub returns-clause-disks : goal.returns-clause-disks
returns-clause-disks c = search (rules, found-sectors, found-changes, set-get_or)
