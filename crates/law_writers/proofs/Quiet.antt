-- Events that neither judge nor answer: they leave the disks, and tell nothing.
use Rattle.lab_model.proofs.Common.{rules, [], inl, length, length-change_numbered, None, refl}
use Rattle.lab_model.proofs.Common.{sym, true, ◌∙◌, ◌≡◌, arith, effect, is_enabled, Meaning, Next}
use Rattle.lab_model.proofs.Common.{None-not-Some, Scenario, State}
use Rattle.std.proofs.Common.{append-nil}
use Rattle.lab_watch.specs.Grids.{Grid}
use Rattle.law_slots.proofs.WalkRuns.{AfterEach, next-gives}
use Rattle.law_sectors_touched.proofs.KeptBios.{edit-all}
use Rattle.law_bytes_carried.proofs.Words.{Clock, Control, Event, Finish, LeavesAll, Line, Map}
use Rattle.law_bytes_carried.proofs.Words.{Release, Serve}
use Rattle.law_reads_recorded.specs.Recorded.{Records}
use Rattle.law_writers.proofs.Lasting.{Changes}

-- the disks stay, and as many bios are numbered
pub record Stays {S : Type 0} (s next : State S) : Type 0 where
  pub disks : next.disks ≡ s.disks
  pub count : length next.bios ≡ length s.bios

-- what an event leaves, where no disk serves and no bio is finished: the disks; the script and the
-- clock leave all bios, too
abbrev pub StaysBy : {S : Type 0} → State S → Event → State S → Type 0
StaysBy s (Line log) next = next.disks ≡ s.disks
StaysBy s (Map at) next = next.disks ≡ s.disks
StaysBy s (Serve at) next = Unit {0}
StaysBy s (Release at) next = Stays s next
StaysBy s (Finish at) next = Unit {0}
StaysBy s Control next = (next.disks ≡ s.disks) × (next.bios ≡ s.bios)
StaysBy s Clock next = (next.disks ≡ s.disks) × (next.bios ≡ s.bios)

module _ {S : Type 0} (m : Meaning S) (c : Scenario S) (s : State S) where
  -- each does
  each-stays : AfterEach m c s (StaysBy s)
  each-stays = search (rules, length-change_numbered)

  -- so an event that comes does
  pub event-stays : (event : Event) (next : State S) → is_enabled c s event ≡ true
      → effect m c s event ≡ Next next → StaysBy s event next
  event-stays = next-gives m c s (StaysBy s) each-stays

-- where the bios are the same all are left
pub same-leaves : {S : Type 0} (s next : State S) → next.bios ≡ s.bios → LeavesAll s next
same-leaves s next bios = edit-all (record {
  numbered = omega arith;
  at = 0;
  stage = λ b. b.stage;
  flies = λ b stood. refl;
  made = [];
  enter = λ b among. absurd among;
  bios = bios ∙ sym (append-nil s.bios);
}) (λ b stood. absurd (None-not-Some stood))

-- nothing changes of what is known and recorded
pub quiet-changes : {S : Type 0} (c : Scenario S) (s : State S) (records : Records) (reads : Grid)
    → Changes c s 0 records records reads reads
quiet-changes c s records reads = record {
  own = λ sector. None;
  keeps = λ first place apart none. refl;
  says = λ n sector bytes apart is. inl is;
  tells = λ first place i bio bytes apart r is. absurd (None-not-Some is);
  goes = λ first place i bio bytes r is n k other apart there quiet. absurd (None-not-Some is);
}
