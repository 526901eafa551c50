-- Each step of the script that may come goes on to a state that fits: it finds its device and its
-- table; where a bio stands, a live table stays as long, and the same where it flies; and none
-- flies where a device is suspended.
use Rattle.lab_model.proofs.Common.{◌≡◌, ℕ, zero, suc, ◌≤◌, Bool, true, false, List, [], ◌∷◌, ◌++◌}
use Rattle.lab_model.proofs.Common.{Option, Some, None, IfSome, ◌⊎◌, inl, inr, drop, slice_get}
use Rattle.lab_model.proofs.Common.{refl, sym, ap, ◌∙◌, le_refl, ◌+◌, length}
use Rattle.lab_model.proofs.Common.{subst, rules, option_map, not-true, Dm, Meaning, Shape, created}
use Rattle.lab_model.proofs.Common.{option_or, swapped, with_mode, flies_at}
use Rattle.lab_model.proofs.Common.{has_flight, change, Scenario, Slot, State, bio_of}
use Rattle.lab_model.proofs.Common.{Table, size_of, live_size, slot_at, Devices, devices_image}
use Rattle.lab_model.proofs.Common.{walk_order, DevicesStand, FineFrom, OrderFine, phase_after}
use Rattle.lab_model.proofs.Common.{None-not-Some, Some-holds, there-passes, Bio, named_version}
use Rattle.lab_model.proofs.Common.{image, and_parts, length-map, Lawful, control, order_effect}
use Rattle.lab_model.proofs.Common.{effect, is_enabled, is_started}
use Rattle.lab_model.specs.declared.reply.Reply.{Reply}
use Rattle.lab_model.specs.declared.phase.Phase.{Phase}
use Rattle.lab_model.proofs.Common.{drop-found, map-cases, line_at-image, line_at, Next}
use Rattle.lab_model.specs.declared.micro.Micro.{Micro}
use Rattle.lab_model.specs.declared.micro.Mode.TheVariants.{Draining, Suspended}
use Rattle.lab_model.specs.declared.micro.Order.{Order}
use Rattle.lab_model.specs.declared.micro.Order.TheVariants.{Create, Load, Clear, Begin, Drained}
use Rattle.lab_model.specs.declared.micro.Order.TheVariants.{Swap, Remove, Message, Status, Replay}
use Rattle.lab_model.specs.declared.micro.Order.TheVariants.{Wait, Table as TableOf}
use Rattle.lab_model.specs.declared.event.Event.TheVariants.{Control}
use Rattle.lab_model.specs.Guard.{order_may}
use Rattle.lab_model.proofs.EntryLemmas.{further}
use Rattle.law_slots.proofs.ByStep.{Controlled, Ordered, StepsTo, control-comes, control-does}
use Rattle.law_slots.proofs.ByStep.{logs_after, moment_after, started_after, order-gives-step}
use Rattle.law_slots.proofs.ByLine.{Then-at}
use Rattle.law_never_wrong.specs.Fits.{Fits, FitsFiles, FitsPhase}
use Rattle.law_never_wrong.proofs.Carry.{TableKept, stays-kept}
use Rattle.law_never_wrong.proofs.Done.{none-at, none-lives}
use Rattle.law_never_wrong.proofs.Survives.{quiet-seen, BiosCome, bios-stand, came-same, none-flies}
use Rattle.law_never_wrong.proofs.Survives.{parents-fly, goes-next}
use Rattle.law_never_wrong.specs.NeverWrong.{Goes}
use Rattle.law_never_wrong.proofs.FitsKept.{device-there, line-of-image, table-there}

-- where an entry of a list is changed: what it was changed to, or an entry that stays
entry-change : {L : Type 0} (g : Option (Slot L) → Option (Slot L)) (xs : List (Option (Slot L)))
    (i j : ℕ) → ((j ≡ i) × (slot_at (change xs i g) j ≡ g (slot_at xs j)))
    ⊎ (slot_at (change xs i g) j ≡ slot_at xs j)
entry-change g [] i j = inr refl
entry-change g (x ∷ xs) zero zero = inl (refl, refl)
entry-change g (x ∷ xs) zero (suc j) = inr refl
entry-change g (x ∷ xs) (suc i) zero = inr refl
entry-change g (x ∷ xs) (suc i) (suc j) = further i j (entry-change g xs i j)

-- where one is put at the end: an entry that stays, or the new one, where none was
entry-pushed : {L : Type 0} (xs : List (Option (Slot L))) (put : Slot L) (j : ℕ)
    → ((slot_at xs j ≡ None) × (slot_at (xs ++ Some put ∷ []) j ≡ Some put))
    ⊎ (slot_at (xs ++ Some put ∷ []) j ≡ slot_at xs j)
entry-pushed [] put zero = inl (refl, refl)
entry-pushed [] put (suc j) = inr refl
entry-pushed (x ∷ xs) put zero = inr refl
entry-pushed (x ∷ xs) put (suc j) = entry-pushed xs put j

-- a swap with a table that is no shorter keeps a live table as long, and none flies there
swapped-kept : {L : Type 0} (live inactive : Option (Table L)) (flies : Bool)
    → IfSome inactive (λ other. live_size live ≤ size_of other) → (flies ≡ true → ⊥)
    → (table : Table L) → live ≡ Some table
    → (later : Table L) × ((option_or inactive live) ≡ Some later)
    × (size_of table ≤ size_of later) × (flies ≡ true → later ≡ table)
swapped-kept live None flies longer none table is = (table, is, le_refl _, λ flown. refl)
swapped-kept live (Some other) flies longer none table is =
    (other, refl, rw is at longer, λ flown. absurd (none flown))

module _ {S : Type 0} (m : Meaning S) (c : Scenario S) (s : State S) (fits : Fits m c s)
    (device : ℕ) where
  -- the devices as the walk has them
  abbrev seen : Devices S
  seen = devices_image m s.devices

  -- the device
  abbrev now : Option (Slot (Table (Shape S)))
  now = slot_at seen device

  -- a device as the walk has it
  abbrev SeenSlot : Type 0
  SeenSlot = Slot (Table (Shape S))

  -- what may become of it
  pub record Turns (after : Option SeenSlot) : Type 0 where
    pub tables : (number : ℕ) (bio : Bio) → bio_of s number ≡ Some bio → bio.device ≡ Dm device
        → TableKept now after (flies_at device bio.device bio.stage)
    pub quiet : (slot : SeenSlot) → after ≡ Some slot → slot.mode ≡ Suspended
        → has_flight s device ≡ false

  -- it may stay
  stays : (after : Option SeenSlot) → after ≡ now → Turns after
  stays after same = rw same (search (rules, stays-kept, quiet-seen m s fits.quiet device))

  -- where an entry changes, it may be that one
  changed : (at : ℕ) (g : Option SeenSlot → Option SeenSlot)
      → (device ≡ at → Turns (g now)) → Turns (slot_at (change seen at g) device)
  changed at g here = search (rules, entry-change, stays)

  -- f suspends the device, if it does, only where none flies
  abbrev Rests : ℕ → (SeenSlot → SeenSlot) → Type 0
  Rests at f = (slot : SeenSlot) → now ≡ Some slot → device ≡ at → (f slot).mode ≡ Suspended
      → has_flight s device ≡ false

  -- a device that f changes, if it does to its table and its mode what may be
  inside-turns : (at : ℕ) (f : SeenSlot → SeenSlot)
      → ((slot : SeenSlot) → now ≡ Some slot → device ≡ at → (number : ℕ) (bio : Bio)
      → bio_of s number ≡ Some bio
      → TableKept (Some slot) (Some (f slot)) (flies_at device bio.device bio.stage))
      → Rests at f → Turns (slot_at (change seen at (option_map f)) device)
  inside-turns at f keeps quiet = changed at (option_map f) (by_entry now refl)
    where
      by_entry : (o : Option SeenSlot) → now ≡ o → device ≡ at → Turns
          (option_map f o)
      by_entry None is same = stays None (sym is)
      by_entry (Some slot) is same = record {
        tables = λ number bio lives at. rw is (keeps slot is same number bio lives);
        quiet = search (rules, Some-holds);
      }

  -- a device whose live table f leaves
  alike-turns : (at : ℕ) (f : SeenSlot → SeenSlot) → ((slot : SeenSlot) → (f slot).live ≡ slot.live)
      → Rests at f → Turns (slot_at (change seen at (option_map f)) device)
  alike-turns at f same = inside-turns at f (λ slot is own number bio lives table live.
      (table, same slot ∙ live, le_refl _, λ flown. refl))

  -- a swap, where none flies, since the device was suspended
  swap-turns : (at : ℕ) → DevicesStand c seen → has_flight s at ≡ false
      → Turns (slot_at (change seen at (option_map swapped)) device)
  swap-turns at stand still = inside-turns at swapped
      (search (rules, swapped-kept, stand device, there-passes)) (search rules)

  -- each step that may come does so
  pub step-turns : (order : Order) (more : List Micro) → DevicesStand c seen
      → OrderFine c seen fits.phase order more → FineFrom m c (phase_after fits.phase order)
      (walk_order m c seen order) (drop (s.done + 1) c.micros) → order_may c s order ≡ true
      → Turns (slot_at (walk_order m c seen order) device)
  step-turns (Create next version) more stand comes fine may =
      let live = option_map (image m) (named_version c next version) in
      elim (entry-pushed seen (created live) device) [
        | inl new ↦ search (rules, None-not-Some, Some-holds)
        | inr same ↦ stays _ same
      ]
  step-turns (Load at version) more stand comes fine may = search (rules, alike-turns, quiet-seen)
  step-turns (Clear at) more stand comes fine may = search (rules, alike-turns, quiet-seen)
  step-turns (Begin at) more stand comes fine may = alike-turns at (with_mode Draining)
      (λ slot. refl) (λ slot is own mode. cc)
  step-turns (Drained at) more stand comes fine may = alike-turns at (with_mode Suspended)
      (λ slot. refl) (λ slot is own mode. rw own (not-true (has_flight s at) may))
  step-turns (Swap at) more stand comes fine may =
      swap-turns at stand (quiet-seen m s fits.quiet at comes.0 comes.1 comes.2)
  step-turns (Remove at) more stand comes fine may = changed at (λ entry. None) (λ own. record {
    tables = λ number bio lives on.
        absurd (none-at m c s fits at fine number bio lives (on ∙ ap (λ d. Dm d) own));
    quiet = λ slot there. absurd (None-not-Some there);
  })
  step-turns order more stand comes fine may = stays _ refl

module _ {S : Type 0} (m : Meaning S) (c : Scenario S) (s : State S) where
  -- the devices as the walk has them
  abbrev devices : Devices S
  devices = devices_image m s.devices

  -- each step that may come goes on: it finds its device, and its table or its line
  order-goes : (fits : Fits m c s) (line : ℕ) (order : Order) (more : List Micro)
      → OrderFine c devices fits.phase order more
      → Goes (order_effect m c s line order) (λ next. Unit {0})
  order-goes fits line (Create device None) more comes = tt
  order-goes fits line (Create device (Some version)) more comes = rw comes.1.1 tt
  order-goes fits line (Load device version) more comes =
      rw ((device-there m s device comes.0).1, comes.1.1) tt
  order-goes fits line (Clear device) more comes = rw (device-there m s device comes).1 tt
  order-goes fits line (Begin device) more comes =
      rw (device-there m s device (comes.0.0, comes.0.1)).1 tt
  order-goes fits line (Drained device) more comes =
      rw (device-there m s device (comes.0.0, comes.0.1)).1 tt
  order-goes fits line (Swap device) more comes =
      rw (device-there m s device (comes.0, comes.1)).1 tt
  order-goes fits line (Remove device) more comes = rw (device-there m s device comes).1 tt
  order-goes fits line (Message device sector text) more comes =
      let own = table-there m s device comes.1 (rw comes.2 comes.3) in
      let number = comes.4.0 in
      let at = line-of-image m own.table number comes.4.1
      (ap (λ lines. slice_get lines number) own.same ∙ comes.4.3) in
      let at_sector : line_at own.table sector ≡ Some number = search (rules, line_at-image) in
      search rules
  order-goes fits line (Status device) more comes =
      let own = table-there m s device comes.1 (rw comes.2 comes.3) in
      rw (own.stands, own.is_live) tt
  order-goes fits line (TableOf device) more comes =
      let own = table-there m s device comes.1 (rw comes.2 comes.3) in
      rw (own.stands, own.is_live) tt
  order-goes fits line _ more comes = tt

  -- the state after a step, where this becomes of the devices and the replies
  abbrev after : Order → List (Option (Slot (Table S))) → List Reply → State S
  after order moved replies = record s {
    devices = moved;
    logs = logs_after s order;
    started = started_after s order;
    done = s.done + 1;
    moment = moment_after s order;
    replies = replies;
  }

  -- what a step leaves of the phase and of the logs
  record Phased (phase : Phase) (order : Order) (next : State S) : Type 0 where
    is_started : next.started ≡ is_started (phase_after phase order)
    in_phase : FitsPhase c next (phase_after phase order)
    logs : length next.logs ≡ length c.logs
    files : FitsFiles c next

  -- the replay starts the logs, and after the wait they have ended and no bio lives
  step-phased : (fits : Fits m c s) (order : Order) (more : List Micro)
      → OrderFine c devices fits.phase order more → order_may c s order ≡ true
      → (moved : List (Option (Slot (Table S)))) (replies : List Reply)
      → Phased fits.phase order (after order moved replies)
  step-phased fits Replay more comes may moved replies = search (rules, length-map, map-cases)
  step-phased fits Wait more comes may moved replies =
      let started = fits.is_started ∙ ap is_started comes.0 in
      let none = none-lives m c s fits may in
      search rules
  step-phased fits order more comes may moved replies = search rules

module _ {S : Type 0} (m : Meaning S) (c : Scenario S) (s : State S) (fits : Fits m c s)
    (micro : Micro) (comes : slice_get c.micros s.done ≡ Some micro) where
  -- the step and the rest of the script may come
  pub step-fine : FineFrom m c fits.phase (devices_image m s.devices)
      (micro ∷ drop (s.done + 1) c.micros)
  step-fine = subst (FineFrom m c fits.phase (devices_image m s.devices))
      (drop-found c.micros s.done micro comes) fits.script

  -- the state after the step fits
  step-fits : order_may c s micro.order ≡ true → (next : State S) → Ordered s micro.order next
      → StepsTo m s (walk_order m c (devices_image m s.devices) micro.order) next → Fits m c next
  step-fits may next does step =
      let fine = step-fine in
      let same : devices_image m does.devices
      ≡ walk_order m c (devices_image m s.devices) micro.order = rw does.is at step.0 in
      let then = after m c s micro.order does.devices does.replies in
      let phased = step-phased m c s fits micro.order _ fine.1 may does.devices does.replies in
      let turns = λ (device : ℕ). step-turns m c s fits device micro.order _ fine.0.tables fine.1
      fine.2 may in
      let bios : BiosCome m c s then = λ number bio lives. inl (came-same s.bios number bio lives)
      in
      rw does.is (record {
        phase = phase_after fits.phase micro.order;
        is_started = phased.is_started;
        script = rw same fine.2;
        in_phase = phased.in_phase;
        logs = phased.logs;
        files = phased.files;
        disks = fits.disks;
        bios = bios-stand m c s then bios (record {
          disks = λ number. refl;
          tables = λ number bio device. rw same ((turns device).tables number bio);
          parents = parents-fly s then (λ number above flying. flying.there);
        }) fits.bios;
        quiet = none-flies m c s then bios (rw same (λ device. (turns device).quiet));
      })

-- what the script's event leads to fits
leads-fits : {S : Type 0} (m : Meaning S) → Lawful m → (c : Scenario S) (s : State S)
    → Fits m c s → is_enabled c s Control ≡ true → (next : State S) → control m c s ≡ Next next
    → Fits m c next
leads-fits m lawful c s fits may next leads =
    let by = Then-at (Controlled c s) (control m c s) next (control-does m c s may) leads in
    step-fits m c s fits by.micro by.comes (and_parts _ _ (rw by.comes at may)).1 next by.does
    (Then-at _ _ next (order-gives-step m c s lawful by.micro.line by.micro.order)
    (rw by.comes at leads))

-- so the script's next step goes on to a state that fits
pub control-keeps-Fits : {S : Type 0} (m : Meaning S) → Lawful m → (c : Scenario S) (s : State S)
    → Fits m c s → is_enabled c s Control ≡ true → Goes (effect m c s Control) (Fits m c)
control-keeps-Fits m lawful c s fits may =
    let found = control-comes c s may in
    let went = goes-next (λ next. Unit {0}) (control m c s) (rw found.1
    (order-goes m c s fits found.0.line found.0.order _
    (step-fine m c s fits found.0 found.1).1)) in
    rw went.1 (leads-fits m lawful c s fits may went.0 went.1)
