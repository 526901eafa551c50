-- A suspend and a resume that break no rule lead to what they should.
use Rattle.lab_model.proofs.Common.{arith, ◌≡◌, ℕ, List, ◌∷◌, Some, inl, inr, refl, sym}
use Rattle.lab_model.proofs.Common.{ap, ◌∙◌, subst, ◌≤◌, ◌||◌, cond, [], IfSome, Option, None}
use Rattle.lab_model.proofs.Common.{slice_get, IsSome, option_map, Meaning, Shape, with_mode}
use Rattle.lab_model.proofs.Common.{change, Below, Scenario, Slot, Table, Devices, BelowRuns}
use Rattle.lab_model.proofs.Common.{FineFrom, Some-holds, InMode, PlaceFine, SlotStands}
use Rattle.lab_model.proofs.Common.{slot_at, cond_both, created, option_or, swapped, size_of}
use Rattle.lab_model.proofs.Common.{live_size, option_flatten, joined-Some, nat_tests}
use Rattle.lab_model.specs.declared.micro.Micro.{Micro}
use Rattle.lab_model.specs.declared.micro.Mode.{Mode}
use Rattle.lab_model.specs.declared.micro.Mode.TheVariants.{Running, Draining, Suspended}
use Rattle.lab_model.specs.declared.micro.Order.TheVariants.{Begin, Drained}
use Rattle.std.proofs.Common.{is_some}
use Rattle.lab_model.specs.Fine.{live_under}
use Rattle.lab_model.specs.declared.micro.Order.TheVariants as orders
use Rattle.lab_script.specs.Slots.{is_suspended, resumed}
use Rattle.lab_script.specs.Task.{resume, suspend, on}
use Rattle.lab_script.specs.Walk.{resume_steps, suspend_steps}
use Rattle.lab_rulebook.specs.Parts.{Parts}
use Rattle.lab_rulebook.specs.Standing.{Standing}
use Rattle.lab_rulebook.proofs.FoundLemmas.{Here, CommandGoes, May, find, goes-found, known}
use Rattle.lab_rulebook.proofs.StandLemmas.{grows-live, slot-stands, SlotFine, grows-same, one-step}
use Rattle.lab_rulebook.proofs.StandLemmas.{Leads, Stands, reachable}
use Rattle.lab_rulebook.proofs.MoveLemmas.{changed-becomes, changed-fine, changed-lines}
use Rattle.lab_rulebook.proofs.MoveLemmas.{changed-stands}
use Rattle.lab_rulebook.proofs.PlaceLemmas.{Becomes, becomes-each, change-twice, change-there}
use Rattle.lab_rulebook.proofs.PlaceLemmas.{change-alike, change-idle}
use Rattle.lab_rulebook.proofs.SizeLemmas.{Grows}
use Rattle.lab_rulebook.specs.ScriptRules as rules
use Rattle.lab_model.specs.declared.rule.Rule.TheVariants as told
use Rattle.lab_model.specs.Below.{ever_under}

-- a device whose inactive table is as long as its live one, at least, grows by a swap
swapped_in-grows : {L : Type 0} (slot : Slot (Table L)) (inactive : Option (Table L))
    → IfSome inactive (λ table. live_size slot.live ≤ size_of table)
    → Grows slot (created (option_or inactive slot.live))
swapped_in-grows slot None longer = grows-live slot (created slot.live) refl
swapped_in-grows slot (Some table) longer = record {
  size = longer;
  table = λ live is. (table, refl);
}

-- what holds of a device and of it swapped holds of it resumed
resumed-by : {L : Type 0} (slot : Slot L) (P : Slot L → Type 0) → P slot → P (swapped slot)
    → P (resumed slot)
resumed-by slot P stays swaps = cond_both (is_suspended slot.mode || is_some slot.inactive)
    (swapped slot) slot P (λ test. swaps) (λ test. stays)

module _ {S : Type 0} (m : Meaning S) (c : Scenario S) where
  -- a swapped device is fine
  swapped_in-fine : (devices : Devices S) (device : ℕ) (live inactive : Option (Table (Shape S)))
      (mode : Mode)
      → SlotFine m c devices device (record { live = live; inactive = inactive; mode = mode })
      → SlotFine m c devices device (created (option_or inactive live))
  swapped_in-fine devices device live None mode was =
      record { live = was.live; inactive = tt; longer = tt; rests = λ same. cc }
  swapped_in-fine devices device live (Some table) mode was =
      record { live = was.inactive; inactive = tt; longer = tt; rests = λ same. cc }

module _ {S : Type 0} (m : Meaning S) (parts : Parts S) (s : Standing S) (c : Scenario S)
    (here : Here m parts s c) where
  module _ (device : ℕ) (slot : Slot (Table (Shape S)))
      (there : slot_at s.devices device ≡ Some slot) where
    -- what stands after the device changes
    abbrev changed : (Slot (Table (Shape S)) → Slot (Table (Shape S))) → Standing S
    changed f = record s { devices = change s.devices device (option_map f) }

    -- the device's place
    placed-there : slice_get s.devices device ≡ Some (Some slot)
    placed-there = joined-Some (slice_get s.devices device) slot there

    -- what it holds then
    changed-there : (f : Slot (Table (Shape S)) → Slot (Table (Shape S)))
        → slot_at (changed f).devices device ≡ Some (f slot)
    changed-there f = ap option_flatten (change-there (option_map f) s.devices device
        (Some slot) placed-there)

    -- the devices while this one drains, which doesn't make it shorter
    abbrev draining : Devices S
    draining = (changed (with_mode Draining)).devices

    drains-long : Grows slot (with_mode Draining slot)
    drains-long = grows-live slot (with_mode Draining slot) refl

    -- it alone is another
    drains-alone : Becomes s.devices draining device (Some (with_mode Draining slot))
    drains-alone = changed-becomes m parts s c here device slot there (with_mode Draining)
        drains-long

    -- all tables stand as before, while no other drains
    drains-place : PlaceFine c draining s.phase (λ number. number ≡ device)
    drains-place =
        let old = changed-fine m parts s c here device slot there (with_mode Draining) drains-long
        in
        record {
          tables = becomes-each (λ number. SlotStands c draining) s.devices draining device _
              drains-alone (λ new is. subst (SlotStands c draining) (Some-holds is)
              (slot-stands m c draining device slot Draining (old device slot there)))
              (λ number other at. slot-stands m c draining number other other.mode
              (old number other at));
          lines = changed-lines m parts s c here device slot there (with_mode Draining) drains-long;
          rest = becomes-each (λ number other. other.mode ≡ Draining → number ≡ device) s.devices
              draining device _ drains-alone (λ new is drains. refl)
              (λ number other at drains. absurd ((old number other at).rests drains));
        }

    -- and so is what is under each
    drains-under : (number : ℕ) → live_under draining number ≡ live_under s.devices number
    drains-under number = grind (arith, nat_tests, drains-alone)

    -- all below a device run where none is suspended
    below-runs : (rules.SuspendedBelow m parts s device → ⊥) → BelowRuns draining device
    below-runs none below under =
        let reached = subst (λ refers. Below refers device below)
        (λ i number. drains-under number i) under in
        let (there, lies) = reachable m c s.devices here.stands.devices reached in
        let other : below ≡ device → ⊥ =
        λ same. here.acyclic device (subst (Below (ever_under m c.versions) device) same lies) in
        let stays : slot_at draining below ≡ slot_at s.devices below =
        elim (drains-alone below) [
          | inl new ↦ absurd (other new.0)
          | inr old ↦ old
        ] in
        (elim there.0.mode as (λ mode. there.0.mode ≡ mode
        → InMode draining below Running) [
          | Running ↦ λ is. (there.0, stays ∙ there.1, is)
          | Draining ↦ λ is. absurd ((here.stands.devices below there.0 there.1).rests is)
          | Suspended ↦ λ is. absurd (none (below, other, reached, rw there.1 is))
        ]) refl

    -- so a running device is suspended by its two steps
    drains : slot.mode ≡ Running → (rules.SuspendedBelow m parts s device → ⊥) → (line : ℕ)
        (rest : List Micro) → FineFrom m c s.phase (changed (with_mode Suspended)).devices rest
        → FineFrom m c s.phase s.devices (record { line = line; order = Begin device }
        ∷ record { line = line; order = Drained device } ∷ rest)
    drains runs none line rest more =
        one-step m c s here.stands line (Begin device) (record {
          line = line;
          order = Drained device;
        } ∷ rest) ((slot, there, runs), refl) (
          drains-place,
          (
            (
              with_mode Draining slot,
              changed-there (with_mode Draining),
              refl,
            ),
            below-runs none,
          ),
          subst (λ ds. FineFrom m c s.phase ds rest) (sym (change-twice (with_mode Draining)
              (with_mode Suspended) (with_mode Suspended) (λ any. refl) s.devices device)) more,
        )

    -- a suspended device stands
    suspended-stands : Stands m c (changed (with_mode Suspended))
    suspended-stands = changed-stands m parts s c here device slot there (with_mode Suspended)
        (grows-live slot (with_mode Suspended slot) refl)
        (λ was. record {
          live = was.live;
          inactive = was.inactive;
          longer = was.longer;
          rests = λ same. cc;
        })

    -- and so does a resumed one
    resumed-stands : Stands m c (changed resumed)
    resumed-stands =
        let next = change s.devices device (option_map resumed) in
        changed-stands m parts s c here device slot there resumed
        (resumed-by slot (Grows slot) (grows-same slot)
        (swapped_in-grows slot slot.inactive (here.stands.devices device slot there).longer))
        (λ was. resumed-by slot (SlotFine m c next device) was
        (swapped_in-fine m c next device slot.live slot.inactive slot.mode was))

    -- a change that does nothing needs no step
    idle-leads : (f : Slot (Table (Shape S)) → Slot (Table (Shape S))) → f slot ≡ slot
        → Leads m c s (changed f) []
    idle-leads f same number rest more = grind (arith, nat_tests, change-idle, placed-there)

    -- the steps of a suspend
    suspend-leads : (mode : Mode) → slot.mode ≡ mode
        → (mode ≡ Running → rules.SuspendedBelow m parts s device → ⊥)
        → Leads m c s (changed (with_mode Suspended))
        (suspend_steps (known s device (with_mode mode slot)))
    suspend-leads Running is none number rest more = drains is (none refl) number rest more
    suspend-leads Draining is none number rest more =
        absurd ((here.stands.devices device slot there).rests is)
    suspend-leads Suspended is none number rest more = idle-leads (with_mode Suspended)
        (ap (λ mode. with_mode mode slot) (sym is)) number rest more

    -- a swap behind a suspend
    swap-after : (line : ℕ) (rest : List Micro) → resumed slot ≡ swapped slot
        → FineFrom m c s.phase (change s.devices device (option_map resumed)) rest
        → FineFrom m c s.phase (change s.devices device (option_map (with_mode Suspended)))
        (record { line = line; order = orders.Swap device } ∷ rest)
    swap-after line rest same more = one-step m c (changed (with_mode Suspended)) suspended-stands
        line (orders.Swap device) rest (
          with_mode Suspended slot,
          changed-there (with_mode Suspended),
          refl,
        ) (subst (λ ds. FineFrom m c s.phase ds rest)
        (sym (change-twice (with_mode Suspended) swapped swapped (λ any. refl) s.devices device
        ∙ (grind (arith, nat_tests, change-alike, placed-there)))) more)

    -- the steps of a resume
    resume-leads : (inactive : Option (Table (Shape S))) (mode : Mode)
        → slot.inactive ≡ inactive → slot.mode ≡ mode
        → resumed slot ≡ cond (is_suspended mode || is_some inactive) (swapped slot) slot
        → (mode ≡ Running → IsSome inactive → rules.SuspendedBelow m parts s device → ⊥)
        → Leads m c s (changed resumed) (resume_steps
        (known s device (record { live = slot.live; inactive = inactive; mode = mode })))
    resume-leads inactive Suspended has is by none number rest more =
        one-step m c s here.stands number (orders.Swap device) rest (slot, there, is)
        (grind (arith, nat_tests, change-alike, placed-there))
    resume-leads inactive Draining has is by none number rest more =
        absurd ((here.stands.devices device slot there).rests is)
    resume-leads None Running has is by none number rest more =
        idle-leads resumed by number rest more
    resume-leads (Some table) Running has is by none number rest more =
        drains is (none refl refl) number
        (record { line = number; order = orders.Swap device } ∷ rest)
        (swap-after number rest by more)

  -- a suspend that breaks no rule
  pub suspend-goes : (name : List ℕ) → May m parts s c (on name suspend)
      → CommandGoes m parts s c (on name suspend)
  suspend-goes name may =
      let d = find m parts s c here (on name suspend) may.free name refl in
      goes-found m parts s c (on name suspend) d None (record {
        stands = suspended-stands d.device d.slot d.there;
        leads = suspend-leads d.device d.slot d.there d.slot.mode refl
            (λ runs rests. may.free told.V6 (d.device, d.slot, (d.named, d.there), (runs, rests)));
      })

  -- a resume that breaks no rule
  pub resume-goes : (name : List ℕ) → May m parts s c (on name resume)
      → CommandGoes m parts s c (on name resume)
  resume-goes name may =
      let d = find m parts s c here (on name resume) may.free name refl in
      goes-found m parts s c (on name resume) d None (record {
        stands = resumed-stands d.device d.slot d.there;
        leads = resume-leads d.device d.slot d.there d.slot.inactive d.slot.mode refl refl refl
            (λ runs has rests. may.free told.V6
            (d.device, d.slot, (d.named, d.there), (runs, has, rests)));
      })
