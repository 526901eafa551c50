-- How the devices of the walk stand after one of them was changed, taken out or put at the end.
use Rattle.lab_model.proofs.Common.{arith, ◌≡◌, ℕ, Option, Some, slice_get, refl, sym, ap, ◌∙◌}
use Rattle.lab_model.proofs.Common.{subst, option_map, DevNo, Dm, Meaning, Shape, change}
use Rattle.lab_model.proofs.Common.{Scenario, Slot, Table, Devices}
use Rattle.lab_model.specs.declared.phase.Phase.TheVariants.{Before}
use Rattle.lab_model.proofs.Common.{LinesStandIn, slot_at, Some-holds, In}
use Rattle.lab_model.specs.declared.phase.Phase.{Phase}
use Rattle.lab_model.specs.declared.phase.Phase.TheVariants.{Replayed}
use Rattle.lab_model.proofs.Common.{Contains-In, nat_tests}
use Rattle.lab_rulebook.specs.Parts.{Parts}
use Rattle.lab_rulebook.specs.Standing.{Standing}
use Rattle.lab_rulebook.proofs.FoundLemmas.{Here}
use Rattle.lab_rulebook.proofs.StandLemmas.{SlotFine, StandIn, grows-same, holds-moves}
use Rattle.lab_rulebook.proofs.PlaceLemmas.{Becomes, becomes-each, change-becomes}
use Rattle.lab_rulebook.proofs.SizeLemmas.{Grows, GrowsIn, KeepsDevice, line-moves}
use Rattle.lab_rulebook.specs.ScriptRules as rules
use Rattle.lab_model.specs.Fine.{under_live}
use Rattle.lab_model.proofs.Common.{◌++◌, In-append_left, In-append_right}

module _ {S : Type 0} (m : Meaning S) (parts : Parts S) (s : Standing S) (c : Scenario S)
    (here : Here m parts s c) where
  -- one device becomes another, or is made, or is gone
  module _ (after : Devices S) (place : ℕ) (now : Option (Slot (Table (Shape S))))
      (becomes : Becomes s.devices after place now) where
    -- it grows at most
    abbrev Grown : Type 0
    Grown = GrowsIn (slot_at s.devices place) now

    -- a device is kept if it isn't this one, or this one grows at most
    pub keeps-named : (named : DevNo) → (named ≡ Dm place → Grown)
        → KeepsDevice c s.devices after named
    keeps-named named grows = grind (arith, nat_tests, grows-same)

    module _ (grows : rules.IsUsed m parts s place → Grown) where
      -- what stood is as fine as it was, if this one grows at most where it is used
      pub kept-fine : (number : ℕ) (slot : Slot (Table (Shape S)))
          → slot_at s.devices number ≡ Some slot → SlotFine m c after number slot
      kept-fine number slot there =
          let fine = here.stands.devices number slot there in
          let live = under_live slot.live in
          let more = under_live slot.inactive in
          let all = live ++ more in
          let keeps = λ (named : DevNo) (has : In named all). keeps-named named (λ same.
          grows (rules.by_table (
            number,
            slot,
            there,
            Contains-In (Dm place) all (subst (λ d. In d all) same has),
          ))) in
          record {
            live = holds-moves m c s.devices after number slot.live
                (λ table is named has. keeps named (In-append_left named live more
                (subst (λ o. In named (under_live o)) (sym is) has))) fine.live;
            inactive = holds-moves m c s.devices after number slot.inactive
                (λ table is named has. keeps named (In-append_right named live more
                (subst (λ o. In named (under_live o)) (sym is) has))) fine.inactive;
            longer = fine.longer;
            rests = fine.rests;
          }

      -- and so are the log lines, in each phase
      lines-in : (phase : Phase) → s.phase ≡ phase → LinesStandIn c s.devices phase
          → LinesStandIn c after phase
      lines-in Replayed replayed lines = λ number at plan line is_log is_line.
          let logs : s.logs ≡ c.logs = here.now.logs
          (λ before. let same : Replayed ≡ Before = sym replayed ∙ before in cc) in
          line-moves c s.devices after line.device line.entry
          (λ named is. keeps-named named (λ same. grows (rules.by_log replayed (
            number,
            at,
            plan,
            line,
            subst (λ l. slice_get l number ≡ Some plan) (sym logs) is_log,
            is_line,
            is ∙ ap Some same,
          )))) (lines number at plan line is_log is_line)
      lines-in _ is lines = tt

      -- in that which there is
      pub lines-kept : LinesStandIn c after s.phase
      lines-kept = lines-in s.phase refl here.stands.lines

      -- so all stand where this one is fine
      pub becomes-stands : ((slot : Slot (Table (Shape S))) → now ≡ Some slot
          → SlotFine m c after place slot) → StandIn m c after s.phase
      becomes-stands own = let each = becomes-each (SlotFine m c after) s.devices after place now
          becomes own kept-fine in search (lines-kept, each)

  -- a device changes, and grows at most
  module _ (device : ℕ) (slot : Slot (Table (Shape S)))
      (there : slot_at s.devices device ≡ Some slot)
      (f : Slot (Table (Shape S)) → Slot (Table (Shape S))) (grows : Grows slot (f slot)) where
    -- the devices then
    abbrev changed : Devices S
    changed = change s.devices device (option_map f)

    -- that one alone is another
    pub changed-becomes : Becomes s.devices changed device (Some (f slot))
    changed-becomes = change-becomes s.devices device (option_map f) _ (ap (option_map f) there)

    -- it grows at most
    changed-grows : GrowsIn (slot_at s.devices device) (Some (f slot))
    changed-grows old is = grind (arith, nat_tests, Some-holds)

    -- each device is kept
    pub changed-keeps : (named : DevNo) → KeepsDevice c s.devices changed named
    changed-keeps named = keeps-named changed device _ changed-becomes named (λ same. changed-grows)

    -- what stood is fine
    pub changed-fine : (number : ℕ) (old : Slot (Table (Shape S)))
        → slot_at s.devices number ≡ Some old → SlotFine m c changed number old
    changed-fine = kept-fine changed device _ changed-becomes (λ used. changed-grows)

    -- and so are the log lines
    pub changed-lines : LinesStandIn c changed s.phase
    changed-lines = lines-kept changed device _ changed-becomes (λ used. changed-grows)

    -- and all stand where it is fine
    pub changed-stands : (SlotFine m c changed device slot → SlotFine m c changed device (f slot))
        → StandIn m c changed s.phase
    changed-stands own = becomes-stands changed device _ changed-becomes (λ used. changed-grows)
        (λ new is. rw (← Some-holds is) (own (changed-fine device slot there)))
