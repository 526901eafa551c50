-- A search from what a device refers to with one more table finds whether the device lies below
-- itself then. The test of the rule on cycles decides it.
use Rattle.lab_model.proofs.Common.{rules, ◌≡◌, ◌++◌, inl, inr, ℕ, ◌<◌, Bool, List, [], ◌∷◌}
use Rattle.lab_model.proofs.Common.{length, refl, ap₂, subst, cases_eq, DevNo, Meaning, change}
use Rattle.lab_model.proofs.Common.{Below, direct, through, ever_under, Contains-In, In}
use Rattle.lab_model.proofs.Common.{In-Contains, length-change, Some, devices_under, Table}
use Rattle.lab_model.proofs.Common.{image, flat_map}
use Rattle.lab_model.specs.Scenario.{versions_of}
use Rattle.std.proofs.Common.{Decides}
use Rattle.lab_standing.specs.Image.{own_of}
use Rattle.lab_standing.specs.Linked.{RowTells, ever_of, grown, IsLinked, link_rows}
use Rattle.lab_standing.proofs.LinkRows.{grown-left}
use Rattle.lab_standing.proofs.OwnRows.{own-changed, own-other, own-within}
use Rattle.lab_rule_checks.specs.Search.{Reached, TellsReached, at_first, further, is_set}
use Rattle.lab_script.specs.Task.{load, on}
use Rattle.lab_rulebook.specs.Parts.{Parts}
use Rattle.lab_model.specs.declared.rule.Rule.TheVariants.{V11}
use Rattle.lab_rulebook.specs.ScriptRules.{Breaks}
use Rattle.lab_rulebook.specs.Standing.{Standing as Stands, table_named}
use Rattle.lab_rulebook.proofs.ReferenceLemmas.{under-image}
use Rattle.lab_standing.specs.declared.standing.Standing.{Standing}
use Rattle.lab_standing.specs.Stands.{standing_of}
use Rattle.lab_standing.proofs.LinkedAfter.{linked-tells, links-loaded}
use Rattle.lab_rule_checks.specs.Cycles.{ClosesCycle, NamedCloses}
use Rattle.lab_rule_checks.proofs.UnderReached.{reached-under, under-reached}

module _ (under : ℕ → List DevNo) (rows : List (List ℕ)) (device : ℕ) (devices : List DevNo)
    (tells : (number : ℕ) → RowTells (under number)
    (own_of (change rows device (grown devices)) number)) where
  -- the rows with the device's references to these devices too
  abbrev after : List (List ℕ)
  after = change rows device (grown devices)

  -- what the device refers to then
  abbrev pub first : List ℕ
  first = grown devices (own_of rows device)

  -- where the device is, its row is that one
  first-after : device < length rows → own_of after device ≡ first
  first-after within = own-changed rows device (grown devices) within

  -- a row grows or stays
  old-after : (number n : ℕ) → In n (own_of rows number) → In n (own_of after number)
  old-after number n has = search (rules, first-after, own-within, grown-left, own-other)

  -- what the search reaches is reached from the device's new row
  reached-after : device < length rows → {n : ℕ} → Reached rows first n
      → Reached after (own_of after device) n
  reached-after within (at_first has) = at_first (rw (first-after within) has)
  reached-after within (further {number = number} {below = n} earlier has) =
      further (reached-after within earlier) (Contains-In n (own_of after number)
      (old-after number n (In-Contains n (own_of rows number) has)))

  -- and back, also where what is followed is the device itself
  after-reached : device < length rows → {n : ℕ} → Reached after first n → Reached rows first n
  after-reached within (at_first has) = at_first has
  after-reached within (further {number = number} earlier has) = elim (cases_eq number device) [
    | inl here ↦ at_first (rw (here, first-after within) at has)
    | inr other ↦ further (after-reached within earlier)
        (rw (own-other rows device number (grown devices) other) at has)
  ]

  -- a device that another lies below refers to something
  refers-first : {over below : ℕ} → Below under over below → (n : ℕ) × In n (own_of after over)
  refers-first (direct has) = (_, In-Contains _ _ ((tells _ _).1 has))
  refers-first (through has lower) = (_, In-Contains _ _ ((tells _ _).1 has))

  -- the device is marked where it lies below itself
  pub cycle-Decides : (marks : List Bool) → TellsReached rows first marks
      → Decides (is_set marks device) (Below under device device)
  cycle-Decides marks told = (
    λ is. let reached = (told device).0 is in
        reached-under under after tells device (reached-after reached.0 reached.1),
    λ itself. let (n, at) = refers-first itself in
        let within : device < length rows
        = rw (length-change rows device (grown devices)) at (own-within after device n at) in
        (told device).1 (
          within,
          after-reached within (under-reached under after tells itself first
              (λ k has. at_first (rw (first-after within) at has))),
        ),
  )

module _ {S : Type 0} (m : Meaning S) where
  -- what a device's versions refer to, by their lines
  ever-lines : (own : List (Table S))
      → flat_map (λ table. devices_under (image m table)) own ≡ ever_of m own
  ever-lines [] = refl
  ever-lines (table ∷ own) =
      ap₂ (λ these those. these ++ those) (under-image m table) (ever-lines own)

  -- the mark of the device decides whether a load closes a cycle
  pub closes-Decides : (st : Standing S) (device : ℕ) (table : Table S) (marks : List Bool)
      (first : List ℕ) → IsLinked m st
      → first ≡ grown (devices_under (image m table)) (own_of (link_rows st.ever) device)
      → TellsReached (link_rows st.ever) first marks
      → Decides (is_set marks device) (ClosesCycle m (standing_of m st) device table)
  closes-Decides st device table marks first linked is told =
      let versions = (standing_of m st).versions in
      let next = change versions device (λ own. own ++ table ∷ []) in
      cycle-Decides (ever_under m next) (link_rows st.ever) device (devices_under (image m table))
      (λ number. rw (ever-lines (versions_of next number)) (linked-tells m _ next
      (links-loaded m device table (link_rows st.ever) versions linked) number))
      marks (subst (λ row. TellsReached (link_rows st.ever) row marks) is told)

module _ {S : Type 0} (m : Meaning S) (parts : Parts S) (s : Stands S) where
  -- a load of a table into the device of a name
  pub v11-load : (name chosen : List ℕ) (table : Table S) (told : Bool)
      → table_named parts s chosen ≡ Some table → Decides told (NamedCloses m s name table)
      → Decides told (Breaks m parts s (on name (load chosen)) V11)
  v11-load name chosen table told is closes = search rules
