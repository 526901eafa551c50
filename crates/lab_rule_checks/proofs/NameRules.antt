-- The tests of the rules on names and on what stands under them decide those rules. The test of the
-- rule on messages decides it.
use Rattle.lab_model.proofs.Common.{arith, ◌≡◌, ◌∙◌, ℕ, ◌||◌, Bool, false, List, Option, Some, None}
use Rattle.lab_model.proofs.Common.{subst, sym, Decides, Decides-not, Decides-or}
use Rattle.lab_model.proofs.Common.{same_Some, Meaning, Shape, Slot, Table, nat_tests, ◌+◌, ◌≤◌}
use Rattle.lab_model.proofs.Common.{true, not, [], ◌∷◌, refl, ap, slice_get, suc, zero, slot_at}
use Rattle.lab_model.proofs.Common.{Decides-at, HasNoGap, image, line_at, size_of, line_at-image}
use Rattle.std.specs.Option.{IsSomeAnd, option_and_then}
use Rattle.lab_script.specs.Task.{Task, device_asked, table_asked, message, on}
use Rattle.lab_rulebook.specs.Parts.{Parts}
use Rattle.lab_rulebook.specs.Standing.{Standing, table_meant, table_named}
use Rattle.lab_standing.specs.Seen.{passes, slot_named}
use Rattle.lab_standing.proofs.LinkRows.{none-Decides, passes-Decides}
use Rattle.lab_rule_checks.specs.Asked.{is_missing, is_unknown}
use Rattle.lab_model.specs.declared.table_line.TableLine.{TableLine}
use Rattle.lab_table.proofs.Lines.{line_at-has}
use Rattle.std.specs.List.{join_with_byte}
use Rattle.lab_text.specs.Words.{words_of}
use Rattle.lab_rulebook.proofs.TellLemmas.{words_of-spaced}
use Rattle.lab_model.specs.declared.rule.Rule.TheVariants.{V1, V9}
use Rattle.lab_rulebook.specs.ScriptRules.{Breaks}
use Rattle.lab_model.specs.Fine.{TakesAt}
use Rattle.lab_rule_checks.specs.Takes.{line_takes, refuses, takes_in}

-- a test that never passes decides what never holds
pub never-Decides : {P : Type 0} → (P → ⊥) → Decides false P
never-Decides never = (λ e. cc, λ p. absurd (never p))

-- what decides of the value that is found decides whether one is found for which P holds
pub at-Decides : {X : Type 0} (P : X → Type 0) (o : Option X) (x : X) (b : Bool) → o ≡ Some x
    → Decides b (P x) → Decides b ((y : X) × (o ≡ Some y) × P y)
at-Decides P o x b is d =
    (λ e. (x, is, d.0 e), λ f. d.1 (subst P (same_Some f.0 x (sym f.1 ∙ is)) f.2))

-- where none is found, there is none for which P holds
pub none-at : {X : Type 0} (P : X → Type 0) → Decides false ((y : X) × (None ≡ Some y) × P y)
none-at P = never-Decides (λ f. let is = f.1 in cc)

-- a test that fails where none is found decides whether one is found for which P holds
pub option-Decides : {X : Type 0} (test : Option X → Bool) (P : X → Type 0) → test None ≡ false
    → ((x : X) → Decides (test (Some x)) (P x)) → (o : Option X)
    → Decides (test o) ((x : X) × (o ≡ Some x) × P x)
option-Decides test P none each o = grind (arith, nat_tests, none-at, at-Decides)

module _ {S : Type 0} (m : Meaning S) (parts : Parts S) (s : Standing S) where
  -- whether it is a name that no device has
  unknown-Decides : (asked : Option (List ℕ))
      → Decides (is_unknown s asked) (IsSomeAnd asked (λ name. s.device_of name ≡ None))
  unknown-Decides None = never-Decides (λ no. no)
  unknown-Decides (Some name) = none-Decides (s.device_of name)

  -- whether a table is asked for that isn't known
  missing-Decides : (asked : Option (List ℕ)) (table : Option (Table S))
      → table ≡ option_and_then (table_named parts s) asked → Decides (is_missing asked table)
      (IsSomeAnd asked (λ name. table_named parts s name ≡ None))
  missing-Decides None table is = never-Decides (λ no. no)
  missing-Decides (Some name) table is = rw is (none-Decides (table_named parts s name))

  -- what the test of V1 looks at
  abbrev pub v1_test : Task → Option (Table S) → Bool
  v1_test task table = is_unknown s (device_asked task) || is_missing (table_asked task) table

  pub v1-Decides : (task : Task) (table : Option (Table S)) → table ≡ table_meant parts s task
      → Decides (v1_test task table) (Breaks m parts s task V1)
  v1-Decides task table is = Decides-or _ _ (unknown-Decides (device_asked task))
      (missing-Decides (table_asked task) table is)

  -- a device's slots, as the definitions see them
  abbrev Slots : Type 0
  Slots = Slot (Table (Shape S))

  -- a device of a name stands, and P holds of its slots
  abbrev pub NamesWith : List ℕ → (Slots → Type 0) → Type 0
  NamesWith name P = (device : ℕ) × (slot : Slots)
      × ((s.device_of name ≡ Some device) × (slot_at s.devices device ≡ Some slot)) × P slot

  -- a test on the slots of a name decides whether its device stands, and P holds of its slots
  pub named-Decides : (test : Slots → Bool) (P : Slots → Type 0)
      → ((slot : Slots) → Decides (test slot) (P slot)) → (name : List ℕ)
      → Decides (passes (slot_named s name) test) (NamesWith name P)
  named-Decides test P each name = grind (arith, nat_tests, passes-Decides)

-- a line ends within its table
end-within : {S : Type 0} (s : ℕ) (lines : Table S) (number : ℕ) (line : TableLine S)
    → HasNoGap s lines → slice_get lines number ≡ Some line
    → line.start + line.len ≤ s + size_of lines
end-within s [] number line gap at = cc
end-within {S} s (first ∷ lines) zero line gap at =
    subst (λ (l : TableLine S). l.start + l.len ≤ s + (first.len + size_of lines))
    (same_Some first line at) (omega (arith, gap.0))
end-within s (first ∷ lines) (suc number) line gap at =
    omega (arith, end-within (s + first.len) lines number line gap.2 at)

-- what a table that has a line for a sector says of a message, by that line's number
abbrev pub takes_by : {S : Type 0} → Table (Shape S) → List (List ℕ) → Option ℕ → Bool
takes_by table words o = takes_in words (option_and_then (λ number. slice_get table number) o)

-- no line has a sector past the end
pub past-refuses : {S : Type 0} (m : Meaning S) (table : Table S) (sector : ℕ)
    (words : List (List ℕ)) → HasNoGap 0 table → size_of table ≤ sector
    → refuses (image m table) sector words ≡ true
past-refuses m table sector words gap past =
    ap (λ o. not (takes_by (image m table) words o)) (line_at-image m table sector)
    ∙ by (line_at table sector) refl where
      by : (o : Option ℕ) → line_at table sector ≡ o
          → not (takes_by (image m table) words o) ≡ true
      by None at = refl
      by (Some number) at = let has = line_at-has table sector number at in
          absurd (omega (arith, has.before, end-within 0 table number has.line gap has.there))

module _ {S : Type 0} (m : Meaning S) (parts : Parts S) (s : Standing S) where
  -- whether a table takes a message at a sector
  takes-Decides : (held : Table (Shape S)) (sector : ℕ) (words : List (List ℕ))
      → Decides (line_takes held sector words) (TakesAt held sector words)
  takes-Decides held sector words = (by (line_at held sector) refl, back) where
    by : (o : Option ℕ) → line_at held sector ≡ o → takes_by held words o ≡ true
        → TakesAt held sector words
    by None at e = cc
    by (Some number) at e = let has = line_at-has held sector number at in
        (number, has.line, at, has.there, rw has.there at e)

    back : TakesAt held sector words → line_takes held sector words ≡ true
    back (number, line, at, is, takes) = rw (at, is, takes)

  -- a message that a device's live table doesn't take
  abbrev pub Refused : ℕ → List (List ℕ) → Slot (Table (Shape S)) → Type 0
  Refused sector words slot = (held : Table (Shape S)) × (slot.live ≡ Some held)
      × (TakesAt held sector words → ⊥)

  -- a test on what is found in a device is one on the device
  through : {X Y : Type 0} (o : Option X) (f : X → Option Y) (test : Y → Bool)
      → passes (option_and_then f o) test ≡ passes o (λ x. passes (f x) test)
  through None f test = refl
  through (Some x) f test = refl

  -- the test of a message's words
  words-Decides : (name : List ℕ) (sector : ℕ) (words : List (List ℕ))
      → Decides (passes (option_and_then (λ slot. slot.live) (slot_named s name))
      (λ held. refuses held sector words)) (NamesWith m parts s name (Refused sector words))
  words-Decides name sector words = Decides-at _ _
      (through (slot_named s name) (λ slot. slot.live) (λ held. refuses held sector words))
      (named-Decides m parts s (λ slot. passes slot.live (λ held. refuses held sector words))
      (Refused sector words)
      (λ slot. passes-Decides _ _ (λ held. Decides-not _ (takes-Decides held sector words))
      slot.live) name)

  -- the test of V9 on a message
  pub v9-Decides : (name : List ℕ) (sector : ℕ) (text : List ℕ)
      → Decides (passes (option_and_then (λ slot. slot.live) (slot_named s name))
      (λ held. refuses held sector (words_of text)))
      (Breaks m parts s (on name (message sector (join_with_byte 32 (words_of text)))) V9)
  v9-Decides name sector text = subst (λ words.
      Decides (passes (option_and_then (λ slot. slot.live) (slot_named s name))
      (λ held. refuses held sector (words_of text)))
      (NamesWith m parts s name (Refused sector words)))
      (sym (words_of-spaced text)) (words-Decides name sector (words_of text))
