-- The words of a text, written with one space between, are words of what is written. Commands that
-- change no device lead to what they should, where they break no rule.
use Rattle.lab_model.proofs.Common.{rules, ◌≡◌, ℕ, true, false, cond, List, [], ◌∷◌, ◌++◌, refl}
use Rattle.lab_model.proofs.Common.{sym, ap, ◌∙◌, filter, onto_first, slice_split, append-nil}
use Rattle.lab_model.proofs.Common.{has_byte, is_blank_byte, arith, None, subst, position-Some, Dm}
use Rattle.lab_model.proofs.Common.{Meaning, Shape, Scenario, Slot, Table, line_at, HasTable}
use Rattle.lab_model.proofs.Common.{None-not-Some, slice_get-within, nat_tests, OrderFine}
use Rattle.lab_model.specs.declared.phase.Phase.TheVariants.{Waited}
use Rattle.lab_model.proofs.Common.{Some, change, joined-Some, option_map, phase_after, slot_at}
use Rattle.lab_model.proofs.Common.{walk_order}
use Rattle.lab_model.specs.declared.micro.Micro.{Micro}
use Rattle.lab_model.specs.declared.micro.Order.{Order}
use Rattle.lab_text.specs.Words.{words_of}
use Rattle.std.specs.List.{join_with_byte}
use Rattle.law_slots.proofs.AllOf.{AllOf}
use Rattle.std.proofs.lemmas.Bool.{true_from_ne_false}
use Rattle.lab_model.specs.Fine.{TakesAt}
use Rattle.lab_script.specs.Task.{message, ram, replay, sleep, status, table, wait, on}
use Rattle.lab_rulebook.proofs.FoundLemmas.{all-run, CommandGoes, Here, May, before-stable}
use Rattle.lab_rulebook.proofs.FoundLemmas.{find, goes-found, replayed-stable}
use Rattle.lab_rulebook.specs.Parts.{Parts}
use Rattle.lab_rulebook.specs.Standing.{Standing}
use Rattle.lab_rulebook.specs.Walked.{standing_next}
use Rattle.lab_rulebook.proofs.PlaceLemmas.{change-idle, some-there}
use Rattle.lab_rulebook.proofs.StandLemmas.{Goes, step-goes}
use Rattle.lab_model.specs.declared.micro.Order.TheVariants as orders
use Rattle.lab_rulebook.specs.ScriptRules as rules
use Rattle.lab_model.specs.declared.rule.Rule.TheVariants as told

-- a part without a blank
abbrev pub IsFilled : List ℕ → Type 0
IsFilled = AllOf (λ byte. is_blank_byte byte ≡ false)

-- words: parts without blanks that have bytes
abbrev pub AreWords : List (List ℕ) → Type 0
AreWords = AllOf (λ word. (has_byte word ≡ true) × IsFilled word)

-- what is cut at blanks has none
split-filled : (line : List ℕ) → AllOf IsFilled (slice_split is_blank_byte line)
split-filled [] = search rules
split-filled (byte ∷ bytes) = search (rules, split-filled bytes)

-- the parts that have bytes are words
filter-words : (parts : List (List ℕ)) → AllOf IsFilled parts → AreWords (filter has_byte parts)
filter-words [] filled = search rules
filter-words (part ∷ parts) filled = search (rules, filter-words parts filled.1)

-- so are the words of a text
words_of-words : (text : List ℕ) → AreWords (words_of text)
unfolding words_of
words_of-words text = filter-words (slice_split is_blank_byte text) (split-filled text)

-- a word before a text is the first part, where the text's first part is empty
split-word : (word text : List ℕ) (parts : List (List ℕ)) → IsFilled word
    → slice_split is_blank_byte text ≡ [] ∷ parts
    → slice_split is_blank_byte (word ++ text) ≡ word ∷ parts
split-word [] text parts filled is = is
split-word (byte ∷ bytes) text parts filled is =
    rw filled.0 (ap (onto_first byte) (split-word bytes text parts filled.1 is))

-- words with one space between are the words
spaced-words : (words : List (List ℕ)) → AreWords words → words_of (join_with_byte 32 words) ≡ words
unfolding words_of
spaced-words [] are = refl
spaced-words (word ∷ []) are = ap (λ text. words_of text) (sym (append-nil word))
    ∙ ap (filter has_byte) (split-word word [] [] are.0.1 refl)
    ∙ ap (λ b. cond b (word ∷ []) []) are.0.0
spaced-words (word ∷ (next ∷ words)) are =
    let rest = join_with_byte 32 (next ∷ words) in
    ap (filter has_byte) (split-word word (32 ∷ rest) _ are.0.1 refl)
    ∙ ap (λ b. cond b (word ∷ words_of rest) (words_of rest)) are.0.0
    ∙ ap (λ l. word ∷ l) (spaced-words (next ∷ words) are.1)

-- the words of a text are those of themselves, spaced
pub words_of-spaced : (text : List ℕ)
    → words_of (join_with_byte 32 (words_of text)) ≡ words_of text
words_of-spaced text = spaced-words (words_of text) (words_of-words text)

module _ {S : Type 0} (m : Meaning S) (parts : Parts S) (s : Standing S) (c : Scenario S)
    (here : Here m parts s c) where
  -- a disk more
  pub ram-goes : (number size : ℕ) → CommandGoes m parts s c (ram number size)
  ram-goes number size = record { stands = here.stands; leads = λ line rest more. more }

  -- a sleep
  pub sleep-goes : (time : ℕ) → CommandGoes m parts s c (sleep time)
  sleep-goes time =
      step-goes m c s s here.stands here.stands (orders.Sleep time) (λ rest. tt) refl refl

  -- a replay where the log lines find their devices
  pub replay-goes : May m parts s c replay → CommandGoes m parts s c replay
  replay-goes may = step-goes m c s (standing_next m parts s replay) here.stands
      (record { devices = here.stands.devices; lines = may.lines refl }) orders.Replay
      (λ rest. before-stable s.phase (may.free told.V10)) refl refl

  -- a wait
  pub wait-goes : May m parts s c wait → CommandGoes m parts s c wait
  wait-goes may = step-goes m c s (record s { phase = Waited }) here.stands
      (record { devices = here.stands.devices; lines = tt }) orders.Wait
      (λ rest. (
        replayed-stable s.phase (may.free told.V10),
        all-run m parts s (may.free told.V7),
      )) refl refl

  -- a device has a live table where the lack of one is a fault
  has-table : (name : List ℕ) (device : ℕ) (slot : Slot (Table (Shape S)))
      → (s.device_of name ≡ Some device) × (slot_at s.devices device ≡ Some slot)
      → (rules.HasNoLive m parts s name → ⊥)
      → HasTable s.devices (Dm device)
  has-table name device slot names lacks = search (rules, some-there slot.live)

  -- a command that leaves its device as it is goes by a step that leaves all as it is
  told-goes : (device : ℕ) (slot : Slot (Table (Shape S))) → slot_at s.devices device ≡ Some slot
      → (order : Order) → ((rest : List Micro) → OrderFine c s.devices s.phase order rest)
      → s.phase ≡ phase_after s.phase order → s.devices ≡ walk_order m c s.devices order
      → Goes m c s (record s { devices = change s.devices device (option_map (λ slot. slot)) })
      (order ∷ [])
  told-goes device slot there order may phase walked =
      subst (λ devices. Goes m c s (record s { devices = devices }) (order ∷ [])) (sym (change-idle
      (option_map (λ slot. slot)) s.devices device (Some slot) (joined-Some _ slot there) refl))
      (step-goes m c s s here.stands here.stands order may phase walked)

  -- a status
  pub status-goes : (name : List ℕ) → May m parts s c (on name status)
      → CommandGoes m parts s c (on name status)
  status-goes name may =
      let d = find m parts s c here (on name status) may.free name refl in
      goes-found m parts s c (on name status) d None
      (told-goes d.device d.slot d.there (orders.Status d.device)
      (λ rest. has-table name d.device d.slot (d.named, d.there) (may.free told.V3)) refl refl)

  -- a table
  pub table-goes : (name : List ℕ) → May m parts s c (on name table)
      → CommandGoes m parts s c (on name table)
  table-goes name may =
      let d = find m parts s c here (on name table) may.free name refl in
      goes-found m parts s c (on name table) d None
      (told-goes d.device d.slot d.there (orders.Table d.device)
      (λ rest. has-table name d.device d.slot (d.named, d.there) (may.free told.V3)) refl refl)

  -- a line takes a message where it is a fault if it doesn't
  takes-at : (held : Table (Shape S)) (sector : ℕ) (words : List (List ℕ))
      → ((TakesAt held sector words → ⊥) → ⊥) → TakesAt held sector words
  takes-at held sector words takes =
      let place = some-there (line_at held sector)
      (λ none. takes (λ at. None-not-Some (sym none ∙ at.2))) in
      let line = slice_get-within held place.0
      (grind (arith, nat_tests, None-not-Some, position-Some, place.1)) in (
        place.0,
        line.0,
        place.1,
        line.1,
        true_from_ne_false (line.0.target.takes words)
            (λ refuses. takes (λ at. grind (arith, nat_tests, at, refuses))),
      )

  -- a message
  pub message-goes : (name : List ℕ) (sector : ℕ) (text : List ℕ)
      → May m parts s c (on name (message sector text))
      → CommandGoes m parts s c (on name (message sector text))
  message-goes name sector text may =
      let d = find m parts s c here (on name (message sector text)) may.free name refl in
      let (slot, held, there, live) = has-table name d.device d.slot (d.named, d.there)
      (may.free told.V3) in
      goes-found m parts s c (on name (message sector text)) d None
      (told-goes d.device d.slot d.there (orders.Message d.device sector text) (λ rest. (
        slot,
        held,
        there,
        live,
        takes-at held sector (words_of text) (λ not_taken.
            may.free told.V9 (d.device, slot, (d.named, there), (held, live, not_taken))),
      )) refl refl)
