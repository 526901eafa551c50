-- Bytes that are changed on the way: they are changed in what a write carries, and in what is
-- known of it.
use Rattle.lab_model.proofs.Common.{◌≡◌, ◌≢◌, ◌∙◌, ◌/◌, ◌%◌, ℕ, suc, zero, List, [], ◌∷◌, Marks}
use Rattle.lab_model.proofs.Common.{None, Option, Sectors, Some, Some-holds, None-not-Some, ap}
use Rattle.lab_model.proofs.Common.{arith, cases_eq, change, inl, inr, marked, nat_tests}
use Rattle.lab_model.proofs.Common.{option_map, refl, slice_get, slice_set, sym}
use Rattle.lab_target.specs.declared.verdict.Mark.{Mark}
use Rattle.lab_model.specs.Sectors.{marked_by}
use Rattle.lab_image.specs.Changes.{marks_at, with_mark}
use Rattle.lab_image.specs.Given.{Data, replaced}
use Rattle.lab_image.specs.Stores.{Store, both_marked}
use Rattle.law_writers.proofs.Carrying.{Carried, Carries, Stood, carried-on}
use Rattle.law_writers.proofs.Changing.{marks-with}
use Rattle.law_writers.proofs.Replacing.{with_byte-sets}
use Rattle.lab_image.specs.Stores as stores

-- an item that isn't changed stays
change-other : {X : Type 0} (items : List X) (at i : ℕ) (f : X → X) → i ≢ at
    → slice_get (change items at f) i ≡ slice_get items i
change-other [] at i f apart = refl
change-other (item ∷ items) zero zero f apart = absurd (apart refl)
change-other (item ∷ items) zero (suc i) f apart = refl
change-other (item ∷ items) (suc at) zero f apart = refl
change-other (item ∷ items) (suc at) (suc i) f apart =
    change-other items at i f (λ same. apart (ap suc same))

-- the changed one is what the change makes of it
change-own : {X : Type 0} (items : List X) (at : ℕ) (f : X → X)
    → slice_get (change items at f) at ≡ option_map f (slice_get items at)
change-own [] at f = refl
change-own (item ∷ items) zero f = refl
change-own (item ∷ items) (suc at) f = change-own items at f

module _ (contents : Data) (number : ℕ) where
  module _ (store : Store) (own : Sectors) (carries : Carries contents store number own)
      (mark : Mark) where
    -- the changed byte's sector
    abbrev at : ℕ
    at = mark.place / 512

    -- the byte counted from the sector's first
    abbrev byte : ℕ
    byte = mark.place % 512

    -- a sector with this byte changed
    abbrev with_value : List ℕ → List ℕ
    with_value sector = slice_set sector byte mark.value

    -- the changed byte's sector is carried with the byte changed
    changed-sector : (bytes old : List ℕ) → slice_get own at ≡ Some old → bytes ≡ with_value old
        → Carried contents (stores.with_changed_byte number (Some mark) store) number at bytes
    changed-sector bytes old stood is =
        let c = carries at old stood in
        let marks = marks_at store.changes (number, at) in
        let next = with_mark marks (record { place = byte; value = mark.value }) in
        let held : marks_at (stores.with_changed_byte number (Some mark) store).changes (number, at)
        ≡ next =
        marks-with store.changes (number, at) next (number, at) ∙ grind (arith, nat_tests) in
        record {
          writer = c.writer;
          found = c.found;
          has = is ∙ ap with_value c.has
              ∙ sym (with_byte-sets byte mark.value marks (contents c.writer))
              ∙ ap (λ marks. replaced marks (contents c.writer)) (sym held);
        }

    -- and each sector as it is then
    marked-one : Carries contents (stores.with_changed_byte number (Some mark) store) number
        (marked_by (Some mark) own)
    marked-one i bytes there = elim (cases_eq i at) [
      | inl same ↦
          let found : option_map with_value (slice_get own at) ≡ Some bytes =
          sym (change-own own at with_value)
          ∙ ap (slice_get (change own at with_value)) (sym same) ∙ there in
          rw same (of_sector (slice_get own at) refl found)
      | inr apart ↦
          let stays : Stood store number i
          (stores.with_changed_byte number (Some mark) store) number i =
          record {
            writers = refl;
            changes = marks-with store.changes (number, at) _ (number, i)
                ∙ grind (arith, nat_tests, apart);
          } in
          carried-on stays (carries i bytes (sym (change-other own at i with_value apart) ∙ there))
    ]
      where
        of_sector : (found : Option (List ℕ)) → slice_get own at ≡ found
            → option_map with_value found ≡ Some bytes
            → Carried contents (stores.with_changed_byte number (Some mark) store) number at bytes
        of_sector None stood is = absurd (None-not-Some is)
        of_sector (Some old) stood is = changed-sector bytes old stood (sym (Some-holds is))

  -- where a byte is changed, if one is, it is changed in what is known
  marked-has : (store : Store) (own : Sectors) → Carries contents store number own
      → (found : Option Mark)
      → Carries contents (stores.with_changed_byte number found store) number (marked_by found own)
  marked-has store own carries None = carries
  marked-has store own carries (Some mark) = marked-one store own carries mark

  -- so it is with both
  pub both-has : (store : Store) (own : Sectors) → Carries contents store number own
      → (marks : Marks)
      → Carries contents (both_marked number marks store) number (marked marks own)
  both-has store own carries marks = marked-has (stores.with_changed_byte number marks.fixed store)
      (marked_by marks.fixed own) (marked-has store own carries marks.fixed) marks.random

-- a byte that is changed is none of another number
marked-other : (store : Store) (number : ℕ) (found : Option Mark) (other i : ℕ)
    → other ≢ number → Stood store other i (stores.with_changed_byte number found store) other i
marked-other store number None other i apart = record { writers = refl; changes = refl }
marked-other store number (Some mark) other i apart = record {
  writers = refl;
  changes = marks-with store.changes (number, mark.place / 512) _ (other, i)
      ∙ grind (arith, nat_tests, apart);
}

-- and other places have what they had
pub both-other : (store : Store) (number : ℕ) (marks : Marks) (other i : ℕ) → other ≢ number
    → Stood store other i (both_marked number marks store) other i
both-other store number marks other i apart =
    let first = marked-other store number marks.fixed other i apart in
    let last = marked-other (stores.with_changed_byte number marks.fixed store) number marks.random other i
    apart in
    record {
      writers = last.writers ∙ first.writers;
      changes = last.changes ∙ first.changes;
    }
