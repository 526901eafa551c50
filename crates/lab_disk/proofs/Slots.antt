-- Rows of slots, as lists of sectors.
use Rattle.std.proofs.Common.{rules, ◌≡◌, ℕ, ◌+◌, ◌-◌, ◌*◌, ◌/◌, ◌%◌, ◌<◌, ◌≤◌, List, [], ◌∷◌}
use Rattle.std.proofs.Common.{Option, None, Some, length, take, drop, replicate, set, get_or, suc}
use Rattle.std.proofs.Common.{zero, refl, ap, sym, ◌∙◌, arith, length-append, mul-suc, add_comm}
use Rattle.std.specs.Prelude.{All, true, false, is_some, map}
use Rattle.std.specs.List.{flat_map}
use Rattle.std.specs.Global.{Vec}
use Rattle.std.proofs.Math.Seq.{drop-append-add}
use Rattle.std.proofs.lemmas.List.{length-replicate, get_or_read}
use Rattle.std.proofs.lemmas.List.{map-set, take-replicate, drop-replicate, length-drop}
use Rattle.std.proofs.lemmas.List.{drop-append-le, replicate-append-replicate, length-take-le}
use Rattle.std.proofs.lemmas.List.{take-append-le, drop-take, set-get_or, take-take}
use Rattle.std.proofs.lemmas.List.Elements.{All-replicate, All-tail}
use Rattle.lab_sector.specs.declared.span.Span.{Span}
use Rattle.lab_disk.specs.Disk.{Sectors, put, zero_sector}
use Rattle.lab_disk.specs.Pages.{PageRow, sectors_in, IsWhole, IsLaidOut, IsPart}
use Rattle.lab_disk.proofs.Puts.{put-append_left, put-append_right, take-put}

-- a slot has a page, or none
abbrev Slot : Type 0
Slot = Option (Vec (List ℕ))

-- what a row of slots shows of so many sectors
abbrev pub shown : List Slot → ℕ → PageRow
shown slots size = record
    { sectors = take size (flat_map sectors_in slots); made = map is_some slots }

-- whole slots have 64 sectors each
pub length-slots : (slots : List Slot) → All IsWhole slots
    → length (flat_map sectors_in slots) ≡ 64 * length slots
length-slots [] whole = refl
length-slots (slot ∷ slots) whole =
    let first : length (sectors_in slot) ≡ 64 = whole 0 slot (omega arith) in
    let others = length-slots slots (All-tail IsWhole slot slots whole) in
    omega (arith, length-append (sectors_in slot) (flat_map sectors_in slots))

-- a part of the slot i, counted over the whole row
part-slots : (slots : List Slot) (i j n : ℕ) → All IsWhole slots
    → i < length slots → j + n ≤ 64
    → take n (drop (64 * i + j) (flat_map sectors_in slots))
    ≡ take n (drop j (sectors_in (get_or slots i None)))
part-slots [] i j n whole below small = absurd (omega arith)
part-slots (slot ∷ slots) zero j n whole below small =
    let first : length (sectors_in slot) ≡ 64 = whole 0 slot (omega arith) in
    let place : 64 * 0 + j ≡ j = omega arith in
    rw (place, drop-append-le j (sectors_in slot) (flat_map sectors_in slots) (omega arith))
    (take-append-le n (drop j (sectors_in slot)) (flat_map sectors_in slots)
    (omega (arith, length-drop j (sectors_in slot))))
part-slots (slot ∷ slots) (suc i) j n whole below small =
    let first : length (sectors_in slot) ≡ 64 = whole 0 slot (omega arith) in
    let place : 64 * suc i + j ≡ length (sectors_in slot) + (64 * i + j) = omega arith in
    let rest = All-tail IsWhole slot slots whole in
    rw (place, drop-append-add) (part-slots slots i j n rest (omega arith) small)

-- a slot is replaced by one with others in a part of it: the row has them in that part
put-slots : (slots : List Slot) (i j : ℕ) (slot : Slot) (ys : Sectors) → All IsWhole slots
    → i < length slots → j + length ys ≤ 64
    → sectors_in slot ≡ put (sectors_in (get_or slots i None)) j ys
    → flat_map sectors_in (set slots i slot) ≡ put (flat_map sectors_in slots) (64 * i + j) ys
put-slots [] i j slot ys whole below small is = absurd (omega arith)
put-slots (old ∷ slots) zero j slot ys whole below small is =
    let first : length (sectors_in old) ≡ 64 = whole 0 old (omega arith) in
    let place : 64 * 0 + j ≡ j = omega arith in
    rw (is, place, put-append_left (sectors_in old) (flat_map sectors_in slots) j ys (omega arith))
put-slots (old ∷ slots) (suc i) j slot ys whole below small is =
    let first : length (sectors_in old) ≡ 64 = whole 0 old (omega arith) in
    rw (put-slots slots i j slot ys (All-tail IsWhole old slots whole) (omega arith) small is)
    (rw (put-append_right (sectors_in old) (flat_map sectors_in slots) (64 * i + j)
    (64 * suc i + j) ys (omega arith)))

-- a slot is replaced by one with the same sectors: the row has the same sectors
pub same-slots : (slots : List Slot) (i : ℕ) (slot : Slot)
    → sectors_in slot ≡ sectors_in (get_or slots i None)
    → flat_map sectors_in (set slots i slot) ≡ flat_map sectors_in slots
same-slots [] i slot is = refl
same-slots (old ∷ slots) zero slot is = rw is
same-slots (old ∷ slots) (suc i) slot is = rw (same-slots slots i slot is)

-- a row of slots with no page has zero sectors alone
blank-slots : (n : ℕ) → flat_map sectors_in (replicate n None) ≡ replicate (64 * n) zero_sector
blank-slots zero = refl
blank-slots (suc n) =
    rw (blank-slots n, mul-suc, add_comm _ 64) (replicate-append-replicate 64 (64 * n) zero_sector)

-- slots with no page, enough for the size
pub laid-blank : (n size : ℕ) → size ≤ 64 * n → IsLaidOut (replicate n None) size
laid-blank n size enough = search (rules, All-replicate, length-replicate)

-- their sectors up to the size
pub take-blank-slots : (n size : ℕ) → size ≤ 64 * n → take size
    (flat_map sectors_in (replicate n None)) ≡ replicate size zero_sector
take-blank-slots n size enough = rw blank-slots (take-replicate size (64 * n) zero_sector enough)

-- whether the page of a slot is made
pub made-at : (slots : List Slot) (i : ℕ) → get_or (map is_some slots) i false
    ≡ is_some (get_or slots i None)
made-at (slot ∷ slots) (suc i) = made-at slots i
made-at slots i = refl

-- what is made stays made where a slot gets a page
pub kept-made : (slots : List Slot) (i k : ℕ) (page : Vec (List ℕ)) → get_or
    (map is_some slots) k false ≡ true
    → get_or (map is_some (set slots i (Some page))) k false ≡ true
kept-made (slot ∷ slots) zero zero page made = refl
kept-made (slot ∷ slots) (suc i) (suc k) page made = kept-made slots i k page made
kept-made slots i k page made = made

-- zero sectors stay as they are where some of them become zero
pub same-zeroes : (j n : ℕ) → j + n ≤ 64
    → put (replicate 64 zero_sector) j (replicate n zero_sector) ≡ replicate 64 zero_sector
same-zeroes j n small =
    let all : j + (n + (64 - (j + n))) ≡ 64 = omega arith in
    rw (length-replicate n zero_sector, take-replicate j 64 zero_sector (omega arith))
    (rw (drop-replicate (j + n) 64 zero_sector)
    (simp (replicate-append-replicate {A = List ℕ}, all)))

module _ (slots : List Slot) (size : ℕ) {row : PageRow} (is : shown slots size ≡ row) where
  module _ (laid : IsLaidOut slots size) where
    -- as many sectors are shown as the size says
    length-shown : length row.sectors ≡ size
    length-shown = rw (← is) (search (rules, length-take-le, length-slots, laid))

    -- the slot of a sector that is shown stands in the row
    pub below_slots : (at : ℕ) → at < length row.sectors → at / 64 < length slots
    below_slots at below = omega (arith, length-shown, laid.enough)

    -- what is read of the slot of a sector that is shown, at any default
    pub slot_read : (at : ℕ) (slot : Slot) → at < length row.sectors
        → slot ≡ get_or slots (at / 64) slot → slot ≡ get_or slots (at / 64) None
    slot_read at slot below read = search (rules, get_or_read, below_slots)

    module _ {part : Span} (fits : IsPart part (length row.sectors)) where
      -- a part of one page that a row of slots shows
      pub part-shown : take part.len (drop part.first row.sectors)
          ≡ take part.len
          (drop (part.first % 64) (sectors_in (get_or slots (part.first / 64) None)))
      part-shown =
          let at = part.first in
          let n = part.len in
          let flat = flat_map sectors_in slots in
          let rest : at + (size - at) ≡ size = omega (arith, length-shown) in
          let place : 64 * (at / 64) + at % 64 ≡ at = omega arith in
          let below = below_slots at (omega arith) in
          let cut : take n (drop at (take size flat)) ≡ take n (drop at flat) =
          rw (← rest, drop-take)
          (take-take n (size - at) (drop at flat) (omega (arith, length-shown))) in
          ap (λ (r : PageRow). take n (drop at r.sectors)) (sym is) ∙ cut
          ∙ rw place at (part-slots slots (at / 64) (at % 64) n laid.whole below fits.on_page)

      module _ {read old : Slot} (found : read ≡ get_or slots (part.first / 64) read)
          (it : read ≡ old) where
        -- the slot of the part is what was read of it
        slot_is : get_or slots (part.first / 64) None ≡ old
        slot_is = sym (slot_read part.first read (omega arith) found) ∙ it

        -- a page in place of a page, or none in place of none: the same pages are made
        pub same-made : (slot : Slot) → is_some slot ≡ is_some old
            → map is_some (set slots (part.first / 64) slot) ≡ row.made
        same-made slot same = search (rules, map-set, slot_is, made-at, set-get_or)

        -- a slot is replaced by one with others in a part of it
        pub put-shown : (slot : Slot) (ys : Sectors) → length ys ≡ part.len
            → sectors_in slot ≡ put (sectors_in old) (part.first % 64) ys
            → take size (flat_map sectors_in (set slots (part.first / 64) slot))
            ≡ put row.sectors part.first ys
        put-shown slot ys count same =
            let at = part.first in
            let place : 64 * (at / 64) + at % 64 ≡ at = omega arith in
            let below = below_slots at (omega arith) in
            rw (
              put-slots slots (at / 64) (at % 64) slot ys laid.whole below (omega arith)
                  (rw slot_is same),
              place,
            ) (rw (take-put (flat_map sectors_in slots) size at ys (omega (arith, length-shown))
            (omega (arith, length-slots slots laid.whole, laid.enough)))
            (ap (λ (r : PageRow). put r.sectors at ys) is))
