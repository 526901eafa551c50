-- Images of tables and devices: what the events do to targets leaves them alone, since no event
-- changes a target's shape; what a call does to a device has its counterpart on the device's image.
use Rattle.lab_model.proofs.Common.{rules, ◌≡◌, ℕ, List, [], ◌∷◌, Option, Some, None, refl, ◌∙◌}
use Rattle.lab_model.proofs.Common.{suc, zero, option_map, Kind, Lawful, Meaning, live_at, change}
use Rattle.lab_model.proofs.Common.{all_judged, table_judged, with_live, Slot, Table, image}
use Rattle.lab_model.proofs.Common.{devices_image, map-change-alone, map-append, slice_get-append}
use Rattle.lab_model.proofs.Common.{map-change, slot_at}
use Rattle.lab_model.specs.declared.piece.Piece.{Piece}
use Rattle.lab_model.specs.ControlEffect.{line_told}
use Rattle.std.specs.List.{slice_get}
use Rattle.lab_model.proofs.ShapeLemmas.{image-change}
use Rattle.law_slots.specs.CallsWalk.{IsWalk}

module _ {S : Type 0} (m : Meaning S) (lawful : Lawful m) where
  -- the judgement of one piece leaves a table's image alone
  pub table_judged-image : (kind : Kind) (now : ℕ) (table : Table S) (piece : Piece)
      → image m (table_judged m kind now table piece) ≡ image m table
  table_judged-image kind now table piece = search (rules, image-change)

  -- the judgements of all pieces leave a table's image alone
  pub all_judged-image : (kind : Kind) (now : ℕ) (table : Table S) (pieces : List Piece)
      → image m (all_judged m kind now table pieces) ≡ image m table
  all_judged-image kind now table [] = refl
  all_judged-image kind now table (piece ∷ more) =
      all_judged-image kind now (table_judged m kind now table piece) more
      ∙ table_judged-image kind now table piece

  -- a line that takes a message leaves its table's image alone
  pub line_told-image : (words : List (List ℕ)) (number : ℕ) (table : Table S)
      → image m (line_told m words number table) ≡ image m table
  line_told-image words number table = search (rules, image-change)

module _ {S : Type 0} (m : Meaning S) where
  -- a live table in place of one of the same image leaves all devices' images alone
  pub devices_live-image : (devices : _) (d : ℕ) (old new : Table S) → live_at devices d ≡ Some old
      → image m new ≡ image m old → devices_image m (change devices d (option_map (with_live new)))
      ≡ devices_image m devices
  devices_live-image devices d old new live same = search (rules, map-change-alone)

-- a change of any item but an empty one leaves an empty one empty
change-keeps-empty : {X : Type 0} (xs : List (Option X)) (i j : ℕ) (f : Option X → Option X)
    → f None ≡ None → slice_get xs j ≡ Some None → slice_get (change xs i f) j ≡ Some None
change-keeps-empty [] i j f same empty = empty
change-keeps-empty (x ∷ xs) zero zero f same empty = search rules
change-keeps-empty (x ∷ xs) zero (suc j) f same empty = empty
change-keeps-empty (x ∷ xs) (suc i) zero f same empty = empty
change-keeps-empty (x ∷ xs) (suc i) (suc j) f same empty = change-keeps-empty xs i j f same empty

module _ {S : Type 0} (m : Meaning S) (lawful : Lawful m) where
  -- so does a live table whose line has taken a message
  pub devices_told-image : (devices : _) (d : ℕ) (slot : Slot (Table S)) (table : Table S)
      (words : List (List ℕ)) (number : ℕ) → slot_at devices d ≡ Some slot
      → slot.live ≡ Some table → devices_image m
      (change devices d (option_map (with_live (line_told m words number table))))
      ≡ devices_image m devices
  devices_told-image devices d slot table words number there live =
      devices_live-image m devices d table _ (rw there live)
      (line_told-image m lawful words number table)

module _ {S : Type 0} (m : Meaning S) where
  -- each call goes with its step: what is created or loaded has the image of its version
  pub calls-walk : IsWalk m
  calls-walk =
      search (
        rules,
        map-append,
        map-change,
        devices_live-image,
        slice_get-append,
        change-keeps-empty,
      )
