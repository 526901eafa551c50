-- A call that changes a device's live table and something else, or leaves both as they were.
use Rattle.lab_model.proofs.Common.{rules, ◌≡◌, ℕ, suc, List, Option, Some, OnErr, OnOk, Result}
use Rattle.lab_model.proofs.Common.{option_map, live_at, change, with_live, Slot}
use Rattle.lab_bios.proofs.Numbers.{changed-alone}

-- of two facts on success a third follows
pub on_ok-two : {X E P Q R : Type 0} (result : Result X E) → (P → Q → R) → OnOk result P
    → OnOk result Q → OnOk result R
on_ok-two result both p q = search rules

-- of two facts on failure a third follows
pub on_err-two : {X E P Q R : Type 0} (result : Result X E) → (P → Q → R) → OnErr result P
    → OnErr result Q → OnErr result R
on_err-two result both p q = search rules

-- and the devices with it are those devices
pub live-same : {L : Type 0} (slots : List (Option (Slot L))) (device : ℕ) (table : L)
    → live_at slots device ≡ Some table → change slots device (option_map (with_live table)) ≡ slots
live-same slots device table is = changed-alone slots (suc device) (option_map (with_live table))
    (λ entry there. (search (rules, rw there at is)))
