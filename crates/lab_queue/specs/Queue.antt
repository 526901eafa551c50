-- What waits in a queue: a map from number to due moment and holder (this project's own).
use Rattle.std.specs.Prelude.{◌≡◌, ℕ, ◌<◌, ◌≤◌, Option, Some, option_map}
use Rattle.std.specs.Prelude.{refl}
use Rattle.std.specs.Ordering.{nat_cmp}
use Rattle.std.specs.FinMap as map
use Rattle.std.specs.Coded.{Coded, code_by, coded×, coded_ℕ}
use Rattle.lab_queue.specs.declared.queue.Held.{Held}

-- what is held of each number, and how many more numbers have room
pub record Waiting : Type 0 where
  pub held : map.FinMap nat_cmp Held
  pub spare : ℕ

-- what is held of a number is stored as the pair of its moment and holder
abbrev pub held_code : Coded Held
held_code = code_by (ℕ × ℕ) (coded× coded_ℕ coded_ℕ) (λ h. (h.due, h.holder))
    (λ p. record { due = p.0; holder = p.1 }) (λ _. refl)

-- what waits is stored as the pair of the map and the room
abbrev pub waiting_code : Coded Waiting
waiting_code = code_by (map.FinMap nat_cmp Held × ℕ) (coded× (map.code coded_ℕ held_code) coded_ℕ)
    (λ w. (w.held, w.spare)) (λ p. record { held = p.0; spare = p.1 }) (λ _. refl)

-- the moment at which a number is due, in microseconds, if it is held
abbrev pub due_of : map.FinMap nat_cmp Held → ℕ → Option ℕ
due_of held id = option_map (λ h. h.due) (map.get held id)

-- the device that holds a number, if it is held
abbrev pub holder_of : map.FinMap nat_cmp Held → ℕ → Option ℕ
holder_of held id = option_map (λ h. h.holder) (map.get held id)

-- the least due moment of all that is held
pub record IsFirstDue (held : map.FinMap nat_cmp Held) (moment : ℕ) : Type 0 where
  pub due : (id : ℕ) × (due_of held id ≡ Some moment)
  pub least : (id due : ℕ) → due_of held id ≡ Some due → moment ≤ due

-- the least due moment that is later than now
pub record IsNextAfter (held : map.FinMap nat_cmp Held) (now moment : ℕ) : Type 0 where
  pub later : now < moment
  pub due : (id : ℕ) × (due_of held id ≡ Some moment)
  pub least : (id due : ℕ) → due_of held id ≡ Some due → now < due → moment ≤ due

-- the number with the least moment, and then the least number, of those due by now
pub record IsLeastDue (held : map.FinMap nat_cmp Held) (now id : ℕ) : Type 0 where
  pub moment : ℕ
  pub waits : due_of held id ≡ Some moment
  pub due : moment ≤ now
  pub least : (other due : ℕ) → due_of held other ≡ Some due → due ≤ now
      → (moment ≤ due) × (moment ≡ due → id ≤ other)
