-- Numbers in groups (this project's own).
use Rattle.std.specs.Prelude.{◌≡◌, ◌≢◌, ◌⊎◌, ℕ, ◌≤◌, ◌==◌, Bool, true, List, [], get_or, length}
use Rattle.std.specs.List.{list_any}

-- the numbers of each group, rising
abbrev pub Groups : Type 0
Groups = List (List ℕ)

-- whether a number is in a group; none is in a group that isn't there
abbrev pub is_in : Groups → ℕ → ℕ → Bool
is_in groups group number = list_any (λ n. n == number) (get_or groups group [])

-- there are as many groups, and of no other number of a group it changed whether it is there
pub record Keeps (old new : Groups) (group number : ℕ) : Type 0 where
  pub count : length new ≡ length old
  pub others : (other n : ℕ) → (other ≢ group) ⊎ (n ≢ number) → is_in new other n ≡ is_in old other n

-- the least number of a group from one on
pub record IsNext (groups : Groups) (group from number : ℕ) : Type 0 where
  pub is : is_in groups group number ≡ true
  pub reached : from ≤ number
  pub least : (other : ℕ) → from ≤ other → is_in groups group other ≡ true → number ≤ other
