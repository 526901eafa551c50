-- Sets of numbers below a reach (this project's own).
use Rattle.std.specs.Prelude.{◌≡◌, ℕ, ◌≤◌, suc, Bool, true, false, List, [], ◌∷◌, length}
use Rattle.std.specs.Prelude.{slice_index_or}

-- a mark for each number below the reach, from 0 on: true for a member
abbrev pub Marks : Type 0
Marks = List Bool

-- whether n is a member
abbrev pub has : Marks → ℕ → Bool
has marks n = slice_index_or marks n false

-- the members in rising order, where the first mark is that of this number
abbrev pub members_from : ℕ → Marks → List ℕ
members_from number [] = []
members_from number (true ∷ marks) = number ∷ members_from (suc number) marks
members_from number (false ∷ marks) = members_from (suc number) marks

-- the members in rising order
abbrev pub members : Marks → List ℕ
members marks = members_from 0 marks

-- new has the members of old, and reaches as far or farther
pub record KeepsMembers (old new : Marks) : Type 0 where
  pub same : members new ≡ members old
  pub marks : (n : ℕ) → has new n ≡ has old n
  pub reach : length old ≤ length new
