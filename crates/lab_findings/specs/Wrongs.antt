-- Which of some sectors are wrong: the first of them, and how many (this project's own).
use Rattle.std.specs.Prelude.{ℕ, ◌+◌, ◌&&◌, nat_lt, List, [], ◌∷◌, Option, Some, None, Bool}
use Rattle.std.specs.Prelude.{true, false, if◌then◌else◌}
use Rattle.lab_findings.specs.declared.found.Wrong.{Wrong}

-- how many are wrong
abbrev pub count_in : Option Wrong → ℕ
count_in None = 0
count_in (Some wrong) = wrong.count

-- a sector in front of others is wrong, or it isn't
abbrev pub wrong_with_first : Bool → ℕ → Option Wrong → Option Wrong
wrong_with_first false first wrong = wrong
wrong_with_first true first wrong = Some (record { first = first; count = 1 + count_in wrong })

-- the wrong ones of sectors that stand side by side from a place on, where it is known of each
-- whether it is wrong
abbrev pub wrong_from : ℕ → List Bool → Option Wrong
wrong_from first [] = None
wrong_from first (hit ∷ hits) = wrong_with_first hit first (wrong_from (first + 1) hits)

-- the wrong ones of some sectors, and of others behind them
abbrev pub joined : Option Wrong → Option Wrong → Option Wrong
joined None more = more
joined (Some wrong) more = Some (record wrong { count = wrong.count + count_in more })

-- so many sectors from a place on, of which all are wrong, or none
abbrev pub all_wrong : ℕ → ℕ → Bool → Option Wrong
all_wrong first count hit =
    if hit && nat_lt 0 count then Some (record { first = first; count = count }) else None
