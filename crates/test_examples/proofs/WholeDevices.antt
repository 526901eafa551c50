-- What is wrong on a whole device, which has too many sectors to compute it one by one.
use Rattle.std.proofs.Common.{rules, ◌≡◌, ℕ, suc, zero, ◌+◌, ◌<◌, is_some, None, false}
use Rattle.std.proofs.Common.{refl, ap, ◌∙◌, arith}
use Rattle.std.specs.Ordering.{eq_by_cmp}
use Rattle.lab_watch.proofs.Places.{turned}
use Rattle.lab_watch.specs.Grids.{Grid, place_cmp, writer_at, writers_in}
use Rattle.lab_findings.specs.Judged.{written_hits}
use Rattle.lab_findings.specs.Watched.{device_reach}
use Rattle.lab_findings.specs.Wrongs.{wrong_from, wrong_with_first}

-- the sectors of a number from one on are nobody's
abbrev pub AreNobodys : Grid → ℕ → ℕ → Type 0
AreNobodys grid number first = (more : ℕ) → writer_at grid number (first + more) ≡ None

-- so are those from the next one on
behind : (grid : Grid) (number first : ℕ) → AreNobodys grid number first
    → AreNobodys grid number (first + 1)
behind grid number first none more =
    ap (writer_at grid number) (next more) ∙ none (suc more) where
      next : (more : ℕ) → first + 1 + more ≡ first + suc more
      next more = omega arith

-- none of them is wrong
none-wrong : (grid : Grid) (number first more : ℕ) → AreNobodys grid number first
    → wrong_from first (written_hits (writers_in grid number first more)) ≡ None
none-wrong grid number first zero none = refl
none-wrong grid number first (suc more) none =
    ap (λ writer. wrong_with_first (is_some writer) first
    (wrong_from (first + 1) (written_hits (writers_in grid number (first + 1) more))))
    (ap (writer_at grid number) (same first) ∙ none 0)
    ∙ none-wrong grid number (first + 1) more (behind grid number first none) where
      same : (n : ℕ) → n ≡ n + 0
      same n = omega arith

-- where all behind so many sectors are nobody's, as many are wrong as are among those
wrong-among : (grid : Grid) (number first count more : ℕ) → AreNobodys grid number (first + count)
    → wrong_from first (written_hits (writers_in grid number first (count + more)))
    ≡ wrong_from first (written_hits (writers_in grid number first count))
wrong-among grid number first zero more none = rw (none-more more)
    (none-wrong grid number first more (λ n. ap (writer_at grid number) (behind n) ∙ none n)) where
      none-more : (n : ℕ) → 0 + n ≡ n
      none-more n = omega arith

      behind : (n : ℕ) → first + n ≡ first + 0 + n
      behind n = omega arith
wrong-among grid number first (suc count) more none = rw (one-more count more)
    (ap (λ wrong. wrong_with_first (is_some (writer_at grid number first)) first wrong)
    (wrong-among grid number (first + 1) count more
    (λ n. ap (writer_at grid number) (behind n) ∙ none n))) where
      one-more : (n m : ℕ) → suc n + m ≡ suc (n + m)
      one-more n m = omega arith

      behind : (n : ℕ) → first + 1 + count + n ≡ first + suc count + n
      behind n = omega arith

-- two sectors of one number stand at two places
pub apart : (number one other : ℕ) → one < other
    → eq_by_cmp place_cmp (number, other) (number, one) ≡ false
apart number one other less = turned (number, other) (number, one)
    ∙ search (rules, less)

-- a device has these sectors at most: the first two, and so many more
two-more : device_reach ≡ 2 + 70368744177662
unfolding device_reach
two-more = refl

-- where all behind a device's first two sectors are nobody's, as many are wrong as of those two
pub wrong-of-two : (grid : Grid) (number : ℕ) → AreNobodys grid number 2
    → wrong_from 0 (written_hits (writers_in grid number 0 device_reach))
    ≡ wrong_from 0 (written_hits (writers_in grid number 0 2))
wrong-of-two grid number none = whole device_reach 70368744177662 two-more where
  whole : (all more : ℕ) → all ≡ 2 + more
      → wrong_from 0 (written_hits (writers_in grid number 0 all))
      ≡ wrong_from 0 (written_hits (writers_in grid number 0 2))
  whole all more split = ap (λ n. wrong_from 0 (written_hits (writers_in grid number 0 n))) split
      ∙ wrong-among grid number 0 2 more none
