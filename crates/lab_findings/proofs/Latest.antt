-- An operation after which none was issued is the newest at all of its sectors.
use Rattle.lab_model.proofs.Common.{◌≡◌, ◌≤◌, ◌∙◌, ℕ, suc, zero, ◌+◌, ◌∷◌, Option, None, Some, false}
use Rattle.lab_model.proofs.Common.{refl, ap, ap₂, sym, if◌then◌else◌}
use Rattle.std.specs.Prelude.{IfSome}
use Rattle.std.proofs.lemmas.Bool.{le-ltb}
use Rattle.lab_next.specs.declared.writer.Writer.{Writer}
use Rattle.lab_watch.specs.Grids.{Grid, empty, next, set, side_by_side, spread, with_writers_from}
use Rattle.lab_watch.specs.Grids.{writer_at, writers_in}
use Rattle.lab_findings.specs.declared.deed.Deed.{Deed}
use Rattle.lab_findings.specs.Deeds.{Deeds, NoneBehind, deed_of}
use Rattle.lab_findings.specs.Settled.{all_newer, claims_over, issued_after, newer}
use Rattle.lab_findings.proofs.Claims.{all-claimed}

-- one that is known so was not issued after it
none-after : (number : ℕ) (known : Option Deed) → IfSome known (λ deed. deed.bio ≤ number)
    → issued_after number known ≡ false
none-after number None is = refl
none-after number (Some deed) is = le-ltb number deed.bio is

-- an operation's sectors that are put side by side are spread
put-claims : (count : ℕ) (grid : Grid) (device first : ℕ) (writer : Writer)
    → with_writers_from grid device first (side_by_side count (Some writer))
    ≡ spread grid device first count writer
put-claims zero grid device first writer = refl
put-claims (suc more) grid device first writer =
    put-claims more (set grid device first (Some writer)) device (first + 1) (next writer)

module _ (deeds : Deeds) (number : ℕ) (last : NoneBehind deeds number) where
  -- so it is newer than what stood at a sector
  newest-it : (writer : Writer) (other : Option Writer) → newer deeds number writer other ≡ writer
  newest-it writer None = refl
  newest-it writer (Some other) = ap (λ after. if after then other else writer)
      (none-after number (deed_of deeds other.origin) (last other.origin))

  -- and at all of its sectors
  all-latest : (count : ℕ) (writer : Writer) (grid : Grid) (device first : ℕ)
      → all_newer deeds number (side_by_side count (Some writer))
      (writers_in grid device first count)
      ≡ side_by_side count (Some writer)
  all-latest zero writer grid device first = refl
  all-latest (suc more) writer grid device first = ap₂ (λ one others. Some one ∷ others)
      (newest-it writer (writer_at grid device first))
      (all-latest more (next writer) grid device (first + 1))

  -- where none of them is void, it is spread over them
  pub rises : (newest voids : Grid) (device first count : ℕ) (writer : Writer) → voids ≡ empty
      → spread newest device first count writer
      ≡ with_writers_from newest device first (all_newer deeds number
      (claims_over writer (writers_in voids number 0 count)) (writers_in newest device first count))
  rises newest voids device first count writer none =
      let claims = all-claimed voids count writer number 0 none in
      let old = writers_in newest device first count in
      sym (ap (λ all. with_writers_from newest device first (all_newer deeds number all old)) claims
      ∙ ap (with_writers_from newest device first) (all-latest count writer newest device first)
      ∙ put-claims count newest device first writer)
