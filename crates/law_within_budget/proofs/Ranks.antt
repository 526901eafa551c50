-- Costs: the greatest over versions, and that no depth beyond a device's rank adds anything. Where
-- no device lies below itself, the longest chains of references are ranks: none is longer than there
-- are devices.
use Rattle.lab_model.proofs.Common.{rules, ◌≡◌, ℕ, zero, suc, ◌<◌, ◌≤◌, Bool, true, List, [], ◌∷◌}
use Rattle.lab_model.proofs.Common.{Option, Some, map, filter, slice_get, image, with_target}
use Rattle.lab_model.proofs.Common.{refl, arith, le_refl, ◌+◌, inl, inr, false, eqb}
use Rattle.lab_model.proofs.Common.{length, ap, ne_eqb, unwrap_or, DevNo, Ram, Dm, Kind}
use Rattle.lab_model.proofs.Common.{Span, Ref, Meaning, cost_within, greatest, table_cost}
use Rattle.lab_model.proofs.Common.{versions_of, fits_table, Scenario, Table, None-not-Some}
use Rattle.lab_model.proofs.Common.{total-le, total-none, table_cost-total, cases_lt}
use Rattle.lab_model.proofs.Common.{length-le_from_distinct_below, slice_get_within, Below}
use Rattle.lab_model.proofs.Common.{HasNoCycle, direct, devices_under, ever_under, references_of}
use Rattle.lab_model.proofs.Common.{version_of, All-In, Contains-In, In, In-filter_map, In-flat_map}
use Rattle.lab_model.proofs.Common.{In-list_any, In-map, In-slice_get, In-kinds, through}
use Rattle.std.specs.List.{IsDistinct}
use Rattle.lab_model.specs.declared.table_line.TableLine.{TableLine}
use Rattle.std.proofs.Common.{flat_map, zero-le}
use Rattle.lab_model.proofs.Members.{greatest-bound, greatest-In, greatest-attained}
use Rattle.law_within_budget.specs.Ranked.{Ranked}

-- the greatest of what f says of the items that pass
module _ {X : Type 0} (test : X → Bool) where
  -- the greatest rises with what each item is worth
  pub greatest-le : (f g : X → ℕ) (xs : List X) → ((i : ℕ) (x : X) → slice_get xs i ≡ Some x
      → f x ≤ g x) → greatest (map f (filter test xs)) ≤ greatest (map g (filter test xs))
  greatest-le f g [] le = le_refl 0
  greatest-le f g (x ∷ xs) le = grind (arith, le 0 x refl, greatest-le f g xs (λ i. le (suc i)))

  -- where no item is worth anything nothing is the greatest
  pub greatest-none : (f : X → ℕ) (xs : List X) →
      ((i : ℕ) (x : X) → slice_get xs i ≡ Some x → f x ≤ 0)
      → greatest (map f (filter test xs)) ≤ 0
  greatest-none f xs none = omega (
    arith,
    greatest-le f (λ x. 0) xs none,
    greatest-bound (λ x. 0) 0 (λ x. le_refl 0) (filter test xs),
  )

  -- an item that passes is at most the greatest
  pub greatest-has : (f : X → ℕ) (xs : List X) (i : ℕ) (x : X) → slice_get xs i ≡ Some x
      → test x ≡ true → f x ≤ greatest (map f (filter test xs))
  greatest-has f [] i x at passes = absurd (None-not-Some at)
  greatest-has f (y ∷ xs) i x at passes = grind (arith, greatest-has f xs)

-- where the costs behind references are at most others, so is what a table costs
module _ {S : Type 0} (m : Meaning S) (f g : DevNo → Kind → Span → ℕ) (kind : Kind) where
  -- of a table
  pub table_cost-le : (table : Table S) (span : Span)
      → ((number : ℕ) (line : TableLine S) (ref : Ref) → slice_get table number ≡ Some line
      → (m.shape line.target).reference kind ≡ Some ref
      → (there : Span) → f ref.dev kind there ≤ g ref.dev kind there)
      → table_cost m f kind span table ≤ table_cost m g kind span table
  table_cost-le table span le = search (rules, table_cost-total, total-le)

-- a table without references costs nothing
module _ {S : Type 0} (m : Meaning S) (f : DevNo → Kind → Span → ℕ) (kind : Kind) where
  -- of a table
  pub table_cost-none : (table : Table S) (span : Span)
      → ((number : ℕ) (line : TableLine S) (ref : Ref) → slice_get table number ≡ Some line
      → (m.shape line.target).reference kind ≡ Some ref → ⊥) → table_cost m f kind span table ≤ 0
  table_cost-none table span none = search (rules, table_cost-total, total-none)

module _ {S : Type 0} (m : Meaning S) (c : Scenario S) (r : Ranked m c) where
  -- what a device's version refers to ranks below the device
  pub under : (device v : ℕ) (table : Table S) (n : ℕ) (l : TableLine S) (kind : Kind) (ref : Ref)
      → slice_get (versions_of c.versions device) v ≡ Some table → slice_get table n ≡ Some l
      → (m.shape l.target).reference kind ≡ Some ref → r.rank ref.dev < r.rank (Dm device)
  under device v table n l kind ref at = r.falls device v table n l kind ref at

  -- a version of a device of rank 0 refers to nothing, so it costs nothing
  lowest-none : (f : DevNo → Kind → Span → ℕ) (device version : ℕ) (table : Table S) (kind : Kind)
      (span : Span) → r.rank (Dm device) ≤ 0
      → slice_get (versions_of c.versions device) version ≡ Some table
      → table_cost m f kind span table ≤ 0
  lowest-none f device version table kind span lowest at =
      table_cost-none m f kind table span (λ number line ref at_line at_ref.
      let below = under device version table number line kind ref at at_line at_ref in
      omega (arith, below, lowest))

  -- no depth costs more than one that is at least the rank
  pub cost_within-enough : (depth other : ℕ) (device : DevNo) (kind : Kind) (span : Span)
      → r.rank device ≤ depth
      → cost_within m c other device kind span ≤ cost_within m c depth device kind span
  cost_within-enough depth other (Ram number) kind span ranked = le_refl 1
  cost_within-enough zero zero (Dm device) kind span ranked = le_refl 2
  cost_within-enough (suc depth) zero (Dm device) kind span ranked = omega arith
  cost_within-enough zero (suc other) (Dm device) kind span ranked =
      search (rules, greatest-none, lowest-none, ranked)
  cost_within-enough (suc depth) (suc other) (Dm device) kind span ranked =
      omega (
        arith,
        greatest-le (λ table. fits_table table kind span)
            (table_cost m (cost_within m c other) kind span)
            (table_cost m (cost_within m c depth) kind span) (versions_of c.versions device)
            (λ version table at. table_cost-le m (cost_within m c other)
            (cost_within m c depth) kind table span (λ number line ref at_line at_ref there.
            let below = under device version table number line kind ref at at_line at_ref in
            cost_within-enough depth other ref.dev kind there (omega (arith, below, ranked)))),
      )

-- a version that has the sectors costs two less than its device, at most
pub version-cost : {S : Type 0} (m : Meaning S) (c : Scenario S) (r : Ranked m c)
    (depth device version : ℕ) (table : Table S) (kind : Kind) (span : Span)
    → r.rank (Dm device) ≤ depth → slice_get (versions_of c.versions device) version ≡ Some table
    → fits_table table kind span ≡ true
    → table_cost m (cost_within m c depth) kind span table + 2
    ≤ cost_within m c depth (Dm device) kind span
version-cost m c r zero device version table kind span ranked at fits =
    search (rules, lowest-none, ranked)
version-cost m c r (suc depth) device version table kind span ranked at fits = omega (
  arith,
  greatest-has (λ t. fits_table t kind span) (table_cost m (cost_within m c depth) kind span)
      (versions_of c.versions device) version table at fits,
  table_cost-le m (cost_within m c (suc depth)) (cost_within m c depth) kind table span
      (λ number line ref at_line at_ref there.
      let below = under m c r device version table number line kind ref at at_line at_ref in
      cost_within-enough m c r depth (suc depth) ref.dev kind there (omega (arith, below, ranked))),
)

-- the longest chain of references from a device, of so many at most; 0 for a disk
abbrev depth_within : {S : Type 0} → Meaning S → Scenario S → ℕ → DevNo → ℕ
depth_within m c zero device = 0
depth_within m c (suc steps) (Dm device) =
    greatest (map (λ below. 1 + depth_within m c steps below) (ever_under m c.versions device))
depth_within m c (suc steps) _ = 0

module _ {S : Type 0} (m : Meaning S) (c : Scenario S) where
  -- a chain of references: each device refers to the next, and the last refers to something
  abbrev Chain : DevNo → List ℕ → Type 0
  Chain device [] = Unit {0}
  Chain device (number ∷ more) =
      (device ≡ Dm number) × (next : DevNo) × In next (ever_under m c.versions number)
      × Chain next more

  -- a line's reference is among what its device ever refers to
  refers : (device version : ℕ) (table : Table S) (number : ℕ) (line : TableLine S) (kind : Kind)
      (ref : Ref) → version_of c device version ≡ Some table → slice_get table number ≡ Some line
      → (m.shape line.target).reference kind ≡ Some ref
      → In ref.dev (ever_under m c.versions device)
  refers device version table number line kind ref at_version at_line at_ref =
      In-flat_map (λ t. devices_under (image m t)) table ref.dev (versions_of c.versions device)
      (In-slice_get table _ version at_version)
      (In-flat_map (λ l. map (λ r. r.dev) (references_of l.target)) (with_target m.shape line)
      ref.dev (image m table) (In-map _ line table (In-slice_get line table number at_line))
      (search (rules, In-map, In-filter_map, In-kinds)))

  -- only a device of the scenario refers to anything
  refers-within : (d : ℕ) (next : DevNo) (o : Option (List (Table S))) → slice_get c.versions d ≡ o
      → In next (flat_map (λ t. devices_under (image m t)) (unwrap_or o []))
      → d < length c.versions
  refers-within d next o at under = search (rules, slice_get_within)

  -- all that a chain goes through after a device lies below it
  chain-below : (device : DevNo) (chain : List ℕ) → Chain device chain → (over : ℕ)
      → In device (ever_under m c.versions over) → (below : ℕ) → In below chain
      → Below (ever_under m c.versions) over below
  chain-below device [] is over under below at = absurd at
  chain-below device (number ∷ more) is over under below (inl same) =
      direct (search (rules, Contains-In, In, under))
  chain-below device (number ∷ more) is over under below (inr later) =
      through (search (rules, Contains-In, In, under))
      (chain-below is.1 more is.3 number is.2 below later)

  -- so no device comes twice in a chain
  chain-distinct : HasNoCycle m c → (device : DevNo) (chain : List ℕ) → Chain device chain
      → IsDistinct eqb chain
  unfolding IsDistinct
  chain-distinct acyclic device [] is = tt
  chain-distinct acyclic device (number ∷ more) is = (
    All-In (λ other. eqb number other ≡ false) more (λ other at. ne_eqb number other (λ same.
        acyclic number (search (rules, chain-below)))),
    chain-distinct acyclic is.1 more is.3,
  )

  -- and all of a chain are devices of the scenario
  chain-within : (device : DevNo) (chain : List ℕ) → Chain device chain → (number : ℕ)
      → In number chain → number < length c.versions
  chain-within device [] is number at = absurd at
  chain-within d (a ∷ up) is n at = search (rules, chain-within is.1 up is.3, refers-within a is.1)

  -- no chain is longer than there are devices
  chain-short : HasNoCycle m c → (device : DevNo) (chain : List ℕ) → Chain device chain
      → length chain ≤ length c.versions
  chain-short acyclic d chain is = length-le_from_distinct_below chain (length c.versions)
      (chain-distinct acyclic d chain is) (search (rules, chain-within d chain is, In-list_any))

  -- the longest chain of so many at most is no longer
  depth_within-bounded : (steps : ℕ) (device : DevNo) → depth_within m c steps device ≤ steps
  depth_within-bounded (suc steps) (Dm device) =
      search (rules, greatest-bound, depth_within-bounded steps)
  depth_within-bounded _ _ = zero-le

  -- a chain that is found is found with fewer steps if they are enough
  depth_within-enough : (size steps other : ℕ) (device : DevNo)
      → size ≤ depth_within m c other device → size ≤ steps → size ≤ depth_within m c steps device
  depth_within-enough zero steps other device long enough = zero-le
  depth_within-enough (suc size) (suc steps) (suc other) (Dm device) long enough =
      let next = greatest-attained (λ below. 1 + depth_within m c other below)
      (ever_under m c.versions device) (suc size) (omega arith) long in
      omega (
        arith,
        depth_within-enough size steps other next.0 (omega (arith, next.2)) (omega (arith, enough)),
        greatest-In (λ below. 1 + depth_within m c steps below) next.0
            (ever_under m c.versions device) next.1,
      )
  depth_within-enough _ _ _ _ long enough = absurd (omega (arith, long, enough))

  -- a rank is the length of a chain
  depth_within-chain : (size steps : ℕ) (device : DevNo) → size ≤ depth_within m c steps device
      → (chain : List ℕ) × (length chain ≡ size) × Chain device chain
  depth_within-chain zero steps device long = ([], refl, tt)
  depth_within-chain (suc size) (suc steps) (Dm device) long =
      let next = greatest-attained (λ below. 1 + depth_within m c steps below)
      (ever_under m c.versions device) (suc size) (omega arith) long in
      let rest = depth_within-chain size steps next.0 (omega (arith, next.2)) in
      (device ∷ rest.0, ap suc rest.1, (refl, next.0, next.1, rest.2))
  depth_within-chain _ _ _ long = absurd (omega (arith, long))

  -- with steps for the longest chain, what a device refers to ranks below it
  depth_within-falls : (steps : ℕ) →
      ((device : DevNo) (chain : List ℕ) → Chain device chain → length chain ≤ steps)
      → (over : ℕ) (below : DevNo) → In below (ever_under m c.versions over)
      → depth_within m c steps below < depth_within m c steps (Dm over)
  depth_within-falls zero short over below under =
      absurd (omega (arith, short (Dm over) (over ∷ []) (refl, below, under, tt)))
  depth_within-falls (suc steps) short over below under =
      elim (cases_lt steps (depth_within m c (suc steps) below)) [
        | inl more ↦
            let long = depth_within-chain (suc steps) (suc steps) below more in
            absurd (omega (
              arith,
              long.1,
              short (Dm over) (over ∷ long.0) (refl, below, under, long.2),
            ))
        | inr enough ↦ omega (
          arith,
          depth_within-enough (depth_within m c (suc steps) below) steps
              (suc steps) below (le_refl _) enough,
          greatest-In (λ next. 1 + depth_within m c steps next) below
              (ever_under m c.versions over) under,
        )
      ]

  -- where no device lies below itself there are ranks
  pub ranked : HasNoCycle m c → Ranked m c
  ranked acyclic = record {
    rank = depth_within m c (length c.versions);
    bounded = λ device. depth_within-bounded (length c.versions) (Dm device);
    falls = search (rules, depth_within-falls, chain-short, refers);
  }
