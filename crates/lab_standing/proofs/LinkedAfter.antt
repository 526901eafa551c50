-- Lists whose items are related, each with the one at its place: after one is put at the end of
-- both, after a change at one place, and after a command. Links keep telling what the versions
-- refer to, after a create and after a load.
use Rattle.lab_model.proofs.Common.{rules, ◌≡◌, ℕ, zero, suc, List, [], ◌∷◌, ◌++◌, map, Option, ap₂}
use Rattle.lab_model.proofs.Common.{refl, change, inl, inr, Some, None, subst, slice_get, unwrap_or}
use Rattle.lab_model.proofs.Common.{flat_map-append, append-nil, DevNo, Dm, Meaning, devices_under}
use Rattle.lab_model.proofs.Common.{Table, image, Contains-In, In, In-Contains, In-append_left}
use Rattle.lab_model.proofs.Common.{In-append_right, append-member}
use Rattle.lab_script.specs.Task.{Task}
use Rattle.lab_script.specs.Walk.{loads_after}
use Rattle.lab_standing.specs.Image.{Pairwise, own_of}
use Rattle.lab_rulebook.specs.Standing.{with_version}
use Rattle.lab_rulebook.proofs.ReferenceLemmas.{under-image}
use Rattle.lab_standing.specs.Linked.{Linked, RowTells, ever_of, grown, with_links}
use Rattle.lab_standing.proofs.LinkRows.{grown-In, grown-left, grown-right}

module _ {X Y : Type 0} (P : X → Y → Type 0) where
  -- one more at the end of both
  pub pairs-push : (x : X) (y : Y) → P x y → (xs : List X) (ys : List Y) → Pairwise P xs ys
      → Pairwise P (xs ++ x ∷ []) (ys ++ y ∷ [])
  pairs-push x y is [] [] pairs = (is, tt)
  pairs-push x y is (first ∷ xs) (other ∷ ys) pairs = (pairs.0, pairs-push x y is xs ys pairs.1)
  pairs-push x y is _ _ pairs = absurd pairs

  -- a change at one place of both
  pub pairs-change : (f : X → X) (g : Y → Y) → ((x : X) (y : Y) → P x y → P (f x) (g y))
      → (place : ℕ) (xs : List X) (ys : List Y) → Pairwise P xs ys
      → Pairwise P (change xs place f) (change ys place g)
  pairs-change f g each place [] [] pairs = tt
  pairs-change f g each zero (x ∷ xs) (y ∷ ys) pairs = (each x y pairs.0, pairs.1)
  pairs-change f g each (suc place) (x ∷ xs) (y ∷ ys) pairs =
      (pairs.0, pairs-change f g each place xs ys pairs.1)
  pairs-change f g each place _ _ pairs = absurd pairs

  -- what is kept of each device's tables, in two ways, stays related by a command
  pub pairs-after : {L K : Type 0} (add : X → Option L → X) (put : Y → Option K → Y) (x : X) (y : Y)
      (table : Option L) (held : Option K) → P x y
      → ((x : X) (y : Y) → P x y → P (add x table) (put y held))
      → (xs : List X) (ys : List Y) → Pairwise P xs ys → (found : Option ℕ) (task : Task)
      → Pairwise P (loads_after add x xs found task table) (loads_after put y ys found task held)
  pairs-after add put x y table held none each xs ys pairs found task =
      search (rules, pairs-push, pairs-change)

-- items that f makes of others are those of a list
pub pairs-map : {X Y : Type 0} (f : Y → X) (xs : List X) (ys : List Y)
    → Pairwise (λ x y. x ≡ f y) xs ys → xs ≡ map f ys
pairs-map f [] [] pairs = refl
pairs-map f (x ∷ xs) (y ∷ ys) pairs = ap₂ (λ z zs. z ∷ zs) pairs.0 (pairs-map f xs ys pairs.1)
pairs-map f _ _ pairs = absurd pairs

-- a row tells devices where each of its numbers is among them, and each of them is in it
pub row-tells : (devices : List DevNo) (row : List ℕ)
    → ((n : ℕ) → In n row → In (Dm n) devices) → ((n : ℕ) → In (Dm n) devices → In n row)
    → RowTells devices row
row-tells devices row there back = search (rules, Contains-In, In-Contains)

-- a row's number is one of the devices
pub row-device : (devices : List DevNo) (row : List ℕ) → RowTells devices row → (n : ℕ)
    → In n row → In (Dm n) devices
row-device devices row tells n at = In-Contains (Dm n) devices ((tells n).0 (Contains-In n row at))

-- a mapped device's number is in the row
pub device-row : (devices : List DevNo) (row : List ℕ) → RowTells devices row → (n : ℕ)
    → In (Dm n) devices → In n row
device-row devices row tells n at = In-Contains n row ((tells n).1 (Contains-In (Dm n) devices at))

-- a row to which devices are added tells those, and what it told
pub grown-tells : (told devices : List DevNo) (row : List ℕ) → RowTells told row
    → RowTells (told ++ devices) (grown devices row)
grown-tells told devices row tells = row-tells (told ++ devices) (grown devices row)
    (λ n at. elim (grown-In devices n row at) as (λ w. In (Dm n) (told ++ devices)) [
      | inl older ↦ In-append_left (Dm n) told devices (row-device told row tells n older)
      | inr new ↦ In-append_right (Dm n) told devices new
    ])
    (λ n at. elim (append-member (Dm n) told devices at) as (λ w. In n (grown devices row)) [
      | inl older ↦ grown-left devices n row (device-row told row tells n older)
      | inr new ↦ grown-right devices n row new
    ])

-- an empty row tells no device
pub nothing-tells : RowTells [] []
nothing-tells = row-tells [] [] (λ n at. at) (λ n at. at)

module _ {S : Type 0} (m : Meaning S) where
  -- a row to which a table's devices are added tells them, too
  pub links-more : (chosen : Option (Table S)) (row : List ℕ) (own : List (Table S))
      → RowTells (ever_of m own) row
      → RowTells (ever_of m (with_version own chosen)) (with_links m row chosen)
  links-more None row own tells = tells
  links-more (Some table) row own tells =
      subst (λ devices. RowTells devices (with_links m row (Some table)))
      (search (rules, flat_map-append, append-nil, under-image))
      (grown-tells (ever_of m own) (devices_under (image m table)) row tells)

  -- links after a command, whose table is kept with its device's
  pub links-after : (found : Option ℕ) (task : Task) (chosen : Option (Table S))
      (rows after : List (List ℕ)) (versions left : List (List (Table S))) → Linked m rows versions
      → after ≡ loads_after (with_links m) [] rows found task chosen
      → left ≡ loads_after with_version [] versions found task chosen → Linked m after left
  links-after found task chosen rows after versions left linked grown kept = rw (grown, kept)
      (pairs-after (λ row own. RowTells (ever_of m own) row) (with_links m) with_version [] []
      chosen chosen nothing-tells (links-more chosen) rows versions linked found task)

  -- links after a load
  pub links-loaded : (device : ℕ) (table : Table S) (rows : List (List ℕ))
      (versions : List (List (Table S))) → Linked m rows versions
      → Linked m (change rows device (grown (devices_under (image m table))))
      (change versions device (λ own. with_version own (Some table)))
  links-loaded device table rows versions linked =
      pairs-change (λ row own. RowTells (ever_of m own) row) (λ row. with_links m row (Some table))
      (λ own. with_version own (Some table)) (links-more (Some table)) device rows versions linked

  -- past the end no row tells anything, and there is no version
  past-tells : (device : ℕ)
      → RowTells (ever_of m (unwrap_or (slice_get [] device) [])) (own_of [] device)
  past-tells zero = nothing-tells
  past-tells (suc device) = past-tells device

  -- a device's row tells what its versions refer to
  pub linked-tells : (rows : List (List ℕ)) (versions : List (List (Table S)))
      → Linked m rows versions → (device : ℕ)
      → RowTells (ever_of m (unwrap_or (slice_get versions device) [])) (own_of rows device)
  linked-tells [] [] linked device = past-tells device
  linked-tells [] (own ∷ versions) linked device = absurd linked
  linked-tells (row ∷ rows) [] linked device = absurd linked
  linked-tells (row ∷ rows) (own ∷ versions) linked zero = linked.0
  linked-tells (row ∷ rows) (own ∷ versions) linked (suc device) =
      linked-tells rows versions linked.1 device
