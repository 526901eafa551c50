-- How the counts of children follow the bios, as a parent's count changes by one. The bios that are
-- kept, each with its count: which bios and which counts they are, as one is put behind, removed or
-- written, in the machine's words. What is kept of the bios of a run stays so where one of them is
-- taken out.
use Rattle.lab_model.proofs.Common.{rules, ◌≡◌, ℕ, List, IfSome, Option, refl, ap, ◌∙◌, inl, inr}
use Rattle.lab_model.proofs.Common.{cases_eq, option_map, Bio}
use Rattle.lab_model.specs.declared.parent.Parent.{Parent}
use Rattle.lab_model.specs.declared.parent.Parent.TheVariants.{FromLog, FromBio}
use Rattle.lab_model.proofs.Common.{change_numbered, option_flatten, numbered, suc, zero, [], ◌∷◌, ◌++◌}
use Rattle.lab_model.proofs.Common.{IfNone, Some, None, map, map-append, ◌+◌, ◌-◌, ◌<◌, length}
use Rattle.lab_bios.specs.Children.{parent_number, HasChildren, child_count}
use Rattle.lab_bios.proofs.Numbers.{at-changed, at-other, changed-alone}
use Rattle.lab_bios.proofs.Sums.{one-other, one-same, one_if, child_of, length-living, summed-gone}
use Rattle.lab_index.specs.Lists.{AreGoneFrom, IsNextFrom}
use Rattle.lab_bios.specs.declared.bio.Living.{Living}
use Rattle.lab_bios.specs.Living.{bios_of, counts_of, with_count, living_of}
use Rattle.lab_bios.proofs.Same.{got-same}
use Rattle.lab_index.specs.Lists as rows

-- at each number whose bio lives, and at no other, stands what is told of the number
abbrev pub Tells : (ℕ → ℕ) → List (Option Bio) → List (Option ℕ) → Type 0
Tells count bios counts = (n : ℕ)
    → option_flatten (numbered counts n)
    ≡ option_map (λ _. count n) (option_flatten (numbered bios n))

-- what holds of what is told holds of the count that is there
pub told-holds : {X : Type 0} (P : ℕ → Type 0) (x : Option X) (count : ℕ) → P count
    → IfSome (option_map (λ _. count) x) P
told-holds P x count holds = search rules

-- a change that leaves each count leaves it under an option
inside-same : (f : ℕ → ℕ) → ((c : ℕ) → f c ≡ c) → (o : Option ℕ) → o ≡ option_map f o
inside-same f same o = search rules

module _ (g : ℕ → ℕ → ℕ) (none : (c : ℕ) → g c 0 ≡ c) where
  -- where the parent's count changes by one, each number's does by what the bio adds to it
  counts-changed : (counts : List (Option ℕ)) (n : ℕ) (parent : Parent)
      → option_flatten (numbered (change_numbered counts (parent_number parent) (option_map
      (λ c. g c 1))) n)
      ≡ option_map (λ c. g c (one_if n parent)) (option_flatten (numbered counts n))
  counts-changed counts n (FromLog log line action) =
      inside-same (λ c. g c 0) none (option_flatten (numbered counts n))
  counts-changed counts n (FromBio p piece) = elim (cases_eq n p) [
    | inl is ↦ rw (one-same n p piece is, is) (at-changed counts p (option_map (λ c. g c 1)) refl)
    | inr apart ↦ search (rules, one-other, at-other, inside-same)
  ]

  -- so counts that tell the old numbers tell the new ones
  pub tells-changed : (bios : List (Option Bio)) (counts : List (Option ℕ)) (parent : Parent)
      (old new : ℕ → ℕ) → Tells old bios counts
      → ((n : ℕ) → g (old n) (one_if n parent) ≡ new n)
      → Tells new bios (change_numbered counts (parent_number parent) (option_map (λ c. g c 1)))
  tells-changed bios counts parent old new tells sum n =
      counts-changed counts n parent ∙ ap (option_map (λ c. g c (one_if n parent))) (tells n)
      ∙ (search (rules, sum n))

module _ {X Y : Type 0} (f : X → Y) where
  -- where f is made of each item, it is made of the one of a number
  pub each-got : (xs : List (Option X)) (n : ℕ)
      → option_flatten (numbered (map (option_map f) xs) n)
      ≡ option_map f (rows.joined (rows.numbered xs n))
  each-got (x ∷ xs) (suc (suc place)) = each-got xs (suc place)
  each-got xs n = search rules

  -- so of what stands there
  pub each-there : (xs : List (Option X)) (n : ℕ) (x : Option X)
      → rows.joined (rows.numbered xs n) ≡ x
      → option_flatten (numbered (map (option_map f) xs) n) ≡ option_map f x
  each-there xs n x got = each-got xs n ∙ ap (option_map f) got

  -- a change at a number is one of what f makes of the item there
  pub each-changed : (xs : List (Option X)) (n : ℕ) (g : Option X → Option X)
      (h : Option Y → Option Y) → ((x : Option X) → option_map f (g x) ≡ h (option_map f x))
      → map (option_map f) (rows.change_numbered xs n g)
      ≡ change_numbered (map (option_map f) xs) n h
  each-changed xs zero g h agree = refl
  each-changed [] (suc place) g h agree = refl
  each-changed (x ∷ xs) (suc zero) g h agree = ap (λ y. y ∷ map (option_map f) xs) (agree x)
  each-changed (x ∷ xs) (suc (suc place)) g h agree =
      ap (λ ys. option_map f x ∷ ys) (each-changed xs (suc place) g h agree)

  -- the next number is the same, if there is one
  pub next-each : (xs : List (Option X)) (from : ℕ) (n : Option ℕ) → IfSome n (IsNextFrom xs from)
      → IfSome n (IsNextFrom (map (option_map f) xs) from)
  next-each xs from n next = search (rules, got-same, each-got, each-there)

  -- and where no item is left, f is made of none
  pub gone-each : (xs : List (Option X)) (from : ℕ) (n : Option ℕ) → IfNone n (AreGoneFrom xs from)
      → IfNone n (AreGoneFrom (map (option_map f) xs) from)
  gone-each xs from n gone = search (rules, got-same, each-there)

-- the bio that is kept of a number is the living one
pub bio-there : (items : List (Option Living)) (n : ℕ) (living : Living)
    → rows.joined (rows.numbered items n) ≡ Some living
    → option_flatten (numbered (bios_of items) n) ≡ Some living.bio
bio-there items n living = each-there (λ (l : Living). l.bio) items n (Some living)

-- its count is the one of the number
pub count-there : (items : List (Option Living)) (n : ℕ) (living : Living)
    → rows.joined (rows.numbered items n) ≡ Some living
    → option_flatten (numbered (counts_of items) n) ≡ Some living.children
count-there items n living = each-there (λ (l : Living). l.children) items n (Some living)

-- where none is kept of a number, no bio of it lives
pub none-there : (items : List (Option Living)) (n : ℕ)
    → rows.joined (rows.numbered items n) ≡ None
    → option_flatten (numbered (bios_of items) n) ≡ None
none-there items n = each-there (λ (l : Living). l.bio) items n None

-- where none is kept of a number, none is taken out
pub removed-none : {X : Type 0} (xs : List (Option X)) (n : ℕ)
    → rows.joined (rows.numbered xs n) ≡ None → rows.change_numbered xs n (λ _. None) ≡ xs
removed-none (x ∷ xs) (suc (suc place)) none =
    ap (λ ys. x ∷ ys) (removed-none xs (suc place) none)
removed-none xs n none = search rules

-- what holds of a count that is there holds of what it is kept with
holds-in : (P : ℕ → Type 0) (item : Option Living)
    → IfSome (option_map (λ (l : Living). l.children) item) P
    → IfSome item (λ (l : Living). P l.children)
holds-in P item holds = search rules

-- so at a number
pub count-holds : (P : ℕ → Type 0) (items : List (Option Living)) (n : ℕ)
    → IfSome (option_flatten (numbered (counts_of items) n)) P
    → IfSome (rows.joined (rows.numbered items n)) (λ (l : Living). P l.children)
count-holds P items n holds = search (rules, holds-in, each-got)

-- where one is put behind, its count is
pub counts-push : (items : List (Option Living)) (living : Living)
    → counts_of (items ++ Some living ∷ []) ≡ counts_of items ++ Some living.children ∷ []
counts-push items living = search (rules, map-append)

-- and is one of the counts
next-count : (g : ℕ → ℕ) (item : Option Living)
    → option_map (λ (l : Living). l.children) (option_map (with_count g) item)
    ≡ option_map g (option_map (λ (l : Living). l.children) item)
next-count g item = search rules

-- so the bios are the same where a count changes
pub bios-counted : (items : List (Option Living)) (n : ℕ) (g : ℕ → ℕ)
    → bios_of (rows.change_numbered items n (option_map (with_count g))) ≡ bios_of items
bios-counted items n g = each-changed (λ (l : Living). l.bio) items n (option_map (with_count g))
    (λ bio. bio) (search rules) ∙ changed-alone (bios_of items) n (λ bio. bio) (λ bio is. refl)

-- and it is the one of the number that changes
pub counts-counted : (items : List (Option Living)) (n : ℕ) (g : ℕ → ℕ)
    → counts_of (rows.change_numbered items n (option_map (with_count g)))
    ≡ change_numbered (counts_of items) n (option_map g)
counts-counted items n g = search (rules, each-changed, next-count)

-- a number whose bio is taken out has neither a bio nor a count, and the others have what they had
pub told-gone : (bios : List (Option Bio)) (counts : List (Option ℕ)) (n : ℕ) → HasChildren bios counts
    → Tells (λ m. child_count m bios) (change_numbered bios n (λ _. None))
    (change_numbered counts n (λ _. None))
told-gone bios counts n has m = elim (cases_eq m n) [
  | inl is ↦ rw (is, at-changed counts n (λ _. None) refl, at-changed bios n (λ _. None) refl) refl
  | inr apart ↦
      rw (at-other counts n m (λ _. None) apart, at-other bios n m (λ _. None) apart) (has m)
]

-- where the parent of a bio that is taken out still has a count, the bio was counted there
counted-there : (bios : List (Option Bio)) (counts : List (Option ℕ)) (n : ℕ) (bio : Bio)
    (parent : Parent) → parent ≡ bio.parent → HasChildren bios counts
    → option_flatten (numbered bios n) ≡ Some bio
    → IfSome (option_flatten
    (numbered (change_numbered counts n (λ _. None)) (parent_number parent)))
    (λ c. 0 < c)
counted-there bios counts n bio (FromLog log line action) is has got = tt
counted-there bios counts n bio (FromBio p piece) is has got =
    let one : child_of p bio ≡ 1 = rw (← is) (one-same p p piece refl) in
    let sum = summed-gone (child_of p) bios n bio got in
    rw (told-gone bios counts n has p) (search (rules, told-holds))

-- the same, told of what the pages give
pub counted-parent : (items left : List (Option Living)) (n p : ℕ) (living : Living)
    → HasChildren (bios_of items) (counts_of items)
    → rows.joined (rows.numbered items n) ≡ Some living
    → p ≡ parent_number living.bio.parent → left ≡ rows.change_numbered items n (λ _. None)
    → IfSome (rows.joined (rows.numbered left p)) (λ parent. 0 < parent.children)
counted-parent items left n p living has got at gone =
    let none = each-changed (λ (l : Living). l.children) items n (λ _. None) (λ _. None) (λ _. refl) in
    count-holds (λ c. 0 < c) left p (search (rules, counted-there, bio-there))

-- one less lives
pub living-gone : (bios : List (Option Bio)) (n : ℕ) (bio : Bio) (count : ℕ)
    → count ≡ length (living_of bios) → option_flatten (numbered bios n) ≡ Some bio
    → count ≡ length (living_of (change_numbered bios n (λ _. None))) + 1
living-gone bios n bio count kept got = search (rules, summed-gone, length-living)

-- the bios that are left, whatever the counts become
pub bios-ended : (items left fewer : List (Option Living)) (n p : ℕ)
    → left ≡ rows.change_numbered items n (λ _. None)
    → fewer ≡ rows.change_numbered left p (option_map (with_count (λ c. c - 1)))
    → bios_of fewer ≡ change_numbered (bios_of items) n (λ _. None)
bios-ended items left fewer n p gone fell =
    ap bios_of fell ∙ bios-counted left p (λ c. c - 1) ∙ ap bios_of gone
    ∙ each-changed (λ (l : Living). l.bio) items n (λ _. None) (λ _. None) (λ _. refl)
