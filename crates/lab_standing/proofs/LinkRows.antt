-- Where a test passes: on some item of a list, and on the value of an option. Rows of numbers, to
-- which devices are added.
use Rattle.lab_model.proofs.Common.{rules, ◌≡◌, ◌∙◌, ℕ, suc, zero, ◌||◌, Bool, true, not, List, []}
use Rattle.lab_model.proofs.Common.{◌∷◌, Option, Some, None, refl, ap, ap₂, sym, slice_get, inl}
use Rattle.lab_model.proofs.Common.{inr, ◌++◌, Decides, list_any, flat_map, is_some, or_cases}
use Rattle.lab_model.proofs.Common.{none-some, same_Some, ◌⊎◌, ◌+◌, ◌<◌, get_or, length, take}
use Rattle.lab_model.proofs.Common.{eqb-true, flat_map-append, append-nil, take_more, DevNo, Dm}
use Rattle.lab_model.proofs.Common.{Meaning, Table, In, In-slice_get, In-append_left}
use Rattle.std.proofs.lemmas.Bool.{true≢false}
use Rattle.lab_standing.specs.Seen.{passes}
use Rattle.lab_model.specs.declared.table_line.TableLine.{TableLine}
use Rattle.lab_standing.specs.Linked.{devices_of_line, grown, with_device}
use Rattle.lab_standing.proofs.Ins.{in-last, last-cases}

module _ {X : Type 0} (p : X → Bool) where
  -- an item for which the test passes
  abbrev pub Found : List X → Type 0
  Found xs = (place : ℕ) × (x : X) × (slice_get xs place ≡ Some x) × (p x ≡ true)

  -- a test that some item passes: that item
  pub found : (xs : List X) → list_any p xs ≡ true → Found xs
  found [] e = absurd (true≢false (sym e))
  found (x ∷ xs) e = elim (or_cases (p x) (list_any p xs) e)
      [ inl at ↦ (zero, x, refl, at) | inr on ↦ let f = found xs on in (suc f.0, f.1, f.2, f.3) ]

  -- an item that passes a test
  pub any_from : (xs : List X) (place : ℕ) (x : X) → slice_get xs place ≡ Some x → p x ≡ true
      → list_any p xs ≡ true
  any_from [] place x at e = search rules
  any_from (y ∷ xs) place x at e = search (rules, any_from xs)

-- a test on all items decides whether some item is there of which P holds
pub any-Decides : {X : Type 0} (p : X → Bool) (P : X → Type 0) → ((x : X) → Decides (p x) (P x))
    → (xs : List X)
    → Decides (list_any p xs) ((place : ℕ) × (x : X) × (slice_get xs place ≡ Some x) × P x)
any-Decides p P each xs = search (rules, found, any_from)

-- a test on a value decides whether there is one of which P holds
pub passes-Decides : {X : Type 0} (test : X → Bool) (P : X → Type 0)
    → ((x : X) → Decides (test x) (P x)) → (o : Option X)
    → Decides (passes o test) ((x : X) × (o ≡ Some x) × P x)
passes-Decides test P each None =
    (λ e. absurd (true≢false (sym e)), λ f. absurd (none-some f.0 f.1))
passes-Decides {X} test P each (Some x) =
    (λ e. (x, refl, (each x).0 e), λ f. back f.0 f.1 f.2) where
      back : (y : X) → Some x ≡ Some y → P y → test x ≡ true
      back y same holds = ap test (same_Some x y same) ∙ (each y).1 holds

-- whether there is no value
pub none-Decides : {X : Type 0} (o : Option X) → Decides (not (is_some o)) (o ≡ None)
none-Decides o = search rules

-- a test on items of two lists
pub list_any-append : {X : Type 0} (p : X → Bool) (xs ys : List X)
    → list_any p (xs ++ ys) ≡ (list_any p xs || list_any p ys)
list_any-append p [] ys = search rules
list_any-append p (x ∷ xs) ys = search (rules, list_any-append p xs ys)

-- two tests that agree on each item
pub list_any-same : {X : Type 0} (p q : X → Bool) → ((x : X) → p x ≡ q x) → (xs : List X)
    → list_any p xs ≡ list_any q xs
list_any-same p q same [] = refl
list_any-same p q same (x ∷ xs) = ap₂ (λ b c. b || c) (same x) (list_any-same p q same xs)

-- a test on all items of some lists
pub list_any-flat_map : {X Y : Type 0} (p : Y → Bool) (f : X → List Y) (xs : List X)
    → list_any (λ x. list_any p (f x)) xs ≡ list_any p (flat_map f xs)
list_any-flat_map p f [] = search (rules, list_any-append)
list_any-flat_map p f (x ∷ xs) = search (rules, list_any-append, list_any-flat_map p f xs)

-- what was in a row stays when a device is added
device-left : (device : DevNo) (n : ℕ) (row : List ℕ) → In n row → In n (with_device device row)
device-left device n row at = search (rules, In-append_left)

-- what was in a row stays when devices are added
pub grown-left : (devices : List DevNo) (n : ℕ) (row : List ℕ) → In n row
    → In n (grown devices row)
grown-left [] n row at = at
grown-left (device ∷ devices) n row at = grown-left devices n _ (device-left device n row at)

-- the mapped devices among them are in it
pub grown-right : (devices : List DevNo) (n : ℕ) (row : List ℕ) → In (Dm n) devices
    → In n (grown devices row)
grown-right [] n row at = search (rules, grown-left, found, In-slice_get, eqb-true, in-last)
grown-right (device ∷ devices) n row (inl same) =
    search (rules, grown-left, found, In-slice_get, eqb-true, in-last)
grown-right (device ∷ devices) n row (inr later) =
    search (
      rules,
      grown-left,
      found,
      In-slice_get,
      eqb-true,
      in-last,
      grown-right devices n
          (with_device device row) later,
    )

-- what is in the row then is one of them, or was there
pub grown-In : (devices : List DevNo) (n : ℕ) (row : List ℕ) → In n (grown devices row)
    → In n row ⊎ In (Dm n) devices
grown-In [] n row at = search (rules, last-cases)
grown-In (device ∷ devices) n row at = search (rules, last-cases, grown-In devices n _ at)

-- devices are added one after another
pub grown-append : (these those : List DevNo) (row : List ℕ)
    → grown (these ++ those) row ≡ grown those (grown these row)
grown-append [] those row = refl
grown-append (device ∷ these) those row = grown-append these those (with_device device row)

-- the devices of one line more
pub lines-more : {S : Type 0} (m : Meaning S) (lines : Table S) (place : ℕ) (line : TableLine S)
    (row : List ℕ) → place < length lines → line ≡ get_or lines place line
    → grown (devices_of_line m line)
    (grown (flat_map (devices_of_line m) (take place lines)) row)
    ≡ grown (flat_map (devices_of_line m) (take (place + 1) lines)) row
lines-more {S} m lines place line row within is =
    let before = take place lines in
    let here = get_or lines place line in
    ap (λ l. grown (devices_of_line m l) (grown (flat_map (devices_of_line m) before) row)) is
    ∙ sym (ap (λ t. grown (flat_map (devices_of_line m) t) row) (take_more lines place line within)
    ∙ ap (λ devices. grown devices row) (flat_map-append (devices_of_line m) before (here ∷ []))
    ∙ grown-append (flat_map (devices_of_line m) before) (devices_of_line m here ++ []) row
    ∙ ap (λ devices. grown devices (grown (flat_map (devices_of_line m) before) row))
    (append-nil (devices_of_line m here)))
