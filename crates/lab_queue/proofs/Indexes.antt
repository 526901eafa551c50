-- Entries of a hash map, seen as a finite map. Rows that rank what a finite map holds.
use Rattle.std.proofs.Common.{rules, Option, ◌≡◌, ◌≢◌, ℕ, List, [], ◌∷◌, Some, None, refl, ap, sym}
use Rattle.std.proofs.Common.{◌∙◌, arith, cond, nat_eq, inl, inr, ◌<◌, ◌≤◌}
use Rattle.std.specs.Ordering.{nat_cmp, eq_by_cmp}
use Rattle.std.specs.Cmp.{nat_cmp_total, unsigned_tied}
use Rattle.std.specs.Map.{lookup}
use Rattle.std.specs.FinMap.{FinMap, get, insert, remove, find, from_entries, get-from_entries}
use Rattle.std.specs.FinMap.{get-insert, get-remove, same_map, nat_cmp-IsAntisymmetric, empty}
use Rattle.std.specs.FinMap.{get-empty}
use Rattle.std.proofs.lemmas.Bool.{eq-eqb, ne_eqb, cases_eq}
use Rattle.std.proofs.lemmas.Bool.Decides.{nat_tests}
use Rattle.lab_queue.specs.declared.queue.Held.{Held}
use Rattle.std.specs.Prelude.{◌⊎◌, ◌↔◌, Contains, option_map}
use Rattle.lab_queue.specs.declared.ranking.Ranked.{Ranked}
use Rattle.lab_queue.specs.Indexed.{IsIndex}
use Rattle.lab_queue.specs.Queue.{IsNextAfter, due_of}
use Rattle.lab_queue.proofs.Ranks.{entry, same_ranked}

-- the two ways to find a key agree
find-lookup : {X : Type 0} (es : List (ℕ × X)) (q : ℕ) → find nat_cmp q es ≡ lookup (nat_eq q) es
find-lookup [] q = search rules
find-lookup (e ∷ es) q = search (rules, find-lookup es q)

-- what a finite map made of entries answers
pub get-entries : {X : Type 0} (es : List (ℕ × X)) (q : ℕ) → get (from_entries {R = nat_cmp} es) q ≡ lookup
    (nat_eq q) es
get-entries es q = get-from_entries nat_cmp_total es q ∙ find-lookup es q

-- what a look-up of the entries gave, the finite map answers
pub get-found : (es : List (ℕ × Held)) (id : ℕ) (gave answer : Option Held)
    → gave ≡ lookup (nat_eq id) es → gave ≡ answer
    → get (from_entries {R = nat_cmp} es) id ≡ answer
get-found es id gave answer found is = get-entries es id ∙ sym found ∙ is

-- what is put in is found
pub get-insert_same : {X : Type 0} (m : FinMap nat_cmp X) (k : ℕ) (v : X)
    → get (insert m k v) k ≡ Some v
get-insert_same m k v = rw (get-insert nat_cmp_total m k v k, unsigned_tied k k, eq-eqb k k refl)

-- another number stays as it was
pub get-insert_other : {X : Type 0} (m : FinMap nat_cmp X) (k q : ℕ) (v : X) → q ≢ k
    → get (insert m k v) q ≡ get m q
get-insert_other m k q v other = get-insert nat_cmp_total m k v q
    ∙ ap (λ b. cond b (Some v) (get m q)) (unsigned_tied q k ∙ ne_eqb q k other)

-- what is taken out isn't found
pub get-remove_same : {X : Type 0} (m : FinMap nat_cmp X) (k : ℕ) → get (remove m k) k ≡ None
get-remove_same m k = rw (get-remove nat_cmp_total m k k, unsigned_tied k k, eq-eqb k k refl)

-- another number stays as it was
pub get-remove_other : {X : Type 0} (m : FinMap nat_cmp X) (k q : ℕ) → q ≢ k
    → get (remove m k) q ≡ get m q
get-remove_other m k q other = get-remove nat_cmp_total m k q
    ∙ ap (λ b. cond b None (get m q)) (unsigned_tied q k ∙ ne_eqb q k other)

-- equality of numbers, the other way round, and as the order tells it
turned : (k q : ℕ) → nat_eq k q ≡ eq_by_cmp nat_cmp q k
turned k q = rw (unsigned_tied q k) (grind (arith, nat_tests))

module _ (es fs : List (ℕ × Held)) where
  -- entries that answer alike make one map
  pub same-entries : ((q : ℕ) → lookup (nat_eq q) fs ≡ lookup (nat_eq q) es)
      → from_entries {R = nat_cmp} fs ≡ from_entries es
  same-entries same = same_map nat_cmp_total nat_cmp-IsAntisymmetric _ _
      (λ q. get-entries fs q ∙ same q ∙ sym (get-entries es q))

  -- entries with one put in
  pub insert-entries : (k : ℕ) (v : Held)
      → ((q : ℕ) → lookup (nat_eq q) fs ≡ cond (nat_eq k q) (Some v) (lookup (nat_eq q) es))
      → from_entries {R = nat_cmp} fs ≡ insert (from_entries es) k v
  insert-entries k v updated = same_map nat_cmp_total nat_cmp-IsAntisymmetric _ _
      (λ q. rw (get-entries fs q, updated q, ← get-entries es q, turned k q)
      (sym (get-insert nat_cmp_total (from_entries es) k v q)))

  -- entries with one taken out
  pub remove-entries : (k : ℕ)
      → ((q : ℕ) → lookup (nat_eq q) fs ≡ cond (nat_eq k q) None (lookup (nat_eq q) es))
      → from_entries {R = nat_cmp} fs ≡ remove (from_entries es) k
  remove-entries k updated = same_map nat_cmp_total nat_cmp-IsAntisymmetric _ _
      (λ q. rw (get-entries fs q, updated q, ← get-entries es q, turned k q)
      (sym (get-remove nat_cmp_total (from_entries es) k q)))

-- an empty row ranks an empty map
pub index-empty : (f : Held → ℕ) (row : List Ranked) → row ≡ [] → IsIndex row
    (λ q. option_map f (get (empty {R = nat_cmp}) q))
index-empty f row none x = search (rules, get-empty)

-- a number that gets a rank goes into the row
pub index-put : (was is : ℕ → Option ℕ) (k rank : ℕ) (row new : List Ranked) → IsIndex row was
    → was k ≡ None → is k ≡ Some rank → ((q : ℕ) → q ≢ k → is q ≡ was q)
    → ((x : Ranked) → Contains new x ↔ ((x ≡ entry rank k) ⊎ Contains row x)) → IsIndex new is
index-put was is k rank row new index free put kept contains x = (
  λ held. elim ((contains x).0 held) [
    | inl it ↦ grind (arith, put)
    | inr old ↦ grind (arith, kept x.id, (index x).0 old)
  ],
  λ its. (contains x).1 (elim (cases_eq x.id k) [
    | inl same ↦ inl (same_ranked x (entry rank k) (grind (arith, put)) same)
    | inr ne ↦ inr ((index x).1 (sym (kept x.id ne) ∙ its))
  ]),
)

-- a number that loses its rank goes out of the row
pub index-drop : (was is : ℕ → Option ℕ) (k rank : ℕ) (row new : List Ranked) → IsIndex row was
    → was k ≡ Some rank → is k ≡ None → ((q : ℕ) → q ≢ k → is q ≡ was q)
    → ((x : Ranked) → Contains new x ↔ (Contains row x × (x ≢ entry rank k))) → IsIndex new is
index-drop was is k rank row new index had gone kept contains x = (
  λ left.
      let old = (contains x).0 left in
      let its = (index x).0 old.0 in
      grind (arith, kept x.id, old.1, same_ranked x (entry rank k)),
  λ its.
      let ne : x.id ≢ k = λ same. grind (arith, gone, its) in
      (contains x).1
      ((index x).1 (sym (kept x.id ne) ∙ its), λ same. ne (ap (λ (y : Ranked). y.id) same)),
)

-- a number that is put into the map goes into the row
pub index-insert : {X : Type 0} (f : X → ℕ) (m : FinMap nat_cmp X) (k : ℕ) (v : X)
    (row new : List Ranked)
    → IsIndex row (λ q. option_map f (get m q)) → get m k ≡ None
    → ((x : Ranked) → Contains new x ↔ ((x ≡ entry (f v) k) ⊎ Contains row x))
    → IsIndex new (λ q. option_map f (get (insert m k v) q))
index-insert f m k v row new index free =
    index-put (λ q. option_map f (get m q)) (λ q. option_map f (get (insert m k v) q)) k (f v)
    row new index (ap (option_map f) free) (ap (option_map f) (get-insert_same m k v))
    (λ q ne. ap (option_map f) (get-insert_other m k q v ne))

-- a number that is taken out of the map goes out of the row
pub index-remove : {X : Type 0} (f : X → ℕ) (m : FinMap nat_cmp X) (k : ℕ) (v : X)
    (row new : List Ranked)
    → IsIndex row (λ q. option_map f (get m q)) → get m k ≡ Some v
    → ((x : Ranked) → Contains new x ↔ (Contains row x × (x ≢ entry (f v) k)))
    → IsIndex new (λ q. option_map f (get (remove m k) q))
index-remove f m k v row new index held =
    index-drop (λ q. option_map f (get m q)) (λ q. option_map f (get (remove m k) q)) k (f v)
    row new index (ap (option_map f) held) (ap (option_map f) (get-remove_same m k))
    (λ q ne. ap (option_map f) (get-remove_other m k q ne))

module _ (held : FinMap nat_cmp Held) (row : List Ranked) (index : IsIndex row (due_of held)) where
  -- what is held is ranked by its moment
  pub ranked : (id due : ℕ) → due_of held id ≡ Some due → Contains row (entry due id)
  ranked id due is = (index (entry due id)).1 is

  -- the first above now is the next moment
  pub next_is : (now : ℕ) (x : Ranked) → Contains row x × (now < x.rank)
      → ((y : Ranked) → Contains row y → now < y.rank → x.rank ≤ y.rank)
      → IsNextAfter held now x.rank
  next_is now x some first = record {
    later = some.1;
    due = (x.id, (index x).0 some.0);
    least = λ id due is later. first (entry due id) (ranked id due is) later;
  }

  -- where nothing is ranked, nothing is held
  pub none_held : ((y : Ranked) → ¬ Contains row y) → (id : ℕ) → due_of held id ≡ None
  none_held none id =
      elim (due_of held id) as (λ due. due_of held id ≡ due → due_of held id ≡ None) [
        | None ↦ λ is. is
        | Some due ↦ λ is. absurd (none (entry due id) (ranked id due is))
      ] refl
