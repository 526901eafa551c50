-- The library's ordered keys are a rising list. Names: the library's word, and the target's.
use Rattle.std.proofs.Common.{rules, ◌≡◌, ℕ, Bool, true, cond, not, ◌==◌, List, []}
use Rattle.std.proofs.Common.{◌∷◌, Less, nat_cmp, refl, sym, arith}
use Rattle.std.specs.BTreeMap.{is_at}
use Rattle.std.specs.Prelude.{filter}
use Rattle.std.specs.List.{AllByRecursion}
use Rattle.std.specs.List.Sorted.{IsStrictlySortedBy}
use Rattle.std.specs.Set.{remove_key}
use Rattle.std.proofs.lemmas.Bool.{eqb-true}
use Rattle.std.proofs.lemmas.Bool.Decides.{nat_tests}
use Rattle.std.proofs.lemmas.Map.Keys.{sorted_head, sorted_tail}

-- the blocks without one
abbrev without_block : ℕ → List ℕ → List ℕ
without_block block blocks = filter (λ listed. not (listed == block)) blocks

-- a key is the query's where they are one number
at-same : (block listed : ℕ) → is_at (nat_cmp block) listed ≡ (listed == block)
at-same block listed = grind (arith, nat_tests)

-- blocks above one are kept without it
above-kept : (block : ℕ) (blocks : List ℕ) → AllByRecursion (λ b. nat_cmp block b ≡ Less) blocks
    → without_block block blocks ≡ blocks
above-kept block [] above = search rules
above-kept block (listed ∷ blocks) above = search (rules, above-kept block blocks above.1)

-- a key that is the block's is left out, and another stays
kept-or-left : (same : Bool) (listed : ℕ) (blocks without : List ℕ)
    → (same ≡ true → blocks ≡ without)
    → cond same blocks (listed ∷ without) ≡ cond (not same) (listed ∷ without) without
kept-or-left same listed blocks without left = search rules

-- a key is taken out of a rising list
pub remove_key-without_block : (block : ℕ) (blocks : List ℕ) → IsStrictlySortedBy nat_cmp blocks
    → remove_key (is_at (nat_cmp block)) blocks ≡ without_block block blocks
remove_key-without_block block [] rising = refl
remove_key-without_block block (listed ∷ blocks) rising =
    let above = sorted_head nat_cmp listed blocks rising in
    let rest = remove_key-without_block block blocks (sorted_tail nat_cmp listed blocks rising) in
    rw (at-same block listed, rest) (kept-or-left (listed == block) listed blocks
    (without_block block blocks)
    (λ same. sym (rw (eqb-true listed block same) at (above-kept listed blocks above))))
