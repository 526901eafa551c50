-- What is kept of the bios of a run stays so as one is put behind. A parent's count tells whether
-- it has no child, or none but a new one.
use Rattle.lab_model.proofs.Common.{rules, ◌≡◌, ℕ, ◌+◌, ◌<◌, ◌^◌, List, [], ◌∷◌, ◌++◌, Option, Some}
use Rattle.lab_model.proofs.Common.{IfSome, length, ap, ◌∙◌, arith, option_map, length-map}
use Rattle.lab_model.proofs.Common.{map-append, Bio, is_bio, option_flatten, numbered, ◌==◌, not, None, sym}
use Rattle.lab_model.proofs.Common.{nat_lt, nat_tests, list_any, bio_may}
use Rattle.lab_bios.specs.Children.{HasChildren, child_count, is_alone, is_count}
use Rattle.lab_bios.specs.declared.bio.Living.{Living}
use Rattle.lab_bios.specs.Living.{bios_of, counts_of, with_count, living_of}
use Rattle.lab_bios.proofs.Living.{Tells, told-holds, bios-counted, count-holds, counts-push}
use Rattle.lab_bios.proofs.Living.{each-got}
use Rattle.lab_bios.proofs.Numbers.{at-pushed, at-unpushed}
use Rattle.lab_bios.proofs.Sums.{counted-few, some-counted}
use Rattle.lab_index.specs.Lists as rows

module _ (items : List (Option Living)) (living : Living)
    (has : HasChildren (bios_of items) (counts_of items))
    (own : living.children ≡ child_count (length items + 1) (bios_of items)) where
  -- before the new one is counted as a child, each count is that of the bios before
  pub counts-told : Tells (λ n. child_count n (bios_of items))
      (bios_of items ++ Some living.bio ∷ []) (counts_of items ++ Some living.children ∷ [])
  counts-told n = search (rules, length-map, at-pushed, at-unpushed)

  -- no count is greater than the number of bios, so that one more fits
  pub count-fits : (p : ℕ) → length items + 1 < 2 ^ 64
      → IfSome (rows.joined (rows.numbered (items ++ Some living ∷ []) p))
      (λ parent. parent.children + 1 < 2 ^ 64)
  count-fits p fits =
      let few = counted-few (λ (bio : Bio). is_bio p bio.parent) (bios_of items) in
      let long = length-map items (option_map (λ (l : Living). l.bio)) in
      count-holds (λ c. c + 1 < 2 ^ 64) (items ++ Some living ∷ []) p
      (rw (counts-push items living, counts-told p) (search (rules, told-holds)))

-- the bios with the new one, whatever the counts become
pub bios-pushed : (items more : List (Option Living)) (living : Living) (p : ℕ) (g : ℕ → ℕ)
    → more ≡ rows.change_numbered (items ++ Some living ∷ []) p (option_map (with_count g))
    → bios_of more ≡ bios_of items ++ Some living.bio ∷ []
bios-pushed items more living p g counted = rw (counted, bios-counted, map-append)

-- a count of the children among some bios tells whether there is one
pub alone-counted : (entry : Option Bio) (count : Option ℕ) (p : ℕ) (others : List (Option Bio))
    → count ≡ option_map (λ _. child_count p others) entry
    → is_count 0 count
    ≡ bio_may entry (λ _. not (list_any (λ bio. is_bio p bio.parent) (living_of others)))
alone-counted None count p others is = ap (is_count 0) is
alone-counted (Some bio) count p others is =
    let all = child_count p others in
    let none : (all == 0) ≡ not (nat_lt 0 all) = grind (arith, nat_tests) in
    search (rules, some-counted)

-- and before a bio that is put behind the others is counted as a child
pub alone-pushed : (items : List (Option Living)) (living : Living) (p : ℕ)
    → HasChildren (bios_of items) (counts_of items)
    → living.children ≡ child_count (length items + 1) (bios_of items)
    → is_count 0 (option_map (λ (l : Living). l.children)
    (rows.joined (rows.numbered (items ++ Some living ∷ []) p)))
    ≡ is_alone p (bios_of items ++ Some living.bio ∷ []) (bios_of items)
alone-pushed items living p has is =
    alone-counted (option_flatten (numbered (bios_of items ++ Some living.bio ∷ []) p)) _ p
    (bios_of items)
    (sym (each-got (λ (l : Living). l.children) (items ++ Some living ∷ []) p)
    ∙ ap (λ cs. option_flatten (numbered cs p)) (counts-push items living)
    ∙ counts-told items living has is p)
