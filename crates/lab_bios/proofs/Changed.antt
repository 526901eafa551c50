-- What stands at each number of a list after a change at one of them, and that the bios of a run
-- are kept where one of them comes to another stage.
use Rattle.lab_model.proofs.Common.{rules, ◌≡◌, ℕ, suc, zero, List, [], ◌∷◌, false, Option, Some}
use Rattle.lab_model.proofs.Common.{None, refl, ap, sym, ◌∙◌, option_map, Bio, Stage}
use Rattle.lab_model.proofs.Common.{change_numbered, option_flatten, numbered}
use Rattle.std.proofs.Common.{Bor, is_some, option_copied}
use Rattle.lab_index.specs.Lists as rows
use Rattle.lab_bios.specs.Bios.{IsKept}
use Rattle.lab_bios.specs.Children.{child_count}
use Rattle.lab_bios.specs.declared.bio.Living.{Living}
use Rattle.lab_bios.specs.Living.{bios_of, counts_of}
use Rattle.lab_bios.specs.Views.{with_stage}
use Rattle.lab_bios.proofs.Living.{bio-there, count-there, each-changed}
use Rattle.lab_bios.proofs.Numbers.{at-inside, changed-agree, changed-alone, changed-none}
use Rattle.lab_bios.proofs.Same.{changed-same, got-same}
use Rattle.lab_bios.proofs.Sums.{child_of, length-living, summed-stage}

-- where no item stands, a change of what stands there changes nothing
pub unchanged : {X : Type 0} (xs : List (Option X)) (n : ℕ) (f : X → X)
    → rows.joined (rows.numbered xs n) ≡ None → rows.change_numbered xs n (option_map f) ≡ xs
unchanged xs n f none = search (rules, changed-same, changed-none)

-- so in the words of the pages
pub changed-some : {X : Type 0} (xs : List (Option X)) (n : ℕ) (f : X → X) (x : X)
    → rows.joined (rows.numbered xs n) ≡ Some x
    → rows.change_numbered xs n (λ _. Some (f x)) ≡ rows.change_numbered xs n (option_map f)
changed-some xs n f x got = search (rules, changed-same, changed-agree, got-same)

-- the value that is written stands there
pub put-there : {X : Type 0} (xs : List (Option X)) (n : ℕ) (x y : X)
    → rows.joined (rows.numbered xs n) ≡ Some x
    → rows.joined (rows.numbered (rows.change_numbered xs n (λ _. Some y)) n) ≡ Some y
put-there xs zero x y got = cc
put-there [] (suc place) x y got = cc
put-there (first ∷ xs) (suc zero) x y got = refl
put-there (first ∷ xs) (suc (suc place)) x y got = put-there xs (suc place) x y got

-- what is read of nothing is nothing
pub copied-none : {X : Type 0} (x : Option (Bor X)) → is_some x ≡ false → option_copied x ≡ None
copied-none x none = search rules

-- the bios where one is written that is the one of the number as it is changed
pub bios-staged : (items : List (Option Living)) (n : ℕ) (f : Bio → Bio) (living next : Living)
    → rows.joined (rows.numbered items n) ≡ Some living → next.bio ≡ f living.bio
    → bios_of (rows.change_numbered items n (λ _. Some next))
    ≡ change_numbered (bios_of items) n (option_map f)
bios-staged items n f living next got is =
    each-changed (λ (l : Living). l.bio) items n (λ _. Some next) (λ _. Some next.bio) (λ _. refl)
    ∙ ap (λ b. change_numbered (bios_of items) n (λ _. Some b)) is
    ∙ (search (rules, changed-agree, bio-there items n living got))

-- what is kept of the bios stays so, since the same ones live and their parents are the same
pub kept-staged : (items : List (Option Living)) (count highest : ℕ) (logs : List ℕ) (n : ℕ)
    (stage : Stage) (living next : Living)
    → rows.joined (rows.numbered items n) ≡ Some living
    → next.bio ≡ with_stage stage living.bio → living.children ≡ next.children
    → IsKept (bios_of items) (counts_of items) count highest logs
    → IsKept (bios_of (rows.change_numbered items n (λ _. Some next)))
    (counts_of (rows.change_numbered items n (λ _. Some next))) count highest logs
kept-staged items count highest logs n stage living next got is same kept =
    let bios : List (Option Bio) = bios_of items in
    let new : List (Option Bio) = change_numbered bios n (option_map (with_stage stage)) in
    rw (
      bios-staged items n (with_stage stage) living next got is,
      each-changed (λ (l : Living). l.children) items n (λ _. Some next) (λ _. Some next.children)
          (λ _. refl),
      changed-alone (counts_of items) n (λ _. Some next.children)
          (λ count is. sym ((rw is at (count-there items n living got)) ∙ ap Some same)),
    )
    (record {
      children = λ m. kept.children m
          ∙ sym (at-inside (option_map (λ (b : Bio). child_count m bios)) (with_stage stage)
          (λ b. refl) bios n m) ∙ ap (λ k. option_map (λ _. k) (option_flatten (numbered new m)))
          (sym (summed-stage (child_of m) (with_stage stage) (λ b. refl) bios n));
      living = search (rules, length-living, summed-stage, kept.living);
      parents = λ m above.
          summed-stage (child_of m) (with_stage stage) (λ b. refl) bios n ∙ kept.parents m above;
      tallied = λ log. kept.tallied log
          ∙ sym (search (rules, summed-stage));
    })
