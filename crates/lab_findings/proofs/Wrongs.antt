-- The wrong ones of some sectors, part by part.
use Rattle.lab_model.proofs.Common.{rules, ◌≡◌, ◌∙◌, ℕ, suc, zero, ◌+◌, List, [], ◌∷◌, ◌++◌, Option, None, Some}
use Rattle.lab_model.proofs.Common.{Bool, true, false, refl, sym, ap, ap₂, arith, add-zero, length}
use Rattle.std.specs.Prelude.{replicate}
use Rattle.lab_findings.specs.declared.found.Wrong.{Wrong}
use Rattle.lab_findings.specs.Wrongs.{all_wrong, count_in, joined, wrong_from, wrong_with_first}

-- of both as many are wrong as of each
count-joined : (wrong more : Option Wrong) → count_in (joined wrong more) ≡ count_in wrong + count_in more
count-joined None more = search rules
count-joined (Some wrong) more = refl

-- with none behind them the wrong ones are the same
pub joined-none : (wrong : Option Wrong) → wrong ≡ joined wrong None
joined-none None = refl
joined-none (Some wrong) =
    ap (λ n. Some (record wrong { count = n })) (sym (add-zero wrong.count))

-- the wrong ones of three parts, in another grouping
joined-assoc : (a b c : Option Wrong) → joined (joined a b) c ≡ joined a (joined b c)
joined-assoc None b c = refl
joined-assoc (Some a) b c =
    ap (λ n. Some (record a { count = n }))
    (sum a.count (count_in b) (count_in c) ∙ ap (λ n. a.count + n) (sym (count-joined b c))) where
      sum : (x y z : ℕ) → x + y + z ≡ x + (y + z)
      sum x y z = omega arith

-- the wrong ones of some sectors and of those behind them
pub wrong-append : (first : ℕ) (hits others : List Bool)
    → wrong_from first (hits ++ others)
    ≡ joined (wrong_from first hits) (wrong_from (first + length hits) others)
wrong-append first [] others = ap (λ n. wrong_from n others) (sym (add-zero first))
wrong-append first (false ∷ hits) others = wrong-append (first + 1) hits others
    ∙ ap (λ n. joined (wrong_from (first + 1) hits) (wrong_from n others))
    (behind first (length hits)) where
      behind : (n more : ℕ) → n + 1 + more ≡ n + suc more
      behind n more = omega arith
wrong-append first (true ∷ hits) others =
    let here = wrong_from (first + 1) hits in
    ap (λ wrong. wrong_with_first true first wrong) (wrong-append (first + 1) hits others
    ∙ ap (λ n. joined here (wrong_from n others)) (behind first (length hits)))
    ∙ ap (λ n. Some (record { first = first; count = 1 + n }))
    (count-joined here (wrong_from (first + suc (length hits)) others))
    ∙ ap (λ n. Some (record { first = first; count = n }))
    (sum 1 (count_in here) (count_in (wrong_from (first + suc (length hits)) others))) where
      behind : (n more : ℕ) → n + 1 + more ≡ n + suc more
      behind n more = omega arith

      sum : (x y z : ℕ) → x + (y + z) ≡ x + y + z
      sum x y z = omega arith

-- of sectors that are alike all are wrong, or none
pub wrong-alike : (first count : ℕ) (hit : Bool)
    → wrong_from first (replicate count hit) ≡ all_wrong first count hit
wrong-alike first zero true = refl
wrong-alike first zero false = refl
wrong-alike first (suc more) false = wrong-alike (first + 1) more false
wrong-alike first (suc more) true =
    ap (λ wrong. wrong_with_first true first wrong) (wrong-alike (first + 1) more true)
    ∙ counted more where
      counted : (n : ℕ) → wrong_with_first true first (all_wrong (first + 1) n true)
          ≡ all_wrong first (suc n) true
      counted zero = search rules
      counted (suc n) = search rules

-- with the wrong ones of a part, and of those that are left, the same whole is made
pub wrong-step : (first place : ℕ) (here rest : List Bool) (wrong more after whole : Option Wrong)
    → more ≡ wrong_from first here → after ≡ joined wrong more → place ≡ first + length here
    → joined wrong (wrong_from first (here ++ rest)) ≡ whole
    → joined after (wrong_from place rest) ≡ whole
wrong-step first place here rest wrong more after whole more-is after-is place-is so_far =
    let behind = wrong_from (first + length here) rest in
    ap₂ (λ a n. joined a (wrong_from n rest)) (after-is ∙ ap (joined wrong) more-is) place-is
    ∙ joined-assoc wrong (wrong_from first here) behind
    ∙ ap (joined wrong) (sym (wrong-append first here rest)) ∙ so_far
