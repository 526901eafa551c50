-- The bytes of sectors that follow one another.
use Rattle.std.proofs.Common.{rules, ◌≡◌, ℕ, zero, suc, ◌+◌, ◌*◌, ◌<◌, List, [], ◌∷◌, ◌++◌, length}
use Rattle.std.proofs.Common.{take, get_or, replicate, sym, ap, ◌∙◌, append-nil}
use Rattle.std.specs.List.{concat}
use Rattle.std.proofs.lemmas.List.{replicate-append-replicate, take_more}
use Rattle.std.proofs.lemmas.List.Folds.{concat-append}

-- the bytes of one more sector
pub concat-more : (sectors : List (List ℕ)) (place : ℕ) (sector : List ℕ)
    → place < length sectors → sector ≡ get_or sectors place sector
    → concat (take place sectors) ++ sector ≡ concat (take (place + 1) sectors)
concat-more sectors place sector within is =
    ap (λ s. concat (take place sectors) ++ s) (sym (append-nil sector))
    ∙ sym (concat-append (take place sectors) (sector ∷ []))
    ∙ ap (λ s. concat (take place sectors ++ s ∷ [])) is
    ∙ ap concat (sym (take_more sectors place sector within))

-- sectors of one byte have that byte as often as they have bytes
pub concat-replicate : (count size byte : ℕ)
    → replicate (count * size) byte ≡ concat (replicate count (replicate size byte))
concat-replicate zero size byte = search (rules, replicate-append-replicate)
concat-replicate (suc count) size byte =
    search (rules, replicate-append-replicate, concat-replicate count size byte)
