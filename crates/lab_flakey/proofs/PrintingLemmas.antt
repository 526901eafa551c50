-- Words that are printed one after another.
use Rattle.std.proofs.Common.{rules, ◌≡◌, ℕ, List, [], ◌∷◌, ◌++◌, ap, sym, ◌∙◌, append_assoc}
use Rattle.std.proofs.Common.{append-nil}
use Rattle.lab_text.specs.Words.{spaced}

-- words after words
pub spaced-append : (first second : List (List ℕ))
    → spaced (first ++ second) ≡ spaced first ++ spaced second
spaced-append [] second = search (rules, append_assoc)
spaced-append (word ∷ first) second = search (rules, append_assoc, spaced-append first second)

-- a word after a text, and words after it
spaced-more : (out word : List ℕ) (words : List (List ℕ))
    → (out ++ 32 ∷ word) ++ spaced words ≡ out ++ spaced (word ∷ words)
spaced-more out word words = append_assoc out (32 ∷ word) (spaced words)

-- a last word after a text
spaced-last : (out word : List ℕ) → out ++ 32 ∷ word ≡ out ++ spaced (word ∷ [])
spaced-last out word = ap (λ (w : List ℕ). out ++ 32 ∷ w) (sym (append-nil word))

-- five words after a text
pub spaced-five : (out a b c d e : List ℕ)
    → ((((out ++ 32 ∷ a) ++ 32 ∷ b) ++ 32 ∷ c) ++ 32 ∷ d) ++ 32 ∷ e
    ≡ out ++ spaced (a ∷ b ∷ c ∷ d ∷ e ∷ [])
spaced-five out a b c d e =
    let one = out ++ 32 ∷ a in
    let two = one ++ 32 ∷ b in
    let three = two ++ 32 ∷ c in
    spaced-last (three ++ 32 ∷ d) e ∙ spaced-more three d (e ∷ []) ∙ spaced-more two c (d ∷ e ∷ [])
    ∙ spaced-more one b (c ∷ d ∷ e ∷ []) ∙ spaced-more out a (b ∷ c ∷ d ∷ e ∷ [])

-- six runs of words after a text
pub spaced-six : (out : List ℕ) (a b c d e f : List (List ℕ))
    → (((((out ++ spaced a) ++ spaced b) ++ spaced c) ++ spaced d) ++ spaced e) ++ spaced f
    ≡ out ++ spaced (a ++ (b ++ (c ++ (d ++ (e ++ f)))))
spaced-six out a b c d e f = simp (append_assoc, spaced-append)
