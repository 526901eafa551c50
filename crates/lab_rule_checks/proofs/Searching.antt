-- A search marks the devices that links lead to, and no others.
use Rattle.lab_model.proofs.Common.{rules, ◌≡◌, ◌∙◌, ◌⊎◌, inl, inr, ℕ, ◌<◌, Bool, true, List, []}
use Rattle.lab_model.proofs.Common.{◌∷◌, ◌++◌, length, subst, ap, arith, length-replicate}
use Rattle.lab_model.proofs.Common.{Contains-In, In, In-Contains, In-append_left}
use Rattle.lab_standing.specs.Image.{own_of}
use Rattle.lab_standing.proofs.Ins.{in-last, last-cases}
use Rattle.lab_standing.proofs.OwnRows.{own-within}
use Rattle.lab_rule_checks.specs.Search.{Front, Reached, TellsReached, at_first, further, is_set}
use Rattle.lab_rule_checks.specs.Search.{nothing_reached, reach_all}
use Rattle.lab_rule_checks.proofs.Reaching.{none-set, set-within, Gains, gains}

module _ (rows : List (List ℕ)) (first : List ℕ) where
  -- all that a device refers to is marked
  abbrev pub Followed : List Bool → ℕ → Type 0
  Followed marks device = (below : ℕ) → In below (own_of rows device) → below < length rows
      → is_set marks below ≡ true

  -- a search on its way: it marks only what links lead to, the first devices are marked, and what a
  -- marked device refers to is marked too, unless that device waits
  pub record Searching (f : Front) : Type 0 where
    pub as_many : length f.marks ≡ length rows
    pub sound : (n : ℕ) → is_set f.marks n ≡ true → Reached rows first n
    pub waits : (n : ℕ) → In n f.waiting → Reached rows first n
    pub begun : (n : ℕ) → In n first → n < length rows → is_set f.marks n ≡ true
    pub followed : (n : ℕ) → is_set f.marks n ≡ true → In n f.waiting ⊎ Followed f.marks n

  -- a search is on its way where it gains what links lead to, and where what was marked is followed
  searching-after : (Come : ℕ → Type 0) (e g : Front) → Gains Come e g
      → length e.marks ≡ length rows
      → ((n : ℕ) → is_set e.marks n ≡ true
      → Reached rows first n × (In n g.waiting ⊎ Followed g.marks n))
      → ((n : ℕ) → In n e.waiting ⊎ Come n → Reached rows first n)
      → ((n : ℕ) → In n first → n < length rows → is_set g.marks n ≡ true) → Searching g
  searching-after Come e g r many marked comes begun = search rules

  -- after the first devices
  pub searching-first : (f g : Front) → f ≡ nothing_reached (length rows)
      → g ≡ reach_all first f → Searching g
  searching-first f g start is =
      let r = gains first f g is in
      let many : length f.marks ≡ length rows
      = ap (λ (h : Front). length h.marks) start ∙ length-replicate (length rows) _ in
      searching-after (λ n. In n first) f g r many
      (λ n older. absurd (none-set (length rows) n (rw start at older)))
      (λ n at. elim at [
        | inl older ↦ absurd (rw start at older)
        | inr new ↦ at_first (Contains-In n first new)
      ]) (λ n has within. r.there n has (omega (arith, within, many)))

  module _ (f g : Front) (device : ℕ) (waiting : List ℕ)
      (popped : f.waiting ≡ waiting ++ device ∷ [])
      (is : g ≡ reach_all (own_of rows device) (record { marks = f.marks; waiting = waiting }))
      (searching : Searching f) where
    -- the search, in which the device no longer waits
    abbrev e : Front
    e = record { marks = f.marks; waiting = waiting }

    -- what was followed or waited is so still, and the device is followed
    still-followed : Gains (λ n. In n (own_of rows device)) e g → (n : ℕ)
        → In n f.waiting ⊎ Followed f.marks n → In n g.waiting ⊎ Followed g.marks n
    still-followed r n holds = search (rules, last-cases)

    -- after one more device is followed
    pub searching-next : Searching g
    searching-next =
        let r = gains (own_of rows device) e g is in
        searching-after (λ n. In n (own_of rows device)) e g r searching.as_many
        (λ n older. (searching.sound n older, still-followed r n (searching.followed n older)))
        (λ n at. elim at [
          | inl older ↦ searching.waits n (rw popped (In-append_left n waiting (device ∷ []) older))
          | inr new ↦ further (searching.waits device (rw popped (in-last device waiting)))
              (Contains-In n (own_of rows device) new)
        ]) (λ n has within. r.kept n (searching.begun n has within))

  -- where none waits, all that links lead to is marked
  reached-set : (f : Front) → f.waiting ≡ [] → Searching f → {n : ℕ} → Reached rows first n
      → n < length rows → is_set f.marks n ≡ true
  reached-set f idle searching (at_first {number = n} has) within =
      searching.begun n (In-Contains n first has) within
  reached-set f idle searching (further {number = n} {below = below} earlier has) within =
      let there = In-Contains below (own_of rows n) has in
      elim (searching.followed n
      (reached-set f idle searching earlier (own-within rows n below there))) [
        | inl waits ↦ absurd (subst (In n) idle waits)
        | inr done ↦ done below there within
      ]

  -- the marks tell what links lead to
  pub searching-last : (f : Front) → f.waiting ≡ [] → Searching f
      → TellsReached rows first f.marks
  searching-last f idle searching = search (rules, set-within, reached-set)
