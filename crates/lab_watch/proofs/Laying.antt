-- What is seen once stretches are cut, taken and put.
use Rattle.std.proofs.Common.{rules, ◌≡◌, ◌∙◌, ap, ℕ, ◌+◌, ◌-◌, ◌<◌, ◌≤◌, List, [], ◌∷◌, arith}
use Rattle.std.proofs.Common.{cond}
use Rattle.std.proofs.Common.{Option, None, Some, nat_le, nat_lt, nat_cmp}
use Rattle.std.proofs.lemmas.Bool.Decides.{nat_tests}
use Rattle.std.specs.BTreeMap.{insert_entry}
use Rattle.lab_watch.specs.Grids.{writer_from}
use Rattle.lab_watch.specs.Stretches.{at, cut, sector_is_within, seen, taken, trimmed}
use Rattle.lab_watch.specs.declared.stretch.Stretch.{Stretch}
use Rattle.lab_next.specs.declared.writer.Writer.{Writer}
use Rattle.lab_watch.proofs.Cuts.{Rises-cut}
use Rattle.lab_watch.proofs.Rising.{Rises}
use Rattle.lab_watch.proofs.Taken.{taken-past}

-- who wrote what stands at a place, by what ends at another or in front of it
abbrev pub near : List (ℕ × Stretch) → ℕ → ℕ → Option Writer
near [] last place = None
near (entry ∷ entries) last place = cond (nat_le entry.0 last)
    (cond (nat_lt place entry.0) (at entry place) (near entries last place)) None

-- nothing ends in front of what rises behind
near-past : (entries : List (ℕ × Stretch)) (last place lowest : ℕ) → Rises lowest entries
    → last < lowest → near entries last place ≡ None
near-past [] last place lowest rises past = search rules
near-past (entry ∷ entries) last place lowest rises past = grind (arith, nat_tests)

-- a cut changes nothing behind it
seen-cut : (entries : List (ℕ × Stretch)) (last place lowest : ℕ) → Rises lowest entries
    → last ≤ place → seen (cut entries last) place ≡ seen entries place
seen-cut [] last place lowest rises behind = search rules
seen-cut (entry ∷ entries) last place lowest rises behind =
    grind (arith, nat_tests, seen-cut entries last place (entry.0 + 1) rises.1)

-- before a cut, all is seen by what ends there or in front
near-cut : (entries : List (ℕ × Stretch)) (last place lowest : ℕ) → Rises lowest entries
    → place < last → near (cut entries last) last place ≡ seen entries place
near-cut [] last place lowest rises before = search rules
near-cut (entry ∷ entries) last place lowest rises before =
    grind (arith, nat_tests, near-cut entries last place (entry.0 + 1) rises.1)

-- with a stretch in place of what was taken
seen-laid : (entries : List (ℕ × Stretch)) (first last : ℕ) (stretch : Stretch) (place lowest : ℕ)
    → Rises lowest entries → first < last → stretch.count ≡ last - first
    → seen (insert_entry nat_cmp (taken entries (first + 1) last) last stretch) place
    ≡ cond (nat_lt place first) (near entries first place)
    (cond (nat_lt place last) (at (last, stretch) place) (seen entries place))
seen-laid [] first last stretch place lowest rises some long = grind (arith, nat_tests)
seen-laid (entry ∷ entries) first last stretch place lowest rises some long =
    grind (
      arith,
      nat_tests,
      seen-laid entries first last stretch place (entry.0 + 1) rises.1,
      taken-past (first + 1) last (entry.0 + 1) entries rises.1,
      near-past entries first place (entry.0 + 1) rises.1,
    )

-- with nothing in place of what was taken
seen-cleared : (entries : List (ℕ × Stretch)) (first last place lowest : ℕ)
    → Rises lowest entries → first < last
    → seen (trimmed (taken entries (first + 1) (last + 1)) last) place
    ≡ cond (nat_lt place first) (near entries first place)
    (cond (nat_lt place last) None (seen entries place))
seen-cleared [] first last place lowest rises some = grind (arith, nat_tests)
seen-cleared (entry ∷ entries) first last place lowest rises some =
    grind (
      arith,
      nat_tests,
      seen-cleared entries first last place (entry.0 + 1) rises.1,
      taken-past (first + 1) (last + 1) (entry.0 + 1) entries rises.1,
      near-past entries first place (entry.0 + 1) rises.1,
    )

-- where a stretch is put, an operation's sectors stand, and elsewhere is what was there
pub laid-seen : (entries ended fewer whole : List (ℕ × Stretch)) (first last : ℕ) (writer : Writer)
    (stretch : Stretch) → Rises 0 entries → first < last → stretch.count ≡ last - first
    → stretch.origin ≡ writer.origin → stretch.end ≡ writer.sector + (last - first)
    → ended ≡ cut entries first → fewer ≡ taken ended (first + 1) last
    → whole ≡ insert_entry nat_cmp fewer last stretch → (place : ℕ) → seen whole place
    ≡ cond (sector_is_within first (last - first) place) (Some (writer_from writer (place - first)))
    (seen entries place)
laid-seen entries ended fewer whole first last writer stretch rises some long its from cut_is
    taken_is put_is place =
    ap (λ all. seen all place) (put_is ∙ ap (λ few. insert_entry nat_cmp few last stretch)
    (taken_is ∙ ap (λ few. taken few (first + 1) last) cut_is))
    ∙ seen-laid (cut entries first) first last stretch place 0
    (Rises-cut first 0 entries rises (omega arith)) some long
    ∙ grind (
      arith,
      nat_tests,
      near-cut entries first place 0 rises,
      seen-cut entries first place 0 rises,
    )

-- where stretches are taken away, nobody wrote anything, and elsewhere is what was there
pub cleared-seen : (entries ended fewer whole : List (ℕ × Stretch)) (first last : ℕ)
    → Rises 0 entries → first < last → ended ≡ cut entries first
    → fewer ≡ taken ended (first + 1) (last + 1) → whole ≡ trimmed fewer last → (place : ℕ)
    → seen whole place ≡ cond (sector_is_within first (last - first) place) None
    (seen entries place)
cleared-seen entries ended fewer whole first last rises some cut_is taken_is trimmed_is place =
    ap (λ all. seen all place) (trimmed_is ∙ ap (λ few. trimmed few last)
    (taken_is ∙ ap (λ few. taken few (first + 1) (last + 1)) cut_is))
    ∙ seen-cleared (cut entries first) first last place 0
    (Rises-cut first 0 entries rises (omega arith)) some
    ∙ grind (
      arith,
      nat_tests,
      near-cut entries first place 0 rises,
      seen-cut entries first place 0 rises,
    )
