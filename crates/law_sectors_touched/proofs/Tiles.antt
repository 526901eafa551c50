-- Items whose spans follow each other without a gap, as the pieces of a bio do that isn't a flush,
-- from its first sector to its end: what is counted item by item is what is counted sector by
-- sector, and each sector is in one of them.
use Rattle.lab_model.proofs.Common.{rules, ◌+◌, ◌-◌, ◌<◌, [], ap, arith, filter_map, inl, inr, List}
use Rattle.lab_model.proofs.Common.{Option, refl, slice_get, Some, subst, suc, sym, zero, ℕ, ◌∙◌}
use Rattle.lab_model.proofs.Common.{◌∷◌, ◌≡◌, ◌≤◌, cases_lt, In, Meaning, Span, sector_pieces}
use Rattle.lab_model.proofs.Common.{Some-holds, Table, total}
use Rattle.law_sectors_touched.proofs.Words.{DiskSector, Piece}
use Rattle.law_sectors_touched.proofs.Hits.{hits}

-- items whose spans follow each other from a sector to an end
abbrev pub Tiles : {X : Type 0} → (X → Span) → ℕ → ℕ → List X → Type 0
Tiles span first end [] = first ≡ end
Tiles span first end (x ∷ more) =
    ((span x).first ≡ first) × Tiles span (first + (span x).len) end more

-- the span of a piece
abbrev pub piece_span : Piece → Span
piece_span piece = piece.span

module _ {S : Type 0} (m : Meaning S) (table : Table S) where
  -- so all sectors' pieces do
  pub sector_pieces-tiles : (first count : ℕ)
      → Tiles piece_span first (first + count) (sector_pieces m table first count)
  sector_pieces-tiles first zero = search rules
  sector_pieces-tiles first (suc count) = search (rules, sector_pieces-tiles (first + 1) count)

-- so many sectors and more are counted apart
hits-more : (x : DiskSector) (route : ℕ → Option DiskSector) (first count more : ℕ)
    → hits x route first (count + more)
    ≡ hits x route first count + hits x route (first + count) more
hits-more x route first zero more = search (rules, hits)
hits-more x route first (suc count) more =
    let same : (first + 1) + count ≡ first + suc count = omega arith in
    let grows : suc count + more ≡ suc (count + more) = omega arith in
    let rest = hits-more x route (first + 1) count more in
    omega (arith, rest, ap (λ n. hits x route n more) same, ap (hits x route first) grows)

module _ {X : Type 0} (span : X → Span) where
  -- spans that follow each other end no earlier than they begin
  tiles-rise : (first end : ℕ) (xs : List X) → Tiles span first end xs → first ≤ end
  tiles-rise first end [] tiles = omega (arith, tiles)
  tiles-rise first end (own ∷ more) tiles =
      let rest = tiles-rise (first + (span own).len) end more tiles.1 in omega (arith, rest)

  -- they count what their sectors count
  pub tiles-hits : (x : DiskSector) (route : ℕ → Option DiskSector) (first end : ℕ) (xs : List X)
      → Tiles span first end xs → total (λ y. hits x route (span y).first (span y).len) xs
      ≡ hits x route first (end - first)
  tiles-hits x route first end [] tiles = search (rules, hits)
  tiles-hits x route first end (own ∷ more) tiles =
      let len = (span own).len in
      let up = tiles-rise (first + len) end more tiles.1 in
      let count : end - first ≡ len + (end - (first + len)) = omega (arith, up) in
      let here = ap (λ n. hits x route n len) tiles.0 in
      let rest = tiles-hits x route (first + len) end more tiles.1 in
      let both = hits-more x route first len (end - (first + len)) in
      omega (arith, ap (hits x route first) count, both, here, rest)

  -- the item whose span has a sector; no other has it
  pub record HasSector (xs : List X) (q : ℕ) : Type 0 where
    pub place : ℕ
    pub item : X
    pub there : slice_get xs place ≡ Some item
    pub from : (span item).first ≤ q
    pub to : q < (span item).first + (span item).len
    pub only : (k : ℕ) (other : X) → slice_get xs k ≡ Some other → (span other).first ≤ q
        → q < (span other).first + (span other).len → k ≡ place

  -- each begins where they do, or behind that
  tiles-from : (xs : List X) (first end : ℕ) → Tiles span first end xs → (k : ℕ) (x : X)
      → slice_get xs k ≡ Some x → first ≤ (span x).first
  tiles-from [] first end tiles k x there = search rules
  tiles-from (own ∷ more) first end tiles k x there = search (rules, tiles-from more _ end tiles.1)

  -- each sector has one
  pub tiles-find : (first end : ℕ) (xs : List X) → Tiles span first end xs → (q : ℕ) → first ≤ q
      → q < end → HasSector xs q
  tiles-find first end [] tiles q from to = absurd (omega (arith, tiles, from, to))
  tiles-find first end (own ∷ more) tiles q from to =
      elim (cases_lt q (first + (span own).len)) [
        | inl less ↦ record {
          place = 0;
          item = own;
          there = refl;
          from = omega (arith, tiles.0, from);
          to = omega (arith, tiles.0, less);
          only = first_only less;
        }
        | inr over ↦
            let rest = tiles-find (first + (span own).len) end more tiles.1 q over to in
            record {
              place = suc rest.place;
              item = rest.item;
              there = rest.there;
              from = rest.from;
              to = rest.to;
              only = later_only over rest;
            }
      ]
    where
      first_only : q < first + (span own).len → (k : ℕ) (x : X) → slice_get (own ∷ more) k ≡ Some x
          → (span x).first ≤ q → q < (span x).first + (span x).len → k ≡ 0
      first_only less zero x there from_x to_x = refl
      first_only less (suc k) x there from_x to_x =
          let behind = tiles-from more (first + (span own).len) end tiles.1 k x there in
          absurd (omega (arith, behind, less, from_x))

      later_only : first + (span own).len ≤ q → (rest : HasSector more q) → (k : ℕ) (x : X)
          → slice_get (own ∷ more) k ≡ Some x → (span x).first ≤ q
          → q < (span x).first + (span x).len → k ≡ suc rest.place
      later_only over rest zero x there from_x to_x =
          let is = Some-holds there in
          absurd (omega (
            arith,
            over,
            tiles.0,
            ap (λ y. (span y).first) is,
            ap (λ y. (span y).len) is,
            to_x,
          ))
      later_only over rest (suc k) x there from_x to_x =
          ap suc (rest.only k x there from_x to_x)

-- where each item gives another of the same span, these follow each other, too
pub tiles-given : {X Y : Type 0} (span : X → Span) (later : Y → Span) (f : X → Option Y)
    (first end : ℕ) (xs : List X) → ((x : X) → In x xs
    → (y : Y) × (f x ≡ Some y) × (later y ≡ span x)) → Tiles span first end xs
    → Tiles later first end (filter_map f xs)
tiles-given span later f first end [] each tiles = tiles
tiles-given span later f first end (x ∷ xs) each tiles =
    let own = each x (inl refl) in
    rw own.1 (
      ap (λ l. l.first) own.2 ∙ tiles.0,
      subst (λ l. Tiles later (first + l.len) end (filter_map f xs)) (sym own.2)
          (tiles-given span later f (first + (span x).len) end xs
          (λ y among. each y (inr among)) tiles.1),
    )
