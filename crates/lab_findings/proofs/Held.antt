-- What a hash map by two numbers has, as a finite map.
use Rattle.lab_model.proofs.Common.{◌≡◌, ◌∙◌, ℕ, cond, sym, ap, Some, get, same_map}
use Rattle.lab_model.proofs.Common.{get-from_entries, get-insert, HashMap, Updates}
use Rattle.lab_watch.proofs.Places.{places_apart, places_total, same_place, scanned, turned}
use Rattle.lab_watch.specs.Grids.{place_cmp}
use Rattle.std.specs.FinMap as map
use Rattle.std.specs.HashMap as hash

module _ {V : Type 0} where
  -- a hash map as a finite map
  abbrev pub held_in : {H : Type 0} → HashMap (ℕ × ℕ) V H → map.FinMap place_cmp V
  held_in held = map.from_entries held.entries

  -- what the finite map has at a place is what the hash map finds there
  pub found-at : {H : Type 0} (held : HashMap (ℕ × ℕ) V H) (place : ℕ × ℕ)
      → get (held_in held) place ≡ hash.get same_place held place
  found-at held place = get-from_entries places_total held.entries place
      ∙ scanned place held.entries

  -- what stands at a place once a value is put at one
  pub get-put : (kept : map.FinMap place_cmp V) (place : ℕ × ℕ) (value : V) (other : ℕ × ℕ)
      → get (map.insert kept place value) other
      ≡ cond (same_place place other) (Some value) (get kept other)
  get-put kept place value other = get-insert places_total kept place value other
      ∙ ap (λ same. cond same (Some value) (get kept other)) (turned other place)

  -- a hash map that has a value more is the finite map with it: they agree at each place
  pub put-at : {H : Type 0} (held more : HashMap (ℕ × ℕ) V H) (place : ℕ × ℕ) (value : V)
      → Updates same_place held more place (Some value)
      → held_in more ≡ map.insert (held_in held) place value
  put-at held more place value updates = same_map places_total places_apart
      (held_in more) (map.insert (held_in held) place value)
      (λ other. found-at more other ∙ updates.0 other
      ∙ ap (cond (same_place place other) (Some value)) (sym (found-at held other))
      ∙ sym (get-put (held_in held) place value other))
