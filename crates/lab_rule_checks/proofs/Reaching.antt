-- Marks by device number, of which one is set (this project's own). What a search gains by one
-- device, and by several.
use Rattle.lab_model.proofs.Common.{◌≡◌, ◌⊎◌, inl, inr, ℕ, zero, suc, ◌+◌, ◌<◌, Bool, true, false}
use Rattle.lab_model.proofs.Common.{List, [], ◌∷◌, length, replicate, refl, ap, arith, rules, ◌++◌}
use Rattle.lab_model.proofs.Common.{◌∙◌, get_or, take, take_more, length-change, In, In-append_left}
use Rattle.lab_model.proofs.Common.{slice_get-within, slice_get_within}
use Rattle.lab_rulebook.proofs.PlaceLemmas.{change-there}
use Rattle.lab_rule_checks.specs.Search.{is_new, is_set, marked, Front, reach, reach_all, reach_if}
use Rattle.std.proofs.lemmas.List.{length-append}
use Rattle.lab_standing.proofs.Ins.{in-last, last-cases}

-- how many aren't set
abbrev pub unset : List Bool → ℕ
unset [] = 0
unset (true ∷ marks) = unset marks
unset (false ∷ marks) = 1 + unset marks

-- the mark is set
pub marked-there : (device : ℕ) (marks : List Bool) → device < length marks
    → is_set (marked device marks) device ≡ true
marked-there device marks within =
    rw (change-there _ marks device _ (slice_get-within marks device within).1) refl

-- the others stay set
pub marked-kept : (device : ℕ) (marks : List Bool) (other : ℕ) → is_set marks other ≡ true
    → is_set (marked device marks) other ≡ true
marked-kept zero (mark ∷ marks) other is = search rules
marked-kept (suc device) (mark ∷ marks) (suc other) is = marked-kept device marks other is
marked-kept device marks other is = is

-- a set mark is that one, or was set
pub marked-source : (device : ℕ) (marks : List Bool) (other : ℕ)
    → is_set (marked device marks) other ≡ true → (other ≡ device) ⊎ (is_set marks other ≡ true)
marked-source zero (mark ∷ marks) zero is = inl refl
marked-source (suc device) (mark ∷ marks) (suc other) is =
    search (rules, marked-source device marks other is)
marked-source device marks other is = inr is

-- one less isn't set where it wasn't
pub marked-unset : (device : ℕ) (marks : List Bool) → is_new marks device ≡ true
    → unset (marked device marks) + 1 ≡ unset marks
marked-unset device [] new = cc
marked-unset zero (mark ∷ marks) new = search arith
marked-unset (suc device) (mark ∷ marks) new = search (arith, marked-unset device marks)

-- one that isn't new is set
pub old-set : (device : ℕ) (marks : List Bool) → device < length marks
    → is_new marks device ≡ false → is_set marks device ≡ true
old-set device marks within old = grind (arith, slice_get-within marks device within)

-- a set mark is one of the marks
pub set-within : (device : ℕ) (marks : List Bool) → is_set marks device ≡ true
    → device < length marks
set-within device marks is = grind (arith, slice_get_within)

-- no mark is set at first
pub none-set : (count device : ℕ) → is_set (replicate count false) device ≡ true → ⊥
none-set (suc count) (suc device) is = none-set count device is
none-set count device is = cc

-- what a search gains where it comes to some devices: how much it has to do stays, nothing is lost,
-- these devices are marked, and what is new is one of them, and waits
pub record Gains (Come : ℕ → Type 0) (f g : Front) : Type 0 where
  pub as_many : length g.marks ≡ length f.marks
  pub as_much : unset g.marks + length g.waiting ≡ unset f.marks + length f.waiting
  pub kept : (n : ℕ) → is_set f.marks n ≡ true → is_set g.marks n ≡ true
  pub there : (n : ℕ) → Come n → n < length f.marks → is_set g.marks n ≡ true
  pub source : (n : ℕ) → is_set g.marks n ≡ true
      → (is_set f.marks n ≡ true) ⊎ (Come n × In n g.waiting)
  pub waits : (n : ℕ) → In n f.waiting → In n g.waiting
  pub from : (n : ℕ) → In n g.waiting → In n f.waiting ⊎ Come n

-- nothing is gained by devices that are marked
gains-none : (Come : ℕ → Type 0) (f : Front)
    → ((n : ℕ) → Come n → n < length f.marks → is_set f.marks n ≡ true) → Gains Come f f
gains-none Come f there = search rules

-- a new device is marked, and waits
gains-new : (device : ℕ) (f : Front) → is_new f.marks device ≡ true
    → Gains (λ n. device ≡ n) f (reach_if true device f)
gains-new device f new =
    search (
      rules,
      marked-unset,
      length-append,
      marked-kept,
      marked-there,
      marked-source,
      in-last,
      In-append_left,
      last-cases,
      length-change,
    )

-- a device is reached, which is new or not
gains-one : (device : ℕ) (f : Front) (b : Bool) → is_new f.marks device ≡ b
    → Gains (λ n. device ≡ n) f (reach_if b device f)
gains-one device f true new = gains-new device f new
gains-one device f false old = search (rules, gains-none, old-set)

-- some devices, and then others
gains-then : (Come More : ℕ → Type 0) (f g h : Front) → Gains Come f g → Gains More g h
    → Gains (λ n. Come n ⊎ More n) f h
gains-then Come More f g h first rest = record {
  as_many = rest.as_many ∙ first.as_many;
  as_much = rest.as_much ∙ first.as_much;
  kept = λ n is. rest.kept n (first.kept n is);
  there = λ n come within. elim come [
    | inl one ↦ rest.kept n (first.there n one within)
    | inr more ↦ rest.there n more (omega (arith, within, first.as_many))
  ];
  source = λ n is. elim (rest.source n is) [
    | inl older ↦ elim (first.source n older) [
      | inl oldest ↦ inl oldest
      | inr new ↦ inr (inl new.0, rest.waits n new.1)
    ]
    | inr new ↦ inr (inr new.0, new.1)
  ];
  waits = λ n at. rest.waits n (first.waits n at);
  from = λ n at. elim (rest.from n at) [
    | inl older ↦ elim (first.from n older) [ inl oldest ↦ inl oldest | inr one ↦ inr (inl one) ]
    | inr more ↦ inr (inr more)
  ];
}

-- several devices are reached
gains-all : (devices : List ℕ) (f : Front) → Gains (λ n. In n devices) f (reach_all devices f)
gains-all [] f = gains-none (λ n. In n []) f (λ n at. absurd at)
gains-all (device ∷ devices) f =
    gains-then _ _ f (reach device f) _ (gains-one device f _ refl) (gains-all devices _)

-- the same of a search as it is then
pub gains : (devices : List ℕ) (f g : Front) → g ≡ reach_all devices f
    → Gains (λ n. In n devices) f g
gains devices f g is = rw is (gains-all devices f)

-- devices are reached one after another
reach_all-append : (these those : List ℕ) (f : Front)
    → reach_all (these ++ those) f ≡ reach_all those (reach_all these f)
reach_all-append [] those f = refl
reach_all-append (device ∷ these) those f = reach_all-append these those (reach device f)

-- one device more is reached
pub reach_all-more : (devices : List ℕ) (place unused : ℕ) (f : Front) → place < length devices
    → reach (get_or devices place unused) (reach_all (take place devices) f)
    ≡ reach_all (take (place + 1) devices) f
reach_all-more devices place unused f within = simp (take_more _ _ unused within, reach_all-append)

-- when the last device that waits is followed, less is left to do
pub reach_all-less : (devices : List ℕ) (f g : Front) (device : ℕ) (waiting : List ℕ)
    → f.waiting ≡ waiting ++ device ∷ []
    → g ≡ reach_all devices (record { marks = f.marks; waiting = waiting })
    → unset g.marks + length g.waiting < unset f.marks + length f.waiting
reach_all-less devices f g device waiting popped is =
    let e : Front = record { marks = f.marks; waiting = waiting } in
    let r = gains devices e g is in
    omega (arith, r.as_much, ap length popped, length-append waiting (device ∷ []))
