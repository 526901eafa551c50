-- The marks and the held bios stay right as a bio comes, goes or comes to another stage, and as it
-- and its parent's are marked again. A bio that has a child before and after stays marked as it is
-- to be, where another one is taken out or comes behind all.
use Rattle.lab_model.proofs.Common.{rules, ◌≡◌, ◌≢◌, ℕ, ◌≤◌, false, List, Option, None, length, ap}
use Rattle.lab_model.proofs.Common.{sym, ◌∙◌, arith, option_map, nat_cmp, Bio, option_flatten, numbered}
use Rattle.lab_model.proofs.Common.{State, true, [], ◌∷◌, ◌++◌, Some, refl, filter_map-append}
use Rattle.lab_model.proofs.Common.{list_any-append, is_bio, change_numbered}
use Rattle.lab_index.specs.Numbers.{Marks}
use Rattle.lab_state.specs.Index.{IsIndexed, goes, is_marked, waits_of}
use Rattle.lab_state.proofs.Modes.{each-but}
use Rattle.lab_state.proofs.Going.{OneChanges, any-taken, child_among}
use Rattle.std.proofs.Math.Bool.{or-true}
use Rattle.lab_bios.specs.Children.{is_alone}
use Rattle.lab_state.proofs.Events.{goes-alike}
use Rattle.std.specs.FinMap as map

-- the bio of a number is marked just if it may go on, and the marks of the others stay
pub record IsRemarked {S : Type 0} (s : State S) (number : ℕ) (old new : Marks) : Type 0 where
  pub here : is_marked new number ≡ goes s number
  pub others : (other : ℕ) → other ≢ number → is_marked new other ≡ is_marked old other
  pub reach : length new ≡ length old

-- so one is where it is gone and marked no more
pub remarked-gone : {S : Type 0} (s : State S) (after : List (Option Bio)) {number parent : ℕ}
    {old new : Marks} → OneChanges s.bios after number parent None → is_marked new number ≡ false
    → ((other : ℕ) → other ≢ number → is_marked new other ≡ is_marked old other)
    → length new ≡ length old → IsRemarked (record s { bios = after }) number old new
remarked-gone s after {number} one here others reach = search rules

-- the marks are right where only two bios may go on or not otherwise than before, of which one is
-- marked after the other
marked-two : {S : Type 0} (s t : State S) (number parent : ℕ) (old between new : Marks)
    → ((other : ℕ) → is_marked old other ≡ goes s other)
    → ((other : ℕ) → other ≢ number → other ≢ parent → goes t other ≡ goes s other)
    → IsRemarked t number old between → IsRemarked t parent between new
    → (other : ℕ) → is_marked new other ≡ goes t other
marked-two s t number parent old between new was same first second =
    each-but (λ n. is_marked new n ≡ goes t n) parent second.here (λ other no_parent.
    second.others other no_parent
    ∙ each-but (λ n. n ≢ parent → is_marked between n ≡ goes t n) number (λ _. first.here)
    (λ n apart free. first.others n apart ∙ was n ∙ sym (same n apart free)) other no_parent)

-- what is kept beside the bios stays right where one of them changes, if what waits of it is put
-- right, and it and its parent's are marked again
pub indexed-changed : {S : Type 0} (s : State S) (after : List (Option Bio)) {number parent : ℕ}
    {now : Option Bio} {old between new : Marks} {held left : map.FinMap nat_cmp ℕ}
    → OneChanges s.bios after number parent now → IsIndexed s old held → length after ≤ length old
    → IsRemarked (record s { bios = after }) number old between
    → IsRemarked (record s { bios = after }) parent between new
    → map.get left number ≡ waits_of s.clock now
    → ((other : ℕ) → other ≢ number → map.get left other ≡ map.get held other)
    → IsIndexed (record s { bios = after }) new left
indexed-changed s after {number} {parent} {now} {old} {between} {new} {held} {left} one was reach
    first second here others = record {
      marked = record {
        ready = marked-two s (record s { bios = after }) number parent old between new
            was.marked.ready (search rules) first second;
        reach = omega (arith, reach, first.reach, second.reach);
      };
      waits = each-but
          (λ n. map.get left n ≡ waits_of s.clock (option_flatten (numbered after n))) number
          (here ∙ ap (waits_of s.clock) (sym one.here)) (λ other apart. others other apart
          ∙ was.waits other ∙ ap (waits_of s.clock) (sym (one.others other apart)));
    }

-- so where its parent makes no difference
pub indexed-alone : {S : Type 0} (s : State S) (after : List (Option Bio)) {number : ℕ}
    {now : Option Bio} {old new : Marks} {held left : map.FinMap nat_cmp ℕ}
    → OneChanges s.bios after number number now → IsIndexed s old held
    → length after ≤ length old → IsRemarked (record s { bios = after }) number old new
    → map.get left number ≡ waits_of s.clock now
    → ((other : ℕ) → other ≢ number → map.get left other ≡ map.get held other)
    → IsIndexed (record s { bios = after }) new left
indexed-alone s after one was reach marked here others = search (rules, indexed-changed)

-- a bio that has no stage isn't there
pub none-there : (bio : Option Bio) → option_map (λ (b : Bio). b.stage) bio ≡ None → bio ≡ None
none-there bio none = search rules

-- a bio has children in both or in none, if it lives
abbrev pub HasAlike : List (Option Bio) → List (Option Bio) → ℕ → Type 0
HasAlike before after number = (bio : Bio) → option_flatten (numbered after number) ≡ Some bio
    → child_among after number ≡ child_among before number

-- such a bio stays marked as it is to be, where one is marked again that changes
pub stays-marked : {S : Type 0} (s : State S) (after : List (Option Bio)) {number parent : ℕ}
    {now : Option Bio} {old new : Marks} → OneChanges s.bios after number parent now
    → ((other : ℕ) → is_marked old other ≡ goes s other)
    → IsRemarked (record s { bios = after }) number old new
    → (other : ℕ) → HasAlike s.bios after other
    → is_marked new other ≡ goes (record s { bios = after }) other
stays-marked s after {number} {parent} {now} {old} {new} one was marked =
    each-but (λ n. HasAlike s.bios after n → is_marked new n ≡ goes (record s { bios = after }) n)
    number (λ _. marked.here) (λ other apart child. marked.others other apart ∙ was other
    ∙ sym (goes-alike s (record s { bios = after }) other (one.others other apart)
    (λ bio is. record {
      runs = λ at its. refl;
      come = λ due its. refl;
      child = child bio (one.others other apart ∙ is);
    })))

-- a living bio that isn't alone among some has a child there
has-child : (bios others : List (Option Bio)) (number : ℕ) (bio : Bio)
    → option_flatten (numbered bios number) ≡ Some bio → is_alone number bios others ≡ false
    → child_among others number ≡ true
has-child bios others number bio lives more = search rules

-- a bio that has a child still, where one was taken out, had one before
pub alike-taken : (before after : List (Option Bio)) (number parent : ℕ) (bio : Bio)
    → option_flatten (numbered before number) ≡ Some bio
    → after ≡ change_numbered before number (λ _. None)
    → is_alone parent after after ≡ false → HasAlike before after parent
alike-taken before after number parent bio lives is more living there =
    let still = has-child after after parent living there more in
    still ∙ sym (any-taken (λ b. is_bio parent b.parent) before number bio lives
    ∙ rw (← is) (rw still (or-true (is_bio parent bio.parent))))

-- one that had a child has it still, where one comes behind all
pub alike-pushed : (before after : List (Option Bio)) (parent : ℕ) (bio : Bio)
    → after ≡ before ++ Some bio ∷ []
    → is_alone parent after before ≡ false → HasAlike before after parent
alike-pushed _ _ _ _ is more living there = search (rules, filter_map-append, list_any-append)
