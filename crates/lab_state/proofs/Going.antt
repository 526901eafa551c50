-- A bio comes, goes or comes to another stage: beside it only its parent may have a child more or
-- less, and no other bio changes. Each bio stays in the row of the device that it depends on as
-- bios come, go and come to other stages, and as rows are written anew.
use Rattle.lab_model.proofs.Common.{rules, ◌≡◌, ◌≢◌, ℕ, Bool, false, ◌||◌, List, [], ◌∷◌, ◌++◌}
use Rattle.lab_model.proofs.Common.{Option, Some, None, length, length-append, refl, ap, sym, ◌∙◌}
use Rattle.lab_model.proofs.Common.{cond, nat_lt, option_map, filter_map-append, list_any-append}
use Rattle.lab_model.proofs.Common.{list_any, Bio, Stage, is_bio, change_numbered, option_flatten}
use Rattle.lab_model.specs.declared.parent.Parent.{Parent}
use Rattle.lab_model.proofs.Common.{numbered, Global, Vec, ◌<◌, ◌==◌, true, filter, get_or, map}
use Rattle.lab_model.proofs.Common.{None-not-Some, arith, slice_set, eqb-true}
use Rattle.lab_bios.specs.Children.{parent_number}
use Rattle.lab_bios.specs.Living.{living_of}
use Rattle.lab_bios.specs.Views.{with_stage}
use Rattle.lab_bios.proofs.Numbers.{at-changed, at-other, at-pushed, at-unpushed}
use Rattle.lab_bios.proofs.Sums.{some-counted, summed-gone, summed-stage}
use Rattle.std.proofs.lemmas.List.{map-set}
use Rattle.std.proofs.lemmas.Map.Views.{any-filter_same}
use Rattle.lab_state.specs.Dependents.{DependentRows, IsListed, IsListedAt, KeepsListed, Rows}
use Rattle.lab_state.specs.Dependents.{has_number, living_device}
use Rattle.lab_state.specs.Entered.{known_of}
use Rattle.lab_state.proofs.Modes.{each-but}

-- whether one of some living bios was made for a piece of the bio of a number
abbrev pub child_among : List (Option Bio) → ℕ → Bool
child_among bios number = list_any (λ bio. is_bio number bio.parent) (living_of bios)

-- only the bio of one number changes, to this entry, and of the others only one, its parent, may
-- have a child in the first that it doesn't have in the second, or the other way round
pub record OneChanges (before after : List (Option Bio)) (number parent : ℕ) (now : Option Bio)
    : Type 0 where
  pub here : option_flatten (numbered after number) ≡ now
  pub others : (other : ℕ) → other ≢ number
      → option_flatten (numbered after other) ≡ option_flatten (numbered before other)
  pub child : (other : ℕ) → other ≢ number → other ≢ parent
      → child_among after other ≡ child_among before other

-- a bio isn't a piece of one of another number than its parent's
not-parent : (number : ℕ) (parent : Parent) → number ≢ parent_number parent
    → is_bio number parent ≡ false
not-parent number parent apart = search rules

-- a test is passed by the bio of a number, or by one of those that are left without it
pub any-taken : (test : Bio → Bool) (xs : List (Option Bio)) (number : ℕ) (bio : Bio)
    → option_flatten (numbered xs number) ≡ Some bio → list_any test (living_of xs)
    ≡ (test bio || list_any test (living_of (change_numbered xs number (λ _. None))))
any-taken test xs number bio there = sym (some-counted test (living_of xs))
    ∙ (search (rules, summed-gone (λ b. cond (test b) 1 0) xs number bio there))
    ∙ ap (λ rest. test bio || rest) (some-counted test _)

-- where one comes to another stage, each bio has children in both or in none
pub child-staged : (xs : List (Option Bio)) (number : ℕ) (stage : Stage) (other : ℕ)
    → child_among (change_numbered xs number (option_map (with_stage stage))) other
    ≡ child_among xs other
child-staged xs number stage other = sym (some-counted (λ (b : Bio). is_bio other b.parent)
    (living_of (change_numbered xs number (option_map (with_stage stage)))))
    ∙ ap (nat_lt 0) (summed-stage (λ (b : Bio). cond (is_bio other b.parent) 1 0) (with_stage stage)
    (λ bio. refl) xs number) ∙ some-counted (λ (b : Bio). is_bio other b.parent) (living_of xs)

module _ (before after : List (Option Bio)) (number : ℕ) (bio : Bio) where
  -- a bio is taken out
  pub one-taken : option_flatten (numbered before number) ≡ Some bio
      → after ≡ change_numbered before number (λ _. None)
      → OneChanges before after number (parent_number bio.parent) None
  one-taken lives is = rw is (record {
    here = at-changed before number (λ _. None) refl;
    others = λ other apart. ap option_flatten (at-other before number other (λ _. None) apart);
    child = λ other apart no_parent. rw (
      any-taken (λ b. is_bio other b.parent) before number bio lives,
      not-parent other bio.parent no_parent,
    );
  })

  -- one comes to another stage, which makes no difference to its parent
  pub one-staged : (stage : Stage) → option_flatten (numbered before number) ≡ Some bio
      → after ≡ change_numbered before number (option_map (with_stage stage))
      → OneChanges before after number number (Some (with_stage stage bio))
  one-staged stage lives is = rw is (record {
    here = at-changed before number (option_map (with_stage stage)) refl
        ∙ ap (option_map (with_stage stage)) lives;
    others = λ other apart.
        ap option_flatten (at-other before number other (option_map (with_stage stage)) apart);
    child = λ other apart _. child-staged before number stage other;
  })

  -- one comes behind all
  pub one-pushed : number ≡ length after → after ≡ before ++ Some bio ∷ []
      → OneChanges before after number (parent_number bio.parent) (Some bio)
  one-pushed last is =
      search (
        rules,
        length-append,
        at-pushed,
        at-unpushed,
        filter_map-append,
        list_any-append,
        not-parent,
      )

-- each bio is listed where only one changes, those that were listed still are, and that one is, too
pub listed-changed : {before after : List (Option Bio)} (old new : DependentRows)
    {number parent : ℕ} {now : Option Bio}
    → OneChanges before after number parent now → IsListed before old → KeepsListed after old new
    → IsListedAt after new number → IsListed after new
listed-changed {before} {after} old new {number} one was keeps here =
    each-but (IsListedAt after new) number here (λ other apart. keeps other (record {
      row = λ device its. (was other).row device
          (sym (ap living_device (one.others other apart)) ∙ its);
      known = rw (one.others other apart) (was other).known;
    }))

-- where that one is gone, it is listed if nothing is known of it
pub listed-gone : {before after : List (Option Bio)} (old new : DependentRows) {number parent : ℕ}
    → OneChanges before after number parent None → IsListed before old
    → KeepsListed after old new → known_of new.entered number ≡ 0 → IsListed after new
listed-gone {before} {after} old new {number} one was keeps none =
    listed-changed old new one was keeps (record {
      row = λ device its. absurd (None-not-Some (sym (ap living_device one.here) ∙ its));
      known = λ some. absurd (omega arith);
    })

-- a number that passes a test is left in a row with those that do
pub has-left : (test : ℕ → Bool) (row : List ℕ) (number : ℕ) → test number ≡ true
    → has_number row number ≡ true → has_number (filter test row) number ≡ true
has-left test row number passes has = any-filter_same (λ n. n == number) test true
    (λ n same. ap test (eqb-true n number same) ∙ passes) row ∙ has

-- the lists that rows have
abbrev lists : List (Vec ℕ Global) → Rows
lists rows = map (λ row. row.items) rows

module _ (bios : List (Option Bio)) (rows : List (Vec ℕ Global)) (seen : Rows) (device : ℕ)
    (old new : Vec ℕ Global) (is : lists rows ≡ seen) (there : device < length seen)
    (at : old ≡ get_or rows device old) where
  -- where a row is written anew, so is its list
  pub set-lists : lists (slice_set rows device new) ≡ slice_set seen device new.items
  set-lists = search (rules, map-set)
