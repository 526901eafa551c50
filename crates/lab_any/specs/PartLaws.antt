-- What a lawful type of target keeps to as one of several. Names: the word of Part, and the fact.
use Rattle.std.specs.Option.{ok_or}
use Rattle.std.specs.Result.{result_map_both}
use Rattle.lab_target.specs.declared.fault.TargetFault.TheVariants.{Device}
use Rattle.std.proofs.Common.{◌≡◌, ◌≢◌, ℕ, ◌≤◌, Bool, true, false, List, [], ◌∷◌, length, refl, ap, sym, subst, ◌∙◌, rules}
use Rattle.std.specs.Prelude.{Option, Some, None, Result, Ok, Err, IfSome, cond}
use Rattle.std.specs.List.{list_all}
use Rattle.lab_sector.specs.declared.device.DevNo.{DevNo}
use Rattle.lab_sector.specs.declared.request.Kind.{Kind}
use Rattle.lab_sector.specs.declared.span.Span.{Span}
use Rattle.lab_text.specs.Words.{words_of}
use Rattle.lab_target.specs.declared.fault.TargetFault.{TargetFault}
use Rattle.lab_target.specs.declared.fault.TargetFault.TheVariants.{Device, NoMemory, Unknown}
use Rattle.lab_target.specs.declared.verdict.Held.{Held}
use Rattle.lab_target.specs.declared.verdict.Verdict.{Verdict}
use Rattle.lab_target.specs.declared.verdict.Verdict.TheVariants.{Pass, Done, Zeroes, Fail}
use Rattle.lab_target.specs.Laws.{Allowed, Bounded, IsPiece, Lawful, greatest_sector, is_plain}
use Rattle.lab_target.specs.Meaning.{Draft, Meaning, Shape}
use Rattle.lab_target.specs.Reading.{FindsPrinted, devices_of, resolved}
use Rattle.std.specs.Str.{bytes_eq}
use Rattle.std.specs.Cmp.Lexicographic.{bytes_decides}
use Rattle.lab_target.specs.Types.{of_type}
use Rattle.lab_any.specs.Part.{Acts, acts_as, draft_as, said_as, shape_as}

-- what the laws say of a target in one state, where each target acts so
pub record IsLawfulAt {S : Type 0} (acts : S → Acts S) (a : Acts S) : Type 0 where
  -- no event changes the shape
  pub started : (now : ℕ) → (acts (a.started now)).shape ≡ a.shape
  pub judged : (kind : Kind) (piece : Span) (now : ℕ)
      → (acts (a.judged kind piece now)).shape ≡ a.shape
  pub messaged : (words : List (List ℕ)) → (acts (a.messaged words)).shape ≡ a.shape
  pub opening : (acts a.shape.opening).shape ≡ a.shape
  -- blocks go up with the places
  pub rises : (place further : ℕ) → place ≤ further → a.shape.block place ≤ a.shape.block further
  -- the opening state is as sound as the target
  pub near : (acts a.shape.opening).is_sound ≡ true → (kind : Kind)
      → IfSome (a.shape.reference kind) (λ r. r.first ≤ greatest_sector)
  pub bounded : (acts a.shape.opening).is_sound ≡ true → (kind : Kind) (piece : Span) (now : ℕ)
      → Bounded (a.verdict kind piece now)
  -- verdicts
  pub verdicts : (kind : Kind) (piece : Span) (now : ℕ) → IsPiece kind piece
      → Allowed a.shape kind piece (a.verdict kind piece now)
  -- texts are one line each
  pub plain_printed : list_all is_plain a.shape.printed ≡ true
  pub plain_reply : (words : List (List ℕ)) → list_all is_plain (a.reply words) ≡ true
  pub plain_status : (now : ℕ) (held : Held) → list_all is_plain (a.status now held) ≡ true

-- what the laws say of the words of one type, where each target acts so
pub record IsLawfulReading {S : Type 0} (acts : S → Acts S) (name : List ℕ)
    (said : List (List ℕ) → ℕ → Result (Draft S) TargetFault) : Type 0 where
  -- the first word is the type's
  pub typed : (words : List (List ℕ)) (len : ℕ) (draft : Draft S) → said words len ≡ Ok draft
      → (rest : List (List ℕ)) × (words ≡ name ∷ rest)
  -- devices are looked up after all else
  pub not_device : (words : List (List ℕ)) (len : ℕ) → said words len ≢ Err Device
  pub not_memory : (words : List (List ℕ)) (len : ℕ) → said words len ≢ Err NoMemory
  -- what is read is sound, and in its opening state
  pub made_sound : (words : List (List ℕ)) (len : ℕ) (draft : Draft S) → said words len ≡ Ok draft
      → (devices : List DevNo)
      → (acts (acts (draft.made devices)).shape.opening).is_sound ≡ true
  pub opened : (words : List (List ℕ)) (len : ℕ) (draft : Draft S) → said words len ≡ Ok draft
      → (devices : List DevNo) → (acts (draft.made devices)).shape.opening ≡ draft.made devices
  -- what is printed reads back
  pub printed : (words : List (List ℕ)) (len : ℕ) (draft : Draft S) → said words len ≡ Ok draft
      → (devices : List DevNo) → length devices ≡ length draft.devices
      → (found : List ℕ → Option DevNo) → FindsPrinted found devices
      → resolved found (said (words_of (acts (draft.made devices)).shape.printed) len)
      ≡ Ok (draft.made devices)

-- words of a type begin with its name
unfoldable pub IsTyped : {A : Type 0} → List ℕ → Meaning A → Type 0
IsTyped {A} name part = (words : List (List ℕ)) (len : ℕ) (draft : Draft A)
    → part.parsed words len ≡ Ok draft → (rest : List (List ℕ)) × (words ≡ name ∷ rest)

-- words that say something, where they are of the type or of another, are of the type
chosen-typed : {A : Type 0} (word name : List ℕ) (words : List (List ℕ))
    (said : Result (Draft A) TargetFault) (draft : Draft A) (same : Bool)
    → bytes_eq word name ≡ same → cond same said (Err Unknown) ≡ Ok draft
    → (rest : List (List ℕ)) × (word ∷ words ≡ name ∷ rest)
chosen-typed word name words said draft true is ok =
    (words, ap (λ w. w ∷ words) ((bytes_decides word name).0 is))
chosen-typed word name words said draft false is ok = absurd (cc)

-- words of a type that say something begin with its name
pub of_type-typed : {A : Type 0} (name : List ℕ)
    (arguments : List (List ℕ) → Result (Draft A) TargetFault) (words : List (List ℕ))
    (draft : Draft A) → of_type name arguments words ≡ Ok draft
    → (rest : List (List ℕ)) × (words ≡ name ∷ rest)
of_type-typed name arguments [] draft ok = absurd (cc)
of_type-typed name arguments (word ∷ words) draft ok =
    chosen-typed word name words (arguments words) draft (bytes_eq word name) refl ok

-- where something is resolved, the words said something
pub resolved-ok : {S : Type 0} (found : List ℕ → Option DevNo) (said : Result (Draft S) TargetFault)
    (t : S) → resolved found said ≡ Ok t → (draft : Draft S) × (said ≡ Ok draft)
resolved-ok found (Ok draft) t is = (draft, refl)
resolved-ok found (Err fault) t is = absurd (cc)

module _ {A S : Type 0} (any : A → S) where
  -- what is said of one type is a draft of that type
  said_as-ok : (said : Result (Draft A) TargetFault) (draft : Draft S) → said_as any said ≡ Ok draft
      → (d : Draft A) × (said ≡ Ok d) × (draft ≡ draft_as any d)
  said_as-ok (Ok d) draft is = (d, refl, cc)
  said_as-ok (Err fault) draft is = absurd (cc)

  -- a fault that no words of the type have is none as one of several
  said_as-never : (said : Result (Draft A) TargetFault) (fault : TargetFault) → said ≢ Err fault
      → said_as any said ≢ Err fault
  said_as-never (Ok d) fault never is = absurd (cc)
  said_as-never (Err other) fault never is = never (cc)

  -- a draft with its devices
  made_as-ok : (draft : Draft A) (devices : Option (List DevNo)) (t : A)
      → result_map_both draft.made (λ fault. fault) (ok_or devices Device) ≡ Ok t
      → result_map_both (draft_as any draft).made (λ fault. fault) (ok_or devices Device)
      ≡ Ok (any t)
  made_as-ok draft None t is = absurd (cc)
  made_as-ok draft (Some devices) t is = ap Ok (ap any (cc))

  -- what is resolved of one type is resolved to it as one of several
  resolved-as : (found : List ℕ → Option DevNo) (said : Result (Draft A) TargetFault) (t : A)
      → resolved found said ≡ Ok t → resolved found (said_as any said) ≡ Ok (any t)
  resolved-as found (Ok draft) t is = made_as-ok draft (devices_of found draft.devices) t is
  resolved-as found (Err fault) t is = absurd (cc)

  -- a verdict that one type allows is allowed as one of several
  allowed-as : (shape : Shape A) (kind : Kind) (piece : Span) (verdict : Verdict)
      → Allowed shape kind piece verdict → Allowed (shape_as any shape) kind piece verdict
  allowed-as shape kind piece (Pass device span hold marks) is = record {
    refers = is.refers;
    holds = is.holds;
    fixed = is.fixed;
    random = is.random;
  }
  allowed-as shape kind piece Done is = is
  allowed-as shape kind piece Zeroes is = is
  allowed-as shape kind piece Fail is = tt

module _ {A S : Type 0} (any : A → S) (part : Meaning A) (law : Lawful part) (acts : S → Acts S)
    (is : (t : A) → acts (any t) ≡ acts_as any part t) where
  -- a target of the type has the type's shape
  shape-is : (t : A) → (acts (any t)).shape ≡ shape_as any (part.shape t)
  shape-is t = ap (λ a. a.shape) (is t)

  -- a target is sound where its opening state is
  sound-from_opening : (t : A) → (acts (any (part.shape t).opening)).is_sound ≡ true
      → part.is_sound t ≡ true
  sound-from_opening t sound = law.sound _ t (sym (law.opening t)) (rw is at sound)

  -- a target of a lawful type is lawful as one of several
  pub part-IsLawfulAt : (t : A) → IsLawfulAt acts (acts_as any part t)
  part-IsLawfulAt t = record {
    started = λ now. shape-is (part.started t now) ∙ ap (shape_as any) (law.started t now);
    judged = λ kind piece now.
        shape-is (part.judged t kind piece now)
        ∙ ap (shape_as any) (law.judged t kind piece now);
    messaged = λ words. shape-is (part.messaged t words) ∙ ap (shape_as any) (law.messaged t words);
    opening = shape-is (part.shape t).opening ∙ ap (shape_as any) (law.opening t);
    rises = law.rises t;
    near = λ sound kind. law.near t (sound-from_opening t sound) kind;
    bounded = λ sound kind piece now. law.bounded t (sound-from_opening t sound) kind piece now;
    verdicts = λ kind piece now asked.
        allowed-as any (part.shape t) kind piece (part.verdict t kind piece now)
        (law.verdicts t kind piece now asked);
    plain_printed = law.plain_printed t;
    plain_reply = law.plain_reply t;
    plain_status = law.plain_status t;
  }

  -- what is made of words of the type is sound
  made-sound : (words : List (List ℕ)) (len : ℕ) (d : Draft A) → part.parsed words len ≡ Ok d
      → (devices : List DevNo)
      → (acts (acts (any (d.made devices))).shape.opening).is_sound ≡ true
  made-sound words len d said devices = search (rules, is, law.opened, law.made_sound)

  -- what is made of words of the type is in its opening state
  made-opened : (words : List (List ℕ)) (len : ℕ) (d : Draft A) → part.parsed words len ≡ Ok d
      → (devices : List DevNo)
      → (acts (any (d.made devices))).shape.opening ≡ any (d.made devices)
  made-opened words len d said devices = rw is (ap any (law.opened words len d said devices))

  -- what is printed of the type reads back
  made-printed : (words : List (List ℕ)) (len : ℕ) (d : Draft A) → part.parsed words len ≡ Ok d
      → (devices : List DevNo) → length devices ≡ length d.devices
      → (found : List ℕ → Option DevNo) → FindsPrinted found devices
      → resolved found
      (said_as any (part.parsed (words_of (acts (any (d.made devices))).shape.printed) len))
      ≡ Ok (any (d.made devices))
  made-printed words len d said devices count found finds =
      ap (λ a. resolved found (said_as any (part.parsed (words_of a.shape.printed) len)))
      (is (d.made devices))
      ∙ resolved-as any found (part.parsed (words_of (part.shape (d.made devices)).printed) len)
      (d.made devices) (law.printed words len d said devices count found finds)

  -- words of a lawful type are lawful as of one of several
  pub part-IsLawfulReading : (name : List ℕ) → IsTyped name part
      → IsLawfulReading acts name (λ words len. said_as any (part.parsed words len))
  unfolding IsTyped
  part-IsLawfulReading name of_name = record {
    typed = λ words len draft said.
        let d = said_as-ok any (part.parsed words len) draft said in
        of_name words len d.0 d.1;
    not_device = λ words len.
        said_as-never any (part.parsed words len) Device (law.not_device words len);
    not_memory = λ words len.
        said_as-never any (part.parsed words len) NoMemory (law.not_memory words len);
    made_sound = λ words len draft said devices.
        let d = said_as-ok any (part.parsed words len) draft said in
        ap (λ x. (acts (acts (x.made devices)).shape.opening).is_sound) d.2
        ∙ made-sound words len d.0 d.1 devices;
    opened = λ words len draft said devices.
        let d = said_as-ok any (part.parsed words len) draft said in
        ap (λ x. (acts (x.made devices)).shape.opening) d.2
        ∙ made-opened words len d.0 d.1 devices ∙ sym (ap (λ x. x.made devices) d.2);
    printed = λ words len draft said devices count found finds.
        let d = said_as-ok any (part.parsed words len) draft said in
        subst
        (λ (x : Draft S). resolved found
        (said_as any (part.parsed (words_of (acts (x.made devices)).shape.printed) len))
        ≡ Ok (x.made devices)) (sym d.2)
        (made-printed words len d.0 d.1 devices (count ∙ ap (λ x. length x.devices) d.2) found
        finds);
  }
