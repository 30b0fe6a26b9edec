-- Bytes that are passed on to a writer.
use Rattle.std.proofs.Common.{◌≡◌, ℕ, List, [], ◌++◌, Option, Result, Ok, Err, refl, sym, ap, ◌∙◌, subst, append_assoc, append-nil}
use Rattle.std.specs.Prelude.{OnErr}
use Rattle.std.specs.Io.KnownBytes.{Appends}
use Rattle.sgt_names.specs.Device.{WritesFront}
use Rattle.sgt_names.proofs.Devices.{appends_on}
use Rattle.sgt_serial.specs.private.Written.{PassesOn}
use Rattle.sgt_names.proofs.Elements.{front-longer, appends_none, front-second}

-- nothing is passed on
pub nothing : (a : Option (List ℕ)) (held : List ℕ) → PassesOn a a held [] held
nothing a held = ([], appends_none a, append-nil held)

-- all that was held back was written
pub flushed : (a b : Option (List ℕ)) (held : List ℕ) → Appends a b held → PassesOn a b held [] []
flushed a b held wrote = (held, wrote, refl)

pub joined : (a b c : Option (List ℕ)) (held first mid second left : List ℕ) → PassesOn a b held first mid
    → PassesOn b c mid second left
    → PassesOn a c held (first ++ second) left
joined a b c held first mid second left one two = (
  one.0 ++ two.0,
  appends_on a b c one.0 two.0 one.1 two.1,
  sym (append_assoc held first second) ∙ ap (λ xs. xs ++ second) one.2 ∙ append_assoc one.0 mid second
      ∙ ap (λ xs. one.0 ++ xs) two.2
      ∙ sym (append_assoc one.0 two.0 left),
)

-- the writer fails behind bytes that were passed on
pub broken : (a b c : Option (List ℕ)) (held first mid second more whole : List ℕ) → PassesOn a b held first mid
    → WritesFront b c (mid ++ second)
    → whole ≡ (first ++ second) ++ more → WritesFront a c (held ++ whole)
broken a b c held first mid second more whole one fails split =
    let e : one.0 ++ (mid ++ second) ≡ held ++ (first ++ second) =
    sym (append_assoc one.0 mid second) ∙ ap (λ xs. xs ++ second) (sym one.2) ∙ append_assoc held first second in
    let all : (held ++ (first ++ second)) ++ more ≡ held ++ whole = append_assoc held (first ++ second) more
    ∙ ap (λ xs. held ++ xs) (sym split) in
    subst (WritesFront a c) all
    (front-longer a c (held ++ (first ++ second)) more
    (subst (WritesFront a c) e (front-second a b c one.0 (mid ++ second) one.1 fails)))

-- the writer fails at the first bytes
pub broken-first : (a c : Option (List ℕ)) (held first more whole : List ℕ) → WritesFront a c (held ++ first)
    → whole ≡ first ++ more → WritesFront a c (held ++ whole)
broken-first a c held first more whole fails split =
    subst (WritesFront a c) (append_assoc held first more ∙ ap (λ xs. held ++ xs) (sym split))
    (front-longer a c (held ++ first) more fails)

-- of a whole text all was passed on but the rest
abbrev pub IsPassed : (a b : Option (List ℕ)) → (held left rest whole : List ℕ) → Type 0
IsPassed a b held left rest whole = (bytes : List ℕ) × PassesOn a b held bytes left × (bytes ++ rest ≡ whole)

pub passes-none : (a : Option (List ℕ)) (held rest whole : List ℕ) → rest ≡ whole → IsPassed a a held held rest whole
passes-none a held rest whole e = ([], nothing a held, e)

pub passes-more : (a b c : Option (List ℕ)) (held mid left piece rest more whole : List ℕ) → rest ≡ piece ++ more
    → IsPassed a b held mid rest whole
    → PassesOn b c mid piece left → IsPassed a c held left more whole
passes-more a b c held mid left piece rest more whole e one two = (
  one.0 ++ piece,
  joined a b c held one.0 mid piece left one.1 two,
  append_assoc one.0 piece more ∙ ap (λ xs. one.0 ++ xs) (sym e) ∙ one.2,
)

-- no byte more is to be passed on
pub passes-past : (a b : Option (List ℕ)) (held mid piece rest more whole : List ℕ) → rest ≡ piece ++ more
    → piece ≡ [] → IsPassed a b held mid rest whole → IsPassed a b held mid more whole
passes-past a b held mid piece rest more whole e none one =
    subst (λ r. IsPassed a b held mid r whole) (e ∙ ap (λ p. p ++ more) none) one

pub passes-all : (a b : Option (List ℕ)) (held left rest whole : List ℕ) → rest ≡ []
    → IsPassed a b held left rest whole → PassesOn a b held whole left
passes-all a b held left rest whole e one =
    subst (λ bytes. PassesOn a b held bytes left) (sym (append-nil one.0) ∙ ap (λ xs. one.0 ++ xs) (sym e)
    ∙ one.2) one.1

-- the writer fails
pub passes-front : (a b c : Option (List ℕ)) (held mid piece rest more whole : List ℕ) → rest ≡ piece ++ more
    → IsPassed a b held mid rest whole
    → WritesFront b c (mid ++ piece) → WritesFront a c (held ++ whole)
passes-front a b c held mid piece rest more whole e one fails =
    broken a b c held one.0 mid piece more whole one.1 fails (sym one.2 ∙ ap (λ xs. one.0 ++ xs) e
    ∙ sym (append_assoc one.0 piece more))

-- all is written in the end
pub written-all : (a c d : Option (List ℕ)) (held bytes mid whole : List ℕ) → held ≡ [] → bytes ≡ whole
    → PassesOn a c held bytes mid → Appends c d mid → Appends a d whole
written-all a c d held bytes mid whole none e one wrote =
    subst (Appends a d) (sym one.2 ∙ ap (λ xs. xs ++ bytes) none ∙ e) (appends_on a c d one.0 mid one.1 wrote)

-- or a front of it
pub written-front : (a c d : Option (List ℕ)) (held bytes mid whole : List ℕ) → held ≡ [] → bytes ≡ whole
    → PassesOn a c held bytes mid → WritesFront c d mid → WritesFront a d whole
written-front a c d held bytes mid whole none e one fails =
    subst (WritesFront a d) (sym one.2 ∙ ap (λ xs. xs ++ bytes) none ∙ e) (front-second a c d one.0 mid one.1 fails)

-- whatever the failure is
pub on-err : {A E P : Type 0} (r : Result A E) → P → OnErr r P
on-err (Ok a) p = tt
on-err (Err e) p = p
