-- The first element that passes a test, looked for one after another.
use Rattle.std.proofs.Common.{◌≡◌, ◌+◌, ◌++◌, ℕ, zero, suc, Bool, true, false, List, [], ◌∷◌, length, take, refl, sym, ◌∙◌, ap, subst, Option, Some, None}
use Rattle.std.specs.Prelude.{slice_get, find, cond}
use Rattle.std.proofs.lemmas.List.{append-nil}
use Rattle.std.proofs.lemmas.Option.{same_Some}
use Rattle.sgt_names.specs.DraftParts.{PartView, touched_in}
use Rattle.sgt_names.specs.declared.draft.Touch.{Touch}
use Rattle.sgt_names.proofs.Lists.{take_next}
use Rattle.sgt_edges.proofs.Touching.{few-all}

tested : {A : Type 0} (x : A) (o : Option A) (b : Bool) → cond b (Some x) o ≡ None → (b ≡ false) × (o ≡ None)
tested x o true e = absurd cc
tested x o false e = (refl, e)

pub find_first : {A : Type 0} (f : A → Bool) (xs : List A) (n : ℕ) (x : A) → slice_get xs n ≡ Some x
    → find f (take n xs) ≡ None → f x ≡ true
    → find f xs ≡ Some x
find_first f [] n x at none hit = absurd cc
find_first f (y ∷ xs) zero x at none hit =
    let same : y ≡ x = same_Some y x at in
    subst (λ z. find f (z ∷ xs) ≡ Some x) (sym same) (rw hit refl)
find_first f (y ∷ xs) (suc n) x at none hit =
    let miss = tested y (find f (take n xs)) (f y) none in
    rw miss.0 (find_first f xs n x at miss.1 hit)

pub find_nothing : {A : Type 0} (f : A → Bool) (xs : List A) (x : A) → find f xs ≡ None → f x ≡ false
    → find f (xs ++ x ∷ []) ≡ None
find_nothing f [] x none miss = rw miss refl
find_nothing f (y ∷ xs) x none miss =
    let front = tested y (find f xs) (f y) none in
    rw front.0 (find_nothing f xs x front.1 miss)

pub find_further : {A : Type 0} (f : A → Bool) (xs : List A) (n : ℕ) (x : A) → slice_get xs n ≡ Some x
    → find f (take n xs) ≡ None → f x ≡ false
    → find f (take (n + 1) xs) ≡ None
find_further f xs n x at none miss = ap (find f) (take_next xs n x at) ∙ find_nothing f (take n xs) x none miss
