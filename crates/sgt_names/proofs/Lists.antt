-- Lists and options: what the crates above need of them, each once.
use Rattle.std.proofs.Common.{◌≡◌, ℕ, zero, suc, ◌+◌, ◌<◌, ◌≤◌, List, [], ◌∷◌, ◌++◌, length, map, get_or, take, drop, Option, Some, None, option_map, refl, sym, ap, ap₂, ◌∙◌, subst, arith, add-one, inl, inr, ◌⊎◌, All, Any, Contains}
use Rattle.std.specs.Prelude.{slice_get, IsSome}
use Rattle.std.specs.List.{AllByRecursion, filter_map, last_or}
use Rattle.std.proofs.lemmas.List.{take_all}
use Rattle.std.proofs.lemmas.List.Elements.{All-push}
use Rattle.std.proofs.lemmas.Option.{same_Some, slice_get_within, slice_get-get_or, get_or_from_slice_get, slice_get-map}
use Rattle.std.proofs.Math.Seq.{drop-cons}
use Rattle.sgt_names.proofs.Places.{All_at, All-from_at, Contains_at, take-next}

-- ---- options

pub option_cases : {A : Type 0} (o : Option A) → (o ≡ None) ⊎ ((x : A) × (o ≡ Some x))
option_cases None = inl refl
option_cases (Some x) = inr (x, refl)

pub IsSome-value : {A : Type 0} (o : Option A) → IsSome o → (x : A) × (o ≡ Some x)
IsSome-value None is = absurd cc
IsSome-value (Some x) is = (x, refl)

-- ---- heads, tails and ends

pub heads : {A : Type 0} (x y : A) (xs ys : List A) → x ∷ xs ≡ y ∷ ys → x ≡ y
heads x y xs ys same = same_Some x y (ap (λ zs. slice_get zs 0) same)

pub tails : {A : Type 0} (x y : A) (xs ys : List A) → x ∷ xs ≡ y ∷ ys → xs ≡ ys
tails x y xs ys same = ap (λ zs. drop 1 zs) same

pub list_cases : {A : Type 0} (xs : List A) → (xs ≡ []) ⊎ ((x : A) × (ys : List A) × (xs ≡ x ∷ ys))
list_cases [] = inl refl
list_cases (x ∷ xs) = inr (x, xs, refl)

pub last_or-append : {A : Type 0} (o : Option A) (xs ys : List A) → last_or o (xs ++ ys) ≡ last_or (last_or o xs) ys
last_or-append o [] ys = refl
last_or-append o (x ∷ xs) ys = last_or-append (Some x) xs ys

-- ---- what stands at a place

-- the element that a loop has read
pub element_at : {A : Type 0} (xs : List A) (n : ℕ) (x : A) → n < length xs → x ≡ get_or xs n x
    → slice_get xs n ≡ Some x
element_at xs n x within is = slice_get-get_or xs n x within ∙ ap Some (sym is)

-- a place within a list has an element
pub within_at : {A : Type 0} (xs : List A) (n : ℕ) → n < length xs → (x : A) × (slice_get xs n ≡ Some x)
within_at [] n within = absurd (omega arith)
within_at (x ∷ xs) zero within = (x, refl)
within_at (x ∷ xs) (suc n) within = within_at xs n (omega arith)

-- in a list of two parts
pub front_at : {A : Type 0} (xs ys : List A) (n : ℕ) (x : A) → slice_get xs n ≡ Some x → slice_get (xs ++ ys) n ≡ Some x
front_at [] ys n x at = absurd cc
front_at (y ∷ xs) ys zero x at = at
front_at (y ∷ xs) ys (suc n) x at = front_at xs ys n x at

pub back_at : {A : Type 0} (xs ys : List A) (n : ℕ) → slice_get (xs ++ ys) (length xs + n) ≡ slice_get ys n
back_at [] ys n = ap (slice_get ys) (omega arith)
back_at (x ∷ xs) ys n = ap (slice_get (x ∷ (xs ++ ys))) (let e : suc (length xs) + n ≡ suc (length xs + n) =
    omega arith in e) ∙ back_at xs ys n

pub middle_at : {A : Type 0} (xs : List A) (y : A) (ys : List A) → slice_get (xs ++ y ∷ ys) (length xs) ≡ Some y
middle_at [] y ys = refl
middle_at (x ∷ xs) y ys = middle_at xs y ys

-- in a list that is mapped
pub map_at : {A B : Type 0} (f : A → B) (xs : List A) (n : ℕ) (y : B) → slice_get (map f xs) n ≡ Some y
    → (x : A) × (slice_get xs n ≡ Some x) × (f x ≡ y)
map_at f [] n y at = absurd cc
map_at f (x ∷ xs) zero y at = (x, refl, same_Some (f x) y at)
map_at f (x ∷ xs) (suc n) y at = map_at f xs n y at

-- a loop's rest and front, one place further
pub drop_next : {A : Type 0} (xs : List A) (n : ℕ) (x : A) → slice_get xs n ≡ Some x → drop n xs ≡ x ∷ drop (n + 1) xs
drop_next xs n x at = drop-cons xs n x (slice_get_within xs n x at)
    ∙ ap₂ (λ y m. y ∷ drop m xs) (get_or_from_slice_get xs n x x at) (sym (add-one n))

pub take_next : {A : Type 0} (xs : List A) (n : ℕ) (x : A) → slice_get xs n ≡ Some x
    → take (n + 1) xs ≡ take n xs ++ x ∷ []
take_next xs n x at = ap (λ m. take m xs) (add-one n) ∙ take-next xs n x at

-- ---- a fact about all elements, or about one

pub All_in : {A : Type 0} (P : A → Type 0) (xs : List A) (x : A) → All P xs → Contains xs x → P x
All_in P xs x all c = let at = Contains_at xs x c in All_at P xs at.0 x all at.1

pub All-weaken : {A : Type 0} (P Q : A → Type 0) (xs : List A) → ((x : A) → P x → Q x) → All P xs → All Q xs
All-weaken P Q xs f all = λ n d within. f (get_or xs n d) (all n d within)

pub Any_at : {A : Type 0} (P : A → Type 0) (xs : List A) → Any P xs → (n : ℕ) × (x : A) × (slice_get xs n ≡ Some x)
    × P x
Any_at P xs any = (any.0, any.1, slice_get-get_or xs any.0 any.1 any.2 ∙ ap Some any.3, any.4)

pub Any-from_at : {A : Type 0} (P : A → Type 0) (xs : List A) (n : ℕ) (x : A) → slice_get xs n ≡ Some x → P x → Any P xs
Any-from_at P xs n x at p = (n, x, slice_get_within xs n x at, get_or_from_slice_get xs n x x at, p)

-- of a loop's front, one place further, and at its end
pub All-next : {A : Type 0} (P : A → Type 0) (xs : List A) (n : ℕ) (x : A) → slice_get xs n ≡ Some x → P x
    → All P (take n xs) → All P (take (n + 1) xs)
All-next P xs n x at p all = subst (All P) (sym (take_next xs n x at)) (All-push P (take n xs) x all p)

pub All-whole : {A : Type 0} (P : A → Type 0) (xs : List A) (n : ℕ) → length xs ≤ n → All P (take n xs) → All P xs
All-whole P xs n most all = subst (All P) (take_all n xs most) all

-- of a list that is mapped
pub All-map : {A B : Type 0} (P : B → Type 0) (f : A → B) (xs : List A) → All P (map f xs) → All (λ x. P (f x)) xs
All-map P f xs all =
    All-from_at (λ x. P (f x)) xs (λ n x at. All_at P (map f xs) n (f x) all (slice_get-map f xs n
    ∙ ap (option_map f) at))

pub All-from_map : {A B : Type 0} (P : B → Type 0) (f : A → B) (xs : List A) → All (λ x. P (f x)) xs → All P (map f xs)
All-from_map P f xs all = All-from_at P (map f xs) (λ n y at. let x = map_at f xs n y at in
    subst P x.2 (All_at (λ x. P (f x)) xs n x.0 all x.1))

pub AllByRecursion-append : {A : Type 0} (P : A → Type 0) (xs ys : List A) → AllByRecursion P xs → AllByRecursion P ys
    → AllByRecursion P (xs ++ ys)
AllByRecursion-append P [] ys front back = back
AllByRecursion-append P (x ∷ xs) ys front back = (front.0, AllByRecursion-append P xs ys front.1 back)

-- ---- what is chosen of a list

pub filter_map-none : {A B : Type 0} (f : A → Option B) (xs : List A)
    → ((n : ℕ) (x : A) → slice_get xs n ≡ Some x → f x ≡ None) → filter_map f xs ≡ []
filter_map-none f [] none = refl
filter_map-none f (x ∷ xs) none = let e = none 0 x refl in rw e (filter_map-none f xs (λ n y at. none (suc n) y at))
