-- Facts of which it is known whether they hold: how they are put together, and found by a search through what is
-- finite.
use Rattle.std.proofs.Common.{◌≡◌, ℕ, zero, suc, ◌<◌, ◌≤◌, Bool, true, false, IsTrue, List, [], ◌∷◌, Option, Some, None, refl, sym, ap, ◌∙◌, subst, arith, inl, inr, ◌⊎◌, All, Any, AllPairs, Contains}
use Rattle.std.specs.Prelude.{slice_get}
use Rattle.std.specs.Option.{ForSome}
use Rattle.std.specs.Str.{bytes_eq}
use Rattle.std.proofs.lemmas.Bool.{cases_eq, cases_lt, false≢true}
use Rattle.std.proofs.lemmas.Option.{same_Some}
use Rattle.std.proofs.lemmas.Slice.Eq.{bytes_eq-Decides}
use Rattle.sgt_names.proofs.Places.{All_at, All-from_at, AllPairs_at, AllPairs-from_at, Contains_at, Contains-from_at}
use Rattle.sgt_names.proofs.Lists.{Any_at, Any-from_at}

-- it holds, or it doesn't
abbrev pub Decidable : Type 0 → Type 0
Decidable A = A ⊎ (A → ⊥)

-- ---- two facts

pub decidable-as : {A B : Type 0} → (A → B) → (B → A) → Decidable A → Decidable B
decidable-as f g (inl a) = inl (f a)
decidable-as f g (inr never) = inr (λ b. never (g b))

pub decidable-not : {A : Type 0} → Decidable A → Decidable (A → ⊥)
decidable-not (inl a) = inr (λ f. f a)
decidable-not (inr never) = inl never

pub decidable-both : {A B : Type 0} → Decidable A → Decidable B → Decidable (A × B)
decidable-both (inl a) (inl b) = inl (a, b)
decidable-both (inl a) (inr never) = inr (λ p. never p.1)
decidable-both (inr never) b = inr (λ p. never p.0)

pub decidable-three : {A B C : Type 0} → Decidable A → Decidable B → Decidable C → Decidable (A × B × C)
decidable-three a b c =
    decidable-as (λ p. (p.0, p.1.0, p.1.1)) (λ p. (p.0, (p.1, p.2))) (decidable-both a (decidable-both b c))

pub decidable-either : {A B : Type 0} → Decidable A → Decidable B → Decidable (A ⊎ B)
decidable-either (inl a) b = inl (inl a)
decidable-either (inr never) (inl b) = inl (inr b)
decidable-either (inr never) (inr none) = inr (λ s. elim s [ inl a ↦ never a | inr b ↦ none b ])

-- the second is asked for only where the first holds
pub decidable-if : {A B : Type 0} → Decidable A → (A → Decidable B) → Decidable (A → B)
decidable-if (inl a) b = after a (b a)
  where
    after : {A B : Type 0} → A → Decidable B → Decidable (A → B)
    after a (inl b) = inl (λ x. b)
    after a (inr never) = inr (λ f. never (f a))
decidable-if (inr never) b = inl (λ a. absurd (never a))

-- one way after another
pub or_else : {A C : Type 0} → Decidable A → (A → C) → ((A → ⊥) → Decidable C) → Decidable C
or_else (inl a) found next = inl (found a)
or_else (inr never) found next = next never

-- ---- tests, numbers and texts

pub decidable-test : (b : Bool) → Decidable (IsTrue b)
decidable-test true = inl refl
decidable-test false = inr false≢true

pub decidable-less : (m n : ℕ) → Decidable (m < n)
decidable-less m n = elim (cases_lt m n) [ inl lt ↦ inl lt | inr le ↦ inr (λ lt. omega arith) ]

pub decidable-most : (m n : ℕ) → Decidable (m ≤ n)
decidable-most m n = elim (cases_lt n m) [ inl lt ↦ inr (λ le. omega arith) | inr le ↦ inl le ]

pub decidable-text : (xs ys : List ℕ) → Decidable (xs ≡ ys)
decidable-text xs ys =
    decidable-as (bytes_eq-Decides xs ys).0 (bytes_eq-Decides xs ys).1 (decidable-test (bytes_eq xs ys))

-- an option has this value
pub decidable-value : {A : Type 0} → ((x y : A) → Decidable (x ≡ y)) → (o : Option A) (y : A) → Decidable (o ≡ Some y)
decidable-value same None y = inr (λ e. cc)
decidable-value same (Some x) y = decidable-as (λ e. ap Some e) (λ e. same_Some x y e) (same x y)

pub decidable-ForSome : {A : Type 0} (P : A → Type 0) → ((x : A) → Decidable (P x)) → (o : Option A)
    → Decidable (ForSome o P)
decidable-ForSome P each None = inl (λ x e. absurd cc)
decidable-ForSome P each (Some x) = decidable-as (λ p y e. subst P (same_Some x y e) p) (λ all. all x refl) (each x)

-- ---- lists

-- an element at its place
pub decidable-found : {A : Type 0} (P : ℕ → A → Type 0) → ((n : ℕ) (x : A) → Decidable (P n x)) → (xs : List A)
    → Decidable ((n : ℕ) × (x : A) × (slice_get xs n ≡ Some x) × P n x)
decidable-found P each [] = inr (λ h. let e = h.2 in cc)
decidable-found P each (x ∷ xs) =
    found-in P x xs (each zero x) (decidable-found (λ n. P (suc n)) (λ n. each (suc n)) xs)
  where
    found-in : {A : Type 0} (P : ℕ → A → Type 0) (x : A) (xs : List A) → Decidable (P zero x)
        → Decidable ((n : ℕ) × (y : A) × (slice_get xs n ≡ Some y) × P (suc n) y)
        → Decidable ((n : ℕ) × (y : A) × (slice_get (x ∷ xs) n ≡ Some y) × P n y)
    found-in P x xs (inl p) later = inl (zero, x, refl, p)
    found-in P x xs (inr never) (inl (n, y, at, p)) = inl (suc n, y, at, p)
    found-in {A} P x xs (inr never) (inr none) = inr (λ h. nowhere h.0 h.1 h.2 h.3)
      where
        nowhere : (n : ℕ) (y : A) → slice_get (x ∷ xs) n ≡ Some y → P n y → ⊥
        nowhere zero y at p = never (subst (P zero) (sym (same_Some x y at)) p)
        nowhere (suc n) y at p = none (n, y, at, p)

-- each element at its place
pub decidable-each : {A : Type 0} (P : ℕ → A → Type 0) → ((n : ℕ) (x : A) → Decidable (P n x)) → (xs : List A)
    → Decidable ((n : ℕ) (x : A) → slice_get xs n ≡ Some x → P n x)
decidable-each P each xs = elim (decidable-found (λ n x. P n x → ⊥) (λ n x. decidable-not (each n x)) xs) [
  | inl (n, x, at, never) ↦ inr (λ all. never (all n x at))
  | inr none ↦ inl (λ n x at. elim (each n x) [ inl p ↦ p | inr never ↦ absurd (none (n, x, at, never)) ])
]

pub decidable-All : {A : Type 0} (P : A → Type 0) → ((x : A) → Decidable (P x)) → (xs : List A) → Decidable (All P xs)
decidable-All P each xs =
    decidable-as (All-from_at P xs) (λ all n x at. All_at P xs n x all at)
    (decidable-each (λ n x. P x) (λ n x. each x) xs)

pub decidable-Any : {A : Type 0} (P : A → Type 0) → ((x : A) → Decidable (P x)) → (xs : List A) → Decidable (Any P xs)
decidable-Any P each xs =
    decidable-as (λ h. Any-from_at P xs h.0 h.1 h.2 h.3) (Any_at P xs) (decidable-found (λ n x. P x) (λ n x. each x) xs)

pub decidable-AllPairs : {A : Type 0} (R : A → A → Type 0) → ((x y : A) → Decidable (R x y)) → (xs : List A)
    → Decidable (AllPairs R xs)
decidable-AllPairs R each xs =
    decidable-as (λ all. AllPairs-from_at R xs (λ p q x y lt f g. all p x f q y g lt))
    (λ all p x f q y g lt. AllPairs_at R xs p q x y all lt f g)
    (decidable-each (λ p x. (q : ℕ) (y : _) → slice_get xs q ≡ Some y → p < q → R x y)
    (λ p x. decidable-each (λ q y. p < q → R x y) (λ q y. decidable-if (decidable-less p q) (λ lt. each x y)) xs) xs)

pub decidable-Contains : {A : Type 0} → ((x y : A) → Decidable (x ≡ y)) → (xs : List A) (x : A)
    → Decidable (Contains xs x)
decidable-Contains same xs x =
    decidable-as (λ h. Contains-from_at xs h.0 x (h.2 ∙ ap Some h.3)) (λ c. let at = Contains_at xs x c in
    (at.0, x, at.1, refl))
    (decidable-found (λ n y. y ≡ x) (λ n y. same y x) xs)

-- ---- searches

-- whatever is looked for among these values, it is found or is none of them
abbrev pub IsSearched : (A : Type 0) → (A → Type 0) → Type 1
IsSearched A Is = (Q : A → Type 0) → ((a : A) → Decidable (Q a)) → Decidable ((a : A) × Is a × Q a)

-- the numbers below a limit
pub searched-below : (limit : ℕ) → IsSearched ℕ (λ n. n < limit)
searched-below zero Q each = inr (λ h. let lt = h.1 in omega arith)
searched-below (suc limit) Q each = up-to limit Q (each limit) (searched-below limit Q each)
  where
    up-to : (limit : ℕ) (Q : ℕ → Type 0) → Decidable (Q limit) → Decidable ((n : ℕ) × (n < limit) × Q n)
        → Decidable ((n : ℕ) × (n < suc limit) × Q n)
    up-to limit Q (inl q) below = inl (limit, omega arith, q)
    up-to limit Q (inr never) (inl (n, lt, q)) = inl (n, omega arith, q)
    up-to limit Q (inr never) (inr none) = inr (λ h. neither h.0 h.1 h.2)
      where
        neither : (n : ℕ) → n < suc limit → Q n → ⊥
        neither n lt q = elim (cases_eq n limit) [
          | inl same ↦ never (subst Q same q)
          | inr other ↦ none (n, omega arith, q)
        ]

-- those of which more is known
pub searched-where : {A : Type 0} (P Is : A → Type 0) → IsSearched A P → ((a : A) → Decidable (Is a))
    → ((a : A) → Is a → P a) → IsSearched A Is
searched-where P Is search each within Q so =
    decidable-as (λ h. (h.0, h.2.0, h.2.1)) (λ h. (h.0, within h.0 h.1, (h.1, h.2)))
    (search (λ a. Is a × Q a) (λ a. decidable-both (each a) (so a)))

pub searched-both : {A B : Type 0} (P : A → Type 0) (R : B → Type 0) → IsSearched A P → IsSearched B R
    → IsSearched (A × B) (λ p. P p.0 × R p.1)
searched-both {A} {B} P R first second Q each =
    decidable-as (λ h. ((h.0, h.2.0), (h.1, h.2.1), h.2.2)) (λ h. (h.0.0, h.1.0, (h.0.1, h.1.1, h.2)))
    (first (λ a. (b : B) × R b × Q (a, b)) (λ a. second (λ b. Q (a, b)) (λ b. each (a, b))))

-- what is made of such values
pub searched-made : {A B : Type 0} (P : A → Type 0) (R : B → Type 0) (f : A → B) → IsSearched A P
    → ((a : A) → P a → R (f a))
    → ((b : B) → R b → (a : A) × P a × (f a ≡ b)) → IsSearched B R
searched-made P R f search into back Q each =
    decidable-as (λ h. (f h.0, into h.0 h.1, h.2)) (λ h. let a = back h.0 h.1 in (a.0, a.1, subst Q (sym a.2) h.2))
    (search (λ a. Q (f a)) (λ a. each (f a)))

-- the lists of at most so many numbers, each of them below the limit
abbrev pub IsWithin : (limit most : ℕ) → List ℕ → Type 0
IsWithin limit most [] = Unit {0}
IsWithin limit zero (x ∷ xs) = ⊥
IsWithin limit (suc most) (x ∷ xs) = (x < limit) × IsWithin limit most xs

pub searched-lists : (limit most : ℕ) → IsSearched (List ℕ) (IsWithin limit most)
searched-lists limit zero Q each = decidable-as (λ q. ([], tt, q)) (λ h. nothing h.0 h.1 h.2) (each [])
  where
    nothing : (xs : List ℕ) → IsWithin limit zero xs → Q xs → Q []
    nothing [] is q = q
    nothing (x ∷ xs) is q = absurd is
searched-lists limit (suc most) Q each =
    empty_or (each [])
    (searched-both (λ x. x < limit) (IsWithin limit most) (searched-below limit) (searched-lists limit most)
    (λ p. Q (p.0 ∷ p.1)) (λ p. each (p.0 ∷ p.1)))
  where
    empty_or : Decidable (Q [])
        → Decidable ((p : ℕ × List ℕ) × ((p.0 < limit) × IsWithin limit most p.1) × Q (p.0 ∷ p.1))
        → Decidable ((xs : List ℕ) × IsWithin limit (suc most) xs × Q xs)
    empty_or (inl q) longer = inl ([], tt, q)
    empty_or (inr never) (inl (p, is, q)) = inl (p.0 ∷ p.1, is, q)
    empty_or (inr never) (inr none) = inr (λ h. neither h.0 h.1 h.2)
      where
        neither : (xs : List ℕ) → IsWithin limit (suc most) xs → Q xs → ⊥
        neither [] is q = never q
        neither (x ∷ xs) is q = none ((x, xs), is, q)
