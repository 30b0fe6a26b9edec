-- Elements and keys, one after another.
use Rattle.std.proofs.Common.{◌≡◌, ◌≢◌, inl, inr, ◌⊎◌, ℕ, zero, suc, ◌+◌, ◌<◌, ◌≤◌, Bool, true, false, cond, List, [], ◌∷◌, Some, refl, sym, ap, ◌∙◌, subst, arith, length, Contains}
use Rattle.std.specs.Prelude.{slice_get}
use Rattle.std.specs.Ordering.{nat_cmp, is_eq}
use Rattle.std.specs.Cmp.{nat_cmp_is}
use Rattle.std.specs.Cmp.Lexicographic.{slice_cmp}
use Rattle.std.specs.Str.{bytes_eq}
use Rattle.std.specs.declared.cmp.Ordering.TheVariants.{Less, Greater}
use Rattle.std.proofs.lemmas.Bool.{cases_eq, cases_order}
use Rattle.std.proofs.lemmas.Map.Text.{is_eq-slice_cmp}
use Rattle.std.proofs.lemmas.Slice.Eq.{bytes_eq-Decides}
use Rattle.std.proofs.lemmas.Option.{same_Some, slice_get_within}
use Rattle.sgt_names.proofs.Places.{Contains_at, Contains-from_at}
use Rattle.sgt_names.proofs.Elements.{nat_cmp-other, bool_cases}

-- what holds of the first n elements and of the one at n holds of one more
pub at_more : {A : Type 0} (P : A → Type 0) (xs : List A) (n : ℕ) (a : A) → slice_get xs n ≡ Some a → P a
    → ((k : ℕ) (x : A) → k < n → slice_get xs k ≡ Some x → P x) → (k : ℕ) (x : A) → k < n + 1
    → slice_get xs k ≡ Some x → P x
at_more P xs n a at here before k x lt at_k =
    elim (cases_eq k n) [
      | inl last ↦ subst P (same_Some a x (sym at ∙ ap (slice_get xs) (sym last) ∙ at_k)) here
      | inr other ↦ before k x (omega arith) at_k
    ]

-- what holds of all that stand before the end holds of each element
pub each-in : {A : Type 0} (P : A → Type 0) (xs : List A) (n : ℕ) → length xs ≤ n
    → ((k : ℕ) (x : A) → k < n → slice_get xs k ≡ Some x → P x) → (x : A) → Contains xs x → P x
each-in P xs n all each x has =
    let at = Contains_at xs x has in
    let within = slice_get_within xs at.0 x at.1 in
    each at.0 x (omega (arith, within, all)) at.1

pub cond-true : (b c : Bool) → c ≡ true → cond b true c ≡ true
cond-true true c h = refl
cond-true false c h = h

-- two names are the same, or their order tells them apart
pub same-or-other : (xs ys : List ℕ) → (xs ≡ ys) ⊎ (is_eq (slice_cmp nat_cmp xs ys) ≡ false)
same-or-other xs ys =
    elim (bool_cases (bytes_eq xs ys)) [
      | inl same ↦ inl ((bytes_eq-Decides xs ys).0 same)
      | inr other ↦ inr (is_eq-slice_cmp xs ys ∙ other)
    ]

-- ---- members of a list of numbers

at-cons : (x : ℕ) (xs : List ℕ) (t k : ℕ) → slice_get (x ∷ xs) k ≡ Some t → (x ≡ t) ⊎ Contains xs t
at-cons x xs t zero at = inl (same_Some x t at)
at-cons x xs t (suc k) at = inr (Contains-from_at xs k t at)

in-cons : (x : ℕ) (xs : List ℕ) (t : ℕ) → Contains (x ∷ xs) t → (x ≡ t) ⊎ Contains xs t
in-cons x xs t has = let at = Contains_at (x ∷ xs) t has in at-cons x xs t at.0 at.1

in-none : (t : ℕ) → Contains [] t → ⊥
in-none t has = let at = Contains_at [] t has in let within = slice_get_within [] at.0 t at.1 in omega (arith, within)

pub contains_cases : (xs : List ℕ) (t : ℕ) → Contains xs t ⊎ (Contains xs t → ⊥)
contains_cases [] t = inr (in-none t)
contains_cases (x ∷ xs) t =
    elim (cases_eq x t) [
      | inl here ↦ inl (Contains-from_at (x ∷ xs) 0 t (ap Some here))
      | inr other ↦
          elim (contains_cases xs t) [
            | inl later ↦ let at = Contains_at xs t later in inl (Contains-from_at (x ∷ xs) (suc at.0) t at.1)
            | inr none ↦ inr (λ has. elim (in-cons x xs t has) [ inl here ↦ other here | inr later ↦ none later ])
          ]
    ]

-- the only member of a list of one
pub only-one : (x t : ℕ) → Contains (x ∷ []) t → t ≡ x
only-one x t has = elim (in-cons x [] t has) [ inl same ↦ sym same | inr none ↦ absurd (in-none t none) ]

pub the-one : (x t : ℕ) → t ≡ x → Contains (x ∷ []) t
the-one x t is = Contains-from_at (x ∷ []) 0 t (ap Some (sym is))
