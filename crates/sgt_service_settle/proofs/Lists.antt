-- Lists as a loop goes over them.
use Rattle.std.proofs.Common.{◌≡◌, ◌⊎◌, ◌≤◌, ℕ, ◌+◌, ◌<◌, List, [], ◌∷◌, ◌++◌, length, take, drop, get_or, Some, sym, ap, ◌∙◌, subst, arith, inl, inr, Contains, add-one}
use Rattle.std.specs.Prelude.{slice_get}
use Rattle.std.proofs.lemmas.List.{take_more, take_all}
use Rattle.std.proofs.lemmas.List.Elements.{Contains-append_cases, Contains-append_left, Contains-append_right}
use Rattle.std.proofs.Math.Seq.{drop-cons}
use Rattle.std.proofs.lemmas.Option.{slice_get-get_or, same_Some, slice_get_within}
use Rattle.std.proofs.lemmas.Bool.{cases_lt}
use Rattle.sgt_order.proofs.Lists.{get_take_next}
use Rattle.sgt_certifier.proofs.Members.{cons_here}
use Rattle.sgt_names.proofs.Lists.{element_at, drop_next, take_next}
use Rattle.sgt_names.proofs.Elements.{contains-cases, contains-none}

pub push_contains : {A : Type 0} (xs : List A) (a b : A) → Contains (xs ++ a ∷ []) b → Contains xs b ⊎ (a ≡ b)
push_contains xs a b c =
    elim (Contains-append_cases xs (a ∷ []) b c) [
      | inl old ↦ inl old
      | inr last ↦ elim (contains-cases a [] b last) [ inl same ↦ inr same | inr none ↦ absurd (contains-none b none) ]
    ]

pub push_old : {A : Type 0} (xs : List A) (a b : A) → Contains xs b → Contains (xs ++ a ∷ []) b
push_old xs a b c = Contains-append_left xs (a ∷ []) b c

pub push_new : {A : Type 0} (xs : List A) (a : A) → Contains (xs ++ a ∷ []) a
push_new xs a = Contains-append_right xs (a ∷ []) a (cons_here a [])

-- a place that was gone over is an earlier one, or the last
pub before_or_here : {A : Type 0} (xs : List A) (n q : ℕ) (a b : A) → slice_get xs n ≡ Some a
    → slice_get xs q ≡ Some b → q < n + 1 → (q < n) ⊎ ((n ≡ q) × (a ≡ b))
before_or_here xs n q a b here at low =
    elim (cases_lt q n) [
      | inl early ↦ inl early
      | inr late ↦
          let same : n ≡ q = omega (arith, low, late) in
          inr (same, same_Some a b (sym here ∙ (ap (slice_get xs) same ∙ at)))
    ]
