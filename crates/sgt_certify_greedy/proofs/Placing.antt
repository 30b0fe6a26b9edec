-- Transactions are put into their order one by one.
use Rattle.std.proofs.Common.{◌≡◌, ◌≢◌, ℕ, zero, suc, ◌<◌, List, [], ◌∷◌, ◌++◌, Some, take, length, refl, sym, ap, ◌∙◌, subst, arith, inl, inr, ◌⊎◌, AllPairs, Contains}
use Rattle.std.specs.Prelude.{slice_get}
use Rattle.std.proofs.lemmas.Bool.{cases_eq, cases_lt}
use Rattle.std.proofs.lemmas.Option.{same_Some, slice_get_within}
use Rattle.std.proofs.lemmas.List.{take_all, take-append-le}
use Rattle.std.proofs.lemmas.List.Elements.{Contains-append_left, Contains-push, Contains-push_cases}
use Rattle.sgt_names.proofs.Places.{AllPairs_at, AllPairs-from_at, Contains-from_at, slice_get-take_at}
use Rattle.sgt_names.proofs.Lists.{middle_at, front_at}
use Rattle.sgt_certify_greedy.specs.Sorted.{IsOrdered, without}
use Rattle.sgt_certify_greedy.specs.Decided.{OnFronts}
use Rattle.sgt_certify_greedy.proofs.Elements.{without-has, without-only}
use Rattle.sgt_names.proofs.Elements.{contains-none}

-- a place in a list with one more: it is in the list, or it is the last
pub pushed_at : {A : Type 0} (xs : List A) (x : A) (n : ℕ) (y : A) → slice_get (xs ++ x ∷ []) n ≡ Some y
    → ((n < length xs) × (slice_get xs n ≡ Some y)) ⊎ ((n ≡ length xs) × (x ≡ y))
pushed_at [] x zero y at = inr (refl, same_Some x y at)
pushed_at [] x (suc n) y at = absurd cc
pushed_at (z ∷ xs) x zero y at = inl (omega arith, at)
pushed_at (z ∷ xs) x (suc n) y at =
    elim (pushed_at xs x n y at) [
      | inl in_front ↦ inl (omega (arith, in_front.0), in_front.1)
      | inr last ↦ inr (ap suc last.0, last.1)
    ]

pub fronts-none : {A : Type 0} (P : List A → A → Type 0) → OnFronts P []
fronts-none P n x at = absurd cc

pub fronts-push : {A : Type 0} (P : List A → A → Type 0) (xs : List A) (x : A) → OnFronts P xs → P xs x
    → OnFronts P (xs ++ x ∷ [])
fronts-push P xs x each this n y at =
    elim (pushed_at xs x n y at) [
      | inl in_front ↦ subst (λ f. P f y) (sym (take-append-le n xs (x ∷ []) (omega (arith, in_front.0))))
          (each n y in_front.1)
      | inr last ↦
          let whole : take n (xs ++ x ∷ []) ≡ xs = take-append-le n xs (x ∷ []) (omega (arith, last.0))
          ∙ take_all n xs (omega (arith, last.0)) in
          subst (λ f. P f y) (sym whole) (subst (P xs) last.1 this)
    ]

-- it isn't in front, and all that are in the relation to it are
pub record IsNext (R : ℕ → ℕ → Type 0) (txs front : List ℕ) (t : ℕ) : Type 0 where
  pub new : Contains front t → ⊥
  pub behind : (a : ℕ) → Contains txs a → R a t → Contains front a

-- some are left, the others stand in the order
pub record IsPlacing (R : ℕ → ℕ → Type 0) (txs left order : List ℕ) : Type 0 where
  pub all : (t : ℕ) → Contains txs t → Contains left t ⊎ Contains order t
  pub left_only : (t : ℕ) → Contains left t → Contains txs t
  pub only : (t : ℕ) → Contains order t → Contains txs t
  pub apart : (t : ℕ) → Contains left t → Contains order t → ⊥
  pub each : OnFronts (IsNext R txs) order

pub none-placed : (R : ℕ → ℕ → Type 0) (txs left order : List ℕ) → left ≡ txs → order ≡ [] → IsPlacing R txs left order
none-placed R txs left order same none =
    let out = λ (t : ℕ) (has : Contains order t). contains-none t (subst (λ xs. Contains xs t) none has) in
    record {
      all = λ t has. inl (subst (λ xs. Contains xs t) (sym same) has);
      left_only = λ t has. subst (λ xs. Contains xs t) same has;
      only = λ t has. absurd (out t has);
      apart = λ t _ has. out t has;
      each = subst (OnFronts (IsNext R txs)) (sym none) (fronts-none (IsNext R txs));
    }

pub next-placed : (R : ℕ → ℕ → Type 0) (txs left order : List ℕ) (t : ℕ) → IsPlacing R txs left order → Contains left t
    → ((a : ℕ) → Contains left a → R a t → ⊥) → IsPlacing R txs (without t left) (order ++ t ∷ [])
next-placed R txs left order t had here free = record {
  all = λ u has.
      elim (had.all u has) [
        | inr placed ↦ inr (Contains-append_left order (t ∷ []) u placed)
        | inl rest ↦
            elim (cases_eq u t) [
              | inl same ↦ inr (subst (Contains (order ++ t ∷ [])) (sym same) (Contains-push order t))
              | inr other ↦ inl (without-has t left u rest other)
            ]
      ];
  left_only = λ u has. had.left_only u (without-only t left u has).0;
  only = λ u has.
      elim (Contains-push_cases order t u has) [
        | inl placed ↦ had.only u placed
        | inr last ↦ subst (Contains txs) last (had.left_only t here)
      ];
  apart = λ u rest placed.
      let by = without-only t left u rest in
      elim (Contains-push_cases order t u placed) [
        | inl front ↦ had.apart u by.0 front
        | inr last ↦ by.1 (sym last)
      ];
  each = fronts-push (IsNext R txs) order t had.each (record {
    new = λ placed. had.apart t here placed;
    behind = λ a has leads.
        elim (had.all a has) [
          | inl rest ↦ absurd (free a rest leads)
          | inr placed ↦ placed
        ];
  });
}

pub all-placed : (R : ℕ → ℕ → Type 0) (txs left order : List ℕ) → IsPlacing R txs left order → left ≡ []
    → IsOrdered R txs order
all-placed R txs left order had none = record {
  all = λ t has.
      elim (had.all t has) [
        | inl rest ↦ absurd (contains-none t (subst (λ xs. Contains xs t) none rest))
        | inr placed ↦ placed
      ];
  only = had.only;
  once = AllPairs-from_at (λ a b. a ≢ b) order (λ p q a b lt at_p at_q same.
      (had.each q b at_q).new (front-has order p q a b lt at_p same));
  behind = λ n a b at has leads. (had.each n b at).behind a has leads;
}
  where
    front-has : (xs : List ℕ) (p q a b : ℕ) → p < q → slice_get xs p ≡ Some a → a ≡ b → Contains (take q xs) b
    front-has xs p q a b lt at same =
        Contains-from_at (take q xs) p b (slice_get-take_at xs q p b lt (at ∙ ap Some same))
