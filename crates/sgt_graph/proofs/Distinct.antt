-- How many numbers there are where no two are the same.
use Rattle.std.proofs.Common.{◌≡◌, ◌≢◌, inl, inr, ℕ, zero, suc, ◌+◌, ◌<◌, ◌≤◌, List, [], ◌∷◌, ◌++◌, Some, length, get_or, refl, sym, ap, ◌∙◌, subst, arith, All, AllPairs, Contains}
use Rattle.std.specs.Prelude.{nat_eq, slice_get}
use Rattle.std.specs.Cmp.{nat_eq_equiv, unsigned_Decides}
use Rattle.std.specs.List.{list_any, range_with_len}
use Rattle.std.proofs.lemmas.Bool.{cases_order, true≢false}
use Rattle.std.proofs.lemmas.List.{length_push}
use Rattle.std.proofs.lemmas.List.FromFn.{get_or-range_with_len, length-range_with_len}
use Rattle.std.proofs.lemmas.Map.Made.{IsDistinct-from_AllPairs, is_member-Decides, length-le_from_is_member}
use Rattle.std.proofs.lemmas.Map.Steps.{length-le_from_distinct_below}
use Rattle.std.proofs.lemmas.Option.{same_Some, slice_get_within}
use Rattle.sgt_names.proofs.Places.{AllPairs_at, AllPairs-from_at, All-from_at, Contains-from_at}
use Rattle.sgt_names.proofs.Lists.{All_in}
use Rattle.sgt_names.proofs.Elements.{bool_cases, contains-cases, get-push_cases}

-- each stands at one place
pub one-place : (xs : List ℕ) (p q a : ℕ) → AllPairs (λ a b. a ≢ b) xs → slice_get xs p ≡ Some a
    → slice_get xs q ≡ Some a → p ≡ q
one-place xs p q a apart at_p at_q =
    elim (cases_order p q) [
      | inl same ↦ same
      | inr (inl less) ↦ absurd (AllPairs_at (λ a b. a ≢ b) xs p q a a apart less at_p at_q refl)
      | inr (inr more) ↦ absurd (AllPairs_at (λ a b. a ≢ b) xs q p a a apart more at_q at_p refl)
    ]

pub apart-from_once : (xs : List ℕ)
    → ((i j v : ℕ) → slice_get xs i ≡ Some v → slice_get xs j ≡ Some v → i ≡ j) → AllPairs (λ a b. a ≢ b) xs
apart-from_once xs once = AllPairs-from_at (λ a b. a ≢ b) xs (λ p q a b lt at_p at_q same.
    absurd (omega (arith, lt, once p q b (at_p ∙ ap Some same) at_q)))

pub apart-push : (xs : List ℕ) (y : ℕ) → AllPairs (λ a b. a ≢ b) xs → (Contains xs y → ⊥)
    → AllPairs (λ a b. a ≢ b) (xs ++ y ∷ [])
apart-push xs y apart new = AllPairs-from_at (λ a b. a ≢ b) (xs ++ y ∷ []) (λ p q a b lt at_p at_q same.
    elim (get-push_cases xs y p a at_p) [
      | inr last ↦
          let within = slice_get_within (xs ++ y ∷ []) q b at_q in
          absurd (omega (arith, lt, last.0, within, length_push xs y))
      | inl here ↦
          elim (get-push_cases xs y q b at_q) [
            | inl there ↦ AllPairs_at (λ a b. a ≢ b) xs p q a b apart lt here there same
            | inr last ↦ new (subst (Contains xs) (same ∙ sym last.1) (Contains-from_at xs p a here))
          ]
    ])

-- distinct numbers that all stand in a list are no more than it has
pub distinct-within : (xs ys : List ℕ) → AllPairs (λ a b. a ≢ b) xs → ((t : ℕ) → Contains xs t → Contains ys t)
    → length xs ≤ length ys
distinct-within xs ys apart within =
    length-le_from_is_member nat_eq_equiv xs ys (IsDistinct-from_AllPairs unsigned_Decides xs apart)
    (λ q has. (is_member-Decides unsigned_Decides ys q).1 (within q ((is_member-Decides unsigned_Decides xs q).0 has)))

-- distinct numbers below n are at most n
pub distinct-below : (n : ℕ) (xs : List ℕ) → AllPairs (λ a b. a ≢ b) xs → All (λ t. t < n) xs → length xs ≤ n
distinct-below n xs apart below =
    length-le_from_distinct_below xs n (IsDistinct-from_AllPairs unsigned_Decides xs apart)
    (λ q has. All_in (λ t. t < n) xs q below ((is_member-Decides unsigned_Decides xs q).0 has))

-- a list that has all numbers below n has n of them
pub all-below : (n : ℕ) (xs : List ℕ) → ((v : ℕ) → v < n → Contains xs v) → n ≤ length xs
all-below n xs all =
    let most = distinct-within (range_with_len 0 n) xs (λ i j d lt within same.
    omega (
      arith,
      lt,
      same,
      within,
      length-range_with_len 0 n,
      get_or-range_with_len 0 n i d (omega (arith, lt, within, length-range_with_len 0 n)),
      get_or-range_with_len 0 n j d (omega (arith, within, length-range_with_len 0 n)),
    ))
    (λ t has. all t (omega (
      arith,
      has.1,
      has.2,
      length-range_with_len 0 n,
      get_or-range_with_len 0 n has.0 t (omega (arith, has.1, length-range_with_len 0 n)),
    ))) in
    omega (arith, most, length-range_with_len 0 n)

apart-cons : (v : ℕ) (xs : List ℕ) → (Contains xs v → ⊥) → AllPairs (λ a b. a ≢ b) xs
    → AllPairs (λ a b. a ≢ b) (v ∷ xs)
apart-cons v xs none apart = AllPairs-from_at (λ a b. a ≢ b) (v ∷ xs) differ
  where
    differ : (p q a b : ℕ) → p < q → slice_get (v ∷ xs) p ≡ Some a → slice_get (v ∷ xs) q ≡ Some b → a ≢ b
    differ zero zero a b lt at_p at_q same = absurd (omega (arith, lt))
    differ (suc p) zero a b lt at_p at_q same = absurd (omega (arith, lt))
    differ zero (suc q) a b lt at_p at_q same =
        none (subst (Contains xs) (sym same ∙ sym (same_Some v a at_p)) (Contains-from_at xs q b at_q))
    differ (suc p) (suc q) a b lt at_p at_q same =
        AllPairs_at (λ a b. a ≢ b) xs p q a b apart (omega (arith, lt)) at_p at_q same

-- n distinct numbers below n are all of them
pub all-from_length : (n : ℕ) (xs : List ℕ) → AllPairs (λ a b. a ≢ b) xs → All (λ t. t < n) xs → length xs ≡ n
    → (v : ℕ) → v < n → Contains xs v
all-from_length n xs apart below long v lt =
    elim (bool_cases (list_any (nat_eq v) xs)) [
      | inl has ↦ (is_member-Decides unsigned_Decides xs v).0 has
      | inr lacks ↦
          let none : Contains xs v → ⊥ = λ has. true≢false (sym ((is_member-Decides unsigned_Decides xs v).1 has) ∙ lacks) in
          let most = distinct-below n (v ∷ xs) (apart-cons v xs none apart) (All-from_at (λ t. t < n) (v ∷ xs) (λ k t at.
          elim (contains-cases v xs t (Contains-from_at (v ∷ xs) k t at)) [
            | inl here ↦ subst (λ (x : ℕ). x < n) here lt
            | inr there ↦ All_in (λ t. t < n) xs t below there
          ])) in
          absurd (omega (arith, most, long))
    ]
