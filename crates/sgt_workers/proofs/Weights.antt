-- What numbers weigh, added up over the passes.
use Rattle.std.proofs.Common.{◌≡◌, ◌≢◌, ℕ, zero, suc, ◌+◌, ◌-◌, ◌<◌, ◌≤◌, List, Some, refl, [], ◌∷◌, ◌++◌, set, sym, ap, ◌∙◌, subst, arith}
use Rattle.std.specs.Prelude.{slice_get}
use Rattle.std.proofs.lemmas.Option.{none-some, same_Some}
use Rattle.std.specs.List.{sum_by, range_with_len}
use Rattle.std.proofs.lemmas.List.Sums.{sum_by-cons, sum_by_push}
use mathlib.Core.Option.{some, some-ne-none, some-injective}
use mathlib.Core.Logic.{dite}
use native.Mathlib.Decide.{dec_le}
use lib.ListN.{get_elem?}
use Rattle.sgt_workers.specs.declared.ticket.Done.{Done}
use Rattle.sgt_workers.specs.Answers.{jobs_of}

module _ {X : Type 0} (f : X → ℕ) where
  -- one of the list gives way to another
  pub sum_set : (xs : List X) (i : ℕ) (x y : X) → get_elem? xs i ≡ some x
      → sum_by f (set xs i y) + f x ≡ sum_by f xs + f y
  sum_set [] i x y e = absurd (some-ne-none x (sym e))
  sum_set (a ∷ xs) zero x y e = omega (arith, sum_by-cons f y xs, sum_by-cons f a xs, ap f (some-injective a x e))
  sum_set (a ∷ xs) (suc i) x y e = omega (arith, sum_by-cons f a (set xs i y), sum_by-cons f a xs, sum_set xs i x y e)

  pub sum_has : (xs : List X) (i : ℕ) (x : X) → get_elem? xs i ≡ some x → f x ≤ sum_by f xs
  sum_has [] i x e = absurd (some-ne-none x (sym e))
  sum_has (a ∷ xs) zero x e = omega (arith, sum_by-cons f a xs, ap f (some-injective a x e))
  sum_has (a ∷ xs) (suc i) x e = omega (arith, sum_by-cons f a xs, sum_has xs i x e)

  sum_none : (xs : List X) → ((j : ℕ) (y : X) → get_elem? xs j ≡ some y → f y ≡ 0) → sum_by f xs ≡ 0
  sum_none [] none = refl
  sum_none (a ∷ xs) none = omega (arith, sum_by-cons f a xs, none 0 a refl, sum_none xs (λ j y e. none (suc j) y e))

  -- one of the list weighs, and no other
  pub sum_only : (xs : List X) (i : ℕ) (x : X) → get_elem? xs i ≡ some x
      → ((j : ℕ) (y : X) → j ≢ i → get_elem? xs j ≡ some y → f y ≡ 0) → sum_by f xs ≡ f x
  sum_only [] i x e none = absurd (some-ne-none x (sym e))
  sum_only (a ∷ xs) zero x e none =
      omega (
        arith,
        sum_by-cons f a xs,
        ap f (some-injective a x e),
        sum_none xs (λ j y g. none (suc j) y (λ s. absurd (omega (arith, s))) g),
      )
  sum_only (a ∷ xs) (suc i) x e none =
      omega (
        arith,
        sum_by-cons f a xs,
        none 0 a (λ s. absurd (omega (arith, s))) refl,
        sum_only xs i x e (λ j y other g. none (suc j) y (λ s. other (omega (arith, s))) g),
      )

  has_at : (xs : List X) (i : ℕ) (x : X) → slice_get xs i ≡ Some x → f x ≤ sum_by f xs
  has_at [] i x e = absurd (none-some x e)
  has_at (a ∷ xs) zero x e = omega (arith, sum_by-cons f a xs, ap f (same_Some a x e))
  has_at (a ∷ xs) (suc i) x e = omega (arith, sum_by-cons f a xs, has_at xs i x e)

  -- two places weigh together
  pub two_weigh : (xs : List X) (i j : ℕ) (x y : X) → i < j → slice_get xs i ≡ Some x → slice_get xs j ≡ Some y
      → f x + f y ≤ sum_by f xs
  two_weigh [] i j x y lt e g = absurd (none-some x e)
  two_weigh (a ∷ xs) i zero x y lt e g = absurd (omega (arith, lt))
  two_weigh (a ∷ xs) zero (suc j) x y lt e g =
      omega (arith, sum_by-cons f a xs, ap f (same_Some a x e), has_at xs j y g)
  two_weigh (a ∷ xs) (suc i) (suc j) x y lt e g =
      omega (arith, sum_by-cons f a xs, two_weigh xs i j x y (omega (arith, lt)) e g)

range_more : (a n j : ℕ) → a + n ≡ j → range_with_len a (suc n) ≡ range_with_len a n ++ j ∷ []
range_more a zero j e = ap (λ m. m ∷ []) (omega (arith, e))
range_more a (suc n) j e = ap (λ l. a ∷ l) (range_more (a + 1) n j (omega (arith, e)))

module _ (weight : ℕ → ℕ) where
  pub weigh_more : (n j : ℕ) → j ≡ n + 1
      → sum_by weight (range_with_len 1 j) ≡ sum_by weight (range_with_len 1 n) + weight j
  weigh_more n j e =
      let next : j ≡ suc n = omega (arith, e) in
      let last : 1 + n ≡ j = omega (arith, e) in
      ap (λ m. sum_by weight (range_with_len 1 m)) next ∙ ap (sum_by weight) (range_more 1 n j last)
      ∙ sum_by_push weight (range_with_len 1 n) j

  grows_by : (n more : ℕ) → sum_by weight (range_with_len 1 n) ≤ sum_by weight (range_with_len 1 (n + more))
  grows_by n zero = let same : n ≡ n + 0 = omega arith in
      subst (λ m. sum_by weight (range_with_len 1 n) ≤ sum_by weight (range_with_len 1 m)) same (omega arith)
  grows_by n (suc more) = omega (arith, grows_by n more, weigh_more (n + more) (n + suc more) (omega arith))

  pub weigh_grows : (n m : ℕ) → n ≤ m → sum_by weight (range_with_len 1 n) ≤ sum_by weight (range_with_len 1 m)
  weigh_grows n m le =
      let rest : n + (m - n) ≡ m = omega (arith, le) in
      subst (λ k. sum_by weight (range_with_len 1 n) ≤ sum_by weight (range_with_len 1 k)) rest (grows_by n (m - n))

-- 1 for this number, and 0 for any other
abbrev pub is_it : ℕ → ℕ → ℕ
is_it n m = 1 - ((m - n) + (n - m))

pub weighs_one : (n m : ℕ) → m ≡ n → is_it n m ≡ 1
weighs_one n m e = omega (arith, e)

-- numbers above n don't weigh
above : (n a count : ℕ) → n < a → sum_by (is_it n) (range_with_len a count) ≡ 0
above n a zero lt = refl
above n a (suc count) lt =
    let not_it : is_it n a ≡ 0 = omega (arith, lt) in
    omega (
      arith,
      not_it,
      sum_by-cons (is_it n) a (range_with_len (a + 1) count),
      above n (a + 1) count (omega (arith, lt)),
    )

-- another number doesn't weigh
pub weighs_none : (n m : ℕ) → (m ≡ n → ⊥) → is_it n m ≡ 0
weighs_none n m other =
    dite (dec_le n m)
    (λ (low : n ≤ m). dite (dec_le m n) (λ (high : m ≤ n). absurd (other (omega (arith, low, high))))
    (λ high. omega (arith, high)))
    (λ low. omega (arith, low))

-- a number of the range weighs there
pub weighs_there : (n a count : ℕ) → a ≤ n → n < a + count → 1 ≤ sum_by (is_it n) (range_with_len a count)
weighs_there n a zero le lt = absurd (omega (arith, le, lt))
weighs_there n a (suc count) le lt =
    let all = sum_by-cons (is_it n) a (range_with_len (a + 1) count) in
    dite (dec_le n a) (λ (low : n ≤ a). let one : is_it n a ≡ 1 = omega (arith, le, low) in omega (arith, all, one))
    (λ high. omega (arith, all, weighs_there n (a + 1) count (omega (arith, high)) (omega (arith, lt))))

pub weighs_once : (n a count : ℕ) → sum_by (is_it n) (range_with_len a count) ≤ 1
weighs_once n a zero = omega arith
weighs_once n a (suc count) =
    let all = sum_by-cons (is_it n) a (range_with_len (a + 1) count) in
    let most : is_it n a ≤ 1 = omega arith in
    dite (dec_le n a) (λ (low : n ≤ a). omega (arith, all, most, above n (a + 1) count (omega (arith, low))))
    (λ high. let not_it : is_it n a ≡ 0 = omega (arith, high) in
    omega (arith, all, not_it, weighs_once n (a + 1) count))

pub weigh_jobs : (weight : ℕ → ℕ) (dones : List Done)
    → sum_by weight (jobs_of dones) ≡ sum_by (λ (d : Done). weight d.job) dones
weigh_jobs weight [] = refl
weigh_jobs weight (d ∷ dones) =
    omega (
      arith,
      sum_by-cons weight d.job (jobs_of dones),
      sum_by-cons (λ (e : Done). weight e.job) d dones,
      weigh_jobs weight dones,
    )
