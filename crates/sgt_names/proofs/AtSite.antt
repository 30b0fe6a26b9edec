-- What a list touches at one site stands together.
use Rattle.std.proofs.Common.{◌≡◌, ℕ, zero, suc, ◌+◌, ◌-◌, ◌<◌, ◌≤◌, Bool, true, false, leb, nat_lt, List, [], ◌∷◌, length, get_or, take, drop, refl, ap, subst, arith, inl, inr, AllPairs, Some}
use Rattle.std.specs.Prelude.{slice_get, slice_range, filter, ◌==◌}
use Rattle.std.specs.List.Sorted.{IsPartitionPoint, IsNonDecreasingBy}
use Rattle.std.specs.Ordering.{nat_cmp}
use Rattle.std.specs.declared.cmp.Ordering.TheVariants.{Less, Greater}
use Rattle.std.proofs.lemmas.Bool.{cases_Bool, cases_lt, ltb-true, ltb-false, leb-true, leb-false}
use Rattle.std.proofs.lemmas.Bool.Decides.{nat_tests}
use Rattle.std.proofs.lemmas.Option.{slice_get_within, get_or_from_slice_get}
use Rattle.sgt_names.specs.Draft.{AreRising, at_site, place_of, place_cmp}
use Rattle.sgt_names.specs.declared.draft.Touch.{Touch}
use Rattle.sgt_names.proofs.Lists.{within_at}
use Rattle.sgt_names.proofs.Places.{AllPairs_at, AllPairs-from_at}

-- so many elements from a place on are those that pass, if they pass and none does before them or behind them
between : {A : Type 0} (p : A → Bool) (xs : List A) (from n : ℕ)
    → ((m : ℕ) (a : A) → m < from → slice_get xs m ≡ Some a → p a ≡ false)
    → ((m : ℕ) (a : A) → from ≤ m → m < from + n → slice_get xs m ≡ Some a → p a ≡ true)
    → ((m : ℕ) (a : A) → from + n ≤ m → slice_get xs m ≡ Some a → p a ≡ false)
    → take n (drop from xs) ≡ filter p xs
between p [] zero zero before within after = refl
between p [] zero (suc n) before within after = refl
between p [] (suc from) zero before within after = refl
between p [] (suc from) (suc n) before within after = refl
between p (x ∷ xs) zero zero before within after =
    let miss : p x ≡ false = after 0 x (omega arith) refl in
    rw miss (between p xs 0 0 (λ m a lt at. absurd (omega (arith, lt))) (λ m a le lt at. absurd (omega (arith, lt)))
    (λ m a le at. after (suc m) a (omega arith) at))
between p (x ∷ xs) zero (suc n) before within after =
    let hit : p x ≡ true = within 0 x (omega arith) (omega arith) refl in
    rw hit (ap (λ ys. x ∷ ys) (between p xs 0 n (λ m a lt at. absurd (omega (arith, lt)))
    (λ m a le lt at. within (suc m) a (omega arith) (omega (arith, lt)) at)
    (λ m a le at. after (suc m) a (omega (arith, le)) at)))
between p (x ∷ xs) (suc from) n before within after =
    let miss : p x ≡ false = before 0 x (omega arith) refl in
    rw miss (between p xs from n (λ m a lt at. before (suc m) a (omega (arith, lt)) at)
    (λ m a le lt at. within (suc m) a (omega (arith, le)) (omega (arith, lt)) at)
    (λ m a le at. after (suc m) a (omega (arith, le)) at))

-- the sites of the places do not fall
by_site : (a b : Touch) → place_cmp (place_of a) (place_of b) ≡ Less → a.site ≤ b.site
by_site a b less = elim (cases_lt b.site a.site) [
  | inl lt ↦ absurd (let more : nat_cmp a.site b.site ≡ Greater = grind (arith, nat_tests) in let is =
      rw more at less in cc)
  | inr le ↦ le
]

pub sites-rise : (ts : List Touch) → AreRising ts → AllPairs (λ a b. a.site ≤ b.site) ts
sites-rise ts rising =
    AllPairs-from_at (λ (a b : Touch). a.site ≤ b.site) ts
    (λ p q a b lt at_p at_q. by_site a b (AllPairs_at (λ a b. place_cmp (place_of a) (place_of b) ≡ Less) ts p q a b
    rising lt at_p at_q))

pub apart : (m n : ℕ) → (m ≡ n → ⊥) → (m == n) ≡ false
apart m n other = elim (cases_Bool (m == n)) [
  | inl hit ↦ absurd (other (grind (arith, nat_tests)))
  | inr miss ↦ miss
]

module _ (ts : List Touch) (n from to : ℕ)
    (low : IsPartitionPoint (λ t. nat_lt t.site n ≡ true) (λ t. nat_lt t.site n ≡ false) ts from)
    (high : IsPartitionPoint (λ t. leb t.site n ≡ true) (λ t. leb t.site n ≡ false) ts to) where
  below : (m : ℕ) (t : Touch) → m < from → slice_get ts m ≡ Some t → t.site < n
  below m t lt at =
      ltb-true t.site n (subst (λ (u : Touch). nat_lt u.site n ≡ true) (get_or_from_slice_get ts m t t at)
      (low.0 m t (omega arith) lt))

  not_below : (m : ℕ) (t : Touch) → from ≤ m → slice_get ts m ≡ Some t → n ≤ t.site
  not_below m t le at =
      ltb-false t.site n (subst (λ (u : Touch). nat_lt u.site n ≡ false) (get_or_from_slice_get ts m t t at)
      (low.1 m t le (slice_get_within ts m t at)))

  upto : (m : ℕ) (t : Touch) → m < to → slice_get ts m ≡ Some t → t.site ≤ n
  upto m t lt at =
      leb-true t.site n (subst (λ (u : Touch). leb u.site n ≡ true) (get_or_from_slice_get ts m t t at)
      (high.0 m t (omega arith) lt))

  above : (m : ℕ) (t : Touch) → to ≤ m → slice_get ts m ≡ Some t → n < t.site
  above m t le at =
      leb-false t.site n (subst (λ (u : Touch). leb u.site n ≡ false) (get_or_from_slice_get ts m t t at)
      (high.1 m t le (slice_get_within ts m t at)))

  -- the one point is not behind the other
  pub points_rise : from ≤ length ts → from ≤ to
  points_rise within = elim (cases_lt to from) [
    | inl lt ↦
        let t = within_at ts to (omega (arith, lt, within)) in
        let less = below to t.0 lt t.1 in
        let more = above to t.0 (omega arith) t.1 in
        absurd (omega (arith, less, more))
    | inr le ↦ le
  ]

  pub part-between : from ≤ to → slice_range ts from to ≡ at_site n ts
  part-between le = between (λ (t : Touch). t.site == n) ts from (to - from)
      (λ m t lt at. apart t.site n (λ same. let less = below m t lt at in absurd (omega (arith, less, same))))
      (λ m t from_on lt at.
      let more = not_below m t from_on at in
      let less = upto m t (omega (arith, lt, le)) at in
      let same : t.site ≡ n = omega (arith, more, less) in
      grind (arith, nat_tests, same))
      (λ m t le_m at. apart t.site n (λ same. let more = above m t (omega (arith, le_m, le)) at in
      absurd (omega (arith, more, same))))

pub nondecreasing : {A : Type 0} (n : A → ℕ) (xs : List A) → AllPairs (λ a b. n a ≤ n b) xs → IsNonDecreasingBy n xs
nondecreasing n xs pairs i j d le lt = elim (cases_lt i j) [
  | inl less ↦ pairs i j d less lt
  | inr more ↦
      let same : i ≡ j = omega (arith, le, more) in
      let e : n (get_or xs i d) ≡ n (get_or xs j d) = ap (λ k. n (get_or xs k d)) same in
      omega (arith, e)
]
