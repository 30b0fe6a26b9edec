-- Sixteen bytes stand in the order of the numbers of their halves, the first byte of each the most.
use Rattle.std.proofs.Common.{◌≡◌, ◌≢◌, ◌+◌, ◌*◌, ◌<◌, ℕ, zero, suc, List, [], ◌∷◌, length, take, drop, sym, ap, ap₂, ◌∙◌, arith, refl}
use Rattle.std.specs.Int.{w64, from_be_bytes}
use Rattle.std.specs.Ordering.{nat_cmp, ordering_then}
use Rattle.std.specs.declared.cmp.Ordering.{Ordering}
use Rattle.std.specs.declared.cmp.Ordering.TheVariants.{Less, Equal, Greater}
use Rattle.std.specs.Cmp.{nat_cmp_is}
use Rattle.std.specs.Cmp.Lexicographic.{slice_cmp}
use Rattle.std.proofs.lemmas.Cmp.{by_ranked, ranked}
use Rattle.std.proofs.lemmas.List.{length-take-le, length-drop}
use Rattle.sgt_names.proofs.Halves.{AreBytes, front-bytes, back-bytes}

-- ---- orders one behind another

then-Equal : (o : Ordering) → ordering_then o Equal ≡ o
then-Equal Less = refl
then-Equal Equal = refl
then-Equal Greater = refl

then-assoc : (o p q : Ordering) → ordering_then (ordering_then o p) q ≡ ordering_then o (ordering_then p q)
then-assoc Less p q = refl
then-assoc Equal p q = refl
then-assoc Greater p q = refl

-- what isn't Equal decides
then-unequal : (o p : Ordering) → (o ≢ Equal) → ordering_then o p ≡ o
then-unequal Less p apart = refl
then-unequal Equal p apart = absurd (apart refl)
then-unequal Greater p apart = refl

-- the fronts decide, and the rests where the fronts don't
fronts-first : (n : ℕ) (xs ys : List ℕ) → ordering_then (slice_cmp nat_cmp (take n xs) (take n ys))
    (slice_cmp nat_cmp (drop n xs) (drop n ys)) ≡ slice_cmp nat_cmp xs ys
fronts-first zero xs ys = refl
fronts-first (suc n) [] [] = refl
fronts-first (suc n) [] (y ∷ ys) = refl
fronts-first (suc n) (x ∷ xs) [] = refl
fronts-first (suc n) (x ∷ xs) (y ∷ ys) =
    then-assoc (nat_cmp x y) (slice_cmp nat_cmp (take n xs) (take n ys)) (slice_cmp nat_cmp (drop n xs) (drop n ys))
    ∙ ap (ordering_then (nat_cmp x y)) (fronts-first n xs ys)

-- ---- bytes as a number

-- the number that goes on with these bytes
abbrev number_from : ℕ → List ℕ → ℕ
number_from m [] = m
number_from m (x ∷ xs) = number_from (m * 256 + x) xs

-- numbers that go on with a byte each
one-more : (m n x y : ℕ) → x < 256 → y < 256
    → nat_cmp (m * 256 + x) (n * 256 + y) ≡ ordering_then (nat_cmp m n) (nat_cmp x y)
one-more m n x y small small' =
    by_ranked (m < n) (m ≡ n) (n < m) (nat_cmp m n) (ranked m n _ refl)
    (λ e l. sym (nat_cmp_is (m * 256 + x) (n * 256 + y) Less (omega (arith, l, small, small')))
    ∙ ap (λ o. ordering_then o (nat_cmp x y)) (sym e))
    (λ e q. tied q ∙ ap (λ o. ordering_then o (nat_cmp x y)) (sym e))
    (λ e g. sym (nat_cmp_is (m * 256 + x) (n * 256 + y) Greater (omega (arith, g, small, small')))
    ∙ ap (λ o. ordering_then o (nat_cmp x y)) (sym e))
  where
    tied : m ≡ n → nat_cmp (m * 256 + x) (n * 256 + y) ≡ nat_cmp x y
    tied q = by_ranked (x < y) (x ≡ y) (y < x) (nat_cmp x y) (ranked x y _ refl)
        (λ e l. sym (nat_cmp_is (m * 256 + x) (n * 256 + y) Less (omega (arith, l, q))) ∙ sym e)
        (λ e l. sym (nat_cmp_is (m * 256 + x) (n * 256 + y) Equal (omega (arith, l, q))) ∙ sym e)
        (λ e l. sym (nat_cmp_is (m * 256 + x) (n * 256 + y) Greater (omega (arith, l, q))) ∙ sym e)

numbers-order : (m n : ℕ) (xs ys : List ℕ) → length xs ≡ length ys → AreBytes xs → AreBytes ys
    → nat_cmp (number_from m xs) (number_from n ys) ≡ ordering_then (nat_cmp m n) (slice_cmp nat_cmp xs ys)
numbers-order m n [] [] long fits fits' = sym (then-Equal (nat_cmp m n))
numbers-order m n [] (y ∷ ys) long fits fits' = absurd (omega (arith, long))
numbers-order m n (x ∷ xs) [] long fits fits' = absurd (omega (arith, long))
numbers-order m n (x ∷ xs) (y ∷ ys) long fits fits' =
    numbers-order (m * 256 + x) (n * 256 + y) xs ys (omega (arith, long)) (λ i. fits (suc i)) (λ i. fits' (suc i))
    ∙ ap (λ o. ordering_then o (slice_cmp nat_cmp xs ys)) (one-more m n x y (fits 0) (fits' 0))
    ∙ then-assoc (nat_cmp m n) (nat_cmp x y) (slice_cmp nat_cmp xs ys)

eight-number : (xs : List ℕ) → length xs ≡ 8 → from_be_bytes w64 xs ≡ number_from 0 xs
eight-number [] long = absurd (omega (arith, long))
eight-number (a ∷ []) long = absurd (omega (arith, long))
eight-number (a ∷ b ∷ []) long = absurd (omega (arith, long))
eight-number (a ∷ b ∷ c ∷ []) long = absurd (omega (arith, long))
eight-number (a ∷ b ∷ c ∷ d ∷ []) long = absurd (omega (arith, long))
eight-number (a ∷ b ∷ c ∷ d ∷ e ∷ []) long = absurd (omega (arith, long))
eight-number (a ∷ b ∷ c ∷ d ∷ e ∷ f ∷ []) long = absurd (omega (arith, long))
eight-number (a ∷ b ∷ c ∷ d ∷ e ∷ f ∷ g ∷ []) long = absurd (omega (arith, long))
eight-number (a ∷ b ∷ c ∷ d ∷ e ∷ f ∷ g ∷ h ∷ []) long = omega arith
eight-number (a ∷ b ∷ c ∷ d ∷ e ∷ f ∷ g ∷ h ∷ x ∷ xs) long = absurd (omega (arith, long))

-- eight bytes stand in the order of their numbers
eight-order : (xs ys : List ℕ) → length xs ≡ 8 → length ys ≡ 8 → AreBytes xs → AreBytes ys
    → nat_cmp (from_be_bytes w64 xs) (from_be_bytes w64 ys) ≡ slice_cmp nat_cmp xs ys
eight-order xs ys long other fits fits' =
    ap₂ nat_cmp (eight-number xs long) (eight-number ys other)
    ∙ numbers-order 0 0 xs ys (long ∙ sym other) fits fits'

-- ---- both halves

halves-order : (xs ys : List ℕ) (f b g d : ℕ) → length xs ≡ 16 → length ys ≡ 16 → AreBytes xs → AreBytes ys
    → f ≡ from_be_bytes w64 (take 8 xs) → b ≡ from_be_bytes w64 (drop 8 xs) → g ≡ from_be_bytes w64 (take 8 ys)
    → d ≡ from_be_bytes w64 (drop 8 ys)
    → ordering_then (nat_cmp f g) (nat_cmp b d) ≡ slice_cmp nat_cmp xs ys
halves-order xs ys f b g d long other fits fits' ef eb eg ed =
    ap₂ ordering_then
    (ap₂ nat_cmp ef eg ∙ eight-order (take 8 xs) (take 8 ys) (length-take-le 8 xs (omega (arith, long)))
    (length-take-le 8 ys (omega (arith, other))) (front-bytes xs 8 (omega (arith, long)) fits)
    (front-bytes ys 8 (omega (arith, other)) fits'))
    (ap₂ nat_cmp eb ed ∙ eight-order (drop 8 xs) (drop 8 ys) (length-drop 8 xs ∙ omega (arith, long))
    (length-drop 8 ys ∙ omega (arith, other)) (back-bytes xs 8 fits) (back-bytes ys 8 fits'))
    ∙ fronts-first 8 xs ys

-- the fronts' numbers are one, so the order is that of the others
pub order_of_backs : (xs ys : List ℕ) (f b g d : ℕ) (o : Ordering) → length xs ≡ 16 → length ys ≡ 16
    → AreBytes xs → AreBytes ys
    → f ≡ from_be_bytes w64 (take 8 xs) → b ≡ from_be_bytes w64 (drop 8 xs) → g ≡ from_be_bytes w64 (take 8 ys)
    → d ≡ from_be_bytes w64 (drop 8 ys) → o ≡ nat_cmp f g → o ≡ Equal
    → nat_cmp b d ≡ slice_cmp nat_cmp xs ys
order_of_backs xs ys f b g d o long other fits fits' ef eb eg ed is tie =
    ap (λ p. ordering_then p (nat_cmp b d)) (sym tie ∙ is)
    ∙ halves-order xs ys f b g d long other fits fits' ef eb eg ed

-- they aren't, so it is theirs
pub order_of_fronts : (xs ys : List ℕ) (f b g d : ℕ) (o : Ordering) → length xs ≡ 16 → length ys ≡ 16
    → AreBytes xs → AreBytes ys
    → f ≡ from_be_bytes w64 (take 8 xs) → b ≡ from_be_bytes w64 (drop 8 xs) → g ≡ from_be_bytes w64 (take 8 ys)
    → d ≡ from_be_bytes w64 (drop 8 ys) → o ≡ nat_cmp f g → (o ≢ Equal)
    → o ≡ slice_cmp nat_cmp xs ys
order_of_fronts xs ys f b g d o long other fits fits' ef eb eg ed is apart =
    sym (then-unequal o (nat_cmp b d) apart)
    ∙ ap (λ p. ordering_then p (nat_cmp b d)) is
    ∙ halves-order xs ys f b g d long other fits fits' ef eb eg ed
