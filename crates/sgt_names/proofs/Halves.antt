-- Sixteen bytes are the same where the numbers of their halves are.
use Rattle.std.proofs.Common.{◌≡◌, ◌+◌, ◌≤◌, ◌<◌, ℕ, List, length, take, drop, ◌++◌, get_or, eqb, sym, ap, ap₂, ◌∙◌, subst, arith, inl, inr, refl, eqb→eq}
use Rattle.std.specs.Prelude.{◌&&◌, bytes_eq}
use Rattle.std.specs.Bool.{Decides, one_answer, passes}
use Rattle.std.specs.Int.{w64, from_le_bytes}
use Rattle.std.proofs.lemmas.Bool.{cases_lt, eq-eqb}
use Rattle.std.proofs.lemmas.Nat.{le_bytes_8}
use Rattle.std.proofs.lemmas.List.{length-take-le, length-drop, take-append-drop, get_or-take, get_or-drop, get_or_past}
use Rattle.std.proofs.lemmas.Slice.Eq.{bytes_eq-Decides}
use lib.Ieee.Fits.{and_l, and_r}

abbrev pub AreBytes : List ℕ → Type 0
AreBytes xs = (i : ℕ) → get_or xs i 0 < 256

-- eight bytes with the number of eight others are those
same_eight : (xs ys : List ℕ) → length xs ≡ 8 → length ys ≡ 8 → AreBytes xs → AreBytes ys
    → from_le_bytes w64 xs ≡ from_le_bytes w64 ys → xs ≡ ys
same_eight xs ys long other fits fits' e = sym (le_bytes_8 xs (from_le_bytes w64 xs) long fits refl)
    ∙ le_bytes_8 ys (from_le_bytes w64 xs) other fits' e

pub front-bytes : (xs : List ℕ) (n : ℕ) → n ≤ length xs → AreBytes xs → AreBytes (take n xs)
front-bytes xs n le fits i =
    elim (cases_lt i n) [
      | inl less ↦ subst (λ b. b < 256) (sym (get_or-take n xs i 0 less)) (fits i)
      | inr more ↦ subst (λ b. b < 256) (sym (get_or_past (take n xs) i 0 (omega (arith, length-take-le n xs le))))
          (omega arith)
    ]

pub back-bytes : (xs : List ℕ) (n : ℕ) → AreBytes xs → AreBytes (drop n xs)
back-bytes xs n fits i = subst (λ b. b < 256) (sym (get_or-drop n xs i 0)) (fits (n + i))

halves-Decides : (xs ys : List ℕ) → length xs ≡ 16 → length ys ≡ 16 → AreBytes xs → AreBytes ys
    → Decides (eqb (from_le_bytes w64 (take 8 xs)) (from_le_bytes w64 (take 8 ys)) && eqb
    (from_le_bytes w64 (drop 8 xs)) (from_le_bytes w64 (drop 8 ys))) (xs ≡ ys)
halves-Decides xs ys long other fits fits' = (
  λ e. let both = passes _ e in
      let front = eqb→eq _ _ (and_l _ _ both) in
      let back = eqb→eq _ _ (and_r _ _ both) in
      sym (take-append-drop 8 xs)
      ∙ ap₂ (λ a b. a ++ b)
      (same_eight (take 8 xs) (take 8 ys) (length-take-le 8 xs (omega arith)) (length-take-le 8 ys (omega arith))
      (front-bytes xs 8 (omega arith) fits) (front-bytes ys 8 (omega arith) fits') front)
      (same_eight (drop 8 xs) (drop 8 ys) (length-drop 8 xs ∙ omega arith) (length-drop 8 ys ∙ omega arith)
      (back-bytes xs 8 fits) (back-bytes ys 8 fits') back)
      ∙ take-append-drop 8 ys,
  λ e. let front = eq-eqb _ _ (ap (λ l. from_le_bytes w64 (take 8 l)) e) in
      let back = eq-eqb _ _ (ap (λ l. from_le_bytes w64 (drop 8 l)) e) in
      ap₂ (λ a b. a && b) front back,
)

-- both halves are compared at once
pub same_halves : (xs ys : List ℕ) (f b g d : ℕ) → length xs ≡ 16 → length ys ≡ 16 → AreBytes xs → AreBytes ys
    → f ≡ from_le_bytes w64 (take 8 xs) → b ≡ from_le_bytes w64 (drop 8 xs) → g ≡ from_le_bytes w64 (take 8 ys)
    → d ≡ from_le_bytes w64 (drop 8 ys)
    → (eqb f g && eqb b d) ≡ bytes_eq xs ys
same_halves xs ys f b g d long other fits fits' ef eb eg ed =
    ap₂ (λ p q. p && q) (ap₂ eqb ef eg) (ap₂ eqb eb ed)
    ∙ one_answer _ _ (halves-Decides xs ys long other fits fits') (bytes_eq-Decides xs ys)
