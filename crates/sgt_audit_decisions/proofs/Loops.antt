-- What tests and loops that leave at the first miss tell.
use Rattle.std.proofs.Common.{◌≡◌, ◌≢◌, inl, inr, ℕ, ◌≤◌, Bool, true, false, List, length, take, Option, Some, None, IsTrue, refl, sym, ap, ◌∙◌, arith, All}
use Rattle.std.specs.Prelude.{◌↔◌, ◌==◌, not, is_some}
use Rattle.std.proofs.lemmas.Bool.{false≢true, true≢false, cases_eq, eq-eqb, eqb-true, ne_eqb}
use Rattle.sgt_names.proofs.Lists.{All-whole}
use Rattle.sgt_names.proofs.Elements.{ne-same, is_some-some, is_some-none}

-- a test that answered false, or true
pub refuted : {P : Type 0} (r : Bool) → IsTrue r ↔ P → r ≡ false → P → ⊥
refuted r both miss p = true≢false (sym (both.1 p) ∙ miss)

pub answered-no : {P : Type 0} → (P → ⊥) → IsTrue false ↔ P
answered-no never = (λ e. absurd (false≢true e), λ p. absurd (never p))

pub answered-yes : {P : Type 0} → P → IsTrue true ↔ P
answered-yes p = (λ _. p, λ _. refl)

pub all-through : {X : Type 0} (P : X → Type 0) (xs : List X) (i : ℕ) → length xs ≤ i → All P (take i xs)
    → IsTrue true ↔ All P xs
all-through P xs i le all = answered-yes (All-whole P xs i le all)

-- ---- what tests of numbers tell

pub ne-true : (a b : ℕ) (r : Bool) → r ≡ not (a == b) → r ≡ true → a ≢ b
ne-true a b r is hit same = true≢false (sym hit ∙ is ∙ ap not (eq-eqb a b same))

pub not-empty : (n : ℕ) (r : Bool) → r ≡ (n == 0) → r ≡ false → 1 ≤ n
not-empty n r is miss = elim (cases_eq n 0) [
  | inl none ↦ absurd (true≢false (sym (eq-eqb n 0 none) ∙ sym is ∙ miss))
  | inr some ↦ omega arith
]

pub empty : (n : ℕ) (r : Bool) → r ≡ (n == 0) → r ≡ true → n ≡ 0
empty n r is hit = eqb-true n 0 (sym is ∙ hit)

-- ---- what is in an option

pub not-false : (b : Bool) → not b ≡ false → b ≡ true
not-false true e = refl
not-false false e = absurd (true≢false e)

pub not-true : (b : Bool) → not b ≡ true → b ≡ false
not-true true e = absurd (false≢true e)
not-true false e = refl
