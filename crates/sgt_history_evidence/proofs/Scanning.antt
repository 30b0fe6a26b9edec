-- Lists that are looked through from one end.
use Rattle.std.proofs.Common.{◌≡◌, ℕ, ◌+◌, ◌<◌, ◌≤◌, subst, sym, arith, inl, inr}
use Rattle.std.proofs.lemmas.Bool.{cases_lt}

-- none of the numbers below, nor the next one, is so
pub none-next : (P : ℕ → Type 0) (n : ℕ) → ((k : ℕ) → k < n → P k → ⊥) → (P n → ⊥) → (k : ℕ) → k < n + 1 → P k → ⊥
none-next P n before here k lt is = elim (cases_lt k n) [
  | inl less ↦ before k less is
  | inr most ↦
      let same : k ≡ n = omega (arith, lt, most) in
      here (subst P same is)
]
