-- How logs begin, and what a front of some bytes shows of that.
use Rattle.std.proofs.Common.{◌≡◌, ◌↔◌, ◌⊎◌, ◌≤◌, Bool, true, false, IsTrue, ℕ, List, [], ◌∷◌, ◌++◌, length, Option, Some, None, inl, inr, refl, sym, ap, ap₂, subst, arith, length-append}
use Rattle.std.specs.Prelude.{IfSome}
use Rattle.std.specs.Io.KnownBytes.{Consumes}
use Rattle.std.proofs.lemmas.Bool.{false≢true}
use Rattle.sgt_explain_logs.specs.Explained.{AreLogs, BeginsWith, logs_head}

-- of two fronts of one text one is a front of the other
pub fronts : (xs ys us vs : List ℕ) → xs ++ ys ≡ us ++ vs
    → ((r : List ℕ) × (us ≡ xs ++ r)) ⊎ ((r : List ℕ) × (xs ≡ us ++ r))
fronts [] ys us vs e = inl (us, refl)
fronts (x ∷ xs) ys [] vs e = inr (x ∷ xs, refl)
fronts (x ∷ xs) ys (u ∷ us) vs e =
    let head : x ≡ u = cc in
    let tail : xs ++ ys ≡ us ++ vs = cc in
    elim (fronts xs ys us vs tail) [
      | inl (r, is) ↦ inl (r, ap₂ (λ (a : ℕ) (b : List ℕ). a ∷ b) (sym head) is)
      | inr (r, is) ↦ inr (r, ap₂ (λ (a : ℕ) (b : List ℕ). a ∷ b) head is)
    ]

-- ---- whether the bytes are logs

pub logs-second : (bytes : List ℕ) → (BeginsWith (logs_head false) bytes → ⊥) → AreLogs bytes
    → BeginsWith (logs_head true) bytes
logs-second bytes none (false, begins) = absurd (none begins)
logs-second bytes none (true, begins) = begins

-- more bytes make none of what isn't the front of a head
pub closed-logs : (bytes : List ℕ) → (BeginsWith bytes (logs_head false) → ⊥)
    → (BeginsWith bytes (logs_head true) → ⊥) → (more : List ℕ) → AreLogs (bytes ++ more) → AreLogs bytes
closed-logs bytes first second more (false, (rest, e)) = elim (fronts bytes more (logs_head false) rest e) [
  | inl shorter ↦ absurd (first shorter)
  | inr longer ↦ (false, longer)
]
closed-logs bytes first second more (true, (rest, e)) = elim (fronts bytes more (logs_head true) rest e) [
  | inl shorter ↦ absurd (second shorter)
  | inr longer ↦ (true, longer)
]

pub few-bytes : (second : Bool) (bytes : List ℕ) → BeginsWith bytes (logs_head second) → length bytes ≤ 11
few-bytes false bytes (rest, e) = omega (arith, ap length e, length-append bytes rest)
few-bytes true bytes (rest, e) = omega (arith, ap length e, length-append bytes rest)

-- ---- of the bytes that a reader tells

no : (bytes : List ℕ) → (AreLogs bytes → ⊥) → IsTrue false ↔ AreLogs bytes
no bytes other = (λ is. absurd (false≢true is), λ are. absurd (other are))

pub told-other : (told now : Option (List ℕ)) (text : List ℕ) → Consumes told now text → (AreLogs text → ⊥)
    → ((more : List ℕ) → AreLogs (text ++ more) → AreLogs text) → IfSome told (λ bytes. IsTrue false ↔ AreLogs bytes)
told-other None now text came other closed = tt
told-other (Some xs) None text came other closed = absurd came
told-other (Some xs) (Some ys) text came other closed = no xs (λ are. other (closed ys (subst AreLogs came are)))
