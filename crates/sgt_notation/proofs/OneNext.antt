-- What comes next of the bytes is one.
use Rattle.std.proofs.Common.{◌≡◌, ◌≢◌, ℕ, suc, ◌+◌, ◌-◌, ◌≤◌, List, ◌∷◌, ◌++◌, take, length, length-append, refl, sym, ap, ◌∙◌, arith}
use Rattle.std.proofs.Math.Seq.{take-append-add}
use native.Mathlib.Numerals.{unary_clauses}
use Rattle.std.proofs.lemmas.List.Elements.{recursion_from_All}
use Rattle.sgt_notation.specs.Lines.{IsNext}
use Rattle.sgt_notation.specs.Spelling.{HasNoLf}
use Rattle.sgt_notation.specs.declared.lines.Next.{Next}
use Rattle.sgt_notation.specs.declared.lines.Next.TheVariants.{Line, Cut, TooLong, End}
use Rattle.sgt_notation.proofs.OneSpelling.{cut_at_byte}
use Rattle.sgt_notation.proofs.Unspelled.{never}

-- an LF no later than the limit is seen
seen : (limit : ℕ) (bytes l r : List ℕ) → length l ≤ limit → bytes ≡ l ++ 10 ∷ r → HasNoLf (take (limit + 1) bytes) → ⊥
seen limit bytes l r short e plain =
    let more = limit - length l in
    let size : limit + 1 ≡ length l + suc more = omega (arith, short) in
    let front : take (limit + 1) bytes ≡ l ++ 10 ∷ take more r = ap (λ n. take n bytes) size
    ∙ (ap (take (length l + suc more)) e ∙ take-append-add l (10 ∷ r) (suc more)) in
    never 10 (take (limit + 1) bytes) l (take more r) plain front

size_of : (bytes l r : List ℕ) → bytes ≡ l ++ 10 ∷ r → length bytes ≡ length l + (1 + length r)
size_of bytes l r e = ap length e ∙ (length-append l (10 ∷ r) ∙ simp unary_clauses (omega arith))

pub next-one : (limit : ℕ) (bytes : List ℕ) (n m : Next) (l k r s : List ℕ) → IsNext limit bytes n l r
    → IsNext limit bytes m k s → (n ≡ m) × (n ≢ Next.TooLong → (l ≡ k) × (r ≡ s))
next-one limit bytes Line Line l k r s h g = (
  refl,
  λ _. cut_at_byte 10 l k r s (recursion_from_All (λ b. b ≢ 10) l h.0)
      (recursion_from_All (λ b. b ≢ 10) k g.0) (sym h.2 ∙ g.2),
)
next-one limit bytes Line Cut l k r s h g = absurd (never 10 k l r g.0 (sym g.3 ∙ h.2))
next-one limit bytes Line TooLong l k r s h g = absurd (seen limit bytes l r h.1 h.2 g.0.1)
next-one limit bytes Line End l k r s h g = let a = ap length g.0 in let b = size_of bytes l r h.2 in
    absurd (omega (arith, a, b))
next-one limit bytes Cut Line l k r s h g = absurd (never 10 l k s h.0 (sym h.3 ∙ g.2))
next-one limit bytes Cut Cut l k r s h g = (refl, λ _. (sym h.3 ∙ g.3, h.4 ∙ sym g.4))
next-one limit bytes Cut TooLong l k r s h g = let a = ap length h.3 in absurd (omega (arith, a, h.2, g.0.0))
next-one limit bytes Cut End l k r s h g = let a = ap length h.3 in let b = ap length g.0 in
    absurd (omega (arith, a, b, h.1))
next-one limit bytes TooLong Line l k r s h g = absurd (seen limit bytes k s g.1 g.2 h.0.1)
next-one limit bytes TooLong Cut l k r s h g = let a = ap length g.3 in absurd (omega (arith, a, g.2, h.0.0))
next-one limit bytes TooLong TooLong l k r s h g = (refl, λ f. absurd (f refl))
next-one limit bytes TooLong End l k r s h g = let b = ap length g.0 in absurd (omega (arith, b, h.0.0))
next-one limit bytes End Line l k r s h g = let a = ap length h.0 in let b = size_of bytes k s g.2 in
    absurd (omega (arith, a, b))
next-one limit bytes End Cut l k r s h g = let a = ap length g.3 in let b = ap length h.0 in
    absurd (omega (arith, a, b, g.1))
next-one limit bytes End TooLong l k r s h g = let b = ap length h.0 in absurd (omega (arith, b, g.0.0))
next-one limit bytes End End l k r s h g = (refl, λ _. (h.1 ∙ sym g.1, h.2 ∙ sym g.2))
