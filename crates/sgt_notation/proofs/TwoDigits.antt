-- Numbers of one digit and of two, at a place.
use Rattle.std.proofs.Common.{◌≡◌, ℕ, ◌+◌, ◌-◌, ◌*◌, ◌/◌, ◌%◌, ◌<◌, ◌≤◌, List, [], ◌∷◌, ◌++◌, drop, sym, ap, ◌∙◌, subst, decimal, append_assoc, arith}
use Rattle.std.proofs.lemmas.Fmt.{decimal_digit, decimal_step}
use Rattle.sgt_notation.specs.Private.{Spans}

pub one-digit : (bytes : List ℕ) (from to byte : ℕ) → 48 ≤ byte → byte ≤ 57 → Spans bytes from (byte ∷ []) to
    → (byte - 48 < 10) × Spans bytes from (decimal (byte - 48)) to
one-digit bytes from to byte low high s =
    let text : decimal (byte - 48) ≡ byte ∷ [] = decimal_digit (byte - 48) (omega (arith, low, high))
    ∙ ap (λ (c : ℕ). c ∷ []) (omega (arith, low)) in
    (omega (arith, low, high), subst (λ t. Spans bytes from t to) (sym text) s)

two : (a b : ℕ) → a < 10 → 0 < a → b < 10 → decimal (10 * a + b) ≡ decimal a ++ decimal b
two a b tens some units =
    let n = 10 * a + b in
    let first : n / 10 ≡ a = omega (arith, units) in
    let last : n % 10 ≡ b = omega (arith, units) in
    decimal_step n (omega (arith, some)) (omega (arith, tens, units))
    ∙ (ap (λ m. decimal m ++ (48 + n % 10) ∷ []) first
    ∙ ap (λ (d : List ℕ). decimal a ++ d) (ap (λ (m : ℕ). (48 + m) ∷ []) last ∙ sym (decimal_digit b units)))

pub two-digits : (bytes : List ℕ) (from middle to a b : ℕ) → a < 10 → 0 < a → b < 10
    → Spans bytes from (decimal a) middle → Spans bytes middle (decimal b) to
    → Spans bytes from (decimal (10 * a + b)) to
two-digits bytes from middle to a b tens some units s t = record {
  within = t.within;
  reads = s.reads ∙ (ap (λ (r : List ℕ). decimal a ++ r) t.reads
      ∙ (sym (append_assoc (decimal a) (decimal b) (drop to bytes))
      ∙ ap (λ (r : List ℕ). r ++ drop to bytes) (sym (two a b tens some units))));
}
