-- How many records are live.
use Rattle.std.proofs.Common.{◌≡◌, ℕ, zero, suc, ◌+◌, ◌-◌, ◌<◌, ◌≤◌, Bool, true, false, cond, List, [], ◌∷◌, length, set, Some, refl, sym, ap, ◌∙◌, arith}
use Rattle.std.specs.Prelude.{slice_get, not, ◌&&◌, ◌||◌}
use Rattle.std.proofs.lemmas.Bool.{false≢true}
use Rattle.std.proofs.lemmas.Option.{same_Some, none-some}
use Rattle.sgt_audit_cells.specs.Records.{Record, is_live, live_among}

abbrev pub one_if : Bool → ℕ
one_if b = cond b 1 0

one_if-few : (b : Bool) → one_if b ≤ 1
one_if-few true = omega arith
one_if-few false = omega arith

pub live-set : (rs : List Record) (n : ℕ) (r v : Record) → slice_get rs n ≡ Some r
    → live_among (set rs n v) + one_if (is_live r) ≡ live_among rs + one_if (is_live v)
live-set [] n r v h = absurd (none-some r h)
live-set (x ∷ xs) zero r v h = let eq = ap (λ (y : Record). one_if (is_live y)) (same_Some x r h) in omega (arith, eq)
live-set (x ∷ xs) (suc n) r v h = let rest = live-set xs n r v h in omega (arith, rest)

pub live-few : (rs : List Record) → live_among rs ≤ length rs
live-few [] = omega arith
live-few (x ∷ xs) = let rest = live-few xs in let one = one_if-few (is_live x) in omega (arith, rest, one)

pub live-fewer : (rs : List Record) (n : ℕ) (r : Record) → slice_get rs n ≡ Some r → is_live r ≡ false
    → live_among rs < length rs
live-fewer [] n r h not = absurd (none-some r h)
live-fewer (x ∷ xs) zero r h not =
    let rest = live-few xs in
    let none : one_if (is_live x) ≡ 0 = ap (λ (y : Record). one_if (is_live y)) (same_Some x r h) ∙ ap one_if not in
    omega (arith, rest, none)
live-fewer (x ∷ xs) (suc n) r h not = let rest = live-fewer xs n r h not in let one = one_if-few (is_live x) in
    omega (arith, rest, one)

not-one : (b : Bool) → one_if b ≡ 0 → b ≡ false
not-one true h = absurd (omega (arith, h))
not-one false h = refl

pub live-none : (rs : List Record) (n : ℕ) (r : Record) → live_among rs ≡ 0 → slice_get rs n ≡ Some r
    → is_live r ≡ false
live-none [] n r none h = absurd (none-some r h)
live-none (x ∷ xs) zero r none h = ap is_live (sym (same_Some x r h)) ∙ not-one (is_live x) (omega (arith, none))
live-none (x ∷ xs) (suc n) r none h = live-none xs n r (omega (arith, none)) h

pub none-live : (rs : List Record) → ((n : ℕ) (r : Record) → slice_get rs n ≡ Some r → is_live r ≡ false)
    → live_among rs ≡ 0
none-live [] h = refl
none-live (x ∷ xs) h =
    let rest = none-live xs (λ n r at. h (suc n) r at) in
    let none = ap one_if (h 0 x refl) in
    omega (arith, rest, none)

-- what one entry changes: who comes was not live, and who leaves was or came
pub turned : (touched ended ends : Bool) (ended' : Bool) → (ended ≡ true → touched ≡ true) → ended' ≡ (ended || ends)
    → one_if (not ended') + one_if (ends && not ended) ≡ one_if (touched && not ended) + one_if (not touched)
turned true true true ended' h is = ap (λ b. one_if (not b) + 0) is
turned true true false ended' h is = ap (λ b. one_if (not b) + 0) is
turned true false true ended' h is = ap (λ b. one_if (not b) + 1) is
turned true false false ended' h is = ap (λ b. one_if (not b) + 0) is
turned false true ends ended' h is = absurd (false≢true (h refl))
turned false false true ended' h is = ap (λ b. one_if (not b) + 1) is
turned false false false ended' h is = ap (λ b. one_if (not b) + 0) is
