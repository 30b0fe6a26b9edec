-- The first byte of a number, and its parse.
use Rattle.std.proofs.Common.{◌≡◌, ◌≢◌, ℕ, zero, suc, ◌<◌, ◌≤◌, ◌^◌, List, [], ◌∷◌, length, get_or, Some, None, Result, Ok, Err, decimal, lit<, refl, sym, ap, ◌∙◌, subst, arith}
use Rattle.std.proofs.lemmas.Fmt.{parse-decimal, decimal-digits_value, decimal_injective, decimal_digit, decimal_nonempty, first_decimal}
use Rattle.std.proofs.lemmas.Str.Parse.{IsNumeralModel, numerals_by_value, tells_digits, without_leading_plus_none}
use Rattle.std.specs.Str.Parse.{AllDigits, IsNumeral, ParsesUnsigned, digits_value}
use Rattle.std.specs.Result.{OkIff, result_ok}
use Rattle.sgt_notation.specs.Spelling.{IsValue}
use Rattle.sgt_notation.specs.Reading.{Finds}

pub own : IsNumeralModel (AllDigits 10) (digits_value 10)
own = numerals_by_value (AllDigits 10) tells_digits

first_low : (n : ℕ) → IsValue n → 48 ≤ get_or (decimal n) 0 0
first_low zero h = let e = decimal_digit 0 (omega arith) in rw e (omega arith)
first_low (suc n) h = let first = first_decimal (suc n) (omega arith) h in omega (arith, first)

first_zero : (n : ℕ) → IsValue n → get_or (decimal n) 0 0 ≡ 48 → length (decimal n) ≡ 1
first_zero zero h e = let one = decimal_digit 0 (omega arith) in rw one refl
first_zero (suc n) h e = let first = first_decimal (suc n) (omega arith) h in absurd (omega (arith, first, e))

pub not_empty : (bs : List ℕ) → length bs ≡ 0 → (n : ℕ) → IsValue n → bs ≡ decimal n → ⊥
not_empty bs empty n h e = let some = decimal_nonempty n h in let same = ap length e in
    absurd (omega (arith, some, same, empty))

pub not_plus : (bs : List ℕ) → get_or bs 0 0 ≡ 43 → (n : ℕ) → IsValue n → bs ≡ decimal n → ⊥
not_plus bs plus n h e = let low = first_low n h in let same = ap (λ t. get_or t 0 0) e in
    absurd (omega (arith, low, same, plus))

pub not_zeros : (bs : List ℕ) → get_or bs 0 0 ≡ 48 → length bs ≢ 1 → (n : ℕ) → IsValue n → bs ≡ decimal n → ⊥
not_zeros bs zeros long n h e = long (ap length e ∙ first_zero n h (sym (ap (λ t. get_or t 0 0) e) ∙ zeros))

pub just_zero : (bs : List ℕ) → get_or bs 0 0 ≡ 48 → length bs ≡ 1 → Finds IsValue decimal bs (Some 0)
just_zero [] z one = absurd (omega arith)
just_zero (b ∷ []) z one = let e = decimal_digit 0 (omega arith) in (lit< tt, ap (λ c. c ∷ []) z ∙ sym e)
just_zero (b ∷ c ∷ bs) z one = absurd (omega arith)

-- what the clause says of an Ok and of an Err doesn't depend on the type of the error
pub parsed : (bs : List ℕ) (n : ℕ) → ParsesUnsigned {E = ℕ} 64 10 bs (Ok n) → get_or bs 0 0 ≢ 43 → get_or bs 0 0 ≢ 48
    → IsValue n × (bs ≡ decimal n)
parsed bs n ok plus zeros =
    let plain = without_leading_plus_none bs plus in
    let whole : IsNumeral 10 bs × (digits_value 10 bs < 2 ^ 64) × (n ≡ digits_value 10 bs) =
    subst (λ t. IsNumeral 10 t × (digits_value 10 t < 2 ^ 64) × (n ≡ digits_value 10 t)) plain (
      ok.0.0,
      ok.0.1,
      ok.1,
    ) in
    let text = decimal-digits_value own bs whole.0.1 whole.0.0 (λ z. absurd (zeros z)) whole.1 in
    rw whole.2 (whole.1, sym text)

pub unparsed : (bs : List ℕ) → ParsesUnsigned {E = ℕ} 64 10 bs (Err 0) → (n : ℕ) → IsValue n → bs ≡ decimal n → ⊥
unparsed bs err n h is = let both = parse-decimal {E = ℕ} 64 n bs (Err 0) h h is err in cc both

pub parsed_or_not : {E : Type 0} (bs : List ℕ) (r : Result ℕ E) → ParsesUnsigned 64 10 bs r → get_or bs 0 0 ≢ 43
    → get_or bs 0 0 ≢ 48 → Finds IsValue decimal bs (result_ok r)
parsed_or_not bs (Ok n) is plus zeros = parsed bs n is plus zeros
parsed_or_not bs (Err e) is plus zeros = unparsed bs is

-- what a test of its range makes of a number
pub in_range : {E : Type 0} (Is : ℕ → Type 0) (bs : List ℕ) (n : ℕ) (r : Result ℕ E) → ((m : ℕ) → Is m → IsValue m)
    → IsValue n → bs ≡ decimal n → OkIff r (Is n) n → Finds Is decimal bs (result_ok r)
in_range Is bs n (Ok m) small fits is ranged = (subst Is (sym ranged.1) ranged.0, is ∙ ap decimal (sym ranged.1))
in_range Is bs n (Err e) small fits is ranged =
    λ a ok whole. ranged (subst Is (decimal_injective a n (small a ok) fits (sym whole ∙ is)) ok)

pub not_ok : {A E : Type 0} (P : Type 0) (x : A) (r : Result A E) → OkIff r P x → result_ok r ≡ None → P → ⊥
not_ok P x (Ok a) is none = absurd cc
not_ok P x (Err e) is none = is
