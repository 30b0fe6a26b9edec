-- By what a name sorts whose text was read.
use Rattle.std.proofs.Common.{◌≡◌, ℕ, ◌<◌, ◌^◌, true, false, List, [], ◌∷◌, ◌++◌, get_or, drop, sym, ap, ◌∙◌, arith, decimal, inl, inr}
use Rattle.std.proofs.lemmas.Bool.{cases_eq}
use Rattle.std.proofs.lemmas.Fmt.{decimal_digit, first_decimal}
use Rattle.std.proofs.lemmas.List.{append-nil, same_from_push}
use Rattle.json.specs.Json.{Json, null, boolean, number, string, array, object}
use Rattle.json.specs.Print.{escape, print_from}
use Rattle.sgt_history_text.specs.Name.{IsItem, compact}
use Rattle.sgt_check.specs.Key.{IsKeyOf}
use Rattle.sgt_check.specs.declared.key.Key.{Key}

compact-string : (s : List ℕ) → compact (string s) ≡ 34 ∷ (escape s ++ 34 ∷ [])
unfolding print_from
compact-string s = append-nil (34 ∷ (escape s ++ 34 ∷ []))

compact-number : (digits : List ℕ) → compact (number digits) ≡ digits
unfolding print_from
compact-number digits = append-nil digits

-- digits don't begin with a quotation mark
no_quote : (n : ℕ) (rest : List ℕ) → n < 2 ^ 64 → decimal n ≡ 34 ∷ rest → ⊥
no_quote n rest fits e = elim (cases_eq n 0) [
  | inl zero ↦
      let digit = sym (ap decimal zero ∙ decimal_digit 0 (omega arith)) ∙ e in
      absurd (omega (arith, ap (λ (l : List ℕ). get_or l 0 0) digit))
  | inr some ↦
      let first = first_decimal n (omega (arith, some)) fits in
      absurd (omega (arith, first, ap (λ (l : List ℕ). get_or l 0 0) e))
]

-- the key of a text in quotes
pub quoted_key : (text inside : List ℕ) (last : ℕ) (key : Key) → text ≡ 34 ∷ (inside ++ last ∷ [])
    → key.is_string ≡ true → key.value ≡ 0
    → ((s : List ℕ) → inside ≡ escape s → key.bytes.items ≡ s) → (j : Json) → IsItem j → text ≡ compact j
    → IsKeyOf j key
quoted_key text inside last key there is_string value bytes null is e = absurd is
quoted_key text inside last key there is_string value bytes (boolean b) is e = absurd is
quoted_key text inside last key there is_string value bytes (number digits) (n, fits, whole) e =
    absurd (no_quote n (inside ++ last ∷ []) fits (sym whole ∙ sym (compact-number digits) ∙ sym e ∙ there))
quoted_key text inside last key there is_string value bytes (string s) is e =
    let both : 34 ∷ (inside ++ last ∷ []) ≡ 34 ∷ (escape s ++ 34 ∷ []) = sym there ∙ e ∙ compact-string s in
    (is_string, value, bytes s (same_from_push inside (escape s) last 34 (ap (drop 1) both)).0)
quoted_key text inside last key there is_string value bytes (array js) is e = absurd is
quoted_key text inside last key there is_string value bytes (object ms) is e = absurd is

-- and of one that isn't in quotes
pub bare_key : (text : List ℕ) (key : Key) → ((inside : List ℕ) → text ≡ 34 ∷ (inside ++ 34 ∷ []) → ⊥)
    → key.is_string ≡ false
    → key.value < 2 ^ 64 → key.bytes.items ≡ [] → ((n : ℕ) → n < 2 ^ 64 → text ≡ decimal n → key.value ≡ n)
    → (j : Json) → IsItem j → text ≡ compact j → IsKeyOf j key
bare_key text key none is_string fits bytes value null is e = absurd is
bare_key text key none is_string fits bytes value (boolean b) is e = absurd is
bare_key text key none is_string fits bytes value (number digits) (n, small, whole) e =
    let same = value n small (e ∙ compact-number digits ∙ whole) in
    (is_string, whole ∙ ap decimal (sym same), fits, bytes)
bare_key text key none is_string fits bytes value (string s) is e =
    absurd (none (escape s) (e ∙ compact-string s))
bare_key text key none is_string fits bytes value (array js) is e = absurd is
bare_key text key none is_string fits bytes value (object ms) is e = absurd is
