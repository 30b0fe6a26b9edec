-- Numbers of up to seven digits, as they are read from eight bytes.
use Rattle.std.proofs.Common.{◌≡◌, ℕ, ◌<◌, ◌≤◌, List, [], ◌∷◌, length, take, get_or, ap, ◌∙◌, decimal, arith}
use Rattle.std.proofs.lemmas.List.{get_or-take}
use Rattle.std.specs.Array.{IsFirstChunk}
use Rattle.std.specs.Float.Numeral.{digits_len}
use Rattle.std.specs.Int.{w64, from_le_bytes}
use Rattle.std.specs.Str.Parse.{digits_value}
use Rattle.core.specs.Dec2flt.Digits.{IsEightBytes}
use Rattle.core.proofs.dec2flt.DigitsLemmas.{digits_len_short}
use Rattle.core.proofs.dec2flt.Eight.{eight_at}
use lib.Lanes.{number_l}
use Rattle.sgt_notation.specs.Private.{Spans}
use Rattle.sgt_notation.specs.Spelling.{IsValue}
use Rattle.sgt_notation.proofs.Fronts.{front_digits, take-front}

-- the word of eight bytes
word_is : (xs : List ℕ) → length xs ≡ 8 → from_le_bytes w64 xs ≡ number_l 256 xs
word_is [] e = absurd (omega (arith, e))
word_is (a ∷ []) e = absurd (omega (arith, e))
word_is (a ∷ b ∷ []) e = absurd (omega (arith, e))
word_is (a ∷ b ∷ c ∷ []) e = absurd (omega (arith, e))
word_is (a ∷ b ∷ c ∷ d ∷ []) e = absurd (omega (arith, e))
word_is (a ∷ b ∷ c ∷ d ∷ f ∷ []) e = absurd (omega (arith, e))
word_is (a ∷ b ∷ c ∷ d ∷ f ∷ g ∷ []) e = absurd (omega (arith, e))
word_is (a ∷ b ∷ c ∷ d ∷ f ∷ g ∷ i ∷ []) e = absurd (omega (arith, e))
word_is (a ∷ b ∷ c ∷ d ∷ f ∷ g ∷ i ∷ j ∷ k ∷ xs) e = absurd (omega (arith, e))
word_is (a ∷ b ∷ c ∷ d ∷ f ∷ g ∷ i ∷ j ∷ []) e = omega arith

-- what the digits of a word's bytes are, where they are not all digits
abbrev pub Reads : (word n value : ℕ) → Type 0
Reads word n value = (xs : List ℕ) → IsEightBytes xs → word ≡ number_l 256 xs → n < 8
    → (n ≡ digits_len xs) × (value ≡ digits_value 10 (take n xs))

pub short_number : (bytes chunk : List ℕ) (n value : ℕ) → ((k : ℕ) → get_or bytes k 0 < 256)
    → IsFirstChunk bytes chunk 8 → Reads (from_le_bytes w64 chunk) n value
    → 0 < n → n < 8 → (get_or chunk 0 0 ≡ 48 → n ≤ 1) → IsValue value × Spans bytes 0 (decimal value) n
short_number bytes chunk n value fits first reads some few plain =
    let front = take 8 bytes in
    let eight : IsEightBytes front = eight_at bytes 0 fits first.enough in
    let word : from_le_bytes w64 chunk ≡ number_l 256 front = ap (from_le_bytes w64) first.same
    ∙ word_is front eight.0 in
    let r = reads front eight word few in
    let end : digits_len bytes ≡ digits_len front = digits_len_short bytes 8 (omega (arith, r.0, few)) in
    let here : get_or chunk 0 0 ≡ get_or bytes 0 0 = ap (λ l. get_or l 0 0) first.same
    ∙ get_or-take 8 bytes 0 0 (omega arith) in
    front_digits bytes n value (omega (arith, end, r.0)) (r.1
    ∙ ap (digits_value 10) (take-front bytes n 8 (omega (arith, few)))) some (omega (arith, few))
    (let enough = first.enough in omega (arith, enough, few)) (λ z. plain (here ∙ z))
