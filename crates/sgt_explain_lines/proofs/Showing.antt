-- A text that is shown, and cut where it takes too many columns.
use Rattle.std.proofs.Common.{◌≡◌, ℕ, ◌+◌, ◌<◌, ◌≤◌, List, [], ◌∷◌, ◌++◌, length, take, drop, codes, Some, refl, sym, ap, ◌∙◌, arith, length-append}
use Rattle.std.specs.Prelude.{◌^◌, ◌-◌, ◌/◌, ◌%◌, Bool, false, slice_get}
use Rattle.std.specs.Fmt.{digits, digit_glyph, padded_integral, format_spec}
use Rattle.std.proofs.lemmas.Fmt.{hex_byte}
use Rattle.std.proofs.lemmas.Grind.{flat_map-append}
use Rattle.std.proofs.lemmas.List.{append-nil, take-append-drop}
use Rattle.sgt_names.proofs.Lists.{take_next}
use Rattle.sgt_explain_lines.specs.Told.{shown_byte, shown_bytes, IsShown}

-- a byte in two hexadecimal digits
pub hex_two : (upper : Bool) (n : ℕ) → n < 256
    → padded_integral (format_spec 32 0 4 2 (2 ^ 64 - 1)) false [] (digits 16 upper n) ≡ digit_glyph upper
    (n / 16) ∷ digit_glyph upper (n % 16) ∷ []
hex_two = hex_byte

-- one more byte
next-shown : (text : List ℕ) (i b : ℕ) → slice_get text i ≡ Some b
    → shown_bytes (take (i + 1) text) ≡ shown_bytes (take i text) ++ shown_byte b
next-shown text i b at = ap shown_bytes (take_next text i b at) ∙ flat_map-append shown_byte (take i text) (b ∷ [])
    ∙ ap (λ t. shown_bytes (take i text) ++ t) (append-nil (shown_byte b))

pub cut-off : (text : List ℕ) (i b : ℕ) → slice_get text i ≡ Some b → length (shown_bytes (take i text)) ≤ 71
    → 71 < length (shown_bytes (take i text)) + length (shown_byte b) → IsShown text (shown_bytes (take i text) ++ codes "..")
cut-off text i b at fits wide =
    let one = length-append (shown_bytes (take i text)) (shown_byte b) in
    let next = ap length (next-shown text i b at) in
    let rest = shown_bytes (drop (i + 1) text) in
    let all = ap (λ t. length (shown_bytes t)) (sym (take-append-drop (i + 1) text))
    ∙ ap length (flat_map-append shown_byte (take (i + 1) text) (drop (i + 1) text))
    ∙ length-append (shown_bytes (take (i + 1) text)) rest in
    record {
      whole = λ le. absurd (omega (arith, one, next, all, le, wide));
      cut = λ more. (i, fits, omega (arith, one, next, wide), refl);
    }
