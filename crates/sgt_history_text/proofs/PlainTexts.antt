-- Texts between places, and keys and values in the plain layout.
use Rattle.std.proofs.Common.{◌≡◌, ℕ, suc, ◌+◌, ◌-◌, ◌/◌, ◌%◌, ◌<◌, ◌≤◌, true, cond, nat_lt, List, [], ◌∷◌, ◌++◌, length, take, drop, get_or, inl, refl, sym, ap, ◌∙◌, subst, arith, decimal, append_assoc, append-nil, length-append, length-drop, take-append-drop}
use Rattle.std.specs.Prelude.{◌^◌}
use Rattle.std.proofs.lemmas.List.{take_all, take-append-le, drop-drop, length-take-le, get_or-take, get_or-drop}
use Rattle.json.specs.Json.{Json, number, string}
use Rattle.std.proofs.lemmas.Bool.{lt-ltb}
use Rattle.std.proofs.lemmas.Grind.{flat_map-append}
use Rattle.std.specs.Char.{digit_char}
use Rattle.json.specs.Print.{escape, escape_byte, escape_letter, print_from}
use Rattle.json.proofs.Printed.Strings.{escape_byte_plain}
use Rattle.sgt_notation.specs.Private.{Spans}
use Rattle.sgt_history_text.specs.Name.{IsKey, IsValue, compact}
use Rattle.sgt_history_text.specs.Plain.{IsBare, IsCompactOf}

-- ---- texts between places

pub span_text : (bytes text : List ℕ) (from to : ℕ) → Spans bytes from text to
    → take (to - from) (drop from bytes) ≡ text
span_text bytes text from to s =
    let size : length (drop from bytes) ≡ length text + length (drop to bytes) = ap length s.reads
    ∙ length-append text (drop to bytes) in
    let within = s.within in
    let long : to - from ≡ length text = omega (arith, size, within, length-drop from bytes, length-drop to bytes) in
    ap (take (to - from)) s.reads ∙ (take-append-le (to - from) text (drop to bytes) (omega (arith, long))
    ∙ take_all (to - from) text (omega (arith, long)))

pub spans_then : (bytes xs ys : List ℕ) (a b c : ℕ) → Spans bytes a xs b → Spans bytes b ys c
    → Spans bytes a (xs ++ ys) c
spans_then bytes xs ys a b c first second = record {
  within = second.within;
  reads = first.reads ∙ (ap (λ t. xs ++ t) second.reads ∙ sym (append_assoc xs ys (drop c bytes)));
}

-- ---- strings with no escape

escape_bare : (s : List ℕ) → ((k : ℕ) → k < length s → IsBare (get_or s k 0)) → escape s ≡ s
escape_bare [] bare = refl
escape_bare (x ∷ xs) bare =
    let here = bare 0 (omega arith) in
    let rest = escape_bare xs (λ k h. bare (suc k) (omega arith)) in
    λ i. escape_byte_plain x here.1 here.2 here.0 i ++ rest i

pub compact_string : (s : List ℕ) → compact (string s) ≡ 34 ∷ (escape s ++ 34 ∷ [])
unfolding print_from
compact_string s = append-nil (34 ∷ (escape s ++ 34 ∷ []))

-- what stands between the places where no byte needs an escape
pub bare_spans : (bytes : List ℕ) (begin end : ℕ) → begin ≤ end → end ≤ length bytes
    → ((k : ℕ) → begin ≤ k → k < end → IsBare (get_or bytes k 0))
    → (s : List ℕ) × (length s ≡ end - begin) × (escape s ≡ s) × Spans bytes begin s end
bare_spans bytes begin end order within bare =
    let rest = drop begin bytes in
    let s = take (end - begin) rest in
    let room : end - begin ≤ length rest = omega (arith, length-drop begin bytes) in
    let size : length s ≡ end - begin = length-take-le (end - begin) rest room in
    let behind : drop (end - begin) rest ≡ drop end bytes = drop-drop (end - begin) begin bytes
    ∙ ap (λ k. drop k bytes) (omega arith) in (
      s,
      size,
      escape_bare s (λ k h. subst IsBare
          (sym (get_or-take (end - begin) rest k 0 (omega (arith, size, h)) ∙ get_or-drop begin bytes k 0))
          (bare (begin + k) (omega arith) (omega (arith, size, h)))),
      record {
        within = within;
        reads = sym (take-append-drop (end - begin) rest) ∙ ap (λ t. s ++ t) behind;
      },
    )

pub string_spans : (bytes : List ℕ) (from begin end to : ℕ) → Spans bytes from (34 ∷ []) begin → begin ≤ end
    → end ≤ length bytes
    → ((k : ℕ) → begin ≤ k → k < end → IsBare (get_or bytes k 0)) → Spans bytes end (34 ∷ []) to
    → (s : List ℕ) × (length s ≡ end - begin) × Spans bytes from (compact (string s)) to
string_spans bytes from begin end to quote order within bare close =
    let found = bare_spans bytes begin end order within bare in
    let s = found.0 in (
      s,
      found.1,
      subst (λ t. Spans bytes from t to)
          (ap (λ t. 34 ∷ (t ++ 34 ∷ [])) (sym found.2) ∙ sym (compact_string s))
          (spans_then bytes (34 ∷ []) (s ++ 34 ∷ []) from begin to quote
          (spans_then bytes s (34 ∷ []) begin end to found.3 close)),
    )

-- ---- strings with escapes

escape_append : (s t : List ℕ) → escape (s ++ t) ≡ escape s ++ escape t
escape_append s t = flat_map-append escape_byte s t

module _ (bytes : List ℕ) (from at end : ℕ) (front : (s : List ℕ) × Spans bytes from (34 ∷ escape s) at)
    (order : at ≤ end) (within : end ≤ length bytes)
    (bare : (k : ℕ) → at ≤ k → k < end → IsBare (get_or bytes k 0)) where
  -- with the bytes that need no escape
  longer : (s : List ℕ) × Spans bytes from (34 ∷ escape s) end
  longer =
      let found = bare_spans bytes at end order within bare in (
        front.0 ++ found.0,
        subst (λ t. Spans bytes from (34 ∷ t) end)
            (ap (λ t. escape front.0 ++ t) (sym found.2) ∙ sym (escape_append front.0 found.0))
            (spans_then bytes (34 ∷ escape front.0) found.0 from at end front.1 found.3),
      )

  -- and the escape behind them
  pub escape_more : (to : ℕ) → (x : ℕ) × Spans bytes end (escape_byte x) to
      → (s : List ℕ) × Spans bytes from (34 ∷ escape s) to
  escape_more to (x, next) = (
    longer.0 ++ x ∷ [],
    subst (λ t. Spans bytes from (34 ∷ t) to)
        (ap (λ t. escape longer.0 ++ t) (sym (append-nil (escape_byte x))) ∙ sym (escape_append longer.0 (x ∷ [])))
        (spans_then bytes (34 ∷ escape longer.0) (escape_byte x) from end to longer.1 next),
  )

  pub escape_last : (to : ℕ) → Spans bytes end (34 ∷ []) to
      → (s : List ℕ) × Spans bytes from (compact (string s)) to
  escape_last to close = (
    longer.0,
    subst (λ t. Spans bytes from t to) (sym (compact_string longer.0))
        (spans_then bytes (34 ∷ escape longer.0) (34 ∷ []) from end to longer.1 close),
  )

-- the escapes, by a letter and by digits

pub short_text : (x letter : ℕ) → letter ≡ escape_letter x → (letter ≡ 0 → ⊥)
    → 92 ∷ letter ∷ [] ≡ escape_byte x
unfolding escape_byte
short_text x letter is some =
    let more : nat_lt 0 (escape_letter x) ≡ true = lt-ltb 0 (escape_letter x) (omega arith) in
    ap (λ l. 92 ∷ l ∷ []) is
    ∙ ap (λ b. cond b (92 ∷ escape_letter x ∷ []) (cond (nat_lt x 32) (92 ∷ 117 ∷ 48 ∷ 48 ∷ digit_char (x / 16) ∷ digit_char (x % 16) ∷ []) (x ∷ [])))
    (sym more)

pub long_text : (x : ℕ) → x < 32 → escape_letter x ≡ 0
    → 92 ∷ 117 ∷ 48 ∷ 48 ∷ digit_char (x / 16) ∷ digit_char (x % 16) ∷ [] ≡ escape_byte x
unfolding escape_byte
long_text x small none =
    let digits = 92 ∷ 117 ∷ 48 ∷ 48 ∷ digit_char (x / 16) ∷ digit_char (x % 16) ∷ [] in
    let below : nat_lt x 32 ≡ true = lt-ltb x 32 small in
    ap (λ b. cond b digits (x ∷ [])) (sym below)
    ∙ ap (λ l. cond (nat_lt 0 l) (92 ∷ l ∷ []) (cond (nat_lt x 32) digits (x ∷ []))) (sym none)

-- ---- values

pub compact_number : (digits : List ℕ) → compact (number digits) ≡ digits
unfolding print_from
compact_number digits = append-nil digits

module _ (bytes text : List ℕ) (from to : ℕ) (is : text ≡ take (to - from) (drop from bytes)) where
  written : (j : Json) (Is : Json → Type 0) → Is j → Spans bytes from (compact j) to
      → IsCompactOf Is text × Spans bytes from text to
  written j Is k spans =
      let e : text ≡ compact j = is ∙ span_text bytes (compact j) from to spans in
      (record { value = j; is = k; text_is = e }, subst (λ t. Spans bytes from t to) (sym e) spans)

  pub written_key : (least most size : ℕ) → (least ≤ size) × (size ≤ most)
      → ((s : List ℕ) × (length s ≡ size) × Spans bytes from (compact (string s)) to)
      → IsCompactOf (IsKey least most) text × Spans bytes from text to
  written_key least most size fits (s, long, spans) =
      written (string s) (IsKey least most) (omega (arith, long, fits.0), omega (arith, long, fits.1)) spans

  pub written_number_key : (least most n : ℕ) → n < 2 ^ 64 → Spans bytes from (decimal n) to
      → IsCompactOf (IsKey least most) text × Spans bytes from text to
  written_number_key least most n fits spans =
      written (number (decimal n)) (IsKey least most) (
        n,
        fits,
        refl,
      ) (subst (λ t. Spans bytes from t to) (sym (compact_number (decimal n))) spans)

  pub written_value : (size : ℕ) → ((s : List ℕ) × (length s ≡ size) × Spans bytes from (compact (string s)) to)
      → IsCompactOf IsValue text × Spans bytes from text to
  written_value size (s, long, spans) = written (string s) IsValue tt spans

  pub written_number_value : (n : ℕ) → n < 2 ^ 64 → Spans bytes from (decimal n) to
      → IsCompactOf IsValue text × Spans bytes from text to
  written_number_value n fits spans =
      written (number (decimal n)) IsValue (inl (n, fits, refl))
      (subst (λ t. Spans bytes from t to) (sym (compact_number (decimal n))) spans)

  pub written_escaped : ((s : List ℕ) × Spans bytes from (compact (string s)) to)
      → IsCompactOf IsValue text × Spans bytes from text to
  written_escaped (s, spans) = written (string s) IsValue tt spans
