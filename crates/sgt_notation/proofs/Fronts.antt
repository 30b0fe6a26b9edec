-- What stands at the front of bytes, and what is behind it.
use Rattle.std.proofs.Common.{◌≡◌, inl, inr, ℕ, zero, suc, ◌+◌, ◌-◌, ◌*◌, ◌%◌, ◌<◌, ◌≤◌, ◌^◌, List, [], ◌∷◌, ◌++◌, length, take, drop, get_or, Option, Some, None, refl, sym, ap, ◌∙◌, subst, decimal, append_assoc, append-nil, length-append, length-take, length-drop, arith}
use Rattle.std.proofs.Math.Seq.{drop-append_seam}
use Rattle.std.proofs.lemmas.Fmt.{decimal-digits_value}
use Rattle.core.proofs.dec2flt.Rows.{AllDigits-digits_len}
use Rattle.std.specs.Array.{IsFirstChunk}
use Rattle.std.specs.Prelude.{IfSome}
use Rattle.std.proofs.lemmas.List.{take_all, take-append-le, drop_all, length-take-le, drop-drop, take-append-drop, get_or-take}
use Rattle.std.proofs.lemmas.Slice.{between_from_start}
use Rattle.std.proofs.lemmas.Str.Parse.{digits_value_short}
use Rattle.std.specs.Float.Numeral.{digits_len}
use Rattle.std.specs.Prelude.{slice_range}
use Rattle.std.specs.Str.Parse.{AllDigits, digits_value}
use Rattle.sgt_names.specs.Name.{IsName, SpellsFront}
use Rattle.sgt_notation.specs.Lines.{Ahead, GaveNext, Spends, coming, passed, stream, Gives}
use Rattle.sgt_notation.specs.Private.{Spans}
use Rattle.sgt_notation.specs.Spelling.{HasNoLf, IsValue}
use Rattle.sgt_notation.specs.declared.lines.Next.TheVariants.{Line}
use Rattle.sgt_notation.proofs.Numbers.{own}

-- ---- places

pub spans_front : (bytes : List ℕ) (n : ℕ) (text : List ℕ) → n ≤ length bytes → take n bytes ≡ text
    → Spans bytes 0 text n
spans_front bytes n text within e = record {
  within = within;
  reads = sym (take-append-drop n bytes)
      ∙ ap (λ t. t ++ drop n bytes) e;
}

-- what stands up to the end is all
pub spans_whole : (bytes text : List ℕ) (n : ℕ) → length bytes ≤ n → Spans bytes 0 text n → bytes ≡ text
spans_whole bytes text n all s = s.reads ∙ (ap (λ t. text ++ t) (drop_all n bytes all) ∙ append-nil text)

-- what stands at the front of the first bytes stands at the front of all
pub take-front : (bytes : List ℕ) (n m : ℕ) → n ≤ m → take n (take m bytes) ≡ take n bytes
take-front bytes zero m few = refl
take-front [] (suc n) zero few = refl
take-front [] (suc n) (suc m) few = refl
take-front (b ∷ bs) (suc n) zero few = absurd (omega (arith, few))
take-front (b ∷ bs) (suc n) (suc m) few = ap (λ (t : List ℕ). b ∷ t) (take-front bs n m (omega (arith, few)))

pub leading_found : (bytes chunk : List ℕ) (r : Option (List ℕ × ℕ)) → IsFirstChunk bytes chunk 16
    → IfSome r (λ r. SpellsFront chunk r.1 × (r.0 ≡ take r.1 chunk))
    → IfSome r (λ r. IsName r.0 × Spans bytes 0 r.0 r.1)
leading_found bytes chunk None first found = tt
leading_found bytes chunk (Some (item, n)) first found =
    let front = found.0 in
    let long : length chunk ≡ 16 = ap length first.same ∙ length-take-le 16 bytes first.enough in (
      subst IsName (sym found.1) front.1,
      spans_front bytes n item (omega (arith, front.0, long, first.enough))
          (sym (take-front bytes n 16 (omega (arith, front.0, long))) ∙ ap (take n) (sym first.same) ∙ sym found.1),
    )

taken : (bytes text : List ℕ) (n : ℕ) → Spans bytes 0 text n → take n bytes ≡ text
taken bytes text n s =
    let size : length bytes ≡ length text + length (drop n bytes) = ap length s.reads
    ∙ length-append text (drop n bytes) in
    let left = length-drop n bytes in
    let within = s.within in
    let all : n ≡ length text = omega arith in
    ap (take n) s.reads ∙ (take-append-le n text (drop n bytes) (omega (arith, all))
    ∙ take_all n text (omega (arith, all)))

-- what stands at the front of the first bytes, as a whole text, stands at the front of all
spans_room : (bytes room text : List ℕ) (m n : ℕ) → IsFirstChunk bytes room m → Spans room 0 text n
    → Spans bytes 0 text n
spans_room bytes room text m n first s =
    let size : length room ≡ m = ap length first.same ∙ length-take-le m bytes first.enough in
    let within = s.within in
    let enough = first.enough in
    spans_front bytes n text (omega arith) (sym (take-front bytes n m (omega arith))
    ∙ (ap (take n) (sym first.same) ∙ taken room text n s))

pub room_found : {A : Type 0} (Is : A → Type 0) (text : A → List ℕ) (bytes room : List ℕ) (m : ℕ) (r : Option (A × ℕ))
    → IsFirstChunk bytes room m
    → IfSome r (λ r. Is r.0 × Spans room 0 (text r.0) r.1) → IfSome r (λ r. Is r.0 × Spans bytes 0 (text r.0) r.1)
room_found Is text bytes room m None first found = tt
room_found Is text bytes room m (Some (a, n)) first found = (found.0, spans_room bytes room (text a) m n first found.1)

pub spans_word : (bytes : List ℕ) (from : ℕ) (word rest last : List ℕ) → from ≤ length bytes → rest ≡ drop from bytes
    → rest ≡ word ++ last → Spans bytes from word (from + length word)
spans_word bytes from word rest last within is starts =
    let size : length rest ≡ length word + length last = ap length starts ∙ length-append word last in
    let left : length rest ≡ length bytes - from = ap length is ∙ length-drop from bytes in
    let behind : drop (from + length word) bytes ≡ last = sym (drop-drop (length word) from bytes)
    ∙ (ap (drop (length word)) (sym is ∙ starts) ∙ drop-append_seam word last) in
    record { within = omega arith; reads = sym is ∙ (starts ∙ ap (λ r. word ++ r) (sym behind)) }

-- ---- numbers

-- digits with no leading zero are the number that they write
pub front_digits : (bytes : List ℕ) (n value : ℕ) → n ≤ digits_len bytes → value ≡ digits_value 10 (take n bytes)
    → 0 < n → n ≤ 19 → n ≤ length bytes → (get_or bytes 0 0 ≡ 48 → n ≤ 1)
    → IsValue value × Spans bytes 0 (decimal value) n
front_digits bytes n value end was some short within plain =
    let front = take n bytes in
    let digits : AllDigits 10 front = AllDigits-digits_len bytes n end in
    let size : length front ≡ n = rw length-take (omega arith) in
    let small : digits_value 10 front < 10 ^ 19 = digits_value_short own front 19 digits (omega arith) in
    let first : get_or front 0 0 ≡ get_or bytes 0 0 = get_or-take n bytes 0 0 some in
    let text : decimal (digits_value 10 front) ≡ front =
    decimal-digits_value own front digits (omega arith) (λ z. let one = plain (sym first ∙ z) in
    omega arith) (omega arith) in
    (omega arith, spans_front bytes n (decimal value) within (sym text ∙ ap decimal (sym was)))

pub front_number : (bytes : List ℕ) (n value k : ℕ) → n ≡ digits_len bytes
    → value ≡ (0 * k + digits_value 10 (slice_range bytes 0 n)) % 2 ^ 64 → 0 < n → n ≤ 19 → n ≤ length bytes
    → (get_or bytes 0 0 ≡ 48 → n ≤ 1)
    → IsValue value × Spans bytes 0 (decimal value) n
front_number bytes n value k end wrapped some short within plain =
    let front = take n bytes in
    let digits : AllDigits 10 front = AllDigits-digits_len bytes n (omega arith) in
    let size : length front ≡ n = rw length-take (omega arith) in
    let small : digits_value 10 front < 10 ^ 19 = digits_value_short own front 19 digits (omega arith) in
    let range : digits_value 10 (slice_range bytes 0 n) ≡ digits_value 10 front =
    ap (digits_value 10) (between_from_start bytes n) in
    front_digits bytes n value (omega arith) (omega arith) some short within plain

-- ---- lines that are held

held_splits : (n : ℕ) (held line : List ℕ) → n ≤ length held → take n held ≡ line ++ 10 ∷ []
    → held ≡ line ++ 10 ∷ drop n held
held_splits n held line within e = sym (take-append-drop n held)
    ∙ (ap (λ t. t ++ drop n held) e ∙ append_assoc line (10 ∷ []) (drop n held))

gives_held : (limit n : ℕ) (old : Ahead) (told : Option (List ℕ)) (line : List ℕ) → HasNoLf line → length line ≤ limit
    → n ≤ length old.held → take n old.held ≡ line ++ 10 ∷ []
    → Gives limit (coming old told) Line line (coming (passed n old) told)
gives_held limit n old None line plain short within e = tt
gives_held limit n old (Some xs) line plain short within e = (
  plain,
  short,
  ap (λ h. h ++ xs) (held_splits n old.held line within e)
      ∙ append_assoc line (10 ∷ drop n old.held) xs,
)

pub spends_none : (reads : ℕ) (told : Option (List ℕ)) → Spends reads told reads told
spends_none reads None = tt
spends_none reads (Some xs) = omega arith

-- a held line that is passed over is what comes next
pub passed-next : (limit n : ℕ) (old : Ahead) (told : Option (List ℕ)) (failures : ℕ) (line : List ℕ) → HasNoLf line
    → length line ≤ limit → n ≤ length old.held → take n old.held ≡ line ++ 10 ∷ []
    → GaveNext limit (stream old told failures) Line line (stream (passed n old) told failures)
passed-next limit n old told failures line plain short within e =
    let some : length old.held ≡ length line + (1 + length (drop n old.held)) =
    ap length (held_splits n old.held line within e) ∙ (length-append line (10 ∷ drop n old.held) ∙ omega arith) in
    record {
      gives = gives_held limit n old told line plain short within e;
      quiet = refl;
      spends = spends_none old.reads told;
      falls = λ _. omega arith;
      ended = λ w. elim w [ inl c ↦ absurd cc | inr c ↦ absurd cc ];
      unlimited = λ _ c. absurd cc;
    }
