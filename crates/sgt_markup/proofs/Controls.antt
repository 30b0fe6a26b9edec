-- No control byte stands in an escaped name.
use Rattle.std.proofs.Common.{◌≡◌, ◌≤◌, ◌&&◌, ◌==◌, ℕ, true, List, [], ◌∷◌, codes, inl, inr, refl, sym, subst, arith, leb, ltb, if◌then◌else◌}
use Rattle.std.specs.List.{list_all}
use Rattle.std.proofs.lemmas.Bool.{and_parts, cases_Bool, leb-true, ltb-false}
use Rattle.std.proofs.lemmas.List.Elements.{All-append, All-cons, All-head, All-nil, All-tail}
use Rattle.sgt_markup.specs.Written.{IsEntity, written, written_byte}
use Rattle.sgt_markup.specs.Escaped.{HasNoControl, escaped, mended, mended_behind, mended_byte}
use Rattle.sgt_markup.proofs.Clean.{as-it-is, forms}

abbrev IsHigh : ℕ → Type 0
IsHigh b = 32 ≤ b

one : (b : ℕ) → IsHigh b → HasNoControl (b ∷ [])
one b high = All-cons IsHigh b [] high (All-nil IsHigh)

tested : (text : List ℕ) → list_all (leb 32) text ≡ true → HasNoControl text
tested [] all = All-nil IsHigh
tested (b ∷ text) all =
    let both = and_parts (leb 32 b) (list_all (leb 32) text) all in
    All-cons IsHigh b text (leb-true 32 b both.0) (tested text both.1)

entity : (text : List ℕ) → IsEntity text → HasNoControl text
entity text (inl is) = subst HasNoControl (sym is) (tested (codes "&lt;") refl)
entity text (inr (inl is)) = subst HasNoControl (sym is) (tested (codes "&gt;") refl)
entity text (inr (inr (inl is))) = subst HasNoControl (sym is) (tested (codes "&amp;") refl)
entity text (inr (inr (inr (inl is)))) = subst HasNoControl (sym is) (tested (codes "&quot;") refl)
entity text (inr (inr (inr (inr is)))) = subst HasNoControl (sym is) (tested (codes "&#39;") refl)

byte : (b : ℕ) → IsHigh b → HasNoControl (written_byte b)
byte b high = elim (forms b) [
  | inl is ↦ entity (written_byte b) is
  | inr is ↦ subst HasNoControl (sym (as-it-is b is)) (one b high)
]

of-written : (text : List ℕ) → HasNoControl text → HasNoControl (written text)
of-written [] none = All-nil IsHigh
of-written (b ∷ text) none =
    All-append IsHigh (written_byte b) (written text) (byte b (All-head IsHigh b text none))
    (of-written text (All-tail IsHigh b text none))

last_of_three : (before last b : ℕ) → IsHigh b
    → HasNoControl (if before == 239 && last == 191 && leb 190 b then 189 ∷ [] else b ∷ [])
last_of_three before last b high = elim (cases_Bool (before == 239 && last == 191 && leb 190 b)) [
  | inl is ↦ rw is (one 189 (omega arith))
  | inr is ↦ rw is (one b high)
]

of-byte : (before last b : ℕ) → HasNoControl (mended_byte before last b)
of-byte before last b = elim (cases_Bool (ltb b 32)) [
  | inl is ↦ rw is (tested (239 ∷ 191 ∷ 189 ∷ []) refl)
  | inr is ↦ rw is (last_of_three before last b (ltb-false b 32 is))
]

of-mended : (before last : ℕ) (text : List ℕ) → HasNoControl (mended_behind before last text)
of-mended before last [] = All-nil IsHigh
of-mended before last (b ∷ text) =
    All-append IsHigh (mended_byte before last b) (mended_behind last b text) (of-byte before last b) (of-mended last b text)

pub escaped-no_control : (name : List ℕ) → HasNoControl (escaped name)
escaped-no_control name = of-written (mended name) (of-mended 0 0 name)
