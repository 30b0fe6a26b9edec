-- Tries for a text, one after another.
use Rattle.std.proofs.Common.{suc, ◌≡◌, ℕ, ◌+◌, ◌-◌, ◌<◌, ◌≤◌, List, [], ◌∷◌, length, get_or, slice_get, Some, ap, sym, refl, ◌∙◌, arith}
use Rattle.std.specs.Int.Bits.{bit_and}
use Rattle.std.proofs.lemmas.Nat.{and_le_r}
use Rattle.std.proofs.lemmas.Option.{slice_get-get_or}
use Rattle.sgt_history_text.specs.Table.{hashed, start_of, probe, AreKnown, IsPassed, IsPlaced}

pub probe_is : (slots text : List ℕ) (start try : ℕ) → start ≡ start_of text
    → bit_and (start + try) (length slots - 1) ≡ probe slots text try
probe_is slots text start try e = ap (λ s. bit_and (s + try) (length slots - 1)) e

pub start_short : (text : List ℕ) → length text < 2 → 0 ≡ start_of text
unfolding start_of
start_short [] h = refl
start_short (byte ∷ []) h = refl
start_short (first ∷ second ∷ more) h = absurd (omega arith)

pub start_long : (text : List ℕ) (start : ℕ) → 2 ≤ length text → start ≡ hashed text → start ≡ start_of text
unfolding start_of
start_long [] start long e = absurd (omega arith)
start_long (byte ∷ []) start long e = absurd (omega arith)
start_long (first ∷ second ∷ more) start long e = e

pub slot-within : (slots : List ℕ) (x : ℕ) → 0 < length slots → bit_and x (length slots - 1) < length slots
slot-within slots x h = omega (arith, and_le_r x (length slots - 1))

pub passed_here : (names : List (List ℕ)) (slots text : List ℕ) (try slot : ℕ) → AreKnown (length names) slots
    → slot ≡ probe slots text try
    → slot < length slots → (get_or slots slot 0 ≡ 0 → ⊥) → (slice_get names (get_or slots slot 0 - 1) ≡ Some text
    → ⊥) → IsPassed names slots text try
passed_here names slots text try slot known e h taken other =
    let n = get_or slots slot 0 in
    let back : n ≡ suc (n - 1) = omega arith in
    let at : slice_get slots slot ≡ Some (suc (n - 1)) = slice_get-get_or slots slot 0 h ∙ ap Some back in
    record { number = n - 1; known = known slot (n - 1) at; taken = ap (slice_get slots) (sym e) ∙ at; other = other }

pub known_here : (count : ℕ) (slots : List ℕ) (slot : ℕ) → AreKnown count slots → slot < length slots
    → (get_or slots slot 0 ≡ 0 → ⊥) → get_or slots slot 0 - 1 < count
known_here count slots slot known h taken =
    let n = get_or slots slot 0 in
    let back : n ≡ suc (n - 1) = omega arith in
    known slot (n - 1) (slice_get-get_or slots slot 0 h ∙ ap Some back)

pub met_here : (names : List (List ℕ)) (slots text : List ℕ) (try slot : ℕ) → slot ≡ probe slots text try → try < 64
    → slot < length slots → (get_or slots slot 0 ≡ 0 → ⊥) → ((k : ℕ) → k < try → IsPassed names slots text k)
    → IsPlaced names slots text (get_or slots slot 0 - 1)
met_here names slots text try slot e soon h taken passed =
    let n = get_or slots slot 0 in
    let back : n ≡ suc (n - 1) = omega arith in
    record {
      try = try;
      soon = soon;
      there = ap (slice_get slots) (sym e) ∙ slice_get-get_or slots slot 0 h
          ∙ ap Some back;
      passed = passed;
    }

pub free_here : (slots : List ℕ) (slot : ℕ) → slot < length slots → get_or slots slot 0 ≡ 0
    → slice_get slots slot ≡ Some 0
free_here slots slot h e = slice_get-get_or slots slot 0 h ∙ ap Some e
