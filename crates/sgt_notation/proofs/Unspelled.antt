-- Operations, holdings, entries and lines that the bytes do not spell.
use Rattle.std.proofs.Common.{◌≡◌, ◌≢◌, ℕ, List, [], ◌∷◌, ◌++◌, length, All, refl, sym, ap, ◌∙◌, subst, arith, append_assoc, lit<}
use Rattle.std.specs.Prelude.{decimal}
use Rattle.std.proofs.lemmas.List.Elements.{recursion_from_All}
use Rattle.sgt_names.specs.Name.{Name}
use Rattle.sgt_names.specs.declared.entry.Entry.TheVariants.{Read, Write, Add, Want, WantAdd}
use Rattle.sgt_names.specs.declared.entry.Holding.{Holding}
use Rattle.sgt_names.proofs.Lists.{tails}
use Rattle.sgt_notation.specs.Private.{IsOperation, operation_text}
use Rattle.sgt_notation.specs.Reading.{SpellsNone}
use Rattle.sgt_notation.specs.Spelling.{assignment, entry_text, IsEntry, IsHolding}
use Rattle.sgt_notation.proofs.OneSpelling.{HasNot, apart, cut_at_byte, decimal-without, name-without, operation-is, small-tx}

never_by : (at : ℕ) (a b : List ℕ) → HasNot at (a ++ at ∷ b) → ⊥
never_by at [] b h = h.0 refl
never_by at (x ∷ a) b h = never_by at a b h.1

pub never : (at : ℕ) (bs a b : List ℕ) → All (λ x. x ≢ at) bs → bs ≡ a ++ at ∷ b → ⊥
never at bs a b h e = never_by at a b (recursion_from_All (λ x. x ≢ at) (a ++ at ∷ b) (subst (All (λ x. x ≢ at)) e h))

-- ---- operations

text-is : (o : ℕ × Name × ℕ) → operation_text o ≡ decimal o.0 ++ 91 ∷ (o.1 ++ 93 ∷ (61 ∷ decimal o.2))
text-is o = operation-is o.0 o.1 o.2

pub first_of : (bs tx tail : List ℕ) (o : ℕ × Name × ℕ) → bs ≡ tx ++ 91 ∷ tail → All (λ x. x ≢ 91) tx → IsOperation o
    → bs ≡ operation_text o → (tx ≡ decimal o.0) × (tail ≡ o.1 ++ 93 ∷ (61 ∷ decimal o.2))
first_of bs tx tail o e plain is whole =
    cut_at_byte 91 tx (decimal o.0) tail (o.1 ++ 93 ∷ (61 ∷ decimal o.2)) (recursion_from_All (λ x. x ≢ 91) tx plain)
    (decimal-without 91 o.0 (lit< tt) (small-tx o.0 is.0)) (sym e ∙ whole ∙ text-is o)

pub parts_of : (bs tx tail name last : List ℕ) (o : ℕ × Name × ℕ) → bs ≡ tx ++ 91 ∷ tail → All (λ x. x ≢ 91) tx
    → tail ≡ name ++ 93 ∷ last → All (λ x. x ≢ 93) name → IsOperation o → bs ≡ operation_text o
    → (tx ≡ decimal o.0) × (name ≡ o.1) × (last ≡ 61 ∷ decimal o.2)
parts_of bs tx tail name last o e plain f closed is whole =
    let first = first_of bs tx tail o e plain is whole in
    let second = cut_at_byte 93 name o.1 last (61 ∷ decimal o.2) (recursion_from_All (λ x. x ≢ 93) name closed)
    (name-without 93 refl o.1 is.1) (sym f ∙ first.1) in
    (first.0, second.0, second.1)

pub some_byte : (bs : List ℕ) (x : ℕ) (xs : List ℕ) → length bs ≡ 0 → bs ≡ x ∷ xs → ⊥
some_byte bs x xs empty e = let same = ap length e in absurd (omega (arith, same, empty))

-- ---- holdings

holding-is : (h : Holding) → assignment h.item h.value ≡ h.item ++ 61 ∷ decimal h.value
holding-is h = append_assoc h.item (61 ∷ []) (decimal h.value)

pub sides_of : (bs name last : List ℕ) (h : Holding) → bs ≡ name ++ 61 ∷ last → All (λ x. x ≢ 61) name → IsHolding h
    → bs ≡ assignment h.item h.value → (name ≡ h.item) × (last ≡ decimal h.value)
sides_of bs name last h e plain is whole =
    cut_at_byte 61 name h.item last (decimal h.value) (recursion_from_All (λ x. x ≢ 61) name plain)
    (name-without 61 refl h.item is.0) (sym e ∙ whole ∙ holding-is h)

-- ---- entries: behind the letter of a kind stands no such entry

pub read_not : (line rest : List ℕ) → line ≡ 114 ∷ rest → SpellsNone IsOperation operation_text rest
    → SpellsNone IsEntry entry_text line
read_not line rest is none (Read tx x v) ok whole = none (tx, x, v) ok (tails _ _ _ _ (sym is ∙ whole))
read_not line rest is none e ok whole = absurd (apart (114 ∷ rest) (entry_text e) refl (sym is ∙ whole))

pub write_not : (line rest : List ℕ) → line ≡ 119 ∷ rest → SpellsNone IsOperation operation_text rest
    → SpellsNone IsEntry entry_text line
write_not line rest is none (Write tx x v) ok whole = none (tx, x, v) ok (tails _ _ _ _ (sym is ∙ whole))
write_not line rest is none e ok whole = absurd (apart (119 ∷ rest) (entry_text e) refl (sym is ∙ whole))

pub add_not : (line rest : List ℕ) → line ≡ 100 ∷ rest → SpellsNone IsOperation operation_text rest
    → SpellsNone IsEntry entry_text line
add_not line rest is none (Add tx x v) ok whole = none (tx, x, v) ok (tails _ _ _ _ (sym is ∙ whole))
add_not line rest is none e ok whole = absurd (apart (100 ∷ rest) (entry_text e) refl (sym is ∙ whole))

pub want_not : (line rest : List ℕ) → line ≡ 112 ∷ rest → SpellsNone IsOperation operation_text rest
    → SpellsNone IsEntry entry_text line
want_not line rest is none (Want tx x v) ok whole = none (tx, x, v) ok (tails _ _ _ _ (sym is ∙ whole))
want_not line rest is none e ok whole = absurd (apart (112 ∷ rest) (entry_text e) refl (sym is ∙ whole))

pub want_add_not : (line rest : List ℕ) → line ≡ 113 ∷ rest → SpellsNone IsOperation operation_text rest
    → SpellsNone IsEntry entry_text line
want_add_not line rest is none (WantAdd tx x v) ok whole = none (tx, x, v) ok (tails _ _ _ _ (sym is ∙ whole))
want_add_not line rest is none e ok whole = absurd (apart (113 ∷ rest) (entry_text e) refl (sym is ∙ whole))
