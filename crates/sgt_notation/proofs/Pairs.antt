-- Texts of two parts, cut at a byte that the first part hasn't: what spells none, and that one pair has one text.
use Rattle.std.proofs.Common.{◌≡◌, ◌≢◌, ℕ, List, ◌∷◌, ◌++◌, All, sym, ap₂, ◌∙◌}
use Rattle.std.proofs.lemmas.List.Elements.{recursion_from_All}
use Rattle.sgt_notation.specs.Reading.{SpellsNone}
use Rattle.sgt_notation.proofs.OneSpelling.{HasNot, cut_at_byte}
use Rattle.sgt_notation.proofs.Unspelled.{never}

-- two parts, each in its range
abbrev pub Both : {A B : Type 0} → (A → Type 0) → (B → Type 0) → A × B → Type 0
Both IsA IsB p = IsA p.0 × IsB p.1

-- the first part, the byte, and the second part
abbrev pub joined : {A B : Type 0} → (A → List ℕ) → ℕ → (B → List ℕ) → A × B → List ℕ
joined ta c tb p = ta p.0 ++ c ∷ tb p.1

-- no two values have the same text
abbrev pub IsOne : {A : Type 0} → (A → Type 0) → (A → List ℕ) → Type 0
IsOne {A} IsA ta = (a b : A) → IsA a → IsA b → ta a ≡ ta b → a ≡ b

-- the text is cut at its first such byte
abbrev pub IsCut : ℕ → (bs x y : List ℕ) → Type 0
IsCut c bs x y = (bs ≡ x ++ c ∷ y) × All (λ b. b ≢ c) x

-- no text of such a value has the byte
abbrev pub IsPlain : {A : Type 0} → ℕ → (A → Type 0) → (A → List ℕ) → Type 0
IsPlain {A} c IsA ta = (a : A) → IsA a → HasNot c (ta a)

module _
    {A B : Type 0} (IsA : A → Type 0) (ta : A → List ℕ) (c : ℕ) (IsB : B → Type 0) (tb : B
    → List ℕ) (plain : IsPlain c IsA ta) where
  parts : (bs x y : List ℕ) → IsCut c bs x y → (p : A × B) → Both IsA IsB p → bs ≡ joined ta c tb p
      → (x ≡ ta p.0) × (y ≡ tb p.1)
  parts bs x y cut p is whole =
      cut_at_byte c x (ta p.0) y (tb p.1) (recursion_from_All (λ b. b ≢ c) x cut.1) (plain p.0 is.0) (sym cut.0 ∙ whole)

  -- there is no such byte
  pub uncut : (bs : List ℕ) → All (λ b. b ≢ c) bs → SpellsNone (Both IsA IsB) (joined ta c tb) bs
  uncut bs h p is whole = never c bs (ta p.0) (tb p.1) h whole

  -- what stands before it is no first part
  pub not_first : (bs x y : List ℕ) → IsCut c bs x y → SpellsNone IsA ta x
      → SpellsNone (Both IsA IsB) (joined ta c tb) bs
  not_first bs x y cut none p is whole = none p.0 is.0 (parts bs x y cut p is whole).0

  -- what stands behind it is no second part
  pub not_second : (bs x y : List ℕ) → IsCut c bs x y → SpellsNone IsB tb y
      → SpellsNone (Both IsA IsB) (joined ta c tb) bs
  not_second bs x y cut none p is whole = none p.1 is.1 (parts bs x y cut p is whole).1

  pub joined-one : IsOne IsA ta → IsOne IsB tb → IsOne (Both IsA IsB) (joined ta c tb)
  joined-one oa ob p q h g e =
      let both = cut_at_byte c (ta p.0) (ta q.0) (tb p.1) (tb q.1) (plain p.0 h.0) (plain q.0 g.0) e in
      ap₂ (λ a b. (a, b)) (oa p.0 q.0 h.0 g.0 both.0) (ob p.1 q.1 h.1 g.1 both.1)
