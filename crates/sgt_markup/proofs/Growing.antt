-- A mended text that grows by a byte.
use Rattle.std.proofs.Common.{◌≡◌, ◌+◌, ◌++◌, ℕ, List, [], ◌∷◌, Some, take, add-one, refl, sym, ap, ◌∙◌, append_assoc, append-nil}
use Rattle.std.specs.Prelude.{slice_get}
use Rattle.std.proofs.Math.Seq.{take-suc}
use Rattle.std.proofs.lemmas.Option.{get_or_from_slice_get, slice_get_within}
use Rattle.sgt_markup.specs.Escaped.{mended, mended_behind, mended_byte}

next : (text : List ℕ) (k b : ℕ) → slice_get text k ≡ Some b → take (k + 1) text ≡ take k text ++ b ∷ []
next text k b at =
    ap (λ n. take n text) (add-one k) ∙ take-suc text k b (slice_get_within text k b at)
    ∙ ap (λ (n : ℕ). take k text ++ n ∷ []) (get_or_from_slice_get text k b b at)

-- the last byte of a text behind these two, and the one before it
abbrev pub last_of : (before last : ℕ) → List ℕ → ℕ
last_of before last [] = last
last_of before last (b ∷ text) = last_of last b text

abbrev pub before_of : (before last : ℕ) → List ℕ → ℕ
before_of before last [] = before
before_of before last (b ∷ text) = before_of last b text

pub last-push : (before last : ℕ) (text : List ℕ) (b : ℕ) → last_of before last (text ++ b ∷ []) ≡ b
last-push before last [] b = refl
last-push before last (c ∷ text) b = last-push last c text b

pub before-push : (before last : ℕ) (text : List ℕ) (b : ℕ)
    → before_of before last (text ++ b ∷ []) ≡ last_of before last text
before-push before last [] b = refl
before-push before last (c ∷ text) b = before-push last c text b

pub mended-push : (before last : ℕ) (text : List ℕ) (b : ℕ) → mended_behind before last (text ++ b ∷ [])
    ≡ mended_behind before last text ++ mended_byte (before_of before last text) (last_of before last text) b
mended-push before last [] b = append-nil (mended_byte before last b)
mended-push before last (c ∷ text) b =
    ap (λ (t : List ℕ). mended_byte before last c ++ t) (mended-push last c text b)
    ∙ sym (append_assoc (mended_byte before last c) (mended_behind last c text)
    (mended_byte (before_of last c text) (last_of last c text) b))

-- one more byte of a text
pub mended-next : (text : List ℕ) (k before last b : ℕ) (old new : List ℕ) → slice_get text k ≡ Some b
    → old ≡ mended (take k text)
    → before ≡ before_of 0 0 (take k text) → last ≡ last_of 0 0 (take k text) → new ≡ old ++ mended_byte before last b
    → (new ≡ mended (take (k + 1) text)) × (last ≡ before_of 0 0 (take (k + 1) text))
    × (b ≡ last_of 0 0 (take (k + 1) text))
mended-next text k before last b old new at so_far is_before is_last grown =
    let more = sym (next text k b at) in (
      grown ∙ ap (λ (t : List ℕ). t ++ mended_byte before last b) so_far
          ∙ ap (λ (n : ℕ). mended (take k text) ++ mended_byte n last b) is_before
          ∙ ap (λ (n : ℕ). mended (take k text) ++ mended_byte (before_of 0 0 (take k text)) n b) is_last
          ∙ sym (mended-push 0 0 (take k text) b) ∙ ap mended more,
      is_last ∙ sym (before-push 0 0 (take k text) b) ∙ ap (before_of 0 0) more,
      sym (last-push 0 0 (take k text) b) ∙ ap (last_of 0 0) more,
    )
