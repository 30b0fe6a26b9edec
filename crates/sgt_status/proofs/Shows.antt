-- A name is told one character behind the other.
use Rattle.std.proofs.Common.{◌≡◌, ℕ, List, [], ◌∷◌, ◌++◌, sym, ap, ◌∙◌, append_assoc}
use Rattle.std.proofs.lemmas.List.{append-nil}
use Rattle.sgt_status.specs.Shown.{shown, shown_letter}

pub shown_more : (before : List ℕ) (letter : ℕ) → shown (before ++ letter ∷ []) ≡ shown before ++ shown_letter letter
shown_more [] letter = append-nil (shown_letter letter)
shown_more (first ∷ before) letter = ap (λ (text : List ℕ). shown_letter first ++ text) (shown_more before letter)
    ∙ sym (append_assoc (shown_letter first) (shown before) (shown_letter letter))
