-- What is kept of the lines of an input.
use Rattle.std.proofs.Common.{◌≡◌, ℕ, true, false, List, [], ◌∷◌, ◌++◌, Option, Some, None, IfSome, sym, ap, ◌∙◌, subst}
use Rattle.std.specs.Prelude.{Bool, Result, Ok, Err, IfOk}
use Rattle.sgt_notation.specs.Spelling.{text_of_lines}
use Rattle.sgt_input.specs.Taking.{BeginsSo, Continues, HasLines, TakesLine}

module _ {A : Type 0} (Is : A → Type 0) (lines_of : A → List (List ℕ)) where
  -- one line more of what is kept
  pub took-line : {E : Type 0} (r : Result Bool E) (old new : A) (lines : List (List ℕ)) (line : List ℕ)
      → HasLines Is lines_of old lines
      → IfOk r (Continues Is lines_of old line new)
      → IfOk r (TakesLine (BeginsSo Is lines_of) (HasLines Is lines_of new) lines line)
  took-line (Err e) old new lines line have goes = tt
  took-line (Ok true) old new lines line have goes =
      let on = goes have.0 in
      let same = ap (λ ls. ls ++ line ∷ []) have.1 ∙ sym on.1 in
      ((new, on.0, same), (on.0, same))
  took-line (Ok false) old new lines line have goes =
      λ begins. goes have.0 (subst (λ ls. BeginsSo Is lines_of (ls ++ line ∷ [])) have.1 begins)

  -- the bytes told are the text of what is kept
  pub spelled : (W : Type 0) (told : Option (List ℕ)) (lines : List (List ℕ)) (kept : A) → W → lines ≡ lines_of kept
      → IfSome told (λ bytes. bytes ≡ text_of_lines lines)
      → IfSome told (λ bytes. W × (bytes ≡ text_of_lines (lines_of kept)))
  spelled W None lines kept whole same text = tt
  spelled W (Some bytes) lines kept whole same text = (whole, text ∙ ap text_of_lines same)
