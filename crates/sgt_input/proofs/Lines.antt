-- Texts of lines, each with its LF.
use Rattle.std.proofs.Common.{◌≡◌, ℕ, List, [], ◌∷◌, refl, sym, ap₂, ◌∙◌}
use Rattle.std.specs.List.{AllByRecursion}
use Rattle.sgt_notation.specs.Spelling.{text_of_lines}
use Rattle.sgt_notation.proofs.OneSpelling.{HasNot, cut_at_byte}
use Rattle.sgt_notation.proofs.Texts.{first_line}
use Rattle.sgt_names.proofs.Elements.{no_line}

-- lines without an LF are cut in one way
pub texts-one : (xs ys : List (List ℕ)) → AllByRecursion (HasNot 10) xs → AllByRecursion (HasNot 10) ys
    → text_of_lines xs ≡ text_of_lines ys → xs ≡ ys
texts-one [] [] h g e = refl
texts-one [] (y ∷ ys) h g e = absurd (no_line y (text_of_lines ys) (sym (first_line y ys) ∙ sym e))
texts-one (x ∷ xs) [] h g e = absurd (no_line x (text_of_lines xs) (sym (first_line x xs) ∙ e))
texts-one (x ∷ xs) (y ∷ ys) h g e =
    let cut = cut_at_byte 10 x y (text_of_lines xs) (text_of_lines ys) h.0 g.0 (sym (first_line x xs) ∙ e
    ∙ first_line y ys) in
    ap₂ (λ z zs. z ∷ zs) cut.0 (texts-one xs ys h.1 g.1 cut.1)
