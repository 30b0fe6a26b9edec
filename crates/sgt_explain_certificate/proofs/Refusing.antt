-- A line that is refused, shown behind the name of its fault.
use Rattle.std.proofs.Common.{◌≡◌, ℕ, List, [], ◌++◌, refl, sym, ap, ◌∙◌}
use Rattle.std.proofs.lemmas.List.{append-nil}
use Rattle.sgt_explain_lines.specs.Told.{ShowsNumbered, ShowsLine}
use Rattle.sgt_explain_lines.proofs.Adding.{shows-line}

pub shows-refused : (name words : List ℕ) (n : ℕ) (line old a b new : List ℕ) → a ≡ old ++ name → b ≡ a ++ words
    → ShowsNumbered n line b new → ShowsLine name n line old new
shows-refused name words n line old a b new one two s =
    shows-line name n line line old b new new (words, two ∙ ap (λ t. t ++ words) one) refl s ([], sym (append-nil new))
