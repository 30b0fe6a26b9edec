-- Texts with a line and what is said of its place.
use Rattle.std.proofs.Common.{◌≡◌, ◌<◌, ◌≤◌, ◌-◌, ℕ, List, [], ◌++◌, codes, refl, sym, subst, ap, ◌∙◌, append_assoc, arith}
use Rattle.std.proofs.lemmas.List.{append-nil}
use Rattle.sgt_explain_lines.specs.Numbered.{IsLineAt}
use Rattle.sgt_explain_lines.specs.Places.{TellsLine, IsLineBefore}
use Rattle.sgt_explain_lines.specs.Told.{bar, IsShown, ShowsNumbered}

-- words, a line with its number, and a text behind it
pub tells-line : (words : List ℕ) (n : ℕ) (line given told old a b new : List ℕ) → a ≡ old ++ words → given ≡ line
    → ShowsNumbered n given a b → new ≡ b ++ told
    → TellsLine words n line told old new
tells-line words n line given told old a b new head same shows more =
    let s = subst (λ l. ShowsNumbered n l a b) same shows in
    let text = bar n ++ (s.0 ++ codes "\n") in (
      s.0,
      s.1,
      more ∙ ap (λ t. t ++ told) s.2 ∙ append_assoc a text told ∙ ap (λ t. t ++ (text ++ told)) head
          ∙ append_assoc old words (text ++ told),
    )

-- the same without words
pub tells-alone : (n : ℕ) (line given told old b new : List ℕ) → given ≡ line → ShowsNumbered n given old b
    → new ≡ b ++ told → TellsLine [] n line told old new
tells-alone n line given told old b new same shows more =
    tells-line [] n line given told old old b new (sym (append-nil old)) same shows more

-- words before it, and more behind it
pub tells-behind : (words : List ℕ) (n : ℕ) (line more told old a b new : List ℕ) → a ≡ old ++ words
    → TellsLine [] n line more a b → new ≡ b ++ told
    → TellsLine words n line (more ++ told) old new
tells-behind words n line more told old a b new head s last =
    let text = bar n ++ (s.0 ++ codes "\n") in (
      s.0,
      s.1,
      last ∙ ap (λ t. t ++ told) s.2 ∙ append_assoc a (text ++ more) told
          ∙ ap (λ t. a ++ t) (append_assoc text more told)
          ∙ ap (λ t. t ++ (text ++ (more ++ told))) head ∙ append_assoc old words (text ++ (more ++ told)),
    )

-- the line before one of a section
pub line-before : (bytes : List ℕ) (n before : ℕ) (given old new : List ℕ) → before ≡ n - 1 → 3 < n
    → ((line : List ℕ) → IsLineAt bytes (n - 1) line → given ≡ line)
    → ShowsNumbered before given old new → (told : List ℕ) × IsLineBefore bytes n told × (new ≡ old ++ told)
line-before bytes n before given old new same less is shows =
    let s = subst (λ k. ShowsNumbered k given old new) same shows in (
      bar (n - 1) ++ (s.0 ++ codes "\n"),
      record {
        none = λ few. absurd (omega (arith, few, less));
        some = λ more line h. (s.0, subst (λ l. IsShown l s.0) (is line h) s.1, refl);
      },
      s.2,
    )
