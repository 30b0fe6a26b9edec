-- Which line ends the section of a site.
use Rattle.std.proofs.Common.{◌≡◌, ℕ, ◌+◌, ◌≤◌, List, [], ◌∷◌, take, Some, None, inl, inr, subst, ap, ◌∙◌, arith}
use Rattle.std.specs.Prelude.{slice_get}
use Rattle.std.proofs.lemmas.Bool.{cases_order}
use Rattle.std.proofs.lemmas.List.Sums.{fold-append}
use Rattle.sgt_names.proofs.Lists.{take_next}
use Rattle.sgt_notation.specs.declared.SectionLine.{SectionLine}
use Rattle.sgt_explain_lines.specs.Numbered.{open_site, with_site}
use Rattle.sgt_explain.specs.Steps.{EndsAt, NoneEnds}

pub open-next : (lines : List SectionLine) (n : ℕ) (one : SectionLine) → slice_get lines n ≡ Some one
    → open_site (take (n + 1) lines) ≡ with_site (open_site (take n lines)) one
open-next lines n one at = ap open_site (take_next lines n one at)
    ∙ fold-append with_site None (take n lines) (one ∷ [])

pub none-next : (lines : List SectionLine) (site n : ℕ) → NoneEnds lines site n → (EndsAt lines site n → ⊥)
    → NoneEnds lines site (n + 1)
none-next lines site n none here place less ends =
    elim (cases_order place n) [
      | inl same ↦ here (subst (EndsAt lines site) same ends)
      | inr (inl earlier) ↦ none place earlier ends
      | inr (inr later) ↦ absurd (omega (arith, less, later))
    ]

pub none-fewer : (lines : List SectionLine) (site m n : ℕ) → NoneEnds lines site m → n ≤ m → NoneEnds lines site n
none-fewer lines site m n none few place less ends = none place (omega (arith, less, few)) ends
