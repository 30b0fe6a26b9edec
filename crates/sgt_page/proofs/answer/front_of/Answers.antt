use Rattle.std.proofs.Common.{◌≡◌, ◌⊎◌, ◌∙◌, ◌+◌, ◌-◌, ◌≤◌, ◌++◌, ◌∷◌, [], Some, ap, arith, drop, inl, inr, slice_get, subst, sym, take, length, List, ℕ}
use Rattle.std.proofs.lemmas.List.{length-take-le, take-append-drop, take_more}
use Rattle.std.proofs.lemmas.Option.{get_or_from_slice_get, slice_get_within}
use Rattle.sgt_page.specs.Answer.{HasNoLineEnd, IsOfLines}
use Rattle.sgt_page.proofs.answer.front_of.Goals as goal

-- what ends with an LF is of lines
of_lines : (text : List ℕ) (n : ℕ) → (n ≡ 0) ⊎ ((1 ≤ n) × (slice_get text (n - 1) ≡ Some 10)) → IsOfLines (take n text)
of_lines text n (inl none) = inl (ap (λ k. take k text) none)
of_lines text n (inr at) =
    let one : n ≡ (n - 1) + 1 = omega (arith, at.0) in
    inr (
      take (n - 1) text,
      ap (λ k. take k text) one ∙ take_more text (n - 1) 0 (slice_get_within text (n - 1) 10 at.1)
          ∙ ap (λ (b : ℕ). take (n - 1) text ++ b ∷ []) (get_or_from_slice_get text (n - 1) 10 0 at.1),
    )

pub returns : goal.returns
returns c =
    let text = c.args.text.now in
    let end = c.whole_lines.result in
    let bound = c.whole_lines.ensures.bound in
    let long = c.if-text-le-MOST_TEXT.false in
    let many : length (take end text) ≡ end = length-take-le end text (omega (arith, bound, long)) in (
      (drop end text, sym (take-append-drop end text)),
      λ short. absurd (omega (arith, long, short)),
      λ _. (
        omega (arith, bound, many),
        of_lines text end c.whole_lines.ensures.line,
        subst (λ n. HasNoLineEnd text n 16384) (sym many) c.whole_lines.ensures.last,
      ),
    )
