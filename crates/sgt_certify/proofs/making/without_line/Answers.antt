use Rattle.std.proofs.Common.{ℕ, List, ◌++◌, ◌∷◌, [], ap, ◌∙◌, append_assoc}
use Rattle.sgt_certify.proofs.Made.{no-second, without-line}
use Rattle.sgt_certify.proofs.making.without_line.Goals as goal

pub returns-in_default-split_line-clause-none : goal.returns-in_default-split_line-clause-none
returns-in_default-split_line-clause-none c bytes line w =
    no-second bytes line c.args.made.now c.in-Some.first.now c.in-Some.behind.now w c.in-Some.ensures.some.0
    c.in-Some.ensures.some.1 c.in_default-split_line.ensures.none

pub returns-clause-some : goal.returns-clause-some
returns-clause-some c bytes line w =
    let first = c.in-Some.first.now in
    let rest = c.in-Some-split_line.rest.now in
    let one = c.in_ok-extend_from_slice.ensures.items ∙ ap (λ (t : List ℕ). t ++ first) c.in_ok-text.ensures.items in
    let two = c.in_ok-extend_from_slice-2.ensures.items ∙ ap (λ (t : List ℕ). t ++ 10 ∷ []) one in
    c.in_ok-extend_from_slice-3.ensures.items ∙ ap (λ (t : List ℕ). t ++ rest) two ∙ append_assoc first (10 ∷ []) rest
    ∙ without-line bytes line c.args.made.now first c.in-Some.behind.now _ rest w c.in-Some.ensures.some.0
    c.in-Some.ensures.some.1 c.in-Some-split_line.ensures.some.0 c.in-Some-split_line.ensures.some.1
