use Rattle.std.proofs.Common.{ℕ, List, ◌++◌, ap, ◌∙◌}
use Rattle.sgt_certify.proofs.Made.{put-together}
use Rattle.sgt_certify.proofs.making.assembled.Goals as goal

pub returns : goal.returns
returns c =
    put-together _ _ _ _ _ _ _ _ (c.in_ok-extend_from_slice.ensures.items
    ∙ ap (λ (t : List ℕ). t ++ c.args.first.now) c.in_ok-text.ensures.items)
    c.in_ok-extend_from_slice-2.ensures.items c.in_ok-extend_from_slice-3.ensures.items
    c.in_ok-extend_from_slice-4.ensures.items c.in_ok-extend_from_slice-5.ensures.items
