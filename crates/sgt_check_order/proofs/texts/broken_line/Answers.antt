use Rattle.std.proofs.Common.{ℕ, List, ◌++◌, ap, ◌∙◌, codes, decimal}
use Rattle.sgt_check.specs.Told.{spelled}
use Rattle.sgt_check.specs.Text.{number_text, operation_text}
use Rattle.sgt_check_order.proofs.Pushing.{seven}
use Rattle.sgt_check_order.proofs.texts.broken_line.Goals as goal

pub returns : goal.returns
returns c =
    let s = spelled c.args.naming.now in
    let b = c.args.broken.now in
    seven _ _ _ _ _ _ _ _ _ _ _ _ _ _ _ c.in_ok-push_line_number.ensures c.in_ok-extend_from_slice.ensures.items
    c.in_ok-push_name.ensures c.in_ok-push_operation.ensures
    c.in_ok-extend_from_slice-2.ensures.items c.in_ok-push_number.ensures.ok c.in_ok-extend_from_slice-3.ensures.items
    ∙ ap (λ (o : List ℕ). o ++ (number_text b.line ++ (codes " " ++ (s.id b.line ++ (operation_text s b.operation ++ (codes " finds " ++ (decimal b.found ++ codes "\n")))))))
    c.in_ok-text.ensures.items
