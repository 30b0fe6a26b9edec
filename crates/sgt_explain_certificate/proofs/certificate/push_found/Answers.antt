use Rattle.std.proofs.Common.{◌≡◌, ◌+◌, ◌++◌, ◌∙◌, ap, arith, refl}
use Rattle.std.specs.Prelude.{string_bytes}
use Rattle.sgt_names.proofs.Elements.{three-parts}
use Rattle.sgt_explain_lines.proofs.Adding.{adds-more}
use Rattle.sgt_explain_lines.proofs.Numbering.{on-ok}
use Rattle.sgt_explain_certificate.specs.Columns.{column_text}
use Rattle.sgt_explain_certificate.proofs.certificate.push_found.Goals as goal

pub returns-clause-more : goal.returns-clause-more
returns-clause-more c =
    let s = c.in_ok-push_standing.ensures in
    on-ok c.push_before.result _ _ (λ b. adds-more _ _ _ (_, c.in_ok-push_column.ensures)
    (adds-more _ _ _ (s.0, s.2) (b.0, b.2))) c.push_before.ensures

pub returns-clause-found : goal.returns-clause-found
returns-clause-found c = λ less.
    let s = c.in_ok-push_standing.ensures in
    let next : c.saturating_add.result ≡ c.args.at + 1 = omega (arith, less, c.saturating_add.ensures) in
    let column = c.in_ok-push_column.ensures ∙ ap (λ n. string_bytes c.args.out.now ++ column_text n) next in
    on-ok c.push_before.result _ _ (λ b. (
      column_text (c.args.at + 1) ++ (s.0 ++ b.0),
      record { standing = s.0; behind = b.0; stands = s.1; before = b.1; text = refl },
      three-parts _ _ _ (column_text (c.args.at + 1)) s.0 b.0 _ column s.2 b.2,
    )) c.push_before.ensures
