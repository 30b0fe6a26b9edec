use Rattle.std.proofs.Common.{◌++◌, refl}
use Rattle.sgt_names.proofs.Elements.{three-parts}
use Rattle.sgt_explain_lines.proofs.Numbering.{on-ok}
use Rattle.sgt_explain_certificate.proofs.certificate.push_between.Goals as goal

pub returns : goal.returns
returns c =
    let s = c.in_ok-push_shown.ensures in
    on-ok c.push_text.result _ _ (λ e. (
      c.args.before.now ++ (s.0 ++ c.args.behind.now),
      (s.0, s.1, refl),
      three-parts _ _ _ c.args.before.now s.0 c.args.behind.now _ c.in_ok-push_str.ensures.bytes s.2 e,
    )) c.push_text.ensures
