use Rattle.sgt_explain_lines.proofs.Numbering.{on-ok}
use Rattle.sgt_names.proofs.Elements.{four-parts}
use Rattle.sgt_explain_certificate.proofs.ranks.push_ranks.Goals as goal

pub returns : goal.returns
returns c =
    on-ok c.push_missing.result _ _ (λ e. (
      c.in_ok-found.found,
      c.in_ok-found.ensures,
      four-parts _ _ _ _ _ _ _ _ _ c.in_ok-push_ranks_head.ensures c.in_ok-push_doubled.ensures
          c.in_ok-push_above.ensures e,
    )) c.push_missing.ensures
