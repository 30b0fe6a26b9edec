use Rattle.std.proofs.Common.{string_bytes, subst, sym}
use Rattle.sgt_line.specs.Names.{IsNameOf}
use Rattle.sgt_line.proofs.Steps.{held_on_ok}
use Rattle.sgt_line.proofs.line.Line.add_rule.Goals as goal

pub returns : goal.returns
returns c =
    held_on_ok c.add_named.result _ _
    (λ added. (
      c.as_str.result.now,
      subst (λ n. IsNameOf c.args.word.now n) (sym c.as_str.ensures.value) c.in_ok-name.ensures,
      added,
    )) c.add_named.ensures
