use Rattle.std.proofs.Common.{◌++◌, refl}
use Rattle.std.specs.Prelude.{string_bytes}
use Rattle.sgt_names.proofs.Elements.{two-parts}
use Rattle.sgt_explain_lines.proofs.Numbering.{on-ok}
use Rattle.sgt_explain_decisions.specs.Fate.{closing_words}
use Rattle.sgt_explain_decisions.proofs.fate.push_closing.Goals as goal

pub returns : goal.returns
returns c = on-ok c.push_cycle.result _ _ (λ t. (
  closing_words ++ t.0,
  (t.0, t.1, refl),
  two-parts (string_bytes c.args.out.now) _ closing_words t.0 _ c.in_ok-push_str.ensures.bytes t.2,
)) c.push_cycle.ensures
