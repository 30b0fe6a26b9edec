use Rattle.std.proofs.Common.{◌∙◌, ap, sym}
use Rattle.std.specs.Prelude.{not}
use Rattle.std.proofs.lemmas.Bool.{true≢false}
use Rattle.sgt_line.proofs.kind.is_file.Goals as goal

pub returns-else-not-is_rule : goal.returns-else-not-is_rule
returns-else-not-is_rule c = (
  λ yes. absurd (true≢false (sym yes ∙ ap not c.if-not-is_rule.false)),
  λ told. absurd (told.0 (c.is_rule.ensures.0 c.if-not-is_rule.false)),
)
