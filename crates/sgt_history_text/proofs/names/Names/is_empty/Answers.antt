use Rattle.std.proofs.Common.{ap, sym, ◌∙◌, ◌==◌, length}
use Rattle.sgt_history_text.proofs.Cut.{length-texts}
use Rattle.sgt_history_text.proofs.names.Names.is_empty.Goals as goal

pub returns : goal.returns
returns c = c.is_empty.ensures
    ∙ ap (λ n. n == 0) (c.self.inside.ends.ok.0 ∙ sym (length-texts 0 _ c.self.inside.bytes.items)
    ∙ ap length c.self.view_is)
