use Rattle.std.proofs.Common.{ap, sym, ◌∙◌, length}
use Rattle.sgt_history_text.proofs.Cut.{length-texts}
use Rattle.sgt_history_text.proofs.names.Names.len.Goals as goal

pub returns : goal.returns
returns c = c.len.ensures ∙ c.self.inside.ends.ok.0 ∙ sym (length-texts 0 _ c.self.inside.bytes.items)
    ∙ ap length c.self.view_is
