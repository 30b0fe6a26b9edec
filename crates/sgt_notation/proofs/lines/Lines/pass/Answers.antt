use Rattle.std.proofs.Common.{ap, ◌∙◌, List, ℕ}
use Rattle.sgt_notation.specs.Lines.{Ahead, passed}
use Rattle.sgt_notation.proofs.Looking.{window_later}
use Rattle.sgt_notation.proofs.lines.Lines.pass.Goals as goal

pub returns : goal.returns
returns c =
    let inside = c.self.inside in
    let with : List ℕ → Ahead = λ h. record { held = h; reads = inside.reads } in
    ap with (window_later inside.start inside.end c.args.n inside.buffer.items) ∙ ap (passed c.args.n) c.self.view_is
