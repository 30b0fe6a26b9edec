use Rattle.std.proofs.Common.{subst}
use Rattle.std.specs.Prelude.{IfOk}
use Rattle.std.proofs.lemmas.Result.{IfOk-weaker}
use Rattle.sgt_draw.specs.Picture.{IsPictureOf}
use Rattle.sgt_draw.specs.Sheet.{Sheet}
use Rattle.sgt_draw.proofs.Kept.{pictured}
use Rattle.sgt_draw.proofs.drawing.Drawing.into_text.Goals as goal

pub returns : goal.returns
returns c =
    subst (λ (s : Sheet). IfOk c.into_text.result (λ text. IsPictureOf s.shown.is_dot s.shown.nodes text.items))
    c.self.view_is
    (IfOk-weaker c.into_text.result _ _
    (λ text whole. pictured _ whole.0 _ _ text.items c.self.invariant whole.1 whole.2) c.into_text.ensures.whole)
