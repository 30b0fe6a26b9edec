-- The whole picture of what is wanted.
use Rattle.std.proofs.Common.{◌≡◌, ◌++◌, ◌∙◌, ℕ, Bool, List, Option, ap, subst}
use Rattle.sgt_bundle.specs.declared.certificate.Decision.{Decision}
use Rattle.sgt_draw.specs.Gathering.{AddsWanted}
use Rattle.sgt_draw.specs.Picture.{IsPictureOf}
use Rattle.sgt_draw.specs.Sheet.{Sheet, Shown, blank}
use Rattle.sgt_draw.specs.Wanted.{AreWanted}
use Rattle.sgt_draw.specs.declared.node.Node.{Node}

pub picture-of : (is_dot : Bool) (tx : Option ℕ) (ds : List Decision) (start : Sheet) (new : Shown) (text : List ℕ)
    → start ≡ blank is_dot → AddsWanted is_dot tx ds start.shown new → IsPictureOf new.is_dot new.nodes text
    → (nodes : List Node) × AreWanted is_dot tx ds nodes × IsPictureOf is_dot nodes text
picture-of is_dot tx ds start new text begun (nodes, are, (format, all)) is =
    let e : new.is_dot ≡ is_dot = format ∙ ap (λ (s : Sheet). s.shown.is_dot) begun in
    let f : new.nodes ≡ nodes = all ∙ ap (λ (s : Sheet). s.shown.nodes ++ nodes) begun in (
      nodes,
      are,
      subst (λ (ns : List Node). IsPictureOf is_dot ns text) f (subst (λ (d : Bool). IsPictureOf d new.nodes text) e is),
    )
