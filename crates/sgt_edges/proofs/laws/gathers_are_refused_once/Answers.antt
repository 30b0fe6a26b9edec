use Rattle.std.proofs.Common.{◌≡◌, refl, List}
use Rattle.sgt_names.specs.declared.draft.Touch.{Touch}
use Rattle.sgt_site.specs.State.{SiteState}
use Rattle.sgt_edges.specs.Edges.{RefusesEdges}
use Rattle.sgt_edges.specs.declared.fault.EdgeFault.{EdgeFault}
use Rattle.sgt_edges.specs.declared.fault.EdgeFault.TheVariants.{SeenTooNew, Memory}
use Rattle.sgt_edges.proofs.laws.gathers_are_refused_once.Goals as goal

once : (s : SiteState) (touched : List Touch) (f g : EdgeFault) → RefusesEdges s touched f → RefusesEdges s touched g
    → f ≡ g
once s touched SeenTooNew SeenTooNew a b = refl
once s touched SeenTooNew Memory a b = absurd (b a)
once s touched Memory SeenTooNew a b = absurd (a b)
once s touched Memory Memory a b = refl

pub returns : goal.returns
returns c s touched f g a b = once s touched f g a b
