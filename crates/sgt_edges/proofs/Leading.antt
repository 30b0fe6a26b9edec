-- What the edges given at several sites lead to.
use Rattle.std.proofs.Common.{◌≡◌, ℕ, List, Some, refl, subst, inl, inr, All}
use Rattle.std.specs.Prelude.{Any, slice_get, ◌↔◌}
use Rattle.sgt_names.specs.Name.{Name}
use Rattle.sgt_names.specs.declared.draft.Touch.{Touch}
use Rattle.sgt_names.specs.declared.entry.Kind.{Kind}
use Rattle.sgt_names.proofs.Lists.{Any_at, Any-from_at}
use Rattle.sgt_names.proofs.Places.{All_at, Contains_at}
use Rattle.sgt_arena.specs.declared.handle.Handle.{Handle}
use Rattle.sgt_edges.specs.declared.edge.Edge.{Edge}
use Rattle.sgt_edges.specs.Edges.{IsEdge, IsOldEdge, IsGiven, Walks, given, old, on}
use Rattle.sgt_edges.specs.Sites.{Gathering, IsGathered, IsLogged, IsGivenStep, IsStep, Leads, step}
use Rattle.sgt_edges.specs.Sites as sites

-- a walk in which each step is one of another sort, or a walk of them
leads-over : (R S : Handle → Handle → Type 0) → ((f t : Handle) → R f t → Leads S f t) → (f t : Handle) → Leads R f t
    → Leads S f t
leads-over R S each f t (step g h r) = each g h r
leads-over R S each f t (sites.on g m h first second) =
    sites.on g m h (leads-over R S each g m first) (leads-over R S each m h second)

module _ (touched : List Touch) (me : Handle) (gs : List Gathering) (all : All (IsGathered touched me) gs) where
  gathered : (n : ℕ) (g : Gathering) → slice_get gs n ≡ Some g → IsGathered touched me g
  gathered n g at = All_at (IsGathered touched me) gs n g all at

  -- a walk at one site is one over all sites
  walks-lead : (n : ℕ) (g : Gathering) → slice_get gs n ≡ Some g → (x : Name) (f t : Handle)
      → Walks g.site x g.edges f t → Leads (IsGivenStep gs) f t
  walks-lead n g at x f t (given e has item) =
      let place = Contains_at g.edges e has in
      step e.from e.to
      (inl (Any-from_at (λ (h : Gathering). Any (λ (d : Edge). (d.from ≡ e.from) × (d.to ≡ e.to)) h.edges) gs n g
      at (Any-from_at (λ (d : Edge). (d.from ≡ e.from) × (d.to ≡ e.to)) g.edges place.0 e place.1 (refl, refl))))
  walks-lead n g at x f t (old a b is) =
      step a b (inr (Any-from_at (λ (h : Gathering). (y : Name) × IsOldEdge h.site y a b) gs n g at (x, is)))
  walks-lead n g at x f t (on a b c first second) =
      sites.on a b c (walks-lead n g at x a b first) (walks-lead n g at x b c second)

  given-leads : (f t : Handle) → IsStep touched me gs f t → Leads (IsGivenStep gs) f t
  given-leads f t (inl any) =
      let g = Any_at (λ (g : Gathering). (x : Name) × ((k : Kind) × IsEdge g.site touched me x f t k)) gs any in
      walks-lead g.0 g.1 g.2 g.3.0 f t ((gathered g.0 g.1 g.2).1 g.3.0 f t g.3.1.0 g.3.1.1)
  given-leads f t (inr logged) = step f t (inr logged)

  all-leads : (f t : Handle) → IsGivenStep gs f t → Leads (IsStep touched me gs) f t
  all-leads f t (inl any) =
      let g = Any_at (λ (g : Gathering). Any (λ (e : Edge). (e.from ≡ f) × (e.to ≡ t)) g.edges) gs any in
      let e = Any_at (λ (e : Edge). (e.from ≡ f) × (e.to ≡ t)) g.1.edges g.3 in
      let is = All_at (IsGiven g.1.site touched me) g.1.edges e.0 e.1 (gathered g.0 g.1 g.2).0 e.2 in
      step f t (inl (Any-from_at (λ (g : Gathering). (x : Name) × ((k : Kind) × IsEdge g.site touched me x f t k)) gs
      g.0 g.1 g.2 (
        e.1.label.item,
        (
          e.1.label.kind,
          subst (λ (b : Handle). IsEdge g.1.site touched me e.1.label.item f b e.1.label.kind) e.3.1
              (subst (λ (a : Handle). IsEdge g.1.site touched me e.1.label.item a e.1.to e.1.label.kind) e.3.0 is.1),
        ),
      )))
  all-leads f t (inr logged) = step f t (inr logged)

  pub lead-alike : (f t : Handle) → Leads (IsStep touched me gs) f t ↔ Leads (IsGivenStep gs) f t
  lead-alike f t = (
    leads-over (IsStep touched me gs) (IsGivenStep gs) given-leads f t,
    leads-over (IsGivenStep gs) (IsStep touched me gs) all-leads f t,
  )
