-- What a gathering keeps: no read of a pledged draft is too new, a pledge that is given back leaves the site as it
-- was, and a draft's edges don't look at the pledge.
use Rattle.std.proofs.Common.{◌≡◌, ℕ, ◌≤◌, List, ◌++◌, length, take, drop, Option, Some, None, sym, ap, subst, ◌∙◌, arith, length-append, All}
use Rattle.std.specs.List.{filter_map}
use Rattle.std.proofs.lemmas.List.{take-append-drop}
use Rattle.std.proofs.lemmas.List.Elements.{filter_map-append}
use Rattle.sgt_arena.specs.declared.handle.Handle.{Handle}
use Rattle.sgt_names.specs.Entry.{change_of}
use Rattle.sgt_names.specs.Name.{Name}
use Rattle.sgt_names.specs.declared.draft.Touch.{Touch}
use Rattle.sgt_names.specs.declared.entry.Entry.{Entry}
use Rattle.sgt_names.specs.declared.entry.Kind.{Kind}
use Rattle.sgt_names.proofs.Lists.{All-weaken}
use Rattle.sgt_site.specs.State.{SiteState, Pledge, version_at, IsPledged}
use Rattle.sgt_site.specs.Refused.{IsSame}
use Rattle.sgt_edges.specs.Edges.{IsGiven, StandsForAll, HaveOwnHandles, AreApart, SeesTooNew, Precedes, wrote_before, wrote_after, wrote_too, read_it, Walks, given, old, on}
use Rattle.sgt_edges.specs.declared.edge.Edge.{Edge}
use Rattle.sgt_step.specs.OneSite.{AreEdgesOf}

-- a front of the log has no newer version
front-version : (n : ℕ) (es : List Entry) (x : Name) → version_at (take n es) x ≤ version_at es x
front-version n es x =
    let f = change_of x in
    let whole : version_at (take n es ++ drop n es) x ≡ version_at es x =
    ap (λ fs. version_at fs x) (take-append-drop n es) in
    let split = ap length (filter_map-append f (take n es) (drop n es)) in
    let sum = length-append (filter_map f (take n es)) (filter_map f (drop n es)) in
    omega (arith, whole, split, sum)

-- a draft whose reads are the transaction's in the log keeps none at a version that is too new
pub not-too_new : (s : SiteState) (tx : ℕ) (touched : List Touch) → IsSame s tx touched → SeesTooNew s touched → ⊥
not-too_new s tx touched same any =
    let read = (same any.1.0 any.1.1 any.1.2).0 (any.0, any.2, any.3) in
    let old = front-version read.place s.entries any.1.0 in
    let at = read.version in
    let new = any.4 in
    absurd (omega (arith, old, at, new))

-- the pledge is given back, where none stood before
pub given-back : (s mid new : SiteState) (tx : ℕ) (part : List Touch) → s.pledge ≡ None
    → mid ≡ record s { pledge = Some (record { tx = tx; part = part }) }
    → (IsPledged mid tx → new ≡ record mid { pledge = None }) → new ≡ s
given-back s mid new tx part free is back =
    back (part, ap (λ (m : SiteState). m.pledge) is)
    ∙ (ap (λ (m : SiteState). record m { pledge = None }) is ∙ ap (λ p. record s { pledge = p }) (sym free))

-- ---- the edges don't look at the pledge

module _ (s : SiteState) (touched : List Touch) (me : Handle) (p q : Option Pledge) where
  abbrev before : SiteState
  before = record s { pledge = p }

  abbrev after : SiteState
  after = record s { pledge = q }

  precedes_alike : (x : Name) (f t : Handle) (k : Kind) → Precedes before touched me x f t k
      → Precedes after touched me x f t k
  precedes_alike x _ _ _ (wrote_before n k w saw lt is) = wrote_before n k w saw lt is
  precedes_alike x _ _ _ (wrote_after n k w saw le is) = wrote_after n k w saw le is
  precedes_alike x _ _ _ (wrote_too c k w to is apart) = wrote_too c k w to is apart
  precedes_alike x _ _ _ (read_it c r to is) = read_it c r to is

  given_alike : (e : Edge) → IsGiven before touched me e → IsGiven after touched me e
  given_alike e h = (h.0, (h.1.0, precedes_alike e.label.item e.from e.to e.label.kind h.1.1))

  walks_alike : (x : Name) (edges : List Edge) (f t : Handle) → Walks before x edges f t → Walks after x edges f t
  walks_alike x edges f t (given e has item) = given e has item
  walks_alike x edges f t (old g h o) = old g h (record {
    first = o.first;
    second = o.second;
    from_first = o.from_first;
    to_second = o.to_second;
    kind = o.kind;
    conflict = o.conflict;
  })
  walks_alike x edges f t (on a b c first second) =
      on a b c (walks_alike x edges a b first) (walks_alike x edges b c second)

-- so those of a pledged site are those of the site before
module _ (s new : SiteState) (touched : List Touch) (me : Handle) (edges : List Edge) (q : Option Pledge)
    (is : new ≡ record s { pledge = q }) (h : AreEdgesOf new touched me edges) where
  there : AreEdgesOf (record s { pledge = q }) touched me edges
  there = subst (λ (v : SiteState). AreEdgesOf v touched me edges) is h

  pub given_before : All (IsGiven s touched me) edges
  given_before = All-weaken (IsGiven (record s { pledge = q }) touched me) (IsGiven s touched me) edges
      (given_alike s touched me q s.pledge) there.given

  pub stand_before : StandsForAll s touched me edges
  stand_before x f t k edge = walks_alike s touched me q s.pledge x edges f t
      (there.stand x f t k (edge.0, precedes_alike s touched me s.pledge q x f t k edge.1))

  pub once_before : HaveOwnHandles s → AreApart edges
  once_before own = there.once own
