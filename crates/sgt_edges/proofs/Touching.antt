-- The edges of a draft are those of what it touches at the site.
use Rattle.std.proofs.Common.{◌≡◌, ◌∙◌, ℕ, List, [], ◌∷◌, ◌++◌, append-nil, length, sym, subst, All, Any}
use Rattle.std.specs.Prelude.{◌<◌, Contains}
use Rattle.sgt_names.specs.Name.{Name}
use Rattle.sgt_names.specs.Draft.{at_site, kept_in, writing_in}
use Rattle.sgt_names.specs.DraftParts.{PartView, touched_in}
use Rattle.sgt_names.specs.declared.draft.Touch.{Touch}
use Rattle.sgt_names.specs.declared.entry.Kind.{Kind}
use Rattle.sgt_names.proofs.Lists.{All-weaken}
use Rattle.sgt_arena.specs.declared.handle.Handle.{Handle}
use Rattle.sgt_site.specs.State.{SiteState, version_at}
use Rattle.sgt_edges.specs.Edges.{Precedes, wrote_before, wrote_after, wrote_too, read_it, IsGiven, StandsForAll, SeesTooNew}
use Rattle.sgt_edges.specs.declared.edge.Edge.{Edge}

-- a draft that has no parts touches what is in its list
pub few-all : (few : List Touch) (ps : List PartView) (ts : List Touch) → few ++ touched_in ps ≡ ts → length ps ≡ 0
    → few ≡ ts
few-all few [] ts is none = sym (append-nil few) ∙ is
few-all few (p ∷ ps) ts is none = absurd cc

module _ (s : SiteState) (ts : List Touch) (me : Handle) (part : List Touch)
    (again : at_site s.number part ≡ at_site s.number ts) where
  from-part : (x : Name) (f h : Handle) (k : Kind) → Precedes s part me x f h k → Precedes s ts me x f h k
  from-part x _ _ _ (wrote_before n k w saw lt is) =
      wrote_before n k w (saw.0, subst (λ (us : List Touch). Contains (kept_in us) (x, saw.0, n)) again saw.1) lt is
  from-part x _ _ _ (wrote_after n k w saw le is) =
      wrote_after n k w (saw.0, subst (λ (us : List Touch). Contains (kept_in us) (x, saw.0, n)) again saw.1) le is
  from-part x _ _ _ (wrote_too c k w change is conflicts) =
      wrote_too c k w (subst (λ (us : List Touch). Contains (writing_in us) (x, c)) again change) is conflicts
  from-part x _ _ _ (read_it c r change reader) =
      read_it c r (subst (λ (us : List Touch). Contains (writing_in us) (x, c)) again change) reader

  to-part : (x : Name) (f h : Handle) (k : Kind) → Precedes s ts me x f h k → Precedes s part me x f h k
  to-part x _ _ _ (wrote_before n k w saw lt is) =
      wrote_before n k w (saw.0, subst (λ (us : List Touch). Contains (kept_in us) (x, saw.0, n)) (sym again) saw.1)
      lt is
  to-part x _ _ _ (wrote_after n k w saw le is) =
      wrote_after n k w (saw.0, subst (λ (us : List Touch). Contains (kept_in us) (x, saw.0, n)) (sym again) saw.1) le
      is
  to-part x _ _ _ (wrote_too c k w change is conflicts) =
      wrote_too c k w (subst (λ (us : List Touch). Contains (writing_in us) (x, c)) (sym again) change) is conflicts
  to-part x _ _ _ (read_it c r change reader) =
      read_it c r (subst (λ (us : List Touch). Contains (writing_in us) (x, c)) (sym again) change) reader

  pub given-whole : (edges : List Edge) → All (IsGiven s part me) edges → All (IsGiven s ts me) edges
  given-whole edges all =
      All-weaken (IsGiven s part me) (IsGiven s ts me) edges
      (λ e given. (given.0, (given.1.0, from-part e.label.item e.from e.to e.label.kind given.1.1))) all

  pub stands-whole : (edges : List Edge) → StandsForAll s part me edges → StandsForAll s ts me edges
  stands-whole edges stands = λ x f h k edge. stands x f h k (edge.0, to-part x f h k edge.1)

  pub new-whole : SeesTooNew s part → SeesTooNew s ts
  new-whole new = subst (λ (us : List Touch). Any (λ (k : Name × ℕ × ℕ). version_at s.entries k.0 < k.2) (kept_in us))
      again new

  pub new-part : SeesTooNew s ts → SeesTooNew s part
  new-part new = subst (λ (us : List Touch). Any (λ (k : Name × ℕ × ℕ). version_at s.entries k.0 < k.2) (kept_in us))
      (sym again) new
