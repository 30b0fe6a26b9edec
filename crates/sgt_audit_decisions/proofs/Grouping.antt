-- The steps of walks, with a group for each site.
use Rattle.std.proofs.Common.{◌≡◌, ◌≢◌, ℕ, zero, suc, ◌+◌, ◌<◌, ◌≤◌, List, [], ◌∷◌, ◌++◌, Some, refl, sym, ap, ◌∙◌, subst, arith, inl, inr, ◌⊎◌, true, get_or, length, set, take, drop, All, Contains, append_assoc}
use Rattle.std.specs.Prelude.{◌↔◌, slice_get, nat_lt}
use Rattle.std.proofs.lemmas.Bool.{cases_eq, ltb-true}
use Rattle.std.proofs.lemmas.Grind.{flat_map-append}
use Rattle.std.proofs.lemmas.List.Concat.{flat_map-cons}
use Rattle.std.proofs.lemmas.List.{append-nil, take_all, drop_all}
use Rattle.std.proofs.lemmas.List.Elements.{Contains-push, Contains-append_left, Contains-append_right, Contains-push_cases, Contains-append_cases}
use Rattle.std.proofs.lemmas.Option.{same_Some, none-some, slice_get_within}
use Rattle.sgt_names.proofs.Places.{All_at, All-from_at, Contains_at, Contains-from_at}
use Rattle.sgt_names.proofs.Lists.{All_in, element_at, drop_next, take_next}
use Rattle.sgt_bundle.specs.Text.{IsCertificate, IsDecision, IsStep}
use Rattle.sgt_bundle.specs.declared.certificate.Step.{Step}
use Rattle.sgt_bundle.specs.declared.certificate.Certificate.{Certificate}
use Rattle.sgt_bundle.specs.declared.certificate.Decision.{Decision}
use Rattle.sgt_bundle.specs.declared.certificate.Decision.TheVariants.{Commit, Refuse, Withdraw}
use Rattle.sgt_audit_decisions.specs.Steps.{AreStepsAt, AreStepsOf, edges_from, edges_of, edges_in}
use Rattle.sgt_audit_decisions.specs.private.Grouped.{AreGrouped}
use Rattle.sgt_audit_decisions.specs.declared.steps.Edge.{Edge}
use Rattle.sgt_audit_decisions.specs.declared.steps.Group.{Group}
use Rattle.sgt_audit_decisions.specs.declared.steps.Steps.{Steps}

-- ---- lists

module _ {A : Type 0} where
  set-at : (xs : List A) (n : ℕ) (v a : A) → slice_get xs n ≡ Some a → slice_get (set xs n v) n ≡ Some v
  set-at [] n v a h = absurd (none-some a h)
  set-at (x ∷ xs) zero v a h = refl
  set-at (x ∷ xs) (suc n) v a h = set-at xs n v a h

  set-other : (xs : List A) (n k : ℕ) (v : A) → (k ≡ n → ⊥) → slice_get (set xs n v) k ≡ slice_get xs k
  set-other [] n k v apart = refl
  set-other (x ∷ xs) zero zero v apart = absurd (apart refl)
  set-other (x ∷ xs) zero (suc k) v apart = refl
  set-other (x ∷ xs) (suc n) zero v apart = refl
  set-other (x ∷ xs) (suc n) (suc k) v apart = set-other xs n k v (λ e. apart (ap suc e))

  -- what a look-up by place answers
  pub got : (xs ys : List A) (k : ℕ) (a : A) → ys ≡ xs → true ≡ nat_lt k (length ys) → a ≡ get_or ys k a
      → slice_get xs k ≡ Some a
  got xs ys k a same within is =
      subst (λ zs. slice_get zs k ≡ Some a) same (element_at ys k a (ltb-true k (length ys) (sym within)) is)

-- ---- one more step

module _ (edges : List Edge) (edge : Edge) where
  more-here : (here : List Edge) (site : ℕ) → edge.step.label.site ≡ site
      → ((e : Edge) → Contains here e ↔ (Contains edges e × (e.step.label.site ≡ site)))
      → (e : Edge) → Contains (here ++ edge ∷ []) e ↔ (Contains (edges ++ edge ∷ []) e × (e.step.label.site ≡ site))
  more-here here site at is e = (
    λ has. elim (Contains-push_cases here edge e has) [
      | inl old ↦ let both = (is e).0 old in (Contains-append_left edges (edge ∷ []) e both.0, both.1)
      | inr new ↦ (
        subst (Contains (edges ++ edge ∷ [])) new (Contains-push edges edge),
        ap (λ (f : Edge). f.step.label.site) (sym new) ∙ at,
      )
    ],
    λ both. elim (Contains-push_cases edges edge e both.0) [
      | inl old ↦ Contains-append_left here (edge ∷ []) e ((is e).1 (old, both.1))
      | inr new ↦ subst (Contains (here ++ edge ∷ [])) new (Contains-push here edge)
    ],
  )

  none-here : (here : List Edge) (site : ℕ) → edge.step.label.site ≢ site
      → ((e : Edge) → Contains here e ↔ (Contains edges e × (e.step.label.site ≡ site)))
      → (e : Edge) → Contains here e ↔ (Contains (edges ++ edge ∷ []) e × (e.step.label.site ≡ site))
  none-here here site apart is e = (
    λ has. let both = (is e).0 has in (Contains-append_left edges (edge ∷ []) e both.0, both.1),
    λ both. elim (Contains-push_cases edges edge e both.0) [
      | inl old ↦ (is e).1 (old, both.1)
      | inr new ↦ absurd (apart (ap (λ (f : Edge). f.step.label.site) new ∙ both.1))
    ],
  )

  pub grouped-past : (groups : List Group) → length groups ≤ edge.step.label.site → AreGrouped edges groups
      → AreGrouped (edges ++ edge ∷ []) groups
  grouped-past groups past is site g at =
      none-here g.edges.items site (λ same. let within = slice_get_within groups site g at in
      absurd (omega (arith, within, past, same))) (is site g at)

  pub grouped-more : (groups : List Group) (r v : Group) → slice_get groups edge.step.label.site ≡ Some r
      → v.edges.items ≡ r.edges.items ++ edge ∷ [] → AreGrouped edges groups
      → AreGrouped (edges ++ edge ∷ []) (set groups edge.step.label.site v)
  grouped-more groups r v here more is site g at =
      let place = edge.step.label.site in
      elim (cases_eq site place) [
        | inl same ↦
            let is_v : v ≡ g = same_Some v g (sym (set-at groups place v r here)
            ∙ ap (slice_get (set groups place v)) (sym same) ∙ at) in
            let items : r.edges.items ++ edge ∷ [] ≡ g.edges.items = sym more
            ∙ ap (λ (q : Group). q.edges.items) is_v in
            let now = more-here r.edges.items place refl (is place r here) in
            subst (λ n. (e : Edge)
            → Contains g.edges.items e ↔ (Contains (edges ++ edge ∷ []) e × (e.step.label.site ≡ n))) (sym same)
            (subst (λ es. (e : Edge)
            → Contains es e ↔ (Contains (edges ++ edge ∷ []) e × (e.step.label.site ≡ place))) items now)
        | inr other ↦ none-here g.edges.items site (λ same. other (sym same))
            (is site g (sym (set-other groups place site v other) ∙ at))
      ]

-- ---- a walk, step by step

-- so many of its steps were added
abbrev pub IsPart : (from at : ℕ) → (walk rest : List Step) → List Group → List Group → Type 0
IsPart from at walk rest old new = (done : List Edge) × (edges_from from walk ≡ done ++ edges_from at rest)
    × ((edges : List Edge) → AreGrouped edges old → AreGrouped (edges ++ done) new)

pub part-start : (from : ℕ) (walk : List Step) (groups : List Group) → IsPart from from walk walk groups groups
part-start from walk groups = ([], refl, λ edges is. subst (λ es. AreGrouped es groups) (sym (append-nil edges)) is)

pub part-next : (from at n : ℕ) (walk : List Step) (step : Step) (old mid new : List Group) → n < length walk
    → slice_get walk n ≡ Some step
    → ((edges : List Edge) → AreGrouped edges mid → AreGrouped (edges ++ record { from = at; step = step } ∷ []) new)
    → IsPart from at walk (drop n walk) old mid → IsPart from step.to walk (drop (n + 1) walk) old new
part-next from at n walk step old mid new lt here adds (done, all, is) =
    let edge : Edge = record { from = at; step = step } in (
      done ++ edge ∷ [],
      all ∙ ap (λ rest. done ++ edges_from at rest) (drop_next walk n step here)
          ∙ sym (append_assoc done (edge ∷ []) (edges_from step.to (drop (n + 1) walk))),
      λ edges before. subst (λ es. AreGrouped es new) (append_assoc edges done (edge ∷ []))
          (adds (edges ++ done) (is edges before)),
    )

pub part-whole : (from at n : ℕ) (walk : List Step) (old new : List Group) → length walk ≤ n
    → IsPart from at walk (drop n walk) old new → (edges : List Edge) → AreGrouped edges old
    → AreGrouped (edges ++ edges_from from walk) new
part-whole from at n walk old new le (done, all, is) edges before =
    let whole : edges_from from walk ≡ done = all ∙ ap (λ rest. done ++ edges_from at rest) (drop_all n walk le)
    ∙ append-nil done in
    subst (λ es. AreGrouped (edges ++ es) new) (sym whole) (is edges before)

pub no-edges : (d : Decision) → ((tx : ℕ) (walk : List Step) → d ≡ Refuse tx walk → ⊥) → edges_of d ≡ []
no-edges (Commit tx rank) other = refl
no-edges (Refuse tx walk) other = absurd (other tx walk refl)
no-edges (Withdraw tx) other = refl

-- ---- all decisions

edges-next : (ds : List Decision) (n : ℕ) (d : Decision) → slice_get ds n ≡ Some d
    → edges_in (take (n + 1) ds) ≡ edges_in (take n ds) ++ edges_of d
edges-next ds n d at = ap edges_in (take_next ds n d at) ∙ flat_map-append edges_of (take n ds) (d ∷ [])
    ∙ ap (λ es. edges_in (take n ds) ++ es) (append-nil (edges_of d))

pub decisions-next : (ds : List Decision) (n : ℕ) (d : Decision) (groups : List Group) → slice_get ds n ≡ Some d
    → AreGrouped (edges_in (take n ds) ++ edges_of d) groups → AreGrouped (edges_in (take (n + 1) ds)) groups
decisions-next ds n d groups at is = subst (λ es. AreGrouped es groups) (sym (edges-next ds n d at)) is

pub decisions-whole : (ds : List Decision) (n : ℕ) (groups : List Group) → length ds ≤ n
    → AreGrouped (edges_in (take n ds)) groups → AreGrouped (edges_in ds) groups
decisions-whole ds n groups le is = subst (λ xs. AreGrouped (edges_in xs) groups) (take_all n ds le) is

pub none-grouped : (groups : List Group) → All (λ g. g.edges.items ≡ []) groups → AreGrouped [] groups
none-grouped groups none site g at e =
    let empty = All_at (λ g. g.edges.items ≡ []) groups site g none at in (
      λ has. absurd (no-edge (subst (λ es. Contains es e) empty has)),
      λ both. absurd (no-edge both.0),
    )
  where
    no-edge : Contains [] e → ⊥
    no-edge here = absurd (omega (arith, here.1))

-- ---- where they are

module _ {A : Type 0} (x : A) (xs : List A) where
  pub cons-cases : (y : A) → Contains (x ∷ xs) y → (x ≡ y) ⊎ Contains xs y
  cons-cases y has =
      elim (Contains-append_cases (x ∷ []) xs y has) [
        | inl first ↦ elim (Contains-push_cases [] x y first) [
          | inl none ↦ absurd (omega (arith, none.1))
          | inr same ↦ inl same
        ]
        | inr rest ↦ inr rest
      ]

  pub cons-first : Contains (x ∷ xs) x
  cons-first = Contains-from_at (x ∷ xs) 0 x refl

  pub cons-rest : (y : A) → Contains xs y → Contains (x ∷ xs) y
  cons-rest y has = let at = Contains_at xs y has in Contains-from_at (x ∷ xs) (suc at.0) y at.1

abbrev IsOfWalk : List Decision → Edge → Type 0
IsOfWalk ds e = (tx : ℕ) × (walk : List Step) × Contains ds (Refuse tx walk) × Contains (edges_from tx walk) e

of-decision : (ds : List Decision) (d : Decision) (e : Edge) → Contains ds d → Contains (edges_of d) e → IsOfWalk ds e
of-decision ds (Refuse tx walk) e here has = (tx, walk, here, has)
of-decision ds (Commit tx rank) e here has = absurd (omega (arith, has.1))
of-decision ds (Withdraw tx) e here has = absurd (omega (arith, has.1))

-- a step of a walk, by the decision that has it
pub edge-found : (ds : List Decision) (e : Edge) → Contains (edges_in ds) e → IsOfWalk ds e
edge-found [] e has = absurd (omega (arith, has.1))
edge-found (d ∷ ds) e has =
    elim (Contains-append_cases (edges_of d) (edges_in ds) e
    (subst (λ es. Contains es e) (flat_map-cons edges_of d ds) has)) [
      | inl here ↦ of-decision (d ∷ ds) d e (cons-first d ds) here
      | inr rest ↦ let by = edge-found ds e rest in (by.0, by.1, cons-rest d ds (Refuse by.0 by.1) by.2, by.3)
    ]

pub edge-there : (ds : List Decision) (tx : ℕ) (walk : List Step) (e : Edge) → Contains ds (Refuse tx walk)
    → Contains (edges_from tx walk) e → Contains (edges_in ds) e
edge-there [] tx walk e here has = absurd (omega (arith, here.1))
edge-there (d ∷ ds) tx walk e here has =
    subst (λ es. Contains es e) (sym (flat_map-cons edges_of d ds)) (elim (cons-cases d ds (Refuse tx walk) here) [
      | inl same ↦ Contains-append_left (edges_of d) (edges_in ds) e
          (subst (λ q. Contains (edges_of q) e) (sym same) has)
      | inr rest ↦ Contains-append_right (edges_of d) (edges_in ds) e (edge-there ds tx walk e rest has)
    ])

from-within : (sites a : ℕ) (walk : List Step) → ((s : Step) → Contains walk s → IsStep sites s) → (e : Edge)
    → Contains (edges_from a walk) e → e.step.label.site < sites
from-within sites a [] all e has = absurd (omega (arith, has.1))
from-within sites a (s ∷ walk) all e has =
    elim (cons-cases (record { from = a; step = s }) (edges_from s.to walk) e has) [
      | inl same ↦ subst (λ (f : Edge). f.step.label.site < sites) same (all s (cons-first s walk)).1
      | inr rest ↦ from-within sites s.to walk (λ t here. all t (cons-rest s walk t here)) e rest
    ]

pub certificate-within : (c : Certificate) → IsCertificate c
    → All (λ e. e.step.label.site < c.sites) (edges_in c.decisions)
certificate-within c is = All-from_at (λ e. e.step.label.site < c.sites) (edges_in c.decisions) (λ n e at.
    let by = edge-found c.decisions e (Contains-from_at (edges_in c.decisions) n e at) in
    let decision = All_in (IsDecision c.sites) c.decisions (Refuse by.0 by.1) is.2 by.2 in
    from-within c.sites by.0 by.1 (λ s here. All_in (IsStep c.sites) by.1 s decision.1 here) e by.3)

pub steps-at : (ds : List Decision) (s : Steps) (site : ℕ) (g : Group) → AreStepsOf ds s
    → slice_get s.groups.items site ≡ Some g → AreStepsAt ds site g.edges.items
steps-at ds s site g is at = is.grouped site g at
