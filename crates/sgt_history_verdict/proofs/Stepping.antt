-- Steps of pairs of touches, along lines.
use Rattle.std.proofs.Common.{◌≡◌, ℕ, zero, suc, ◌+◌, ◌<◌, ◌≤◌, List, [], ◌∷◌, ◌++◌, Option, Some, None, length, get_or, set, refl, sym, ap, ◌∙◌, subst, arith, inl, inr, ◌⊎◌, All, Vec, Global, length-append}
use Rattle.std.specs.Prelude.{slice_get, IfNone, IfSome}
use Rattle.std.proofs.lemmas.List.Elements.{All-set}
use Rattle.std.proofs.lemmas.Bool.{cases_lt, lt-ltb, le-ltb}
use Rattle.std.proofs.lemmas.Option.{same_Some, slice_get_within, slice_get-get_or}
use Rattle.sgt_names.proofs.Lists.{front_at, back_at}
use Rattle.sgt_names.proofs.Places.{Contains_at, Contains-from_at, All-from_at}
use Rattle.sgt_history.specs.declared.history.Kind.TheVariants.{Write}
use Rattle.sgt_history.specs.declared.named.Conflict.{Conflict}
use Rattle.sgt_history.specs.declared.named.Conflict.TheVariants.{WriteWrite, WriteRead, ReadWrite}
use Rattle.sgt_history.specs.declared.named.Graph.{Graph}
use Rattle.sgt_history.specs.Transaction.{Transaction}
use Rattle.sgt_history.specs.Conflicts.{ConflictIn, HaveConflict, IsAmong, IsChain, IsCycle}
use Rattle.sgt_history_faults.specs.declared.touch.Touch.{Touch}
use Rattle.sgt_history_faults.specs.Judged.{IsFaultlessBy}
use Rattle.sgt_graph.specs.declared.edge.Edge.{Edge}
use Rattle.sgt_history_conflicts.specs.Pairs.{Meets}
use Rattle.sgt_history_conflicts.specs.Edges.{ArePairsOf, JoinsTouches, part_of}
use Rattle.sgt_history_conflicts.proofs.Conflicting.{pair-conflict, conflict-pair}
use Rattle.sgt_history_verdict.specs.declared.cyclic.Cyclic.{Cyclic}
use Rattle.sgt_history_verdict.specs.declared.step.Step.{Step}
use Rattle.sgt_history_verdict.specs.Steps.{IsStep, AreSteps, AreAlong, AreToldFirst, IsOf, IsOfPairs, IsToldBefore, LeadAlong, Leads, kind_between, kind_place, lines_of, place_behind, rank_at, step_between}
use Rattle.sgt_history_verdict.specs.Verdict.{IsCyclic}

-- ---- a step of a pair

-- a step is told before one of this kind by this version of the item
abbrev IsPlaceBefore : (ranks : List ℕ) → Step → Conflict → (x v : ℕ) → Type 0
IsPlaceBefore ranks s kind x v = (kind_place s.kind < kind_place kind) ⊎ ((kind_place s.kind ≡ kind_place kind)
    × ((rank_at ranks s.item < rank_at ranks x) ⊎ ((rank_at ranks s.item ≡ rank_at ranks x) × (s.from_version ≤ v))))

kinds : (kind : Conflict) (a b : Touch) → Meets kind a b → kind_between a.kind b.kind ≡ kind
kinds WriteWrite a b (item, apart, one, two) = ap (λ k. kind_between k b.kind) one.write
    ∙ ap (kind_between Write) two.write
kinds WriteRead a b (item, apart, one, read, version) = ap (λ k. kind_between k b.kind) one.write
    ∙ ap (kind_between Write) read
kinds ReadWrite a b (item, apart, read, two) = ap (λ k. kind_between k b.kind) read

pub pairs-join : (touches : List Touch) (g : Graph) (pairs : List Edge) → ArePairsOf touches g pairs
    → All (JoinsTouches touches) pairs
pairs-join touches g pairs are = All-from_at (JoinsTouches touches) pairs (λ k e at.
    let p = (are.sound e (Contains-from_at pairs k e at)).2 in
    (slice_get_within touches e.from p.a p.first, slice_get_within touches e.to p.b p.second))

module _ (h : List (Transaction ℕ ℕ)) (touches : List Touch) (by : IsFaultlessBy h touches) (g : Graph)
    (pairs : List Edge)
    (are : ArePairsOf touches g pairs) where
  pub step-is : (s : Step) → IsOfPairs touches pairs s → IsStep h g s
  step-is s (e, in_it, of) =
      let found = are.sound e in_it in
      let p = found.2 in
      let c = pair-conflict h touches by.touches_are by.ordered by.faultless found.0 e.from e.to p in
      let a_is : p.a ≡ of.a = same_Some p.a of.a (sym p.first ∙ of.first) in
      let b_is : p.b ≡ of.b = same_Some p.b of.b (sym p.second ∙ of.second) in
      let kind : found.0 ≡ kind_between p.a.kind p.b.kind = sym (kinds found.0 p.a p.b p.meets) in
      let step : IsStep h g (step_between p.a p.b) = record {
        among = subst (IsAmong g) kind found.1;
        conflict = subst (λ k. HaveConflict h k p.a.line p.b.line p.a.item p.a.version p.b.version) kind c;
      } in
      subst (IsStep h g) (sym of.is)
      (subst (λ y. IsStep h g (step_between of.a y)) b_is (subst (λ x. IsStep h g (step_between x p.b)) a_is step))

  -- a step of the history is as good as one of a pair
  pub same-step : (t : Step) → IsStep h g t
      → (u : Step) × IsOfPairs touches pairs u × Leads u t.from t.to × ((ranks : List ℕ) (s : Step)
      → IsToldBefore ranks s u → IsToldBefore ranks s t)
  same-step t is =
      let p = conflict-pair h touches by.touches_are by.ordered by.faultless t.kind t.from t.to t.item t.from_version
      t.to_version is.conflict in
      let in_it = are.all t.kind p.i p.k is.among p.pair in
      let e : Edge = record { from = p.i; to = p.k } in
      let kind = kinds t.kind p.pair.a p.pair.b p.pair.meets in (
        step_between p.pair.a p.pair.b,
        (e, in_it, record { a = p.pair.a; b = p.pair.b; first = p.pair.first; second = p.pair.second; is = refl }),
        (p.from_is, p.to_is),
        λ ranks s told. subst (λ (k : Conflict). IsPlaceBefore ranks s k t.item t.from_version) kind
            (subst (λ (x : ℕ). IsPlaceBefore ranks s (kind_between p.pair.a.kind p.pair.b.kind) x t.from_version)
            p.item_is
            (subst (λ (v : ℕ). IsPlaceBefore ranks s (kind_between p.pair.a.kind p.pair.b.kind) p.pair.a.item v)
            p.version_is told)),
      )

  pub leads-step : (a b : ℕ) → ConflictIn h g a b → (s : Step) × IsOfPairs touches pairs s × Leads s a b
  leads-step a b c =
      let p = conflict-pair h touches by.touches_are by.ordered by.faultless c.kind a b c.x c.v c.w c.conflict in
      let in_it = are.all c.kind p.i p.k c.among p.pair in
      let e : Edge = record { from = p.i; to = p.k } in (
        step_between p.pair.a p.pair.b,
        (e, in_it, record { a = p.pair.a; b = p.pair.b; first = p.pair.first; second = p.pair.second; is = refl }),
        (p.from_is, p.to_is),
      )

  -- ---- along lines

  pub along-steps : (ranks lines : List ℕ) (steps : List Step) → 0 < length lines
      → AreAlong touches pairs ranks lines steps → AreSteps h g steps
  along-steps ranks lines steps some along = record {
    some = omega (arith, some, along.size);
    each = All-from_at (IsStep h g) steps (λ k s at. step-is s (along.each k s at));
    onward = λ place s t at at'. same_Some s.to t.from (sym (along.ends place s at)
        ∙ ap (λ n. slice_get lines (place_behind place n)) (sym along.size)
        ∙ along.starts (place_behind place (length steps)) t at');
  }

  pub along-first : (ranks lines : List ℕ) (steps : List Step) → AreAlong touches pairs ranks lines steps
      → AreToldFirst h g ranks steps
  along-first ranks lines steps along = All-from_at (λ (s : Step). (t : Step) → IsStep h g t → Leads t s.from s.to
      → IsToldBefore ranks s t) steps (λ k s at t is leads.
      let u = same-step t is in
      u.3 ranks s (along.first k s u.0 at u.1 (u.2.0 ∙ leads.0, u.2.1 ∙ leads.1)))

lines-same : (steps : List Step) (lines : List ℕ) → length steps ≡ length lines
    → ((place : ℕ) (s : Step) → slice_get steps place ≡ Some s → slice_get lines place ≡ Some s.from)
    → lines_of steps ≡ lines
lines-same [] [] size at = refl
lines-same [] (x ∷ lines) size at = absurd (omega (arith, size))
lines-same (s ∷ steps) [] size at = absurd (omega (arith, size))
lines-same (s ∷ steps) (x ∷ lines) size at =
    let head : s.from ≡ x = same_Some s.from x (sym (at 0 s refl)) in
    let tail : lines_of steps ≡ lines =
    lines-same steps lines (omega (arith, size)) (λ place t there. at (suc place) t there) in
    ap (λ y. y ∷ lines_of steps) head ∙ ap (λ ys. x ∷ ys) tail

pub along-lines : (touches : List Touch) (pairs : List Edge) (ranks lines : List ℕ) (steps : List Step)
    → AreAlong touches pairs ranks lines steps → lines_of steps ≡ lines
along-lines touches pairs ranks lines steps along = lines-same steps lines along.size along.starts

-- ---- a cycle

chain-next : (R : ℕ → ℕ → Type 0) (a : ℕ) (xs : List ℕ) → IsChain R a xs → (i x y : ℕ) → slice_get (a ∷ xs) i ≡ Some x
    → slice_get (a ∷ xs) (suc i) ≡ Some y → R x y
chain-next R a [] chain i x y at at' = absurd (omega (arith, slice_get_within [] i y at'))
chain-next R a (b ∷ bs) chain zero x y at at' =
    subst (λ z. R x z) (same_Some b y at') (subst (λ z. R z b) (same_Some a x at) chain.0)
chain-next R a (b ∷ bs) chain (suc i) x y at at' = chain-next R b bs chain.1 i x y at at'

pub behind-last : (place count : ℕ) → count ≤ place + 1 → place_behind place count ≡ 0
behind-last place count le = rw (le-ltb (place + 1) count le) refl

pub behind-other : (place count : ℕ) → place + 1 < count → place_behind place count ≡ place + 1
behind-other place count lt = rw (lt-ltb (place + 1) count lt) refl

pub cycle-next : (R : ℕ → ℕ → Type 0) (cycle : List ℕ) → IsCycle R cycle → (place x y : ℕ)
    → slice_get cycle place ≡ Some x
    → slice_get cycle (place_behind place (length cycle)) ≡ Some y → R x y
cycle-next R [] is place x y at at' = absurd is
cycle-next R (a ∷ between) is place x y at at' =
    chain-next R a (between ++ a ∷ []) is place x y (front_at (a ∷ between) (a ∷ []) place x at)
    (elim (cases_lt (place + 1) (length (a ∷ between))) [
      | inl lt ↦
          let e : suc place ≡ place_behind place (length (a ∷ between)) =
          omega (arith, behind-other place (length (a ∷ between)) lt) in
          front_at (a ∷ between) (a ∷ []) (suc place) y (ap (slice_get (a ∷ between)) e ∙ at')
      | inr le ↦
          let first : slice_get (a ∷ between) 0 ≡ Some y =
          ap (slice_get (a ∷ between)) (sym (behind-last place (length (a ∷ between)) le)) ∙ at' in
          let end : suc place ≡ length (a ∷ between) + 0 =
          omega (arith, le, slice_get_within (a ∷ between) place x at) in
          ap (slice_get ((a ∷ between) ++ a ∷ [])) end ∙ back_at (a ∷ between) (a ∷ []) 0 ∙ first
    ])

pub cycle-leads : (h : List (Transaction ℕ ℕ)) (touches : List Touch) → IsFaultlessBy h touches
    → (g : Graph) (pairs : List Edge)
    → ArePairsOf touches g pairs → (cycle : List ℕ) → IsCycle (ConflictIn h g) cycle → LeadAlong touches pairs cycle
cycle-leads h touches by g pairs are cycle is = λ place a b at at'.
    leads-step h touches by g pairs are a b (cycle-next (ConflictIn h g) cycle is place a b at at')

pub cycle-some : (R : ℕ → ℕ → Type 0) (cycle : List ℕ) → IsCycle R cycle → 0 < length cycle
cycle-some R [] is = absurd is
cycle-some R (a ∷ between) is = omega arith

-- ---- while steps are gathered

-- one is put behind
pushed-cases : (xs : List Step) (x y : Step) (k : ℕ) → slice_get (xs ++ x ∷ []) k ≡ Some y
    → (slice_get xs k ≡ Some y) ⊎ ((k ≡ length xs) × (y ≡ x))
pushed-cases [] x y zero at = inr (refl, sym (same_Some x y at))
pushed-cases [] x y (suc k) at = absurd (omega (arith, slice_get_within [] k y at))
pushed-cases (z ∷ xs) x y zero at = inl at
pushed-cases (z ∷ xs) x y (suc k) at = elim (pushed-cases xs x y k at) [
  | inl before ↦ inl before
  | inr last ↦ inr (omega (arith, last.0), last.1)
]

-- they are steps of pairs along the first n lines
pub record AreAlongTo (touches : List Touch) (pairs : List Edge) (ranks lines : List ℕ) (n : ℕ)
    (steps : List Step) : Type 0 where
  pub size : length steps ≡ n
  pub each : (place : ℕ) (s : Step) → slice_get steps place ≡ Some s → IsOfPairs touches pairs s
  pub starts : (place : ℕ) (s : Step) → slice_get steps place ≡ Some s → slice_get lines place ≡ Some s.from
  pub ends : (place : ℕ) (s : Step) → slice_get steps place ≡ Some s
      → slice_get lines (place_behind place (length lines)) ≡ Some s.to
  pub first : (place : ℕ) (s t : Step) → slice_get steps place ≡ Some s → IsOfPairs touches pairs t
      → Leads t s.from s.to → IsToldBefore ranks s t

pub along-next : (touches : List Touch) (pairs : List Edge) (ranks lines : List ℕ) (n : ℕ) (steps more : List Step)
    (s : Step) (a b : ℕ) → AreAlongTo touches pairs ranks lines n steps
    → more ≡ steps ++ s ∷ [] → slice_get lines n ≡ Some a → slice_get lines (place_behind n (length lines)) ≡ Some b
    → IsOfPairs touches pairs s → Leads s a b
    → ((t : Step) → IsOfPairs touches pairs t → Leads t s.from s.to → IsToldBefore ranks s t)
    → AreAlongTo touches pairs ranks lines (n + 1) more
along-next touches pairs ranks lines n steps more s a b so pushed start end of leads told = record {
  size = ap length pushed ∙ length-append steps (s ∷ []) ∙ omega (arith, so.size);
  each = λ place t at. elim (cases place t at) [
    | inl before ↦ so.each place t before
    | inr last ↦ subst (IsOfPairs touches pairs) (sym last.1) of
  ];
  starts = λ place t at. elim (cases place t at) [
    | inl before ↦ so.starts place t before
    | inr last ↦ ap (slice_get lines) (last.0 ∙ so.size) ∙ start
        ∙ ap Some (sym leads.0 ∙ ap (λ (u : Step). u.from) (sym last.1))
  ];
  ends = λ place t at. elim (cases place t at) [
    | inl before ↦ so.ends place t before
    | inr last ↦ ap (λ k. slice_get lines (place_behind k (length lines))) (last.0 ∙ so.size) ∙ end
        ∙ ap Some (sym leads.1 ∙ ap (λ (u : Step). u.to) (sym last.1))
  ];
  first = λ place t u at of_u leads_u. elim (cases place t at) [
    | inl before ↦ so.first place t u before of_u leads_u
    | inr last ↦
        let same = last.1 in
        subst (λ (x : Step). IsToldBefore ranks x u) (sym same)
        (told u of_u (subst (λ (x : Step). Leads u x.from x.to) same leads_u))
  ];
}
  where
    cases : (place : ℕ) (t : Step) → slice_get more place ≡ Some t
        → (slice_get steps place ≡ Some t) ⊎ ((place ≡ length steps) × (t ≡ s))
    cases place t at = pushed-cases steps s t place (ap (λ xs. slice_get xs place) (sym pushed) ∙ at)

pub along-whole : (touches : List Touch) (pairs : List Edge) (ranks lines : List ℕ) (n : ℕ) (steps : List Step)
    → length lines ≤ n → n ≤ length lines
    → AreAlongTo touches pairs ranks lines n steps → AreAlong touches pairs ranks lines steps
along-whole touches pairs ranks lines n steps all within so = record {
  size = omega (arith, so.size, all, within);
  each = so.each;
  starts = so.starts;
  ends = so.ends;
  first = so.first;
}

-- ---- of what is told of a cycle

pub told-join : (c : Cyclic) (h : List (Transaction ℕ ℕ)) (touches : List Touch) (pairs : List Edge) → IsCyclic h c
    → touches ≡ c.touches.items
    → pairs ≡ part_of c.pairs c.graph → All (JoinsTouches touches) pairs
told-join c h touches pairs is t p =
    subst (λ ts. All (JoinsTouches ts) pairs) (sym t) (subst (λ es. All (JoinsTouches c.touches.items) es) (sym p)
    (pairs-join c.touches.items c.graph (part_of c.pairs c.graph) (is.pairs_are c.graph)))

pub told-lead : (c : Cyclic) (h : List (Transaction ℕ ℕ)) (touches : List Touch) (pairs : List Edge) (lines : List ℕ)
    → IsCyclic h c → touches ≡ c.touches.items
    → pairs ≡ part_of c.pairs c.graph → lines ≡ c.cycle.items → LeadAlong touches pairs lines
told-lead c h touches pairs lines is t p l =
    let lead : LeadAlong c.touches.items (part_of c.pairs c.graph) c.cycle.items =
    cycle-leads h c.touches.items is.faultless c.graph (part_of c.pairs c.graph) (is.pairs_are c.graph) c.cycle.items
    is.cycle_is.is in
    subst (λ ts. LeadAlong ts pairs lines) (sym t) (subst (λ es. LeadAlong c.touches.items es lines) (sym p)
    (subst (λ xs. LeadAlong c.touches.items (part_of c.pairs c.graph) xs) (sym l) lead))

pub told-steps : (c : Cyclic) (h : List (Transaction ℕ ℕ)) (touches : List Touch) (pairs : List Edge)
    (ranks lines : List ℕ) (steps : List Step) → IsCyclic h c
    → touches ≡ c.touches.items → pairs ≡ part_of c.pairs c.graph → lines ≡ c.cycle.items
    → AreAlong touches pairs ranks lines steps → AreSteps h c.graph steps
told-steps c h touches pairs ranks lines steps is t p l along =
    let some : 0 < length lines =
    subst (λ xs. 0 < length xs) (sym l) (cycle-some (ConflictIn h c.graph) c.cycle.items is.cycle_is.is) in
    along-steps h c.touches.items is.faultless c.graph (part_of c.pairs c.graph) (is.pairs_are c.graph) ranks lines
    steps some
    (subst (λ es. AreAlong c.touches.items es ranks lines steps) p
    (subst (λ ts. AreAlong ts pairs ranks lines steps) t along))

pub told-first : (c : Cyclic) (h : List (Transaction ℕ ℕ)) (touches : List Touch) (pairs : List Edge)
    (ranks lines : List ℕ) (steps : List Step) → IsCyclic h c
    → touches ≡ c.touches.items → pairs ≡ part_of c.pairs c.graph → AreAlong touches pairs ranks lines steps
    → AreToldFirst h c.graph ranks steps
told-first c h touches pairs ranks lines steps is t p along =
    along-first h c.touches.items is.faultless c.graph (part_of c.pairs c.graph) (is.pairs_are c.graph) ranks lines
    steps
    (subst (λ es. AreAlong c.touches.items es ranks lines steps) p
    (subst (λ ts. AreAlong ts pairs ranks lines steps) t along))
