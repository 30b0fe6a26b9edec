-- While a way home is walked.
use Rattle.std.proofs.Common.{◌≡◌, ◌≢◌, ℕ, zero, suc, ◌+◌, ◌-◌, ◌<◌, ◌≤◌, List, [], ◌∷◌, ◌++◌, Some, None, length, refl, sym, ap, ◌∙◌, subst, arith, slice_index, append_assoc}
use Rattle.sgt_names.proofs.Lists.{All_in}
use Rattle.sgt_graph.specs.declared.edge.Edge.{Edge}
use Rattle.sgt_graph.specs.Graph.{Goes, IsChain, JoinsNodes}
use Rattle.sgt_graph.specs.Nearest.{AreClosed, AreMeasured, AreTargets, IsHomeward, IsNearest, IsOnWay, IsWayHome, NoneFrom, Reaches}
use Rattle.sgt_graph.proofs.Cycles.{nearer-le}

-- ---- distances of walks

reach-far : (edges : List Edge) (distances : List ℕ) → AreClosed edges distances → (v : ℕ)
    → slice_index distances v ≡ 0 → (n a : ℕ) → Reaches edges n a v
    → slice_index distances a ≤ n
reach-far edges distances closed v home zero a same = omega (arith, ap (λ x. slice_index distances x) same, home)
reach-far edges distances closed v home (suc n) a (b, goes, more) =
    omega (arith, closed a b goes, reach-far edges distances closed v home n b more)

chain-near : (edges : List Edge) (far : ℕ) (distances : List ℕ) (v : ℕ) → 0 < far → AreMeasured edges far distances v
    → (a : ℕ) (bs : List ℕ)
    → IsChain (Goes edges) a (bs ++ v ∷ []) → (b : ℕ) × Goes edges a b × (slice_index distances b < far)
chain-near edges far distances v some so a [] chain = (v, chain.0, omega (arith, some, so.home))
chain-near edges far distances v some so a (b ∷ bs) chain =
    let c = chain-near edges far distances v some so b bs chain.1 in
    (b, chain.0, so.reached b c.0 c.1 c.2)

-- ---- along the way

module _ (edges : List Edge) (distances : List ℕ) (node : ℕ) where
  pub way-begins : (targets : List ℕ) (first : ℕ) (cycle : List ℕ) → AreTargets edges node targets
      → IsNearest distances targets (Some first) → cycle ≡ node ∷ []
      → IsOnWay edges distances node first (slice_index distances first) cycle
  way-begins targets first cycle are nearest is = record {
    left_is = refl;
    from = node;
    goes = are.sound first nearest.0;
    between = [];
    is = is;
    closing = λ rest size way. (are.sound first nearest.0, sym size, (λ t goes. nearest.1 t (are.all t goes)), way);
    near = λ far some so other chain.
        let b = chain-near edges far distances node some so node other chain in
        omega (arith, b.2, nearer-le distances first b.0 (nearest.1 b.0 (are.all b.0 b.1)));
  }

  pub way-goes_on : (here left next : ℕ) (targets cycle more : List ℕ) → IsOnWay edges distances node here left cycle
      → AreTargets edges here targets
      → IsNearest distances targets (Some next) → 0 < left → slice_index distances next ≡ left - 1
      → more ≡ cycle ++ here ∷ []
      → IsOnWay edges distances node next (left - 1) more
  way-goes_on here left next targets cycle more way are nearest some far is = record {
    left_is = far;
    from = here;
    goes = are.sound next nearest.0;
    between = way.between ++ here ∷ [];
    is = is ∙ ap (λ (c : List ℕ). c ++ here ∷ []) way.is;
    closing = λ rest size behind.
        let on : IsHomeward edges distances here (next ∷ rest) =
        (are.sound next nearest.0, far ∙ sym size, (λ t goes. nearest.1 t (are.all t goes)), behind) in
        subst (IsHomeward edges distances node) (sym (append_assoc way.between (here ∷ []) (next ∷ rest)))
        (way.closing (next ∷ rest) (omega (arith, size, some)) on);
    near = λ far some so other chain. omega (arith, way.near far some so other chain);
  }

  pub way-ends : (here left : ℕ) (cycle : List ℕ) → IsOnWay edges distances node here left cycle → left ≡ 0
      → here ≡ node → IsWayHome edges distances node cycle
  way-ends here left cycle way none home = record {
    between = way.between;
    is = way.is;
    homeward = subst (λ (x : ℕ). IsHomeward edges distances node (way.between ++ x ∷ [])) home
        (way.closing [] (sym none) tt);
  }

  -- ---- none leads home

  pub lost-first : (far : ℕ) (targets : List ℕ) → 0 < far → AreTargets edges node targets
      → IsNearest distances targets None
      → AreMeasured edges far distances node → NoneFrom edges node
  lost-first far targets some are none so other chain =
      let b = chain-near edges far distances node some so node other chain in
      omega (arith, none, (are.all b.0 b.1).1)

  -- one of those to which edges lead is nearer
  nearer-next : (far here left : ℕ) (cycle : List ℕ) → 0 < far → IsOnWay edges distances node here left cycle
      → 0 < left → AreMeasured edges far distances node
      → (other : List ℕ) → IsChain (Goes edges) node (other ++ node ∷ [])
      → (b : ℕ) × Goes edges here b × (slice_index distances b + 1 ≤ left)
  nearer-next far here zero cycle some way more so other chain = absurd (omega (arith, more))
  nearer-next far here (suc n) cycle some way more so other chain =
      let within =
      (All_in (JoinsNodes (length distances)) edges (record { from = way.from; to = here }) so.joins way.goes).1 in
      let walk = subst (λ (m : ℕ). Reaches edges m here node) way.left_is
      (so.walked here within (omega (arith, way.left_is, way.near far some so other chain))) in
      (walk.0, walk.1, omega (arith, reach-far edges distances so.closed node so.home n walk.0 walk.2))

  pub lost-none : (far here left : ℕ) (cycle targets : List ℕ) → 0 < far
      → IsOnWay edges distances node here left cycle → 0 < left → AreTargets edges here targets
      → IsNearest distances targets None → AreMeasured edges far distances node → NoneFrom edges node
  lost-none far here left cycle targets some way more are none so other chain =
      let b = nearer-next far here left cycle some way more so other chain in
      omega (arith, none, (are.all b.0 b.1).1)

  pub lost-far : (far here left next : ℕ) (cycle targets : List ℕ) → 0 < far
      → IsOnWay edges distances node here left cycle → 0 < left → AreTargets edges here targets
      → IsNearest distances targets (Some next) → slice_index distances next ≢ left - 1
      → AreMeasured edges far distances node → NoneFrom edges node
  lost-far far here left next cycle targets some way more are nearest unlike so other chain =
      let b = nearer-next far here left cycle some way more so other chain in
      let le = nearer-le distances next b.0 (nearest.1 b.0 (are.all b.0 b.1)) in
      let one = so.closed here next (are.sound next nearest.0) in
      unlike (omega (arith, le, one, b.2, way.left_is))

  pub lost-end : (far here left : ℕ) (cycle : List ℕ) → 0 < far → IsOnWay edges distances node here left cycle
      → left ≡ 0 → here ≢ node
      → AreMeasured edges far distances node → NoneFrom edges node
  lost-end far here left cycle some way none unlike so other chain =
      let within =
      (All_in (JoinsNodes (length distances)) edges (record { from = way.from; to = here }) so.joins way.goes).1 in
      let zero_is : slice_index distances here ≡ 0 = way.left_is ∙ none in
      unlike (subst (λ (m : ℕ). Reaches edges m here node) zero_is
      (so.walked here within (omega (arith, zero_is, some))))
