-- What orders of all lines and cycles come to.
use Rattle.std.proofs.Common.{◌≡◌, ℕ, ◌<◌, List, [], ◌∷◌, ◌++◌, Option, Some, length, sym, ◌∙◌, arith, inl, inr, All}
use Rattle.std.specs.Prelude.{◌↔◌, slice_get}
use Rattle.std.proofs.lemmas.Option.{slice_get_within}
use Rattle.sgt_names.proofs.Lists.{All_in}
use Rattle.sgt_names.proofs.Places.{Contains_at, Contains-from_at}
use Rattle.sgt_history.specs.Transaction.{Transaction}
use Rattle.sgt_history.specs.Serial.{IsCommitted}
use Rattle.sgt_history.specs.Conflicts.{IsChain, IsCycle, Precedes}
use Rattle.sgt_graph.specs.declared.edge.Edge.{Edge}
use Rattle.sgt_graph.specs.First.{IsFirstCycle}
use Rattle.sgt_graph.specs.Graph as nodes
use Rattle.sgt_history_verdict.specs.Verdict.{committed_in}
use Rattle.sgt_history_verdict.proofs.Kept.{kept-from, kept_at, kept-both, kept-once}
use Rattle.sgt_history_kept.specs.declared.asked.Asked.{Asked}
use Rattle.sgt_history_kept.specs.declared.deciding.Kept.{Kept}
use Rattle.sgt_history_kept.specs.declared.deciding.Kept.TheVariants.{Serial, Cyclic}
use Rattle.sgt_history_kept.specs.Decided.{Adds, GoesForward, IsInRows, IsKept, IsKeptFrom, IsSerial}
use Rattle.sgt_history_time.specs.Kept.{KeepsRealTime, KeepsSessions}
use Rattle.sgt_history_kept.specs.FirstCycle.{IsFirstCycleOf}
use Rattle.sgt_history_kept.specs.Placed.{ArePlaces, LeadsOn}
use Rattle.sgt_history_time.specs.Serializable.{IsSerializableKeeping, ServesKeeping}
use Rattle.sgt_history_time.specs.Steps.{StandsBefore}
use Rattle.sgt_history_time.proofs.Forward.{cycle-excludes, serves-keeping}
use Rattle.sgt_history_verdict.proofs.Served.{committed-both}

module _ (h : List (Transaction ℕ ℕ)) (lines : ℕ) (edges : List Edge) (a : Asked) (from : IsKeptFrom h lines edges a)
  where
    pub both-commit : (first second : ℕ) → StandsBefore h a.times.items a.sessions.items first second
        → ((t : Transaction ℕ ℕ) × IsCommitted h first t) × ((u : Transaction ℕ ℕ) × IsCommitted h second u)
    both-commit first second (inl c) = committed-both h c.kind first second c.x c.v c.w c.conflict
    both-commit first second (inr (inl e)) =
        (from.sessioned first e.session e.first_at, from.sessioned second e.session e.second_at)
    both-commit first second (inr (inr e)) = (from.timed first e.a e.first_at, from.timed second e.b e.second_at)

    -- an order of all lines in which all goes forward serves and keeps, as far as they commit
    pub forward-serves : (order : List ℕ) → GoesForward h a order
        → ServesKeeping h a.times.items a.sessions.items (committed_in h order)
    forward-serves order o =
        serves-keeping h a.times.items a.sessions.items from.positive from.faultless (committed_in h order) (record {
          committed = λ line in_it.
              let at = Contains_at (committed_in h order) line in_it in
              let r = kept-from h order at.0 line at.1 in
              (r.t, r.commits);
          all = λ line t c.
              let at = Contains_at order line (o.all line (slice_get_within h line t c.0)) in
              let r = kept_at h order at.0 line t at.1 c in
              Contains-from_at (committed_in h order) r.0 line r.1;
          once = kept-once h order o.once;
        }) (λ first second step.
        let both = both-commit first second step in
        let p = o.forward first second step in
        let r = kept-both h order p.i p.j first second both.0.0 both.1.0 p.before p.first_at p.second_at both.0.1
        both.1.1 in
        record { i = r.i; j = r.j; before = r.before; first_at = r.first_at; second_at = r.second_at })

    -- ---- an order that was checked

    place-of : (order : List ℕ) (places : List (Option ℕ)) → ArePlaces order lines places → (line : ℕ) → line < length h
        → (place : ℕ) × (slice_get order place ≡ Some line)
    place-of order places are line lt =
        let p = are.all line (omega (arith, lt, from.size, are.size)) in
        (p.0, are.there line p.0 p.1)

    pub checked-forward : (order : List ℕ) (places : List (Option ℕ)) → ArePlaces order lines places
        → All (LeadsOn places) edges
        → KeepsRealTime order a.times.items → KeepsSessions order a.sessions.items → GoesForward h a order
    checked-forward order places are onward in_time in_sessions = record {
      all = λ line lt. let p = place-of order places are line lt in Contains-from_at order p.0 line p.1;
      once = λ i j x at at'. once i j x (are.back x i at) (are.back x j at');
      forward = forward;
    }
      where
        once : (i j x : ℕ) → slice_get places x ≡ Some (Some i) → slice_get places x ≡ Some (Some j) → i ≡ j
        once i j x e f = let g = sym e ∙ f in cc

        forward : (first second : ℕ) → StandsBefore h a.times.items a.sessions.items first second
            → Precedes order first second
        forward first second (inl c) =
            let e = All_in (LeadsOn places) edges (record { from = first; to = second }) onward
            (from.conflicts.all first second c) in
            record {
              i = e.i;
              j = e.j;
              before = e.before;
              first_at = are.there first e.i e.from_at;
              second_at =
                  are.there second e.j e.to_at;
            }
        forward first second (inr (inl e)) =
            let both = both-commit first second (inr (inl e)) in
            let i = place-of order places are first (slice_get_within h first both.0.0 both.0.1.0) in
            let j = place-of order places are second (slice_get_within h second both.1.0 both.1.1.0) in
            record {
              i = i.0;
              j = j.0;
              before = in_sessions i.0 j.0 first second i.1 j.1 e;
              first_at = i.1;
              second_at =
                  j.1;
            }
        forward first second (inr (inr e)) =
            let both = both-commit first second (inr (inr e)) in
            let i = place-of order places are first (slice_get_within h first both.0.0 both.0.1.0) in
            let j = place-of order places are second (slice_get_within h second both.1.0 both.1.1.0) in
            record {
              i = i.0;
              j = j.0;
              before = in_time i.0 j.0 first second i.1 j.1 e;
              first_at = i.1;
              second_at =
                  j.1;
            }

    -- ---- an order or a cycle of all pairs

    pub step-of : (all : List Edge) → Adds (IsInRows a lines lines) edges all → (first second : ℕ)
        → nodes.Goes all first second
        → StandsBefore h a.times.items a.sessions.items first second
    step-of all adds first second goes = elim (adds.sound (record { from = first; to = second }) goes) [
      | inl old ↦ inl (from.conflicts.sound (record { from = first; to = second }) old)
      | inr r ↦ inr r.asked
    ]

    goes-of : (all : List Edge) → Adds (IsInRows a lines lines) edges all → (first second : ℕ)
        → StandsBefore h a.times.items a.sessions.items first second
        → nodes.Goes all first second
    goes-of all adds first second (inl c) =
        adds.kept (record { from = first; to = second }) (from.conflicts.all first second c)
    goes-of all adds first second (inr asked) =
        let both = both-commit first second (inr asked) in
        let one = slice_get_within h first both.0.0 both.0.1.0 in
        let two = slice_get_within h second both.1.0 both.1.1.0 in
        adds.all first second (record {
          first_below = omega (arith, one, from.size);
          second_below =
              omega (arith, two, from.size);
          asked = asked;
        })

    chain-on : (R S : ℕ → ℕ → Type 0) → ((x y : ℕ) → R x y → S x y) → (x : ℕ) (ys : List ℕ) → nodes.IsChain R x ys
        → IsChain S x ys
    chain-on R S f x [] chain = tt
    chain-on R S f x (y ∷ ys) chain = (f x y chain.0, chain-on R S f y ys chain.1)

    cycle-on : (R S : ℕ → ℕ → Type 0) → ((x y : ℕ) → R x y → S x y) → (cycle : List ℕ) → nodes.IsCycle R cycle
        → IsCycle S cycle
    cycle-on R S f [] is = is
    cycle-on R S f (x ∷ between) is = chain-on R S f x (between ++ x ∷ []) is

    plain-cycle : (all : List Edge) → Adds (IsInRows a lines lines) edges all → (cycle : List ℕ)
        → nodes.IsCycle (nodes.Goes all) cycle
        → IsCycle (StandsBefore h a.times.items a.sessions.items) cycle
    plain-cycle all adds = cycle-on (nodes.Goes all) (StandsBefore h a.times.items a.sessions.items) (step-of all adds)

    chain-to : (R S : ℕ → ℕ → Type 0) → ((x y : ℕ) → R x y → S x y) → (x : ℕ) (ys : List ℕ) → IsChain R x ys
        → nodes.IsChain S x ys
    chain-to R S f x [] chain = tt
    chain-to R S f x (y ∷ ys) chain = (f x y chain.0, chain-to R S f y ys chain.1)

    cycle-to : (R S : ℕ → ℕ → Type 0) → ((x y : ℕ) → R x y → S x y) → (cycle : List ℕ) → IsCycle R cycle
        → nodes.IsCycle S cycle
    cycle-to R S f [] is = is
    cycle-to R S f (x ∷ between) is = chain-to R S f x (between ++ x ∷ []) is

    pub plain-first : (all : List Edge) → Adds (IsInRows a lines lines) edges all → (cycle : List ℕ)
        → IsFirstCycle all cycle → IsFirstCycleOf (StandsBefore h a.times.items a.sessions.items) cycle
    plain-first all adds cycle told = record {
      is = plain-cycle all adds cycle told.is;
      first = λ other is. told.first other
          (cycle-to (StandsBefore h a.times.items a.sessions.items) (nodes.Goes all) (goes-of all adds) other is);
    }

    pub plain-forward : (all : List Edge) → Adds (IsInRows a lines lines) edges all → (order : List ℕ)
        → nodes.IsOrder lines all order → GoesForward h a order
    plain-forward all adds order o = record {
      all = λ line lt. o.all line (omega (arith, lt, from.size));
      once = o.once;
      forward = λ first second step.
          let p = o.onward first second (goes-of all adds first second step) in
          record { i = p.i; j = p.j; before = p.before; first_at = p.first_at; second_at = p.second_at };
    }

    -- ---- exact

    pub exactly : (k : Kept) → IsKept h a k → IsSerial k ↔ IsSerializableKeeping h a.times.items a.sessions.items
    exactly (Serial order) is = (λ serial. (committed_in h order.items, is.keeps), λ s. tt)
    exactly (Cyclic cycle) is = (
      λ serial. absurd serial,
      λ s. cycle-excludes h a.times.items a.sessions.items from.timed from.sessioned cycle.items is.is s,
    )
