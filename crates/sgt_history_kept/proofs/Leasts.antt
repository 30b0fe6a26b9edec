-- Orders in which of the lines that may come next the least one does.
use Rattle.std.proofs.Common.{ℕ, List, take, sym, subst, arith, inl, inr, All, Contains}
use Rattle.std.proofs.lemmas.Option.{slice_get_within}
use Rattle.sgt_names.proofs.Lists.{All_in, All-weaken}
use Rattle.sgt_names.proofs.Places.{All-from_at, Contains-from_at, All_at}
use Rattle.sgt_history.specs.Transaction.{Transaction}
use Rattle.sgt_graph.specs.declared.edge.Edge.{Edge}
use Rattle.sgt_graph.specs.Graph as nodes
use Rattle.sgt_history_kept.specs.declared.asked.Asked.{Asked}
use Rattle.sgt_history_kept.specs.Decided.{IsKeptFrom, IsStepAmong}
use Rattle.sgt_history_kept.specs.Least.{IsLeastForward, IsLeastKeeping}
use Rattle.sgt_history_time.specs.Steps.{StandsBefore}
use Rattle.sgt_history_verdict.specs.Verdict.{committed_in}
use Rattle.sgt_history_verdict.proofs.Kept.{kept-among, kept-back, kept-place}

-- ---- some steps

pub conflicts-among : (lines : ℕ) (a : Asked) (edges : List Edge) → All (nodes.JoinsNodes lines) edges
    → All (IsStepAmong lines edges a) edges
conflicts-among lines a edges joins = All-from_at (IsStepAmong lines edges a) edges (λ n e at. record {
  joins = All_at (nodes.JoinsNodes lines) edges n e joins at;
  is = inl (Contains-from_at edges n e at);
})

pub steps-join : (lines : ℕ) (a : Asked) (edges steps : List Edge) → All (IsStepAmong lines edges a) steps
    → All (nodes.JoinsNodes lines) steps
steps-join lines a edges steps all =
    All-weaken (IsStepAmong lines edges a) (nodes.JoinsNodes lines) steps (λ e s. s.joins) all

-- ---- orders

module _ (h : List (Transaction ℕ ℕ)) (lines : ℕ) (edges : List Edge) (a : Asked) (from : IsKeptFrom h lines edges a)
  where
    -- what the order of some of the steps says of all
    pub order-least : (steps : List Edge)
        → ((b c : ℕ) → nodes.Goes steps b c → StandsBefore h a.times.items a.sessions.items b c) → (order : List ℕ)
        → nodes.IsOrder lines steps order → IsLeastForward h a order
    order-least steps sound order o place line other at may =
        (o.least place line at).least other (record {
          node = omega (arith, may.line_is, from.size);
          left = may.left;
          behind = λ b goes. may.behind b (sound b other goes);
        })

    pub among-sound : (steps : List Edge) → All (IsStepAmong lines edges a) steps → (b c : ℕ) → nodes.Goes steps b c
        → StandsBefore h a.times.items a.sessions.items b c
    among-sound steps all b c goes =
        let e : Edge = record { from = b; to = c } in
        elim ((All_in (IsStepAmong lines edges a) steps e all goes).is) [
          | inl conflict ↦ inl (from.conflicts.sound e conflict)
          | inr asked ↦ inr asked
        ]

    pub committed-least : (order : List ℕ) → IsLeastForward h a order
        → IsLeastKeeping h a.times.items a.sessions.items (committed_in h order)
    committed-least order least place line other at may =
        let k = kept-place h order place line at in
        least k.j line other k.at (record {
          line_is = slice_get_within h other may.t may.committed.0;
          left = λ among. may.left (subst (λ (xs : List ℕ). Contains xs other) (sym k.front)
              (kept-among h (take k.j order) other may.t may.committed among));
          behind = λ b step.
              kept-back h (take k.j order) b (subst (λ (xs : List ℕ). Contains xs b) k.front (may.behind b step));
        })
