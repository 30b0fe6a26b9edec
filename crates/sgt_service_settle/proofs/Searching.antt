-- What the marks and the stack say as the search goes on.
use Rattle.std.proofs.Common.{◌≡◌, ◌⊎◌, ℕ, zero, suc, ◌<◌, List, [], ◌∷◌, ◌++◌, length, Some, Bool, true, false, refl, sym, ap, ◌∙◌, subst, arith, inl, inr, replicate}
use Rattle.std.specs.Prelude.{slice_get, Vec}
use Rattle.std.specs.declared.alloc.Global.{Global}
use Rattle.std.proofs.lemmas.Bool.{true≢false}
use Rattle.std.proofs.lemmas.Option.{same_Some, none-some, slice_get_within}
use Rattle.sgt_order.specs.Graph.{Leads, Reaches}
use Rattle.sgt_order.proofs.Placed.{reaches-on}
use Rattle.sgt_service_settle.specs.declared.link.Arc.{Arc}
use Rattle.sgt_service_settle.specs.declared.link.Cut.{Cut}
use Rattle.sgt_service_settle.specs.private.Search.{On, IsMarked, Marked, IsTarget, InRows, Told}
use Rattle.sgt_service_settle.proofs.Marking.{on_push}
use Rattle.sgt_names.proofs.Elements.{empty-length, get-push_last}
use Rattle.sgt_names.proofs.Lists.{front_at}

pub record Searching (rows : List (Vec Arc Global)) (cut : Cut) (start : ℕ) (marks : List Bool)
    (stack : List ℕ) : Type 0 where
  pub sound : (k : ℕ) → IsMarked marks k → Reaches (InRows rows cut) start k
  pub known : (k : ℕ) → On stack k → (k ≡ start) ⊎ IsMarked marks k
  pub closed : (a b : ℕ) → (a ≡ start) ⊎ IsMarked marks a → InRows rows cut a b → On stack a ⊎ IsMarked marks b

no_marks : (n k : ℕ) → IsMarked (replicate n false) k → ⊥
no_marks zero k h = none-some true h
no_marks (suc n) zero h = true≢false (sym (same_Some false true h))
no_marks (suc n) (suc k) h = no_marks n k h

pub search_next : (rows : List (Vec Arc Global)) (cut : Cut) (start at : ℕ) (row : Vec Arc Global)
    (marks new : List Bool) (stack rest now : List ℕ) → stack ≡ rest ++ at ∷ [] → slice_get rows at ≡ Some row
    → Marked (IsTarget row.items cut) marks rest new now → Searching rows cut start marks stack
    → Searching rows cut start new now
search_next rows cut start at row marks new stack rest now is here m s =
    let top : On stack at = subst (λ xs. On xs at) (sym is) (length rest, get-push_last rest at) in
    record {
      sound = λ k h.
          elim (m.fresh k h) [
            | inl old ↦ s.sound k old
            | inr fresh ↦
                let edge : InRows rows cut at k = (row, here, fresh.0) in
                elim (s.known at top) [
                  | inl home ↦ ([], subst (λ a. InRows rows cut a k) home edge)
                  | inr marked ↦ reaches-on (InRows rows cut) start at k (s.sound at marked) edge
                ]
          ];
      known = λ k o.
          elim (m.known k o) [
            | inl was ↦
                elim (s.known k (subst (λ xs. On xs k) (sym is) (was.0, front_at rest (at ∷ []) was.0 k was.1))) [
                  | inl home ↦ inl home
                  | inr marked ↦ inr (m.kept k marked)
                ]
            | inr marked ↦ inr marked
          ];
      closed = λ a b from edge.
          let on_old : (a ≡ start) ⊎ IsMarked marks a → On now a ⊎ IsMarked new b = λ old.
          elim (s.closed a b old edge) [
            | inl on ↦
                elim (on_push rest at a (subst (λ xs. On xs a) is on)) [
                  | inl still ↦ inl (m.grew a still)
                  | inr popped ↦
                      let same : edge.0 ≡ row =
                      same_Some edge.0 row (sym edge.1 ∙ (ap (slice_get rows) (sym popped) ∙ here)) in
                      inr (m.done b (subst (λ v. IsTarget v.items cut b) same edge.2))
                ]
            | inr marked ↦ inr (m.kept b marked)
          ] in
          elim from [
            | inl home ↦ on_old (inl home)
            | inr marked ↦
                elim (m.fresh a marked) [
                  | inl old ↦ on_old (inr old)
                  | inr fresh ↦ inl fresh.1
                ]
          ];
    }

marked_along : (rows : List (Vec Arc Global)) (cut : Cut) (start : ℕ) (marks : List Bool)
    → Searching rows cut start marks [] → (a b : ℕ) (between : List ℕ) → (a ≡ start) ⊎ IsMarked marks a
    → Leads (InRows rows cut) a between b → IsMarked marks b
marked_along rows cut start marks s a b [] from leads =
    elim (s.closed a b from leads) [ inl on ↦ absurd (none-some a on.1) | inr marked ↦ marked ]
marked_along rows cut start marks s a b (c ∷ cs) from leads =
    let next : IsMarked marks c = elim (s.closed a c from leads.0) [
      | inl on ↦ absurd (none-some a on.1)
      | inr marked ↦ marked
    ] in
    marked_along rows cut start marks s c b cs (inr next) leads.1

pub search_end : (rows : List (Vec Arc Global)) (cut : Cut) (start : ℕ) (marks : List Bool) (stack : List ℕ)
    → stack ≡ [] → Searching rows cut start marks stack → Told rows cut start marks
search_end rows cut start marks stack is s k = (
  λ h. s.sound k h,
  λ r. marked_along rows cut start marks (subst (Searching rows cut start marks) is s) start k r.0 (inl refl) r.1,
)

-- what is on the stack is a transaction's number
pub within : (rows : List (Vec Arc Global)) (cut : Cut) (start at : ℕ) (marks : List Bool) (stack rest : List ℕ)
    → start < length rows → length marks ≡ length rows → stack ≡ rest ++ at ∷ []
    → Searching rows cut start marks stack → at < length rows
within rows cut start at marks stack rest first long is s =
    elim (s.known at (subst (λ xs. On xs at) (sym is) (length rest, get-push_last rest at))) [
      | inl home ↦ omega (arith, home, first)
      | inr marked ↦ omega (arith, long, slice_get_within marks at true marked)
    ]
