-- The nodes while they are told their places one after another.
use Rattle.std.proofs.Common.{◌≡◌, ◌⊎◌, ℕ, ◌+◌, ◌<◌, ◌≤◌, List, length, Some, refl, sym, ap, ◌∙◌, arith, inl, inr}
use Rattle.std.specs.Prelude.{slice_get}
use Rattle.std.proofs.lemmas.Bool.{cases_lt}
use Rattle.std.proofs.lemmas.Option.{same_Some, slice_get_within}
use Rattle.sgt_arena.specs.declared.handle.Handle.{Handle}
use Rattle.sgt_arena.specs.Arena.{Arena, get, with_value}
use Rattle.sgt_order.specs.declared.node.Node.{Node}
use Rattle.sgt_order.specs.private.Growth.{SameNodes, Renumbered}
use Rattle.sgt_order.proofs.Growing.{got_with, same_nodes, same_on}

-- told a place from first on and before next, or as it was and at none of these
abbrev pub IsToldBefore : ℕ → ℕ → List Handle → Handle → Node → Node → Type 0
IsToldBefore first next order h was node =
    ((p : ℕ) × (first ≤ p) × (p < next) × (slice_get order p ≡ Some h) × (node.place ≡ Some p))
    ⊎ (((p : ℕ) → first ≤ p → p < next → slice_get order p ≡ Some h → ⊥) × (node.place ≡ was.place))

pub record ToldUpTo (first next : ℕ) (order : List Handle) (old new : Arena Node) : Type 0 where
  pub same : SameNodes old new
  pub told : (h : Handle) (node : Node) → get new h ≡ Some node
      → (was : Node) × (get old h ≡ Some was) × (node.out ≡ was.out) × IsToldBefore first next order h was node

pub told_next : (first next : ℕ) (order : List Handle) (a b : Arena Node) (f : Handle) (node : Node)
    → ToldUpTo first next order a b → first ≤ next → slice_get order next ≡ Some f → get b f ≡ Some node
    → ((p q : ℕ) (h : Handle) → slice_get order p ≡ Some h → slice_get order q ≡ Some h → p ≡ q)
    → ToldUpTo first (next + 1) order a (with_value b f (record node { place = Some next }))
told_next first next order a b f node told from at had once = record {
  same = same_on _ _ _ told.same (same_nodes b f node (record node { place = Some next }) had refl);
  told = λ h found got.
      elim (got_with b f h (record node { place = Some next }) found node had got) [
        | inl here ↦
            let was = told.told f node had in (
              was.0,
              ap (get a) here.0 ∙ was.1,
              ap (λ (n : Node). n.out) (sym here.1)
                  ∙ was.2,
              inl (
                next,
                from,
                omega arith,
                at ∙ ap Some (sym here.0),
                ap (λ (n : Node). n.place) (sym here.1),
              ),
            )
        | inr there ↦
            let was = told.told h found there.1 in (
              was.0,
              was.1,
              was.2,
              elim was.3 [
                | inl set ↦ inl (set.0, set.1, omega (arith, set.2), set.3, set.4)
                | inr kept ↦ inr (
                  λ p low high here.
                      elim (cases_lt p next) [
                        | inl early ↦ kept.0 p low early here
                        | inr late ↦
                            let last : p ≡ next = omega (arith, late, high) in
                            there.0 (same_Some h f (sym here ∙ (ap (slice_get order) last ∙ at)))
                      ],
                  kept.1,
                )
              ],
            )
      ];
}

pub told_all : (first next : ℕ) (order : List Handle) (a b : Arena Node) → ToldUpTo first next order a b
    → length order ≤ next → Renumbered first order a b
told_all first next order a b told whole = record {
  same = told.same;
  told = λ h node got.
      let was = told.told h node got in (
        was.0,
        was.1,
        was.2,
        elim was.3 [
          | inl set ↦ inl (set.0, set.1, set.3, set.4)
          | inr kept ↦ inr (
            λ p low here. kept.0 p low (omega (arith, slice_get_within order p h here, whole)) here,
            kept.1,
          )
        ],
      );
}
