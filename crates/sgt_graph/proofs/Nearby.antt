-- The nearest of several nodes.
use Rattle.std.proofs.Common.{◌≡◌, ℕ, ◌+◌, ◌<◌, ◌⊎◌, List, [], ◌∷◌, ◌++◌, length, get_or, take, Option, None, Some, refl, sym, ◌∙◌, subst, arith, inl, inr, Contains}
use Rattle.std.proofs.lemmas.List.{take_more}
use Rattle.std.proofs.lemmas.List.Elements.{Contains-append_left, Contains-push, Contains-push_cases}
use Rattle.std.proofs.lemmas.Option.{same_Some}
use Rattle.sgt_graph.specs.Nearest.{IsNearer, IsNearest}

near-on : (distances : List ℕ) (a b c : ℕ) → IsNearer distances a b → IsNearer distances b c → IsNearer distances a c
near-on distances a b c (inl one) (inl two) = inl (omega (arith, one, two))
near-on distances a b c (inl one) (inr (two, le)) = inl (omega (arith, one, two))
near-on distances a b c (inr (one, le)) (inl two) = inl (omega (arith, one, two))
near-on distances a b c (inr (one, le)) (inr (two, le')) = inr (one ∙ two, omega (arith, le, le'))

-- one more node
nearest-push : (distances before : List ℕ) (x : ℕ) (best : Option ℕ) (r : ℕ) → IsNearest distances before best
    → (r ≡ x) ⊎ (best ≡ Some r) → IsNearer distances r x
    → ((other : ℕ) → best ≡ Some other → IsNearer distances r other) → IsNearest distances (before ++ x ∷ []) (Some r)
nearest-push distances before x None r none either near old =
    let same : r ≡ x = elim either [ inl e ↦ e | inr e ↦ absurd cc ] in (
      subst (Contains (before ++ x ∷ [])) (sym same) (Contains-push before x),
      λ b at. elim (Contains-push_cases before x b at) [
        | inl among ↦ absurd (omega (arith, among.1, none))
        | inr is ↦ subst (IsNearer distances r) is near
      ],
    )
nearest-push distances before x (Some s) r best either near old = (
  elim either [
    | inl e ↦ subst (Contains (before ++ x ∷ [])) (sym e) (Contains-push before x)
    | inr e ↦ Contains-append_left before (x ∷ []) r (subst (Contains before) (same_Some s r e) best.0)
  ],
  λ b at. elim (Contains-push_cases before x b at) [
    | inl among ↦ near-on distances r s b (old s refl) (best.1 b among)
    | inr is ↦ subst (IsNearer distances r) is near
  ],
)

pub nearest-more : (distances targets : List ℕ) (i : ℕ) (best : Option ℕ) (r d : ℕ)
    → IsNearest distances (take i targets) best → i < length targets
    → (r ≡ get_or targets i d) ⊎ (best ≡ Some r) → IsNearer distances r (get_or targets i d)
    → ((other : ℕ) → best ≡ Some other → IsNearer distances r other)
    → IsNearest distances (take (i + 1) targets) (Some r)
nearest-more distances targets i best r d so lt either near old =
    subst (λ (ts : List ℕ). IsNearest distances ts (Some r)) (sym (take_more targets i d lt))
    (nearest-push distances (take i targets) (get_or targets i d) best r so either near old)
