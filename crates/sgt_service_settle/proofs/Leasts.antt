-- The least of the elements that something holds of, as a loop goes over them.
use Rattle.std.proofs.Common.{◌≡◌, ◌⊎◌, ◌≤◌, ℕ, List, [], ◌∷◌, ◌++◌, Option, Some, None, refl, sym, ap, ◌∙◌, subst, arith, inl, inr}
use Rattle.std.specs.Prelude.{min}
use Rattle.std.proofs.lemmas.Bool.{cases_lt}
use Rattle.sgt_arena.specs.declared.handle.Handle.{Handle}
use Rattle.sgt_edges.specs.declared.edge.Edge.{Edge}
use Rattle.sgt_certifier.specs.declared.call.Decided.{Decided}
use Rattle.sgt_certifier.specs.declared.call.Call.{Call}
use Rattle.sgt_certifier.specs.declared.call.Call.TheVariants as call
use Rattle.sgt_service_settle.specs.Told.{handed_by}
use Rattle.sgt_service_settle.specs.private.Words.{lesser, IsLeastOf}
use Rattle.sgt_service_settle.proofs.Lists.{push_contains, push_old, push_new}

min_cases : (j k : ℕ) → (min j k ≡ j) ⊎ (min j k ≡ k)
min_cases j k = elim (cases_lt j k) [ inl lt ↦ inl (omega arith) | inr le ↦ inr (omega arith) ]

pub least_hit : {A : Type 0} (key : A → ℕ) (Q : A → Type 0) (xs : List A) (a : A) (r : Option ℕ) → Q a
    → IsLeastOf key Q xs r → IsLeastOf key Q (xs ++ a ∷ []) (Some (lesser r (key a)))
least_hit key Q xs a None q old = (
  (a, push_new xs a, refl, q),
  λ b c qb. elim (push_contains xs a b c) [
    | inl early ↦ absurd (old b early qb)
    | inr last ↦ let same = ap key last in omega (arith, same)
  ],
)
least_hit key Q xs a (Some k) q old =
    let low : min k (key a) ≤ k = omega arith in
    let high : min k (key a) ≤ key a = omega arith in (
      elim (min_cases k (key a)) [
        | inl first ↦ (old.0.0, push_old xs a old.0.0 old.0.1, old.0.2 ∙ sym first, old.0.3)
        | inr second ↦ (a, push_new xs a, sym second, q)
      ],
      λ b c qb. elim (push_contains xs a b c) [
        | inl early ↦ let le = old.1 b early qb in omega (arith, le, low)
        | inr last ↦ let same = ap key last in omega (arith, same, high)
      ],
    )

pub least_miss : {A : Type 0} (key : A → ℕ) (Q : A → Type 0) (xs : List A) (a : A) (r : Option ℕ) → (Q a → ⊥)
    → IsLeastOf key Q xs r → IsLeastOf key Q (xs ++ a ∷ []) r
least_miss key Q xs a None q old = λ b c qb. elim (push_contains xs a b c) [
  | inl early ↦ old b early qb
  | inr last ↦ q (subst Q (sym last) qb)
]
least_miss key Q xs a (Some k) q old = (
  (old.0.0, push_old xs a old.0.0 old.0.1, old.0.2, old.0.3),
  λ b c qb. elim (push_contains xs a b c) [
    | inl early ↦ old.1 b early qb
    | inr last ↦ absurd (q (subst Q (sym last) qb))
  ],
)

-- a call that is no decision hands no edges
pub handed_none : (c : Call)
    → ((h : Handle) (edges : List Edge) (reply : Decided) → c ≡ call.Decide h edges reply → ⊥) → handed_by c ≡ []
handed_none (call.Begin tx h) none = refl
handed_none (call.Decide h edges reply) none = absurd (none h edges reply refl)
handed_none (call.Finish tx) none = refl
handed_none (call.Withdraw h number) none = refl
handed_none (call.Close ranks) none = refl
handed_none (call.Installed tx site items) none = refl
