-- The numbers of the decisions.
use Rattle.std.proofs.Common.{◌≡◌, ◌≢◌, ◌<◌, ◌≤◌, ℕ, zero, suc, ◌∷◌, length, map, sym, ◌∙◌, subst, arith, Contains, Some, None}
use Rattle.std.specs.Prelude.{slice_get}
use Rattle.std.proofs.lemmas.List.{length-map}
use Rattle.std.proofs.lemmas.Option.{same_Some}
use Rattle.sgt_names.proofs.Places.{AllPairs-from_at, AllPairs_at, All-from_at}
use Rattle.sgt_certifier.specs.Certifier.{State, ruled}
use Rattle.sgt_certifier.specs.Sound.{IsSoundCertifier, IsRuled}
use Rattle.sgt_certifier.proofs.Installs.{distinct_few}
use Rattle.sgt_certifier.proofs.Ruling.{RuledApart}
use Rattle.sgt_names.proofs.Lists.{map_at}

-- an active transaction of no open step isn't decided, and no transaction is decided twice
apart : (s : State) (t : ℕ) → IsRuled s → s.step ≡ None → Contains s.active t → (p q a b : ℕ) → p < q
    → slice_get (t ∷ map ruled s.rulings) p ≡ Some a → slice_get (t ∷ map ruled s.rulings) q ≡ Some b → a ≢ b
apart s t h idle active zero zero a b lt at_a at_b e = absurd (omega (arith, lt))
apart s t h idle active zero (suc q) a b lt at_a at_b e =
    let r = map_at ruled s.rulings q b at_b in
    let same : t ≡ ruled r.0 = same_Some t a at_a ∙ e ∙ sym r.2 in
    let none : None ≡ Some (ruled r.0) = sym idle ∙ h.ended q r.0 r.1 (subst (Contains s.active) same active) in
    absurd cc
apart s t h idle active (suc p) zero a b lt at_a at_b e = absurd (omega (arith, lt))
apart s t h idle active (suc p) (suc q) a b lt at_a at_b e =
    let l = map_at ruled s.rulings p a at_a in
    let r = map_at ruled s.rulings q b at_b in
    AllPairs_at RuledApart s.rulings p q l.0 r.0 h.once (omega (arith, lt)) l.1 r.1 (l.2 ∙ e ∙ sym r.2)

begun : (s : State) (t : ℕ) → IsSoundCertifier s → IsRuled s → Contains s.active t → (n a : ℕ)
    → slice_get (t ∷ map ruled s.rulings) n ≡ Some a → a < suc s.begun
begun s t sound h active zero a at = let here = (sound.active_here t active).1 in let same = same_Some t a at in
    omega (arith, here, same)
begun s t sound h active (suc n) a at =
    let r = map_at ruled s.rulings n a at in
    let below = h.begun n r.0 r.1 in
    let same = r.2 in
    omega (arith, below, same)

-- while a transaction is active that isn't decided, no more decisions were taken than transactions were begun
pub decided-few : (s : State) (t : ℕ) → IsSoundCertifier s → IsRuled s → s.step ≡ None → Contains s.active t
    → length s.rulings ≤ s.begun
decided-few s t sound h idle active =
    let all = t ∷ map ruled s.rulings in
    let few = distinct_few (suc s.begun) all (AllPairs-from_at (λ a b. a ≢ b) all (apart s t h idle active))
    (All-from_at (λ a. a < suc s.begun) all (begun s t sound h active)) in
    let long = length-map s.rulings ruled in
    omega (arith, few, long)
