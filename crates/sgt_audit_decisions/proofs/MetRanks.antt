-- Ranks that are met one by one, each with its mark.
use Rattle.std.proofs.Common.{◌≡◌, ◌≢◌, inl, inr, ℕ, ◌+◌, ◌<◌, ◌≤◌, Bool, true, false, List, length, Some, get_or, refl, sym, ap, ◌∙◌, arith, All, get_or-set_other, get_or-set_same}
use Rattle.std.specs.Prelude.{slice_get}
use Rattle.std.proofs.Math.ListN.{set, length-set}
use Rattle.std.proofs.lemmas.Bool.{cases_eq, cases_order, true≢false, false≢true}
use Rattle.std.proofs.lemmas.List.{get_or_past}
use Rattle.std.proofs.lemmas.Option.{same_Some, slice_get_within}
use Rattle.sgt_names.proofs.Places.{All_at, All-from_at, AllPairs_at, AllPairs-from_at}
use Rattle.sgt_bundle.specs.Certificate.{AreRanks}

-- the first n are below their count, no two are the same, and their places alone are marked
pub record AreMet (rs : List ℕ) (n : ℕ) (met : List Bool) : Type 0 where
  pub room : length met ≡ length rs
  pub below : (k r : ℕ) → k < n → slice_get rs k ≡ Some r → r < length rs
  pub apart : (p q a b : ℕ) → p < q → q < n → slice_get rs p ≡ Some a → slice_get rs q ≡ Some b → a ≢ b
  pub marked : (k r : ℕ) → k < n → slice_get rs k ≡ Some r → get_or met r false ≡ true
  pub listed : (r : ℕ) → get_or met r false ≡ true → (k : ℕ) × (k < n) × (slice_get rs k ≡ Some r)

unmarked : (met : List Bool) (r : ℕ) → All (λ m. m ≡ false) met → get_or met r false ≡ false
unmarked met r fresh =
    elim (cases_order r (length met)) [
      | inl last ↦ get_or_past met r false (omega arith)
      | inr (inl lt) ↦ fresh r false lt
      | inr (inr more) ↦ get_or_past met r false (omega arith)
    ]

pub none-met : (rs : List ℕ) (met : List Bool) → length met ≡ length rs → All (λ m. m ≡ false) met → AreMet rs 0 met
none-met rs met room fresh = record {
  room = room;
  below = λ k r lt at. absurd (omega arith);
  apart = λ p q a b lt within at_p at_q e. absurd (omega arith);
  marked = λ k r lt at. absurd (omega arith);
  listed = λ r hit. absurd (false≢true (sym (unmarked met r fresh) ∙ hit));
}

module _ (rs : List ℕ) (n r : ℕ) (met : List Bool) (so_far : AreMet rs n met) (at : slice_get rs n ≡ Some r) where
  pub far-rank : length met ≤ r → AreRanks rs → ⊥
  far-rank far are = let lt = All_at (λ a. a < length rs) rs n r are.below at in let room = so_far.room in omega arith

  pub rank-twice : get_or met r false ≡ true → AreRanks rs → ⊥
  rank-twice hit are =
      let had = so_far.listed r hit in
      AllPairs_at (λ a b. a ≢ b) rs had.0 n r r are.apart had.1 had.2 at refl

  pub met-next : r < length met → get_or met r false ≡ false → AreMet rs (n + 1) (set met r true)
  met-next within miss = record {
    room = length-set met r true ∙ so_far.room;
    below = λ k a lt at_k.
        elim (cases_eq k n) [
          | inl last ↦ let one : a ≡ r = same_Some a r (sym at_k ∙ ap (slice_get rs) last ∙ at) in let room =
              so_far.room in omega arith
          | inr ne ↦ so_far.below k a (omega arith) at_k
        ];
    apart = λ p q a b lt before at_p at_q e.
        elim (cases_eq q n) [
          | inl last ↦
              let one : b ≡ r = same_Some b r (sym at_q ∙ ap (slice_get rs) last ∙ at) in
              let hit = so_far.marked p a (omega arith) at_p in
              absurd (true≢false (sym hit ∙ ap (λ k. get_or met k false) (e ∙ one) ∙ miss))
          | inr ne ↦ so_far.apart p q a b lt (omega arith) at_p at_q e
        ];
    marked = λ k a lt at_k.
        elim (cases_eq a r) [
          | inl same ↦ ap (λ i. get_or (set met r true) i false) same ∙ get_or-set_same met r true false within
          | inr ne ↦
              elim (cases_eq k n) [
                | inl last ↦ absurd (ne (same_Some a r (sym at_k ∙ ap (slice_get rs) last ∙ at)))
                | inr before ↦ get_or-set_other met r a true false ne ∙ so_far.marked k a (omega arith) at_k
              ]
        ];
    listed = λ a hit.
        elim (cases_eq a r) [
          | inl same ↦ (n, omega arith, at ∙ ap Some (sym same))
          | inr ne ↦ let had = so_far.listed a (sym (get_or-set_other met r a true false ne) ∙ hit) in
              (had.0, omega (arith, had.1), had.2)
        ];
  }
