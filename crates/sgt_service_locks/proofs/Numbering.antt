-- Seats by rising number.
use Rattle.std.proofs.Common.{◌≡◌, ℕ, ◌+◌, List, [], ◌∷◌, ◌++◌, length, map, ap, ap₂, arith}
use Rattle.std.specs.List.{range_with_len}
use Rattle.sgt_names.proofs.Lists.{heads, tails}
use Rattle.sgt_service_locks.specs.declared.seat.Seat.{Seat}

module _ {L : Type 0} where
  numbers_from : (n : ℕ) (ss : List (Seat L)) (s : Seat L)
      → map (λ (t : Seat L). t.number) ss ≡ range_with_len n (length ss) → s.number ≡ n + length ss
      → map (λ (t : Seat L). t.number) (ss ++ s ∷ []) ≡ range_with_len n (length (ss ++ s ∷ []))
  numbers_from n [] s e is = let number : s.number ≡ n = omega (arith, is) in ap (λ k. k ∷ []) number
  numbers_from n (t ∷ ss) s e is =
      ap₂ (λ k ks. k ∷ ks) (heads _ _ _ _ e) (numbers_from (n + 1) ss s (tails _ _ _ _ e) (omega (arith, is)))

  -- one seat more has the next number
  pub numbers_more : (ss : List (Seat L)) (s : Seat L)
      → map (λ (t : Seat L). t.number) ss ≡ range_with_len 0 (length ss) → s.number ≡ length ss
      → map (λ (t : Seat L). t.number) (ss ++ s ∷ []) ≡ range_with_len 0 (length (ss ++ s ∷ []))
  numbers_more ss s e is = numbers_from 0 ss s e (omega (arith, is))
