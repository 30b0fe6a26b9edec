-- How many sites seats have counts of.
use Rattle.std.proofs.Common.{◌≡◌, ℕ, suc, List, [], ◌∷◌, length, refl, ap, ◌∙◌}
use Rattle.std.specs.Prelude.{fold, replicate}
use Rattle.std.proofs.lemmas.List.{length-replicate}
use Rattle.sgt_service_agreement.specs.declared.counts.EntryCounts.{EntryCounts}
use Rattle.sgt_service_locks.specs.Seats.{no_counts}
use Rattle.sgt_service_locks.specs.Together.{added, counts_of}
use Rattle.sgt_service_locks.specs.declared.seat.Seat.{Seat}

added_many : (cs ts : List EntryCounts) → length (added cs ts) ≡ length cs
added_many [] ts = refl
added_many (c ∷ cs) [] = refl
added_many (c ∷ cs) (t ∷ ts) = ap suc (added_many cs ts)

module _ {L : Type 0} where
  fold_many : (cs : List EntryCounts) (seats : List (Seat L))
      → length (fold (λ counts (s : Seat L). added counts s.counts.items) cs seats) ≡ length cs
  fold_many cs [] = refl
  fold_many cs (s ∷ seats) = fold_many (added cs s.counts.items) seats ∙ added_many cs s.counts.items

  pub counts_many : (n : ℕ) (seats : List (Seat L)) → length (counts_of n seats) ≡ n
  counts_many n seats = fold_many (replicate n no_counts) seats ∙ length-replicate n no_counts
