-- What all seats have together.
use Rattle.std.specs.Prelude.{ℕ, ◌+◌, List, [], ◌∷◌, replicate, sum_by, fold}
use Rattle.sgt_service_locks.specs.Counts.{capped}
use Rattle.sgt_service_locks.specs.Seats.{no_counts}
use Rattle.sgt_service_agreement.specs.declared.counts.EntryCounts.{EntryCounts}
use Rattle.sgt_service_locks.specs.declared.seat.Seat.{Seat}

-- the counts of two together
abbrev pub both : EntryCounts → EntryCounts → EntryCounts
both mine theirs =
    record {
      reads = capped (mine.reads + theirs.reads);
      others = capped (mine.others + theirs.others);
    }

-- the counts at each site, with those of a seat
abbrev pub added : List EntryCounts → List EntryCounts → List EntryCounts
added [] theirs = []
added (c ∷ cs) [] = c ∷ cs
added (c ∷ cs) (t ∷ ts) = both c t ∷ added cs ts

module _ {L : Type 0} where
  abbrev pub parts_of : List (Seat L) → ℕ
  parts_of seats = sum_by (λ (s : Seat L). s.share.parts) seats

  abbrev pub amount_of : List (Seat L) → ℕ
  amount_of seats = sum_by (λ (s : Seat L). s.share.amount) seats

  -- the same of the ledger of begins
  abbrev pub begin_parts_of : List (Seat L) → ℕ
  begin_parts_of seats = sum_by (λ (s : Seat L). s.begins.parts) seats

  abbrev pub begins_of : List (Seat L) → ℕ
  begins_of seats = sum_by (λ (s : Seat L). s.begins.amount) seats

  -- how many transactions they began together, up to the greatest number
  abbrev pub begun_of : List (Seat L) → ℕ
  begun_of seats = capped (sum_by (λ (s : Seat L). s.begun) seats)

  -- what they counted together at each of so many sites
  abbrev pub counts_of : ℕ → List (Seat L) → List EntryCounts
  counts_of sites seats =
      fold (λ counts (s : Seat L). added counts s.counts.items) (replicate sites no_counts) seats
