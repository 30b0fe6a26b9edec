-- The shares of a run's workers, seen by what each worker counted.
use Rattle.std.proofs.Common.{◌≡◌, ℕ, List, [], ◌∷◌, ◌++◌, All, length, map, replicate, refl, sym, ◌∙◌, ap, ap₂, subst}
use Rattle.std.specs.Prelude.{fold}
use Rattle.std.specs.List.{AllZip, flat_map}
use Rattle.std.specs.List.Sorted.{IsPermutation}
use Rattle.std.proofs.lemmas.List.Elements.{All-head, All-tail}
use Rattle.sgt_notation.specs.declared.script.Op.{Op}
use Rattle.sgt_notation.specs.declared.script.Script.{Script}
use Rattle.sgt_service_agreement.specs.declared.counts.EntryCounts.{EntryCounts}
use Rattle.sgt_workers.specs.Answers.{AreShared, IsShare, Runs}
use Rattle.sgt_workers.specs.declared.ticket.Done.{Done}
use Rattle.sgt_workers.specs.declared.ticket.Ticket.{Ticket}
use Rattle.sgt_service_locks.specs.Seats.{IsNew, no_counts}
use Rattle.sgt_service_locks.specs.Together.{added, counts_of}
use Rattle.sgt_service_locks.specs.declared.seat.Seat.{Seat}
use Rattle.sgt_service.specs.Tallies.{AreCountsOf, DoesJob, Tally, TriesInTurn, no_tally, tally_of}
use Rattle.sgt_service.specs.Tries.{AreTried, TriesJob}

-- shares that lead from state to state, of which something is seen that they lead to as well
module _ {S T C : Type 0} (view : S → T) (does : S → ℕ → C → Done → S → Type 0) (also : T → ℕ → C → Done → T → Type 0)
    (seen : (s : S) (n : ℕ) (c : C) (d : Done) (u : S) → does s n c d u
    → also (view s) n c d (view u)) (scripts : List C) where
  abbrev seen_share : List Done × S → List Done × T
  seen_share share = (share.0, view share.1)

  runs_seen : (s u : S) (ds : List Done) → Runs does scripts s ds u → Runs also scripts (view s) ds (view u)
  runs_seen s u [] same = ap view same
  runs_seen s u (d ∷ ds) runs = (
    runs.0,
    view runs.1,
    runs.2,
    seen s d.job runs.0 d runs.1 runs.3,
    runs_seen runs.1 u ds runs.4,
  )

  zip_seen : (ss : List S) (shares : List (List Done × S))
      → AllZip (λ s (share : List Done × S). IsShare does scripts s share.0 share.1) ss shares
      → AllZip (λ t (share : List Done × T). IsShare also scripts t share.0 share.1) (map view ss)
      (map seen_share shares)
  zip_seen [] [] z = tt
  zip_seen [] (share ∷ shares) z = absurd z
  zip_seen (s ∷ ss) [] z = absurd z
  zip_seen (s ∷ ss) (share ∷ shares) z = ((z.0.0, runs_seen s share.1 share.0 z.0.1), zip_seen ss shares z.1)

  ends_seen : (shares : List (List Done × S))
      → map (λ (share : List Done × T). share.1) (map seen_share shares) ≡ map view
      (map (λ (share : List Done × S). share.1) shares)
  ends_seen [] = refl
  ends_seen (share ∷ shares) = ap (λ ts. view share.1 ∷ ts) (ends_seen shares)

  dones_seen : (shares : List (List Done × S))
      → flat_map (λ (share : List Done × T). share.0) (map seen_share shares) ≡ flat_map
      (λ (share : List Done × S). share.0) shares
  dones_seen [] = refl
  dones_seen (share ∷ shares) = ap (λ ds. share.0 ++ ds) (dones_seen shares)

  pub shared_seen : (ss us : List S) (dones : List Done) (old new : List T) → map view ss ≡ old
      → AreShared does scripts ss dones us → new ≡ map view us → AreShared also scripts old dones new
  shared_seen ss us dones old new before shared after = (
    map seen_share shared.0,
    subst (λ ts. AllZip (λ t (share : List Done × T). IsShare also scripts t share.0 share.1) ts
        (map seen_share shared.0)) before
        (zip_seen ss shared.0 shared.1),
    ends_seen shared.0 ∙ (ap (map view) shared.2 ∙ sym after),
    subst (λ ds. IsPermutation ds dones) (sym (dones_seen shared.0)) shared.3,
  )

-- ---- what seats counted

module _ {L : Type 0} where
  tried_seen : (ops : List Op) (tickets : List Ticket) (old new : Seat L) → AreTried ops tickets old new
      → TriesInTurn ops tickets (tally_of old) (tally_of new)
  tried_seen ops [] old new same = ap tally_of same
  tried_seen ops (t ∷ tickets) old new tried =
      let once = tried.1.1 in (
        tally_of tried.0,
        (once.0, tried.1.0, once.1, once.2.0, once.2.2, once.2.3),
        tried_seen ops tickets tried.0 new tried.2,
      )

  job_seen : (s : Seat L) (n : ℕ) (c : Script) (d : Done) (u : Seat L) → TriesJob s n c d u
      → DoesJob (tally_of s) n c d (tally_of u)
  job_seen s n c d u tried = tried_seen c.operations d.tickets.items s u tried

  new_tallies : (sites : ℕ) (seats : List (Seat L)) → All (IsNew sites) seats
      → map tally_of seats ≡ replicate (length seats) (no_tally sites)
  new_tallies sites [] all = refl
  new_tallies sites (s ∷ seats) all =
      let first = All-head (IsNew sites) s seats all in
      let none : tally_of s ≡ no_tally sites = λ i. record {
        begun = first.3 i;
        decided = first.1 i;
        counts =
            first.2 i;
      } in
      ap₂ (λ (t : Tally) (ts : List Tally). t ∷ ts) none (new_tallies sites seats (All-tail (IsNew sites) s seats all))

  counts_seen : (seats : List (Seat L)) (counts : List EntryCounts)
      → fold (λ cs (s : Seat L). added cs s.counts.items) counts seats ≡ fold (λ cs (t : Tally). added cs t.counts)
      counts (map tally_of seats)
  counts_seen [] counts = refl
  counts_seen (s ∷ seats) counts = counts_seen seats (added counts s.counts.items)

  -- new seats whose workers did just these tries have counted them
  pub counts_tried : (scripts : List Script) (sites : ℕ) (old new : List (Seat L)) (dones : List Done)
      (counts : List EntryCounts) → All (IsNew sites) old
      → AreShared TriesJob scripts old dones new → counts ≡ counts_of sites new → AreCountsOf scripts sites dones counts
  counts_tried scripts sites old new dones counts fresh shared is = record {
    workers = length old;
    after = map tally_of new;
    tried = shared_seen tally_of TriesJob DoesJob job_seen scripts old new dones
        (replicate (length old) (no_tally sites)) (map tally_of new) (new_tallies sites old fresh) shared refl;
    counted = is ∙ counts_seen new (replicate sites no_counts);
  }
