-- The tickets of the tries so far.
use Rattle.std.proofs.Common.{◌≡◌, ◌≢◌, ◌∙◌, true, false, true≢false, ◌≤◌, ◌<◌, ℕ, ◌+◌, List, [], ◌∷◌, ◌++◌, length, refl, sym, ap, arith, subst, subst₂, All}
use Rattle.std.specs.Prelude.{Bool, ◌↔◌, None, IfSome}
use Rattle.std.specs.List.{last_or}
use Rattle.std.proofs.lemmas.List.{length-append}
use Rattle.std.proofs.lemmas.List.Elements.{All-head, All-tail, All-push, All-nil}
use Rattle.sgt_names.proofs.Lists.{last_or-append}
use Rattle.sgt_names.specs.declared.draft.Touch.{Touch}
use Rattle.sgt_notation.specs.declared.script.Op.{Op}
use Rattle.sgt_arena.specs.declared.handle.Handle.{Handle}
use Rattle.sgt_certifier.specs.declared.call.Call.TheVariants as call
use Rattle.sgt_service_locks.specs.Guarded.{HasAdded, IsTicketOf}
use Rattle.sgt_service_locks.specs.Reads.{IsOfActive}
use Rattle.sgt_service_locks.specs.declared.active.Active.{Active}
use Rattle.sgt_workers.specs.declared.ticket.Ticket.{Ticket}
use Rattle.sgt_workers.specs.declared.ticket.Ending.TheVariants.{Withdrawn}
use Rattle.sgt_service_agreement.specs.declared.counts.EntryCounts.{EntryCounts}
use Rattle.sgt_service_locks.specs.Counts.{AreCounted, blocks_of, with_others}
use Rattle.sgt_service_locks.specs.Seats.{CountsBegin, CountsEnd}
use Rattle.sgt_service_locks.specs.declared.seat.Seat.{Seat}
use Rattle.sgt_service.specs.Operations.{DoesAll, Tries, TriesBy}
use Rattle.sgt_service.specs.Tries.{reads_at, with_reads, AreTried, AreTries, CountsReads, CountsTry, IsRefused, IsTryOf, TriesAt}
use Rattle.sgt_service.proofs.Keeping.{reads_all}

-- a ticket that isn't refused is the last
pub tries_end : (tries : ℕ) (tickets : List Ticket) (t : Ticket) → All IsRefused tickets → length tickets < tries
    → (IsRefused t → ⊥)
    → AreTries tries (tickets ++ t ∷ [])
tries_end tries tickets t refused room not = record {
  refusals = tickets;
  last = t;
  all = refl;
  refused = refused;
  few = room;
  spent = λ is. absurd (not is);
}

-- no try is left
spent_by : (tries : ℕ) (before : List Ticket) (t : Ticket) (tickets : List Ticket) → All IsRefused before
    → All IsRefused (t ∷ tickets)
    → length before + length (t ∷ tickets) ≡ tries → AreTries tries (before ++ t ∷ tickets)
spent_by tries before t [] refused rest size = record {
  refusals = before;
  last = t;
  all = refl;
  refused = refused;
  few = omega (arith, size);
  spent = λ is. omega (arith, size);
}
spent_by tries before t (u ∷ tickets) refused rest size =
    subst (AreTries tries) (Rattle.std.proofs.Common.append_assoc before (t ∷ []) (u ∷ tickets))
    (spent_by tries (before ++ t ∷ []) u tickets
    (All-push IsRefused before t refused (All-head IsRefused t (u ∷ tickets) rest))
    (All-tail IsRefused t (u ∷ tickets) rest)
    (omega (arith, size, length-append before (t ∷ []))))

pub tries_spent : (tries : ℕ) (tickets : List Ticket) → All IsRefused tickets → length tickets ≡ tries → 1 ≤ tries
    → AreTries tries tickets
tries_spent tries [] refused size some = absurd (omega (arith, size, some))
tries_spent tries (t ∷ tickets) refused size some =
    spent_by tries [] t tickets (All-nil IsRefused) refused (omega (arith, size))

-- one try more
pub tries_more : (ops : List Op) (tickets : List Ticket) (t : Ticket) (reads : List ℕ) → All (IsTryOf ops) tickets
    → Tries ops t reads
    → All (IsTryOf ops) (tickets ++ t ∷ [])
tries_more ops tickets t reads each tried = All-push (IsTryOf ops) tickets t each (reads, tried)

pub last_more : (ops : List Op) (tickets : List Ticket) (t : Ticket) (reads : List ℕ) → Tries ops t reads
    → IfSome (last_or None (tickets ++ t ∷ [])) (λ u. Tries ops u reads)
last_more ops tickets t reads tried =
    subst (λ o. IfSome o (λ (u : Ticket). Tries ops u reads)) (sym (last_or-append None tickets (t ∷ []))) tried

-- a try: the transaction that began with an empty draft is the one that is ended
pub tries_once : (ops : List Op) (first last : Active) (all : Bool) (t : Ticket) (sites : ℕ) (before reads : List ℕ)
    → HasAdded (call.Begin first.tx first.handle) → first.draft.touched ≡ [] → before ≡ [] → IsOfActive first last
    → DoesAll ops all first.draft.touched last.draft.touched before reads → (t.verdict ≡ Withdrawn) ↔ (all ≡ false)
    → IsTicketOf sites last t
    → TriesBy last ops t reads
tries_once ops first last all t sites before reads begun empty none same does withdrawn told = record {
  begun = subst₂ (λ (tx : ℕ) (h : Handle). HasAdded (call.Begin tx h)) (sym same.0) (sym same.1) begun;
  all = all;
  does = subst₂ (λ (old : List Touch) (heard : List ℕ). DoesAll ops all old last.draft.touched heard reads) empty none
      does;
  withdrawn = withdrawn;
  sites = sites;
  told = told;
}

-- it is withdrawn exactly where a sum doesn't fit
pub fitting : (t : Ticket) (all : Bool) → t.verdict ≢ Withdrawn → all ≡ true → (t.verdict ≡ Withdrawn) ↔ (all ≡ false)
fitting t all not fits = (λ is. absurd (not is), λ unfit. absurd (true≢false (sym fits ∙ unfit)))

pub unfitting : (t : Ticket) (all : Bool) → t.verdict ≡ Withdrawn → all ≡ false
    → (t.verdict ≡ Withdrawn) ↔ (all ≡ false)
unfitting t all is unfit = (λ _. unfit, λ _. is)

-- ---- what tries do to a seat

-- two changes at each site, one after another
counted_both : (f g : ℕ → EntryCounts → EntryCounts) (cs ds es : List EntryCounts) → AreCounted f cs ds
    → AreCounted g ds es
    → AreCounted (λ site c. g site (f site c)) cs es
counted_both f g cs ds es one next = (next.0 ∙ one.0, λ site c at. next.1 site (f site c) (one.1 site c at))

module _ {L : Type 0} where
  -- a transaction that begins, reads and is ended
  pub try_counts : (t : Ticket) (first last : Active) (start begun read end : Seat L) → CountsBegin start begun
      → first.draft.touched ≡ []
      → (read.share ≡ begun.share) × (read.begun ≡ begun.begun)
      → CountsReads first.draft.touched last.draft.touched begun.counts.items read.counts.items
      → CountsEnd t.verdict last read end → end.begins.amount ≡ start.begins.amount + 1
      → CountsTry t.verdict last.draft.touched start end
  try_counts t first last start begun read end begins empty same reads ends more =
      let touched = last.draft.touched in
      let parts : read.share.parts ≡ start.share.parts = (λ i. (same.0 i).parts) ∙ (λ i. (begins.0 i).parts) in
      let amount : read.share.amount ≡ start.share.amount = (λ i. (same.0 i).amount) ∙ (λ i. (begins.0 i).amount) in
      let counted : AreCounted (λ site. with_reads (reads_at site touched)) start.counts.items read.counts.items =
      reads_all touched start.counts.items read.counts.items
      (subst (λ cs. CountsReads [] touched cs read.counts.items) begins.1
      (subst (λ old. CountsReads old touched begun.counts.items read.counts.items) empty reads)) in (
        ends.3 ∙ (same.1 ∙ begins.2),
        ends.0 ∙ parts,
        ends.1 ∙ ap (λ n. n + 1) amount,
        counted_both (λ site. with_reads (reads_at site touched))
            (λ site. with_others (blocks_of t.verdict touched site)) start.counts.items
            read.counts.items end.counts.items counted ends.2,
        more,
      )

  -- a try of the script by some transaction
  pub try_of : (ops : List Op) (t : Ticket) (reads : List ℕ) (old new : Seat L) → TriesAt ops t reads old new
      → Tries ops t reads
  try_of ops t reads old new h = (h.0, h.1)

  -- one try more
  pub tried_more : (ops : List Op) (tickets : List Ticket) (t : Ticket) (heard : List ℕ) (old mid new : Seat L)
      → AreTried ops tickets old mid
      → TriesAt ops t heard mid new → AreTried ops (tickets ++ t ∷ []) old new
  tried_more ops [] t heard old mid new same tried = (
    new,
    (heard, subst (λ s. TriesAt ops t heard s new) same tried),
    refl,
  )
  tried_more ops (u ∷ tickets) t heard old mid new before tried =
      (before.0, before.1, tried_more ops tickets t heard before.0 mid new before.2 tried)
