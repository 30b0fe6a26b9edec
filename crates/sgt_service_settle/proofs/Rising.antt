-- Tickets that rise from each to the next rise throughout.
use Rattle.std.proofs.Common.{◌≡◌, ◌∙◌, ◌<◌, ◌+◌, ◌-◌, ℕ, suc, zero, List, Some, ap, arith, get_or}
use Rattle.std.specs.Prelude.{slice_get, AllPairs}
use Rattle.std.proofs.lemmas.Option.{slice_get-get_or, slice_get_within}
use Rattle.sgt_names.proofs.Places.{AllPairs-from_at}
use Rattle.sgt_workers.specs.declared.ticket.Ticket.{Ticket}

abbrev pub Below : Ticket → Ticket → Type 0
Below t u = t.number < u.number

-- by the distance
rises_by : (ts : List Ticket) → ((k : ℕ) (t u : Ticket) → slice_get ts k ≡ Some t → slice_get ts (suc k) ≡ Some u
    → t.number < u.number) → (d p q : ℕ) (t u : Ticket) → q ≡ suc (p + d) → slice_get ts p ≡ Some t
    → slice_get ts q ≡ Some u → t.number < u.number
rises_by ts each zero p q t u far first second =
    each p t u first (ap (slice_get ts) (let e : suc p ≡ q = omega (arith, far) in e) ∙ second)
rises_by ts each (suc d) p q t u far first second =
    let low = slice_get_within ts q u second in
    let middle : Ticket = get_or ts (suc (p + d)) t in
    let at : slice_get ts (suc (p + d)) ≡ Some middle = slice_get-get_or ts (suc (p + d)) t (omega (arith, low, far)) in
    let here = rises_by ts each d p (suc (p + d)) t middle (omega arith) first at in
    let next =
    each (suc (p + d)) middle u at (ap (slice_get ts) (let e : suc (suc (p + d)) ≡ q = omega (arith, far) in e)
    ∙ second) in
    omega (arith, here, next)

pub rises_throughout : (ts : List Ticket)
    → ((k : ℕ) (t u : Ticket) → slice_get ts k ≡ Some t → slice_get ts (suc k) ≡ Some u → t.number < u.number)
    → AllPairs Below ts
rises_throughout ts each =
    AllPairs-from_at Below ts (λ p q t u lt first second. rises_by ts each (q - suc p) p q t u (omega (arith, lt))
    first second)
