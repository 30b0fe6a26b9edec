-- How many tickets were met, and how many more were begun.
use Rattle.std.proofs.Common.{◌≡◌, ◌∙◌, ◌+◌, ◌≤◌, ℕ, List, ◌++◌, length, take, drop, Some, sym, ap, arith}
use Rattle.std.specs.Prelude.{slice_get}
use Rattle.std.proofs.lemmas.List.{take-append-drop, length-append}
use Rattle.std.proofs.lemmas.List.Concat.{flat_map-append}
use Rattle.sgt_workers.specs.declared.ticket.Done.{Done}
use Rattle.sgt_service_settle.specs.Settled.{tickets_of}
use Rattle.sgt_service_settle.proofs.Tallying.{tickets_on}

-- how many tickets the first Dones have, and the next one
pub met_on : (dones : List Done) (n : ℕ) (d : Done) → slice_get dones n ≡ Some d
    → length (tickets_of (take (n + 1) dones)) ≡ length (tickets_of (take n dones)) + length d.tickets.items
met_on dones n d at =
    let all = tickets_on dones n d at in
    ap length all ∙ length-append (tickets_of (take n dones)) d.tickets.items

pub met_within : (dones : List Done) (n : ℕ) → length (tickets_of (take n dones)) ≤ length (tickets_of dones)
met_within dones n =
    let whole : tickets_of (take n dones) ++ tickets_of (drop n dones) ≡ tickets_of dones =
    sym (flat_map-append (λ (d : Done). d.tickets.items) (take n dones) (drop n dones))
    ∙ ap tickets_of (take-append-drop n dones) in
    let both = length-append (tickets_of (take n dones)) (tickets_of (drop n dones)) in
    omega (arith, both, ap length whole)
