-- The rule of the queue: the numbers of the jobs go up by one, the stops come last, and each job is
-- taken once.
use Rattle.std.specs.Prelude.{◌≡◌, ℕ, ◌+◌, ◌-◌, ◌<◌, ◌≤◌, ◌⊎◌, List, [], ◌∷◌, ◌++◌, ◌||◌, true, false}
use Rattle.std.specs.List.{All, sum_by, range_with_len}
use Rattle.atomic_table.specs.declared.badge.Badge.{Badge}
use Rattle.crossbeam_channel.specs.Claims.{Pass, view, IsSeatAt}
use Rattle.crossbeam_channel.specs.declared.flavors.array.Doing.{Doing}
use Rattle.crossbeam_channel.specs.declared.flavors.array.Key.{Key}
use Rattle.crossbeam_channel.specs.declared.flavors.array.Rows.{Rows}
use mathlib.Core.Option.{some}
use lib.ListN.{get_elem?}
use Rattle.sgt_workers.specs.declared.queue.Task.{Task}
use Rattle.sgt_workers.specs.declared.queue.Task.TheVariants.{Run, Stop}
use Rattle.sgt_workers.specs.declared.queue.Hold.{Hold}

-- the sender's, with so many jobs and stops sent
abbrev pub sender_of : ℕ → ℕ → Hold
sender_of jobs stops = record {
  sends = true;
  sent = jobs;
  stops = stops;
  taken = [];
  stopped = false;
  lent = 0;
  out = 0;
}

-- a worker's, which has taken nothing
abbrev pub newcomer : Hold → Hold
newcomer v = record {
  sends = false;
  sent = v.sent;
  stops = v.stops;
  taken = [];
  stopped = false;
  lent = 1;
  out = 0;
}

-- after so many more passes were cut from it
abbrev pub lender : ℕ → Hold → Hold
lender more v = record v { out = v.out + more }

-- it has given what it knew to another
abbrev pub spent_hold : Hold
spent_hold = record {
  sends = false;
  sent = 0;
  stops = 0;
  taken = [];
  stopped = false;
  lent = 0;
  out = 0;
}

-- it knows that there are so many jobs, and that stops follow
abbrev pub IsFilled : ℕ → Hold → Type 0
IsFilled count v = (v.sent ≡ count) × (0 < v.stops)

-- after one more job was sent
abbrev pub with_job : Hold → Hold
with_job v = record v { sent = v.sent + 1 }

-- after one more stop was sent
abbrev pub with_stop : Hold → Hold
with_stop v = record v { stops = v.stops + 1 }

-- after the job of this number was taken
abbrev pub took : ℕ → Hold → Hold
took n v = record v { taken = v.taken ++ n ∷ [] }

-- after a stop was taken
abbrev pub at_stop : Hold → Hold
at_stop v = record v { stopped = true }

-- with what the other has taken, which was cut from it
abbrev pub joined : Hold → Hold → Hold
joined v w = record v {
  taken = v.taken ++ w.taken;
  stopped = v.stopped || w.stopped;
  out = v.out - w.lent;
}

abbrev pub AreStops : List Task → Type 0
AreStops [] = Unit {0}
AreStops (Run n ∷ ts) = ⊥
AreStops (Stop ∷ ts) = AreStops ts

-- the jobs above `low` up to `top`, and then stops, of which there are none before one was sent
abbrev pub Follows : ℕ → ℕ → ℕ → List Task → Type 0
Follows low top stops [] = low ≡ top
Follows low top stops (Run n ∷ ts) = (n ≡ low + 1) × Follows n top stops ts
Follows low top stops (Stop ∷ ts) = (0 < stops) × (low ≡ top) × AreStops ts

-- Only the pass of the number `by` sends and lends, and it knows how many jobs and stops were sent; who
-- knows of stops knows all jobs, and there are as many stops; none has taken a number above `low`, and
-- none a stop before the last job; who isn't lent and doesn't send has taken none
pub record Knows (by low top stops pass : ℕ) (v : Hold) : Type 0 where
  pub sends : v.sends ≡ true → (pass ≡ by) × (v.sent ≡ top) × (v.stops ≡ stops) × (v.lent ≡ 0)
  pub filled : 0 < v.stops → (v.sent ≡ top) × (v.stops ≤ stops)
  pub taken : All (λ n. n ≤ low) v.taken
  pub stopped : v.stopped ≡ true → (low ≡ top) × (0 < stops)
  pub lends : v.sends ≡ false → v.out ≡ 0
  pub idle : v.sends ≡ false → v.lent ≡ 0 → v.taken ≡ []

-- weighed in any way, what all have taken weighs what 1 to `low` weigh: each of them was taken
-- once, and no other number
abbrev pub Accounts : ℕ → List Hold → Type 0
Accounts low holds = (weight : ℕ → ℕ)
    → sum_by (λ v. sum_by weight v.taken) holds ≡ sum_by weight (range_with_len 1 low)

-- as many are lent as are out
abbrev pub AreOut : List Hold → Type 0
AreOut holds = sum_by (λ v. v.lent) holds ≡ sum_by (λ v. v.out) holds

pub record Kept (tasks : List Task) (holds : List Hold) : Type 0 where
  pub by : ℕ
  pub low : ℕ
  pub top : ℕ
  pub stops : ℕ
  pub follows : Follows low top stops tasks
  pub knows : (pass : ℕ) (v : Hold) → get_elem? holds pass ≡ some v → Knows by low top stops pass v
  pub accounts : Accounts low holds
  pub out : AreOut holds

-- what a take tells: the number of a job, above all that this pass took before, or a stop
abbrev pub Takes : Hold → Task → Hold → Type 0
Takes v (Run n) w = (0 < n) × All (λ m. m < n) v.taken × (0 < v.stops → n ≤ v.sent) × (w ≡ took n v)
Takes v Stop w = w ≡ at_stop v

-- weighed in any way, these numbers weigh what 1 to `count` weigh: each of them is there once, and no
-- other
abbrev pub AreAll : ℕ → List ℕ → Type 0
AreAll count ns = (weight : ℕ → ℕ) → sum_by weight ns ≡ sum_by weight (range_with_len 1 count)

-- room for so many tasks, or for as many as a `usize` counts
abbrev pub HasRoom : ℕ → ℕ → Type 0
HasRoom tasks capacity = (tasks ≤ capacity) ⊎ (18446744073709551615 ≤ capacity)

-- so many stops were sent, as the pass knows
abbrev pub HasStops : ℕ → Pass Task Hold → Type 0
HasStops stops pass = (view pass).stops ≡ stops

module _ {Q M L A : Type 0}
    (queue : Rows (Badge (Key Task)) (Doing Task Hold) Q M (Key Task) L A) where
  -- a worker's pass at its begin: it is lent, knows the number of jobs, and has taken none
  abbrev pub IsBegun : ℕ → Pass Task Hold → Type 0
  IsBegun count pass = IsSeatAt queue pass × IsFilled count (view pass) × ((view pass).taken ≡ [])
      × ((view pass).lent ≡ 1)

  -- a worker's pass at its stop, which has taken just these jobs
  abbrev pub IsEnded : Pass Task Hold → List ℕ → Type 0
  IsEnded pass jobs = IsSeatAt queue pass × ((view pass).stopped ≡ true)
      × (jobs ≡ (view pass).taken) × ((view pass).lent ≡ 1)
