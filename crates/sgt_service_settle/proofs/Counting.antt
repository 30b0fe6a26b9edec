-- How many entries of a log are reads, and how many are others.
use Rattle.std.proofs.Common.{◌≡◌, ◌∙◌, ℕ, ◌+◌, Bool, true, false, List, Some, take, ap}
use Rattle.std.specs.Prelude.{slice_get, count_by, not}
use Rattle.std.proofs.lemmas.List.Sums.{count_by_more_yes, count_by_more_no}
use Rattle.std.proofs.lemmas.Option.{slice_get_within, get_or_from_slice_get}
use Rattle.sgt_names.specs.declared.entry.Entry.{Entry}
use Rattle.sgt_service_settle.specs.Settled.{is_read, AreEntriesCounted}
use Rattle.sgt_service_agreement.specs.declared.counts.EntryCounts.{EntryCounts}

one_more : (p : Entry → Bool) (log : List Entry) (n : ℕ) (e : Entry) → slice_get log n ≡ Some e → p e ≡ true
    → count_by p (take (n + 1) log) ≡ count_by p (take n log) + 1
one_more p log n e at is =
    count_by_more_yes p log n e (slice_get_within log n e at) (ap p (get_or_from_slice_get log n e e at) ∙ is)

as_many : (p : Entry → Bool) (log : List Entry) (n : ℕ) (e : Entry) → slice_get log n ≡ Some e → p e ≡ false
    → count_by p (take (n + 1) log) ≡ count_by p (take n log)
as_many p log n e at is =
    count_by_more_no p log n e (slice_get_within log n e at) (ap p (get_or_from_slice_get log n e e at) ∙ is)

-- one entry further, which is a read
pub read_counted : (log : List Entry) (n : ℕ) (e : Entry) (counts : EntryCounts) → slice_get log n ≡ Some e
    → is_read e ≡ true → AreEntriesCounted counts (take n log)
    → AreEntriesCounted (record counts { reads = counts.reads + 1 }) (take (n + 1) log)
read_counted log n e counts at is are = record {
  reads = one_more is_read log n e at is ∙ ap (λ k. k + 1) are.reads;
  others = as_many (λ x. not (is_read x)) log n e at (ap not is) ∙ are.others;
}

-- and which is another
pub other_counted : (log : List Entry) (n : ℕ) (e : Entry) (counts : EntryCounts) → slice_get log n ≡ Some e
    → is_read e ≡ false → AreEntriesCounted counts (take n log)
    → AreEntriesCounted (record counts { others = counts.others + 1 }) (take (n + 1) log)
other_counted log n e counts at is are = record {
  reads = as_many is_read log n e at is ∙ are.reads;
  others = one_more (λ x. not (is_read x)) log n e at (ap not is) ∙ ap (λ k. k + 1) are.others;
}
