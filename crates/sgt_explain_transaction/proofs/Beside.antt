-- The entries of one item and site, where they are sorted.
use Rattle.std.proofs.Common.{◌≡◌, ℕ, suc, ◌+◌, ◌-◌, ◌<◌, ◌≤◌, Bool, true, false, List, [], ◌∷◌, ◌++◌, length, take, drop, get_or, Option, None, inl, inr, refl, sym, ap, ap₂, ◌∙◌, arith}
use Rattle.std.specs.Prelude.{not}
use Rattle.std.specs.List.{filter, filter_map, cons_option}
use Rattle.std.specs.List.Sorted.{IsNonDecreasingBy, IsPartitionPoint, IsPartitionedBy, IsSorted}
use Rattle.std.specs.Cmp.{IsTotalOrder}
use Rattle.std.specs.Cmp.Lexicographic.{options_total, slice_cmp}
use Rattle.std.specs.Option.{option_cmp}
use Rattle.std.specs.Ordering.{is_le, is_lt, nat_cmp, ordering_index, ordering_reverse, ordering_then}
use Rattle.std.specs.declared.cmp.Ordering.{Ordering}
use Rattle.std.specs.declared.cmp.Ordering.TheVariants.{Less, Equal, Greater}
use Rattle.std.proofs.lemmas.Bool.{and_left, and_right, both_ways, cases_Bool, cases_lt, false≢true, not_from_false, not_from_true, and_from}
use Rattle.std.proofs.lemmas.Cmp.{nat_cmp_total, nat_list_cmp_total, on_total, then_total, tied_itself}
use Rattle.std.proofs.lemmas.List.{append-nil, get_or-drop, get_or-take, length-drop, length-take-le, take-append-drop}
use Rattle.std.proofs.lemmas.List.Elements.{filter-append}
use Rattle.std.proofs.lemmas.List.Sorted.{searchable_from_sorted}
use Rattle.sgt_names.proofs.Lists.{option_cases}
use Rattle.sgt_names.specs.Entry.{item_of}
use Rattle.sgt_explain_transaction.specs.declared.dealings.Own.{Own}
use Rattle.sgt_explain_transaction.specs.Found.{AreByItem, are_beside, conflict_with, conflicts_among, conflicts_with, item_cmp}
use Rattle.sgt_explain_transaction.proofs.Clashing.{met-of, met-items}

pub item_total : IsTotalOrder item_cmp
item_total = then_total (on_total (λ (o : Own). o.site) nat_cmp_total)
    (on_total (λ (o : Own). item_of o.logged.entry) (options_total nat_list_cmp_total))

-- ---- where a binary search ends

lt-falls : (r s : Ordering) → ordering_index r ≤ ordering_index s → is_lt s ≡ true → is_lt r ≡ true
lt-falls Less s le t = refl
lt-falls Equal Less le t = absurd (omega (arith, le))
lt-falls Equal Equal le t = absurd (false≢true t)
lt-falls Equal Greater le t = absurd (false≢true t)
lt-falls Greater Less le t = absurd (omega (arith, le))
lt-falls Greater Equal le t = absurd (false≢true t)
lt-falls Greater Greater le t = absurd (false≢true t)

le-falls : (r s : Ordering) → ordering_index r ≤ ordering_index s → is_le s ≡ true → is_le r ≡ true
le-falls Less s le t = refl
le-falls Equal s le t = refl
le-falls Greater Less le t = absurd (omega (arith, le))
le-falls Greater Equal le t = absurd (omega (arith, le))
le-falls Greater Greater le t = absurd (false≢true t)

rises : (sorted : List Own) (other : Own) → IsSorted item_cmp sorted
    → IsNonDecreasingBy (λ own. ordering_index (item_cmp own other)) sorted
rises sorted other rising = searchable_from_sorted item_total (λ (o : Own). o) sorted other rising

pub parted-before : (sorted : List Own) (other : Own) → IsSorted item_cmp sorted
    → IsPartitionedBy (λ own. is_lt (item_cmp own other)) sorted
parted-before sorted other rising i j d le within t =
    lt-falls (item_cmp (get_or sorted i d) other) (item_cmp (get_or sorted j d) other)
    (rises sorted other rising i j d le within) t

pub parted-upto : (sorted : List Own) (other : Own) → IsSorted item_cmp sorted
    → IsPartitionedBy (λ own. is_le (item_cmp own other)) sorted
parted-upto sorted other rising i j d le within t =
    le-falls (item_cmp (get_or sorted i d) other) (item_cmp (get_or sorted j d) other)
    (rises sorted other rising i j d le within) t

abbrev pub StandBefore : List Own → Own → ℕ → Type 0
StandBefore sorted other from = IsPartitionPoint (λ own. is_lt (item_cmp own other) ≡ true)
    (λ own. is_lt (item_cmp own other) ≡ false) sorted from

abbrev pub StandUpto : List Own → Own → ℕ → Type 0
StandUpto sorted other to = IsPartitionPoint (λ own. is_le (item_cmp own other) ≡ true)
    (λ own. is_le (item_cmp own other) ≡ false) sorted to

less-le : (r : Ordering) → is_lt r ≡ true → is_le r ≡ false → ⊥
less-le Less t f = false≢true (sym f)
less-le Equal t f = false≢true t
less-le Greater t f = false≢true t

pub from-to : (sorted : List Own) (other : Own) (from to : ℕ) → from ≤ length sorted
    → StandBefore sorted other from → StandUpto sorted other to → from ≤ to
from-to sorted other from to within low high = elim (cases_lt to from) [
  | inl less ↦ absurd (less-le (item_cmp (get_or sorted to other) other)
      (low.0 to other (omega arith) less) (high.1 to other (omega arith) (omega (arith, less, within))))
  | inr le ↦ le
]

-- ---- what passes a test stands together

filter-none : {X : Type 0} (t : X → Bool) (ys : List X)
    → ((k : ℕ) (d : X) → k < length ys → t (get_or ys k d) ≡ false) → filter t ys ≡ []
filter-none t [] out = refl
filter-none t (y ∷ ys) out =
    let first : t y ≡ false = out 0 y (omega arith) in
    let rest = filter-none t ys (λ k d less. out (suc k) d (omega (arith, less))) in
    rw first rest

filter-all : {X : Type 0} (t : X → Bool) (ys : List X)
    → ((k : ℕ) (d : X) → k < length ys → t (get_or ys k d) ≡ true) → filter t ys ≡ ys
filter-all t [] all = refl
filter-all t (y ∷ ys) all =
    let first : t y ≡ true = all 0 y (omega arith) in
    let rest = filter-all t ys (λ k d less. all (suc k) d (omega (arith, less))) in
    rw first (ap (λ zs. y ∷ zs) rest)

run-is : {X : Type 0} (t : X → Bool) (xs : List X) (from n : ℕ) → from + n ≤ length xs
    → ((k : ℕ) (d : X) → k < from → t (get_or xs k d) ≡ false)
    → ((k : ℕ) (d : X) → from ≤ k → k < from + n → t (get_or xs k d) ≡ true)
    → ((k : ℕ) (d : X) → from + n ≤ k → k < length xs → t (get_or xs k d) ≡ false)
    → take n (drop from xs) ≡ filter t xs
run-is t xs from n within before inside behind =
    let rest = drop from xs in
    let long = length-drop from xs in
    let front = filter-none t (take from xs) (λ k d less.
    let near : k < from = omega (arith, less, length-take-le from xs (omega arith)) in
    ap t (get_or-take from xs k d near) ∙ before k d near) in
    let mid = filter-all t (take n rest) (λ k d less.
    let near : k < n = omega (arith, less, length-take-le n rest (omega (arith, long))) in
    ap t (get_or-take n rest k d near ∙ get_or-drop from xs k d)
    ∙ inside (from + k) d (omega arith) (omega (arith, near))) in
    let last = filter-none t (drop n rest) (λ k d less.
    ap t (get_or-drop n rest k d ∙ get_or-drop from xs (n + k) d)
    ∙ behind (from + (n + k)) d (omega arith) (omega (arith, less, length-drop n rest, long))) in
    sym (ap (filter t) (sym (take-append-drop from xs)) ∙ filter-append t (take from xs) rest
    ∙ ap (λ ys. ys ++ filter t rest) front ∙ ap (filter t) (sym (take-append-drop n rest))
    ∙ filter-append t (take n rest) (drop n rest) ∙ ap₂ (λ ys zs. ys ++ zs) mid last ∙ append-nil (take n rest))

-- ---- the entries of an item and site

turned : (one other : Own) → is_lt (item_cmp other one) ≡ is_lt (ordering_reverse (item_cmp one other))
turned one other = ap is_lt (item_total.antisymm other one)

reversed-same : (r : Ordering) → is_lt r ≡ false → is_le r ≡ true → is_lt (ordering_reverse r) ≡ false
reversed-same Less f t = absurd (false≢true (sym f))
reversed-same Equal f t = refl
reversed-same Greater f t = absurd (false≢true t)

reversed-more : (r : Ordering) → is_le r ≡ false → is_lt (ordering_reverse r) ≡ true
reversed-more Less f = absurd (false≢true (sym f))
reversed-more Equal f = absurd (false≢true (sym f))
reversed-more Greater f = refl

not-before : (own other : Own) → is_lt (item_cmp own other) ≡ true → are_beside other own ≡ false
not-before own other t = and_right (not (is_lt (item_cmp other own))) (not (is_lt (item_cmp own other)))
    (not_from_true (is_lt (item_cmp own other)) t)

not-behind : (own other : Own) → is_le (item_cmp own other) ≡ false → are_beside other own ≡ false
not-behind own other f = and_left (not (is_lt (item_cmp other own))) (not (is_lt (item_cmp own other)))
    (not_from_true (is_lt (item_cmp other own)) (turned own other ∙ reversed-more (item_cmp own other) f))

between : (own other : Own) → is_lt (item_cmp own other) ≡ false → is_le (item_cmp own other) ≡ true
    → are_beside other own ≡ true
between own other f t = and_from (not (is_lt (item_cmp other own))) (not (is_lt (item_cmp own other)))
    (not_from_false (is_lt (item_cmp other own)) (turned own other ∙ reversed-same (item_cmp own other) f t))
    (not_from_false (is_lt (item_cmp own other)) f)

pub beside-run : (sorted : List Own) (other : Own) (from to : ℕ) → from ≤ to → to ≤ length sorted
    → StandBefore sorted other from → StandUpto sorted other to
    → take (to - from) (drop from sorted) ≡ filter (are_beside other) sorted
beside-run sorted other from to le within low high =
    let n = to - from in
    let end : from + n ≡ to = omega (arith, le) in
    run-is (are_beside other) sorted from n (omega (arith, within, end))
    (λ k d less. not-before (get_or sorted k d) other (low.0 k d (omega arith) less))
    (λ k d more less. between (get_or sorted k d) other (low.1 k d more (omega (arith, less, end, within)))
    (high.0 k d (omega arith) (omega (arith, less, end))))
    (λ k d more less. not-behind (get_or sorted k d) other (high.1 k d (omega (arith, more, end)) less))

-- ---- only these are in conflict with an entry

apart : (other own : Own) → are_beside other own ≡ false → conflict_with other own ≡ None
apart other own out = elim (option_cases (conflict_with other own)) [
  | inl none ↦ none
  | inr s ↦ (let met = met-of own other s.0 s.1 in
      let items = met-items own other s.0 met in
      let same : item_of own.logged.entry ≡ item_of other.logged.entry = items.0 ∙ sym items.1 in
      let tied : item_cmp own other ≡ Equal =
      ap₂ (λ k o. ordering_then (nat_cmp own.site k)
      (option_cmp (slice_cmp nat_cmp) (item_of own.logged.entry) o)) (sym met.beside) (sym same)
      ∙ tied_itself item_total own in
      absurd (both_ways (are_beside other own) out (between own other (ap is_lt tied) (ap is_le tied))))
]

kept : {X Y : Type 0} (f : X → Option Y) (t : X → Bool) → ((x : X) → t x ≡ false → f x ≡ None) → (xs : List X)
    → filter_map f (filter t xs) ≡ filter_map f xs
kept f t out [] = refl
kept f t out (x ∷ xs) = elim (cases_Bool (t x)) [
  | inl passes ↦ rw passes (ap (cons_option (f x)) (kept f t out xs))
  | inr fails ↦ rw fails (kept f t out xs ∙ ap (λ o. cons_option o (filter_map f xs)) (sym (out x fails)))
]

pub conflicts-beside : (sorted : List Own) (other : Own)
    → conflicts_with (filter (are_beside other) sorted) other ≡ conflicts_with sorted other
conflicts-beside sorted other = kept (conflict_with other) (are_beside other) (apart other) sorted

-- the order of the search is none of the conflicts
conflicts-by_item : (own sorted : List Own) (other : Own) → AreByItem own sorted
    → conflicts_with sorted other ≡ conflicts_with own other
conflicts-by_item own sorted other by =
    sym (conflicts-beside sorted other) ∙ ap (filter_map (conflict_with other)) (by.stable other)
    ∙ conflicts-beside own other

pub among-by_item : (own sorted read : List Own) → AreByItem own sorted
    → conflicts_among sorted read ≡ conflicts_among own read
among-by_item own sorted [] by = refl
among-by_item own sorted (other ∷ read) by =
    ap₂ (λ ps qs. ps ++ qs) (conflicts-by_item own sorted other by) (among-by_item own sorted read by)
