-- What is said of a transaction: its entries, and behind them its conflicts.
use Rattle.std.proofs.Common.{◌≡◌, ◌≢◌, refl, subst, codes, ℕ, ◌≤◌, List, [], ◌∷◌, ◌++◌, length, take, true, sym, ap, ap₂, ◌∙◌, append_assoc, arith, All, Option, None, inr}
use Rattle.std.specs.Prelude.{min}
use Rattle.std.specs.List.{filter, cons_option}
use Rattle.std.proofs.lemmas.Bool.{eqb-true}
use Rattle.std.proofs.lemmas.List.Elements.{All-take, All-weaker, filter-append, filter_passes}
use Rattle.sgt_names.specs.Entry.{tx_of}
use Rattle.sgt_names.specs.declared.entry.Entry.{Entry}
use Rattle.sgt_notation.specs.declared.SectionLine.{SectionLine}
use Rattle.sgt_explain_transaction.specs.declared.conflicts.Pair.{Pair}
use Rattle.sgt_explain_transaction.specs.declared.dealings.Own.{Own}
use Rattle.sgt_explain_transaction.specs.Conflicts.{AreConflicts, IsOwnConflict, conflicts_text, count_text, pairs_text}
use Rattle.sgt_explain_transaction.specs.Dealings.{IsOwn, TellsDealings, TellsOwn, entries_of, entry_from, is_own, own_head, own_of}
use Rattle.sgt_explain_transaction.specs.Found.{AreByItem, ShowsMore, conflicts_among}
use Rattle.sgt_explain_transaction.proofs.Beside.{among-by_item}
use Rattle.sgt_explain_transaction.proofs.Listing.{conflicts-of, plain-conflicts}

-- ---- the transaction's own entries

pub own-more : (tx : ℕ) (own new read : List Own) (site line : ℕ) (found : Option Entry) → own ≡ filter (is_own tx) read
    → new ≡ own ++ filter (is_own tx) (cons_option (entry_from site line found) [])
    → new ≡ filter (is_own tx) (read ++ cons_option (entry_from site line found) [])
own-more tx own new read site line found is e =
    e ∙ ap (λ os. os ++ filter (is_own tx) (cons_option (entry_from site line found) [])) is
    ∙ sym (filter-append (is_own tx) read (cons_option (entry_from site line found) []))

pub own-all : (tx : ℕ) (own read : List Own) → own ≡ filter (is_own tx) read → All (IsOwn tx) own
own-all tx own read is =
    subst (All (IsOwn tx)) (sym is)
    (All-weaker (λ (o : Own). is_own tx o ≡ true) (IsOwn tx) (λ o t. eqb-true (tx_of o.logged.entry) tx t)
    (filter (is_own tx) read) (filter_passes (is_own tx) read))

-- ---- all that is said

-- the order of the search is none of what is shown
pub shows-by_item : (own sorted given read : List Own) (old new : List ℕ) (count : ℕ) → given ≡ sorted
    → AreByItem own sorted → ShowsMore (conflicts_among given read) old 0 new count
    → ShowsMore (conflicts_among own read) old 0 new count
shows-by_item own sorted given read old new count same by shown =
    subst (λ ps. ShowsMore ps old 0 new count)
    (ap (λ (os : List Own). conflicts_among os read) same ∙ among-by_item own sorted read by) shown

whole : (own given : List Own) (pairs : List Pair) (old a b new : List ℕ) (count : ℕ) → given ≡ own
    → count ≤ 18446744073709551615 → a ≡ old ++ own_head given → ShowsMore pairs a 0 b count
    → new ≡ b ++ count_text count → new ≡ old ++ (own_head own ++ conflicts_text pairs)
whole own given pairs old a b new count same most front shown e =
    let counted = shown.count in
    let n : count ≡ min (length pairs) 18446744073709551615 = omega (arith, counted, most) in
    let head = own_head own in
    let told = pairs_text (take 40 pairs) in
    let first : a ≡ old ++ head = front ∙ ap (λ (os : List Own). old ++ own_head os) same in
    e ∙ ap₂ (λ t k. t ++ count_text k) (shown.text ∙ ap (λ t. t ++ told) first ∙ append_assoc old head told) n
    ∙ append_assoc old (head ++ told) (count_text (min (length pairs) 18446744073709551615))
    ∙ ap (λ t. old ++ t) (append_assoc head told (count_text (min (length pairs) 18446744073709551615)))

pub tells-dealings : (tx : ℕ) (own given read : List Own) (old a b new : List ℕ) (count : ℕ) → given ≡ own
    → count ≤ 18446744073709551615 → All (IsOwn tx) own → a ≡ old ++ own_head given
    → ShowsMore (conflicts_among own read) a 0 b count → new ≡ b ++ count_text count → TellsDealings tx old new
tells-dealings tx own given read old a b new count same most all front shown e =
    let pairs = conflicts_among own read in
    let told = pairs_text (take 40 pairs) in
    let more = count_text (min (length pairs) 18446744073709551615) in
    inr (
      own,
      take 40 pairs,
      all,
      All-take (IsOwnConflict None tx) 40 pairs (plain-conflicts tx own read all),
      (
        more,
        whole own given pairs old a b new count same most front shown e
            ∙ ap (λ t. old ++ t) (sym (append_assoc (own_head own) told more))
            ∙ sym (append_assoc old (own_head own ++ told) more),
      ),
    )

-- ---- of all that there is

pub tells-none : (tx : ℕ) (lines : List SectionLine) (own : List Own) (old new : List ℕ) → own ≡ []
    → own ≡ own_of tx lines → new ≡ old ++ codes "it has no entry\n" → TellsOwn lines tx (own_of tx lines) old new
tells-none tx lines own old new none all e = subst (λ (os : List Own). TellsOwn lines tx os old new) (sym none ∙ all) e

some-own : (lines : List SectionLine) (tx : ℕ) (own : List Own) (old new : List ℕ) → own ≢ []
    → (pairs : List Pair) × AreConflicts lines tx pairs × (new ≡ old ++ (own_head own ++ conflicts_text pairs))
    → TellsOwn lines tx own old new
some-own lines tx [] old new some told = absurd (some refl)
some-own lines tx (o ∷ own) old new some told = told

pub tells-own : (tx : ℕ) (lines : List SectionLine) (own given read : List Own) (old a b new : List ℕ) (count : ℕ)
    → own ≢ [] → given ≡ own → count ≤ 18446744073709551615 → own ≡ own_of tx lines → read ≡ entries_of lines
    → a ≡ old ++ own_head given
    → ShowsMore (conflicts_among own read) a 0 b count → new ≡ b ++ count_text count
    → TellsOwn lines tx (own_of tx lines) old new
tells-own tx lines own given read old a b new count some same most all reads front shown e =
    subst (λ (os : List Own). TellsOwn lines tx os old new) all (some-own lines tx own old new some (
      conflicts_among own read,
      subst (AreConflicts lines tx) (sym (ap₂ conflicts_among all reads)) (conflicts-of lines tx),
      whole own given (conflicts_among own read) old a b new count same most front shown e,
    ))
