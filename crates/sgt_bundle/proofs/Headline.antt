-- A valid bundle agrees with its serial run.
use Rattle.std.proofs.Common.{◌≡◌, ℕ, zero, suc, ◌+◌, ◌%◌, ◌^◌, ◌<◌, true, false, cond, List, [], ◌∷◌, ◌++◌, length, get_or, Option, Some, None, refl, sym, ap, ◌∙◌, subst, arith, inl, inr, Contains, zero-add}
use Rattle.std.specs.Prelude.{slice_get, ◌==◌, IsSome, is_some, option_and_then}
use Rattle.std.specs.List.{filter_map, flat_map, range_with_len}
use Rattle.std.proofs.lemmas.List.Sums.{fold-append}
use Rattle.std.specs.Str.{bytes_eq}
use Rattle.std.specs.Option.{ForSome, option_map_or}
use Rattle.std.proofs.lemmas.Slice.Eq.{bytes_eq-Decides}
use Rattle.std.proofs.lemmas.Bool.{true≢false, cases_eq, cases_Bool, lt-ltb, le-ltb, eq-eqb, ne_eqb}
use Rattle.std.proofs.lemmas.List.Elements.{filter_agree}
use Rattle.std.proofs.lemmas.Option.{same_Some, none-some}
use Rattle.sgt_names.specs.Name.{Name}
use Rattle.sgt_names.specs.Entry.{tx_of, item_of, change_of}
use Rattle.sgt_names.specs.Log.{names, value_in, value_at, value_with}
use Rattle.sgt_names.specs.declared.entry.Change.{Change}
use Rattle.sgt_names.specs.declared.entry.Change.TheVariants as change
use Rattle.sgt_names.specs.declared.entry.Entry.{Entry}
use Rattle.sgt_names.specs.declared.entry.Entry.TheVariants.{Read, Write, Add}
use Rattle.sgt_names.specs.declared.entry.Holding.{Holding}
use Rattle.sgt_names.proofs.Places.{All_at, Contains_at}
use Rattle.sgt_names.proofs.Chosen.{chosen, under, exactly, chosen-all, chosen-none}
use Rattle.sgt_names.proofs.Increments.{after_changes, changes-next, change-is, RisesButAdds}
use Rattle.sgt_bundle.specs.Parts.{Parts}
use Rattle.sgt_bundle.specs.Certificate.{IsCommitted, with_rank, rank_limit}
use Rattle.sgt_bundle.specs.Valid.{IsValidLog, IsValid}
use Rattle.sgt_bundle.specs.Serial.{Store, initial_store, own_entries, store_after, RunsOn, RunsSerially, SerialAgrees}
use Rattle.sgt_bundle.specs.declared.bundle.SiteLog.{SiteLog}
use Rattle.sgt_bundle.specs.declared.certificate.Decision.{Decision}
use Rattle.sgt_bundle.proofs.Ranks.{rank_of, rank_of-committed, committed-rank_of, rank-lt-limit, IsOnly, IsNone, of_rank}
use Rattle.sgt_bundle.proofs.Writers.{writer-committed, changes-rise, before-read}

-- the entries of a site's log, where there is one
abbrev pub entries_at : Option SiteLog → List Entry
entries_at o = option_map_or (λ (log : SiteLog). log.entries) o []

after-Some : (v : ℕ) (cs : List Change) → is_some (after_changes (Some v) cs) ≡ true
after-Some v [] = refl
after-Some v (change.Put w ∷ cs) = after-Some w cs
after-Some v (change.Add w ∷ cs) = after-Some ((v + w) % 2 ^ 64) cs

listed-later : (h : Holding) (hs : List Holding) (x : Name) (n : ℕ) → n < length (names (h ∷ hs))
    → get_or (names (h ∷ hs)) n x ≡ x → bytes_eq h.item x ≡ false → Contains (names hs) x
listed-later h hs x zero lt e miss = absurd (true≢false (sym ((bytes_eq-Decides h.item x).1 e) ∙ miss))
listed-later h hs x (suc n) lt e miss = (n, omega arith, e)

-- an item that is listed has a value
pub listed : (items : List Holding) (x : Name) → Contains (names items) x → (v : ℕ) × (value_in items x ≡ Some v)
listed [] x (n, lt, e) = absurd (omega arith)
listed (h ∷ hs) x (n, lt, e) =
    elim (cases_Bool (bytes_eq h.item x)) [
      | inl hit ↦ (h.value, ap (λ t. cond t (Some h.value) (value_in hs x)) hit)
      | inr miss ↦
          let later = listed hs x (listed-later h hs x n lt e miss) in
          (later.0, ap (λ t. cond t (Some h.value) (value_in hs x)) miss ∙ later.1)
    ]

under-zero : (o : Option ℕ) → under 0 o ≡ false
under-zero None = refl
under-zero (Some r) = le-ltb r 0 (omega arith)

module _ (b : Parts) (valid : IsValid b) where
  abbrev ds : List Decision
  ds = b.certificate.decisions

  abbrev rank_key : Entry → Option ℕ
  rank_key e = rank_of ds (tx_of e)

  -- the value of an item after the transactions of rank below k: their changes, as they stand in the log
  abbrev value_below : ℕ → Option SiteLog → Name → Option ℕ
  value_below k o x = after_changes (option_and_then (λ (log : SiteLog). value_in log.items x) o)
      (chosen rank_key (change_of x) (under k) (entries_at o))

  abbrev IsSite : Option SiteLog → Type 0
  IsSite o = (log : SiteLog) → o ≡ Some log → IsValidLog ds log

  rises : (o : Option SiteLog) → IsSite o → (x : Name) → RisesButAdds rank_key (change_of x) (entries_at o)
  rises None site x = λ m n a c r s v w lt at_m at_n. absurd cc
  rises (Some log) site x = let v = site log refl in
      changes-rise ds valid.once log.items log.entries v.formed.0 v.agrees v.ranked x

  -- the store grows by the changes of rank k
  value_below-next : (k : ℕ) (o : Option SiteLog) → IsSite o → (x : Name)
      → value_below (k + 1) o x ≡ after_changes (value_below k o x)
      (chosen rank_key (change_of x) (exactly k) (entries_at o))
  value_below-next k o site x =
      let first = option_and_then (λ (log : SiteLog). value_in log.items x) o in
      changes-next rank_key (change_of x) k (entries_at o) (rises o site x) first
      ∙ fold-append value_with first (chosen rank_key (change_of x) (under k) (entries_at o))
      (chosen rank_key (change_of x) (exactly k) (entries_at o))

  -- a committed transaction's read has the value that the transactions of smaller rank leave
  read-is : (o : Option SiteLog) → IsSite o → (number tx k : ℕ) → IsCommitted ds number tx k → (x : Name) (v : ℕ)
      → Contains (entries_at o) (Read tx x v) → value_below k o x ≡ Some v
  read-is None site number tx k committed x v (n, lt, e) = absurd (omega arith)
  read-is (Some log) site number tx k committed x v c =
      let w = site log refl in
      let place = Contains_at log.entries (Read tx x v) c in
      ap (after_changes (value_in log.items x))
      (before-read ds valid.once log.items log.entries w.formed.0 w.agrees w.ranked place.0 tx x v number k
      place.1 committed)
      ∙ w.reads place.0 tx x v place.1

  -- its operations are on items that are there
  item-is : (o : Option SiteLog) → IsSite o → (k : ℕ) (e : Entry) (x : Name) → item_of e ≡ Some x
      → Contains (entries_at o) e → IsSome (value_below k o x)
  item-is None site k e x on (n, lt, is) = absurd (omega arith)
  item-is (Some log) site k e x on c =
      let w = site log refl in
      let place = Contains_at log.entries e c in
      let known =
      All_at (λ e. ForSome (item_of e) (Contains (names log.items))) log.entries place.0 e w.formed.0.known
      place.1 x on in
      let first = listed log.items x known in
      let cs = chosen rank_key (change_of x) (under k) log.entries in
      ap (λ o. is_some (after_changes o cs)) first.1 ∙ after-Some first.0 cs

  -- when all have run, the store has the value at the end
  last-is : (log : SiteLog) → IsValidLog ds log → (x : Name)
      → value_below (rank_limit ds) (Some log) x ≡ value_at log.items log.entries x
  last-is log w x =
      ap (after_changes (value_in log.items x)) (chosen-all rank_key (change_of x) (under (rank_limit ds)) log.entries
      (λ n a c at gives.
      let writer = writer-committed ds valid.once log.items log.entries w.formed.0 w.agrees w.ranked n a at
      (change-is x a c gives) in
      ap (under (rank_limit ds)) (rank_of-committed ds writer.1 (tx_of a) writer.0 valid.once writer.2)
      ∙ lt-ltb writer.0 (rank_limit ds) (rank-lt-limit ds writer.1 (tx_of a) writer.0 writer.2)))

  -- nobody has rank k: nothing is changed by it
  exactly-none : (k : ℕ) → IsNone ds k → (o : Option ℕ) (tx : ℕ) → rank_of ds tx ≡ o → exactly k o ≡ false
  exactly-none k none None tx e = refl
  exactly-none k none (Some r) tx e =
      let found = committed-rank_of ds tx r e in
      ne_eqb r k (λ same. none.none found.0 tx (subst (λ t. IsCommitted ds found.0 tx t) same found.1))

  -- the one of rank k changes what is changed by it
  exactly-only : (k tx : ℕ) → IsOnly ds k tx → (o : Option ℕ) (t : ℕ) → rank_of ds t ≡ o → exactly k o ≡ (t == tx)
  exactly-only k tx only None t e =
      sym (ne_eqb t tx
      (λ same. absurd (none-some k (sym e ∙ ap (rank_of ds) same
      ∙ rank_of-committed ds only.number tx k valid.once only.at))))
  exactly-only k tx only (Some r) t e =
      let found = committed-rank_of ds t r e in
      elim (cases_eq r k) [
        | inl same ↦ eq-eqb r k same
            ∙ sym (eq-eqb t tx (only.only found.0 t (subst (λ u. IsCommitted ds found.0 t u) same found.1)))
        | inr other ↦ ne_eqb r k other
            ∙ sym (ne_eqb t tx
            (λ same. other (same_Some r k (sym e ∙ ap (rank_of ds) same
            ∙ rank_of-committed ds only.number tx k valid.once only.at))))
      ]

  abbrev sites : List SiteLog
  sites = b.sites

  site-at : (s : ℕ) → IsSite (slice_get sites s)
  site-at s log at = All_at (IsValidLog ds) sites s log valid.logs at

  abbrev HasBelow : ℕ → Store → Type 0
  HasBelow k store = (s : ℕ) (x : Name) → store s x ≡ value_below k (slice_get sites s) x

  below-none : (k : ℕ) → IsNone ds k → (store : Store) → HasBelow k store → HasBelow (k + 1) store
  below-none k none store has s x =
      let o = slice_get sites s in
      has s x ∙ sym (value_below-next k o (site-at s) x ∙ ap (after_changes (value_below k o x))
      (chosen-none rank_key (change_of x) (exactly k) (entries_at o)
      (λ n a v at gives. exactly-none k none (rank_key a) (tx_of a) refl)))

  below-only : (k tx : ℕ) → IsOnly ds k tx → (store : Store) → HasBelow k store
      → HasBelow (k + 1) (store_after sites tx store)
  below-only k tx only store has s x =
      let o = slice_get sites s in
      ap (λ t. after_changes t (filter_map (change_of x) (own_entries tx (entries_at o)))) (has s x)
      ∙ ap (λ es. after_changes (value_below k o x) (filter_map (change_of x) es))
      (sym (filter_agree (λ e. exactly k (rank_key e)) (λ e. tx_of e == tx)
      (λ e. exactly-only k tx only (rank_key e) (tx_of e) refl) (entries_at o)))
      ∙ sym (value_below-next k o (site-at s) x)

  runs-on : (k tx : ℕ) → IsOnly ds k tx → (store : Store) → HasBelow k store → RunsOn sites tx store
  runs-on k tx only store has = record {
    reads = λ s x v c. has s x ∙ read-is (slice_get sites s) (site-at s) only.number tx k only.at x v c;
    writes = λ s x v c. ap is_some (has s x) ∙ item-is (slice_get sites s) (site-at s) k (Write tx x v) x refl c;
    adds = λ s x v c. ap is_some (has s x) ∙ item-is (slice_get sites s) (site-at s) k (Add tx x v) x refl c;
  }

  abbrev of_ranks : ℕ → ℕ → List ℕ
  of_ranks k m = flat_map (λ rank. filter_map (with_rank rank) ds) (range_with_len k m)

  runs-from : (m k : ℕ) (store : Store) → k + m ≡ rank_limit ds → HasBelow k store
      → RunsSerially sites (of_ranks k m) store
  runs-from zero k store e has = λ s log at i d lt.
      let w = site-at s log at in
      let x = (get_or log.finals i d).item in
      let all : k ≡ rank_limit ds = omega arith in
      has s x ∙ ap (λ o. value_below k o x) at ∙ ap (λ j. value_below j (Some log) x) all ∙ last-is log w x
      ∙ w.finals i d lt
  runs-from (suc m) k store e has =
      let rest = of_ranks (k + 1) m in
      elim (of_rank ds k valid.ranks.apart) [
        | inl none ↦ subst (λ (txs : List ℕ). RunsSerially sites (txs ++ rest) store) (sym none.list)
            (runs-from m (k + 1) store (omega arith) (below-none k none store has))
        | inr found ↦ subst (λ (txs : List ℕ). RunsSerially sites (txs ++ rest) store) (sym found.1.list) (
          runs-on k found.0 found.1 store has,
          runs-from m (k + 1) (store_after sites found.0 store) (omega arith)
              (below-only k found.0 found.1 store has),
        )
      ]

  -- the serial run by rank gives every recorded read and every final value
  pub valid-agrees : SerialAgrees b
  valid-agrees = runs-from (rank_limit ds) 0 (initial_store sites) (zero-add (rank_limit ds)) (λ s x.
      let o = slice_get sites s in
      sym (ap (after_changes (option_and_then (λ (log : SiteLog). value_in log.items x) o))
      (chosen-none rank_key (change_of x) (under 0) (entries_at o) (λ n a v at gives. under-zero (rank_key a)))))
