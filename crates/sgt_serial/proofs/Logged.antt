-- A transaction's reads, writes and increments as lists, and as entries of the logs.
use Rattle.std.proofs.Common.{◌≡◌, ◌≢◌, ℕ, zero, suc, ◌+◌, ◌<◌, ◌≤◌, Bool, true, false, cond, List, [], ◌∷◌, ◌++◌, length, Option, Some, None, refl, sym, ap, ap₂, ◌∙◌, subst, arith, inl, inr, All, Contains, zero-add}
use Rattle.std.specs.Prelude.{slice_get, ◌==◌, fold}
use Rattle.std.specs.List.{filter, filter_map, flat_map, range_with_len, cons_option}
use Rattle.std.specs.Str.{bytes_eq}
use Rattle.std.proofs.lemmas.Bool.{cases_eq, cases_Bool, eq-eqb, ne_eqb, false≢true}
use Rattle.std.proofs.lemmas.List.{append-nil}
use Rattle.std.proofs.lemmas.List.Elements.{All-nil, All-cons, All-head, All-tail, All-append}
use Rattle.std.proofs.lemmas.List.FromFn.{get_or-range_with_len, length-range_with_len}
use Rattle.std.proofs.lemmas.Option.{slice_get-get_or, slice_get_within, slice_get_past, same_Some}
use Rattle.sgt_names.specs.Name.{Name}
use Rattle.sgt_names.specs.Entry.{tx_of, change_of}
use Rattle.sgt_names.specs.Log.{value_with}
use Rattle.sgt_names.specs.declared.entry.Change.TheVariants.{Put, Add}
use Rattle.sgt_names.specs.declared.entry.Entry.{Entry}
use Rattle.sgt_names.specs.declared.entry.Entry.TheVariants as entry
use Rattle.sgt_names.specs.declared.entry.Entry.TheVariants.{Read, Write, Want, WantAdd, Commit, Refuse, Withdraw}
use Rattle.sgt_names.proofs.Places.{Contains_at, Contains-from_at}
use Rattle.sgt_names.proofs.Lists.{option_cases}
use Rattle.sgt_bundle.specs.Serial.{Store, entries_of, own_entries, store_after, RunsOn}
use Rattle.sgt_bundle.proofs.Headline.{entries_at}
use Rattle.sgt_bundle.specs.declared.bundle.SiteLog.{SiteLog}
use Rattle.sgt_serial.specs.declared.report.SiteChange.{SiteChange}
use Rattle.sgt_serial.specs.Report.{read_at, write_at, picked_of, reads_of, writes_of}
use Rattle.sgt_serial.specs.Difference.{Has, Knows}
use Rattle.sgt_serial.specs.private.Values.{is_of, change_in, with_all}
use Rattle.sgt_serial.proofs.Sorting.{filter_map-flat_map}

module _ {A : Type 0} (P : A → Type 0) where
  all-left : (xs ys : List A) → All P (xs ++ ys) → All P xs
  all-left [] ys all = All-nil P
  all-left (x ∷ xs) ys all =
      All-cons P x xs (All-head P x (xs ++ ys) all) (all-left xs ys (All-tail P x (xs ++ ys) all))

  all-right : (xs ys : List A) → All P (xs ++ ys) → All P ys
  all-right [] ys all = all
  all-right (x ∷ xs) ys all = all-right xs ys (All-tail P x (xs ++ ys) all)

  pub All-flat_map : {K : Type 0} (f : K → List A) → ((k : K) → All P (f k)) → (ks : List K) → All P (flat_map f ks)
  All-flat_map f each [] = All-nil P
  All-flat_map f each (k ∷ ks) = All-append P (f k) (flat_map f ks) (each k) (All-flat_map f each ks)

  pub All-flat_map_at : {K : Type 0} (f : K → List A) (ks : List K) (i : ℕ) (k : K) → slice_get ks i ≡ Some k
      → All P (flat_map f ks) → All P (f k)
  All-flat_map_at f [] i k at all = absurd cc
  All-flat_map_at f (j ∷ ks) zero k at all =
      subst (λ u. All P (f u)) (same_Some j k at) (all-left (f j) (flat_map f ks) all)
  All-flat_map_at f (j ∷ ks) (suc i) k at all = All-flat_map_at f ks i k at (all-right (f j) (flat_map f ks) all)

  module _ {E : Type 0} (p : E → Bool) (h : E → Option A) where
    -- each that passes and is picked
    All-picked : (es : List E) → ((n : ℕ) (e : E) (y : A) → slice_get es n ≡ Some e → p e ≡ true → h e ≡ Some y → P y)
        → All P (filter_map h (filter p es))
    All-picked [] each = All-nil P
    All-picked (e ∷ es) each =
        let rest = All-picked es (λ n f y at. each (suc n) f y at) in
        elim (cases_Bool (p e)) [
          | inl hit ↦
              elim (option_cases (h e)) [
                | inl none ↦ rw (hit, none) rest
                | inr some ↦ rw (
                  hit,
                  some.1,
                ) (All-cons P some.0 (filter_map h (filter p es)) (each 0 e some.0 refl hit some.1) rest)
              ]
          | inr miss ↦ rw miss rest
        ]

    All-picked_at : (es : List E) (n : ℕ) (e : E) (y : A) → slice_get es n ≡ Some e → p e ≡ true → h e ≡ Some y
        → All P (filter_map h (filter p es)) → P y
    All-picked_at [] n e y at hit some all = absurd cc
    All-picked_at (f ∷ es) zero e y at hit some all =
        let same = same_Some f e at in
        let first : filter_map h (filter p (f ∷ es)) ≡ y ∷ filter_map h (filter p es) =
        ap (λ b. filter_map h (cond b (f ∷ filter p es) (filter p es))) (ap p same ∙ hit)
        ∙ ap (λ o. cons_option o (filter_map h (filter p es))) (ap h same ∙ some) in
        All-head P y (filter_map h (filter p es)) (subst (All P) first all)
    All-picked_at (f ∷ es) (suc n) e y at hit some all =
        All-picked_at es n e y at hit some
        (elim (cases_Bool (p f)) [
          | inl passes ↦
              elim (option_cases (h f)) [
                | inl none ↦ subst (All P) (ap (λ b. filter_map h (cond b (f ∷ filter p es) (filter p es))) passes
                    ∙ ap (λ o. cons_option o (filter_map h (filter p es))) none) all
                | inr gives ↦ All-tail P gives.0 (filter_map h (filter p es))
                    (subst (All P) (ap (λ b. filter_map h (cond b (f ∷ filter p es) (filter p es))) passes
                    ∙ ap (λ o. cons_option o (filter_map h (filter p es))) gives.1) all)
              ]
          | inr fails ↦ subst (All P) (ap (λ b. filter_map h (cond b (f ∷ filter p es) (filter p es))) fails) all
        ])

pub range_at : (m k : ℕ) → k < m → slice_get (range_with_len 0 m) k ≡ Some k
range_at m k lt =
    slice_get-get_or (range_with_len 0 m) k 0 (omega (arith, length-range_with_len 0 m))
    ∙ ap Some (get_or-range_with_len 0 m k 0 lt ∙ zero-add k)

-- a site that has an entry is there
site-there : (o : Option SiteLog) (n : ℕ) (e : Entry) → slice_get (entries_at o) n ≡ Some e
    → (log : SiteLog) × (o ≡ Some log)
site-there None n e at = absurd cc
site-there (Some log) n e at = (log, refl)

module _ {A : Type 0} (pick : ℕ → Entry → Option A) (sites : List SiteLog) (tx : ℕ) (P : A → Type 0) where
  abbrev of_site : ℕ → List A
  of_site s = filter_map (pick s) (own_entries tx (entries_of sites s))

  -- what is picked of an entry of the transaction has the property
  abbrev EachPicked : Type 0
  EachPicked = (s : ℕ) (e : Entry) (a : A) → Contains (entries_of sites s) e → tx_of e ≡ tx → pick s e ≡ Some a → P a

  by-tx : (u : ℕ) → (u == tx) ≡ true → u ≡ tx
  by-tx u hit =
      elim (cases_eq u tx) [ inl same ↦ same | inr other ↦ absurd (false≢true (sym (ne_eqb u tx other) ∙ hit)) ]

  all-picked : EachPicked → All P (picked_of pick sites tx)
  all-picked each =
      All-flat_map P of_site (λ s. All-picked P (λ e. tx_of e == tx) (pick s) (entries_of sites s) (λ n e a at hit some.
      each s e a (Contains-from_at (entries_of sites s) n e at) (by-tx (tx_of e) hit) some))
      (range_with_len 0 (length sites))

  each-picked : All P (picked_of pick sites tx) → EachPicked
  each-picked all s e a contains by some =
      let place = Contains_at (entries_of sites s) e contains in
      let site = site-there (slice_get sites s) place.0 e place.1 in
      let within = slice_get_within sites s site.0 site.1 in
      All-picked_at P (λ f. tx_of f == tx) (pick s) (entries_of sites s) place.0 e a place.1 (eq-eqb (tx_of e) tx by)
      some
      (All-flat_map_at P of_site (range_with_len 0 (length sites)) s s (range_at (length sites) s within) all)

module _ (sites : List SiteLog) (tx : ℕ) (store : Store) where
  -- a transaction runs as logged where the store has all its reads and knows the items of all its writes and increments
  pub runs-on : All (Has store) (reads_of sites tx) → All (Knows store) (writes_of sites tx) → RunsOn sites tx store
  runs-on reads writes = record {
    reads = λ s x v c. each-picked read_at sites tx (Has store) reads s (Read tx x v)
        (record { site = s; item = x; value = v }) c refl refl;
    writes = λ s x v c. each-picked write_at sites tx (Knows store) writes s (Write tx x v)
        (record { site = s; item = x; change = Put v }) c refl refl;
    adds = λ s x v c. each-picked write_at sites tx (Knows store) writes s (entry.Add tx x v)
        (record { site = s; item = x; change = Add v }) c refl refl;
  }

  has-read : RunsOn sites tx store → EachPicked read_at sites tx (Has store)
  has-read runs s (Read u x v) a c by some =
      subst (Has store) (same_Some (record { site = s; item = x; value = v }) a some)
      (runs.reads s x v (subst (λ (t : ℕ). Contains (entries_of sites s) (Read t x v)) by c))
  has-read runs s (Write u x v) a c by some = absurd cc
  has-read runs s (entry.Add u x v) a c by some = absurd cc
  has-read runs s (Want u x v) a c by some = absurd cc
  has-read runs s (WantAdd u x v) a c by some = absurd cc
  has-read runs s (Commit u) a c by some = absurd cc
  has-read runs s (Refuse u) a c by some = absurd cc
  has-read runs s (Withdraw u) a c by some = absurd cc

  knows-write : RunsOn sites tx store → EachPicked write_at sites tx (Knows store)
  knows-write runs s (Write u x v) a c by some =
      subst (Knows store) (same_Some (record { site = s; item = x; change = Put v }) a some)
      (runs.writes s x v (subst (λ (t : ℕ). Contains (entries_of sites s) (Write t x v)) by c))
  knows-write runs s (entry.Add u x v) a c by some =
      subst (Knows store) (same_Some (record { site = s; item = x; change = Add v }) a some)
      (runs.adds s x v (subst (λ (t : ℕ). Contains (entries_of sites s) (entry.Add t x v)) by c))
  knows-write runs s (Read u x v) a c by some = absurd cc
  knows-write runs s (Want u x v) a c by some = absurd cc
  knows-write runs s (WantAdd u x v) a c by some = absurd cc
  knows-write runs s (Commit u) a c by some = absurd cc
  knows-write runs s (Refuse u) a c by some = absurd cc
  knows-write runs s (Withdraw u) a c by some = absurd cc

  pub has-reads : RunsOn sites tx store → All (Has store) (reads_of sites tx)
  has-reads runs = all-picked read_at sites tx (Has store) (has-read runs)

  pub knows-writes : RunsOn sites tx store → All (Knows store) (writes_of sites tx)
  knows-writes runs = all-picked write_at sites tx (Knows store) (knows-write runs)

-- of a range of numbers one alone gives something
range-none : {A : Type 0} (f : ℕ → List A) (s m a : ℕ) → s < a → ((k : ℕ) → k ≢ s → f k ≡ [])
    → flat_map f (range_with_len a m) ≡ []
range-none f s zero a lt others = refl
range-none f s (suc m) a lt others =
    ap (λ xs. xs ++ flat_map f (range_with_len (a + 1) m)) (others a (λ e. absurd (omega arith)))
    ∙ range-none f s m (a + 1) (omega arith) others

range-one : {A : Type 0} (f : ℕ → List A) (s m a : ℕ) → a ≤ s → ((k : ℕ) → k ≢ s → f k ≡ []) → (a + m ≤ s → f s ≡ [])
    → flat_map f (range_with_len a m) ≡ f s
range-one f s zero a le others past = sym (past (omega arith))
range-one f s (suc m) a le others past =
    elim (cases_eq a s) [
      | inl same ↦ ap₂ (λ xs ys. xs ++ ys) (ap f same) (range-none f s m (a + 1) (omega arith) others)
          ∙ append-nil (f s)
      | inr other ↦ ap (λ xs. xs ++ flat_map f (range_with_len (a + 1) m)) (others a other)
          ∙ range-one f s m (a + 1) (omega arith) others (λ beyond. past (omega arith))
    ]

-- what is done to an item of a site
changes-one : (s : ℕ) (x : Name) (e : Entry) (es : List Entry)
    → filter_map (change_in s x) (cons_option (write_at s e) (filter_map (write_at s) es))
    ≡ cons_option (change_of x e) (filter_map (change_in s x) (filter_map (write_at s) es))
changes-one s x (Write tx y v) es =
    let rest = filter_map (change_in s x) (filter_map (write_at s) es) in
    let here : is_of s x (record { site = s; item = y; change = Put v }) ≡ bytes_eq y x = rw (eq-eqb s s refl) refl in
    ap (λ b. cons_option (cond b (Some (Put v)) None) rest) here
changes-one s x (entry.Add tx y v) es =
    let rest = filter_map (change_in s x) (filter_map (write_at s) es) in
    let here : is_of s x (record { site = s; item = y; change = Add v }) ≡ bytes_eq y x = rw (eq-eqb s s refl) refl in
    ap (λ b. cons_option (cond b (Some (Add v)) None) rest) here
changes-one s x (Read tx y v) es = refl
changes-one s x (Want tx y v) es = refl
changes-one s x (WantAdd tx y v) es = refl
changes-one s x (Commit tx) es = refl
changes-one s x (Refuse tx) es = refl
changes-one s x (Withdraw tx) es = refl

changes-here : (s : ℕ) (x : Name) (es : List Entry)
    → filter_map (change_in s x) (filter_map (write_at s) es) ≡ filter_map (change_of x) es
changes-here s x [] = refl
changes-here s x (e ∷ es) = changes-one s x e es ∙ ap (cons_option (change_of x e)) (changes-here s x es)

-- a change at another site
elsewhere : (s : ℕ) (x : Name) (k : ℕ) → k ≢ s → (e : Entry) (a : SiteChange) → write_at k e ≡ Some a
    → is_of s x a ≡ false
elsewhere s x k other (Write tx y v) a some =
    subst (λ (c : SiteChange). is_of s x c ≡ false) (same_Some (record { site = k; item = y; change = Put v }) a some)
    (rw (ne_eqb k s other) refl)
elsewhere s x k other (entry.Add tx y v) a some =
    subst (λ (c : SiteChange). is_of s x c ≡ false) (same_Some (record { site = k; item = y; change = Add v }) a some)
    (rw (ne_eqb k s other) refl)
elsewhere s x k other (Read tx y v) a some = absurd cc
elsewhere s x k other (Want tx y v) a some = absurd cc
elsewhere s x k other (WantAdd tx y v) a some = absurd cc
elsewhere s x k other (Commit tx) a some = absurd cc
elsewhere s x k other (Refuse tx) a some = absurd cc
elsewhere s x k other (Withdraw tx) a some = absurd cc

changes-elsewhere : (s : ℕ) (x : Name) (k : ℕ) → k ≢ s → (es : List Entry)
    → filter_map (change_in s x) (filter_map (write_at k) es) ≡ []
changes-elsewhere s x k other [] = refl
changes-elsewhere s x k other (e ∷ es) =
    let rest = changes-elsewhere s x k other es in
    elim (option_cases (write_at k e)) [
      | inl none ↦ rw none rest
      | inr some ↦ rw (some.1, elsewhere s x k other e some.0 some.1) rest
    ]

past-end : (sites : List SiteLog) (tx s : ℕ) (x : Name) → length sites ≤ s
    → filter_map (change_in s x) (filter_map (write_at s) (own_entries tx (entries_of sites s))) ≡ []
past-end sites tx s x past =
    ap (λ o. filter_map (change_in s x) (filter_map (write_at s) (own_entries tx (entries_at o))))
    (slice_get_past sites s past)

-- a transaction's writes and increments lead to the store after it
pub store_after-all : (sites : List SiteLog) (tx : ℕ) (store : Store) (s : ℕ) (x : Name)
    → with_all (writes_of sites tx) store s x ≡ store_after sites tx store s x
store_after-all sites tx store s x =
    let of_site = λ (k : ℕ). filter_map (write_at k) (own_entries tx (entries_of sites k)) in
    ap (fold value_with (store s x))
    (filter_map-flat_map (change_in s x) of_site (range_with_len 0 (length sites))
    ∙ range-one (λ k. filter_map (change_in s x) (of_site k)) s (length sites) 0 (omega arith)
    (λ k other. changes-elsewhere s x k other (own_entries tx (entries_of sites k)))
    (λ past. past-end sites tx s x (omega arith))
    ∙ changes-here s x (own_entries tx (entries_of sites s)))
