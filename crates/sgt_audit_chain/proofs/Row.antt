-- The committed transactions of a chain, run in a row.
use Rattle.std.proofs.Common.{◌≡◌, ℕ, zero, suc, ◌<◌, Bool, false, cond, get_or, List, [], ◌∷◌, length, map, Option, Some, None, refl, sym, ap, ◌∙◌, subst, arith, inl, inr, All, Contains}
use Rattle.std.specs.Prelude.{slice_get, ◌==◌, is_some, option_and_then, option_map, fold}
use Rattle.std.specs.List.{filter, filter_map, cons_option, AllByRecursion}
use Rattle.std.specs.Str.{bytes_eq}
use Rattle.std.specs.Option.{ForSome, option_map_or}
use Rattle.std.proofs.lemmas.Bool.{cases_Bool}
use Rattle.std.proofs.lemmas.List.Elements.{recursion_from_All}
use Rattle.std.proofs.lemmas.Option.{none-some, same_Some, slice_get-map}
use Rattle.std.proofs.lemmas.Slice.Eq.{bytes_eq-Decides}
use Rattle.sgt_names.specs.Name.{Name}
use Rattle.sgt_names.specs.Entry.{tx_of, item_of, change_of}
use Rattle.sgt_names.specs.Log.{names, value_in, value_after, value_with}
use Rattle.sgt_names.specs.declared.entry.Change.TheVariants as change
use Rattle.sgt_names.specs.declared.entry.Entry.{Entry}
use Rattle.sgt_names.specs.declared.entry.Entry.TheVariants as entry
use Rattle.sgt_names.specs.declared.entry.Holding.{Holding}
use Rattle.sgt_names.proofs.Lists.{option_cases, heads, tails}
use Rattle.sgt_names.proofs.Places.{All_at}
use Rattle.sgt_bundle.specs.Parts.{FitTogether, IsShapedLog, Parts}
use Rattle.sgt_bundle.specs.Serial.{Store, entries_of, initial_store, own_entries, store_after, RunsSerially}
use Rattle.sgt_bundle.specs.Valid.{IsValid, IsValidLog}
use Rattle.sgt_bundle.specs.declared.bundle.SiteLog.{SiteLog}
use Rattle.sgt_bundle.proofs.Headline.{valid-agrees}
use Rattle.sgt_audit_chain.specs.Chain.{IsChain, final_of, final_values, initial_of}
use Rattle.sgt_audit_chain.specs.Serial.{ChainAgrees, RunInARow, committed_of, store_behind}
use Rattle.sgt_names.proofs.Elements.{All-tail}

-- ---- stores that are the same

abbrev AreSame : Store → Store → Type 0
AreSame store other = (s : ℕ) (x : Name) → store s x ≡ other s x

after-same : (sites : List SiteLog) (tx : ℕ) (store other : Store) → AreSame store other
    → AreSame (store_after sites tx store) (store_after sites tx other)
after-same sites tx store other same s x =
    ap (λ first. value_after first (own_entries tx (entries_of sites s)) x) (same s x)

runs-same : (sites : List SiteLog) (txs : List ℕ) (store other : Store) → AreSame store other
    → RunsSerially sites txs other → RunsSerially sites txs store
runs-same sites [] store other same run = λ s log at n d within. let h = get_or log.finals n d in same s h.item
    ∙ run s log at n d within
runs-same sites (tx ∷ txs) store other same run = (
  record {
    reads = λ s x v c. same s x ∙ run.0.reads s x v c;
    writes = λ s x v c. ap is_some (same s x) ∙ run.0.writes s x v c;
    adds = λ s x v c. ap is_some (same s x) ∙ run.0.adds s x v c;
  },
  runs-same sites txs (store_after sites tx store) (store_after sites tx other) (after-same sites tx store other same)
      run.1,
)

abbrev behind : List SiteLog → List ℕ → Store → Store
behind sites txs store = fold (λ before tx. store_after sites tx before) store txs

behind-same : (sites : List SiteLog) (txs : List ℕ) (store other : Store) → AreSame store other
    → AreSame (behind sites txs store) (behind sites txs other)
behind-same sites [] store other same = same
behind-same sites (tx ∷ txs) store other same =
    behind-same sites txs (store_after sites tx store) (store_after sites tx other)
    (after-same sites tx store other same)

-- ---- the store behind a bundle has its final values

run-finals : (sites : List SiteLog) (txs : List ℕ) (store : Store) → RunsSerially sites txs store
    → (s : ℕ) (log : SiteLog) → slice_get sites s ≡ Some log
    → All (λ h. behind sites txs store s h.item ≡ Some h.value) log.finals
run-finals sites [] store run s log at = run s log at
run-finals sites (tx ∷ txs) store run s log at = run-finals sites txs (store_after sites tx store) run.1 s log at

-- what is listed
listed-value : (P : Holding → Type 0) (hs : List Holding) (x : Name) (v : ℕ) → AllByRecursion P hs
    → value_in hs x ≡ Some v → (h : Holding) × P h × (h.item ≡ x) × (h.value ≡ v)
listed-value P [] x v all is = absurd (none-some v is)
listed-value P (h ∷ hs) x v all is = elim (cases_Bool (bytes_eq h.item x)) [
  | inl hit ↦ (
    h,
    all.0,
    (bytes_eq-Decides h.item x).0 hit,
    same_Some h.value v (sym (ap (λ t. cond t (Some h.value) (value_in hs x)) hit) ∙ is),
  )
  | inr miss ↦ listed-value P hs x v all.1 (sym (ap (λ t. cond t (Some h.value) (value_in hs x)) miss) ∙ is)
]

-- what isn't listed under one of these names isn't a name of these
unlisted : (hs ks : List Holding) (x : Name) → names hs ≡ names ks → value_in hs x ≡ None → value_in ks x ≡ None
unlisted [] [] x same none = refl
unlisted [] (k ∷ ks) x same none = absurd cc
unlisted (h ∷ hs) [] x same none = absurd cc
unlisted (h ∷ hs) (k ∷ ks) x same none =
    let first = heads h.item k.item (names hs) (names ks) same in
    elim (cases_Bool (bytes_eq h.item x)) [
      | inl hit ↦ absurd (none-some h.value (sym none ∙ ap (λ t. cond t (Some h.value) (value_in hs x)) hit))
      | inr miss ↦ ap (λ t. cond t (Some k.value) (value_in ks x)) (ap (λ y. bytes_eq y x) (sym first) ∙ miss)
          ∙ unlisted hs ks x (tails h.item k.item (names hs) (names ks) same)
          (sym (ap (λ t. cond t (Some h.value) (value_in hs x)) miss) ∙ none)
    ]

contained : (hs : List Holding) (x : Name) (n : ℕ) → n < length (names hs) → get_or (names hs) n x ≡ x
    → value_in hs x ≡ None → ⊥
contained [] x n lt is none = omega arith
contained (h ∷ hs) x zero lt is none =
    none-some h.value (sym none ∙ ap (λ t. cond t (Some h.value) (value_in hs x)) ((bytes_eq-Decides h.item x).1 is))
contained (h ∷ hs) x (suc n) lt is none = elim (cases_Bool (bytes_eq h.item x)) [
  | inl hit ↦ none-some h.value (sym none ∙ ap (λ t. cond t (Some h.value) (value_in hs x)) hit)
  | inr miss ↦ contained hs x n (omega arith) is (sym (ap (λ t. cond t (Some h.value) (value_in hs x)) miss) ∙ none)
]

-- an entry changes none but the items
other-item : (items : List Holding) (x y : Name) → value_in items x ≡ None → Contains (names items) y
    → bytes_eq y x ≡ false
other-item items x y none known = elim (cases_Bool (bytes_eq y x)) [
  | inl hit ↦
      let here = subst (Contains (names items)) ((bytes_eq-Decides y x).0 hit) known in
      absurd (contained items x here.0 here.1 here.2 none)
  | inr miss ↦ miss
]

no-change : (items : List Holding) (x : Name) (e : Entry) → value_in items x ≡ None
    → ForSome (item_of e) (Contains (names items)) → change_of x e ≡ None
no-change items x (entry.Read tx y v) none known = refl
no-change items x (entry.Write tx y v) none known =
    ap (λ t. cond t (Some (change.Put v)) None) (other-item items x y none (known y refl))
no-change items x (entry.Add tx y v) none known =
    ap (λ t. cond t (Some (change.Add v)) None) (other-item items x y none (known y refl))
no-change items x (entry.Want tx y v) none known = refl
no-change items x (entry.WantAdd tx y v) none known = refl
no-change items x (entry.Commit tx) none known = refl
no-change items x (entry.Refuse tx) none known = refl
no-change items x (entry.Withdraw tx) none known = refl

no-changes : (items : List Holding) (x : Name) (es : List Entry) → value_in items x ≡ None
    → AllByRecursion (λ e. ForSome (item_of e) (Contains (names items))) es
    → AllByRecursion (λ e. change_of x e ≡ None) es
no-changes items x [] none known = tt
no-changes items x (e ∷ es) none known = (no-change items x e none known.0, no-changes items x es none known.1)

unchanged : (x : Name) (p : Entry → Bool) (first : Option ℕ) (es : List Entry)
    → AllByRecursion (λ e. change_of x e ≡ None) es → value_after first (filter p es) x ≡ first
unchanged x p first [] none = refl
unchanged x p first (e ∷ es) none = elim (cases_Bool (p e)) [
  | inl hit ↦ ap (λ t. value_after first (cond t (e ∷ filter p es) (filter p es)) x) hit
      ∙ ap (λ o. fold value_with first (cons_option o (filter_map (change_of x) (filter p es)))) none.0
      ∙ unchanged x p first es none.1
  | inr miss ↦ ap (λ t. value_after first (cond t (e ∷ filter p es) (filter p es)) x) miss
      ∙ unchanged x p first es none.1
]

behind-still : (sites : List SiteLog) (s : ℕ) (x : Name)
    → AllByRecursion (λ e. change_of x e ≡ None) (entries_of sites s) → (txs : List ℕ) (store : Store)
    → behind sites txs store s x ≡ store s x
behind-still sites s x none [] store = refl
behind-still sites s x none (tx ∷ txs) store = behind-still sites s x none txs (store_after sites tx store)
    ∙ unchanged x (λ e. tx_of e == tx) (store s x) (entries_of sites s) none

-- ---- from bundle to bundle

-- the values by site and name
value_of : List (List Holding) → Store
value_of values s x = option_and_then (λ hs. value_in hs x) (slice_get values s)

mapped : (of : SiteLog → List Holding) (x : Name) (o : Option SiteLog)
    → option_and_then (λ hs. value_in hs x) (option_map of o) ≡ option_and_then (λ log. value_in (of log) x) o
mapped of x None = refl
mapped of x (Some log) = refl

value-at : (of : SiteLog → List Holding) (sites : List SiteLog) (s : ℕ) (x : Name)
    → value_of (map of sites) s x ≡ option_and_then (λ log. value_in (of log) x) (slice_get sites s)
unfolding value_of
value-at of sites s x = ap (option_and_then (λ hs. value_in hs x)) (slice_get-map of sites s)
    ∙ mapped of x (slice_get sites s)

module _ (b : Parts) (valid : IsValid b) (fit : FitTogether b) (s : ℕ) (x : Name) where
  abbrev sites : List SiteLog
  sites = b.sites

  abbrev end : Option ℕ
  end = behind sites (committed_of b) (initial_store sites) s x

  end-missing : slice_get sites s ≡ None → end ≡ None
  end-missing at =
      let none =
      subst (AllByRecursion (λ e. change_of x e ≡ None))
      (sym (ap (λ o. option_map_or (λ (log : SiteLog). log.entries) o []) at)) tt in
      behind-still sites s x none (committed_of b) (initial_store sites)
      ∙ ap (option_and_then (λ (log : SiteLog). value_in log.items x)) at

  end-here : (log : SiteLog) → slice_get sites s ≡ Some log → end ≡ value_in log.finals x
  end-here log at = elim (option_cases (value_in log.finals x)) [
    | inl none ↦
        let w = All_at (IsValidLog b.certificate.decisions) sites s log valid.logs at in
        let shaped = All_at IsShapedLog sites s log fit.shape.logs at in
        let unlisted-here = unlisted log.finals log.items x shaped.finals none in
        let none-changed =
        no-changes log.items x log.entries unlisted-here
        (recursion_from_All (λ e. ForSome (item_of e) (Contains (names log.items))) log.entries w.formed.0.known) in
        let still =
        subst (AllByRecursion (λ e. change_of x e ≡ None))
        (sym (ap (λ o. option_map_or (λ (log : SiteLog). log.entries) o []) at)) none-changed in
        behind-still sites s x still (committed_of b) (initial_store sites)
        ∙ ap (option_and_then (λ (log : SiteLog). value_in log.items x)) at ∙ unlisted-here ∙ sym none
    | inr found ↦
        let all = run-finals sites (committed_of b) (initial_store sites) (valid-agrees b valid) s log at in
        let P : Holding → Type 0 = λ h. behind sites (committed_of b) (initial_store sites) s h.item ≡ Some h.value in
        let h = listed-value P log.finals x found.0 (recursion_from_All P log.finals all) found.1 in
        sym (ap (behind sites (committed_of b) (initial_store sites) s) h.2) ∙ h.1 ∙ ap Some h.3 ∙ sym found.1
  ]

  -- the store behind a bundle has its final values, and no others
  end-value : end ≡ value_of (final_values b) s x
  end-value = elim (option_cases (slice_get sites s)) [
    | inl none ↦ end-missing none
        ∙ sym (value-at final_of sites s x ∙ ap (option_and_then (λ log. value_in (final_of log) x)) none)
    | inr found ↦ end-here found.0 found.1
        ∙ sym (value-at final_of sites s x ∙ ap (option_and_then (λ log. value_in (final_of log) x)) found.1)
  ]

chain-tail : (b : Parts) (bundles : List Parts) → IsChain (b ∷ bundles) → IsChain bundles
chain-tail b bundles chain = record {
  valid = All-tail IsValid b bundles chain.valid;
  goes_on = λ n c d f g. chain.goes_on (suc n) c d f g;
}

run-row : (b : Parts) (bundles : List Parts) (store : Store) → AreSame store (initial_store b.sites)
    → All FitTogether (b ∷ bundles) → IsChain (b ∷ bundles) → RunInARow (b ∷ bundles) store
run-row b [] store same fit chain = (
  runs-same b.sites (committed_of b) store (initial_store b.sites) same
      (valid-agrees b (All_at IsValid (b ∷ []) 0 b chain.valid refl)),
  tt,
)
run-row b (c ∷ bundles) store same fit chain =
    let valid = All_at IsValid (b ∷ c ∷ bundles) 0 b chain.valid refl in
    let fits = All_at FitTogether (b ∷ c ∷ bundles) 0 b fit refl in (
      runs-same b.sites (committed_of b) store (initial_store b.sites) same (valid-agrees b valid),
      run-row c bundles (store_behind b store) (λ s x.
          behind-same b.sites (committed_of b) store (initial_store b.sites) same s x ∙ end-value b valid fits s x
          ∙ ap (λ values. value_of values s x) (sym (chain.goes_on 0 b c refl refl)) ∙ value-at initial_of c.sites s x)
          (All-tail FitTogether b (c ∷ bundles) fit) (chain-tail b (c ∷ bundles) chain),
    )

-- the committed transactions of a chain agree with one serial run
pub chain-agrees : (bundles : List Parts) → All FitTogether bundles → IsChain bundles → ChainAgrees bundles
chain-agrees [] fit chain = tt
chain-agrees (b ∷ bundles) fit chain = run-row b bundles (initial_store b.sites) (λ s x. refl) fit chain
