-- Transactions, run one after another.
use Rattle.std.proofs.Common.{◌≡◌, ℕ, ◌+◌, List, [], ◌∷◌, ◌++◌, take, Option, Some, Result, Err, map, refl, sym, ap, ap₂, ◌∙◌, subst, All}
use Rattle.std.specs.Prelude.{slice_get}
use Rattle.std.proofs.lemmas.List.{map-append}
use Rattle.sgt_names.specs.Name.{Name}
use Rattle.sgt_names.proofs.Lists.{take_next}
use Rattle.sgt_bundle.specs.Serial.{Store, store_after, RunsOn}
use Rattle.sgt_bundle.specs.declared.bundle.SiteLog.{SiteLog}
use Rattle.sgt_serial.specs.declared.report.SiteChange.{SiteChange}
use Rattle.sgt_serial.specs.declared.report.SiteValue.{SiteValue}
use Rattle.sgt_serial.specs.declared.report.SerialFail.{SerialFail}
use Rattle.sgt_serial.specs.declared.report.SerialFail.TheVariants.{Differs}
use Rattle.sgt_serial.specs.Difference.{Has, Knows, DiffersFrom, AllRunOn, store_after_all}
use Rattle.sgt_serial.specs.declared.report.SerialTx.{SerialTx}
use Rattle.sgt_serial.specs.Report.{reads_of, writes_of, run_of}
use Rattle.sgt_serial.specs.private.Values.{with_all}
use Rattle.sgt_serial.proofs.Logged.{runs-on, store_after-all}

-- the parts of a difference
pub same-tx : {A : Type 0} (t u : Option ℕ) (s r : ℕ) (x y : Name)
    → ◌≡◌ {A = Result A SerialFail} (Err (Differs t s x)) (Err (Differs u r y)) → t ≡ u
same-tx t u s r x y e = cc

pub same-site : {A : Type 0} (t u : Option ℕ) (s r : ℕ) (x y : Name)
    → ◌≡◌ {A = Result A SerialFail} (Err (Differs t s x)) (Err (Differs u r y)) → s ≡ r
same-site t u s r x y e = cc

pub same-item : {A : Type 0} (t u : Option ℕ) (s r : ℕ) (x y : Name)
    → ◌≡◌ {A = Result A SerialFail} (Err (Differs t s x)) (Err (Differs u r y)) → x ≡ y
same-item t u s r x y e = cc

-- one fault, whatever the answer would have been
pub same-fail : {A B : Type 0} (f g : SerialFail) → ◌≡◌ {A = Result A SerialFail} (Err f) (Err g)
    → ◌≡◌ {A = Result B SerialFail} (Err f) (Err g)
same-fail f g e = let h : f ≡ g = cc in ap Err h

-- a fact of a value, and of a change, said of its site and item
pub at_value : (P : SiteValue → Type 0) (a : SiteValue) (s : ℕ) (x : Name) → a.site ≡ s → a.item ≡ x → P a
    → P (record { site = s; item = x; value = a.value })
at_value P a s x site item h = subst P (λ i. record { site = site i; item = item i; value = a.value }) h

pub at_change : (P : SiteChange → Type 0) (a : SiteChange) (s : ℕ) (x : Name) → a.site ≡ s → a.item ≡ x → P a
    → P (record { site = s; item = x; change = a.change })
at_change P a s x site item h = subst P (λ i. record { site = site i; item = item i; change = a.change }) h

AllRunOn-push : (sites : List SiteLog) (txs : List ℕ) (tx : ℕ) (store : Store) → AllRunOn sites txs store
    → RunsOn sites tx (store_after_all sites txs store) → AllRunOn sites (txs ++ tx ∷ []) store
AllRunOn-push sites [] tx store all last = (last, tt)
AllRunOn-push sites (t ∷ txs) tx store all last =
    (all.0, AllRunOn-push sites txs tx (store_after sites t store) all.1 last)

store_after_all-push : (sites : List SiteLog) (txs : List ℕ) (tx : ℕ) (store : Store)
    → store_after_all sites (txs ++ tx ∷ []) store ≡ store_after sites tx (store_after_all sites txs store)
store_after_all-push sites [] tx store = refl
store_after_all-push sites (t ∷ txs) tx store = store_after_all-push sites txs tx (store_after sites t store)

-- the turn of a transaction, which finds the store that those before it leave
module _ (sites : List SiteLog) (order : List ℕ) (i tx : ℕ) (at : slice_get order i ≡ Some tx) (first now : Store)
    (run : SerialTx)
    (as_logged : AllRunOn sites (take i order) first) (after : (s : ℕ) (x : Name)
    → now s x ≡ store_after_all sites (take i order) first s x) (own : run ≡ run_of sites tx) where
  abbrev before : Store
  before = store_after_all sites (take i order) first

  same-store : now ≡ before
  same-store = λ j s x. after s x j

  pub turn-differs : (s : ℕ) (x : Name) → DiffersFrom now run.reads run.writes s x
      → DiffersFrom before (reads_of sites tx) (writes_of sites tx) s x
  turn-differs s x h =
      subst (λ (r : SerialTx). DiffersFrom before r.reads r.writes s x) own
      (subst (λ (store : Store). DiffersFrom store run.reads run.writes s x) same-store h)

  pub turn-as_logged : All (Has now) run.reads → All (Knows now) run.writes → AllRunOn sites (take (i + 1) order) first
  turn-as_logged reads writes =
      let has =
      subst (λ (r : SerialTx). All (Has before) r.reads) own
      (subst (λ (store : Store). All (Has store) run.reads) same-store reads) in
      let knows =
      subst (λ (r : SerialTx). All (Knows before) r.writes) own
      (subst (λ (store : Store). All (Knows store) run.writes) same-store writes) in
      subst (λ (txs : List ℕ). AllRunOn sites txs first) (sym (take_next order i tx at))
      (AllRunOn-push sites (take i order) tx first as_logged (runs-on sites tx before has knows))

  pub turn-after : (new : Store) (s : ℕ) (x : Name) → new s x ≡ with_all run.writes now s x
      → new s x ≡ store_after_all sites (take (i + 1) order) first s x
  turn-after new s x put =
      put ∙ ap (λ (r : SerialTx). with_all r.writes now s x) own
      ∙ ap (λ (store : Store). with_all (writes_of sites tx) store s x) same-store
      ∙ store_after-all sites tx before s x
      ∙ ap (λ (store : Store). store s x) (sym (store_after_all-push sites (take i order) tx first))
      ∙ ap (λ (txs : List ℕ). store_after_all sites txs first s x) (sym (take_next order i tx at))

  pub turn-runs : (runs : List SerialTx) → runs ≡ map (run_of sites) (take i order)
      → runs ++ run ∷ [] ≡ map (run_of sites) (take (i + 1) order)
  turn-runs runs so_far =
      ap₂ (λ rs (r : SerialTx). rs ++ r ∷ []) so_far own ∙ sym (map-append (run_of sites) (take i order) (tx ∷ []))
      ∙ ap (map (run_of sites)) (sym (take_next order i tx at))
