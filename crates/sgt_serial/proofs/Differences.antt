-- First differences: there are none in a run that agrees, and there is at most one.
use Rattle.std.proofs.Common.{◌≡◌, ℕ, zero, suc, ◌<◌, List, [], ◌∷◌, length, take, map, Option, Some, None, Result, Ok, Err, refl, sym, ap, ◌∙◌, subst, arith, inl, inr, ◌⊎◌, All}
use Rattle.std.specs.Prelude.{slice_get, IfOk, OnOk}
use Rattle.std.specs.List.{range_with_len}
use Rattle.std.proofs.lemmas.Bool.{cases_lt}
use Rattle.std.proofs.lemmas.List.{take-take}
use Rattle.std.proofs.lemmas.List.Elements.{All-map, All-nil}
use Rattle.std.proofs.lemmas.Option.{same_Some, slice_get_within}
use Rattle.sgt_names.specs.Name.{Name}
use Rattle.sgt_names.specs.declared.entry.Holding.{Holding}
use Rattle.sgt_names.proofs.Lists as lists
use Rattle.sgt_names.proofs.Lists.{option_cases}
use Rattle.sgt_names.proofs.Places.{All_at, slice_get-take_at}
use Rattle.sgt_bundle.specs.Parts.{Parts}
use Rattle.sgt_bundle.specs.Certificate.{by_rank}
use Rattle.sgt_bundle.specs.Serial.{Store, initial_store, store_after, RunsOn, RunsSerially, SerialAgrees}
use Rattle.sgt_bundle.specs.declared.bundle.SiteLog.{SiteLog}
use Rattle.sgt_serial.specs.declared.report.SiteChange.{SiteChange}
use Rattle.sgt_serial.specs.declared.report.SiteValue.{SiteValue}
use Rattle.sgt_serial.specs.declared.report.SerialReport.{SerialReport}
use Rattle.sgt_serial.specs.declared.report.SerialFail.{SerialFail}
use Rattle.sgt_serial.specs.declared.report.SerialFail.TheVariants.{Differs, Memory}
use Rattle.sgt_serial.specs.Difference.{Has, Knows, IsFirstWithout, DiffersFrom, DiffersIn, AllRunOn, store_after_all, IsFirstDifference}
use Rattle.sgt_serial.specs.Report.{reads_of, writes_of, final_at, finals_at, finals_of, report_of}
use Rattle.sgt_serial.proofs.Logged.{All-flat_map, All-flat_map_at, range_at, has-reads, knows-writes}

-- the transaction at a place runs as logged after those before it
AllRunOn-at : (sites : List SiteLog) (txs : List ℕ) (n tx : ℕ) (store : Store) → AllRunOn sites txs store
    → slice_get txs n ≡ Some tx → RunsOn sites tx (store_after_all sites (take n txs) store)
AllRunOn-at sites [] n tx store all at = absurd cc
AllRunOn-at sites (t ∷ txs) zero tx store all at = subst (λ u. RunsOn sites u store) (same_Some t tx at) all.0
AllRunOn-at sites (t ∷ txs) (suc n) tx store all at = AllRunOn-at sites txs n tx (store_after sites t store) all.1 at

-- the final values of each site, and the list of all
finals-listed : (sites : List SiteLog) (store : Store) → ((s : ℕ) (log : SiteLog) → slice_get sites s ≡ Some log
    → All (λ (h : Holding). store s h.item ≡ Some h.value) log.finals) → All (Has store) (finals_of sites)
finals-listed sites store each = All-flat_map (Has store) (λ s. map (final_at s) (finals_at (slice_get sites s))) (λ s.
    elim (option_cases (slice_get sites s)) [
      | inl none ↦ subst (λ o. All (Has store) (map (final_at s) (finals_at o))) (sym none) (All-nil (Has store))
      | inr some ↦ subst (λ o. All (Has store) (map (final_at s) (finals_at o))) (sym some.1)
          (All-map (Has store) (final_at s) some.0.finals (each s some.0 some.1))
    ]) (range_with_len 0 (length sites))

finals-each : (sites : List SiteLog) (store : Store) → All (Has store) (finals_of sites) → (s : ℕ) (log : SiteLog)
    → slice_get sites s ≡ Some log → All (λ (h : Holding). store s h.item ≡ Some h.value) log.finals
finals-each sites store all s log at =
    lists.All-map (Has store) (final_at s) log.finals
    (subst (λ o. All (Has store) (map (final_at s) (finals_at o))) at
    (All-flat_map_at (Has store) (λ k. map (final_at k) (finals_at (slice_get sites k)))
    (range_with_len 0 (length sites)) s s (range_at (length sites) s (slice_get_within sites s log at)) all))

-- a serial run is one in which each transaction runs as logged and the final values are left
pub as_logged : (sites : List SiteLog) (txs : List ℕ) (store : Store) → RunsSerially sites txs store
    → AllRunOn sites txs store
as_logged sites [] store runs = tt
as_logged sites (t ∷ txs) store runs = (runs.0, as_logged sites txs (store_after sites t store) runs.1)

has-finals : (sites : List SiteLog) (txs : List ℕ) (store : Store) → RunsSerially sites txs store
    → All (Has (store_after_all sites txs store)) (finals_of sites)
has-finals sites [] store runs = finals-listed sites store runs
has-finals sites (t ∷ txs) store runs = has-finals sites txs (store_after sites t store) runs.1

pub runs-serially : (sites : List SiteLog) (txs : List ℕ) (store : Store) → AllRunOn sites txs store
    → All (Has (store_after_all sites txs store)) (finals_of sites) → RunsSerially sites txs store
runs-serially sites [] store all finals = finals-each sites store finals
runs-serially sites (t ∷ txs) store all finals =
    (all.0, runs-serially sites txs (store_after sites t store) all.1 finals)

-- no element of a list that has the property throughout is the first without it
none-without : {A : Type 0} (P : A → Type 0) (xs : List A) (x : A) → All P xs → IsFirstWithout P xs x → ⊥
none-without P xs x all first = first.without (All_at P xs first.place x all first.at)

-- there is one first
one-without : {A : Type 0} (P : A → Type 0) (xs : List A) (x y : A) → IsFirstWithout P xs x → IsFirstWithout P xs y
    → x ≡ y
one-without P xs x y f g =
    elim (cases_lt f.place g.place) [
      | inl before ↦ absurd
          (f.without
          (All_at P (take g.place xs) f.place x g.before (slice_get-take_at xs g.place f.place x before f.at)))
      | inr after ↦
          elim (cases_lt g.place f.place) [
            | inl later ↦ absurd
                (g.without
                (All_at P (take f.place xs) g.place y f.before (slice_get-take_at xs f.place g.place y later g.at)))
            | inr upto ↦
                let same : f.place ≡ g.place = omega arith in
                same_Some x y (sym f.at ∙ ap (slice_get xs) same ∙ g.at)
          ]
    ]

-- a transaction that runs as logged doesn't differ
none-from : (sites : List SiteLog) (tx : ℕ) (store : Store) (s : ℕ) (x : Name) → RunsOn sites tx store
    → DiffersFrom store (reads_of sites tx) (writes_of sites tx) s x → ⊥
none-from sites tx store s x runs (inl read) =
    none-without (Has store) (reads_of sites tx) (record { site = s; item = x; value = read.0 })
    (has-reads sites tx store runs) read.1
none-from sites tx store s x runs (inr write) =
    none-without (Knows store) (writes_of sites tx) (record { site = s; item = x; change = write.1.0 })
    (knows-writes sites tx store runs) write.1.1

one-from : (store : Store) (reads : List SiteValue) (writes : List SiteChange) (s r : ℕ) (x y : Name)
    → DiffersFrom store reads writes s x → DiffersFrom store reads writes r y → (s ≡ r) × (x ≡ y)
one-from store reads writes s r x y (inl f) (inl g) =
    let one = one-without (Has store) reads (record { site = s; item = x; value = f.0 })
    (record { site = r; item = y; value = g.0 }) f.1 g.1 in
    (ap (λ (a : SiteValue). a.site) one, ap (λ (a : SiteValue). a.item) one)
one-from store reads writes s r x y (inl f) (inr g) =
    absurd (none-without (Has store) reads (record { site = s; item = x; value = f.0 }) g.0 f.1)
one-from store reads writes s r x y (inr f) (inl g) =
    absurd (none-without (Has store) reads (record { site = r; item = y; value = g.0 }) f.0 g.1)
one-from store reads writes s r x y (inr f) (inr g) =
    let one = one-without (Knows store) writes (record { site = s; item = x; change = f.1.0 })
    (record { site = r; item = y; change = g.1.0 }) f.1.1 g.1.1 in
    (ap (λ (a : SiteChange). a.site) one, ap (λ (a : SiteChange). a.item) one)

none-in : (sites : List SiteLog) (txs : List ℕ) (store : Store) (tx s : ℕ) (x : Name) → AllRunOn sites txs store
    → DiffersIn sites txs store tx s x → ⊥
none-in sites txs store tx s x all d =
    none-from sites tx (store_after_all sites (take d.0 txs) store) s x (AllRunOn-at sites txs d.0 tx store all d.1) d.3

-- an earlier difference rules a later one out
earlier : (sites : List SiteLog) (txs : List ℕ) (store : Store) (t s : ℕ) (x : Name)
    (d : DiffersIn sites txs store t s x) (m : ℕ) → AllRunOn sites (take m txs) store → d.0 < m → ⊥
earlier sites txs store t s x d m all lt =
    let runs = AllRunOn-at sites (take m txs) d.0 t store all (slice_get-take_at txs m d.0 t lt d.1) in
    none-from sites t (store_after_all sites (take d.0 txs) store) s x
    (subst (λ (us : List ℕ). RunsOn sites t (store_after_all sites us store)) (take-take d.0 m txs (omega arith))
    runs) d.3

-- two differences are at one place of the run
one-in : (sites : List SiteLog) (txs : List ℕ) (store : Store) (t s : ℕ) (x : Name) (u r : ℕ) (y : Name)
    → DiffersIn sites txs store t s x → DiffersIn sites txs store u r y → (t ≡ u) × (s ≡ r) × (x ≡ y)
one-in sites txs store t s x u r y d e =
    elim (cases_lt d.0 e.0) [
      | inl before ↦ absurd (earlier sites txs store t s x d e.0 e.2 before)
      | inr after ↦
          elim (cases_lt e.0 d.0) [
            | inl later ↦ absurd (earlier sites txs store u r y e d.0 d.2 later)
            | inr upto ↦
                let place : e.0 ≡ d.0 = omega arith in
                let same : u ≡ t = same_Some u t (sym e.1 ∙ ap (slice_get txs) place ∙ d.1) in
                let there = λ (n v : ℕ). DiffersFrom (store_after_all sites (take n txs) store) (reads_of sites v)
                (writes_of sites v) r y in
                let here = subst (λ (n : ℕ). there n t) place (subst (λ (v : ℕ). there e.0 v) same e.3) in
                let one = one-from (store_after_all sites (take d.0 txs) store) (reads_of sites t) (writes_of sites t)
                s r x y d.3 here in
                (sym same, one.0, one.1)
          ]
    ]

-- a run that agrees has no difference
pub agrees-differs : (b : Parts) (tx : Option ℕ) (s : ℕ) (x : Name) → SerialAgrees b → IsFirstDifference b tx s x → ⊥
agrees-differs b (Some tx) s x agrees d =
    none-in b.sites (by_rank b.certificate.decisions) (initial_store b.sites) tx s x
    (as_logged b.sites (by_rank b.certificate.decisions) (initial_store b.sites) agrees) d
agrees-differs b None s x agrees d =
    none-without (Has (store_after_all b.sites (by_rank b.certificate.decisions) (initial_store b.sites)))
    (finals_of b.sites) (record { site = s; item = x; value = d.0 })
    (has-finals b.sites (by_rank b.certificate.decisions) (initial_store b.sites) agrees) d.2

-- a run has one first difference
pub one-difference : (b : Parts) (t : Option ℕ) (s : ℕ) (x : Name) (u : Option ℕ) (r : ℕ) (y : Name)
    → IsFirstDifference b t s x → IsFirstDifference b u r y → (t ≡ u) × (s ≡ r) × (x ≡ y)
one-difference b (Some t) s x (Some u) r y d e =
    let one = one-in b.sites (by_rank b.certificate.decisions) (initial_store b.sites) t s x u r y d e in
    (ap Some one.0, one.1, one.2)
one-difference b (Some t) s x None r y d e =
    absurd (none-in b.sites (by_rank b.certificate.decisions) (initial_store b.sites) t s x e.1 d)
one-difference b None s x (Some u) r y d e =
    absurd (none-in b.sites (by_rank b.certificate.decisions) (initial_store b.sites) u r y d.1 e)
one-difference b None s x None r y d e =
    let one = one-without (Has (store_after_all b.sites (by_rank b.certificate.decisions) (initial_store b.sites)))
    (finals_of b.sites)
    (record { site = s; item = x; value = d.0 }) (record { site = r; item = y; value = e.0 }) d.2 e.2 in
    (refl, ap (λ (a : SiteValue). a.site) one, ap (λ (a : SiteValue). a.item) one)

abbrev Told : Parts → Result SerialReport SerialFail → Type 0
Told b r = (tx : Option ℕ) (s : ℕ) (x : Name) → r ≡ Err (Differs tx s x) → IsFirstDifference b tx s x

-- what is so is said, unless memory runs out
pub says-agrees : (b : Parts) (r : Result SerialReport SerialFail) → IfOk r (λ report. report ≡ report_of b)
    → Told b r → SerialAgrees b → (r ≡ Ok (report_of b)) ⊎ (r ≡ Err Memory)
says-agrees b (Ok report) is told agrees = inl (ap Ok is)
says-agrees b (Err (Differs tx s x)) is told agrees = absurd (agrees-differs b tx s x agrees (told tx s x refl))
says-agrees b (Err Memory) is told agrees = inr refl

pub says-differs : (b : Parts) (r : Result SerialReport SerialFail) → OnOk r (SerialAgrees b) → Told b r
    → (tx : Option ℕ) (s : ℕ) (x : Name) → IsFirstDifference b tx s x → (r ≡ Err (Differs tx s x)) ⊎ (r ≡ Err Memory)
says-differs b (Ok report) agrees told tx s x d = absurd (agrees-differs b tx s x agrees d)
says-differs b (Err (Differs t r y)) agrees told tx s x d =
    let one = one-difference b t r y tx s x (told t r y refl) d in
    inl (λ i. Err (Differs (one.0 i) (one.1 i) (one.2 i)))
says-differs b (Err Memory) agrees told tx s x d = inr refl
