-- The installs of a history.
use Rattle.std.proofs.Common.{◌≡◌, ◌≢◌, ◌<◌, ◌≤◌, ◌+◌, ℕ, suc, true, false, eqb, List, [], ◌∷◌, ◌++◌, length, get_or, refl, sym, ◌∙◌, ap, subst, arith, inl, inr, All, AllPairs, Contains, Some, None}
use Rattle.std.specs.Prelude.{filter}
use Rattle.std.specs.List.{list_any, filter_map}
use Rattle.std.specs.Str.{bytes_eq}
use Rattle.std.proofs.lemmas.Slice.Eq.{bytes_eq-Decides}
use Rattle.std.proofs.lemmas.List.{length-append}
use Rattle.std.proofs.lemmas.List.Sums.{length-filter}
use Rattle.std.proofs.lemmas.Bool.{cases_Bool, ne_eqb, eqb-true, true≢false}
use Rattle.std.proofs.lemmas.Map.Keys.{IsDistinct-from_apart}
use Rattle.std.proofs.lemmas.Map.Steps.{length-le_from_distinct_below}
use Rattle.std.proofs.lemmas.List.Elements.{Contains-append_cases, Contains-append_left, Contains-append_right, filter_map-append, filter-append}
use Rattle.sgt_names.specs.Name.{Name}
use Rattle.sgt_certifier.specs.Certifier.{State, Arc, Install, committed, Commits, opening, serial, with_install}
use Rattle.sgt_certifier.specs.History.{IsNoted, install_in, installs_in, changes_item, counted}
use Rattle.sgt_certifier.specs.declared.call.Call.{Call}
use Rattle.sgt_certifier.specs.declared.call.Call.TheVariants as call
use Rattle.sgt_certifier.specs.Sound.{IsRuled, IsInstalled, AreTwice}
use Rattle.sgt_certifier.proofs.Members.{cons_here, placed_old}
use Rattle.sgt_certifier.proofs.Ruling.{AllPairs-push}
use Rattle.sgt_names.proofs.Elements.{contains-cases, contains-later, contains-none}

-- ---- each step keeps them

abbrev NotTwice : Install → Install → Type 0
NotTwice a b = AreTwice a b → ⊥

pub opening-installed : IsInstalled opening
opening-installed = record {
  committed = λ install c. absurd (contains-none install c);
  once =
      λ i j d lt within. absurd (omega arith);
}

-- no install is new, and who was committed still is
pub same-installed : (s t : State) → t.installs ≡ s.installs
    → ((tx : ℕ) → Contains (serial s) tx → Contains (serial t) tx) → IsInstalled s → IsInstalled t
same-installed s t same grows h = record {
  committed = λ install c. grows install.tx (h.committed install (subst (λ xs. Contains xs install) same c));
  once = subst (AllPairs NotTwice) (sym same) h.once;
}

pub committed-installed : (old : State) (i : ℕ) (arcs : List Arc) (new : State) → Commits old i arcs new
    → IsInstalled old → IsInstalled new
committed-installed old i arcs new m h = subst IsInstalled (sym m.after) (record {
  committed = λ install c. elim (Contains-append_cases old.past old.order install.tx (h.committed install c)) [
    | inl early ↦ Contains-append_left old.past m.places install.tx early
    | inr late ↦ Contains-append_right old.past m.places install.tx
        (subst (λ p. Contains p install.tx) (sym m.placed.2) (placed_old m.placed.0 old.order i install.tx late))
  ];
  once = h.once;
})

pub noted-installed : (s : State) (i site : ℕ) (items : List Name) → Contains s.order i → (IsNoted s i site → ⊥)
    → IsInstalled s → IsInstalled (with_install s i site items)
noted-installed s i site items member new h =
    let one : Install = record { tx = i; site = site; items = items } in
    record {
      committed = λ install c. elim (Contains-append_cases s.installs (one ∷ []) install c) [
        | inl was ↦ h.committed install was
        | inr last ↦ elim (contains-cases one [] install last) [
          | inl e ↦ Contains-append_right s.past s.order install.tx
              (subst (λ (x : Install). Contains s.order x.tx) e member)
          | inr none ↦ absurd (contains-none install none)
        ]
      ];
      once = AllPairs-push NotTwice s.installs one h.once (λ x c twice. new (c.0, x, c.1, c.2, twice));
    }

-- who is active while no step is open has no install
pub none_noted : (s : State) (i site : ℕ) → IsRuled s → IsInstalled s → s.step ≡ None → Contains s.active i
    → IsNoted s i site → ⊥
none_noted s i site ruled h idle active noted =
    let member = subst (Contains (serial s)) noted.4.0 (h.committed noted.1 (noted.0, noted.2, noted.3)) in
    let r = ruled.from_serial i member in
    let open_i = ruled.ended r.0 (committed i) r.1 active in
    absurd (let f : None ≡ Some i = sym idle ∙ open_i in cc)

-- ---- how many numbers there are

below_any : (n q : ℕ) (xs : List ℕ) → All (λ k. k < n) xs → list_any (eqb q) xs ≡ true → q < n
below_any n q [] all hit = absurd (true≢false (sym hit))
below_any n q (x ∷ xs) all hit =
    elim (cases_Bool (eqb q x)) [
      | inl here ↦
          let same = eqb-true q x here in
          let first = all 0 x (omega arith) in omega (arith, same, first)
      | inr other ↦
          let later : list_any (eqb q) xs ≡ true = rw other at hit in
          below_any n q xs (λ k d lt. all (suc k) d (omega (arith, lt))) later
    ]

-- numbers below n, no two of them the same, are at most n
pub distinct_few : (n : ℕ) (xs : List ℕ) → AllPairs (λ a b. a ≢ b) xs → All (λ k. k < n) xs → length xs ≤ n
distinct_few n xs once below =
    length-le_from_distinct_below xs n
    (IsDistinct-from_apart eqb xs (λ i j d lt within. ne_eqb (get_or xs i d) (get_or xs j d)
    (once i j d lt within)))
    (λ q hit. below_any n q xs below hit)

-- ---- counts

counted_push : (history : List Call) (c : Call) (site : ℕ) (item : Name)
    → counted (history ++ c ∷ []) site item ≡ counted history site item + length
    (filter (changes_item site item) (filter_map install_in (c ∷ [])))
counted_push history c site item =
    let p = changes_item site item in
    let longer = sym (length-filter p (installs_in (history ++ c ∷ []))) in
    let shorter = length-filter p (installs_in history) in
    let split = ap (λ xs. length (filter p xs)) (filter_map-append install_in history (c ∷ []))
    ∙ (ap length (filter-append p (installs_in history) (filter_map install_in (c ∷ [])))
    ∙ length-append (filter p (installs_in history)) (filter p (filter_map install_in (c ∷ [])))) in
    longer ∙ (split ∙ ap (λ n. n + length (filter p (filter_map install_in (c ∷ [])))) shorter)

pub counted_hit : (history : List Call) (tx site at : ℕ) (items : List Name) (item : Name)
    → changes_item at item (record { tx = tx; site = site; items = items }) ≡ true
    → counted (history ++ call.Installed tx site items ∷ []) at item ≡ suc (counted history at item)
counted_hit history tx site at items item hit =
    let one : length (filter (changes_item at item) ((record { tx = tx; site = site; items = items }) ∷ [])) ≡ 1 =
    rw hit refl in
    omega (arith, counted_push history (call.Installed tx site items) at item, one)

pub counted_miss : (history : List Call) (tx site at : ℕ) (items : List Name) (item : Name)
    → changes_item at item (record { tx = tx; site = site; items = items }) ≡ false
    → counted (history ++ call.Installed tx site items ∷ []) at item ≡ counted history at item
counted_miss history tx site at items item miss =
    let none : length (filter (changes_item at item) ((record { tx = tx; site = site; items = items }) ∷ [])) ≡ 0 =
    rw miss refl in
    omega (arith, counted_push history (call.Installed tx site items) at item, none)

pub counted_other : (history : List Call) (c : Call) (site : ℕ) (item : Name) → install_in c ≡ None
    → counted (history ++ c ∷ []) site item ≡ counted history site item
counted_other history c site item none =
    let empty : filter_map install_in (c ∷ []) ≡ [] = rw none refl in
    let zero_more : length (filter (changes_item site item) (filter_map install_in (c ∷ []))) ≡ 0 =
    ap (λ xs. length (filter (changes_item site item) xs)) empty in
    omega (arith, counted_push history c site item, zero_more)

pub any_member : (item : Name) (items : List Name) → Contains items item → list_any (bytes_eq item) items ≡ true
any_member item [] c = absurd (contains-none item c)
any_member item (x ∷ xs) c =
    elim (cases_Bool (bytes_eq item x)) [
      | inl hit ↦ rw hit refl
      | inr miss ↦ elim (contains-cases x xs item c) [
        | inl e ↦ absurd (true≢false (sym ((bytes_eq-Decides item x).1 (sym e)) ∙ miss))
        | inr later ↦ rw miss (any_member item xs later)
      ]
    ]

pub no_member : (item : Name) (items : List Name) → (Contains items item → ⊥) → list_any (bytes_eq item) items ≡ false
no_member item [] none = refl
no_member item (x ∷ xs) none =
    elim (cases_Bool (bytes_eq item x)) [
      | inl hit ↦ absurd (none (subst (Contains (x ∷ xs)) (sym ((bytes_eq-Decides item x).0 hit)) (cons_here x xs)))
      | inr miss ↦ rw miss (no_member item xs (λ c. none (contains-later x xs item c)))
    ]
