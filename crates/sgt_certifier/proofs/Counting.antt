-- The table of counts: what a change of it does to each count.
use Rattle.std.proofs.Common.{◌≡◌, ◌≢◌, ℕ, suc, true, false, List, [], ◌∷◌, ◌++◌, Option, Some, None, IsSome, Result, Ok, Err, OnErr, refl, sym, ◌∙◌, ap, subst, arith, cond, inl, inr, ◌⊎◌, All, AllPairs, take, Contains, OnOk, ap₂, set, zero}
use Rattle.std.specs.Prelude.{slice_get, map, ◌==◌, ◌≤◌, ◌<◌, length}
use Rattle.std.proofs.lemmas.Option.{same_Some, slice_get_within}
use Rattle.std.specs.List.{list_any, remove, AllByRecursion}
use Rattle.std.specs.Str.{bytes_eq}
use Rattle.std.proofs.lemmas.Slice.Eq.{bytes_eq-Decides}
use Rattle.std.specs.Ordering.{nat_cmp, ordering_reverse}
use Rattle.std.specs.Cmp.Lexicographic.{slice_cmp}
use Rattle.std.specs.declared.cmp.Ordering.{Ordering}
use Rattle.std.specs.declared.cmp.Ordering.TheVariants.{Less, Equal, Greater}
use Rattle.std.proofs.lemmas.Bool.{cases_Bool, eqb-true, eqb-false, true≢false}
use Rattle.std.proofs.lemmas.List.Elements.{Contains-append_cases, Contains-append_left, Contains-append_right}
use Rattle.sgt_names.proofs.Lists.{All-weaken, option_cases}
use Rattle.sgt_names.proofs.Places.{All_at, All-from_at, AllPairs_at, AllPairs-from_recursion, PairsByRecursion, recursion_from_AllPairs, Contains_at, Contains-from_at, slice_get-take}
use Rattle.sgt_names.proofs.Rising.{writing-by_item}
use Rattle.std.proofs.lemmas.List.Sums.{sum_by-cons}
use Rattle.sgt_certifier.specs.Certifier.{Install}
use Rattle.sgt_certifier.proofs.Members.{cons_here}
use Rattle.sgt_certifier.proofs.Installs.{any_member, counted_hit, counted_miss, counted_other}
use Rattle.sgt_certifier.specs.History.{changes_item, counted, install_in, installs_in}
use Rattle.sgt_certifier.specs.Kept.{changed_at, IsExpected}
use Rattle.sgt_certifier.specs.declared.call.Call.{Call}
use Rattle.sgt_certifier.specs.declared.call.Call.TheVariants as call
use Rattle.sgt_names.specs.declared.draft.Touch.{Touch}
use Rattle.sgt_names.specs.declared.entry.Change.{Change}
use Rattle.sgt_names.specs.Draft.{AreRising, at_site, writing_in}
use Rattle.sgt_certifier.specs.declared.install.Prepared.{Prepared}
use Rattle.sgt_names.specs.Name.{Name}
use Rattle.sgt_certifier.specs.Row.{count_in, found_in, or_zero}
use Rattle.sgt_certifier.specs.Counted.{AreCounted, CountsEach, HasPlace, HavePlaces, Widens, count_at, or_nothing, row_at, stands_at}
use Rattle.sgt_certifier.specs.declared.counts.Counts.{Counts}
use Rattle.sgt_certifier.specs.declared.row.ItemCount.{ItemCount}
use Rattle.sgt_certifier.proofs.CountRows.{before-apart}
use Rattle.sgt_names.proofs.Elements.{contains-cases, contains-later, contains-none, get_set_elsewhere, get-set_here}

even : (o : Ordering) → o ≡ ordering_reverse o → o ≡ Equal
even Less e = absurd cc
even Equal e = refl
even Greater e = absurd cc

-- ---- the rows of the sites

-- the counts of a site, after those of one were changed
module _ (old new : Counts) (s : ℕ) (row : List ItemCount) (is : new.rows.items ≡ set old.rows.items s row) where
  pub row-here : s < length old.rows.items → row_at new s ≡ row
  row-here lt = ap or_nothing (ap (λ rows. slice_get rows s) is ∙ get-set_here old.rows.items s row lt)

  pub row-other : (t : ℕ) → t ≢ s → row_at new t ≡ row_at old t
  row-other t apart = ap or_nothing (ap (λ rows. slice_get rows t) is ∙ get_set_elsewhere old.rows.items s t row apart)

-- a row with nothing in it is as none
pub row-pushed : (rows : List (List ItemCount)) (s : ℕ)
    → or_nothing (slice_get (rows ++ [] ∷ []) s) ≡ or_nothing (slice_get rows s)
row-pushed [] zero = refl
row-pushed [] (suc s) = refl
row-pushed (r ∷ rows) zero = refl
row-pushed (r ∷ rows) (suc s) = row-pushed rows s

-- an item that has its place is in a row
pub has-row : (counts : Counts) (s : ℕ) (x : Name) → HasPlace counts s x → s < length counts.rows.items
has-row counts s x has = elim (option_cases (slice_get counts.rows.items s)) [
  | inl none ↦ absurd
      (true≢false (sym (subst (λ (o : Option (List ItemCount)). IsSome (found_in (or_nothing o) x)) none has)))
  | inr some ↦ slice_get_within counts.rows.items s some.0 some.1
]

-- the row that stands at the place of a site
pub row-is : (counts : Counts) (s n : ℕ) (row : List ItemCount) → n ≡ s → slice_get counts.rows.items n ≡ Some row
    → row_at counts s ≡ row
row-is counts s n row place at = ap (row_at counts) (sym place) ∙ ap or_nothing at

-- where no place could be made, there was none
pub placed-err : {U E : Type 0} (r : Result U E) (before old : Counts) (s n : ℕ) (x : Name) (row : List ItemCount)
    → n ≡ s
    → slice_get old.rows.items n ≡ Some row → Widens before old → OnErr r (IsSome (found_in row x) → ⊥)
    → OnErr r (HasPlace before s x → ⊥)
placed-err (Ok u) before old s n x row place at w none = tt
placed-err (Err e) before old s n x row place at w none =
    λ has. none (subst (λ r. IsSome (found_in r x)) (row-is old s n row place at) (w.kept s x has))

module _ (old new : Counts) (s n : ℕ) (x : Name) (row made : List ItemCount) (place : n ≡ s)
    (at : slice_get old.rows.items n ≡ Some row) (is : new.rows.items ≡ set old.rows.items n made) where
  was : row_at old s ≡ row
  was = row-is old s n row place at

  made_there : new.rows.items ≡ set old.rows.items s made
  made_there = is ∙ ap (λ k. set old.rows.items k made) place

  now : row_at new s ≡ made
  now = row-here old new s made made_there (let lt = slice_get_within old.rows.items n row at in
      omega (arith, lt, place))

  -- a place is made
  pub placed-widens : ((y : Name) → count_in made y ≡ count_in row y)
      → ((y : Name) → IsSome (found_in row y) → IsSome (found_in made y))
      → Widens old new
  placed-widens same kept = record {
    same = λ t y. elim (cases_Bool (t == s)) [
      | inl here ↦
          let e : t ≡ s = eqb-true t s here in
          ap (λ u. count_at new u y) e ∙ ap (λ r. count_in r y) now ∙ same y ∙ sym (ap (λ r. count_in r y) was)
          ∙ sym (ap (λ u. count_at old u y) e)
      | inr other ↦ ap (λ r. count_in r y) (row-other old new s made made_there t (eqb-false t s other))
    ];
    kept = λ t y has. elim (cases_Bool (t == s)) [
      | inl here ↦
          let e : t ≡ s = eqb-true t s here in
          let has_row : IsSome (found_in row y) =
          subst (λ r. IsSome (found_in r y)) was (subst (λ u. HasPlace old u y) e has) in
          subst (λ u. HasPlace new u y) (sym e) (subst (λ r. IsSome (found_in r y)) (sym now) (kept y has_row))
      | inr other ↦ subst (λ r. IsSome (found_in r y))
          (sym (row-other old new s made made_there t (eqb-false t s other))) has
    ];
  }

-- what stands in the rows, after that at the place of a site was changed
module _ (rows : List (List ItemCount)) (s n : ℕ) (x : Name) (row made : List ItemCount) (place : n ≡ s)
    (at : slice_get rows n ≡ Some row) where
  was_in : or_nothing (slice_get rows s) ≡ row
  was_in = ap or_nothing (ap (slice_get rows) (sym place) ∙ at)

  now_in : or_nothing (slice_get (set rows n made) s) ≡ made
  now_in = ap or_nothing (ap (slice_get (set rows n made)) (sym place)
      ∙ get-set_here rows n made (slice_get_within rows n row at))

  pub placed-ok : {U E : Type 0} (r : Result U E) → OnOk r (IsSome (found_in made x))
      → OnOk r (IsSome (found_in (or_nothing (slice_get (set rows n made) s)) x))
  placed-ok (Ok u) has = subst (λ cs. IsSome (found_in cs x)) (sym now_in) has
  placed-ok (Err e) has = tt

  pub added-here : found_in made x ≡ Some (suc (count_in row x))
      → found_in (or_nothing (slice_get (set rows n made) s)) x ≡ Some
      (suc (count_in (or_nothing (slice_get rows s)) x))
  added-here more = ap (λ cs. found_in cs x) now_in ∙ more ∙ ap (λ cs. Some (suc (count_in cs x))) (sym was_in)

  pub added-others : ((y : Name) → y ≢ x → found_in made y ≡ found_in row y) → (t : ℕ) (y : Name)
      → ((t ≡ s) × (y ≡ x) → ⊥)
      → found_in (or_nothing (slice_get (set rows n made) t)) y ≡ found_in (or_nothing (slice_get rows t)) y
  added-others others t y apart = elim (cases_Bool (t == s)) [
    | inl here ↦
        let e : t ≡ s = eqb-true t s here in
        ap (λ u. found_in (or_nothing (slice_get (set rows n made) u)) y) e ∙ ap (λ cs. found_in cs y) now_in
        ∙ others y (λ same. apart (e, same)) ∙ sym (ap (λ cs. found_in cs y) was_in)
        ∙ sym (ap (λ u. found_in (or_nothing (slice_get rows u)) y) e)
    | inr other ↦ ap (λ o. found_in (or_nothing o) y)
        (get_set_elsewhere rows n t made (λ e. eqb-false t s other (e ∙ place)))
  ]

-- the counts are the same
pub same-widens : (old new : Counts) → ((s : ℕ) → row_at new s ≡ row_at old s) → Widens old new
same-widens old new same = record {
  same = λ s y. ap (λ r. count_in r y) (same s);
  kept = λ s y has. subst (λ r. IsSome (found_in r y)) (sym (same s)) has;
}

-- two places are the same or not
same_place : (s t : ℕ) (x y : Name) → ((s ≡ t) × (x ≡ y)) ⊎ ((s ≡ t) × (x ≡ y) → ⊥)
same_place s t x y = elim (cases_Bool (s == t)) [
  | inl site ↦ elim (cases_Bool (bytes_eq x y)) [
    | inl item ↦ inl (eqb-true s t site, (bytes_eq-Decides x y).0 item)
    | inr item ↦ inr (λ e. true≢false (sym ((bytes_eq-Decides x y).1 e.1) ∙ item))
  ]
  | inr site ↦ inr (λ e. eqb-false s t site e.0)
]

pub on-err : {A E : Type 0} (r : Result A E) (X : Type 0) → X → OnErr r X
on-err (Ok a) X x = tt
on-err (Err e) X x = x

-- ---- over lists

-- no element stands in front of itself
pub fresh-at : (xs : List Name) (n : ℕ) (x : Name) → AllPairs (λ a b. a ≢ b) xs → slice_get xs n ≡ Some x
    → Contains (take n xs) x → ⊥
fresh-at xs n x once at c =
    let early = Contains_at (take n xs) x c in
    let where_at = slice_get-take xs n early.0 x early.1 in
    AllPairs_at (λ a b. a ≢ b) xs early.0 n x x once where_at.0 where_at.1 at refl

pub widens-more : (old mid new : Counts) → Widens old mid → Widens mid new → Widens old new
widens-more old mid new a b = record {
  same = λ s x. b.same s x ∙ a.same s x;
  kept =
      λ s x has. b.kept s x (a.kept s x has);
}

pub places-kept : (old new : Counts) (lists : List Prepared) → Widens old new → All (HavePlaces old) lists
    → All (HavePlaces new) lists
places-kept old new lists w = All-weaken (HavePlaces old) (HavePlaces new) lists
    (λ p all. All-weaken (HasPlace old p.site) (HasPlace new p.site) p.items (λ x has. w.kept p.site x has) all)

pub counts-next : (site : ℕ) (xs : List Name) (x : Name) (old mid new : Counts) → CountsEach site xs old mid
    → (Contains xs x → ⊥)
    → stands_at new site x ≡ Some (suc (count_at mid site x))
    → ((s : ℕ) (y : Name) → ((s ≡ site) × (y ≡ x) → ⊥) → stands_at new s y ≡ stands_at mid s y)
    → CountsEach site (xs ++ x ∷ []) old new
counts-next site xs x old mid new each fresh here others = record {
  hit = λ y c. elim (Contains-append_cases xs (x ∷ []) y c) [
    | inl early ↦
        let differs : (site ≡ site) × (y ≡ x) → ⊥ = λ e. fresh (subst (Contains xs) e.1 early) in
        ap or_zero (others site y differs) ∙ each.hit y early
    | inr last ↦ elim (contains-cases x [] y last) [
      | inl e ↦
          let now : count_at new site x ≡ suc (count_at old site x) = ap or_zero here ∙ ap suc (each.miss x fresh) in
          subst (λ z. count_at new site z ≡ suc (count_at old site z)) e now
      | inr none ↦ absurd (contains-none y none)
    ]
  ];
  miss = λ y none.
      let differs : (site ≡ site) × (y ≡ x) → ⊥ =
      λ e. none (Contains-append_right xs (x ∷ []) y (subst (Contains (x ∷ [])) (sym e.1) (cons_here x []))) in
      ap or_zero (others site y differs) ∙ each.miss y (λ c. none (Contains-append_left xs (x ∷ []) y c));
  other = λ s y apart. ap or_zero (others s y (λ e. apart e.0)) ∙ each.other s y apart;
  kept = λ s y has. elim (same_place s site y x) [
    | inl e ↦ subst IsSome (sym (ap₂ (stands_at new) e.0 e.1 ∙ here)) refl
    | inr differs ↦ subst IsSome (sym (others s y differs)) (each.kept s y has)
  ];
}

-- ---- the counts of a history

pub counted-none : (counts : Counts) → ((s : ℕ) (x : Name) → stands_at counts s x ≡ None) → AreCounted counts [] []
counted-none counts none = record {
  exact = λ s x. ap or_zero (none s x);
  placed =
      λ k d within. absurd (omega (arith, within));
}

-- a call that notes no install
pub counted-on : (counts : Counts) (history longer : List Call) (expected : List Prepared) (c : Call)
    → longer ≡ history ++ c ∷ []
    → install_in c ≡ None → AreCounted counts history expected → AreCounted counts longer expected
counted-on counts history longer expected c is none h = record {
  exact = λ s x. h.exact s x ∙ sym (ap (λ cs. counted cs s x) is ∙ counted_other history c s x none);
  placed = h.placed;
}

-- places are made
pub counted-wider : (old new : Counts) (history : List Call) (expected : List Prepared) → Widens old new
    → AreCounted old history expected
    → AreCounted new history expected
counted-wider old new history expected w h = record {
  exact = λ s x. w.same s x ∙ h.exact s x;
  placed = places-kept old new expected w h.placed;
}

pub counted-lists : (old new : Counts) (history : List Call) (expected lists : List Prepared) → Widens old new
    → All (HavePlaces new) lists
    → AreCounted old history expected → AreCounted new history lists
counted-lists old new history expected lists w all h = record { exact = λ s x. w.same s x ∙ h.exact s x; placed = all }

fewer-placed : (counts : Counts) (expected rest : List Prepared)
    → ((p : Prepared) → Contains rest p → Contains expected p)
    → All (HavePlaces counts) expected → All (HavePlaces counts) rest
fewer-placed counts expected rest fewer all = All-from_at (HavePlaces counts) rest (λ n p at.
    let was = Contains_at expected p (fewer p (Contains-from_at rest n p at)) in
    All_at (HavePlaces counts) expected was.0 p all was.1)

-- some lists are taken away
pub counted-fewer : (counts : Counts) (history : List Call) (expected rest : List Prepared)
    → ((p : Prepared) → Contains rest p → Contains expected p) → AreCounted counts history expected
    → AreCounted counts history rest
counted-fewer counts history expected rest fewer h = record {
  exact = h.exact;
  placed = fewer-placed counts expected rest fewer h.placed;
}

any_true : (x : Name) (items : List Name) → list_any (bytes_eq x) items ≡ true → Contains items x
any_true x [] e = absurd (true≢false (sym e))
any_true x (y ∷ ys) e = elim (cases_Bool (bytes_eq x y)) [
  | inl hit ↦ subst (Contains (y ∷ ys)) (sym ((bytes_eq-Decides x y).0 hit)) (cons_here y ys)
  | inr miss ↦ contains-later y ys x (any_true x ys (rw miss at e))
]

-- an install is noted
pub counted-installed : (old new : Counts) (history longer : List Call) (expected : List Prepared) (tx site : ℕ)
    (items : List Name)
    → longer ≡ history ++ call.Installed tx site items ∷ [] → CountsEach site items old new
    → AreCounted old history expected
    → AreCounted new longer expected
counted-installed old new history longer expected tx site items is each h = record {
  exact = λ s x.
      let noted = ap (λ cs. counted cs s x) is in
      elim (cases_Bool (site == s)) [
        | inl here ↦
            let same : site ≡ s = eqb-true site s here in
            elim (cases_Bool (list_any (bytes_eq x) items)) [
              | inl hit ↦
                  let changes : changes_item s x (record { tx = tx; site = site; items = items }) ≡ true =
                  rw (here, hit) refl in
                  let now : count_at new s x ≡ suc (count_at old s x) =
                  subst (λ t. count_at new t x ≡ suc (count_at old t x)) same (each.hit x (any_true x items hit)) in
                  now ∙ ap suc (h.exact s x) ∙ sym (noted ∙ counted_hit history tx site s items x changes)
              | inr miss ↦
                  let changes : changes_item s x (record { tx = tx; site = site; items = items }) ≡ false =
                  rw (here, miss) refl in
                  let now : count_at new s x ≡ count_at old s x = subst (λ t. count_at new t x ≡ count_at old t x) same
                  (each.miss x (λ c. true≢false (sym (any_member x items c) ∙ miss))) in
                  now ∙ h.exact s x ∙ sym (noted ∙ counted_miss history tx site s items x changes)
            ]
        | inr other ↦
            let changes : changes_item s x (record { tx = tx; site = site; items = items }) ≡ false = rw other refl in
            each.other s x (λ e. eqb-false site s other (sym e)) ∙ h.exact s x
            ∙ sym (noted ∙ counted_miss history tx site s items x changes)
      ];
  placed = All-weaken (HavePlaces old) (HavePlaces new) expected
      (λ p all. All-weaken (HasPlace old p.site) (HasPlace new p.site) p.items (λ x has. each.kept p.site x has) all)
      h.placed;
}

-- no list was made for items of which one has no place
pub not-placed : (counts : Counts) (expected : List Prepared) (touched : List Touch) (site : ℕ)
    → All (HavePlaces counts) expected
    → (All (HasPlace counts site) (changed_at touched site) → ⊥) → IsExpected expected touched site → ⊥
not-placed counts expected touched site placed none (inl empty) =
    none (subst (All (HasPlace counts site)) (sym empty) (λ k d within. absurd (omega (arith, within))))
not-placed counts expected touched site placed none (inr c) =
    let at = Contains_at expected (record { site = site; items = changed_at touched site }) c in
    none (All_at (HavePlaces counts) expected at.0 (record { site = site; items = changed_at touched site }) placed
    at.1)

-- what is taken away at a place leaves the others
left-at : {A : Type 0} (xs : List A) (n k : ℕ) (p q : A) → slice_get xs n ≡ Some p → (q ≡ p → ⊥)
    → slice_get xs k ≡ Some q
    → (j : ℕ) × (slice_get (remove xs n) j ≡ Some q)
left-at [] n k p q at apart at_q = absurd cc
left-at (x ∷ xs) zero zero p q at apart at_q = absurd (apart (same_Some q p (sym at_q ∙ at)))
left-at (x ∷ xs) zero (suc k) p q at apart at_q = (k, at_q)
left-at (x ∷ xs) (suc n) zero p q at apart at_q = (0, at_q)
left-at (x ∷ xs) (suc n) (suc k) p q at apart at_q = let r = left-at xs n k p q at apart at_q in (suc r.0, r.1)

pub expected-left : (expected new : List Prepared) (n site : ℕ) (items : List Name) (touched : List Touch) (s : ℕ)
    → slice_get expected n ≡ Some (record { site = site; items = items }) → new ≡ remove expected n → s ≢ site
    → IsExpected expected touched s → IsExpected new touched s
expected-left expected new n site items touched s at is apart (inl empty) = inl empty
expected-left expected new n site items touched s at is apart (inr c) =
    let q : Prepared = record { site = s; items = changed_at touched s } in
    let was_at = Contains_at expected q c in
    let j = left-at expected n was_at.0 (record { site = site; items = items }) q at
    (λ e. apart (ap (λ (p : Prepared). p.site) e)) was_at.1 in
    inr (subst (λ ps. Contains ps q) (sym is) (Contains-from_at (remove expected n) j.0 q j.1))

-- ---- the items of a draft

changed-written : (n : ℕ) (ts : List Touch)
    → changed_at ts n ≡ map (λ (w : Name × Change). w.0) (writing_in (at_site n ts))
changed-written n [] = refl
changed-written n (t ∷ ts) = elim (cases_Bool (t.site == n)) [
  | inl here ↦ elim (option_cases t.change) [
    | inl none ↦ rw (here, none) (changed-written n ts)
    | inr some ↦ rw (here, some.1) (ap (λ xs. t.item ∷ xs) (changed-written n ts))
  ]
  | inr other ↦ rw other (changed-written n ts)
]

all-apart : (x : Name) (ws : List (Name × Change)) → AllByRecursion (λ w. slice_cmp nat_cmp x w.0 ≡ Less) ws
    → AllByRecursion (λ y. x ≢ y) (map (λ (w : Name × Change). w.0) ws)
all-apart x [] all = tt
all-apart x (w ∷ ws) all = (before-apart x w.0 all.0, all-apart x ws all.1)

pairs-apart : (ws : List (Name × Change)) → PairsByRecursion (λ a b. slice_cmp nat_cmp a.0 b.0 ≡ Less) ws
    → PairsByRecursion (λ a b. a ≢ b) (map (λ (w : Name × Change). w.0) ws)
pairs-apart [] pairs = tt
pairs-apart (w ∷ ws) pairs = (all-apart w.0 ws pairs.0, pairs-apart ws pairs.1)

-- no two of the items that a draft changes at a site are the same
pub changed-once : (n : ℕ) (ts : List Touch) → AreRising ts → AllPairs (λ a b. a ≢ b) (changed_at ts n)
changed-once n ts rising =
    let ws = writing_in (at_site n ts) in
    let rises = recursion_from_AllPairs (λ (a b : Name × Change). slice_cmp nat_cmp a.0 b.0 ≡ Less) ws
    (writing-by_item n ts rising) in
    let apart_all = AllPairs-from_recursion (λ (a b : Name). a ≢ b) (map (λ (w : Name × Change). w.0) ws)
    (pairs-apart ws rises) in
    subst (AllPairs (λ a b. a ≢ b)) (sym (changed-written n ts)) apart_all

-- a count is no more than the calls
pub counted-few : (history : List Call) (site : ℕ) (item : Name) → counted history site item ≤ length history
counted-few [] site item = omega arith
counted-few (call.Installed tx at items ∷ cs) site item =
    let one : Install = record { tx = tx; site = at; items = items } in
    let sum = sum_by-cons (λ (x : Install). cond (changes_item site item x) 1 0) one (installs_in cs) in
    let rest = counted-few cs site item in
    elim (cases_Bool (changes_item site item one)) [
      | inl hit ↦ let more : cond {A = ℕ} (changes_item site item one) 1 0 ≡ 1 = rw hit refl in
          omega (arith, sum, rest, more)
      | inr miss ↦ let more : cond {A = ℕ} (changes_item site item one) 1 0 ≡ 0 = rw miss refl in
          omega (arith, sum, rest, more)
    ]
counted-few (call.Begin tx h ∷ cs) site item = let rest = counted-few cs site item in omega (arith, rest)
counted-few (call.Decide h edges reply ∷ cs) site item = let rest = counted-few cs site item in omega (arith, rest)
counted-few (call.Finish tx ∷ cs) site item = let rest = counted-few cs site item in omega (arith, rest)
counted-few (call.Withdraw h number ∷ cs) site item = let rest = counted-few cs site item in omega (arith, rest)
counted-few (call.Close ranks ∷ cs) site item = let rest = counted-few cs site item in omega (arith, rest)
