-- The reads of transactions that have no end yet.
use Rattle.std.proofs.Common.{◌≡◌, ◌≢◌, ℕ, zero, suc, true, false, List, [], ◌∷◌, ◌++◌, length, take, Some, None, Result, Ok, Err, OnOk, OnErr, refl, sym, ap, ap₂, ◌∙◌, subst, arith, inl, inr, All, Contains}
use Rattle.std.specs.Prelude.{slice_get, ◌↔◌, ◌==◌, Option, Vec}
use Rattle.std.specs.BTreeMap.{BTreeMap, Updates, get, is_at}
use Rattle.std.specs.Map.{lookup}
use Rattle.std.specs.Ordering.{nat_cmp, is_eq}
use Rattle.std.specs.declared.alloc.Global.{Global}
use Rattle.std.specs.declared.cmp.Ordering.{Ordering}
use Rattle.std.specs.declared.cmp.Ordering.TheVariants.{Less, Equal, Greater}
use Rattle.std.proofs.lemmas.Bool.{cases_Bool, eqb-true, eqb-false, eq-eqb, ne_eqb}
use Rattle.std.proofs.lemmas.Map.Lookups.{exact_unsigned}
use Rattle.std.proofs.lemmas.List.Elements.{Contains-append_cases, Contains-append_left, Contains-append_right}
use Rattle.sgt_names.specs.Name.{Name}
use Rattle.sgt_names.specs.Entry.{tx_of, Reads, IsEnd}
use Rattle.sgt_names.specs.declared.entry.Entry.{Entry}
use Rattle.sgt_names.specs.declared.entry.Entry.TheVariants.{Read, Withdraw}
use Rattle.sgt_names.proofs.Lists.{front_at, middle_at, Any_at, Any-from_at, All_in}
use Rattle.sgt_names.proofs.Places.{Contains-from_at, All-from_at}
use Rattle.sgt_site.specs.State.{HasRead, HasEnded, LogsRead, version_at}
use Rattle.sgt_site.specs.private.Pending.{or_nothing, in_slot, place, or_else, MayHold, items_by, AddsRead, AreSame, ArePending}
use Rattle.sgt_site.specs.declared.pending.Pending.{Pending}
use Rattle.sgt_site.specs.declared.pending.Slot.{Slot}
use Rattle.sgt_site.proofs.Appends.{get_cases, HasEnded-append, HasEnded-append_right, HasEnded-cases}
use Rattle.sgt_site.proofs.Entries.{read_is}
use Rattle.sgt_site.proofs.Basics.{is_single}

-- ---- a change at one transaction

pub apart : (t u : ℕ) → u ≢ t → is_eq (nat_cmp t u) ≡ false
apart t u other = elim (cases_Bool (is_eq (nat_cmp t u))) [
  | inl tie ↦ absurd (other (sym (exact_unsigned t u (ties (nat_cmp t u) tie))))
  | inr none ↦ none
]
  where
    ties : (o : Ordering) → is_eq o ≡ true → o ≡ Equal
    ties Less e = absurd cc
    ties Equal e = refl
    ties Greater e = absurd cc

-- the others of a list with a change at one transaction
pub updated-others : (old new : BTreeMap ℕ (Vec Name Global)) (tx : ℕ) (w : Option (Vec Name Global))
    → Updates nat_cmp old new tx w
    → (t : ℕ) → t ≢ tx → or_nothing (get nat_cmp new t) ≡ or_nothing (get nat_cmp old t)
updated-others old new tx w updates t other = ap or_nothing (updates.2 t (apart tx t other))

-- nothing is found where there are no entries
none_in : {X : Type 0} (es : List (ℕ × X)) (compare : ℕ → Ordering) → length es ≡ 0 → lookup (is_at compare) es ≡ None
none_in [] compare none = refl
none_in (e ∷ es) compare none = absurd cc

pub none-get : {X : Type 0} (m : BTreeMap ℕ X) (tx : ℕ) → length m.entries ≡ 0 → get nat_cmp m tx ≡ None
none-get m tx none = none_in m.entries (nat_cmp tx) none

-- ---- slots

pub own-slot : (s : Slot) (tx : ℕ) → s.tx ≡ tx → in_slot (Some s) tx ≡ s.items.items
own-slot s tx same = rw (eq-eqb s.tx tx same) refl

pub other-slot : (s : Slot) (tx : ℕ) → s.tx ≢ tx → in_slot (Some s) tx ≡ []
other-slot s tx other = rw (ne_eqb s.tx tx other) refl

pub free-slot : (s : Slot) (tx : ℕ) → s.items.items ≡ [] → in_slot (Some s) tx ≡ []
free-slot s tx none = elim (cases_Bool (s.tx == tx)) [
  | inl hit ↦ rw hit none
  | inr miss ↦ rw miss refl
]

-- ---- both parts

pub or_else-push : (own others : List Name) (x : Name) → (own ≡ [] → others ≡ [])
    → or_else (own ++ x ∷ []) others ≡ or_else own others ++ x ∷ []
or_else-push [] others x none = rw (none refl) refl
or_else-push (y ∷ ys) others x none = refl

-- a change at one transaction, in both parts
module _ (old new : Pending) (tx : ℕ)
    (slots : (k t : ℕ) → t ≢ tx → in_slot (slice_get new.slots.items k) t ≡ in_slot (slice_get old.slots.items k) t)
    (reads : (t : ℕ) → t ≢ tx → or_nothing (get nat_cmp new.reads t) ≡ or_nothing (get nat_cmp old.reads t)) where
  pub parts-others : (t : ℕ) → t ≢ tx → items_by new t ≡ items_by old t
  parts-others t other = ap₂ or_else (slots (place t) t other) (reads t other)

  pub parts-added : (x : Name) → items_by new tx ≡ items_by old tx ++ x ∷ [] → AddsRead old new tx x
  parts-added x is = record { own = is; others = parts-others }

  pub parts-same : items_by new tx ≡ items_by old tx → AreSame old new
  parts-same same t = elim (cases_Bool (t == tx)) [
    | inl hit ↦ subst (λ u. items_by new u ≡ items_by old u) (sym (eqb-true t tx hit)) same
    | inr miss ↦ parts-others t (eqb-false t tx miss)
  ]

pub ok-then : {T E P Q : Type 0} (r : Result T E) → OnOk r P → (P → Q) → OnOk r Q
ok-then (Ok x) p f = f p
ok-then (Err e) p f = tt

-- ---- reads in a longer log

read_in : (es : List Entry) (tx : ℕ) (x : Name) (n : ℕ) (v : ℕ) → slice_get es n ≡ Some (Read tx x v) → HasRead es tx x
read_in es tx x n v at = Any-from_at (λ e. (tx_of e ≡ tx) × Reads x e) es n (Read tx x v) at (refl, refl)

-- a read of the item is an entry that says so
pub read_at : (es : List Entry) (tx : ℕ) (x : Name) → HasRead es tx x
    → (n : ℕ) × (v : ℕ) × (slice_get es n ≡ Some (Read tx x v))
read_at es tx x has =
    let a = Any_at (λ e. (tx_of e ≡ tx) × Reads x e) es has in
    let read = read_is x a.1 a.3.1 in
    (a.0, read.0, a.2 ∙ ap Some (read.1 ∙ ap (λ (t : ℕ). Read t x read.0) a.3.0))

pub read_logged : (es : List Entry) (tx : ℕ) (x : Name) → HasRead es tx x → (v : ℕ) × (n : ℕ) × LogsRead es tx x v n
read_logged es tx x has = let at = read_at es tx x has in
    (at.1, version_at (take at.0 es) x, record { place = at.0; at = at.2; version = refl })

HasRead-append : (es bs : List Entry) (tx : ℕ) (x : Name) → HasRead es tx x → HasRead (es ++ bs) tx x
HasRead-append es bs tx x has = let at = read_at es tx x has in
    read_in (es ++ bs) tx x at.0 at.1 (front_at es bs at.0 (Read tx x at.1) at.2)

HasRead-cases : {P : Type 0} (es bs : List Entry) (tx : ℕ) (x : Name) → HasRead (es ++ bs) tx x
    → (HasRead es tx x → P) → ((m v : ℕ) → slice_get bs m ≡ Some (Read tx x v) → P) → P
HasRead-cases es bs tx x has front back =
    let at = read_at (es ++ bs) tx x has in
    get_cases es bs at.0 (Read tx x at.1) at.2 (λ here. front (read_in es tx x at.0 at.1 here))
    (λ m is here. back m at.1 here)

-- ---- what stays pending

nothing_in : (x : Name) → Contains [] x → ⊥
nothing_in x has = absurd (omega (arith, has.1))

pub pending-fresh : (p : Pending) → ((tx : ℕ) → items_by p tx ≡ []) → ArePending p []
pending-fresh p none tx x = (
  λ has. absurd (nothing_in x (subst (λ xs. Contains xs x) (none tx) has)),
  λ both. absurd (let at = read_at [] tx x both.0 in let is = at.2 in cc),
)

pub pending-same : (p new : Pending) (es : List Entry) → ArePending p es → AreSame p new → ArePending new es
pending-same p new es pending same tx x =
    subst (λ xs. Contains xs x ↔ (HasRead es tx x × (HasEnded es tx → ⊥))) (sym (same tx)) (pending tx x)

-- a read that was added and taken back
pub added-back : (p mid new : Pending) (tx : ℕ) (x : Name) → AddsRead p mid tx x
    → ((items : List Name) (item : Name) → items_by mid tx ≡ items ++ item ∷ [] → items_by new tx ≡ items)
    → ((t : ℕ) → t ≢ tx → items_by new t ≡ items_by mid t) → AreSame p new
added-back p mid new tx x adds own others t = elim (cases_Bool (t == tx)) [
  | inl hit ↦ subst (λ u. items_by new u ≡ items_by p u) (sym (eqb-true t tx hit)) (own (items_by p tx) x adds.own)
  | inr miss ↦ let apart = eqb-false t tx miss in others t apart ∙ adds.others t apart
]

-- a read of a transaction that has no end
module _ (p new : Pending) (es : List Entry) (tx : ℕ) (x : Name) (v : ℕ) (pending : ArePending p es)
    (active : HasEnded es tx → ⊥) where
  abbrev one : List Entry
  one = Read tx x v ∷ []

  no_end : (t : ℕ) → HasEnded one t → ⊥
  no_end t has =
      let a = Any_at (λ e. (tx_of e ≡ t) × IsEnd e) one has in
      subst IsEnd (is_single (Read tx x v) a.1 (Contains-from_at one a.0 a.1 a.2)) a.3.1

  open_still : (t : ℕ) → (HasEnded es t → ⊥) → HasEnded (es ++ one) t → ⊥
  open_still t unended ended = HasEnded-cases es one t ended unended (no_end t)

  was_there : (t : ℕ) (y : Name) → Contains (items_by p t) y → HasRead (es ++ one) t y × (HasEnded (es ++ one) t → ⊥)
  was_there t y has = let old = (pending t y).0 has in (HasRead-append es one t y old.0, open_still t old.1)

  is_now : HasRead (es ++ one) tx x × (HasEnded (es ++ one) tx → ⊥)
  is_now = (read_in (es ++ one) tx x (length es) v (middle_at es (Read tx x v) []), open_still tx active)

  is_new : (t : ℕ) (y : Name) (m w : ℕ) → slice_get one m ≡ Some (Read t y w) → (t ≡ tx) × (y ≡ x)
  is_new t y zero w at = let own : t ≡ tx = cc in let item : y ≡ x = cc in (own, item)
  is_new t y (suc m) w at = absurd cc

  was_read : (t : ℕ) (y : Name) → HasRead es t y → (HasEnded (es ++ one) t → ⊥) → Contains (items_by p t) y
  was_read t y has active_still = (pending t y).1 (has, λ ended. active_still (HasEnded-append es one t ended))

  pub pending-read : AddsRead p new tx x → ArePending new (es ++ one)
  pending-read adds t y = elim (cases_Bool (t == tx)) [
    | inl hit ↦
        let same = eqb-true t tx hit in
        let own : items_by new t ≡ items_by p t ++ x ∷ [] =
        subst (λ u. items_by new u ≡ items_by p u ++ x ∷ []) (sym same) adds.own in (
          λ has. elim (Contains-append_cases (items_by p t) (x ∷ []) y (subst (λ xs. Contains xs y) own has)) [
            | inl old ↦ was_there t y old
            | inr last ↦
                let is = is_single x y last in
                subst (λ u. HasRead (es ++ one) u y × (HasEnded (es ++ one) u → ⊥)) (sym same)
                (subst (λ z. HasRead (es ++ one) tx z × (HasEnded (es ++ one) tx → ⊥)) (sym is) is_now)
          ],
          λ both. subst (λ xs. Contains xs y) (sym own) (
              HasRead-cases es one t y both.0
              (λ old. Contains-append_left (items_by p t) (x ∷ []) y (was_read t y old both.1))
              (λ m w at. Contains-append_right (items_by p t) (x ∷ []) y
              (Contains-from_at (x ∷ []) 0 y (ap Some (sym (is_new t y m w at).1))))
              ),
        )
    | inr miss ↦
        let apart = eqb-false t tx miss in
        let kept = adds.others t apart in (
          λ has. was_there t y (subst (λ xs. Contains xs y) kept has),
          λ both. subst (λ xs. Contains xs y) (sym kept) (
              HasRead-cases es one t y both.0 (λ old. was_read t y old both.1)
              (λ m w at. absurd (apart (is_new t y m w at).0))
              ),
        )
  ]

-- a block that ends a transaction and reads nothing
module _ (p new : Pending) (es bs : List Entry) (tx : ℕ) (pending : ArePending p es) (ending : HasEnded bs tx)
    (alone : (t : ℕ) → HasEnded bs t → t ≡ tx) where
  pub pending-ended : ((m t : ℕ) (x : Name) (v : ℕ) → slice_get bs m ≡ Some (Read t x v) → ⊥) → items_by new tx ≡ []
      → ((t : ℕ) → t ≢ tx → items_by new t ≡ items_by p t) → ArePending new (es ++ bs)
  pending-ended quiet own others t y = elim (cases_Bool (t == tx)) [
    | inl hit ↦
        let same = eqb-true t tx hit in (
          λ has. absurd (nothing_in y (subst (λ xs. Contains xs y) (ap (items_by new) same ∙ own) has)),
          λ both. absurd (both.1 (HasEnded-append_right es bs t (subst (HasEnded bs) (sym same) ending))),
        )
    | inr miss ↦
        let apart = eqb-false t tx miss in
        let kept = others t apart in (
          λ has.
              let old = (pending t y).0 (subst (λ xs. Contains xs y) kept has) in (
                HasRead-append es bs t y old.0,
                λ ended. HasEnded-cases es bs t ended old.1 (λ now. apart (alone t now)),
              ),
          λ both. subst (λ xs. Contains xs y) (sym kept) ((pending t y).1 (
            HasRead-cases es bs t y both.0 (λ old. old) (λ m v at. absurd (quiet m t y v at)),
            λ ended. both.1 (HasEnded-append es bs t ended),
          )),
        )
  ]

-- a withdrawal
pub pending-withdrawn : (p new : Pending) (es : List Entry) (tx : ℕ) → ArePending p es → items_by new tx ≡ []
    → ((t : ℕ) → t ≢ tx → items_by new t ≡ items_by p t) → ArePending new (es ++ Withdraw tx ∷ [])
pending-withdrawn p new es tx pending own others = pending-ended p new es (Withdraw tx ∷ []) tx pending
    (Any-from_at (λ e. (tx_of e ≡ tx) × IsEnd e) (Withdraw tx ∷ []) 0 (Withdraw tx) refl (refl, tt))
    (λ t has. let a = Any_at (λ e. (tx_of e ≡ t) × IsEnd e) (Withdraw tx ∷ []) has in sym a.3.0
    ∙ ap tx_of (is_single (Withdraw tx) a.1 (Contains-from_at (Withdraw tx ∷ []) a.0 a.1 a.2)))
    (λ m t x v at. let e =
    is_single (Withdraw tx) (Read t x v) (Contains-from_at (Withdraw tx ∷ []) m (Read t x v) at) in absurd cc)
    own others

-- ---- what a draft keeps of them

-- a test of each of them is one of all that the log has
module _ (P : Name → Type 0) (p : Pending) (es : List Entry) (tx : ℕ) (pending : ArePending p es) where
  pub own-kept : (HasEnded es tx → ⊥) → All P (items_by p tx) → (x : Name) → HasRead es tx x → P x
  own-kept active kept x has = All_in P (items_by p tx) x kept ((pending tx x).1 (has, active))

  pub kept-own : ((x : Name) → HasRead es tx x → P x) → All P (items_by p tx)
  kept-own keeps =
      All-from_at P (items_by p tx) (λ n x at. keeps x ((pending tx x).0 (Contains-from_at (items_by p tx) n x at)).0)
