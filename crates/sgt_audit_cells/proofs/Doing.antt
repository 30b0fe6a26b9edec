-- What a transaction did, against the rule on pairs of entries, and after one more entry.
use Rattle.std.proofs.Common.{◌≡◌, ◌≢◌, ℕ, zero, suc, List, [], ◌∷◌, ◌++◌, length, Option, Some, None, Bool, true, false, IsTrue, refl, sym, ap, ◌∙◌, subst, arith, inl, inr, ◌⊎◌, All, AllPairs, Any, Contains, option_map}
use Rattle.std.specs.Prelude.{◌↔◌, slice_get, not, ◌||◌}
use Rattle.std.specs.Option.{option_to_list}
use Rattle.std.proofs.lemmas.Bool.{cases_Bool, cases_order, false≢true, true≢false}
use Rattle.std.proofs.lemmas.Option.{same_Some, none-some}
use Rattle.std.proofs.lemmas.List.{append-nil}
use Rattle.std.proofs.lemmas.List.Elements.{Contains-push, Contains-append_left, Contains-push_cases}
use Rattle.sgt_names.proofs.Places.{All_at, All-from_at, AllPairs_at, Contains_at, Contains-from_at}
use Rattle.sgt_names.proofs.Lists.{Any_at, Any-from_at, front_at, middle_at}
use Rattle.sgt_names.specs.Name.{Name}
use Rattle.sgt_names.specs.Entry.{tx_of, item_of, is_increment, IsEnd, Reads, Writes, Repeats}
use Rattle.sgt_names.specs.declared.entry.Entry.{Entry}
use Rattle.sgt_names.specs.declared.entry.Entry.TheVariants.{Read, Write, Add, Want, WantAdd, Commit, Refuse, Withdraw}
use Rattle.sgt_audit_cells.specs.private.Noted.{IsPlaceOf}
use Rattle.sgt_audit_cells.specs.Records.{Record, no_record, Did, IsAct, AreActs, IsRecord, deed_of}
use Rattle.sgt_audit_cells.specs.private.Deeds.{IsTouched, IsOf, act, act_of, done, changes, adds}
use Rattle.sgt_audit_cells.specs.declared.act.Act.{Act}
use Rattle.sgt_audit_cells.specs.declared.act.Deed.{Deed}

-- ---- the rule

abbrev IsNew : Entry → Entry → Type 0
IsNew e f = (y : Name) → Repeats y f e → ⊥

each-new : (entries : List Entry) (e f : Entry) → All (IsNew e) entries → Contains entries f → IsNew e f
each-new entries e f all here = let at = Contains_at entries f here in All_at (IsNew e) entries at.0 f all at.1

pub all-new : (entries : List Entry) (e : Entry) → ((f : Entry) → Contains entries f → IsNew e f)
    → All (IsNew e) entries
all-new entries e h = All-from_at (IsNew e) entries (λ n f at. h f (Contains-from_at entries n f at))

-- ---- deeds

pub change-written : (e : Entry) (x : Name) → Writes x e → (item_of e ≡ Some x) × (changes (deed_of e) ≡ true)
change-written (Write t z v) x w = (ap Some w, refl)
change-written (Add t z v) x w = (ap Some w, refl)
change-written (Want t z v) x w = (ap Some w, refl)
change-written (WantAdd t z v) x w = (ap Some w, refl)
change-written (Read t z v) x w = absurd w
change-written (Commit t) x w = absurd w
change-written (Refuse t) x w = absurd w
change-written (Withdraw t) x w = absurd w

pub read-read : (e : Entry) (x : Name) → Reads x e → (item_of e ≡ Some x) × (changes (deed_of e) ≡ false)
read-read (Read t z v) x r = (ap Some r, refl)
read-read (Write t z v) x r = absurd r
read-read (Add t z v) x r = absurd r
read-read (Want t z v) x r = absurd r
read-read (WantAdd t z v) x r = absurd r
read-read (Commit t) x r = absurd r
read-read (Refuse t) x r = absurd r
read-read (Withdraw t) x r = absurd r

pub deed-written : (e : Entry) (x : Name) → item_of e ≡ Some x → changes (deed_of e) ≡ true → Writes x e
deed-written (Write t z v) x on is = same_Some z x on
deed-written (Add t z v) x on is = same_Some z x on
deed-written (Want t z v) x on is = same_Some z x on
deed-written (WantAdd t z v) x on is = same_Some z x on
deed-written (Read t z v) x on is = absurd (false≢true is)
deed-written (Commit t) x on is = absurd cc
deed-written (Refuse t) x on is = absurd cc
deed-written (Withdraw t) x on is = absurd cc

pub deed-read : (e : Entry) (x : Name) → item_of e ≡ Some x → changes (deed_of e) ≡ false → Reads x e
deed-read (Read t z v) x on is = same_Some z x on
deed-read (Write t z v) x on is = absurd (true≢false is)
deed-read (Add t z v) x on is = absurd (true≢false is)
deed-read (Want t z v) x on is = absurd (true≢false is)
deed-read (WantAdd t z v) x on is = absurd (true≢false is)
deed-read (Commit t) x on is = absurd cc
deed-read (Refuse t) x on is = absurd cc
deed-read (Withdraw t) x on is = absurd cc

pub adds-is : (e : Entry) → adds (deed_of e) ≡ is_increment e
adds-is (Read t z v) = refl
adds-is (Write t z v) = refl
adds-is (Add t z v) = refl
adds-is (Want t z v) = refl
adds-is (WantAdd t z v) = refl
adds-is (Commit t) = refl
adds-is (Refuse t) = refl
adds-is (Withdraw t) = refl

-- both read the item, or both change it
repeats : (f e : Entry) (x : Name) → item_of f ≡ Some x → item_of e ≡ Some x
    → changes (deed_of f) ≡ changes (deed_of e) → (Reads x f × Reads x e) ⊎ (Writes x f × Writes x e)
repeats f e x on_f on_e same =
    elim (cases_Bool (changes (deed_of e))) [
      | inl change ↦ inr (deed-written f x on_f (same ∙ change), deed-written e x on_e change)
      | inr none ↦ inl (deed-read f x on_f (same ∙ none), deed-read e x on_e none)
    ]

repeated : (f e : Entry) (y : Name) → (Reads y f × Reads y e) ⊎ (Writes y f × Writes y e)
    → (item_of f ≡ Some y) × (item_of e ≡ Some y) × (changes (deed_of f) ≡ changes (deed_of e))
repeated f e y (inl reads) = let p = read-read f y reads.0 in let q = read-read e y reads.1 in (p.0, q.0, p.1 ∙ sym q.1)
repeated f e y (inr writes) = let p = change-written f y writes.0 in let q = change-written e y writes.1 in
    (p.0, q.0, p.1 ∙ sym q.1)

module _ (ns : List Name) (entries : List Entry) (acts : List Act) (i : ℕ) (x : Name) (at : slice_get ns i ≡ Some x)
  where
    pub first-decides : (e : Entry) → item_of e ≡ Some x → AreActs ns entries (tx_of e) acts
        → (Any (IsOf i (changes (deed_of e))) acts → ⊥) ↔ All (IsNew e) entries
    first-decides e on is = (
      λ miss. all-new entries e (λ f in_it y r.
          let place = Contains_at entries f in_it in
          let both = repeated f e y r.1 in
          let name : y ≡ x = same_Some y x (sym both.1 ∙ on) in
          let c : Act = act place.0 i f in
          let has =
          (is c).1 (record {
            entry = f;
            name = x;
            here = place.1;
            of = r.0;
            item = at;
            on = both.0
                ∙ ap Some name;
            deed = refl;
          }) in
          let there = Contains_at acts c has in
          miss (Any-from_at (IsOf i (changes (deed_of e))) acts there.0 c there.1 (refl, both.2))),
      λ all has.
          let found = Any_at (IsOf i (changes (deed_of e))) acts has in
          let w = (is found.1).0 (Contains-from_at acts found.0 found.1 found.2) in
          let name : w.name ≡ x = same_Some w.name x (sym w.item ∙ ap (slice_get ns) found.3.0 ∙ at) in
          each-new entries e w.entry all (Contains-from_at entries found.1.at w.entry w.here) x (
            w.of,
            repeats w.entry e x (w.on ∙ ap Some name) on (ap changes (sym w.deed) ∙ found.3.1),
          ),
    )

pub not-decides : (b : Bool) (P Q : Type 0) → IsTrue b ↔ P → (P → ⊥) ↔ Q → IsTrue (not b) ↔ Q
not-decides true P Q p q = (λ h. absurd (false≢true h), λ r. absurd (q.1 r (p.0 refl)))
not-decides false P Q p q = (λ h. q.0 (λ r. false≢true (p.1 r)), λ r. refl)

pub or-decides : (a b : Bool) (P Q R : Type 0) → IsTrue a ↔ P → IsTrue b ↔ Q → (P → R) → (Q → R) → (R → P ⊎ Q)
    → IsTrue (a || b) ↔ R
or-decides true b P Q R p q left right both = (λ _. left (p.0 refl), λ _. refl)
or-decides false b P Q R p q left right both =
    (λ h. right (q.0 h), λ r. elim (both r) [ inl h ↦ absurd (false≢true (p.1 h)) | inr h ↦ q.1 h ])

-- ---- one more entry

abbrev pub Apart : Name → Name → Type 0
Apart x y = x ≢ y

place-one : (ns : List Name) (i j : ℕ) (x y : Name) → AllPairs Apart ns → slice_get ns i ≡ Some x
    → slice_get ns j ≡ Some y → x ≡ y → i ≡ j
place-one ns i j x y apart at_i at_j same =
    elim (cases_order i j) [
      | inl eq ↦ eq
      | inr (inl less) ↦ absurd (AllPairs_at Apart ns i j x y apart less at_i at_j same)
      | inr (inr more) ↦ absurd (AllPairs_at Apart ns j i y x apart more at_j at_i (sym same))
    ]

module _ (entries : List Entry) (tx : ℕ) (e : Entry) (Does : Entry → Type 0) where
  pub did-more : Did entries tx Does → Did (entries ++ e ∷ []) tx Does
  did-more (f, here, of, does) = (f, Contains-append_left entries (e ∷ []) f here, of, does)

  pub did-cases : Did (entries ++ e ∷ []) tx Does → Did entries tx Does ⊎ ((tx_of e ≡ tx) × Does e)
  did-cases (f, here, of, does) =
      elim (Contains-push_cases entries e f here) [
        | inl old ↦ inl (f, old, of, does)
        | inr new ↦ inr (ap tx_of new ∙ of, subst Does (sym new) does)
      ]

  pub did-back : (tx_of e ≡ tx → Does e → ⊥) → Did (entries ++ e ∷ []) tx Does → Did entries tx Does
  did-back other d = elim (did-cases d) [ inl old ↦ old | inr new ↦ absurd (other new.0 new.1) ]

  pub did-left : {P : Type 0} → (tx_of e ≡ tx → Does e → ⊥) → P ↔ Did entries tx Does
      → P ↔ Did (entries ++ e ∷ []) tx Does
  did-left other before = (λ h. did-more (before.0 h), λ d. before.1 (did-back other d))

-- ---- operations

module _ {A : Type 0} where
  pub get_cases : (xs : List A) (y : A) (n : ℕ) (a : A) → slice_get (xs ++ y ∷ []) n ≡ Some a
      → (slice_get xs n ≡ Some a) ⊎ ((n ≡ length xs) × (y ≡ a))
  get_cases [] y zero a h = inr (refl, same_Some y a h)
  get_cases [] y (suc n) a h = absurd (none-some a h)
  get_cases (x ∷ xs) y zero a h = inl h
  get_cases (x ∷ xs) y (suc n) a h =
      elim (get_cases xs y n a h) [ inl old ↦ inl old | inr new ↦ inr (ap suc new.0, new.1) ]

abbrev made : ℕ → Deed → ℕ → Act
made i d n = record { place = i; deed = d; at = n }

module _ (ns : List Name) (entries : List Entry) (tx : ℕ) (e : Entry) where
  act-more : (a : Act) → IsAct ns entries tx a → IsAct ns (entries ++ e ∷ []) tx a
  act-more a w = record {
    entry = w.entry;
    name = w.name;
    here = front_at entries (e ∷ []) a.at w.entry w.here;
    of =
        w.of;
    item = w.item;
    on = w.on;
    deed = w.deed;
  }

  -- it stands for the new entry
  abbrev IsLast : Act → Type 0
  IsLast a = (a.at ≡ length entries) × (tx_of e ≡ tx)
      × ((x : Name) × (slice_get ns a.place ≡ Some x) × (item_of e ≡ Some x)) × (a.deed ≡ deed_of e)

  act-cases : (a : Act) → IsAct ns (entries ++ e ∷ []) tx a → IsAct ns entries tx a ⊎ IsLast a
  act-cases a w =
      elim (get_cases entries e a.at w.entry w.here) [
        | inl old ↦ inl (record {
          entry = w.entry;
          name = w.name;
          here = old;
          of = w.of;
          item = w.item;
          on =
              w.on;
          deed = w.deed;
        })
        | inr new ↦ inr (
          new.0,
          ap tx_of new.1 ∙ w.of,
          (w.name, w.item, ap item_of new.1 ∙ w.on),
          w.deed
              ∙ ap deed_of (sym new.1),
        )
      ]

  same-acts : (acts : List Act) → ((a : Act) → IsLast a → ⊥) → AreActs ns entries tx acts
      → AreActs ns (entries ++ e ∷ []) tx acts
  same-acts acts none is a = (
    λ has. act-more a ((is a).0 has),
    λ w. elim (act-cases a w) [
      | inl old ↦ (is a).1 old
      | inr new ↦ absurd (none a new)
    ],
  )

  pub acts-left : (acts : List Act) → (tx_of e ≡ tx → ⊥) → AreActs ns entries tx acts
      → AreActs ns (entries ++ e ∷ []) tx acts
  acts-left acts other is = same-acts acts (λ a new. other new.1) is

  pub acts-ended : (acts : List Act) → item_of e ≡ None → AreActs ns entries tx acts
      → AreActs ns (entries ++ e ∷ []) tx acts
  acts-ended acts none is = same-acts acts (λ a new. none-some new.2.0 (sym none ∙ new.2.2)) is

  pub acts-entered : (acts : List Act) (i : ℕ) (x : Name) → AllPairs Apart ns → AreActs ns entries tx acts
      → tx_of e ≡ tx → slice_get ns i ≡ Some x → item_of e ≡ Some x
      → AreActs ns (entries ++ e ∷ []) tx (acts ++ act (length entries) i e ∷ [])
  acts-entered acts i x apart is of at on a = (
    λ has. elim (Contains-push_cases acts c a has) [
      | inl old ↦ act-more a ((is a).0 old)
      | inr new ↦ subst (IsAct ns (entries ++ e ∷ []) tx) new (record {
        entry = e;
        name = x;
        here =
            middle_at entries e [];
        of = of;
        item = at;
        on = on;
        deed = refl;
      })
    ],
    λ w. elim (act-cases a w) [
      | inl old ↦ Contains-append_left acts (c ∷ []) a ((is a).1 old)
      | inr new ↦
          let place = place-one ns i a.place x new.2.0 apart at new.2.1 (same_Some x new.2.0 (sym on ∙ new.2.2)) in
          let same : c ≡ a = ap (λ p. made p (deed_of e) (length entries)) place
          ∙ ap (λ n. made a.place (deed_of e) n) (sym new.0) ∙ ap (λ d. made a.place d a.at) (sym new.3) in
          subst (Contains (acts ++ c ∷ [])) same (Contains-push acts c)
    ],
  )
    where
      c : Act
      c = act (length entries) i e

  pub acts-next : (acts : List Act) (place : Option ℕ) → AllPairs Apart ns → AreActs ns entries tx acts → tx_of e ≡ tx
      → IsPlaceOf ns e place
      → AreActs ns (entries ++ e ∷ []) tx (acts ++ option_to_list (option_map (λ i. act (length entries) i e) place))
  acts-next acts None apart is of on =
      subst (AreActs ns (entries ++ e ∷ []) tx) (sym (append-nil acts)) (acts-ended acts on is)
  acts-next acts (Some i) apart is of on = acts-entered acts i on.0 apart is of on.1 on.2

-- by what is done at its place
pub acts-by : (n : ℕ) (e : Entry) (place : Option ℕ)
    → option_to_list (option_map (act_of n) (option_map (λ i. done i e) place))
    ≡ option_to_list (option_map (λ i. act n i e) place)
acts-by n e None = refl
acts-by n e (Some i) = refl

-- ---- a record

-- an entry of another transaction
pub record-left : (ns : List Name) (entries : List Entry) (tx : ℕ) (r : Record) (e : Entry) → (tx_of e ≡ tx → ⊥)
    → IsRecord ns entries tx r → IsRecord ns (entries ++ e ∷ []) tx r
record-left ns entries tx r e other is = record {
  touched = did-left entries tx e (λ f. Unit {0}) (λ of does. other of) is.touched;
  ended = did-left entries tx e IsEnd (λ of does. other of) is.ended;
  acts = acts-left ns entries tx e r.acts other is.acts;
}

-- its next entry
pub record-entered : (ns : List Name) (entries : List Entry) (tx : ℕ) (old new : Record) (e : Entry)
    (place : Option ℕ) (ends : Bool) → AllPairs Apart ns → tx_of e ≡ tx → IsPlaceOf ns e place → IsTrue ends ↔ IsEnd e
    → IsRecord ns entries tx old
    → IsTouched (option_to_list (option_map (λ i. act (length entries) i e) place)) ends old new
    → IsRecord ns (entries ++ e ∷ []) tx new
record-entered ns entries tx old new e place ends apart of on ending is to = record {
  touched = (λ _. (e, Contains-push entries e, of, tt), λ _. to.touched);
  ended = subst (λ b. IsTrue b ↔ Did (entries ++ e ∷ []) tx IsEnd) (sym to.end)
      (or-decides old.ended ends (Did entries tx IsEnd) (IsEnd e) (Did (entries ++ e ∷ []) tx IsEnd) is.ended ending
      (did-more entries tx e IsEnd) (λ h. (e, Contains-push entries e, of, h))
      (λ d. elim (did-cases entries tx e IsEnd d) [ inl before ↦ inl before | inr now ↦ inr now.1 ]));
  acts = subst (AreActs ns (entries ++ e ∷ []) tx) (sym to.did)
      (acts-next ns entries tx e old.acts place apart is.acts of on);
}

no-entry : (f : Entry) → Contains [] f → ⊥
no-entry f here = absurd (omega (arith, here.1))

-- without an entry in the section
pub record-none : (ns : List Name) (tx : ℕ) → IsRecord ns [] tx no_record
record-none ns tx = record {
  touched = (λ h. absurd (false≢true h), λ d. absurd (no-entry d.0 d.1));
  ended = (λ h. absurd (false≢true h), λ d. absurd (no-entry d.0 d.1));
  acts = λ a. (λ h. absurd (no-act a h), λ w. absurd (none-some w.entry w.here));
}
  where
    no-act : (a : Act) → Contains [] a → ⊥
    no-act a here = absurd (omega (arith, here.1))

-- it is the same whatever the names are
pub record-renamed : (ns more : List Name) (tx : ℕ) (r : Record) → IsRecord ns [] tx r → IsRecord more [] tx r
record-renamed ns more tx r is = record {
  touched = is.touched;
  ended = is.ended;
  acts = λ a. (
    λ h. let w = (is.acts a).0 h in absurd (none-some w.entry w.here),
    λ w. absurd (none-some w.entry w.here),
  );
}
