-- A private change is kept at its place, and an item that was read is found.
use Rattle.std.proofs.Common.{◌≡◌, ℕ, true, List, [], ◌∷◌, refl, sym, ◌∙◌, ◌⊎◌, inl, inr, AllPairs, Contains, Option, Some, None, subst}
use Rattle.std.specs.Prelude.{filter, slice_get}
use Rattle.std.specs.List.{filter_map, cons_option}
use Rattle.std.specs.Ordering.{nat_cmp, is_lt}
use Rattle.std.specs.Cmp.Lexicographic.{slice_cmp}
use Rattle.std.specs.declared.cmp.Ordering.{Ordering}
use Rattle.std.specs.declared.cmp.Ordering.TheVariants.{Less, Equal, Greater}
use Rattle.std.proofs.lemmas.Bool.{cases_eq, eq-eqb, ne_eqb}
use Rattle.std.proofs.lemmas.Cmp.{nat_list_cmp_total, tied_itself}
use Rattle.std.proofs.lemmas.List.Elements.{Contains-append_cases}
use Rattle.std.proofs.lemmas.List.Kept.{AllPairs-filter}
use Rattle.std.proofs.lemmas.Slice.Eq.{bytes_eq-Decides}
use Rattle.sgt_names.specs.Name.{Name}
use Rattle.sgt_names.specs.Entry.{tx_of, Reads}
use Rattle.sgt_names.specs.Log.{names, value_with_any}
use Rattle.sgt_names.specs.declared.entry.Change.{Change}
use Rattle.sgt_names.specs.declared.entry.Change.TheVariants.{Put, Add}
use Rattle.sgt_names.specs.declared.entry.Entry.{Entry}
use Rattle.sgt_names.specs.declared.entry.Entry.TheVariants as entry
use Rattle.sgt_names.proofs.Lists.{option_cases}
use Rattle.sgt_certifier.proofs.Members.{AllPairs-append, filter_member}
use Rattle.sgt_core_model.specs.Core.{CoreState, items_at, comes_before, change_in, put_in, changed_at, with_change, read_of, seen, look}
use Rattle.sgt_core_model.proofs.Kept.{AreApart, IsLegal}
use Rattle.sgt_core_model.proofs.Legal.{pairs_insert, insert_cases}
use Rattle.sgt_names.proofs.Elements.{contains-cases, contains-none}

-- ---- in a list of changes

less : (o : Ordering) → is_lt o ≡ true → o ≡ Less
less Less e = refl
less Equal e = absurd cc
less Greater e = absurd cc

not_itself : (x : Name) → comes_before x x ≡ true → ⊥
not_itself x e =
    let same : Less ≡ Equal = sym (less (slice_cmp nat_cmp x x) e) ∙ tied_itself nat_list_cmp_total x in
    absurd cc

not_back : (x y : Name) → comes_before x y ≡ true → comes_before y x ≡ true → ⊥
not_back x y e f =
    let loop = nat_list_cmp_total.trans x y x (less (slice_cmp nat_cmp x y) e) (less (slice_cmp nat_cmp y x) f) in
    let same : Less ≡ Equal = sym loop ∙ tied_itself nat_list_cmp_total x in
    absurd cc

put_in_member : (d : Name × Change) (cs : List (Name × Change)) (g : Name × Change) → Contains (put_in d cs) g
    → (d ≡ g) ⊎ Contains cs g
put_in_member d cs g c =
    let front = filter (λ (f : Name × Change). comes_before f.0 d.0) cs in
    let back = filter (λ (f : Name × Change). comes_before d.0 f.0) cs in
    elim (insert_cases front back d g c) [
      | inl is ↦ inl is
      | inr was ↦ elim (Contains-append_cases front back g was) [
        | inl before ↦ inr (filter_member (λ (f : Name × Change). comes_before f.0 d.0) cs g before).0
        | inr behind ↦ inr (filter_member (λ (f : Name × Change). comes_before d.0 f.0) cs g behind).0
      ]
    ]

put_in_apart : (d : Name × Change) (cs : List (Name × Change)) → AllPairs AreApart cs → AllPairs AreApart (put_in d cs)
put_in_apart d cs once =
    let before = λ (f : Name × Change). comes_before f.0 d.0 in
    let behind = λ (f : Name × Change). comes_before d.0 f.0 in
    pairs_insert AreApart (filter before cs) (filter behind cs) d
    (AllPairs-append AreApart (filter before cs) (filter behind cs) (AllPairs-filter AreApart before cs once)
    (AllPairs-filter AreApart behind cs once) (λ a b ca cb same.
    not_back a.0 d.0 (filter_member before cs a ca).1
    (subst (λ x. comes_before d.0 x ≡ true) (sym same) (filter_member behind cs b cb).1)))
    (λ a ca same. not_itself a.0 (subst (λ x. comes_before a.0 x ≡ true) (sym same) (filter_member before cs a ca).1))
    (λ b cb same. not_itself b.0 (subst (λ x. comes_before x b.0 ≡ true) same (filter_member behind cs b cb).1))

changed_twice : (Q : List (Name × Change) → Type 0) (tx s : ℕ) (P : List (Name × Change)) (w : ℕ → ℕ
    → List (Name × Change)) (u t : ℕ) → (t ≡ s → Q P)
    → Q (w u t) → Q (changed_at tx (changed_at s P (w tx)) w u t)
changed_twice Q tx s P w u t here there =
    elim (cases_eq u tx) [
      | inl is ↦ rw (eq-eqb u tx is) (elim (cases_eq t s) [
        | inl at ↦ rw (eq-eqb t s at) (here at)
        | inr ne ↦ rw (ne_eqb t s ne) (subst (λ n. Q (w n t)) is there)
      ])
      | inr other ↦ rw (ne_eqb u tx other) there
    ]

pub change-legal : (c : CoreState) (tx s : ℕ) (x : Name) (change : Change) → IsLegal c
    → Contains (names (items_at c s)) x → IsLegal (with_change c tx s x change)
change-legal c tx s x change l known = record {
  sites = l.sites;
  changes_known = λ u t g. changed_twice (λ cs. Contains cs g → Contains (names (items_at c t)) g.0) tx s
      (put_in (x, change) (c.changes tx s)) c.changes u t
      (λ at m. subst (λ n. Contains (names (items_at c n)) g.0) (sym at)
      (elim (put_in_member (x, change) (c.changes tx s) g m) [
        | inl is ↦ subst (λ (k : Name × Change). Contains (names (items_at c s)) k.0) is known
        | inr was ↦ l.changes_known tx s g was
      ]))
      (l.changes_known u t g);
  changes_once = λ u t. changed_twice (AllPairs AreApart) tx s (put_in (x, change) (c.changes tx s)) c.changes u t
      (λ at. put_in_apart (x, change) (c.changes tx s) (l.changes_once tx s)) (l.changes_once u t);
}

-- ---- what wasn't read before

first_none : (vs : List ℕ) → slice_get vs 0 ≡ None → vs ≡ []
first_none [] e = refl
first_none (v ∷ vs) e = absurd cc

unchanged_none : (o : Option ℕ) (change : Option Change) → value_with_any o change ≡ None → o ≡ None
unchanged_none o None e = e
unchanged_none o (Some (Put v)) e = absurd cc
unchanged_none None (Some (Add v)) e = refl
unchanged_none (Some u) (Some (Add v)) e = absurd cc

read_found : (tx : ℕ) (x : Name) (e : Entry) → tx_of e ≡ tx → Reads x e → (v : ℕ) × (read_of tx x e ≡ Some v)
read_found tx x (entry.Read i y v) own k = (v, rw (eq-eqb i tx own) (rw ((bytes_eq-Decides y x).1 k) refl))
read_found tx x _ own k = absurd k

none_found : (f : Entry → Option ℕ) (xs : List Entry) → filter_map f xs ≡ [] → (e : Entry) → Contains xs e → f e ≡ None
none_found f [] h e c = absurd (contains-none e c)
none_found f (x ∷ xs) h e c =
    elim (option_cases (f x)) [
      | inl none ↦ elim (contains-cases x xs e c) [
        | inl is ↦ subst (λ z. f z ≡ None) is none
        | inr later ↦ none_found f xs (subst (λ o. cons_option o (filter_map f xs) ≡ []) none h) e later
      ]
      | inr some ↦ absurd (let g : cons_option (Some some.0) (filter_map f xs) ≡ [] =
          subst (λ o. cons_option o (filter_map f xs) ≡ []) some.1 h in cc)
    ]

pub unread : (c : CoreState) (tx s : ℕ) (x : Name) → look c tx s x ≡ None → (e : Entry) → Contains (c.entries s) e
    → tx_of e ≡ tx → Reads x e → ⊥
unread c tx s x none e m own k =
    let empty =
    first_none (filter_map (read_of tx x) (c.entries s))
    (unchanged_none (seen c tx s x) (change_in (c.changes tx s) x) none) in
    let found = read_found tx x e own k in
    let f : Some found.0 ≡ None = sym found.1 ∙ none_found (read_of tx x) (c.entries s) empty e m in
    absurd cc
