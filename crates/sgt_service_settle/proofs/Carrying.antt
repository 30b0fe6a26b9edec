-- From marks to walks over the edges that count, and from places to conflicts.
use Rattle.std.proofs.Common.{◌≡◌, ◌↔◌, ℕ, ◌<◌, List, [], ◌∷◌, length, Bool, Some, refl, sym, ap, ◌∙◌, subst, arith, inl, inr}
use Rattle.std.specs.Prelude.{slice_get, max}
use Rattle.std.proofs.Math.Nat.{max-eq_left, max-eq_right}
use Rattle.std.proofs.lemmas.Bool.{cases_eq, cases_lt}
use Rattle.std.proofs.lemmas.Option.{same_Some, slice_get_within}
use Rattle.sgt_names.specs.Name.{Name}
use Rattle.sgt_names.specs.Log.{Conflicts}
use Rattle.sgt_names.specs.Entry.{tx_of, item_of}
use Rattle.sgt_names.specs.declared.entry.Entry.{Entry}
use Rattle.sgt_order.specs.Graph.{Leads, Reaches}
use Rattle.sgt_order.proofs.Placed.{reaches-on}
use Rattle.sgt_service_settle.specs.declared.index.Index.{Index}
use Rattle.sgt_service_settle.specs.declared.carried.Rows.{Rows}
use Rattle.sgt_service_settle.specs.declared.link.Cut.{Cut}
use Rattle.sgt_service_settle.specs.private.Search.{IsMarked, InRows, Told}
use Rattle.sgt_service_settle.specs.private.Index.{IsIn, IsLinkOf, LinkedBy, IsDue, IsSided, AllSided, IsPlaceCarried, AreCarried, AreRows}
use Rattle.sgt_notation.proofs.Texts.{clash_items}

leads_map : (R S : ℕ → ℕ → Type 0) → ((a b : ℕ) → R a b → S a b) → (a b : ℕ) (between : List ℕ) → Leads R a between b
    → Leads S a between b
leads_map R S to a b [] h = to a b h
leads_map R S to a b (c ∷ cs) h = (to a c h.0, leads_map R S to c b cs h.1)

pub reaches_map : (R S : ℕ → ℕ → Type 0) → ((a b : ℕ) → R a b → S a b) → (a b : ℕ) → Reaches R a b → Reaches S a b
reaches_map R S to a b r = (r.0, leads_map R S to a b r.0 r.1)

leads_turn : (R S : ℕ → ℕ → Type 0) → ((a b : ℕ) → R a b → S b a) → (a b : ℕ) (between : List ℕ) → Leads R a between b
    → Reaches S b a
leads_turn R S to a b [] h = ([], to a b h)
leads_turn R S to a b (c ∷ cs) h = reaches-on S b c a (leads_turn R S to c b cs h.1) (to a c h.0)

reaches_turn : (R S : ℕ → ℕ → Type 0) → ((a b : ℕ) → R a b → S b a) → (a b : ℕ) → Reaches R a b → Reaches S b a
reaches_turn R S to a b r = leads_turn R S to a b r.0 r.1

-- the ends of a link are in the table
pub link_within : (index : Index) (cut : Cut) (a b : ℕ) → LinkedBy index cut a b
    → (a < length index.commits.items) × (b < length index.commits.items)
link_within index cut a b e =
    let commits = index.commits.items in
    let link : IsLinkOf index.windows.items commits e.1.0 e.0 = e.1.2 in (
      subst (λ k. k < length commits) e.2 (slice_get_within commits e.0.from (Some link.from.1.0) link.from.1.1),
      subst (λ k. k < length commits) e.3 (slice_get_within commits e.0.to (Some link.to.1.0) link.to.1.1),
    )

-- the marks of the search forward tell whom the transaction reaches
told_out : (index : Index) (rows : Rows) (cut : Cut) (tx : ℕ) (marks : List Bool) → AreRows index rows
    → Told rows.out.items cut tx marks → (k : ℕ) → IsMarked marks k ↔ Reaches (LinkedBy index cut) tx k
told_out index rows cut tx marks are told k = (
  λ m. reaches_map (InRows rows.out.items cut) (LinkedBy index cut) (λ a b. (are.out cut a b).0) tx k
      ((told k).0 m),
  λ r. (told k).1 (reaches_map (LinkedBy index cut) (InRows rows.out.items cut)
      (λ a b. (are.out cut a b).1) tx k r),
)

-- those of the search backward tell who reaches it
told_back : (index : Index) (rows : Rows) (cut : Cut) (tx : ℕ) (marks : List Bool) → AreRows index rows
    → Told rows.back.items cut tx marks → (k : ℕ) → IsMarked marks k ↔ Reaches (LinkedBy index cut) k tx
told_back index rows cut tx marks are told k = (
  λ m. reaches_turn (InRows rows.back.items cut) (LinkedBy index cut) (λ a b. (are.back cut a b).0) tx k
      ((told k).0 m),
  λ r. (told k).1 (reaches_turn (LinkedBy index cut) (InRows rows.back.items cut)
      (λ a b. (are.back cut b a).1) k tx r),
)

sided_map : (P Q P' Q' : Type 0) (x : Name) (p q : ℕ) (e f : Entry) → (P → P') → (Q → Q') → IsSided P Q x p q e f
    → IsSided P' Q' x p q e f
sided_map P Q P' Q' x p q e f first second s = record {
  before = λ lt kind clash. first (s.before lt kind clash);
  after = λ le kind clash. second (s.after le kind clash);
}

pub place_carried : (index : Index) (rows : Rows) (cut : Cut) (log : List Entry) (p : ℕ) (e : Entry)
    (forward backward : List Bool) → AreRows index rows → Told rows.out.items cut (tx_of e) forward
    → Told rows.back.items cut (tx_of e) backward → AllSided log index.commits.items cut p e forward backward
    ↔ IsPlaceCarried index log cut p e
place_carried index rows cut log p e forward backward are out back = (
  λ sided q f at due. sided_map _ _ _ _ cut.item p q e f
      (told_back index rows cut (tx_of e) backward are back (tx_of f)).0
      (told_out index rows cut (tx_of e) forward are out (tx_of f)).0 (sided q f at due),
  λ carried q f at due. sided_map _ _ _ _ cut.item p q e f
      (told_back index rows cut (tx_of e) backward are back (tx_of f)).1
      (told_out index rows cut (tx_of e) forward are out (tx_of f)).1 (carried q f at due),
)

-- ---- places and conflicts

-- the walk under one cut is one under another that is the same
recut : (index : Index) (cut : Cut) (site last a b : ℕ) → site ≡ cut.site → last ≡ cut.last
    → Reaches (LinkedBy index (record { site = site; item = cut.item; last = last })) a b
    → Reaches (LinkedBy index cut) a b
recut index cut site last a b is_site is_last r =
    let at_site : Reaches (LinkedBy index (record { site = cut.site; item = cut.item; last = last })) a b =
    subst (λ k. Reaches (LinkedBy index (record { site = k; item = cut.item; last = last })) a b) is_site
    r in
    subst (λ k. Reaches (LinkedBy index (record { site = cut.site; item = cut.item; last = k })) a b)
    is_last at_site

-- where all conflicts are carried, so are those of an entry
pub carried_place : (index : Index) (site : ℕ) (log : List Entry) (cut : Cut) (p : ℕ) (e : Entry)
    → slice_get log p ≡ Some e → IsIn index.commits.items (tx_of e) cut.last → cut.site ≡ site
    → AreCarried index site log → IsPlaceCarried index log cut p e
carried_place index site log cut p e here mine is_site all q f at due = record {
  before = λ lt kind clash.
      let c : Conflicts log kind cut.item (tx_of f) (tx_of e) = record {
        p = q;
        q = p;
        e = f;
        f = e;
        before = lt;
        first = at;
        second = here;
        from = refl;
        to = refl;
        apart = λ same. due.apart (sym same);
        clash = clash;
      } in
      recut index cut site (max due.number cut.last) (tx_of f) (tx_of e) (sym is_site) (max-eq_right due.early)
      (all kind cut.item (tx_of f) (tx_of e) due.number cut.last c due.commit mine);
  after = λ le kind clash.
      let other : p ≡ q
      → ⊥ = λ same. due.apart (ap tx_of (same_Some e f (sym here ∙ (ap (slice_get log) same ∙ at)))) in
      let lt : p < q = elim (cases_eq p q) [ inl same ↦ absurd (other same) | inr apart ↦ omega (arith, apart, le) ] in
      let c : Conflicts log kind cut.item (tx_of e) (tx_of f) = record {
        p = p;
        q = q;
        e = e;
        f = f;
        before = lt;
        first = here;
        second = at;
        from = refl;
        to = refl;
        apart = due.apart;
        clash = clash;
      } in
      recut index cut site (max cut.last due.number) (tx_of e) (tx_of f) (sym is_site) (max-eq_left due.early)
      (all kind cut.item (tx_of e) (tx_of f) cut.last due.number c mine due.commit);
}

-- where the conflicts of each entry are carried, all are
pub places_carried : (index : Index) (site : ℕ) (log : List Entry)
    → ((p m : ℕ) (e : Entry) (x : Name) → slice_get log p ≡ Some e → item_of e ≡ Some x
    → IsIn index.commits.items (tx_of e) m
    → IsPlaceCarried index log (record { site = site; item = x; last = m }) p e) → AreCarried index site log
places_carried index site log each kind x a b m n c first second =
    let items = clash_items kind x c.e c.f c.clash in
    let mine : IsIn index.commits.items (tx_of c.e) m = subst (λ k. IsIn index.commits.items k m) (sym c.from) first in
    let yours : IsIn index.commits.items (tx_of c.f) n = subst (λ k. IsIn index.commits.items k n) (sym c.to) second in
    let apart : tx_of c.e ≡ tx_of c.f → ⊥ = λ same. c.apart (sym c.from ∙ (same ∙ c.to)) in
    let walk : Reaches (LinkedBy index (record { site = site; item = x; last = max m n })) (tx_of c.e)
    (tx_of c.f) =
    elim (cases_lt m n) [
      | inl early ↦
          let due : IsDue index.commits.items c.f c.e n =
          record { apart = λ same. apart (sym same); number = m; commit = mine; early = omega (arith, early) } in
          let r = (each c.q n c.f x c.second items.1 yours c.p c.e c.first due).before c.before kind c.clash in
          let top : max m n ≡ n = max-eq_right (omega (arith, early)) in
          subst (λ k. Reaches (LinkedBy index (record { site = site; item = x; last = k })) (tx_of c.e)
          (tx_of c.f)) (sym top) r
      | inr late ↦
          let due : IsDue index.commits.items c.e c.f m = record {
            apart = apart;
            number = n;
            commit = yours;
            early =
                late;
          } in
          let r = (each c.p m c.e x c.first items.0 mine c.q c.f c.second due).after (omega (arith, c.before)) kind
          c.clash in
          let top : max m n ≡ m = max-eq_left late in
          subst (λ k. Reaches (LinkedBy index (record { site = site; item = x; last = k })) (tx_of c.e)
          (tx_of c.f)) (sym top) r
    ] in
    subst (λ k. Reaches (LinkedBy index (record { site = site; item = x; last = max m n })) k b) c.from
    (subst (λ k. Reaches (LinkedBy index (record { site = site; item = x; last = max m n })) (tx_of c.e) k)
    c.to walk)
