-- The edges of a transaction as a list: the conflicts in a log, gone through pair by pair.
use Rattle.std.proofs.Common.{◌≡◌, ◌<◌, ℕ, zero, suc, Bool, true, false, List, [], ◌∷◌, ◌++◌, refl, sym, ◌∙◌, arith, ◌⊎◌, inl, inr, Contains, Option, Some, None, subst, ap}
use Rattle.std.specs.Prelude.{◌==◌, ◌&&◌, ◌||◌, not, slice_get, filter, if◌then◌else◌}
use Rattle.std.specs.List.{flat_map}
use Rattle.std.specs.Bool.{Decides}
use Rattle.std.specs.Str.{bytes_eq}
use Rattle.std.proofs.lemmas.Bool.{cases_Bool, true≢false}
use Rattle.std.proofs.lemmas.Bool.Decides.{Decides-eqb, Decides-not, Decides-and, Decides-or, Decides-like}
use Rattle.std.proofs.lemmas.List.Elements.{Contains-append_cases, Contains-append_left, Contains-append_right}
use Rattle.std.proofs.lemmas.Option.{same_Some}
use Rattle.std.proofs.lemmas.Slice.Eq.{bytes_eq-Decides}
use Rattle.sgt_names.specs.Name.{Name}
use Rattle.sgt_names.specs.Entry.{tx_of, item_of, is_increment, Reads, Writes, Clash}
use Rattle.sgt_names.specs.Log.{Conflicts}
use Rattle.sgt_names.specs.declared.entry.Entry.{Entry}
use Rattle.sgt_names.specs.declared.entry.Entry.TheVariants as entry
use Rattle.sgt_names.specs.declared.entry.Kind.{Kind}
use Rattle.sgt_names.specs.declared.entry.Kind.TheVariants.{Wr, Rw, Ww}
use Rattle.sgt_names.proofs.Places.{Contains_at, Contains-from_at}
use Rattle.sgt_certifier.specs.Certifier.{Arc}
use Rattle.sgt_certifier.proofs.Members.{cons_here, filter_member, member_filter}
use Rattle.sgt_core_model.specs.Core.{CoreState, sites_of, followed, AreEdges}
use Rattle.sgt_core_model.proofs.Kept.{IsSound}
use Rattle.sgt_core_model.proofs.Walks.{edge_site}
use Rattle.sgt_core_model.proofs.Faults.{is_in, is_in-Decides}
use Rattle.sgt_core_model.proofs.Runs.{is_site}
use Rattle.sgt_notation.proofs.DecidableEntries.{clash-item}
use Rattle.sgt_names.proofs.Elements.{contains-cases, contains-later, contains-none}

-- ---- two entries

abbrev pub reads : Name → Entry → Bool
reads x (entry.Read tx y v) = bytes_eq y x
reads x _ = false

abbrev pub writes : Name → Entry → Bool
writes x (entry.Write tx y v) = bytes_eq y x
writes x (entry.Add tx y v) = bytes_eq y x
writes x (entry.Want tx y v) = bytes_eq y x
writes x (entry.WantAdd tx y v) = bytes_eq y x
writes x _ = false

pub never : Decides false ⊥
never = (λ e. absurd (true≢false (sym e)), λ n. absurd n)

reads-Decides : (x : Name) (e : Entry) → Decides (reads x e) (Reads x e)
reads-Decides x (entry.Read tx y v) = bytes_eq-Decides y x
reads-Decides x _ = never

writes-Decides : (x : Name) (e : Entry) → Decides (writes x e) (Writes x e)
writes-Decides x (entry.Write tx y v) = bytes_eq-Decides y x
writes-Decides x (entry.Add tx y v) = bytes_eq-Decides y x
writes-Decides x (entry.Want tx y v) = bytes_eq-Decides y x
writes-Decides x (entry.WantAdd tx y v) = bytes_eq-Decides y x
writes-Decides x _ = never

-- not both are increments
both-Decides : (a b : Bool) → Decides (not (a && b)) (a ≡ true → b ≡ true → ⊥)
both-Decides true true = (λ e. absurd (true≢false (sym e)), λ n. absurd (n refl refl))
both-Decides true false = (λ e p q. true≢false (sym q), λ n. refl)
both-Decides false b = (λ e p q. true≢false (sym p), λ n. refl)

abbrev pub clashes : Kind → Name → Entry → Entry → Bool
clashes Wr x e f = writes x e && reads x f
clashes Rw x e f = reads x e && writes x f
clashes Ww x e f = writes x e && (writes x f && not (is_increment e && is_increment f))

clashes-Decides : (kind : Kind) (x : Name) (e f : Entry) → Decides (clashes kind x e f) (Clash kind x e f)
clashes-Decides Wr x e f = Decides-and (writes x e) (reads x f) (writes-Decides x e) (reads-Decides x f)
clashes-Decides Rw x e f = Decides-and (reads x e) (writes x f) (reads-Decides x e) (writes-Decides x f)
clashes-Decides Ww x e f =
    Decides-like (writes x e && (writes x f && not (is_increment e && is_increment f))) (λ k. (k.0, k.1.0, k.1.1))
    (λ k. (k.0, (k.1, k.2)))
    (Decides-and (writes x e) (writes x f && not (is_increment e && is_increment f)) (writes-Decides x e)
    (Decides-and (writes x f) (not (is_increment e && is_increment f)) (writes-Decides x f)
    (both-Decides (is_increment e) (is_increment f))))

-- ---- the arcs of two entries

abbrev pub arc_of : ℕ → Name → Entry → Entry → Kind → Arc
arc_of s x e f kind = record { from = tx_of e; to = tx_of f; label = record { site = s; item = x; kind = kind } }

abbrev pub conflicting : Name → Entry → Entry → Kind → Bool
conflicting x e f kind = clashes kind x e f && not (tx_of e == tx_of f)

abbrev pub with_item : ℕ → Option Name → Entry → Entry → Kind → List Arc
with_item s None e f kind = []
with_item s (Some x) e f kind = if conflicting x e f kind then arc_of s x e f kind ∷ [] else []

abbrev pub of_pair : ℕ → Entry → Entry → List Arc
of_pair s e f = with_item s (item_of e) e f Wr ++ (with_item s (item_of e) e f Rw ++ with_item s (item_of e) e f Ww)

-- the arc is that of a conflict of these two entries
record IsOfPair (s : ℕ) (e f : Entry) (arc : Arc) : Type 0 where
  pub site : arc.label.site ≡ s
  pub from : tx_of e ≡ arc.from
  pub to : tx_of f ≡ arc.to
  pub apart : arc.from ≡ arc.to → ⊥
  pub clash : Clash arc.label.kind arc.label.item e f

item_arc : (s : ℕ) (o : Option Name) (e f : Entry) (kind : Kind) (arc : Arc) → Contains (with_item s o e f kind) arc
    → IsOfPair s e f arc
item_arc s None e f kind arc m = absurd (contains-none arc m)
item_arc s (Some x) e f kind arc m =
    elim (cases_Bool (conflicting x e f kind)) [
      | inl hit ↦
          elim (contains-cases (arc_of s x e f kind) [] arc
          (subst (λ b. Contains (if b then arc_of s x e f kind ∷ [] else []) arc) hit m)) [
            | inl is ↦
                let apart = Decides-not (tx_of e == tx_of f) (Decides-eqb (tx_of e) (tx_of f)) in
                let both =
                (Decides-and (clashes kind x e f) (not (tx_of e == tx_of f)) (clashes-Decides kind x e f) apart).0
                hit in
                subst (IsOfPair s e f) is (record {
                  site = refl;
                  from = refl;
                  to = refl;
                  apart = both.1;
                  clash =
                      both.0;
                })
            | inr none ↦ absurd (contains-none arc none)
          ]
      | inr miss ↦ absurd
          (contains-none arc (subst (λ b. Contains (if b then arc_of s x e f kind ∷ [] else []) arc) miss m))
    ]

pair_arc : (s : ℕ) (e f : Entry) (arc : Arc) → Contains (of_pair s e f) arc → IsOfPair s e f arc
pair_arc s e f arc m =
    let o = item_of e in
    elim (Contains-append_cases (with_item s o e f Wr) (with_item s o e f Rw ++ with_item s o e f Ww) arc m) [
      | inl first ↦ item_arc s o e f Wr arc first
      | inr rest ↦ elim (Contains-append_cases (with_item s o e f Rw) (with_item s o e f Ww) arc rest) [
        | inl second ↦ item_arc s o e f Rw arc second
        | inr third ↦ item_arc s o e f Ww arc third
      ]
    ]

made_arc : (s : ℕ) (x : Name) (e f : Entry) (kind : Kind) → Clash kind x e f → (tx_of e ≡ tx_of f → ⊥)
    → Contains (with_item s (item_of e) e f kind) (arc_of s x e f kind)
made_arc s x e f kind clash apart =
    let differ = (Decides-not (tx_of e == tx_of f) (Decides-eqb (tx_of e) (tx_of f))).1 apart in
    let hit : conflicting x e f kind ≡ true = rw ((clashes-Decides kind x e f).1 clash) differ in
    let there : Contains (with_item s (Some x) e f kind) (arc_of s x e f kind)
    = subst (λ b. Contains (if b then arc_of s x e f kind ∷ [] else []) (arc_of s x e f kind)) (sym hit)
    (cons_here (arc_of s x e f kind) []) in
    subst (λ o. Contains (with_item s o e f kind) (arc_of s x e f kind)) (sym (clash-item kind x e f clash)) there

of_kind : (s : ℕ) (e f : Entry) (arc : Arc) (kind : Kind) → Contains (with_item s (item_of e) e f kind) arc
    → Contains (of_pair s e f) arc
of_kind s e f arc Wr m = Contains-append_left (with_item s (item_of e) e f Wr) _ arc m
of_kind s e f arc Rw m =
    Contains-append_right (with_item s (item_of e) e f Wr) _ arc
    (Contains-append_left (with_item s (item_of e) e f Rw) (with_item s (item_of e) e f Ww) arc m)
of_kind s e f arc Ww m =
    Contains-append_right (with_item s (item_of e) e f Wr) _ arc
    (Contains-append_right (with_item s (item_of e) e f Rw) (with_item s (item_of e) e f Ww) arc m)

made_pair : (s : ℕ) (e f : Entry) (x : Name) (kind : Kind) → Clash kind x e f → (tx_of e ≡ tx_of f → ⊥)
    → Contains (of_pair s e f) (arc_of s x e f kind)
made_pair s e f x kind clash apart = of_kind s e f (arc_of s x e f kind) kind (made_arc s x e f kind clash apart)

-- ---- the arcs of a log

abbrev pub arcs_in : ℕ → List Entry → List Arc
arcs_in s [] = []
arcs_in s (e ∷ es) = flat_map (of_pair s e) es ++ arcs_in s es

-- what is made of an element is in what is made of all
flat_in : {A B : Type 0} (f : A → List B) (xs : List A) (x : A) (y : B) → Contains xs x → Contains (f x) y
    → Contains (flat_map f xs) y
flat_in f [] x y c m = absurd (contains-none x c)
flat_in f (z ∷ zs) x y c m = elim (contains-cases z zs x c) [
  | inl is ↦ Contains-append_left (f z) (flat_map f zs) y (subst (λ w. Contains (f w) y) (sym is) m)
  | inr later ↦ Contains-append_right (f z) (flat_map f zs) y (flat_in f zs x y later m)
]

flat_from : {A B : Type 0} (f : A → List B) (xs : List A) (y : B) → Contains (flat_map f xs) y
    → (x : A) × Contains xs x × Contains (f x) y
flat_from f [] y m = absurd (contains-none y m)
flat_from f (z ∷ zs) y m = elim (Contains-append_cases (f z) (flat_map f zs) y m) [
  | inl here ↦ (z, cons_here z zs, here)
  | inr later ↦ let r = flat_from f zs y later in (r.0, contains-later z zs r.0 r.1, r.2)
]

-- a later conflict is one of the longer log
conflict_later : (e : Entry) (es : List Entry) (kind : Kind) (x : Name) (a b : ℕ) → Conflicts es kind x a b
    → Conflicts (e ∷ es) kind x a b
conflict_later e es kind x a b h = record {
  p = suc h.p;
  q = suc h.q;
  e = h.e;
  f = h.f;
  before = let lt = h.before in omega arith;
  first = h.first;
  second = h.second;
  from = h.from;
  to = h.to;
  apart = h.apart;
  clash = h.clash;
}

arcs_are : (s : ℕ) (es : List Entry) (arc : Arc) → Contains (arcs_in s es) arc
    → (arc.label.site ≡ s) × Conflicts es arc.label.kind arc.label.item arc.from arc.to
arcs_are s [] arc m = absurd (contains-none arc m)
arcs_are s (e ∷ es) arc m = elim (Contains-append_cases (flat_map (of_pair s e) es) (arcs_in s es) arc m) [
  | inl here ↦
      let r = flat_from (of_pair s e) es arc here in
      let at = Contains_at es r.0 r.1 in
      let pair = pair_arc s e r.0 arc r.2 in (
        pair.site,
        record {
          p = 0;
          q = suc at.0;
          e = e;
          f = r.0;
          before = omega arith;
          first = refl;
          second = at.1;
          from = pair.from;
          to = pair.to;
          apart = pair.apart;
          clash = pair.clash;
        },
      )
  | inr later ↦ let r = arcs_are s es arc later in
      (r.0, conflict_later e es arc.label.kind arc.label.item arc.from arc.to r.1)
]

arcs_have : (s : ℕ) (es : List Entry) (p q : ℕ) (e f : Entry) (kind : Kind) (x : Name) → p < q
    → slice_get es p ≡ Some e → slice_get es q ≡ Some f
    → (tx_of e ≡ tx_of f → ⊥) → Clash kind x e f → Contains (arcs_in s es) (arc_of s x e f kind)
arcs_have s [] p q e f kind x lt at_p at_q apart clash = absurd cc
arcs_have s (g ∷ gs) p zero e f kind x lt at_p at_q apart clash = absurd (omega arith)
arcs_have s (g ∷ gs) zero (suc q) e f kind x lt at_p at_q apart clash =
    let g_is : g ≡ e = same_Some g e at_p in
    Contains-append_left (flat_map (of_pair s g) gs) (arcs_in s gs) (arc_of s x e f kind)
    (flat_in (of_pair s g) gs f (arc_of s x e f kind) (Contains-from_at gs q f at_q)
    (subst (λ h. Contains (of_pair s h f) (arc_of s x e f kind)) (sym g_is) (made_pair s e f x kind clash apart)))
arcs_have s (g ∷ gs) (suc p) (suc q) e f kind x lt at_p at_q apart clash =
    Contains-append_right (flat_map (of_pair s g) gs) (arcs_in s gs) (arc_of s x e f kind)
    (arcs_have s gs p q e f kind x (omega arith) at_p at_q apart clash)

-- ---- the edges of a transaction

abbrev pub joins_committed : CoreState → ℕ → Arc → Bool
joins_committed c i arc =
    ((arc.from == i) && is_in c.certifier.order arc.to) || ((arc.to == i) && is_in c.certifier.order arc.from)

abbrev IsJoined : CoreState → ℕ → Arc → Type 0
IsJoined c i arc = ((arc.from ≡ i) × Contains c.certifier.order arc.to)
    ⊎ ((arc.to ≡ i) × Contains c.certifier.order arc.from)

joined-Decides : (c : CoreState) (i : ℕ) (arc : Arc) → Decides (joins_committed c i arc) (IsJoined c i arc)
joined-Decides c i arc =
    let order = c.certifier.order in
    Decides-or ((arc.from == i) && is_in order arc.to) ((arc.to == i) && is_in order arc.from)
    (Decides-and (arc.from == i) (is_in order arc.to) (Decides-eqb arc.from i) (is_in-Decides order arc.to))
    (Decides-and (arc.to == i) (is_in order arc.from) (Decides-eqb arc.to i) (is_in-Decides order arc.from))

abbrev pub all_arcs : CoreState → ℕ → List Arc
all_arcs c i = flat_map (λ s. arcs_in s (followed c i s)) (sites_of c)

-- the edges of i, as a list
abbrev pub edges_of : CoreState → ℕ → List Arc
edges_of c i = filter (joins_committed c i) (all_arcs c i)

pub edges_are : (c : CoreState) (i : ℕ) → IsSound c → AreEdges c i (edges_of c i)
edges_are c i h arc = (
  λ m.
      let kept = filter_member (joins_committed c i) (all_arcs c i) arc m in
      let r = flat_from (λ s. arcs_in s (followed c i s)) (sites_of c) arc kept.0 in
      let found = arcs_are r.0 (followed c i r.0) arc r.2 in
      record {
        ends = (joined-Decides c i arc).0 kept.1;
        conflict = subst (λ s. Conflicts (followed c i s) arc.label.kind arc.label.item arc.from arc.to)
            (sym found.0) found.1;
      },
  λ e.
      let k = e.conflict in
      let s = arc.label.site in
      let inside = is_site c s (edge_site c i arc h.walked h.legal e).0 in
      let differ : tx_of k.e ≡ tx_of k.f → ⊥ = λ same. k.apart (sym k.from ∙ same ∙ k.to) in
      let there = arcs_have s (followed c i s) k.p k.q k.e k.f arc.label.kind arc.label.item k.before k.first k.second
      differ k.clash in
      let there2 : Contains (arcs_in s (followed c i s)) arc =
      subst (λ a. Contains (arcs_in s (followed c i s)) (record { from = a; to = arc.to; label = arc.label }))
      k.from
      (subst (λ b. Contains (arcs_in s (followed c i s)) (record { from = tx_of k.e; to = b; label = arc.label }))
      k.to there) in
      member_filter (joins_committed c i) (all_arcs c i) arc
      (flat_in (λ t. arcs_in t (followed c i t)) (sites_of c) s arc inside there2)
      ((joined-Decides c i arc).1 e.ends),
)
