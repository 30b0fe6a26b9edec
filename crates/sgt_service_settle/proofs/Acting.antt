-- What was done to each item, as a walk over a log meets it.
use Rattle.std.proofs.Common.{◌≡◌, ◌≢◌, ℕ, ◌+◌, ◌<◌, ◌≤◌, List, ◌∷◌, [], ◌++◌, length, Some, sym, ap, ◌∙◌, subst, arith, inl, inr, Contains}
use Rattle.std.specs.Prelude.{◌↔◌, slice_get, slice_set, Vec}
use Rattle.std.specs.declared.alloc.Global.{Global}
use Rattle.std.specs.Ordering.{nat_cmp}
use Rattle.std.specs.Cmp.Lexicographic.{slice_cmp}
use Rattle.std.specs.List.Sorted.{IsNonDecreasingBy, IsPermutation}
use Rattle.std.proofs.lemmas.Bool.{cases_eq}
use Rattle.std.proofs.lemmas.Option.{same_Some, slice_get_within}
use Rattle.std.proofs.lemmas.List.Sorted.{Contains-permutation, IsPermutation-sym}
use Rattle.sgt_names.specs.Name.{Name}
use Rattle.sgt_names.specs.Ordered.{IsRisingBy}
use Rattle.sgt_names.specs.Entry.{item_of}
use Rattle.sgt_names.specs.Log.{Conflicts}
use Rattle.sgt_names.specs.declared.entry.Entry.{Entry}
use Rattle.sgt_names.specs.declared.entry.Holding.{Holding}
use Rattle.sgt_names.specs.declared.entry.Kind.{Kind}
use Rattle.sgt_names.proofs.Places.{Contains_at, Contains-from_at}
use Rattle.sgt_service_settle.specs.declared.acts.Act.{Act}
use Rattle.sgt_service_settle.specs.private.Words.{IsItemAt, At, Pushed}
use Rattle.sgt_service_settle.specs.private.Acts.{actor, IsActOn, AreActs, AreByActor, IsSortedAt, AreBetween}
use Rattle.sgt_service_settle.proofs.Lists.{before_or_here, push_contains, push_old, push_new}
use Rattle.sgt_service_settle.proofs.Placing.{one_item, one_place}
use Rattle.sgt_names.proofs.Elements.{get-slice_set_same, get-slice_set_other}
use Rattle.sgt_notation.proofs.Texts.{clash_items}

-- the rows have the operations before this place
abbrev pub AreActsTo : List Holding → List Entry → ℕ → List (Vec Act Global) → Type 0
AreActsTo items log m acts = (at : ℕ) (x : Name) (row : Vec Act Global) → IsItemAt items x at
    → slice_get acts at ≡ Some row
    → (a : Act) → Contains row.items a ↔ ((a.place < m) × IsActOn log x a)

pub acts_none : (items : List Holding) (log : List Entry) (acts : List (Vec Act Global))
    → ((k n : ℕ) (a : Act) → At acts k n a → ⊥)
    → AreActsTo items log 0 acts
acts_none items log acts none at x row item here a = (
  λ c. let k = Contains_at row.items a c in absurd (none at k.0 a (row, here, k.1)),
  λ k. absurd (omega (arith, k.0)),
)

act_same : (a b : Act) → a.place ≡ b.place → a.entry ≡ b.entry → a ≡ b
act_same a b place entry = λ i. record { place = place i; entry = entry i }

pub acts_next : (items : List Holding) (log : List Entry) (m at0 : ℕ) (e : Entry) (y : Name)
    (acts new : List (Vec Act Global))
    → IsRisingBy (λ (h : Holding). h.item) (slice_cmp nat_cmp) items
    → slice_get log m ≡ Some e → item_of e ≡ Some y → IsItemAt items y at0
    → Pushed acts at0 (record { place = m; entry = e }) new
    → AreActsTo items log m acts → AreActsTo items log (m + 1) new
acts_next items log m at0 e y acts new rising here mine there p old at x row item at_row a =
    let act : Act = record { place = m; entry = e } in
    elim (cases_eq at at0) [
      | inl same ↦
          let is : x ≡ y = one_item items x y at0 (subst (IsItemAt items x) same item) there in
          let after : p.after ≡ row = same_Some p.after row (sym p.now ∙ (ap (slice_get new) (sym same) ∙ at_row)) in
          let more : row.items ≡ p.before.items ++ act ∷ [] = ap (λ (v : Vec Act Global). v.items) (sym after)
          ∙ p.more in
          let was = old at0 x p.before (subst (IsItemAt items x) same item) p.was a in (
            λ c. elim (push_contains p.before.items act a (subst (λ xs. Contains xs a) more c)) [
              | inl early ↦ let k = was.0 early in (omega (arith, k.0), k.1)
              | inr last ↦
                  let place : m ≡ a.place = ap (λ (b : Act). b.place) last in
                  let entry : e ≡ a.entry = ap (λ (b : Act). b.entry) last in
                  let item = ap item_of (sym entry) ∙ (mine ∙ ap Some (sym is)) in
                  (omega (arith, place), (ap (slice_get log) (sym place) ∙ (here ∙ ap Some entry), item))
            ],
            λ k. subst (λ xs. Contains xs a) (sym more) (elim (before_or_here log m a.place e a.entry here k.1.0 k.0) [
              | inl early ↦ push_old p.before.items act a (was.1 (early, k.1))
              | inr last ↦ subst (Contains (p.before.items ++ act ∷ [])) (act_same act a last.0 last.1)
                  (push_new p.before.items act)
            ]),
          )
      | inr other ↦
          let was = old at x row item (sym (p.others at other) ∙ at_row) a in (
            λ c. let k = was.0 c in (omega (arith, k.0), k.1),
            λ k. elim (before_or_here log m a.place e a.entry here k.1.0 k.0) [
              | inl early ↦ was.1 (early, k.1)
              | inr last ↦
                  let is : x ≡ y = same_Some x y (sym k.1.1 ∙ (ap item_of (sym last.1) ∙ mine)) in
                  absurd (other (one_place items y at at0 rising (subst (λ z. IsItemAt items z at) is item) there))
            ],
          )
    ]

-- an entry whose item isn't there
pub acts_skip : (items : List Holding) (log : List Entry) (m : ℕ) (e : Entry) (acts : List (Vec Act Global))
    → slice_get log m ≡ Some e → ((at : ℕ) (x : Name) → item_of e ≡ Some x → IsItemAt items x at → ⊥)
    → AreActsTo items log m acts
    → AreActsTo items log (m + 1) acts
acts_skip items log m e acts here none old at x row item at_row a = (
  λ c. let k = (old at x row item at_row a).0 c in (omega (arith, k.0), k.1),
  λ k. elim (before_or_here log m a.place e a.entry here k.1.0 k.0) [
    | inl early ↦ (old at x row item at_row a).1 (early, k.1)
    | inr last ↦ absurd (none at x (ap item_of last.1 ∙ k.1.1) item)
  ],
)

pub acts_all : (items : List Holding) (log : List Entry) (m : ℕ) (acts : List (Vec Act Global)) → length log ≤ m
    → AreActsTo items log m acts → AreActs items log acts
acts_all items log m acts whole old at x row item at_row a = (
  λ c. ((old at x row item at_row a).0 c).1,
  λ k. (old at x row item at_row a).1 (
    let within = slice_get_within log a.place a.entry k.0 in
        omega (arith, within, whole),
    k,
  ),
)

-- ---- rows that are put in order

pub sorted_row : (acts : List (Vec Act Global)) (at : ℕ) (old row : Vec Act Global) → slice_get acts at ≡ Some old
    → IsPermutation old.items row.items → IsNonDecreasingBy actor row.items → IsSortedAt acts at (slice_set acts at row)
sorted_row acts at old row here same sorted = record {
  others = λ k other. get-slice_set_other acts at k row other;
  before = old;
  after = row;
  was = here;
  now = get-slice_set_same acts at row (slice_get_within acts at old here);
  same = same;
  sorted = sorted;
}

pub acts_sorted : (items : List Holding) (log : List Entry) (at : ℕ) (acts new : List (Vec Act Global))
    → IsSortedAt acts at new
    → AreActs items log acts → AreActs items log new
acts_sorted items log at acts new s old k x row item here a =
    elim (cases_eq k at) [
      | inl same ↦
          let is : s.after ≡ row = same_Some s.after row (sym s.now ∙ (ap (slice_get new) (sym same) ∙ here)) in
          let was = old at x s.before (subst (IsItemAt items x) same item) s.was a in (
            λ c.
                let there : Contains s.after.items a = subst (λ (v : Vec Act Global). Contains v.items a) (sym is) c in
                was.0 (Contains-permutation s.after.items s.before.items a
                (IsPermutation-sym s.before.items s.after.items s.same) there),
            λ d. subst (λ (v : Vec Act Global). Contains v.items a) is
                (Contains-permutation s.before.items s.after.items a s.same (was.1 d)),
          )
      | inr other ↦ old k x row item (sym (s.others k other) ∙ here) a
    ]

-- the rows before this place are in order
abbrev pub AreByActorTo : ℕ → List (Vec Act Global) → Type 0
AreByActorTo n acts = (k : ℕ) (row : Vec Act Global) → k < n → slice_get acts k ≡ Some row
    → IsNonDecreasingBy actor row.items

pub by_actor_next : (n : ℕ) (acts new : List (Vec Act Global)) → IsSortedAt acts n new → AreByActorTo n acts
    → AreByActorTo (n + 1) new
by_actor_next n acts new s old k row low here =
    elim (cases_eq k n) [
      | inl same ↦
          let is : s.after ≡ row = same_Some s.after row (sym s.now ∙ (ap (slice_get new) (sym same) ∙ here)) in
          subst (λ (v : Vec Act Global). IsNonDecreasingBy actor v.items) is s.sorted
      | inr other ↦ old k row (let apart : k ≢ n = other in omega (arith, low, apart)) (sym (s.others k other) ∙ here)
    ]

pub by_actor_all : (n : ℕ) (acts : List (Vec Act Global)) → length acts ≤ n → AreByActorTo n acts → AreByActor acts
by_actor_all n acts whole old at row here = old at row (let low = slice_get_within acts at row here in
    omega (arith, low, whole)) here

-- ---- the acts of two transactions on an item tell their conflicts there

pub between_conflicts : (items : List Holding) (log : List Entry) (acts : List (Vec Act Global)) (at from to : ℕ)
    (row : Vec Act Global)
    → (f t : List Act) (kind : Kind) (x : Name) → AreActs items log acts → IsItemAt items x at
    → slice_get acts at ≡ Some row → from ≢ to
    → ((a : Act) → Contains f a ↔ (Contains row.items a × (actor a ≡ from)))
    → ((a : Act) → Contains t a ↔ (Contains row.items a × (actor a ≡ to)))
    → AreBetween f t kind x ↔ Conflicts log kind x from to
between_conflicts items log acts at from to row f t kind x are item here apart firsts seconds = (
  λ b.
      let mine = (firsts b.a).0 (Contains-from_at f b.n b.a b.first) in
      let yours = (seconds b.b).0 (Contains-from_at t b.m b.b b.second) in
      let first = (are at x row item here b.a).0 mine.0 in
      let second = (are at x row item here b.b).0 yours.0 in
      record {
        p = b.a.place;
        q = b.b.place;
        e = b.a.entry;
        f = b.b.entry;
        before = b.before;
        first = first.0;
        second = second.0;
        from = mine.1;
        to = yours.1;
        apart = apart;
        clash = b.clash;
      },
  λ k.
      let a : Act = record { place = k.p; entry = k.e } in
      let b : Act = record { place = k.q; entry = k.f } in
      let both = clash_items kind x k.e k.f k.clash in
      let first = Contains_at f a ((firsts a).1 ((are at x row item here a).1 (k.first, both.0), k.from)) in
      let second = Contains_at t b ((seconds b).1 ((are at x row item here b).1 (k.second, both.1), k.to)) in
      record {
        n = first.0;
        m = second.0;
        a = a;
        b = b;
        first = first.1;
        second = second.1;
        before = k.before;
        clash = k.clash;
      },
)
