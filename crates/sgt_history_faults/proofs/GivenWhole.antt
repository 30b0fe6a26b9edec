-- The faults of values by what is given, in order.
use Rattle.std.proofs.Common.{◌≡◌, ◌≢◌, ℕ, zero, suc, ◌+◌, ◌-◌, ◌<◌, ◌≤◌, Bool, true, false, List, Option, Some, None, length, refl, sym, ap, ◌∙◌, subst, arith, inl, inr, ◌⊎◌, All, Contains, get_or}
use Rattle.std.specs.Prelude.{slice_get}
use Rattle.std.specs.List.Sorted.{IsPermutation}
use Rattle.std.proofs.lemmas.Bool.{cases_eq, cases_lt, cases_order}
use Rattle.std.proofs.lemmas.Option.{same_Some, slice_get_within, slice_get-get_or, get_or_from_slice_get}
use Rattle.std.proofs.lemmas.List.Sorted.{All-permutation, Contains-permutation}
use Rattle.sgt_names.proofs.Places.{Contains_at, Contains-from_at, All_at}
use Rattle.sgt_names.proofs.Lists.{within_at}
use Rattle.sgt_history.specs.declared.history.Operation.{Operation}
use Rattle.sgt_history.specs.declared.named.Flaw.TheVariants.{Value}
use Rattle.sgt_history.specs.Transaction.{Transaction}
use Rattle.sgt_history.specs.Conflicts.{IsOperation}
use Rattle.sgt_history.specs.Flaws.{IsFaulty, IsOtherValue}
use Rattle.sgt_history_faults.specs.declared.fault.Fault.{Fault}
use Rattle.sgt_history_faults.specs.declared.giving.Given.{Given}
use Rattle.sgt_history_faults.specs.Noted.{Covers}
use Rattle.sgt_history_faults.specs.Judged.{CoversValues}
use Rattle.sgt_history_faults.specs.Given.{IsGivenAt, IsGiven, AreGivenTo, MayStandBefore, AreGivenInOrder, IsOtherThan, AreOthersCovered, AreOthersFaulty}
use Rattle.sgt_history_faults.proofs.Covering.{covers-on}

-- ---- one more

at-both : (given : List Given) (n : ℕ) (d : Given) (k : ℕ) (a b : Given) → 1 ≤ n → n < length given
    → slice_get given k ≡ Some a → slice_get given (suc k) ≡ Some b
    → suc k ≡ n → (get_or given (n - 1) d ≡ a) × (get_or given n d ≡ b)
at-both given n d k a b low lt at at' e =
    let one : k ≡ n - 1 = omega (arith, e) in (
      get_or_from_slice_get given (n - 1) a d (ap (slice_get given) (sym one) ∙ at),
      get_or_from_slice_get given n b d (ap (slice_get given) (sym e) ∙ at'),
    )

pub others-next : (given : List Given) (n : ℕ) (d : Given) (first next : Option Fault) → 1 ≤ n → n < length given
    → AreOthersCovered given n first
    → ((line rank place : ℕ) → Covers first line rank place → Covers next line rank place)
    → (IsOtherThan (get_or given (n - 1) d) (get_or given n d)
    → Covers next (get_or given n d).line 5 (get_or given n d).place)
    → AreOthersCovered given (n + 1) next
others-next given n d first next low lt covered kept this k a b less at at' other =
    elim (cases_eq (suc k) n) [
      | inl e ↦
          let both = at-both given n d k a b low lt at at' e in
          subst (λ u. Covers next u.line 5 u.place) both.1
          (this (subst (λ u. IsOtherThan u (get_or given n d)) (sym both.0) (subst (IsOtherThan a) (sym both.1) other)))
      | inr apart ↦ kept b.line 5 b.place (covered k a b (omega arith) at at' other)
    ]

pub faulty-at : (h : List (Transaction ℕ ℕ)) (given : List Given) (n : ℕ) (d : Given) → 1 ≤ n → n < length given
    → AreOthersFaulty h given
    → IsOtherThan (get_or given (n - 1) d) (get_or given n d)
    → IsFaulty h (get_or given n d).line Value (get_or given n d).place
faulty-at h given n d low lt all other =
    let one : suc (n - 1) ≡ n = omega (arith, low) in
    all (n - 1) (get_or given (n - 1) d) (get_or given n d) (slice_get-get_or given (n - 1) d (omega (arith, low, lt)))
    (ap (slice_get given) one ∙ slice_get-get_or given n d lt) other

-- ---- all

pub given-permuted : (h : List (Transaction ℕ ℕ)) (n : ℕ) (old new : List Given) → IsPermutation old new
    → AreGivenTo h n old → AreGivenTo h n new
given-permuted h n old new p are = record {
  each = All-permutation (IsGiven h) old new p are.each;
  all = λ line place t o v lt is has.
      let f = are.all line place t o v lt is has in
      record {
        g = f.g;
        in_it = Contains-permutation old new f.g p f.in_it;
        line_is = f.line_is;
        place_is =
            f.place_is;
      };
}

-- what is of one version is in order by line and place
by-place : (a b : Given) → MayStandBefore a b → a.item ≡ b.item → a.version ≡ b.version
    → (a.line < b.line) ⊎ ((a.line ≡ b.line) × (a.place ≤ b.place))
by-place a b (inl x) item version = absurd (omega (arith, x, item))
by-place a b (inr (e, inl x)) item version = absurd (omega (arith, x, version))
by-place a b (inr (e, inr (f, x))) item version = x

between : (a m b : Given) → MayStandBefore a m → MayStandBefore m b → a.item ≡ b.item → a.version ≡ b.version
    → (m.item ≡ a.item) × (m.version ≡ a.version)
between a m b (inl x) (inl y) item version = absurd (omega (arith, x, y, item))
between a m b (inl x) (inr (e, y)) item version = absurd (omega (arith, x, e, item))
between a m b (inr (e, x)) (inl y) item version = absurd (omega (arith, e, y, item))
between a m b (inr (e, inl x)) (inr (f, inl y)) item version = absurd (omega (arith, x, y, version))
between a m b (inr (e, inl x)) (inr (f, inr (g, y))) item version = absurd (omega (arith, x, g, version))
between a m b (inr (e, inr (k, x))) (inr (f, inl y)) item version = absurd (omega (arith, k, y, version))
between a m b (inr (e, inr (k, x))) (inr (f, inr (g, y))) item version = (sym e, sym k)

module _ (h : List (Transaction ℕ ℕ)) (n : ℕ) (given : List Given) (are : AreGivenTo h n given)
    (ordered : AreGivenInOrder given) where
  one_operation : (g u : Given) → IsGiven h g → IsGiven h u → g.line ≡ u.line → g.place ≡ u.place → g.value ≡ u.value
  one_operation g u i j line place =
      let t_is : i.t ≡ j.t = same_Some i.t j.t (sym i.is.committed.0 ∙ ap (slice_get h) line ∙ j.is.committed.0) in
      let o_is : i.o ≡ j.o = same_Some i.o j.o (sym i.is.there ∙ ap (slice_get i.t.operations) place
      ∙ ap (λ (k : Transaction ℕ ℕ). slice_get k.operations u.place) t_is ∙ j.is.there) in
      same_Some g.value u.value (sym i.value_is ∙ ap (λ (k : Operation ℕ ℕ). k.value) o_is ∙ j.value_is)

  pub others-faulty : AreOthersFaulty h given
  others-faulty k a b at at' other =
      let i = All_at (IsGiven h) given k a are.each at in
      let j = All_at (IsGiven h) given (suc k) b are.each at' in
      let place = by-place a b (ordered k (suc k) a b (omega arith) at at') other.item_is other.version_is in
      record {
        t = j.t;
        o = j.o;
        is = j.is;
        has = record {
          value = b.value;
          given = j.value_is;
          line_of = a.line;
          place_of = a.place;
          t = i.t;
          other = i.o;
          is = i.is;
          before = elim place [
            | inl lt ↦ inl lt
            | inr (line, most) ↦ elim (cases_eq a.place b.place) [
              | inl e ↦ absurd (other.other (one_operation a b i j line e))
              | inr apart ↦ inr (line, omega (arith, most, apart))
            ]
          ];
          item_is = sym i.item_is ∙ other.item_is ∙ j.item_is;
          version_is = sym i.version_is ∙ other.version_is ∙ j.version_is;
          value_of = a.value;
          given_of = i.value_is;
          apart = λ e. other.other (sym e);
        };
      }

  -- between two values of a version that are apart one is another than the one before it
  record IsChange (i j : ℕ) (b : Given) : Type 0 where
    k : ℕ
    a : Given
    c : Given
    from : i ≤ k
    to : k < j
    at : slice_get given k ≡ Some a
    next : slice_get given (suc k) ≡ Some c
    other : IsOtherThan a c
    item_is : c.item ≡ b.item
    version_is : c.version ≡ b.version

  change : (top i j : ℕ) (a b : Given) → j ≤ i + top → i < j → slice_get given i ≡ Some a → slice_get given j ≡ Some b
      → a.item ≡ b.item → a.version ≡ b.version
      → a.value ≢ b.value → IsChange i j b
  change zero i j a b le lt at at' item version apart = absurd (omega (arith, le, lt))
  change (suc top) i j a b le lt at at' item version apart =
      let m = within_at given (suc i) (omega (arith, lt, slice_get_within given j b at')) in
      let m_is : (m.0.item ≡ a.item) × (m.0.version ≡ a.version) = elim (cases_eq (suc i) j) [
        | inl e ↦
            let same = same_Some m.0 b (sym m.1 ∙ ap (slice_get given) e ∙ at') in
            (ap (λ (u : Given). u.item) same ∙ sym item, ap (λ (u : Given). u.version) same ∙ sym version)
        | inr more ↦ between a m.0 b (ordered i (suc i) a m.0 (omega arith) at m.1)
            (ordered (suc i) j m.0 b (omega (arith, lt, more)) m.1 at') item version
      ] in
      elim (cases_eq a.value m.0.value) [
        | inr other ↦ record {
          k = i;
          a = a;
          c = m.0;
          from = omega arith;
          to = lt;
          at = at;
          next = m.1;
          other = record { item_is = sym m_is.0; version_is = sym m_is.1; other = other };
          item_is = m_is.0 ∙ item;
          version_is = m_is.1 ∙ version;
        }
        | inl same ↦ elim (cases_eq (suc i) j) [
          | inl e ↦
              let m_b = same_Some m.0 b (sym m.1 ∙ ap (slice_get given) e ∙ at') in
              absurd (apart (same ∙ ap (λ (u : Given). u.value) m_b))
          | inr more ↦
              let rest = change top (suc i) j m.0 b (omega (arith, le)) (omega (arith, lt, more)) m.1 at' (m_is.0
              ∙ item) (m_is.1 ∙ version) (λ f. apart (same ∙ f)) in
              record {
                k = rest.k;
                a = rest.a;
                c = rest.c;
                from = omega (arith, rest.from);
                to = rest.to;
                at = rest.at;
                next = rest.next;
                other = rest.other;
                item_is = rest.item_is;
                version_is = rest.version_is;
              }
        ]
      ]

  pub values-covered : (first : Option Fault) → AreOthersCovered given (length given) first → length h ≤ n
      → CoversValues h first
  values-covered first covered most line place t o is v =
      let mine = are.all line place t o v.value (omega (arith, slice_get_within h line t is.committed.0, most)) is
      v.given in
      let yours =
      are.all v.line_of v.place_of v.t v.other v.value_of
      (omega (arith, slice_get_within h v.line_of v.t v.is.committed.0, most)) v.is v.given_of in
      let at = Contains_at given mine.g mine.in_it in
      let at' = Contains_at given yours.g yours.in_it in
      let i = All_at (IsGiven h) given at.0 mine.g are.each at.1 in
      let j = All_at (IsGiven h) given at'.0 yours.g are.each at'.1 in
      let same_i = same-op mine.g line place t o i mine.line_is mine.place_is is in
      let same_j = same-op yours.g v.line_of v.place_of v.t v.other j yours.line_is yours.place_is v.is in
      let item : yours.g.item ≡ mine.g.item =
      j.item_is ∙ ap (λ (k : Operation ℕ ℕ). k.item) same_j ∙ v.item_is
      ∙ sym (ap (λ (k : Operation ℕ ℕ). k.item) same_i) ∙ sym i.item_is in
      let version : yours.g.version ≡ mine.g.version =
      j.version_is ∙ ap (λ (k : Operation ℕ ℕ). k.version) same_j ∙ v.version_is
      ∙ sym (ap (λ (k : Operation ℕ ℕ). k.version) same_i) ∙ sym i.version_is in
      let values : yours.g.value ≢ mine.g.value = λ e. v.apart (
      same_Some v.value mine.g.value (sym v.given ∙ sym (ap (λ (k : Operation ℕ ℕ). k.value) same_i) ∙ i.value_is)
      ∙ sym e
      ∙ same_Some yours.g.value v.value_of (sym j.value_is ∙ ap (λ (k : Operation ℕ ℕ). k.value) same_j
      ∙ v.given_of)) in
      let before : (yours.g.line < mine.g.line) ⊎ ((yours.g.line ≡ mine.g.line) × (yours.g.place < mine.g.place)) =
      elim v.before [
        | inl lt ↦ inl (omega (arith, lt, mine.line_is, yours.line_is))
        | inr (e, lt) ↦ inr (yours.line_is ∙ e ∙ sym mine.line_is, omega (arith, lt, mine.place_is, yours.place_is))
      ] in
      let less = comes-first yours.g mine.g at'.0 at.0 at'.1 at.1 item version values before in
      let x = change at.0 at'.0 at.0 yours.g mine.g (omega arith) less at'.1 at.1 item version values in
      let told =
      elim (cases_eq (suc x.k) at.0) as (λ s. (x.c.line < mine.g.line)
      ⊎ ((x.c.line ≡ mine.g.line) × (x.c.place ≤ mine.g.place))) [
        | inl e ↦
            let c_is = same_Some x.c mine.g (sym x.next ∙ ap (slice_get given) e ∙ at.1) in
            inr (ap (λ (u : Given). u.line) c_is, omega (arith, ap (λ (u : Given). u.place) c_is))
        | inr more ↦ by-place x.c mine.g (ordered (suc x.k) at.0 x.c mine.g (omega (arith, x.to, more)) x.next at.1)
            x.item_is x.version_is
      ] in
      covers-on first x.c.line 5 x.c.place line 5 place
      (covered x.k x.a x.c (slice_get_within given (suc x.k) x.c x.next) x.at x.next x.other)
      (elim told [
        | inl lt ↦ inl (omega (arith, lt, mine.line_is))
        | inr (e, p) ↦ inr (e ∙ mine.line_is, inr (refl, omega (arith, p, mine.place_is)))
      ])
    where
      same-op : (g : Given) (line place : ℕ) (t : Transaction ℕ ℕ) (o : Operation ℕ ℕ) → (i : IsGiven h g)
          → g.line ≡ line → g.place ≡ place
          → IsOperation h line place t o → i.o ≡ o
      same-op g line place t o i l p is =
          let t_is : i.t ≡ t = same_Some i.t t (sym i.is.committed.0 ∙ ap (slice_get h) l ∙ is.committed.0) in
          same_Some i.o o (sym i.is.there ∙ ap (slice_get i.t.operations) p
          ∙ ap (λ (k : Transaction ℕ ℕ). slice_get k.operations place) t_is ∙ is.there)

      comes-first : (a b : Given) (i j : ℕ) → slice_get given i ≡ Some a → slice_get given j ≡ Some b
          → a.item ≡ b.item → a.version ≡ b.version → a.value ≢ b.value
          → (a.line < b.line) ⊎ ((a.line ≡ b.line) × (a.place < b.place)) → i < j
      comes-first a b i j at at' item version values before = elim (cases_order i j) [
        | inl e ↦ absurd (values (ap (λ (u : Given). u.value) (same_Some a b (sym at ∙ ap (slice_get given) e ∙ at'))))
        | inr (inl lt) ↦ lt
        | inr (inr gt) ↦
            let back = by-place b a (ordered j i b a gt at' at) (sym item) (sym version) in
            absurd (elim before [
              | inl lt ↦ elim back [ inl x ↦ omega (arith, lt, x) | inr (e, x) ↦ omega (arith, lt, e) ]
              | inr (e, lt) ↦ elim back [ inl x ↦ omega (arith, e, x) | inr (f, x) ↦ omega (arith, lt, x) ]
            ])
      ]
