-- The pairs of touches of a history without faults are its conflicts.
use Rattle.std.proofs.Common.{◌≡◌, ◌≢◌, ℕ, zero, suc, ◌+◌, ◌-◌, ◌<◌, ◌≤◌, Bool, true, false, List, Option, Some, None, length, refl, sym, ap, ◌∙◌, subst, arith, inl, inr, ◌⊎◌, Contains}
use Rattle.std.specs.Prelude.{slice_get}
use Rattle.std.proofs.lemmas.Bool.{cases_eq, cases_lt, cases_order}
use Rattle.std.proofs.lemmas.Option.{same_Some, slice_get_within}
use Rattle.sgt_names.proofs.Lists.{All_in, within_at}
use Rattle.sgt_names.proofs.Places.{Contains_at, Contains-from_at}
use Rattle.sgt_notation.proofs.Decidable.{Decidable, decidable-as, decidable-both}
use Rattle.sgt_history.specs.declared.history.Kind.{Kind}
use Rattle.sgt_history.specs.declared.history.Kind.TheVariants.{Read, Write}
use Rattle.sgt_history.specs.declared.history.Operation.{Operation}
use Rattle.sgt_history.specs.declared.named.Conflict.{Conflict}
use Rattle.sgt_history.specs.declared.named.Conflict.TheVariants.{WriteWrite, WriteRead, ReadWrite}
use Rattle.sgt_history.specs.Transaction.{Transaction}
use Rattle.sgt_history.specs.Serial.{IsWriteOf}
use Rattle.sgt_history.specs.Conflicts.{IsOperation, Writes, Reads, IsNext, HaveConflict}
use Rattle.sgt_history.specs.Flaws.{IsFaultless}
use Rattle.sgt_history_faults.specs.declared.touch.Touch.{Touch}
use Rattle.sgt_history_faults.specs.Touch.{IsTouch, IsTouched, AreTouches}
use Rattle.sgt_history_faults.specs.Order.{reads_of, MayPrecede, AreInOrder}
use Rattle.sgt_history_conflicts.specs.Pairs.{IsWritten, Meets, NoneBetween, IsPair}
use Rattle.sgt_history.proofs.Agreeing.{one_writer}
use Rattle.sgt_history.proofs.Search.{decidable-kind}

-- ---- a search

decidable-bool : (b : Bool) → Decidable (b ≡ true)
decidable-bool true = inl refl
decidable-bool false = inr (λ e. cc)

decidable-written : (e : Touch) → Decidable (IsWritten e)
decidable-written e = decidable-as (λ p. record { write = p.0; commits = p.1 }) (λ w. (w.write, w.commits))
    (decidable-both (decidable-kind e.kind) (decidable-bool e.commits))

-- the last of those before the place, from one of them on
record IsNearest (touches : List Touch) (P : Touch → Type 0) (i k : ℕ) : Type 0 where
  p : ℕ
  e : Touch
  from : i ≤ p
  to : p < k
  at : slice_get touches p ≡ Some e
  is : P e
  none : (m : ℕ) (u : Touch) → p < m → m < k → slice_get touches m ≡ Some u → P u → ⊥

nearest : (touches : List Touch) (P : Touch → Type 0) → ((e : Touch) → Decidable (P e)) → (i k : ℕ) (a : Touch)
    → i < k → k ≤ length touches
    → slice_get touches i ≡ Some a → P a → IsNearest touches P i k
nearest touches P each i zero a lt le at is = absurd (omega arith)
nearest touches P each i (suc k) a lt le at is =
    let m = within_at touches k (omega (arith, le)) in
    elim (each m.0) [
      | inl yes1 ↦ record {
        p = k;
        e = m.0;
        from = omega (arith, lt);
        to = omega arith;
        at = m.1;
        is = yes1;
        none = λ n u above below there p. absurd (omega (arith, above, below));
      }
      | inr never ↦
          let less : i < k = elim (cases_eq i k) [
            | inl e ↦ absurd (never (subst P (same_Some a m.0 (sym at ∙ ap (slice_get touches) e ∙ m.1)) is))
            | inr apart ↦ omega (arith, lt, apart)
          ] in
          let n = nearest touches P each i k a less (omega (arith, le)) at is in
          record {
            p = n.p;
            e = n.e;
            from = n.from;
            to = omega (arith, n.to);
            at = n.at;
            is = n.is;
            none = λ q u above below there p. elim (cases_eq q k) [
              | inl e ↦ never (subst P (same_Some u m.0 (sym there ∙ ap (slice_get touches) e ∙ m.1)) p)
              | inr apart ↦ n.none q u above (omega (arith, below, apart)) there p
            ];
          }
    ]

-- the first of those from a place on
record IsNearestBehind (touches : List Touch) (P : Touch → Type 0) (i k : ℕ) : Type 0 where
  p : ℕ
  e : Touch
  from : i ≤ p
  to : p ≤ k
  at : slice_get touches p ≡ Some e
  is : P e
  none : (m : ℕ) (u : Touch) → i ≤ m → m < p → slice_get touches m ≡ Some u → P u → ⊥

behind : (touches : List Touch) (P : Touch → Type 0) → ((e : Touch) → Decidable (P e)) → (top i k : ℕ) (b : Touch)
    → k ≤ i + top → i ≤ k
    → slice_get touches k ≡ Some b → P b → IsNearestBehind touches P i k
behind touches P each zero i k b most le at is =
    record {
      p = k;
      e = b;
      from = le;
      to = omega arith;
      at = at;
      is = is;
      none =
          λ n u above below there p. absurd (omega (arith, above, below, most));
    }
behind touches P each (suc top) i k b most le at is =
    let m = within_at touches i (omega (arith, le, slice_get_within touches k b at)) in
    elim (each m.0) [
      | inl yes1 ↦ record {
        p = i;
        e = m.0;
        from = omega arith;
        to = le;
        at = m.1;
        is = yes1;
        none =
            λ n u above below there p. absurd (omega (arith, above, below));
      }
      | inr never ↦
          let less : i < k = elim (cases_eq i k) [
            | inl e ↦ absurd (never (subst P (same_Some b m.0 (sym at ∙ ap (slice_get touches) (sym e) ∙ m.1)) is))
            | inr apart ↦ omega (arith, le, apart)
          ] in
          let n = behind touches P each top (suc i) k b (omega (arith, most)) less at is in
          record {
            p = n.p;
            e = n.e;
            from = omega (arith, n.from);
            to = n.to;
            at = n.at;
            is = n.is;
            none = λ q u above below there p. elim (cases_eq q i) [
              | inl e ↦ never (subst P (same_Some u m.0 (sym there ∙ ap (slice_get touches) e ∙ m.1)) p)
              | inr apart ↦ n.none q u (omega (arith, above, apart)) below there p
            ];
          }
    ]

-- ---- what order says

-- what stands between two of one item is of it, and of a version between
between : (a m b : Touch) → MayPrecede a m → MayPrecede m b → a.item ≡ b.item
    → (m.item ≡ a.item) × (a.version ≤ m.version) × (m.version ≤ b.version)
between a m b (inl x) (inl y) i = absurd (omega (arith, x, y, i))
between a m b (inl x) (inr (e, y)) i = absurd (omega (arith, x, e, i))
between a m b (inr (e, x)) (inl y) i = absurd (omega (arith, e, y, i))
between a m b (inr (e, x)) (inr (f, y)) i = (sym e, least x, least y)
  where
    least : {p q : ℕ} {X : Type 0} → (p < q) ⊎ ((p ≡ q) × X) → p ≤ q
    least (inl lt) = omega (arith, lt)
    least (inr (e, x)) = omega (arith, e)

versions-rise : (a b : Touch) → MayPrecede a b → a.item ≡ b.item → a.version ≤ b.version
versions-rise a b (inl x) i = absurd (omega (arith, x, i))
versions-rise a b (inr (e, inl x)) i = omega (arith, x)
versions-rise a b (inr (e, inr (f, x))) i = omega (arith, f)

-- of one version no write stands behind a read
kinds-rise : (a b : Touch) → MayPrecede a b → a.item ≡ b.item → a.version ≡ b.version → a.kind ≡ Read → b.kind ≡ Write
    → ⊥
kinds-rise a b (inl x) i v r w = absurd (omega (arith, x, i))
kinds-rise a b (inr (e, inl x)) i v r w = absurd (omega (arith, x, v))
kinds-rise a b (inr (e, inr (f, inl x))) i v r w = absurd (omega (arith, x, ap reads_of r, ap reads_of w))
kinds-rise a b (inr (e, inr (f, inr (g, x)))) i v r w = absurd (omega (arith, g, ap reads_of r, ap reads_of w))

module _ (h : List (Transaction ℕ ℕ)) (touches : List Touch) (are : AreTouches h touches)
    (ordered : AreInOrder touches) where
  touch-at : (i : ℕ) (e : Touch) → slice_get touches i ≡ Some e → IsTouch h e
  touch-at i e at = All_in (IsTouch h) touches e are.each (Contains-from_at touches i e at)

  operation : (e : Touch) → (i : IsTouch h e) → e.commits ≡ true → IsOperation h e.line e.place i.t i.of.o
  operation e i commits = record { committed = (i.in_line, sym i.of.commits_is ∙ commits); there = i.of.there }

  writes-at : (i : ℕ) (e : Touch) (x v : ℕ) → slice_get touches i ≡ Some e → IsWritten e → e.item ≡ x → e.version ≡ v
      → Writes h e.line x v
  writes-at i e x v at w item version =
      let t = touch-at i e at in
      record {
        place = e.place;
        t = t.t;
        o = t.of.o;
        is = operation e t w.commits;
        writes = record { write = sym t.of.kind_is ∙ w.write; item = sym t.of.item_is ∙ item };
        version_is = sym t.of.version_is ∙ version;
      }

  reads-at : (i : ℕ) (e : Touch) (x v : ℕ) → slice_get touches i ≡ Some e → e.kind ≡ Read → e.item ≡ x → e.version ≡ v
      → Reads h e.line x v
  reads-at i e x v at read item version =
      let t = touch-at i e at in
      let r = t.of.read (sym t.of.kind_is ∙ read) in
      record {
        place = e.place;
        t = t.t;
        o = t.of.o;
        is = record { committed = (t.in_line, r.0); there = t.of.there };
        read = sym t.of.kind_is ∙ read;
        item_is = sym t.of.item_is ∙ item;
        version_is = sym t.of.version_is ∙ version;
        foreign = subst (λ y. (place : ℕ) (o : Operation ℕ ℕ) → 0 ≤ place → place < e.place
            → slice_get t.t.operations place ≡ Some o → IsWriteOf o y → ⊥)
            (sym t.of.item_is ∙ item) r.1;
      }

  -- a touch for a write
  record IsAt (line x v : ℕ) : Type 0 where
    i : ℕ
    e : Touch
    at : slice_get touches i ≡ Some e
    line_is : e.line ≡ line
    item_is : e.item ≡ x
    version_is : e.version ≡ v

  find : (line place : ℕ) (t : Transaction ℕ ℕ) (o : Operation ℕ ℕ) → slice_get h line ≡ Some t
      → slice_get t.operations place ≡ Some o
      → IsTouched touches line place → (f : IsAt line o.item o.version) × (f.e.kind ≡ o.kind)
      × (f.e.commits ≡ t.commits)
  find line place t o in_line there f =
      let at = Contains_at touches f.e f.in_it in
      let i = touch-at at.0 f.e at.1 in
      let t_is : i.t ≡ t = same_Some i.t t (sym i.in_line ∙ ap (slice_get h) f.line_is ∙ in_line) in
      let o_is : i.of.o ≡ o = same_Some i.of.o o (sym i.of.there ∙ ap (slice_get i.t.operations) f.place_is
      ∙ ap (λ (u : Transaction ℕ ℕ). slice_get u.operations place) t_is ∙ there) in (
        record {
          i = at.0;
          e = f.e;
          at = at.1;
          line_is = f.line_is;
          item_is = i.of.item_is ∙ ap (λ (u : Operation ℕ ℕ). u.item) o_is;
          version_is = i.of.version_is ∙ ap (λ (u : Operation ℕ ℕ). u.version) o_is;
        },
        i.of.kind_is ∙ ap (λ (u : Operation ℕ ℕ). u.kind) o_is,
        i.of.commits_is ∙ ap (λ (u : Transaction ℕ ℕ). u.commits) t_is,
      )

  write-at : (line x v : ℕ) → Writes h line x v → (f : IsAt line x v) × IsWritten f.e
  write-at line x v w =
      let f = find line w.place w.t w.o w.is.committed.0 w.is.there
      (are.all line w.place w.t w.o w.is.committed.0 w.is.there (inl w.writes.write)) in (
        record {
          i = f.0.i;
          e = f.0.e;
          at = f.0.at;
          line_is = f.0.line_is;
          item_is = f.0.item_is ∙ w.writes.item;
          version_is = f.0.version_is ∙ w.version_is;
        },
        record { write = f.1 ∙ w.writes.write; commits = f.2 ∙ w.is.committed.1 },
      )

  read-at : (line x v : ℕ) → Reads h line x v → (f : IsAt line x v) × (f.e.kind ≡ Read)
  read-at line x v r =
      let f = find line r.place r.t r.o r.is.committed.0 r.is.there
      (are.all line r.place r.t r.o r.is.committed.0 r.is.there (inr (
        r.read,
        r.is.committed.1,
        subst (λ y. (place : ℕ) (o : Operation ℕ ℕ) → 0 ≤ place → place < r.place
            → slice_get r.t.operations place ≡ Some o → IsWriteOf o y → ⊥)
            (sym r.item_is) r.foreign,
      ))) in (
        record {
          i = f.0.i;
          e = f.0.e;
          at = f.0.at;
          line_is = f.0.line_is;
          item_is = f.0.item_is ∙ r.item_is;
          version_is = f.0.version_is ∙ r.version_is;
        },
        f.1 ∙ r.read,
      )

  module _ (faultless : IsFaultless h) where
    -- ---- a pair is a conflict

    -- no chain version lies between a touch and the next write
    next-version : (i k : ℕ) (a b : Touch) → slice_get touches i ≡ Some a → slice_get touches k ≡ Some b → i < k
        → NoneBetween touches i k
        → a.item ≡ b.item → a.version < b.version → (a.kind ≡ Read) ⊎ IsWritten a → IsNext h a.item a.version b.version
    next-version i k a b at at' lt none item above either = record {
      above = above;
      least = λ line c w more.
          let f = write-at line a.item c w in
          elim (cases_lt f.0.i k) [
            | inr past ↦ elim (cases_eq k f.0.i) [
              | inl e ↦
                  let same = same_Some b f.0.e (sym at' ∙ ap (slice_get touches) e ∙ f.0.at) in
                  omega (arith, ap (λ (u : Touch). u.version) same, f.0.version_is)
              | inr apart ↦
                  let rise = versions-rise b f.0.e (ordered k f.0.i b f.0.e (omega (arith, past, apart)) at' f.0.at)
                  (sym item ∙ sym f.0.item_is) in
                  omega (arith, rise, f.0.version_is)
            ]
            | inl less ↦ elim (cases_order f.0.i i) [
              | inl e ↦
                  let same = same_Some f.0.e a (sym f.0.at ∙ ap (slice_get touches) e ∙ at) in
                  absurd (omega (arith, ap (λ (u : Touch). u.version) same, f.0.version_is, more))
              | inr (inl before) ↦
                  let rise = versions-rise f.0.e a (ordered f.0.i i f.0.e a before f.0.at at) f.0.item_is in
                  absurd (omega (arith, rise, f.0.version_is, more))
              | inr (inr inside) ↦ absurd (none f.0.i f.0.e inside less f.0.at f.1)
            ]
          ];
    }

    pub pair-conflict : (kind : Conflict) (i k : ℕ) → (p : IsPair touches kind i k)
        → HaveConflict h kind p.a.line p.b.line p.a.item p.a.version p.b.version
    pair-conflict WriteWrite i k p =
        let a = writes-at i p.a p.a.item p.a.version p.first p.meets.2 refl refl in
        let b = writes-at k p.b p.a.item p.b.version p.second p.meets.3 (sym p.meets.0) refl in
        let most = versions-rise p.a p.b (ordered i k p.a p.b p.before p.first p.second) p.meets.0 in
        let above : p.a.version < p.b.version = elim (cases_eq p.a.version p.b.version) [
          | inl e ↦ absurd
              (p.meets.1 (one_writer h faultless p.a.line p.b.line p.a.item p.b.version (subst (Writes h p.a.line p.a.item) e a) b))
          | inr apart ↦ omega (arith, most, apart)
        ] in
        (p.meets.1, a, b, next-version i k p.a p.b p.first p.second p.before p.none p.meets.0 above (inr p.meets.2))
    pair-conflict WriteRead i k p = (
      p.meets.1,
      writes-at i p.a p.a.item p.a.version p.first p.meets.2 refl refl,
      reads-at k p.b p.a.item p.b.version p.second p.meets.3 (sym p.meets.0) refl,
      p.meets.4,
    )
    pair-conflict ReadWrite i k p =
        let order = ordered i k p.a p.b p.before p.first p.second in
        let most = versions-rise p.a p.b order p.meets.0 in
        let above : p.a.version < p.b.version = elim (cases_eq p.a.version p.b.version) [
          | inl e ↦ absurd (kinds-rise p.a p.b order p.meets.0 e p.meets.2 p.meets.3.write)
          | inr apart ↦ omega (arith, most, apart)
        ] in (
          p.meets.1,
          reads-at i p.a p.a.item p.a.version p.first p.meets.2 refl refl,
          writes-at k p.b p.a.item p.b.version p.second p.meets.3 (sym p.meets.0) refl,
          next-version i k p.a p.b p.first p.second p.before p.none p.meets.0 above (inl p.meets.2),
        )

    -- ---- a conflict is a pair

    pub record IsPairOf (kind : Conflict) (from to x v w : ℕ) : Type 0 where
      pub i : ℕ
      pub k : ℕ
      pub pair : IsPair touches kind i k
      pub from_is : pair.a.line ≡ from
      pub to_is : pair.b.line ≡ to
      pub item_is : pair.a.item ≡ x
      pub version_is : pair.a.version ≡ v

    -- a touch of a smaller version of the item stands before
    stands-before : (i k : ℕ) (a b : Touch) → slice_get touches i ≡ Some a → slice_get touches k ≡ Some b
        → a.item ≡ b.item → a.version < b.version → i < k
    stands-before i k a b at at' item lt =
        elim (cases_order i k) [
          | inl e ↦ absurd
              (omega (
                arith,
                lt,
                ap (λ (u : Touch). u.version) (same_Some a b (sym at ∙ ap (slice_get touches) e ∙ at')),
              ))
          | inr (inl less) ↦ less
          | inr (inr more) ↦ absurd (omega (arith, lt, versions-rise b a (ordered k i b a more at' at) (sym item)))
        ]

    -- one from a on that isn't a itself stands between
    mid : (i p k : ℕ) (a m b : Touch) → slice_get touches i ≡ Some a → slice_get touches p ≡ Some m
        → slice_get touches k ≡ Some b → i ≤ p → p ≤ k → a.item ≡ b.item
        → a.version ≤ b.version → (m.item ≡ a.item) × (a.version ≤ m.version) × (m.version ≤ b.version)
    mid i p k a m b at here at' le less item most =
        elim (cases_eq i p) [
          | inl e ↦
              let same = same_Some m a (sym here ∙ ap (slice_get touches) (sym e) ∙ at) in (
                ap (λ (u : Touch). u.item) same,
                omega (arith, ap (λ (u : Touch). u.version) same),
                omega (arith, ap (λ (u : Touch). u.version) same, most),
              )
          | inr apart ↦ elim (cases_eq p k) [
            | inl e ↦
                let same = same_Some m b (sym here ∙ ap (slice_get touches) e ∙ at') in (
                  ap (λ (u : Touch). u.item) same ∙ sym item,
                  omega (arith, ap (λ (u : Touch). u.version) same, most),
                  omega (arith, ap (λ (u : Touch). u.version) same),
                )
            | inr more ↦ between a m b (ordered i p a m (omega (arith, le, apart)) at here)
                (ordered p k m b (omega (arith, less, more)) here at') item
          ]
        ]

    pub conflict-pair : (kind : Conflict) (from to x v w : ℕ) → HaveConflict h kind from to x v w
        → IsPairOf kind from to x v w
    conflict-pair WriteWrite from to x v w (apart, first, second, next) =
        let a = write-at from x v first in
        let b = write-at to x w second in
        -- the first write of the second version
        let lt = stands-before a.0.i b.0.i a.0.e b.0.e a.0.at b.0.at (a.0.item_is ∙ sym b.0.item_is)
        (omega (arith, a.0.version_is, b.0.version_is, next.above)) in
        let k = behind touches (λ e. IsWritten e × ((e.item ≡ x) × (e.version ≡ w)))
        (λ e. decidable-both (decidable-written e) (decidable-both (cases_eq e.item x) (cases_eq e.version w)))
        b.0.i a.0.i b.0.i b.0.e (omega arith) (omega (arith, lt)) b.0.at (b.1, (b.0.item_is, b.0.version_is)) in
        let less = stands-before a.0.i k.p a.0.e k.e a.0.at k.at (a.0.item_is ∙ sym k.is.1.0)
        (omega (arith, a.0.version_is, k.is.1.1, next.above)) in
        let p = nearest touches IsWritten decidable-written a.0.i k.p a.0.e less
        (omega (arith, slice_get_within touches k.p k.e k.at)) a.0.at a.1 in
        let m = mid a.0.i p.p k.p a.0.e p.e k.e a.0.at p.at k.at p.from (omega (arith, p.to)) (a.0.item_is
        ∙ sym k.is.1.0)
        (omega (arith, a.0.version_is, k.is.1.1, next.above)) in
        let item : p.e.item ≡ x = m.0 ∙ a.0.item_is in
        let not : p.e.version ≢ w = λ e. k.none p.p p.e p.from p.to p.at (p.is, (item, e)) in
        let by = writes-at p.p p.e x p.e.version p.at p.is item refl in
        let version : p.e.version ≡ v = elim (cases_lt v p.e.version) [
          | inl more ↦
              let least = next.least p.e.line p.e.version by more in
              absurd (not (omega (arith, least, m.2, k.is.1.1)))
          | inr most ↦ omega (arith, most, m.1, a.0.version_is)
        ] in
        let from_is = one_writer h faultless p.e.line from x v (subst (Writes h p.e.line x) version by) first in
        let to_is = one_writer h faultless k.e.line to x w (writes-at k.p k.e x w k.at k.is.0 k.is.1.0 k.is.1.1) second in
        record {
          i = p.p;
          k = k.p;
          pair = record {
            a = p.e;
            b = k.e;
            first = p.at;
            second = k.at;
            before = p.to;
            none = p.none;
            meets = (item ∙ sym k.is.1.0, (λ e. apart (sym from_is ∙ e ∙ to_is)), p.is, k.is.0);
          };
          from_is = from_is;
          to_is = to_is;
          item_is = item;
          version_is = version;
        }
    conflict-pair WriteRead from to x v w (apart, first, second, same) =
        let a = write-at from x v first in
        let b = read-at to x w second in
        let item : a.0.e.item ≡ b.0.e.item = a.0.item_is ∙ sym b.0.item_is in
        let version : a.0.e.version ≡ b.0.e.version = a.0.version_is ∙ same ∙ sym b.0.version_is in
        let lt : a.0.i < b.0.i = elim (cases_order a.0.i b.0.i) [
          | inl e ↦
              let one = same_Some a.0.e b.0.e (sym a.0.at ∙ ap (slice_get touches) e ∙ b.0.at) in
              let f = sym a.1.write ∙ ap (λ (u : Touch). u.kind) one ∙ b.1 in cc
          | inr (inl less) ↦ less
          | inr (inr more) ↦ absurd (kinds-rise b.0.e a.0.e (ordered b.0.i a.0.i b.0.e a.0.e more b.0.at a.0.at)
              (sym item) (sym version) b.1 a.1.write)
        ] in
        let p = nearest touches IsWritten decidable-written a.0.i b.0.i a.0.e lt
        (omega (arith, slice_get_within touches b.0.i b.0.e b.0.at)) a.0.at a.1 in
        let m = mid a.0.i p.p b.0.i a.0.e p.e b.0.e a.0.at p.at b.0.at p.from (omega (arith, p.to)) item
        (omega (arith, version)) in
        let v_is : p.e.version ≡ v = omega (arith, m.1, m.2, a.0.version_is, b.0.version_is, same) in
        let from_is = one_writer h faultless p.e.line from x v (writes-at p.p p.e x v p.at p.is (m.0 ∙ a.0.item_is) v_is) first in
        record {
          i = p.p;
          k = b.0.i;
          pair = record {
            a = p.e;
            b = b.0.e;
            first = p.at;
            second = b.0.at;
            before = p.to;
            none = p.none;
            meets = (
              m.0 ∙ item,
              (λ e. apart (sym from_is ∙ e ∙ b.0.line_is)),
              p.is,
              b.1,
              v_is ∙ same
                  ∙ sym b.0.version_is,
            );
          };
          from_is = from_is;
          to_is = b.0.line_is;
          item_is = m.0 ∙ a.0.item_is;
          version_is = v_is;
        }
    conflict-pair ReadWrite from to x v w (apart, first, second, next) =
        let a = read-at from x v first in
        let b = write-at to x w second in
        let item : a.0.e.item ≡ b.0.e.item = a.0.item_is ∙ sym b.0.item_is in
        let above : a.0.e.version < b.0.e.version = omega (arith, a.0.version_is, b.0.version_is, next.above) in
        let lt = stands-before a.0.i b.0.i a.0.e b.0.e a.0.at b.0.at item above in
        let n = behind touches IsWritten decidable-written b.0.i (suc a.0.i) b.0.i b.0.e (omega arith) lt b.0.at b.1 in
        let m = mid a.0.i n.p b.0.i a.0.e n.e b.0.e a.0.at n.at b.0.at (omega (arith, n.from)) n.to item
        (omega (arith, above)) in
        let n_item : n.e.item ≡ x = m.0 ∙ a.0.item_is in
        let by = writes-at n.p n.e x n.e.version n.at n.is n_item refl in
        let order = ordered a.0.i n.p a.0.e n.e (omega (arith, n.from)) a.0.at n.at in
        let more : v < n.e.version = elim (cases_eq a.0.e.version n.e.version) [
          | inl e ↦ absurd (kinds-rise a.0.e n.e order (sym m.0) e a.1 n.is.write)
          | inr other ↦ omega (arith, other, m.1, a.0.version_is)
        ] in
        let least = next.least n.e.line n.e.version by more in
        let version : n.e.version ≡ w = omega (arith, least, m.2, b.0.version_is) in
        let to_is = one_writer h faultless n.e.line to x w (subst (Writes h n.e.line x) version by) second in
        record {
          i = a.0.i;
          k = n.p;
          pair = record {
            a = a.0.e;
            b = n.e;
            first = a.0.at;
            second = n.at;
            before = omega (arith, n.from);
            none = λ q u over under there written. n.none q u over under there written;
            meets = (sym m.0, (λ e. apart (sym a.0.line_is ∙ e ∙ to_is)), a.1, n.is);
          };
          from_is = a.0.line_is;
          to_is = to_is;
          item_is = a.0.item_is;
          version_is = a.0.version_is;
        }
