-- Where no line has a fault and all conflicts go forward in an order of all committed transactions,
-- the order serves.
use Rattle.std.proofs.Common.{◌≡◌, ◌≢◌, ℕ, zero, suc, ◌+◌, ◌-◌, ◌<◌, ◌≤◌, Bool, true, false, List, Some, None, Option, refl, sym, ap, ◌∙◌, subst, arith, inl, inr, length, ◌⊎◌}
use Rattle.std.specs.Prelude.{slice_get, Contains}
use Rattle.std.proofs.lemmas.Bool.{cases_eq, cases_lt, cases_order}
use Rattle.std.proofs.lemmas.Option.{slice_get_within}
use Rattle.sgt_names.proofs.Lists.{option_cases}
use Rattle.sgt_names.proofs.Places.{Contains_at, Contains-from_at}
use Rattle.sgt_notation.proofs.Decidable.{Decidable}
use Rattle.sgt_history.specs.declared.history.Kind.{Kind}
use Rattle.sgt_history.specs.declared.history.Kind.TheVariants.{Read, Write}
use Rattle.sgt_history.specs.declared.history.Operation.{Operation}
use Rattle.sgt_history.specs.declared.named.Conflict.{Conflict}
use Rattle.sgt_history.specs.declared.named.Conflict.TheVariants.{WriteWrite, WriteRead, ReadWrite}
use Rattle.sgt_history.specs.declared.named.Flaw.TheVariants.{Internal, AbortedRead, Unwritten, IntermediateRead}
use Rattle.sgt_history.specs.Transaction.{Transaction, ArePositive}
use Rattle.sgt_history.specs.Serial.{IsCommitted, IsOrder, run_of, IsWriteOf, NoneWrites, IsLastWritten, Has, Follows, RunsRight, Serves}
use Rattle.sgt_history.specs.Conflicts.{IsOperation, Writes, Reads, IsNext, HaveConflict, Precedes}
use Rattle.sgt_history.specs.Flaws.{IsForeign, NoneCommitted, AbortedWrites, IsFaultless}
use Rattle.sgt_history.proofs.Runs.{one_at}
use Rattle.sgt_history.proofs.Placed.{start_of, IsPlaced, IsFound, in_run, earlier-before}
use Rattle.sgt_history.proofs.Standing.{Stands, stands, own_at, own-last}
use Rattle.sgt_history.proofs.Excluded.{IsRun, in_order}
use Rattle.sgt_history.proofs.Agreeing.{one_transaction, one_writer, values_agree}
use Rattle.sgt_history.proofs.Search.{has_some, decidable-written, decidable-aborted, HasNext, next_of}

module _ (h : List (Transaction ℕ ℕ)) (positive : ArePositive h) (faultless : IsFaultless h)
    (order : List ℕ) (ordered : IsOrder h order)
    (forward : (kind : Conflict) (from to x v w : ℕ) → HaveConflict h kind from to x v w → Precedes order from to) where
  -- ---- one transaction alone

  -- of two writes of an item by one transaction the later has the greater version
  own-rise : (line : ℕ) (t : Transaction ℕ ℕ) → IsCommitted h line t → (top k j x : ℕ) (o w : Operation ℕ ℕ) → k ≤ top
      → j < k
      → slice_get t.operations j ≡ Some w → IsWriteOf w x → slice_get t.operations k ≡ Some o → IsWriteOf o x
      → w.version < o.version
  own-rise line t c zero k j x o w le lt at writes at' writes' = absurd (omega arith)
  own-rise line t c (suc top) k j x o w le lt at writes at' writes' =
      let found = has_some t.operations k x in
      let b = found.0 in
      elim found.1 [
        | inr none ↦ absurd (none.1 j w (omega arith) lt at writes)
        | inl last ↦
            let below : b < o.version = elim (cases_lt b o.version) [
              | inl less ↦ less
              | inr most ↦ absurd (faultless line Internal k (record {
                t = t;
                o = o;
                is = record { committed = c; there = at' };
                has = inr (inl (record {
                  write = writes'.write;
                  version = b;
                  own = subst (λ y. IsLastWritten t.operations k y b) (sym writes'.item) last;
                  most = most;
                }));
              }))
            ] in
            elim (cases_order j last.last) [
              | inl e ↦
                  let same =
                  ap (λ (u : Operation ℕ ℕ). u.version)
                  (one_at t.operations j last.last w last.o e at last.there) in
                  omega (arith, same, last.version_is, below)
              | inr (inl before) ↦
                  let rise =
                  own-rise line t c top last.last j x last.o w (omega (arith, last.before)) before at writes
                  last.there last.writes in
                  omega (arith, rise, last.version_is, below)
              | inr (inr behind) ↦ absurd (last.none j w (omega arith) lt at writes)
            ]
      ]

  -- ---- the order

  record NotBehind (l m : ℕ) : Type 0 where
    i : ℕ
    j : ℕ
    le : i ≤ j
    first_at : slice_get order i ≡ Some l
    second_at : slice_get order j ≡ Some m

  line_of : (line place : ℕ) (t : Transaction ℕ ℕ) (o : Operation ℕ ℕ) → IsOperation h line place t o
      → (i : ℕ) × (slice_get order i ≡ Some line)
  line_of line place t o is = Contains_at order line (ordered.all line t is.committed)

  follow : (l m n : ℕ) → NotBehind l m → NotBehind m n → NotBehind l n
  follow l m n a b =
      let same = ordered.once a.j b.i m a.second_at b.first_at in
      record { i = a.i; j = b.j; le = omega (arith, a.le, b.le, same); first_at = a.first_at; second_at = b.second_at }

  not-both : (l m : ℕ) → NotBehind l m → Precedes order m l → ⊥
  not-both l m a b =
      let one = ordered.once a.i b.j l a.first_at b.second_at in
      let two = ordered.once a.j b.i m a.second_at b.first_at in
      absurd (omega (arith, one, two, a.le, b.before))

  -- one of two lines that are the same or in conflict is not behind the other
  ordered-by : (l m x v : ℕ) → Writes h m x v → (l ≢ m → Precedes order l m) → NotBehind l m
  ordered-by l m x v w go =
      elim (cases_eq l m) [
        | inl e ↦
            let at = line_of m w.place w.t w.o w.is in
            record { i = at.0; j = at.0; le = omega arith; first_at = at.1 ∙ ap Some (sym e); second_at = at.1 }
        | inr apart ↦
            let p = go apart in
            record { i = p.i; j = p.j; le = omega (arith, p.before); first_at = p.first_at; second_at = p.second_at }
      ]

  -- who wrote a smaller version is not behind who wrote a greater one
  chain-forward : (top l m x v w : ℕ) → w ≤ v + top → Writes h l x v → Writes h m x w → v < w → NotBehind l m
  chain-forward zero l m x v w le a b lt = absurd (omega arith)
  chain-forward (suc top) l m x v w le a b lt =
      let next = next_of h x w v w m (omega arith) b lt in
      let first = ordered-by l next.line x next.version next.writes
      (λ apart. forward WriteWrite l next.line x v next.version (apart, a, next.writes, next.next)) in
      elim (cases_eq next.version w) [
        | inl e ↦ subst (NotBehind l) (one_writer h faultless next.line m x w (subst (Writes h next.line x) e next.writes) b) first
        | inr apart ↦
            follow l next.line m first
            (chain-forward top next.line m x next.version w (omega (arith, le, next.next.above)) next.writes b
            (omega (arith, next.most)))
      ]

  not-behind : (l m x v w : ℕ) → Writes h l x v → Writes h m x w → v < w → NotBehind l m
  not-behind l m x v w = chain-forward w l m x v w (omega arith)

  -- who reads a version is not behind who wrote a greater one
  read-not-behind : (l m x v w : ℕ) → Reads h l x v → Writes h m x w → v < w → NotBehind l m
  read-not-behind l m x v w r b lt =
      let next = next_of h x w v w m (omega arith) b lt in
      let first = ordered-by l next.line x next.version next.writes
      (λ apart. forward ReadWrite l next.line x v next.version (apart, r, next.writes, next.next)) in
      elim (cases_eq next.version w) [
        | inl e ↦ subst (NotBehind l) (one_writer h faultless next.line m x w (subst (Writes h next.line x) e next.writes) b) first
        | inr apart ↦ follow l next.line m first (not-behind next.line m x next.version w next.writes b
            (omega (arith, next.most)))
      ]

  -- ---- what stands in the run

  -- a write there, by whom
  run-writes : (p x : ℕ) (o : Operation ℕ ℕ) → (r : IsRun h order p o) → IsWriteOf o x
      → Writes h r.found.line x o.version
  run-writes p x o r w = record { place = r.found.j; t = r.found.t; o = o; is = r.is; writes = w; version_is = refl }

  -- of two operations of the run the one before is of an earlier line, or of the same one
  sides : (p q : ℕ) (o w : Operation ℕ ℕ) → (a : IsRun h order p o) → (b : IsRun h order q w) → p < q
      → Precedes order a.found.line b.found.line ⊎ ((a.found.line ≡ b.found.line) × (a.found.t ≡ b.found.t)
      × (a.found.j < b.found.j))
  sides p q o w a b lt =
      elim (cases_order a.found.i b.found.i) [
        | inl e ↦
            let same =
            one_at order a.found.i b.found.i a.found.line b.found.line e a.found.placed.at b.found.placed.at in
            inr (
              same,
              one_transaction h b.found.line a.found.t b.found.t
                  (ap (slice_get h) (sym same) ∙ a.found.placed.in_line) b.found.placed.in_line,
              omega (arith, a.found.placed.is, b.found.placed.is, ap (start_of h order) e, lt),
            )
        | inr (inl before) ↦ inl (record {
          i = a.found.i;
          j = b.found.i;
          before = before;
          first_at =
              a.found.placed.at;
          second_at = b.found.placed.at;
        })
        | inr (inr behind) ↦
            let no = earlier-before h order q b.found.i b.found.line b.found.t b.found.j w p a.found.i a.found.line
            a.found.t a.found.j o
            b.found.placed a.found.placed behind in
            absurd (omega (arith, no, lt))
      ]

  -- what was written last before an operation, by its own transaction
  run-last-own : (p x v : ℕ) (o : Operation ℕ ℕ) → (a : IsRun h order p o)
      → (last : IsLastWritten (run_of h order) p x v)
      → (b : IsRun h order last.last last.o) → a.found.line ≡ b.found.line → a.found.t ≡ b.found.t
      → b.found.j < a.found.j
      → IsLastWritten a.found.t.operations a.found.j x v
  run-last-own p x v o a last b line same lt =
      let same_i = ordered.once a.found.i b.found.i a.found.line a.found.placed.at (b.found.placed.at
      ∙ ap Some (sym line)) in
      let starts = ap (start_of h order) same_i in
      record {
        last = b.found.j;
        o = last.o;
        before = lt;
        there = ap (λ (t : Transaction ℕ ℕ). slice_get t.operations b.found.j) same ∙ b.found.placed.there;
        writes = last.writes;
        version_is = last.version_is;
        none = λ r w above below at writes.
            let here = in_run h order (start_of h order a.found.i + r) a.found.i a.found.line a.found.t r w
            (record { at = a.found.placed.at; in_line = a.found.placed.in_line; there = at; is = refl }) in
            last.none (start_of h order a.found.i + r) w
            (omega (arith, above, b.found.placed.is, starts)) (omega (arith, below, a.found.placed.is)) here writes;
      }

  -- ---- a write

  write-follows : (p : ℕ) (o : Operation ℕ ℕ) → IsRun h order p o → o.kind ≡ Write
      → (v : ℕ) × Has (run_of h order) p o.item v × (v < o.version)
  write-follows p o a write = by (has_some (run_of h order) p o.item)
    where
      writes : IsWriteOf o o.item
      writes = record { write = write; item = refl }

      by : (v : ℕ) × Has (run_of h order) p o.item v → (v : ℕ) × Has (run_of h order) p o.item v × (v < o.version)
      by (v, inr first) =
          let above = positive a.found.line a.found.j a.found.t o a.is.committed.0 a.is.there write in
          (v, inr first, omega (arith, above, first.0))
      by (v, inl last) =
          let b = in_order h order ordered last.last last.o last.there in
          let by_it =
          subst (Writes h b.found.line o.item) last.version_is (run-writes last.last o.item last.o b last.writes) in
          let by_me = run-writes p o.item o a writes in (
            v,
            inl last,
            elim (sides last.last p last.o o b a last.before) [
              | inr (line, same, lt) ↦
                  let rise =
                  own-rise a.found.line a.found.t a.is.committed a.found.j a.found.j b.found.j o.item o last.o
                  (omega arith) lt
                  (ap (λ (t : Transaction ℕ ℕ). slice_get t.operations b.found.j) (sym same)
                  ∙ b.is.there) last.writes a.is.there writes in
                  omega (arith, rise, last.version_is)
              | inl before ↦ elim (cases_order v o.version) [
                | inl e ↦ absurd (not-both a.found.line b.found.line
                    (ordered-by a.found.line b.found.line o.item v by_it
                    (λ apart. absurd
                    (apart (one_writer h faultless a.found.line b.found.line o.item v
                    (subst (Writes h a.found.line o.item) (sym e) by_me) by_it)))) before)
                | inr (inl lt) ↦ lt
                | inr (inr gt) ↦ absurd
                    (not-both a.found.line b.found.line
                    (not-behind a.found.line b.found.line o.item o.version v by_me by_it gt) before)
              ]
            ],
          )

  -- ---- a read

  -- who wrote what is read, not own, is another transaction, which stands before
  record IsWrittenBefore (line x v : ℕ) : Type 0 where
    by : ℕ
    writes : Writes h by x v
    before : Precedes order by line

  written_before : (line place : ℕ) (t : Transaction ℕ ℕ) (o : Operation ℕ ℕ) → IsOperation h line place t o
      → IsForeign t place o
      → IsWrittenBefore line o.item o.version
  written_before line place t o is f =
      elim (decidable-written h o.item o.version) [
        | inl (by, w) ↦
            let apart : by ≢ line = λ e.
            let same = one_transaction h line w.t t (ap (slice_get h) (sym e) ∙ w.is.committed.0) is.committed.0 in
            faultless line Internal place (record {
              t = t;
              o = o;
              is = is;
              has = inr (inr (record {
                read = f.read;
                foreign = f.foreign;
                later = w.place;
                by = w.o;
                there = ap (λ (u : Transaction ℕ ℕ). slice_get u.operations w.place) (sym same) ∙ w.is.there;
                writes = w.writes;
                version_is = w.version_is;
              }));
            }) in
            let reads : Reads h line o.item o.version = record {
              place = place;
              t = t;
              o = o;
              is = is;
              read = f.read;
              item_is = refl;
              version_is = refl;
              foreign = f.foreign;
            } in
            record {
              by = by;
              writes = w;
              before = forward WriteRead by line o.item o.version o.version (
                apart,
                w,
                reads,
                refl,
              );
            }
        | inr none ↦
            absurd (elim (decidable-aborted h o.item o.version) [
              | inl by ↦ faultless line AbortedRead place
                  (record { t = t; o = o; is = is; has = (f, (λ l w. none (l, w)), by.0, by.1) })
              | inr never ↦ faultless line Unwritten place
                  (record { t = t; o = o; is = is; has = (f, (λ l w. none (l, w)), (λ l w. never (l, w))) })
            ])
      ]

  -- what stands in the run before an operation, of a line before
  before-it : (p line x v : ℕ) (o : Operation ℕ ℕ) → (a : IsRun h order p o) → (w : Writes h line x v)
      → Precedes order line a.found.line
      → (q : ℕ) × (q < p) × (slice_get (run_of h order) q ≡ Some w.o) × ((r : IsRun h order q w.o)
      → r.found.line ≡ line)
  before-it p line x v o a w before =
      let s = stands h order ordered line w.place w.t w.o w.is in
      let one = ordered.once s.i before.i line s.placed.at before.first_at in
      let two = ordered.once a.found.i before.j a.found.line a.found.placed.at before.second_at in
      let lt = earlier-before h order s.p s.i line w.t w.place w.o p a.found.i a.found.line a.found.t a.found.j o
      s.placed a.found.placed
      (omega (arith, one, two, before.before)) in (
        s.p,
        lt,
        s.there,
        λ r. elim (cases_order r.found.i s.i) [
          | inl e ↦ one_at order r.found.i s.i r.found.line line e r.found.placed.at s.placed.at
          | inr (inl less) ↦ absurd (omega (
            arith,
            earlier-before h order s.p r.found.i r.found.line r.found.t r.found.j w.o s.p s.i line w.t w.place w.o
                r.found.placed s.placed less,
          ))
          | inr (inr more) ↦ absurd (omega (
            arith,
            earlier-before h order s.p s.i line w.t w.place w.o s.p r.found.i r.found.line r.found.t r.found.j w.o
                s.placed r.found.placed more,
          ))
        ],
      )

  module _ (p : ℕ) (o : Operation ℕ ℕ) (a : IsRun h order p o) (read : o.kind ≡ Read) where
    own-follows : (v : ℕ) → IsLastWritten a.found.t.operations a.found.j o.item v
        → Has (run_of h order) p o.item o.version
    own-follows v own =
        elim (cases_eq o.version v) [
          | inl e ↦ subst (Has (run_of h order) p o.item) (sym e)
              (inl (own-last h order p a.found.i a.found.line a.found.t a.found.j o a.found.placed o.item v own))
          | inr other ↦ absurd (faultless a.found.line Internal a.found.j
              (record {
                t = a.found.t;
                o = o;
                is = a.is;
                has =
                    inl (record { read = read; version = v; own = own; other = other });
              }))
        ]

    module _ (none : NoneWrites a.found.t.operations 0 a.found.j o.item) where
      reads : Reads h a.found.line o.item o.version
      reads = record {
        place = a.found.j;
        t = a.found.t;
        o = o;
        is = a.is;
        read = read;
        item_is = refl;
        version_is =
            refl;
        foreign = none;
      }

      -- where nothing was written before it reads version 0
      first-read : NoneWrites (run_of h order) 0 p o.item → o.version ≡ 0
      first-read nothing =
          elim (cases_eq o.version 0) [
            | inl e ↦ e
            | inr above ↦
                let wb = written_before a.found.line a.found.j a.found.t o a.is
                (record { read = read; foreign = none; not_first = above }) in
                let q = before-it p wb.by o.item o.version o a wb.writes wb.before in
                absurd (nothing q.0 wb.writes.o (omega arith) q.1 q.2 wb.writes.writes)
          ]

      -- no smaller version was written last before it
      not-smaller : (v : ℕ) → (last : IsLastWritten (run_of h order) p o.item v)
          → (b : IsRun h order last.last last.o) → v < o.version → ⊥
      not-smaller v last b lt =
          let wb = written_before a.found.line a.found.j a.found.t o a.is
          (record { read = read; foreign = none; not_first = λ e. absurd (omega (arith, e, lt)) }) in
          let q = before-it p wb.by o.item o.version o a wb.writes wb.before in
          let by_it =
          subst (Writes h b.found.line o.item) last.version_is (run-writes last.last o.item last.o b last.writes) in
          let after = not-behind b.found.line wb.by o.item v o.version by_it wb.writes lt in
          elim (cases_order q.0 last.last) [
            | inl e ↦
                let same =
                ap (λ (u : Operation ℕ ℕ). u.version)
                (one_at (run_of h order) q.0 last.last wb.writes.o last.o e q.2 last.there) in
                absurd (omega (arith, same, wb.writes.version_is, last.version_is, lt))
            | inr (inl less) ↦
                let r = in_order h order ordered q.0 wb.writes.o q.2 in
                let line = q.3 r in
                elim (sides q.0 last.last wb.writes.o last.o r b less) [
                  | inl precedes ↦ not-both b.found.line wb.by after
                      (subst (λ l. Precedes order l b.found.line) line precedes)
                  | inr (one, same, before) ↦
                      let rise =
                      own-rise b.found.line b.found.t b.is.committed b.found.j b.found.j r.found.j o.item last.o
                      wb.writes.o (omega arith) before
                      (ap (λ (t : Transaction ℕ ℕ). slice_get t.operations r.found.j) (sym same)
                      ∙ r.is.there) wb.writes.writes
                      b.is.there last.writes in
                      absurd (omega (arith, rise, last.version_is, wb.writes.version_is, lt))
                ]
            | inr (inr more) ↦ last.none q.0 wb.writes.o (omega (arith, more)) q.1 q.2 wb.writes.writes
          ]

      foreign-follows : Has (run_of h order) p o.item o.version
      foreign-follows =
          let found = has_some (run_of h order) p o.item in
          elim found.1 [
            | inr first ↦ inr (first-read first.1, first.1)
            | inl last ↦
                let b = in_order h order ordered last.last last.o last.there in
                elim (sides last.last p last.o o b a last.before) [
                  | inr (one, same, lt) ↦ absurd (none b.found.j last.o (omega arith) lt
                      (ap (λ (t : Transaction ℕ ℕ). slice_get t.operations b.found.j) (sym same)
                      ∙ b.is.there) last.writes)
                  | inl before ↦
                      let by_it =
                      subst (Writes h b.found.line o.item) last.version_is
                      (run-writes last.last o.item last.o b last.writes) in
                      elim (cases_order found.0 o.version) [
                        | inl e ↦ subst (Has (run_of h order) p o.item) e found.1
                        | inr (inl less) ↦ absurd (not-smaller found.0 last b less)
                        | inr (inr more) ↦ absurd (not-both a.found.line b.found.line
                            (read-not-behind a.found.line b.found.line o.item o.version found.0 reads by_it more)
                            before)
                      ]
                ]
          ]

    read-follows : Has (run_of h order) p o.item o.version
    read-follows =
        let own = has_some a.found.t.operations a.found.j o.item in
        elim own.1 [
          | inl last ↦ own-follows own.0 last
          | inr none ↦ foreign-follows none.1
        ]

  runs_right : RunsRight (run_of h order)
  runs_right p o there =
      let a = in_order h order ordered p o there in
      record { read = read-follows p o a; write = write-follows p o a }

  pub serves : Serves h order
  serves = record { ordered = ordered; right = runs_right; values = values_agree h faultless order ordered }
