-- The faults of a history by its touches.
use Rattle.std.proofs.Common.{◌≡◌, ◌≢◌, ℕ, zero, suc, ◌+◌, ◌<◌, ◌≤◌, Bool, true, false, IsTrue, List, Option, Some, None, length, refl, sym, ap, ◌∙◌, subst, arith, inl, inr, ◌⊎◌, All, Contains}
use Rattle.std.specs.Prelude.{slice_get, ◌↔◌}
use Rattle.std.proofs.lemmas.Bool.{cases_eq, cases_lt, cases_order}
use Rattle.std.proofs.lemmas.Option.{same_Some}
use Rattle.sgt_names.proofs.Lists.{All_in}
use Rattle.sgt_history.specs.declared.history.Kind.{Kind}
use Rattle.sgt_history.specs.declared.history.Kind.TheVariants.{Read, Write}
use Rattle.sgt_history.specs.declared.history.Operation.{Operation}
use Rattle.sgt_history.specs.declared.named.Flaw.{Flaw}
use Rattle.sgt_history.specs.declared.named.Flaw.TheVariants.{Internal, Duplicate, AbortedRead, Unwritten, IntermediateRead, Value}
use Rattle.sgt_history.specs.Transaction.{Transaction}
use Rattle.sgt_history.specs.Serial.{IsWriteOf, NoneWrites, IsCommitted}
use Rattle.sgt_history.specs.Conflicts.{IsOperation, Writes}
use Rattle.sgt_history.specs.Flaws.{IsForeign, NoneCommitted, AbortedWrites, IsFirstWriter, HasFlaw, IsFaulty, rank_of}
use Rattle.sgt_history_faults.specs.declared.fault.Fault.{Fault}
use Rattle.sgt_history_faults.specs.declared.touch.Touch.{Touch}
use Rattle.sgt_history_faults.specs.Mine.{ContradictsOwn}
use Rattle.sgt_history_faults.specs.Noted.{Covers}
use Rattle.sgt_history_faults.specs.Touch.{WritesGreater, IsTouchOf, TellsSurpassed, IsToTouch, IsTouched, IsTouch, AreTouches}
use Rattle.sgt_history_faults.specs.Group.{AreAllAlike, AreAllCovered, AreAllFaulty, IsWriteAlso, IsCommittedBy, IsEarliestBy, HasTouchFlaw}
use Rattle.sgt_names.proofs.Elements.{false-unless_true}

module _ (h : List (Transaction ℕ ℕ)) (touches : List Touch) (are : AreTouches h touches) where
  -- ---- from touches to operations

  touch-is : (e : Touch) → Contains touches e → IsTouch h e
  touch-is e in_it = All_in (IsTouch h) touches e are.each in_it

  operation : (e : Touch) → (i : IsTouch h e) → e.commits ≡ true → IsOperation h e.line e.place i.t i.of.o
  operation e i commits = record { committed = (i.in_line, sym i.of.commits_is ∙ commits); there = i.of.there }

  -- a committed write by a touch
  writes-of : (w : Touch) (x v : ℕ) → Contains touches w → w.kind ≡ Write → w.commits ≡ true → w.item ≡ x
      → w.version ≡ v → Writes h w.line x v
  writes-of w x v in_it write commits item version =
      let i = touch-is w in_it in
      record {
        place = w.place;
        t = i.t;
        o = i.of.o;
        is = operation w i commits;
        writes = record { write = sym i.of.kind_is ∙ write; item = sym i.of.item_is ∙ item };
        version_is = sym i.of.version_is ∙ version;
      }

  -- ---- from operations to touches

  record IsTouchFor (line place : ℕ) (t : Transaction ℕ ℕ) (o : Operation ℕ ℕ) : Type 0 where
    e : Touch
    in_it : Contains touches e
    line_is : e.line ≡ line
    place_is : e.place ≡ place
    item_is : e.item ≡ o.item
    version_is : e.version ≡ o.version
    kind_is : e.kind ≡ o.kind
    commits_is : e.commits ≡ t.commits
    surpassed : TellsSurpassed t.operations e

  touch-for : (line place : ℕ) (t : Transaction ℕ ℕ) (o : Operation ℕ ℕ) → slice_get h line ≡ Some t
      → slice_get t.operations place ≡ Some o
      → IsToTouch t.commits t.operations place o → IsTouchFor line place t o
  touch-for line place t o in_line there to =
      let f = are.all line place t o in_line there to in
      let i = touch-is f.e f.in_it in
      let t_is : i.t ≡ t = same_Some i.t t (sym i.in_line ∙ ap (slice_get h) f.line_is ∙ in_line) in
      let o_is : i.of.o ≡ o = same_Some i.of.o o (sym i.of.there ∙ ap (slice_get i.t.operations) f.place_is
      ∙ ap (λ (u : Transaction ℕ ℕ). slice_get u.operations place) t_is ∙ there) in
      record {
        e = f.e;
        in_it = f.in_it;
        line_is = f.line_is;
        place_is = f.place_is;
        item_is = i.of.item_is ∙ ap (λ (u : Operation ℕ ℕ). u.item) o_is;
        version_is = i.of.version_is ∙ ap (λ (u : Operation ℕ ℕ). u.version) o_is;
        kind_is = i.of.kind_is ∙ ap (λ (u : Operation ℕ ℕ). u.kind) o_is;
        commits_is = i.of.commits_is ∙ ap (λ (u : Transaction ℕ ℕ). u.commits) t_is;
        surpassed = subst (λ (u : Transaction ℕ ℕ). TellsSurpassed u.operations f.e) t_is i.surpassed;
      }

  write-for : (line x v : ℕ) → (w : Writes h line x v) → IsTouchFor line w.place w.t w.o
  write-for line x v w = touch-for line w.place w.t w.o w.is.committed.0 w.is.there (inl w.writes.write)

  aborted-for : (line x v : ℕ) → (w : AbortedWrites h line x v) → IsTouchFor line w.place w.t w.o
  aborted-for line x v w = touch-for line w.place w.t w.o w.in_line w.there (inl w.writes.write)

  -- who writes a version is among the writes of it
  also-of : (e : Touch) (line x v : ℕ) → e.item ≡ x → e.version ≡ v → (w : Writes h line x v)
      → IsCommittedBy (IsWriteAlso touches e) (write-for line x v w).e
  also-of e line x v item version w =
      let f = write-for line x v w in (
        record {
          in_it = f.in_it;
          write = f.kind_is ∙ w.writes.write;
          item_is = f.item_is ∙ w.writes.item ∙ sym item;
          version_is = f.version_is ∙ w.version_is ∙ sym version;
        },
        f.commits_is ∙ w.is.committed.1,
      )

  aborted-also : (e : Touch) (line x v : ℕ) → e.item ≡ x → e.version ≡ v → (w : AbortedWrites h line x v)
      → IsWriteAlso touches e (aborted-for line x v w).e
  aborted-also e line x v item version w =
      let f = aborted-for line x v w in
      record {
        in_it = f.in_it;
        write = f.kind_is ∙ w.writes.write;
        item_is = f.item_is ∙ w.writes.item ∙ sym item;
        version_is = f.version_is ∙ w.version_is ∙ sym version;
      }

  -- ---- a fault by touches is a fault

  module _ (e : Touch) (in_it : Contains touches e) where
    i : IsTouch h e
    i = touch-is e in_it

    faulty : (flaw : Flaw) → e.commits ≡ true
        → HasFlaw h e.line e.place (touch-is e in_it).t (touch-is e in_it).of.o flaw → IsFaulty h e.line flaw e.place
    faulty flaw commits has = record {
      t = (touch-is e in_it).t;
      o = (touch-is e in_it).of.o;
      is = operation e (touch-is e in_it) commits;
      has = has;
    }

    reads-committed : e.kind ≡ Read → e.commits ≡ true
    reads-committed read = (touch-is e in_it).of.commits_is
        ∙ ((touch-is e in_it).of.read (sym (touch-is e in_it).of.kind_is ∙ read)).0

    foreign : e.kind ≡ Read → e.version ≢ 0 → IsForeign (touch-is e in_it).t e.place (touch-is e in_it).of.o
    foreign read above = record {
      read = sym (touch-is e in_it).of.kind_is ∙ read;
      foreign = ((touch-is e in_it).of.read (sym (touch-is e in_it).of.kind_is ∙ read)).1;
      not_first = λ z. above ((touch-is e in_it).of.version_is ∙ z);
    }

    none-committed : ((w : Touch) → IsCommittedBy (IsWriteAlso touches e) w → ⊥)
        → NoneCommitted h (touch-is e in_it).of.o.item (touch-is e in_it).of.o.version
    none-committed none line w = none (write-for line (touch-is e in_it).of.o.item (touch-is e in_it).of.o.version w).e
        (also-of e line (touch-is e in_it).of.o.item (touch-is e in_it).of.o.version (touch-is e in_it).of.item_is
        (touch-is e in_it).of.version_is w)

    pub flaw-real : (flaw : Flaw) → HasTouchFlaw touches e flaw → IsFaulty h e.line flaw e.place
    flaw-real Internal (read, w, also, line) =
        let u = touch-is w also.in_it in
        let t_is : u.t ≡ (touch-is e in_it).t = same_Some u.t (touch-is e in_it).t (sym u.in_line
        ∙ ap (slice_get h) line ∙ (touch-is e in_it).in_line) in
        faulty Internal (reads-committed read) (inr (inr (record {
          read = sym (touch-is e in_it).of.kind_is ∙ read;
          foreign = ((touch-is e in_it).of.read (sym (touch-is e in_it).of.kind_is ∙ read)).1;
          later = w.place;
          by = u.of.o;
          there = ap (λ (k : Transaction ℕ ℕ). slice_get k.operations w.place) (sym t_is) ∙ u.of.there;
          writes = record {
            write = sym u.of.kind_is ∙ also.write;
            item = sym u.of.item_is ∙ also.item_is
                ∙ (touch-is e in_it).of.item_is;
          };
          version_is = sym u.of.version_is ∙ also.version_is ∙ (touch-is e in_it).of.version_is;
        })))
    flaw-real Duplicate (write, commits, w, also, before) =
        faulty Duplicate commits (
          sym (touch-is e in_it).of.kind_is ∙ write,
          w.line,
          before,
          writes-of w (touch-is e in_it).of.o.item (touch-is e in_it).of.o.version also.0.in_it also.0.write also.1
              (also.0.item_is ∙ (touch-is e in_it).of.item_is) (also.0.version_is ∙ (touch-is e in_it).of.version_is),
        )
    flaw-real AbortedRead (read, above, none, w, also) =
        let u = touch-is w also.in_it in
        faulty AbortedRead (reads-committed read) (
          foreign read above,
          none-committed none,
          w.line,
          record {
            t = u.t;
            in_line = u.in_line;
            aborts = sym u.of.commits_is ∙ false-unless_true w.commits (λ yes. none w (also, yes));
            place = w.place;
            o = u.of.o;
            there = u.of.there;
            writes = record {
              write = sym u.of.kind_is ∙ also.write;
              item = sym u.of.item_is ∙ also.item_is
                  ∙ (touch-is e in_it).of.item_is;
            };
            version_is = sym u.of.version_is ∙ also.version_is ∙ (touch-is e in_it).of.version_is;
          },
        )
    flaw-real Unwritten (read, above, none) =
        faulty Unwritten (reads-committed read) (
          foreign read above,
          none-committed (λ w c. none w c.0),
          λ line w. none (aborted-for line (touch-is e in_it).of.o.item (touch-is e in_it).of.o.version w).e
              (aborted-also e line (touch-is e in_it).of.o.item (touch-is e in_it).of.o.version
              (touch-is e in_it).of.item_is (touch-is e in_it).of.version_is w),
        )
    flaw-real IntermediateRead (read, above, w, first, surpassed) =
        let u = touch-is w first.is.0.in_it in
        let g = (u.surpassed first.is.0.write).0 surpassed in
        faulty IntermediateRead (reads-committed read) (
          foreign read above,
          w.line,
          record {
            writes = writes-of w (touch-is e in_it).of.o.item (touch-is e in_it).of.o.version first.is.0.in_it
                first.is.0.write first.is.1
                (first.is.0.item_is ∙ (touch-is e in_it).of.item_is) (first.is.0.version_is
                ∙ (touch-is e in_it).of.version_is);
            first = λ line by.
                let f = write-for line (touch-is e in_it).of.o.item (touch-is e in_it).of.o.version by in
                let least = first.least f.e (also-of e line (touch-is e in_it).of.o.item (touch-is e in_it).of.o.version
                (touch-is e in_it).of.item_is (touch-is e in_it).of.version_is by) in
                omega (arith, least, f.line_is);
          },
          g.o.version,
          omega (arith, g.above, first.is.0.version_is, (touch-is e in_it).of.version_is),
          record {
            place = g.place;
            t = u.t;
            o = g.o;
            is = record { committed = (u.in_line, sym u.of.commits_is ∙ first.is.1); there = g.there };
            writes = record {
              write = g.writes.write;
              item = g.writes.item ∙ first.is.0.item_is
                  ∙ (touch-is e in_it).of.item_is;
            };
            version_is = refl;
          },
        )
    flaw-real Value has = absurd has

  pub all-faulty : AreAllFaulty h touches
  all-faulty e flaw in_it has = flaw-real e in_it flaw has

  pub all-alike : AreAllAlike touches
  all-alike a b in_a in_b write write' item version line =
      let i = touch-is a in_a in
      let j = touch-is b in_b in
      let t_is : i.t ≡ j.t = same_Some i.t j.t (sym i.in_line ∙ ap (slice_get h) line ∙ j.in_line) in
      same a.surpassed b.surpassed
      (λ yes. (j.surpassed write').1 (subst (λ (u : Transaction ℕ ℕ). WritesGreater u.operations b.item b.version) t_is
      (subst (λ x. WritesGreater i.t.operations x b.version) item
      (subst (WritesGreater i.t.operations a.item) version ((i.surpassed write).0 yes)))))
      (λ yes. (i.surpassed write).1 (subst (λ (u : Transaction ℕ ℕ). WritesGreater u.operations a.item a.version)
      (sym t_is)
      (subst (λ x. WritesGreater j.t.operations x a.version) (sym item)
      (subst (WritesGreater j.t.operations b.item) (sym version) ((j.surpassed write').0 yes)))))
    where
      same : (p q : Bool) → (IsTrue p → IsTrue q) → (IsTrue q → IsTrue p) → p ≡ q
      same true true f g = refl
      same true false f g = sym (f refl)
      same false true f g = g refl
      same false false f g = refl

  -- ---- a fault is a fault by touches

  module _ (first : Option Fault) (covered : AreAllCovered touches first) (line place : ℕ) (t : Transaction ℕ ℕ)
      (o : Operation ℕ ℕ)
      (is : IsOperation h line place t o) where
    covered-by : (flaw : Flaw) → (f : IsTouchFor line place t o) → HasTouchFlaw touches f.e flaw
        → Covers first line (rank_of flaw) place
    covered-by flaw f has = subst (λ l. Covers first l (rank_of flaw) place) f.line_is
        (subst (λ p. Covers first f.e.line (rank_of flaw) p) f.place_is (covered f.e flaw f.in_it has))

    read-for : o.kind ≡ Read → NoneWrites t.operations 0 place o.item → IsTouchFor line place t o
    read-for read none = touch-for line place t o is.committed.0 is.there (inr (read, is.committed.1, none))

    -- none of the writes commits where no committed transaction writes
    none-by : (e : Touch) → e.item ≡ o.item → e.version ≡ o.version → NoneCommitted h o.item o.version → (w : Touch)
        → IsCommittedBy (IsWriteAlso touches e) w → ⊥
    none-by e item version none w c =
        none w.line (writes-of w o.item o.version c.0.in_it c.0.write c.1 (c.0.item_is ∙ item) (c.0.version_is
        ∙ version))

    pub future-covered : o.kind ≡ Read → NoneWrites t.operations 0 place o.item → (later : ℕ) (by : Operation ℕ ℕ)
        → slice_get t.operations later ≡ Some by → IsWriteOf by o.item → by.version ≡ o.version
        → Covers first line 0 place
    future-covered read none later by there writes version =
        let f = read-for read none in
        let w = touch-for line later t by is.committed.0 there (inl writes.write) in
        covered-by Internal f (
          f.kind_is ∙ read,
          w.e,
          record {
            in_it = w.in_it;
            write = w.kind_is ∙ writes.write;
            item_is = w.item_is ∙ writes.item ∙ sym f.item_is;
            version_is = w.version_is ∙ version ∙ sym f.version_is;
          },
          w.line_is ∙ sym f.line_is,
        )

    pub flaw-covered : (flaw : Flaw) → (flaw ≢ Internal) → (flaw ≢ Value) → HasFlaw h line place t o flaw
        → Covers first line (rank_of flaw) place
    flaw-covered Internal a b has = absurd (a refl)
    flaw-covered Duplicate a b (write, earlier, before, w) =
        let f = touch-for line place t o is.committed.0 is.there (inl write) in
        let u = write-for earlier o.item o.version w in
        covered-by Duplicate f (
          f.kind_is ∙ write,
          f.commits_is ∙ is.committed.1,
          u.e,
          also-of f.e earlier o.item o.version f.item_is f.version_is w,
          omega (arith, u.line_is, f.line_is, before),
        )
    flaw-covered AbortedRead a b (foreign, none, by, w) =
        let f = read-for foreign.read foreign.foreign in
        covered-by AbortedRead f (
          f.kind_is ∙ foreign.read,
          (λ z. foreign.not_first (sym f.version_is ∙ z)),
          none-by f.e f.item_is f.version_is none,
          (aborted-for by o.item o.version w).e,
          aborted-also f.e by o.item o.version f.item_is f.version_is w,
        )
    flaw-covered Unwritten a b (foreign, none, never) =
        let f = read-for foreign.read foreign.foreign in
        covered-by Unwritten f (
          f.kind_is ∙ foreign.read,
          (λ z. foreign.not_first (sym f.version_is ∙ z)),
          λ w also.
              let i = touch-is w also.in_it in
              never w.line (record {
                t = i.t;
                in_line = i.in_line;
                aborts = sym i.of.commits_is
                    ∙ false-unless_true w.commits (λ yes. none-by f.e f.item_is f.version_is none w (also, yes));
                place = w.place;
                o = i.of.o;
                there = i.of.there;
                writes = record {
                  write = sym i.of.kind_is ∙ also.write;
                  item = sym i.of.item_is ∙ also.item_is
                      ∙ f.item_is;
                };
                version_is = sym i.of.version_is ∙ also.version_is ∙ f.version_is;
              }),
        )
    flaw-covered IntermediateRead a b (foreign, by, writer, greater, above, w) =
        let f = read-for foreign.read foreign.foreign in
        let u = write-for by o.item o.version writer.writes in
        let t_is : w.t ≡ writer.writes.t = same_Some w.t writer.writes.t (sym w.is.committed.0
        ∙ writer.writes.is.committed.0) in
        covered-by IntermediateRead f (
          f.kind_is ∙ foreign.read,
          (λ z. foreign.not_first (sym f.version_is ∙ z)),
          u.e,
          record {
            is = also-of f.e by o.item o.version f.item_is f.version_is writer.writes;
            least = λ other c.
                let x = writer.first other.line (writes-of other o.item o.version c.0.in_it c.0.write c.1 (c.0.item_is
                ∙ f.item_is) (c.0.version_is ∙ f.version_is)) in
                omega (arith, x, u.line_is);
          },
          (u.surpassed (u.kind_is ∙ writer.writes.writes.write)).1 (record {
            place = w.place;
            o = w.o;
            there = ap (λ (k : Transaction ℕ ℕ). slice_get k.operations w.place) (sym t_is) ∙ w.is.there;
            writes = record {
              write = w.writes.write;
              item = w.writes.item ∙ sym writer.writes.writes.item
                  ∙ sym u.item_is;
            };
            above = omega (arith, above, w.version_is, u.version_is, writer.writes.version_is);
          }),
        )
    flaw-covered Value a b has = absurd (b refl)
