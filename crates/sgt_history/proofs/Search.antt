-- What is found by a search: who wrote a version, and the next version of a chain.
use Rattle.std.proofs.Common.{◌≡◌, ◌≢◌, ℕ, zero, suc, ◌+◌, ◌-◌, ◌<◌, ◌≤◌, Bool, true, false, List, Some, None, Option, refl, sym, ap, ◌∙◌, subst, arith, inl, inr, length, ◌⊎◌}
use Rattle.std.specs.Prelude.{slice_get}
use Rattle.std.proofs.lemmas.Bool.{cases_eq, cases_lt, cases_order}
use Rattle.std.proofs.lemmas.Option.{same_Some}
use Rattle.sgt_names.proofs.Lists.{option_cases}
use Rattle.sgt_notation.proofs.Decidable.{Decidable, decidable-as, decidable-both, decidable-found, decidable-less}
use Rattle.sgt_history.specs.declared.history.Kind.{Kind}
use Rattle.sgt_history.specs.declared.history.Kind.TheVariants.{Read, Write}
use Rattle.sgt_history.specs.declared.history.Operation.{Operation}
use Rattle.sgt_history.specs.Transaction.{Transaction}
use Rattle.sgt_history.specs.Serial.{IsCommitted, IsWriteOf, NoneWrites, IsLastWritten, Has}
use Rattle.sgt_history.specs.Conflicts.{IsOperation, Writes, IsNext}
use Rattle.sgt_history.specs.Flaws.{AbortedWrites}

pub decidable-kind : (k : Kind) → Decidable (k ≡ Write)
decidable-kind Read = inr (λ e. cc)
decidable-kind Write = inl refl

pub decidable-write : (o : Operation ℕ ℕ) (x : ℕ) → Decidable (IsWriteOf o x)
decidable-write o x = decidable-as (λ p. record { write = p.0; item = p.1 }) (λ w. (w.write, w.item))
    (decidable-both (decidable-kind o.kind) (cases_eq o.item x))

-- the version that an item has at a place
pub has_some : (run : List (Operation ℕ ℕ)) (p x : ℕ) → (v : ℕ) × Has run p x v
has_some run zero x = (0, inr (refl, λ r o a b e w. absurd (omega arith)))
has_some run (suc p) x = more (option_cases (slice_get run p)) (has_some run p x)
  where
    over : (v : ℕ) → ((o : Operation ℕ ℕ) → slice_get run p ≡ Some o → IsWriteOf o x → ⊥) → Has run p x v
        → Has run (suc p) x v
    over v not (inl a) = inl (record {
      last = a.last;
      o = a.o;
      before = omega (arith, a.before);
      there = a.there;
      writes = a.writes;
      version_is = a.version_is;
      none = λ r o above below e w. elim (cases_eq r p) [
        | inl same ↦ not o (ap (slice_get run) (sym same) ∙ e) w
        | inr apart ↦ a.none r o above (omega arith) e w
      ];
    })
    over v not (inr b) = inr (
      b.0,
      λ r o above below e w. elim (cases_eq r p) [
        | inl same ↦ not o (ap (slice_get run) (sym same) ∙ e) w
        | inr apart ↦ b.1 r o above (omega arith) e w
      ],
    )

    more : (slice_get run p ≡ None) ⊎ ((o : Operation ℕ ℕ) × (slice_get run p ≡ Some o)) → ((v : ℕ) × Has run p x v)
        → (v : ℕ) × Has run (suc p) x v
    more (inl none) before = (before.0, over before.0 (λ o e w. let f = sym none ∙ e in cc) before.1)
    more (inr some) before = elim (decidable-write some.0 x) [
      | inl w ↦ (
        some.0.version,
        inl (record {
          last = p;
          o = some.0;
          before = omega arith;
          there = some.1;
          writes = w;
          version_is = refl;
          none = λ r o above below e w. absurd (omega arith);
        }),
      )
      | inr not ↦ (
        before.0,
        over before.0
            (λ o e w. not (subst (λ (u : Operation ℕ ℕ). IsWriteOf u x) (same_Some o some.0 (sym e ∙ some.1)) w))
            before.1,
      )
    ]

decidable-bool : (b c : Bool) → Decidable (b ≡ c)
decidable-bool true true = inl refl
decidable-bool true false = inr (λ e. cc)
decidable-bool false true = inr (λ e. cc)
decidable-bool false false = inl refl

-- an operation of a transaction that commits, or of one that aborts, of which something holds
pub record IsSomewhere (h : List (Transaction ℕ ℕ)) (commits : Bool) (P : Operation ℕ ℕ → Type 0) : Type 0 where
  pub line : ℕ
  pub t : Transaction ℕ ℕ
  pub in_line : slice_get h line ≡ Some t
  pub ends : t.commits ≡ commits
  pub place : ℕ
  pub o : Operation ℕ ℕ
  pub there : slice_get t.operations place ≡ Some o
  pub holds : P o

pub decidable-somewhere : (h : List (Transaction ℕ ℕ)) (commits : Bool) (P : Operation ℕ ℕ → Type 0)
    → ((o : Operation ℕ ℕ) → Decidable (P o)) → Decidable (IsSomewhere h commits P)
decidable-somewhere h commits P each =
    decidable-as
    (λ f. record {
      line = f.0;
      t = f.1;
      in_line = f.2;
      ends = f.3.0;
      place = f.3.1.0;
      o = f.3.1.1;
      there =
          f.3.1.2;
      holds = f.3.1.3;
    })
    (λ s. (s.line, s.t, s.in_line, (s.ends, (s.place, s.o, s.there, s.holds))))
    (decidable-found (λ line (t : Transaction ℕ ℕ). (t.commits ≡ commits)
    × ((place : ℕ) × (o : Operation ℕ ℕ) × (slice_get t.operations place ≡ Some o) × P o))
    (λ line t. decidable-both (decidable-bool t.commits commits)
    (decidable-found (λ place o. P o) (λ place o. each o) t.operations)) h)

-- it writes the item, with a version of which something holds
abbrev pub IsWriting : ℕ → (ℕ → Type 0) → Operation ℕ ℕ → Type 0
IsWriting x Q o = IsWriteOf o x × Q o.version

pub decidable-writing : (x : ℕ) (Q : ℕ → Type 0) → ((v : ℕ) → Decidable (Q v))
    → (h : List (Transaction ℕ ℕ)) (commits : Bool)
    → Decidable (IsSomewhere h commits (IsWriting x Q))
decidable-writing x Q each h commits =
    decidable-somewhere h commits (IsWriting x Q) (λ o. decidable-both (decidable-write o x) (each o.version))

-- who wrote it
pub writes_of : (h : List (Transaction ℕ ℕ)) (x : ℕ) (Q : ℕ → Type 0) → (s : IsSomewhere h true (IsWriting x Q))
    → Writes h s.line x s.o.version
writes_of h x Q s = record {
  place = s.place;
  t = s.t;
  o = s.o;
  is = record { committed = (s.in_line, s.ends); there = s.there };
  writes = s.holds.0;
  version_is = refl;
}

pub somewhere_of : (h : List (Transaction ℕ ℕ)) (x v line : ℕ) (Q : ℕ → Type 0) → Writes h line x v → Q v
    → IsSomewhere h true (IsWriting x Q)
somewhere_of h x v line Q w q = record {
  line = line;
  t = w.t;
  in_line = w.is.committed.0;
  ends = w.is.committed.1;
  place = w.place;
  o = w.o;
  there = w.is.there;
  holds = (w.writes, subst Q (sym w.version_is) q);
}

pub decidable-written : (h : List (Transaction ℕ ℕ)) (x v : ℕ) → Decidable ((line : ℕ) × Writes h line x v)
decidable-written h x v = decidable-as
    (λ s. (s.line, subst (Writes h s.line x) s.holds.1 (writes_of h x (λ u. u ≡ v) s)))
    (λ w. somewhere_of h x v w.0 (λ u. u ≡ v) w.1 refl)
    (decidable-writing x (λ u. u ≡ v) (λ u. cases_eq u v) h true)

pub decidable-aborted : (h : List (Transaction ℕ ℕ)) (x v : ℕ) → Decidable ((line : ℕ) × AbortedWrites h line x v)
decidable-aborted h x v = decidable-as
    (λ s. (
      s.line,
      record {
        t = s.t;
        in_line = s.in_line;
        aborts = s.ends;
        place = s.place;
        o = s.o;
        there = s.there;
        writes = s.holds.0;
        version_is = s.holds.1;
      },
    ))
    (λ w. record {
      line = w.0;
      t = w.1.t;
      in_line = w.1.in_line;
      ends = w.1.aborts;
      place = w.1.place;
      o = w.1.o;
      there = w.1.there;
      holds = (w.1.writes, w.1.version_is);
    })
    (decidable-writing x (λ u. u ≡ v) (λ u. cases_eq u v) h false)

-- the next version of a chain above v, where there is one
pub record HasNext (h : List (Transaction ℕ ℕ)) (x v w : ℕ) : Type 0 where
  pub version : ℕ
  pub line : ℕ
  pub writes : Writes h line x version
  pub next : IsNext h x v version
  pub most : version ≤ w

pub next_of : (h : List (Transaction ℕ ℕ)) (x : ℕ) (top v w line : ℕ) → w ≤ top → Writes h line x w → v < w
    → HasNext h x v w
next_of h x zero v w line le writes lt = absurd (omega arith)
next_of h x (suc top) v w line le writes lt =
    elim (decidable-writing x (λ u. (v < u) × (u < w)) (λ u. decidable-both (decidable-less v u) (decidable-less u w))
    h true) [
      | inl s ↦
          let more =
          next_of h x top v s.o.version s.line (omega (arith, s.holds.1.1))
          (writes_of h x (λ u. (v < u) × (u < w)) s) s.holds.1.0 in
          record {
            version = more.version;
            line = more.line;
            writes = more.writes;
            next = more.next;
            most =
                omega (arith, more.most, s.holds.1.1);
          }
      | inr none ↦ record {
        version = w;
        line = line;
        writes = writes;
        next = record {
          above = lt;
          least = λ other u by above. elim (cases_lt u w) [
            | inl below ↦ absurd (none (somewhere_of h x u other (λ u. (v < u) × (u < w)) by (above, below)))
            | inr not ↦ omega (arith, not)
          ];
        };
        most = omega arith;
      }
    ]
