-- No order serves where a line has a fault.
use Rattle.std.proofs.Common.{◌≡◌, ◌≢◌, ℕ, zero, suc, ◌+◌, ◌-◌, ◌<◌, ◌≤◌, List, Some, refl, sym, ap, ◌∙◌, subst, arith, inl, inr, length, ◌⊎◌}
use Rattle.std.specs.Prelude.{slice_get, Contains}
use Rattle.std.proofs.lemmas.Bool.{cases_order}
use Rattle.std.proofs.lemmas.Option.{same_Some, slice_get_within}
use Rattle.sgt_names.proofs.Places.{Contains-from_at}
use Rattle.sgt_history.specs.declared.history.Kind.TheVariants.{Read, Write}
use Rattle.sgt_history.specs.declared.history.Operation.{Operation}
use Rattle.sgt_history.specs.declared.named.Flaw.{Flaw}
use Rattle.sgt_history.specs.declared.named.Flaw.TheVariants.{Internal, Duplicate, AbortedRead, Unwritten, IntermediateRead, Value}
use Rattle.sgt_history.specs.Transaction.{Transaction}
use Rattle.sgt_history.specs.Serial.{IsCommitted, IsOrder, run_of, IsWriteOf, NoneWrites, IsLastWritten, Has, RunsRight, Serves, IsSerializable}
use Rattle.sgt_history.specs.Conflicts.{IsOperation, Writes, Precedes}
use Rattle.sgt_history.specs.Flaws.{IsForeign, NoneCommitted, IsFirstWriter, HasFlaw, IsFaulty}
use Rattle.sgt_history.proofs.Runs.{one_at, one_version, written-before, written-behind, writes-rise}
use Rattle.sgt_history.proofs.Placed.{start_of, IsPlaced, IsFound, found_in_run, earlier-before}
use Rattle.sgt_history.proofs.Standing.{Stands, stands, own-last}

-- what stands in the run is an operation of a committed transaction
pub record IsRun {I V : Type 0} (h : List (Transaction I V)) (order : List ℕ) (p : ℕ) (o : Operation I V) : Type 0 where
  pub found : IsFound h order p o
  pub is : IsOperation h found.line found.j found.t o

pub in_order : {I V : Type 0} (h : List (Transaction I V)) (order : List ℕ) → IsOrder h order
    → (p : ℕ) (o : Operation I V)
    → slice_get (run_of h order) p ≡ Some o → IsRun h order p o
in_order {I} {V} h order ordered p o there =
    let found = found_in_run h order p o there in
    let by = ordered.committed found.line (Contains-from_at order found.i found.line found.placed.at) in
    let same : by.0 ≡ found.t = same_Some by.0 found.t (sym by.1.0 ∙ found.placed.in_line) in
    record {
      found = found;
      is = record {
        committed = (found.placed.in_line, ap (λ (t : Transaction I V). t.commits) (sym same) ∙ by.1.1);
        there = found.placed.there;
      };
    }

module _ {I V : Type 0} (h : List (Transaction I V)) (order : List ℕ) (s : Serves h order) where
  -- what a read finds
  finds : (line place : ℕ) (t : Transaction I V) (o : Operation I V) → o.kind ≡ Read
      → (a : Stands h order line t place o)
      → Has (run_of h order) a.p o.item o.version
  finds line place t o read a = (s.right a.p o a.there).read read

  -- two operations of one line
  one_line : (line : ℕ) (t : Transaction I V) (j k : ℕ) (o w : Operation I V) (t' : Transaction I V)
      → (a : Stands h order line t j o) → (b : Stands h order line t' k w) → j ≤ k → a.p ≤ b.p
  one_line line t j k o w t' a b le =
      let same = s.ordered.once a.i b.i line a.placed.at b.placed.at in
      omega (arith, a.placed.is, b.placed.is, ap (start_of h order) same)

  -- two operations of two lines
  two_lines : (l m : ℕ) (t t' : Transaction I V) (j k : ℕ) (o w : Operation I V) → l ≢ m
      → (a : Stands h order l t j o) → (b : Stands h order m t' k w) → (a.p < b.p) ⊎ (b.p < a.p)
  two_lines l m t t' j k o w apart a b =
      elim (cases_order a.i b.i) [
        | inl e ↦ absurd (apart (one_at order a.i b.i l m e a.placed.at b.placed.at))
        | inr (inl lt) ↦ inl (earlier-before h order a.p a.i l t j o b.p b.i m t' k w a.placed b.placed lt)
        | inr (inr gt) ↦ inr (earlier-before h order b.p b.i m t' k w a.p a.i l t j o b.placed a.placed gt)
      ]

  -- no operation of another line stands between two of a line
  both : (l m : ℕ) (t t' t'' : Transaction I V) (j k r : ℕ) (o w u : Operation I V) → l ≢ m
      → (a : Stands h order l t j o) → (b : Stands h order m t' k w) → (c : Stands h order m t'' r u) → b.p < a.p
      → a.p < c.p → ⊥
  both l m t t' t'' j k r o w u apart a b c lt gt =
      let same = s.ordered.once b.i c.i m b.placed.at c.placed.at in
      elim (cases_order a.i b.i) [
        | inl e ↦ absurd (apart (one_at order a.i b.i l m e a.placed.at b.placed.at))
        | inr (inl i) ↦
            let no = earlier-before h order a.p a.i l t j o b.p b.i m t' k w a.placed b.placed i in
            absurd (omega (arith, no, lt))
        | inr (inr i) ↦
            let no = earlier-before h order c.p c.i m t'' r u a.p a.i l t j o c.placed a.placed
            (omega (arith, i, same)) in
            absurd (omega (arith, no, gt))
      ]

  -- a write of what is read stands before the read
  not-behind : (l m : ℕ) (t t' : Transaction I V) (j k : ℕ) (o w : Operation I V) → o.kind ≡ Read
      → (a : Stands h order l t j o) → (b : Stands h order m t' k w) → IsWriteOf w o.item → w.version ≡ o.version
      → a.p ≤ b.p → ⊥
  not-behind l m t t' j k o w read a b writes version le =
      let above = written-behind (run_of h order) s.right a.p b.p w o.item o.version b.there writes
      (finds l j t o read a) le in
      absurd (omega (arith, above, version))

  -- what is written where a read stands is by a committed transaction
  read-written : (line place : ℕ) (t : Transaction I V) (o : Operation I V) → IsOperation h line place t o
      → IsForeign t place o → NoneCommitted h o.item o.version → ⊥
  read-written line place t o is f none =
      let a = stands h order s.ordered line place t o is in
      elim (finds line place t o f.read a) [
        | inl last ↦
            let by = in_order h order s.ordered last.last last.o last.there in
            none by.found.line (record {
              place = by.found.j;
              t = by.found.t;
              o = last.o;
              is = by.is;
              writes = last.writes;
              version_is = last.version_is;
            })
        | inr first ↦ f.not_first first.0
      ]

  one_transaction : (line : ℕ) (t t' : Transaction I V) → IsCommitted h line t → IsCommitted h line t' → t ≡ t'
  one_transaction line t t' a b = same_Some t t' (sym a.0 ∙ b.0)

  -- a read whose item its transaction doesn't write before has its version written by another one
  foreign-apart : (line place : ℕ) (t : Transaction I V) (o : Operation I V) → IsOperation h line place t o
      → o.kind ≡ Read
      → NoneWrites t.operations 0 place o.item → (w : Writes h line o.item o.version) → ⊥
  foreign-apart line place t o is read none w =
      let a = stands h order s.ordered line place t o is in
      let b = stands h order s.ordered line w.place w.t w.o w.is in
      let same = one_transaction line w.t t w.is.committed is.committed in
      elim (cases_order w.place place) [
        | inl e ↦ not-behind line line t w.t place w.place o w.o read a b w.writes w.version_is
            (one_line line t place w.place o w.o w.t a b (omega (arith, e)))
        | inr (inl lt) ↦ none w.place w.o (omega arith) lt
            (subst (λ (u : Transaction I V). slice_get u.operations w.place ≡ Some w.o) same w.is.there) w.writes
        | inr (inr gt) ↦ not-behind line line t w.t place w.place o w.o read a b w.writes w.version_is
            (one_line line t place w.place o w.o w.t a b (omega (arith, gt)))
      ]

  -- another transaction that writes what is read writes nothing greater
  intermediate : (line place : ℕ) (t : Transaction I V) (o : Operation I V) → IsOperation h line place t o
      → o.kind ≡ Read
      → (by : ℕ) → Writes h by o.item o.version → (greater : ℕ) → o.version < greater → Writes h by o.item greater
      → line ≢ by → ⊥
  intermediate line place t o is read by first greater above w apart =
      let a = stands h order s.ordered line place t o is in
      let b = stands h order s.ordered by first.place first.t first.o first.is in
      let c = stands h order s.ordered by w.place w.t w.o w.is in
      elim (two_lines line by t first.t place first.place o first.o apart a b) [
        | inl lt ↦ not-behind line by t first.t place first.place o first.o read a b first.writes first.version_is
            (omega (arith, lt))
        | inr gt ↦ elim (two_lines line by t w.t place w.place o w.o apart a c) [
          | inl lt ↦
              absurd (both line by t first.t w.t place first.place w.place o first.o w.o apart a b c gt lt)
          | inr gt ↦
              let most = written-before (run_of h order) s.right a.p c.p w.o o.item o.version c.there w.writes
              (finds line place t o read a) gt in
              absurd (omega (arith, most, w.version_is, above))
        ]
      ]

  pub flaw-excludes : (line place : ℕ) (t : Transaction I V) (o : Operation I V) → IsOperation h line place t o
      → (flaw : Flaw)
      → HasFlaw h line place t o flaw → ⊥
  flaw-excludes line place t o is Internal (inl own) =
      let a = stands h order s.ordered line place t o is in
      let last = own-last h order a.p a.i line t place o a.placed o.item own.version own.own in
      own.other (one_version (run_of h order) a.p o.item o.version own.version (finds line place t o own.read a)
      (inl last))
  flaw-excludes line place t o is Internal (inr (inl again)) =
      let a = stands h order s.ordered line place t o is in
      let last = own-last h order a.p a.i line t place o a.placed o.item again.version again.own in
      let found = (s.right a.p o a.there).write again.write in
      let same = one_version (run_of h order) a.p o.item found.0 again.version found.1 (inl last) in
      absurd (omega (arith, same, found.2, again.most))
  flaw-excludes line place t o is Internal (inr (inr future)) =
      foreign-apart line place t o is future.read future.foreign (record {
        place = future.later;
        t = t;
        o = future.by;
        is = record { committed = is.committed; there = future.there };
        writes = future.writes;
        version_is = future.version_is;
      })
  flaw-excludes line place t o is Duplicate (write, earlier, before, w) =
      let a = stands h order s.ordered line place t o is in
      let b = stands h order s.ordered earlier w.place w.t w.o w.is in
      let here : IsWriteOf o o.item = record { write = write; item = refl } in
      elim (two_lines line earlier t w.t place w.place o w.o (λ e. absurd (omega (arith, e, before))) a b) [
        | inl lt ↦
            let rise = writes-rise (run_of h order) s.right a.p b.p o w.o o.item a.there here b.there w.writes lt in
            absurd (omega (arith, rise, w.version_is))
        | inr gt ↦
            let rise = writes-rise (run_of h order) s.right b.p a.p w.o o o.item b.there w.writes a.there here gt in
            absurd (omega (arith, rise, w.version_is))
      ]
  flaw-excludes line place t o is AbortedRead (f, none, by, w) = read-written line place t o is f none
  flaw-excludes line place t o is Unwritten (f, none, by) = read-written line place t o is f none
  flaw-excludes line place t o is IntermediateRead (f, by, first, greater, above, w) =
      elim (cases_order line by) [
        | inl e ↦ foreign-apart line place t o is f.read f.foreign
            (subst (λ l. Writes h l o.item o.version) (sym e) first.writes)
        | inr (inl lt) ↦ intermediate line place t o is f.read by first.writes greater above w
            (λ e. absurd (omega (arith, lt, e)))
        | inr (inr gt) ↦ intermediate line place t o is f.read by first.writes greater above w
            (λ e. absurd (omega (arith, gt, e)))
      ]
  flaw-excludes line place t o is Value other =
      let a = stands h order s.ordered line place t o is in
      let b = stands h order s.ordered other.line_of other.place_of other.t other.other other.is in
      other.apart (s.values o other.other (Contains-from_at (run_of h order) a.p o a.there)
      (Contains-from_at (run_of h order) b.p other.other b.there) (sym other.item_is) (sym other.version_is)
      other.value other.value_of other.given other.given_of)

pub fault-excludes : {I V : Type 0} (h : List (Transaction I V)) (line : ℕ) (flaw : Flaw) (place : ℕ)
    → IsFaulty h line flaw place → IsSerializable h → ⊥
fault-excludes h line flaw place f (order, s) = flaw-excludes h order s line place f.t f.o f.is flaw f.has
