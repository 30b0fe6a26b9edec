-- One line more of the touches of a history.
use Rattle.std.proofs.Common.{◌≡◌, ◌≢◌, ℕ, zero, suc, ◌+◌, ◌-◌, ◌<◌, ◌≤◌, Bool, true, false, IsTrue, List, [], ◌∷◌, ◌++◌, Option, Some, None, length, take, drop, refl, sym, ap, ◌∙◌, subst, arith, inl, inr, ◌⊎◌, All, Contains, get_or}
use Rattle.std.specs.Prelude.{slice_get, ◌↔◌}
use Rattle.std.proofs.lemmas.Bool.{cases_eq, cases_lt, cases_order}
use Rattle.std.proofs.lemmas.Option.{same_Some, slice_get_within}
use Rattle.sgt_names.proofs.Places.{Contains_at, Contains-from_at, All_at, All-from_at}
use Rattle.sgt_names.proofs.Lists.{front_at, back_at, middle_at, within_at}
use Rattle.sgt_history.specs.declared.history.Kind.{Kind}
use Rattle.sgt_history.specs.declared.history.Kind.TheVariants.{Read, Write}
use Rattle.sgt_history.specs.declared.history.Operation.{Operation}
use Rattle.sgt_history.specs.Transaction.{Transaction}
use Rattle.sgt_history.specs.Serial.{IsWriteOf, NoneWrites, IsLastWritten, IsCommitted}
use Rattle.sgt_history.specs.Conflicts.{IsOperation}
use Rattle.sgt_history_faults.specs.declared.fault.Fault.{Fault}
use Rattle.sgt_history_faults.specs.declared.mine.Mine.{Mine}
use Rattle.sgt_history_faults.specs.declared.touch.Touch.{Touch}
use Rattle.sgt_history_faults.specs.declared.touching.Whose.{Whose}
use Rattle.sgt_history_faults.specs.Mine.{IsMine, IsGreatest, ContradictsOwn, AreMine, IsItemBelow}
use Rattle.sgt_history_faults.specs.Noted.{Covers, IsReal}
use Rattle.sgt_history_faults.specs.Touch.{WritesGreater, IsTouchOf, TellsSurpassed, IsToTouch, IsTouched, IsTouch, IsTouchBelow, IsMarkOf, AreMarked, TakesLine}
use Rattle.sgt_history_faults.specs.Collected.{IsCollected}

-- what was written in all of the item of a write
greatest-of : (stamp : ℕ) (done : List (Operation ℕ ℕ)) (x v : ℕ) (m : Mine) → IsMine stamp done (length done) x m
    → (place : ℕ) (o : Operation ℕ ℕ) → slice_get done place ≡ Some o → IsWriteOf o x
    → (v < m.greatest) ↔ WritesGreater done x v
greatest-of stamp done x v m is place o there writes =
    elim (cases_eq m.stamp stamp) [
      | inr other ↦ absurd (is.none other place o (omega arith) (slice_get_within done place o there) there writes)
      | inl same ↦
          let g = is.greatest same in (
            λ lt. record {
              place = g.place;
              o = g.o;
              there = g.there;
              writes = g.writes;
              above =
                  omega (arith, lt, g.version_is);
            },
            λ w. omega (
              arith,
              w.above,
              g.most w.place w.o (slice_get_within done w.place w.o w.there) w.there w.writes,
            ),
          )
    ]

-- there is room for the items of the touches of a line
pub taken-below : (whose : Whose) (done : List (Operation ℕ ℕ)) (n items size : ℕ) (old new : List Touch)
    → size ≡ items → TakesLine whose done n old new
    → All (IsTouchBelow items) old → All (IsItemBelow items) done → All (IsTouchBelow size) new
taken-below whose done n items size old new same t before these =
    All-from_at (IsTouchBelow size) new (λ k e at. elim (cases_lt k (length old)) [
      | inl less ↦
          let a = within_at old k less in
          let e_is = same_Some a.0 e (sym (front_at old t.more k a.0 a.1) ∙ ap (λ xs. slice_get xs k) (sym t.is)
          ∙ at) in
          let low = All_at (IsTouchBelow items) old k a.0 before a.1 in
          omega (arith, low, ap (λ (u : Touch). u.item) e_is, same)
      | inr more ↦
          let there : slice_get t.more (k - length old) ≡ Some e =
          sym (back_at old t.more (k - length old)) ∙ ap (slice_get (old ++ t.more)) (omega (arith, more))
          ∙ ap (λ xs. slice_get xs k) (sym t.is) ∙ at in
          let of = All_at (IsTouchOf whose.line whose.commits done) t.more (k - length old) e t.each there in
          let low = All_at (IsItemBelow items) done e.place of.o these of.there in
          omega (arith, low, of.item_is, same)
    ])

module _ (h : List (Transaction ℕ ℕ)) (n items : ℕ) (t : Transaction ℕ ℕ) (in_line : slice_get h n ≡ Some t)
    (old mid new : List Touch) (mine : List Mine) (size : length mine ≡ items)
    (these : All (IsItemBelow items) t.operations)
    (taken : TakesLine (record { line = n; commits = t.commits }) t.operations (length t.operations) old mid)
    (mines : AreMine (n + 1) t.operations (length t.operations) mine) (marked : AreMarked (length old) mine mid new)
  where
    -- one behind those before
    marked-is : (k : ℕ) (b : Touch) → length old ≤ k → slice_get new k ≡ Some b → IsTouch h b × IsTouchBelow items b
    marked-is k b le at =
        let lt : k < length mid = omega (arith, slice_get_within new k b at, marked.size) in
        let a = within_at mid k lt in
        let mark = marked.behind k a.0 b le a.1 at in
        let there : slice_get taken.more (k - length old) ≡ Some a.0 =
        sym (back_at old taken.more (k - length old)) ∙ ap (slice_get (old ++ taken.more)) (omega (arith, le))
        ∙ ap (λ xs. slice_get xs k) (sym taken.is) ∙ a.1 in
        let of = All_at (IsTouchOf n t.commits t.operations) taken.more (k - length old) a.0 taken.each there in
        let low = All_at (IsItemBelow items) t.operations a.0.place of.o these of.there in
        let is : IsTouch h (record a.0 { surpassed = b.surpassed }) = record {
          t = t;
          in_line = ap (slice_get h) of.line_is ∙ in_line;
          of = record {
            o = of.o;
            line_is = refl;
            commits_is = of.commits_is;
            there = of.there;
            item_is = of.item_is;
            version_is = of.version_is;
            kind_is = of.kind_is;
            read = of.read;
          };
          surpassed = λ write.
              let g = greatest-of (n + 1) t.operations a.0.item a.0.version mark.m (mines a.0.item mark.m mark.mine_is)
              a.0.place of.o of.there
              (record { write = sym of.kind_is ∙ write; item = sym of.item_is }) in
              (λ yes. g.0 (mark.told.0 yes), λ w. mark.told.1 (g.1 w));
        } in
        (subst (IsTouch h) (sym mark.is) is, subst (IsTouchBelow items) (sym mark.is) (omega (arith, low, of.item_is)))

    -- one of those before
    before-is : (k : ℕ) (b : Touch) → k < length old → slice_get new k ≡ Some b → slice_get old k ≡ Some b
    before-is k b lt at =
        let a = within_at old k lt in
        let front = front_at old taken.more k a.0 a.1 in
        let same = same_Some a.0 b (sym front ∙ ap (λ xs. slice_get xs k) (sym taken.is) ∙ sym (marked.before k lt)
        ∙ at) in
        a.1 ∙ ap Some same

    -- where one stands, one stands still
    still : (k : ℕ) (e : Touch) → slice_get mid k ≡ Some e → (b : Touch) × (slice_get new k ≡ Some b)
        × (b.line ≡ e.line) × (b.place ≡ e.place)
    still k e at =
        let lt : k < length new = omega (arith, slice_get_within mid k e at, marked.size) in
        let b = within_at new k lt in
        elim (cases_lt k (length old)) [
          | inl less ↦
              let same = same_Some b.0 e (sym b.1 ∙ marked.before k less ∙ at) in
              (b.0, b.1, ap (λ (u : Touch). u.line) same, ap (λ (u : Touch). u.place) same)
          | inr more ↦
              let mark = marked.behind k e b.0 more at b.1 in
              (b.0, b.1, ap (λ (u : Touch). u.line) mark.is, ap (λ (u : Touch). u.place) mark.is)
        ]

    touched-still : (line place : ℕ) (k : ℕ) (e : Touch) → slice_get mid k ≡ Some e → e.line ≡ line → e.place ≡ place
        → IsTouched new line place
    touched-still line place k e at line_is place_is =
        let b = still k e at in
        record { e = b.0; in_it = Contains-from_at new k b.0 b.1; line_is = b.2 ∙ line_is; place_is = b.3 ∙ place_is }

    module _ (first next : Option Fault) (before : IsCollected h n items old first) (real : IsReal h next)
        (kept : (line rank place : ℕ) → Covers first line rank place → Covers next line rank place)
        (noted : (place : ℕ) (o : Operation ℕ ℕ) → IsOperation h n place t o → ContradictsOwn t.operations place o
        → Covers next n 0 place) where
      pub collected-more : IsCollected h (n + 1) items new next
      collected-more = record {
        each = All-from_at (IsTouch h) new (λ k b at. elim (cases_lt k (length old)) [
          | inl less ↦ All_at (IsTouch h) old k b before.each (before-is k b less at)
          | inr more ↦ (marked-is k b more at).0
        ]);
        below = All-from_at (IsTouchBelow items) new (λ k b at. elim (cases_lt k (length old)) [
          | inl less ↦ All_at (IsTouchBelow items) old k b before.below (before-is k b less at)
          | inr more ↦ (marked-is k b more at).1
        ]);
        all = λ line place u o lt there at to. elim (cases_eq line n) [
          | inl same ↦
              let u_is : t ≡ u = same_Some t u (sym in_line ∙ ap (slice_get h) (sym same) ∙ there) in
              let touched = taken.all place o
              (slice_get_within t.operations place o (ap (λ (k : Transaction ℕ ℕ). slice_get k.operations place) u_is
              ∙ at))
              (ap (λ (k : Transaction ℕ ℕ). slice_get k.operations place) u_is ∙ at)
              (subst (λ (k : Transaction ℕ ℕ). IsToTouch k.commits k.operations place o) (sym u_is) to) in
              let k = Contains_at taken.more touched.e touched.in_it in
              touched-still line place (length old + k.0) touched.e
              (ap (λ xs. slice_get xs (length old + k.0)) taken.is ∙ back_at old taken.more k.0 ∙ k.1)
              (touched.line_is ∙ sym same) touched.place_is
          | inr apart ↦
              let touched = before.all line place u o (omega arith) there at to in
              let k = Contains_at old touched.e touched.in_it in
              touched-still line place k.0 touched.e
              (ap (λ xs. slice_get xs k.0) taken.is ∙ front_at old taken.more k.0 touched.e k.1) touched.line_is
              touched.place_is
        ];
        real = real;
        covered = λ line place u o lt is c. elim (cases_eq line n) [
          | inl same ↦
              let u_is : u ≡ t = same_Some u t (sym is.committed.0 ∙ ap (slice_get h) same ∙ in_line) in
              subst (λ l. Covers next l 0 place) (sym same) (noted place o
              (subst (λ k. IsOperation h n place k o) u_is (subst (λ l. IsOperation h l place u o) same is))
              (subst (λ (k : Transaction ℕ ℕ). ContradictsOwn k.operations place o) u_is c))
          | inr apart ↦ kept line 0 place (before.covered line place u o (omega arith) is c)
        ];
      }
