-- The course of what was done to an item, as deeds are added.
use Rattle.std.proofs.Common.{◌≡◌, ◌⊎◌, ℕ, suc, ◌+◌, ◌-◌, ◌<◌, ◌≤◌, List, [], ◌∷◌, ◌++◌, length, take, drop, All, true, false, Some, sym, ap, ◌∙◌, subst, arith, inl, inr, Contains, Vec}
use Rattle.std.specs.Prelude.{slice_get}
use Rattle.std.specs.declared.alloc.Global.{Global}
use Rattle.std.proofs.lemmas.Bool.{cases_Bool, cases_eq, true≢false}
use Rattle.std.proofs.lemmas.Option.{same_Some, slice_get_within}
use Rattle.std.proofs.lemmas.List.{length-set, length_push}
use Rattle.sgt_names.proofs.Places.{All_at, slice_get-drop, slice_get-take_at}
use Rattle.sgt_order.proofs.Lists.{get_push_cases}
use Rattle.sgt_service_settle.specs.declared.course.Course.{Course}
use Rattle.sgt_service_settle.specs.declared.deeds.Deed.{Deed}
use Rattle.sgt_service_settle.specs.private.Course.{IsCourse, IsReadAdded, IsChangeAdded}
use Rattle.sgt_service_settle.proofs.Lists.{push_contains, push_old, push_new}
use Rattle.sgt_names.proofs.Elements.{get-slice_set_same, get-slice_set_other, get-push_last, contains-none}
use Rattle.sgt_names.proofs.Lists.{front_at}

-- what holds of a part of a list holds at its places
pub all_between : (J : Deed → Type 0) (xs : List Deed) (first end v : ℕ) (d : Deed)
    → All J (take (end - first) (drop first xs)) → first ≤ v → v < end → slice_get xs v ≡ Some d → J d
all_between J xs first end v d all low high at =
    let place : first + (v - first) ≡ v = omega (arith, low) in
    let dropped : slice_get (drop first xs) (v - first) ≡ Some d = slice_get-drop xs first (v - first)
    ∙ (ap (slice_get xs) place ∙ at) in
    All_at J (take (end - first) (drop first xs)) (v - first) d all
    (slice_get-take_at (drop first xs) (end - first) (v - first) d (omega (arith, low, high)) dropped)

pub read_added : (done : List Deed) (old : Course) (d : Deed) (new : Course) → IsCourse done old → d.read ≡ true
    → IsReadAdded old d new → IsCourse (done ++ d ∷ []) new
read_added done old d new is reads a =
    let same : new.changes.items ≡ old.changes.items = ap (λ (v : Vec Deed Global). v.items) a.changes in
    let written : new.written ≡ old.written = a.written in
    let within = slice_get_within old.reads.items d.version a.before a.was in
    let here : slice_get new.reads.items d.version ≡ Some a.after = ap (λ rs. slice_get rs d.version) a.now
    ∙ get-slice_set_same old.reads.items d.version a.after within in
    let there : (v : ℕ) → (v ≡ d.version → ⊥) → slice_get new.reads.items v ≡ slice_get old.reads.items v =
    λ v other. ap (λ rs. slice_get rs v) a.now ∙ get-slice_set_other old.reads.items d.version v a.after other in
    let least : old.last_read ≤ new.last_read = elim a.last [
      | inl more ↦ let lt = more.0 in let is_new = more.1 in omega (arith, lt, is_new)
      | inr kept ↦ let is_old = kept.1 in omega (arith, is_old)
    ] in
    let mine : d.version ≤ new.last_read = elim a.last [
      | inl more ↦ let is_new = more.1 in omega (arith, is_new)
      | inr kept ↦ let le = kept.0 in let is_old = kept.1 in omega (arith, le, is_old)
    ] in
    record {
      shaped = record {
        long = ap length a.now
            ∙ (length-set old.reads.items d.version a.after ∙ (is.shaped.long ∙ ap (λ xs. suc (length xs)) (sym same)));
      };
      changes = λ v e at. let was = is.changes v e (ap (λ xs. slice_get xs v) (sym same) ∙ at) in
          (push_old done d e was.0, was.1, was.2);
      changed = λ e has change. elim (push_contains done d e has) [
        | inl before ↦ ap (λ xs. slice_get xs e.version) same ∙ is.changed e before change
        | inr last ↦ absurd (true≢false (sym reads ∙ (ap (λ (x : Deed). x.read) last ∙ change)))
      ];
      reads = λ v row e at has. elim (cases_eq v d.version) [
        | inl at_it ↦
            let is_row : a.after ≡ row =
            same_Some a.after row (sym here ∙ (ap (slice_get new.reads.items) (sym at_it) ∙ at)) in
            let in_it : Contains (a.before.items ++ d ∷ []) e =
            subst (λ xs. Contains xs e) (ap (λ (r : Vec Deed Global). r.items) (sym is_row) ∙ a.more) has in
            elim (push_contains a.before.items d e in_it) [
              | inl before ↦ let was = is.reads d.version a.before e a.was before in
                  (push_old done d e was.0, was.1, was.2 ∙ sym at_it)
              | inr last ↦ (
                subst (Contains (done ++ d ∷ [])) last (push_new done d),
                ap (λ (x : Deed). x.read) (sym last) ∙ reads,
                ap (λ (x : Deed). x.version) (sym last) ∙ sym at_it,
              )
            ]
        | inr other ↦ let was = is.reads v row e (sym (there v other) ∙ at) has in
            (push_old done d e was.0, was.1, was.2)
      ];
      read = λ e has read. elim (push_contains done d e has) [
        | inl before ↦
            let row = is.read e before read in
            elim (cases_eq e.version d.version) [
              | inl at_it ↦
                  let is_row : row.0 ≡ a.before =
                  same_Some row.0 a.before (sym row.1 ∙ (ap (slice_get old.reads.items) at_it ∙ a.was)) in
                  let in_it : Contains a.before.items e =
                  subst (λ (r : Vec Deed Global). Contains r.items e) is_row row.2 in (
                    a.after,
                    ap (slice_get new.reads.items) at_it
                        ∙ here,
                    subst (λ xs. Contains xs e) (sym a.more) (push_old a.before.items d e in_it),
                  )
              | inr other ↦ (row.0, there e.version other ∙ row.1, row.2)
            ]
        | inr last ↦
            let in_it : Contains a.after.items d =
            subst (λ xs. Contains xs d) (sym a.more) (push_new a.before.items d) in (
              a.after,
              ap (λ (x : Deed). slice_get new.reads.items x.version) (sym last)
                  ∙ here,
              subst (Contains a.after.items) last in_it,
            )
      ];
      added = λ v e le at. is.added v e (omega (arith, le, written)) (ap (λ xs. slice_get xs v) (sym same) ∙ at);
      wrote = λ v e next at. is.wrote v e (next ∙ written) (ap (λ xs. slice_get xs v) (sym same) ∙ at);
      written = let low = is.written in omega (arith, low, written, ap length same);
      last = λ e has read. elim (push_contains done d e has) [
        | inl before ↦ let low = is.last e before read in omega (arith, low, least)
        | inr last ↦ subst (λ (x : Deed). x.version ≤ new.last_read) last mine
      ];
      last_read = elim a.last [
        | inl more ↦ inr (d, push_new done d, reads, sym more.1)
        | inr kept ↦ elim is.last_read [
          | inl zero ↦ inl (kept.1 ∙ zero)
          | inr r ↦ inr (r.0, push_old done d r.0 r.1, r.2, r.3 ∙ sym kept.1)
        ]
      ];
    }

pub change_added : (done : List Deed) (old : Course) (d : Deed) (new : Course) → IsCourse done old → d.read ≡ false
    → d.version ≡ length old.changes.items → IsChangeAdded old d new → IsCourse (done ++ d ∷ []) new
change_added done old d new is change version a =
    let longer : length new.changes.items ≡ length old.changes.items + 1 = ap length a.changes
    ∙ length_push old.changes.items d in
    let cases : (v : ℕ) (e : Deed) → slice_get new.changes.items v ≡ Some e → (slice_get old.changes.items v ≡ Some e)
    ⊎ ((v ≡ length old.changes.items) × (d ≡ e)) = λ v e at.
    get_push_cases old.changes.items d e v (ap (λ xs. slice_get xs v) (sym a.changes) ∙ at) in
    record {
      shaped = let long = is.shaped.long in let more : length new.reads.items ≡ length old.reads.items + 1 =
          ap length a.reads ∙ length_push old.reads.items a.none in record { long = omega (arith, long, longer, more) };
      changes = λ v e at. elim (cases v e at) [
        | inl before ↦ let was = is.changes v e before in (push_old done d e was.0, was.1, was.2)
        | inr last ↦ (
          subst (Contains (done ++ d ∷ [])) last.1 (push_new done d),
          ap (λ (x : Deed). x.read) (sym last.1) ∙ change,
          ap (λ (x : Deed). x.version) (sym last.1)
              ∙ (version ∙ sym last.0),
        )
      ];
      changed = λ e has no_read. elim (push_contains done d e has) [
        | inl before ↦ ap (λ xs. slice_get xs e.version) a.changes
            ∙ front_at old.changes.items (d ∷ []) e.version e (is.changed e before no_read)
        | inr last ↦
            let end : slice_get new.changes.items d.version ≡ Some d = ap (λ xs. slice_get xs d.version) a.changes
            ∙ (ap (slice_get (old.changes.items ++ d ∷ [])) version ∙ get-push_last old.changes.items d) in
            subst (λ (x : Deed). slice_get new.changes.items x.version ≡ Some x) last end
      ];
      reads = λ v row e at has. elim
          (get_push_cases old.reads.items a.none row v (ap (λ rs. slice_get rs v) (sym a.reads) ∙ at)) [
            | inl before ↦ let was = is.reads v row e before has in (push_old done d e was.0, was.1, was.2)
            | inr last ↦ absurd
                (contains-none e (subst (λ xs. Contains xs e) (ap (λ (r : Vec Deed Global). r.items) (sym last.1)
                ∙ a.is_none) has))
          ];
      read = λ e has read. elim (push_contains done d e has) [
        | inl before ↦ let row = is.read e before read in (
          row.0,
          ap (λ rs. slice_get rs e.version) a.reads
              ∙ front_at old.reads.items (a.none ∷ []) e.version row.0 row.1,
          row.2,
        )
        | inr last ↦ absurd (true≢false (sym read ∙ (ap (λ (x : Deed). x.read) (sym last) ∙ change)))
      ];
      added = λ v e le at. elim (cases_Bool d.increment) [
        | inl adds ↦ elim (cases v e at) [
          | inl before ↦ let written = a.increment adds in is.added v e (omega (arith, le, written)) before
          | inr last ↦ ap (λ (x : Deed). x.increment) (sym last.1) ∙ adds
        ]
        | inr writes ↦
            let written = a.write writes in
            let low = slice_get_within new.changes.items v e at in
            absurd (omega (arith, le, written, low, longer))
      ];
      wrote = λ v e next at. elim (cases_Bool d.increment) [
        | inl adds ↦
            let written = a.increment adds in
            elim (cases v e at) [
              | inl before ↦ is.wrote v e (next ∙ written) before
              | inr last ↦ let few = is.written in let place = last.0 in
                  absurd (omega (arith, next, written, few, place))
            ]
        | inr writes ↦
            let written = a.write writes in
            elim (cases v e at) [
              | inl before ↦ let low = slice_get_within old.changes.items v e before in
                  absurd (omega (arith, next, written, low))
              | inr last ↦ ap (λ (x : Deed). x.increment) (sym last.1) ∙ writes
            ]
      ];
      written = elim (cases_Bool d.increment) [
        | inl adds ↦ let written = a.increment adds in let few = is.written in omega (arith, written, few, longer)
        | inr writes ↦ let written = a.write writes in omega (arith, written, longer)
      ];
      last = λ e has read. elim (push_contains done d e has) [
        | inl before ↦ let low = is.last e before read in let same = a.last in omega (arith, low, same)
        | inr last ↦ absurd (true≢false (sym read ∙ (ap (λ (x : Deed). x.read) (sym last) ∙ change)))
      ];
      last_read = elim is.last_read [
        | inl zero ↦ inl (a.last ∙ zero)
        | inr r ↦ inr (r.0, push_old done d r.0 r.1, r.2, r.3 ∙ sym a.last)
      ];
    }
