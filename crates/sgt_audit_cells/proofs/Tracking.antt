-- What is kept of an open section, against the rules of a line, and after one more entry.
use Rattle.std.proofs.Common.{◌≡◌, ◌≢◌, ℕ, ◌+◌, ◌<◌, ◌≤◌, ◌^◌, List, [], ◌∷◌, ◌++◌, Option, Some, None, Bool, true, false, IsTrue, refl, sym, ap, ◌∙◌, subst, arith, inl, inr, All, AllPairs, Any, Contains, length, set, map, option_map, get_or}
use Rattle.std.specs.Prelude.{◌↔◌, slice_get, ◌&&◌, ◌==◌, nat_lt, not}
use Rattle.std.specs.Option.{option_to_list, ForSome}
use Rattle.std.proofs.lemmas.Bool.{cases_Bool, cases_order, cases_eq, false≢true, true≢false, eq-eqb, eqb-true, ltb-true, ltb-false}
use Rattle.std.proofs.lemmas.List.{length-set, length_push}
use Rattle.std.proofs.lemmas.List.Elements.{Contains-push_cases}
use Rattle.std.proofs.lemmas.Option.{same_Some, none-some, slice_get-map, slice_get_within}
use Rattle.sgt_names.proofs.Places.{All_at, All-from_at, AllPairs_at, Contains_at, Contains-from_at}
use Rattle.sgt_names.proofs.Lists.{Any_at, Any-from_at, element_at, option_cases}
use Rattle.sgt_names.specs.Name.{Name}
use Rattle.sgt_names.specs.Entry.{tx_of, item_of, IsEnd, Repeats}
use Rattle.sgt_names.specs.Log.{names, value_at, AllEnded}
use Rattle.sgt_names.specs.declared.entry.Entry.{Entry}
use Rattle.sgt_names.specs.declared.entry.Holding.{Holding}
use Rattle.sgt_bundle.specs.Certificate.{decided_tx, IsDecidedOnce}
use Rattle.sgt_bundle.specs.Valid.{IsDecided, EndInOrder}
use Rattle.sgt_bundle.specs.declared.certificate.Decision.{Decision}
use Rattle.sgt_audit_cells.specs.Cells.{IsGreatest, AreCells, IsCell}
use Rattle.sgt_audit_cells.specs.private.Noted.{IsPlaceOf, IsUpTo, raised}
use Rattle.sgt_audit_cells.specs.Records.{Record, no_record, Did, IsRecord, is_live, live_among}
use Rattle.sgt_audit_cells.specs.private.Deeds.{IsTouched, act}
use Rattle.sgt_audit_decisions.specs.Decided.{Decides}
use Rattle.sgt_audit_cells.specs.Tracks.{IsNumberOf, EndsBy, TracksOpen, IsReadyFor}
use Rattle.sgt_audit_cells.specs.declared.cell.Cell.{Cell}
use Rattle.sgt_audit_cells.specs.declared.state.SiteState.{SiteState}
use Rattle.sgt_audit_cells.proofs.Ranked.{IsOnly, up_to-all, greatest-left, greatest-raised}
use Rattle.sgt_audit_cells.proofs.Doing.{Apart, all-new, record-left, record-entered, record-none}
use Rattle.sgt_audit_cells.proofs.Lists.{set-at, set-other, some-at}
use Rattle.sgt_audit_cells.proofs.Live.{one_if, live-set, live-few, live-fewer, live-none, none-live, turned}
use Rattle.sgt_names.proofs.Parts.{and_left}

-- ---- lists

module _ {A : Type 0} where
  pub not-past : (xs : List A) (k : ℕ) (a : A) → length xs ≤ k → slice_get xs k ≡ Some a → ⊥
  not-past xs k a past at = let within = slice_get_within xs k a at in absurd (omega (arith, past, within))

  -- what a look-up by place answers
  pub got : (xs ys : List A) (k : ℕ) (a : A) → ys ≡ xs → true ≡ nat_lt k (length ys) → a ≡ get_or ys k a
      → slice_get xs k ≡ Some a
  got xs ys k a same within is =
      subst (λ zs. slice_get zs k ≡ Some a) same (element_at ys k a (ltb-true k (length ys) (sym within)) is)

  pub missed : (xs ys : List A) (k : ℕ) (a : A) → ys ≡ xs → false ≡ nat_lt k (length ys) → slice_get xs k ≡ Some a → ⊥
  missed xs ys k a same past at =
      let within = slice_get_within xs k a at in
      let le = ltb-false k (length ys) (sym past) in
      absurd (omega (arith, within, le, ap length same))

-- ---- decisions

pub one-number : (ds : List Decision) (m n tx : ℕ) → IsDecidedOnce ds → Decides ds m tx → Decides ds n tx → m ≡ n
one-number ds m n tx once a b =
    elim (cases_order m n) [
      | inl same ↦ same
      | inr (inl less) ↦ absurd (AllPairs_at (λ d e. decided_tx d ≢ decided_tx e) ds m n a.0 b.0 once less a.1 b.1
          (a.2 ∙ sym b.2))
      | inr (inr more) ↦ absurd (AllPairs_at (λ d e. decided_tx d ≢ decided_tx e) ds n m b.0 a.0 once more b.1 a.1
          (b.2 ∙ sym a.2))
    ]

pub decides : (ds : List Decision) (e : Entry) (number : ℕ) → IsDecided ds e number → Decides ds number (tx_of e)
decides ds e number by = (by.0, by.1, by.2)

-- ---- tests

ended-by : (a b : Bool) → (a && not b) ≡ false → a ≡ true → b ≡ true
ended-by true true h same = refl
ended-by true false h same = absurd (true≢false h)
ended-by false b h same = absurd (false≢true same)

not-both : (a b : Bool) → (a && not b) ≡ true → b ≡ true → ⊥
not-both true true h g = false≢true h
not-both true false h g = false≢true g
not-both false b h g = false≢true h

not-come : (touched ended : Bool) → not touched ≡ true → (touched && not ended) ≡ false
not-come true ended h = absurd (false≢true h)
not-come false ended h = refl

-- ---- what is kept

module _ (ds : List Decision) (items : List Holding) (entries : List Entry) (s : SiteState)
    (t : TracksOpen ds items entries s) where
  cell-at : (i : ℕ) (c : Cell) → slice_get s.cells.items i ≡ Some c → slice_get (names items) i ≡ Some c.name
  cell-at i c at = ap (λ ns. slice_get ns i) (sym t.cells.names)
      ∙ slice_get-map (λ (c : Cell). c.name) s.cells.items i ∙ ap (option_map (λ (c : Cell). c.name)) at

  pub place-named : (i : ℕ) (x : Name) → (c : Cell) × (slice_get s.cells.items i ≡ Some c) × (c.name ≡ x)
      → slice_get (names items) i ≡ Some x
  place-named i x (c, at, named) = cell-at i c at ∙ ap Some named

  -- the cell at the place of an item
  pub cell-of : (i : ℕ) (x : Name) → slice_get (names items) i ≡ Some x
      → (c : Cell) × (slice_get s.cells.items i ≡ Some c) × (c.name ≡ x) × IsCell ds items entries c
  cell-of i x at = found i x (sym (slice_get-map (λ (c : Cell). c.name) s.cells.items i)
      ∙ ap (λ ns. slice_get ns i) t.cells.names ∙ at)
    where
      found : (i : ℕ) (x : Name) → option_map (λ (c : Cell). c.name) (slice_get s.cells.items i) ≡ Some x
          → (c : Cell) × (slice_get s.cells.items i ≡ Some c) × (c.name ≡ x) × IsCell ds items entries c
      found i x h = elim (option_cases (slice_get s.cells.items i)) [
        | inl none ↦ absurd (none-some x (sym (ap (option_map (λ (c : Cell). c.name)) none) ∙ h))
        | inr some ↦ (
          some.0,
          some.1,
          same_Some some.0.name x (sym (ap (option_map (λ (c : Cell). c.name)) some.1)
              ∙ h),
          All_at (IsCell ds items entries) s.cells.items i some.0 t.cells.each some.1,
        )
      ]

  pub not-listed : (x : Name) → All (λ c. c.name ≢ x) s.cells.items → Contains (names items) x → ⊥
  not-listed x none here =
      let at = Contains_at (names items) x here in
      let c = cell-of at.0 x at.1 in
      All_at (λ c. c.name ≢ x) s.cells.items at.0 c.0 none c.1 c.2

  record-at : (number : ℕ) (d : Decision) → slice_get ds number ≡ Some d
      → (r : Record) × (slice_get s.records.each number ≡ Some r)
  record-at number d at = some-at s.records.each number (let lt = slice_get_within ds number d at in let many = t.many in
      omega (arith, lt, many))

  -- the record of a transaction
  pub record-of : (number tx : ℕ) → Decides ds number tx → (r : Record) × (slice_get s.records.each number ≡ Some r)
      × IsRecord (names items) entries tx r
  record-of number tx (d, at, of) = let r = record-at number d at in
      (r.0, r.1, subst (λ i. IsRecord (names items) entries i r.0) of (t.records number d r.0 at r.1))

  -- a transaction that is not decided has no entry
  pub undecided-new : (e : Entry) → IsNumberOf ds (tx_of e) None → All (λ f. (y : Name) → Repeats y f e → ⊥) entries
  undecided-new e none = all-new entries e (λ f here y r. let by = t.decided f here in
      none by.0 (by.1.0, by.1.1, by.1.2 ∙ r.0))

  pub active-decides : (tx : ℕ) (b : Bool) → IsTrue b ↔ Did entries tx IsEnd
      → IsTrue (not b) ↔ All (λ f. IsEnd f → tx_of f ≢ tx) entries
  active-decides tx true h = (
    λ e. absurd (false≢true e),
    λ all. let d = h.0 refl in let at =
        Contains_at entries d.0 d.1 in absurd (All_at (λ f. IsEnd f → tx_of f ≢ tx) entries at.0 d.0 all at.1 d.3 d.2),
  )
  active-decides tx false h = (
    λ _. All-from_at (λ f. IsEnd f
        → tx_of f ≢ tx) entries (λ n f at ends of. false≢true (h.1 (f, Contains-from_at entries n f at, of, ends))),
    λ _. refl,
  )

  -- ends in order
  pub order-decides : (e : Entry) (number : ℕ) → IsDecidedOnce ds → IsDecided ds e number → IsEnd e
      → IsUpTo number s.last_end ↔ All (λ f. EndInOrder ds f e) entries
  order-decides e number once by ends = (
    λ up. All-from_at (λ f. EndInOrder ds f e) entries (λ k f at ends_f ends_e m n by_f by_e.
        let le = (up_to-all (EndsBy ds) entries s.last_end number t.order).0 up f m (Contains-from_at entries k f at)
        (ends_f, by_f) in
        let eq = one-number ds n number (tx_of e) once (decides ds e n by_e) (decides ds e number by) in
        omega (arith, le, eq)),
    λ all. (up_to-all (EndsBy ds) entries s.last_end number t.order).1 (λ f m here has. let at =
        Contains_at entries f here in
        All_at (λ f. EndInOrder ds f e) entries at.0 f all at.1 has.0 ends m number has.1 by),
  )

  pub value-decides : (place : ℕ) (c : Cell) (x : Name) (value : ℕ) (b : Bool)
      → slice_get s.cells.items place ≡ Some c → slice_get (names items) place ≡ Some x
      → (IsCell ds items entries c → IsTrue b ↔ (value_at items entries c.name ≡ Some value))
      → IsTrue b ↔ (value_at items entries x ≡ Some value)
  value-decides place c x value b at on h =
      subst (λ y. IsTrue b ↔ (value_at items entries y ≡ Some value)) (same_Some c.name x (sym (cell-at place c at)
      ∙ on)) (h (All_at (IsCell ds items entries) s.cells.items place c t.cells.each at))

  pub cell-named : (place : ℕ) (c : Cell) (x : Name) → slice_get s.cells.items place ≡ Some c
      → slice_get (names items) place ≡ Some x → (x ≡ c.name) × IsCell ds items entries c
  cell-named place c x at on = (
    same_Some x c.name (sym on ∙ cell-at place c at),
    All_at (IsCell ds items entries) s.cells.items place c t.cells.each at,
  )

  pub record-is : (number tx : ℕ) (r : Record) → Decides ds number tx → slice_get s.records.each number ≡ Some r
      → IsRecord (names items) entries tx r
  record-is number tx r (d, at, of) here =
      subst (λ i. IsRecord (names items) entries i r) of (t.records number d r at here)

  -- ---- all ended

  ended-any : (tx : ℕ) → Did entries tx IsEnd → Any (λ f. IsEnd f × (tx_of f ≡ tx)) entries
  ended-any tx d = let at = Contains_at entries d.0 d.1 in
      Any-from_at (λ f. IsEnd f × (tx_of f ≡ tx)) entries at.0 d.0 at.1 (d.3, d.2)

  any-ended : (tx : ℕ) → Any (λ f. IsEnd f × (tx_of f ≡ tx)) entries → Did entries tx IsEnd
  any-ended tx h = let a = Any_at (λ f. IsEnd f × (tx_of f ≡ tx)) entries h in
      (a.1, Contains-from_at entries a.0 a.1 a.2, a.3.1, a.3.0)

  idle : AllEnded entries → (k : ℕ) (r : Record) → slice_get s.records.each k ≡ Some r → is_live r ≡ false
  idle all k r at =
      let within = slice_get_within s.records.each k r at in
      let many = t.many in
      let d = some-at ds k (omega (arith, within, many)) in
      let is = t.records k d.0 r d.1 at in
      elim (cases_Bool (is_live r)) [
        | inl live ↦
            let f = is.touched.0 (and_left r.touched (not r.ended) live) in
            let place = Contains_at entries f.0 f.1 in
            let ended =
            All_at (λ e. Any (λ f. IsEnd f × (tx_of f ≡ tx_of e)) entries) entries place.0 f.0 all place.1 in
            absurd (not-both r.touched r.ended live
            (is.ended.1
            (any-ended (decided_tx d.0) (subst (λ tx. Any (λ f. IsEnd f × (tx_of f ≡ tx)) entries) f.2 ended))))
        | inr quiet ↦ quiet
      ]

  pub ended-decides : (b : Bool) → b ≡ (s.live == 0) → IsTrue b ↔ AllEnded entries
  ended-decides b is = (
    λ h. All-from_at (λ e. Any (λ f. IsEnd f × (tx_of f ≡ tx_of e)) entries) entries (λ k e at.
        let here = Contains-from_at entries k e at in
        let by = t.decided e here in
        let r = record-of by.0 (tx_of e) (decides ds e by.0 by.1) in
        let none = sym t.live ∙ eqb-true s.live 0 (sym is ∙ h) in
        let same = r.2.touched.1 (e, here, refl, tt) in
        ended-any (tx_of e)
        (r.2.ended.0 (ended-by r.0.touched r.0.ended (live-none s.records.each by.0 r.0 none r.1) same))),
    λ all. is ∙ eq-eqb s.live 0 (t.live ∙ none-live s.records.each (idle all)),
  )

-- ---- one more entry

module _ (ds : List Decision) (items : List Holding) (entries : List Entry) (old new : SiteState)
    (t : TracksOpen ds items entries old) (e : Entry) (number : ℕ) (by : IsDecided ds e number)
    (once : IsDecidedOnce ds) where
  pub decided-more : (f : Entry) → Contains (entries ++ e ∷ []) f → (n : ℕ) × IsDecided ds f n
  decided-more f here =
      elim (Contains-push_cases entries e f here) [
        | inl before ↦ t.decided f before
        | inr now ↦ (number, subst (λ g. IsDecided ds g number) now by)
      ]

  ends-only : IsEnd e → IsOnly (EndsBy ds e) (Some number)
  ends-only ends =
      ((ends, by), λ m has. one-number ds m number (tx_of e) once (decides ds e m has.1) (decides ds e number by))

  pub order-next : (next : Option ℕ) (ends : Bool) → IsTrue ends ↔ IsEnd e
      → (IsEnd e → next ≡ raised old.last_end (Some number)) → ((IsEnd e → ⊥) → next ≡ old.last_end)
      → IsGreatest (EndsBy ds) (entries ++ e ∷ []) next
  order-next next true ends is other =
      let end = ends.0 refl in
      subst (IsGreatest (EndsBy ds) (entries ++ e ∷ [])) (sym (is end))
      (greatest-raised (EndsBy ds) entries old.last_end (Some number) e (ends-only end) t.order)
  order-next next false ends is other =
      let not = λ (end : IsEnd e). false≢true (ends.1 end) in
      subst (IsGreatest (EndsBy ds) (entries ++ e ∷ [])) (sym (other not))
      (greatest-left (EndsBy ds) entries old.last_end e (λ r has. not has.0) t.order)

  module _ (place : Option ℕ) (on : IsPlaceOf (names items) e place) (apart : AllPairs Apart (names items))
      (ends : Bool) (ending : IsTrue ends ↔ IsEnd e) (r v : Record) (at : slice_get old.records.each number ≡ Some r)
      (records : new.records.each ≡ set old.records.each number v)
      (told : IsTouched (option_to_list (option_map (λ i. act old.records.count i e) place)) ends r v) where
    to : IsTouched (option_to_list (option_map (λ i. act (length entries) i e) place)) ends r v
    to = subst (λ n. IsTouched (option_to_list (option_map (λ i. act n i e) place)) ends r v) t.count told

    new-at : (k : ℕ) (d : Decision) (q : Record) → slice_get ds k ≡ Some d → slice_get new.records.each k ≡ Some q
        → IsRecord (names items) (entries ++ e ∷ []) (decided_tx d) q
    new-at k d q at_k at_q =
        let there : slice_get (set old.records.each number v) k ≡ Some q = ap (λ rs. slice_get rs k) (sym records) ∙ at_q in
        elim (cases_eq k number) [
          | inl same ↦
              let of : tx_of e ≡ decided_tx d = sym by.2
              ∙ ap decided_tx (same_Some by.0 d (sym by.1 ∙ ap (slice_get ds) (sym same) ∙ at_k)) in
              let is_v : v ≡ q = same_Some v q (sym (set-at old.records.each number v r at)
              ∙ ap (slice_get (set old.records.each number v)) (sym same) ∙ there) in
              let before = t.records k d r at_k (ap (slice_get old.records.each) same ∙ at) in
              subst (IsRecord (names items) (entries ++ e ∷ []) (decided_tx d)) is_v
              (record-entered (names items) entries (decided_tx d) r v e place ends apart of on ending before to)
          | inr other ↦
              let before = t.records k d q at_k (sym (set-other old.records.each number k v other) ∙ there) in
              record-left (names items) entries (decided_tx d) q e
              (λ of. other (one-number ds k number (decided_tx d) once (d, at_k, refl) (by.0, by.1, by.2 ∙ of)))
              before
        ]

    -- who has an end there has an entry there
    came : r.ended ≡ true → r.touched ≡ true
    came ended =
        let is = t.records number by.0 r by.1 at in
        let d = is.ended.0 ended in
        is.touched.1 (d.0, d.1, d.2, tt)

    new-live : (comes leaves : Bool) (live : ℕ) → comes ≡ not r.touched → leaves ≡ (ends && not r.ended)
        → length new.records.each < 2 ^ 64
        → (old.live + one_if comes < 2 ^ 64 → one_if leaves ≤ old.live + one_if comes
        → live + one_if leaves ≡ old.live + one_if comes) → live ≡ live_among new.records.each
    new-live comes leaves live comes_is leaves_is few counts =
        let is_live_v : is_live v ≡ not v.ended = ap (λ b. b && not v.ended) to.touched in
        let one : one_if (is_live v) + one_if leaves ≡ one_if (is_live r) + one_if comes =
        ap (λ b. one_if b + one_if leaves) is_live_v ∙ ap (λ b. one_if (not v.ended) + one_if b) leaves_is
        ∙ turned r.touched r.ended ends v.ended came to.end
        ∙ ap (λ b. one_if (is_live r) + one_if b) (sym comes_is) in
        let step = live-set old.records.each number r v at in
        let long = ap length records ∙ length-set old.records.each number v in
        let told = t.live in
        let room : old.live + one_if comes < 2 ^ 64 = elim (cases_Bool comes) [
          | inl come ↦
              let fewer = live-fewer old.records.each number r at (not-come r.touched r.ended (sym comes_is ∙ come)) in
              let eq = ap one_if come in omega (arith, fewer, long, told, few, eq)
          | inr stay ↦ let all = live-few old.records.each in let eq = ap one_if stay in
              omega (arith, all, long, told, few, eq)
        ] in
        let next = counts room (omega (arith, one, step, told)) in
        let same : live ≡ live_among (set old.records.each number v) = omega (arith, one, step, told, next) in
        same ∙ ap live_among (sym records)

    listed-more : (f : Entry) → Contains (entries ++ e ∷ []) f → ForSome (item_of f) (Contains (names items))
    listed-more f here =
        elim (Contains-push_cases entries e f here) [
          | inl before ↦ t.listed f before
          | inr now ↦ subst (λ g. ForSome (item_of g) (Contains (names items))) now (placed place on)
        ]
      where
        placed : (place : Option ℕ) → IsPlaceOf (names items) e place → ForSome (item_of e) (Contains (names items))
        placed None none x is = absurd (none-some x (sym none ∙ is))
        placed (Some i) is_at x is =
            subst (Contains (names items)) (same_Some is_at.0 x (sym is_at.2 ∙ is))
            (Contains-from_at (names items) i is_at.0 is_at.1)

    pub tracks-next : new.records.count ≡ old.records.count + 1 → AreCells ds items (entries ++ e ∷ []) new.cells.items
        → IsGreatest (EndsBy ds) (entries ++ e ∷ []) new.last_end
        → (comes leaves : Bool) → comes ≡ not r.touched → leaves ≡ (ends && not r.ended) → length new.records.each < 2 ^ 64
        → (old.live + one_if comes < 2 ^ 64 → one_if leaves ≤ old.live + one_if comes
        → new.live + one_if leaves ≡ old.live + one_if comes) → TracksOpen ds items (entries ++ e ∷ []) new
    tracks-next count cells order comes leaves comes_is leaves_is few counts = record {
      cells = cells;
      many = ap length records ∙ length-set old.records.each number v ∙ t.many;
      records = new-at;
      live = new-live comes leaves new.live comes_is leaves_is few counts;
      count = count ∙ ap (λ n. n + 1) t.count ∙ sym (length_push entries e);
      order = order;
      decided = decided-more;
      listed = listed-more;
    }

-- ---- a section begins

pub begun : (ds : List Decision) (section : ℕ) (old new : SiteState) → IsReadyFor ds section old
    → length new.records.each ≡ length old.records.each → All (λ r. r ≡ no_record) new.records.each → new.cells.items ≡ []
    → new.records.count ≡ 0 → new.live ≡ 0 → new.last_end ≡ None → TracksOpen ds [] [] new
begun ds section old new ready long fresh cells count live order = record {
  cells = record {
    names = ap (map (λ (c : Cell). c.name)) cells;
    each = subst (All (IsCell ds [] [])) (sym cells) (λ k d lt. absurd (omega (arith, lt)));
  };
  many = long ∙ ready.many;
  records = λ k d r at_k at_r. subst (IsRecord [] [] (decided_tx d)) (sym (none k r at_r))
      (record-none [] (decided_tx d));
  count = count;
  live = live ∙ sym (none-live new.records.each (λ k r at. ap is_live (none k r at)));
  order = subst (IsGreatest (EndsBy ds) []) (sym order) (λ f r here has. absurd (omega (arith, here.1)));
  decided = λ f here. absurd (omega (arith, here.1));
  listed = λ f here. absurd (omega (arith, here.1));
}
  where
    none : (k : ℕ) (r : Record) → slice_get new.records.each k ≡ Some r → r ≡ no_record
    none k r at = All_at (λ r. r ≡ no_record) new.records.each k r fresh at

-- a section ends
pub ready-next : (ds : List Decision) (items : List Holding) (entries : List Entry) (s : SiteState)
    → TracksOpen ds items entries s → IsReadyFor ds (s.section + 1) s
ready-next ds items entries s t = record { many = t.many; before = omega arith }
