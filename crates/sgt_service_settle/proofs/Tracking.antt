-- What was done to each item, with versions, as a walk over a log meets it.
use Rattle.std.proofs.Common.{◌≡◌, ◌≢◌, ◌⊎◌, ℕ, ◌+◌, ◌<◌, ◌≤◌, List, [], ◌∷◌, ◌++◌, Option, Some, suc, get_or, true, false, sym, refl, ap, ◌∙◌, subst, arith, inl, inr, Contains}
use Rattle.std.specs.Prelude.{slice_get, slice_set}
use Rattle.std.specs.Ordering.{nat_cmp}
use Rattle.std.specs.Cmp.Lexicographic.{slice_cmp}
use Rattle.std.proofs.lemmas.Bool.{cases_Bool, cases_eq, true≢false}
use Rattle.std.proofs.lemmas.Option.{same_Some, slice_get_within, slice_get-get_or}
use Rattle.std.specs.List.Sorted.{IsNonDecreasingBy}
use Rattle.std.proofs.lemmas.List.Sorted.{IsNonDecreasingBy-from_all_adjacent}
use Rattle.sgt_names.specs.Name.{Name}
use Rattle.sgt_names.specs.Ordered.{IsRisingBy}
use Rattle.sgt_names.specs.Entry.{tx_of, item_of, is_increment, Reads, Writes, Clash}
use Rattle.sgt_names.specs.declared.entry.Entry.{Entry}
use Rattle.sgt_names.specs.declared.entry.Entry.TheVariants as entry
use Rattle.sgt_names.specs.declared.entry.Holding.{Holding}
use Rattle.sgt_names.specs.declared.entry.Kind.{Kind}
use Rattle.sgt_names.specs.declared.entry.Kind.TheVariants.{Wr, Rw, Ww}
use Rattle.sgt_order.proofs.Lists.{get_push_cases}
use Rattle.sgt_service_settle.specs.Settled.{is_read}
use Rattle.sgt_service_settle.specs.declared.deeds.Deed.{Deed}
use Rattle.sgt_service_settle.specs.declared.deeds.Track.{Track}
use Rattle.sgt_service_settle.specs.private.Words.{IsItemAt}
use Rattle.sgt_service_settle.specs.private.Index.{IsIn}
use Rattle.sgt_service_settle.specs.private.Deeds.{deed_of, IsBefore, IsTrack, AreTracks, AreBare}
use Rattle.sgt_service_settle.proofs.Lists.{before_or_here, push_contains, push_old, push_new}
use Rattle.sgt_service_settle.proofs.Placing.{one_place}
use Rattle.sgt_names.proofs.Elements.{get-slice_set_same, get-slice_set_other, contains-none}

-- ---- reads, increments and writes

writes_no_read : (x : Name) (e : Entry) → Writes x e → is_read e ≡ false
writes_no_read x (entry.Read tx y v) w = absurd w
writes_no_read x (entry.Write tx y v) w = refl
writes_no_read x (entry.Add tx y v) w = refl
writes_no_read x (entry.Want tx y v) w = refl
writes_no_read x (entry.WantAdd tx y v) w = refl
writes_no_read x (entry.Commit tx) w = refl
writes_no_read x (entry.Refuse tx) w = refl
writes_no_read x (entry.Withdraw tx) w = refl

reads_no_increment : (x : Name) (e : Entry) → Reads x e → is_increment e ≡ false
reads_no_increment x (entry.Read tx y v) r = refl
reads_no_increment x (entry.Write tx y v) r = absurd r
reads_no_increment x (entry.Add tx y v) r = absurd r
reads_no_increment x (entry.Want tx y v) r = absurd r
reads_no_increment x (entry.WantAdd tx y v) r = absurd r
reads_no_increment x (entry.Commit tx) r = absurd r
reads_no_increment x (entry.Refuse tx) r = absurd r
reads_no_increment x (entry.Withdraw tx) r = absurd r

read_no_increment : (e : Entry) → is_read e ≡ true → is_increment e ≡ false
read_no_increment (entry.Read tx x v) is = refl
read_no_increment (entry.Write tx x v) is = refl
read_no_increment (entry.Add tx x v) is = absurd (true≢false (sym is))
read_no_increment (entry.Want tx x v) is = refl
read_no_increment (entry.WantAdd tx x v) is = absurd (true≢false (sym is))
read_no_increment (entry.Commit tx) is = refl
read_no_increment (entry.Refuse tx) is = refl
read_no_increment (entry.Withdraw tx) is = refl

pub clash_read : (kind : Kind) (x : Name) (e f : Entry) → Clash kind x e f → is_read e ≡ true → is_read f ≡ false
clash_read Wr x e f h read = absurd (true≢false (sym read ∙ writes_no_read x e h.0))
clash_read Rw x e f h read = writes_no_read x f h.1
clash_read Ww x e f h read = absurd (true≢false (sym read ∙ writes_no_read x e h.0))

pub clash_increment : (kind : Kind) (x : Name) (e f : Entry) → Clash kind x e f → is_increment e ≡ true
    → is_increment f ≡ false
clash_increment Wr x e f h increment = reads_no_increment x f h.1
clash_increment Rw x e f h increment = absurd (true≢false (sym increment ∙ reads_no_increment x e h.0))
clash_increment Ww x e f h increment = elim (cases_Bool (is_increment f)) [
  | inl too ↦ absurd (h.2 increment too)
  | inr none ↦ none
]

-- ---- tracks

later_track : (n : ℕ) (t : Track) → IsTrack n t → IsTrack (n + 1) t
later_track n t is = record {
  few = let few = is.few in omega (arith, few);
  sound = is.sound;
  placed = λ d has. let low = is.placed d has in omega (arith, low);
  before = is.before;
  ordered = is.ordered;
}

longer_track : (n number : ℕ) (e : Entry) (old t : Track)
    → t.deeds.items ≡ old.deeds.items ++ deed_of e number n old.version ∷ []
    → (is_read e ≡ true → t.version ≡ old.version) → (is_read e ≡ false → t.version ≡ old.version + 1) → IsTrack n old
    → IsTrack (n + 1) t
longer_track n number e old t more read change is =
    let new : Deed = deed_of e number n old.version in
    let few = is.few in
    let bounds : (old.version ≤ t.version) × (t.version ≤ n + 1) = elim (cases_Bool (is_read e)) [
      | inl is_so ↦ let same = read is_so in (omega (arith, same), omega (arith, same, few))
      | inr none ↦ let next = change none in (omega (arith, next), omega (arith, next, few))
    ] in
    let cases : (d : Deed) → Contains t.deeds.items d → Contains old.deeds.items d ⊎ (new ≡ d) =
    λ d has. push_contains old.deeds.items new d (subst (λ xs. Contains xs d) more has) in
    record {
      few = bounds.1;
      sound = λ d has. elim (cases d has) [
        | inl early ↦ is.sound d early
        | inr last ↦ subst (λ (x : Deed). x.read ≡ true → x.increment ≡ false) last (read_no_increment e)
      ];
      placed = λ d has. elim (cases d has) [
        | inl early ↦ let low = is.placed d early in omega (arith, low)
        | inr last ↦ subst (λ (x : Deed). x.place < n + 1) last (omega arith)
      ];
      before = λ d has. elim (cases d has) [
        | inl early ↦
            let was = is.before d early in
            let top = bounds.0 in
            record {
              read = λ r. let low = was.read r in omega (arith, low, top);
              change = λ c. let low =
                  was.change c in omega (arith, low, top);
            }
        | inr last ↦ subst (λ (x : Deed). IsBefore x t.version) last (record {
          read = λ r. bounds.0;
          change =
              λ c. let next = change c in omega (arith, next);
        })
      ];
      ordered = λ d f has_d has_f lt. elim (cases d has_d) [
        | inl early ↦ elim (cases f has_f) [
          | inl also ↦ is.ordered d f early also lt
          | inr last ↦ subst (λ (x : Deed). IsBefore d x.version) last (is.before d early)
        ]
        | inr last ↦
            let place : n ≡ d.place = ap (λ (x : Deed). x.place) last in
            elim (cases f has_f) [
              | inl also ↦ let low = is.placed f also in absurd (omega (arith, place, lt, low))
              | inr too ↦ let other : n ≡ f.place = ap (λ (x : Deed). x.place) too in
                  absurd (omega (arith, place, other, lt))
            ]
      ];
    }

-- the next operation of a committed transaction
pub tracks_next : (commits : List (Option ℕ)) (items : List Holding) (log : List Entry) (n at number : ℕ) (e : Entry)
    (y : Name) (tracks new : List Track) (old t : Track)
    → IsRisingBy (λ (h : Holding). h.item) (slice_cmp nat_cmp) items → slice_get log n ≡ Some e → item_of e ≡ Some y
    → IsIn commits (tx_of e) number → IsItemAt items y at → slice_get tracks at ≡ Some old
    → new ≡ slice_set tracks at t
    → t.deeds.items ≡ old.deeds.items ++ deed_of e number n old.version ∷ []
    → (is_read e ≡ true → t.version ≡ old.version) → (is_read e ≡ false → t.version ≡ old.version + 1)
    → AreTracks commits items log n tracks → AreTracks commits items log (n + 1) new
tracks_next commits items log n at number e y tracks new old t rising here item commit there was is_new more read
    change are =
    let now : slice_get new at ≡ Some t = ap (λ ts. slice_get ts at) is_new
    ∙ get-slice_set_same tracks at t (slice_get_within tracks at old was) in
    let others : (k : ℕ) → k ≢ at → slice_get new k ≡ slice_get tracks k = λ k other. ap (λ ts. slice_get ts k) is_new
    ∙ get-slice_set_other tracks at k t other in
    record {
      each = λ k u at_k. elim (cases_eq k at) [
        | inl same ↦
            let own : t ≡ u = same_Some t u (sym now ∙ (ap (slice_get new) (sym same) ∙ at_k)) in
            subst (IsTrack (n + 1)) own (longer_track n number e old t more read change (are.each at old was))
        | inr other ↦ later_track n u (are.each k u (sym (others k other) ∙ at_k))
      ];
      all = λ q m k f x low at_q item_f commit_f place. elim (before_or_here log n q e f here at_q low) [
        | inl early ↦
            let tracked = are.all q m k f x early at_q item_f commit_f place in
            elim (cases_eq k at) [
              | inl same ↦
                  let own : tracked.track ≡ old = same_Some tracked.track old (sym tracked.at_track
                  ∙ (ap (slice_get tracks) same ∙ was)) in
                  let in_old : Contains old.deeds.items (deed_of f m q tracked.version) =
                  subst (λ (u : Track). Contains u.deeds.items (deed_of f m q tracked.version)) own tracked.deed in
                  record {
                    track = t;
                    at_track = ap (slice_get new) same ∙ now;
                    version = tracked.version;
                    deed = subst (λ xs. Contains xs (deed_of f m q tracked.version)) (sym more)
                        (push_old old.deeds.items (deed_of e number n old.version) (deed_of f m q tracked.version)
                        in_old);
                  }
              | inr other ↦ record {
                track = tracked.track;
                at_track = others k other ∙ tracked.at_track;
                version =
                    tracked.version;
                deed = tracked.deed;
              }
            ]
        | inr last ↦
            let x_is : y ≡ x = same_Some y x (sym item ∙ (ap item_of last.1 ∙ item_f)) in
            let same : k ≡ at =
            one_place items y k at rising (subst (λ z. IsItemAt items z k) (sym x_is) place) there in
            let commit_e : IsIn commits (tx_of e) m = subst (λ z. IsIn commits (tx_of z) m) (sym last.1) commit_f in
            let is_number : number ≡ m =
            same_Some number m (same_Some (Some number) (Some m) (sym commit ∙ commit_e)) in
            let mine : Contains t.deeds.items (deed_of e number n old.version) =
            subst (λ xs. Contains xs (deed_of e number n old.version)) (sym more)
            (push_new old.deeds.items (deed_of e number n old.version)) in
            record {
              track = t;
              at_track = ap (slice_get new) same ∙ now;
              version = old.version;
              deed = subst (λ p. Contains t.deeds.items (deed_of f m p old.version)) last.0
                  (subst (λ z. Contains t.deeds.items (deed_of z m n old.version)) last.1
                  (subst (λ k. Contains t.deeds.items (deed_of e k n old.version)) is_number mine));
            }
      ];
    }

-- an entry that is no operation of a committed transaction on an item that is there
pub tracks_skip : (commits : List (Option ℕ)) (items : List Holding) (log : List Entry) (n : ℕ) (e : Entry)
    (tracks : List Track) → slice_get log n ≡ Some e
    → ((number at : ℕ) (x : Name) → item_of e ≡ Some x → IsIn commits (tx_of e) number → IsItemAt items x at → ⊥)
    → AreTracks commits items log n tracks → AreTracks commits items log (n + 1) tracks
tracks_skip commits items log n e tracks here none are = record {
  each = λ k u at_k. later_track n u (are.each k u at_k);
  all = λ q m k f x low at_q item_f commit_f place. elim (before_or_here log n q e f here at_q low) [
    | inl early ↦ are.all q m k f x early at_q item_f commit_f place
    | inr last ↦ absurd (none m k x (ap item_of last.1
        ∙ item_f) (subst (λ z. IsIn commits (tx_of z) m) (sym last.1) commit_f) place)
  ];
}

-- ---- the order of the decisions

-- deeds whose numbers fall from none to the next fall nowhere
pub in_order : (deeds : List Deed)
    → ((k : ℕ) (d e : Deed) → slice_get deeds k ≡ Some d → slice_get deeds (suc k) ≡ Some e → d.number ≤ e.number)
    → IsNonDecreasingBy (λ (d : Deed). d.number) deeds
in_order deeds each = IsNonDecreasingBy-from_all_adjacent (λ (d : Deed). d.number) deeds
    (λ k d low. subst (λ m. (get_or deeds k d).number ≤ (get_or deeds m d).number) (let e : suc k ≡ k + 1 =
    omega arith in e)
    (each k (get_or deeds k d) (get_or deeds (suc k) d) (slice_get-get_or deeds k d (omega (arith, low)))
    (slice_get-get_or deeds (suc k) d (omega (arith, low)))))
