-- Where each operation of an item is joined to its neighbours among those decided before, edges carry all conflicts
-- there.
use Rattle.std.proofs.Common.{◌≡◌, ℕ, suc, ◌-◌, ◌<◌, ◌≤◌, max, List, [], ◌∷◌, ◌++◌, length, true, false, Some, sym, ap, ◌∙◌, subst, arith, inl, inr, Contains}
use Rattle.std.specs.Prelude.{slice_get}
use Rattle.std.proofs.Math.Nat.{le-max_left, le-max_right}
use Rattle.std.proofs.lemmas.Bool.{cases_Bool, cases_lt, true≢false}
use Rattle.std.proofs.lemmas.Option.{same_Some, slice_get_within, slice_get_cases}
use Rattle.sgt_names.proofs.Lists.{All_in, within_at}
use Rattle.sgt_names.proofs.Places.{Contains-from_at}
use Rattle.sgt_order.specs.Graph.{Leads, Reaches}
use Rattle.sgt_service_settle.specs.declared.course.Course.{Course}
use Rattle.sgt_service_settle.specs.declared.deeds.Deed.{Deed}
use Rattle.sgt_service_settle.specs.declared.link.Link.{Link}
use Rattle.sgt_service_settle.specs.private.Deeds.{IsSound}
use Rattle.sgt_service_settle.specs.private.Course.{IsCourse, Fits, AreFrontNoted, AreBackNoted, FollowsAsIncrement, FollowsAsWrite, Follows}
use Rattle.sgt_service_settle.specs.private.Joined.{IsHanded, GetsTo, Precedes, AreDeedsCarried, ComesTo, LeadsTo}
use Rattle.sgt_service_settle.proofs.Lists.{push_contains}
use Rattle.sgt_service_settle.proofs.Carrying.{reaches_map}

-- ---- over neighbours

module _ (G : ℕ → ℕ → Type 0) (join : (a b c : ℕ) → G a b → G b c → G a c) (done : List Deed) (course : Course)
    (is : IsCourse done course) (sound : (d : Deed) → Contains done d → IsSound d) (carried : (d e : Deed)
    → Contains done d → Contains done e → Precedes d e → G d.tx e.tx) where
  -- an earlier change conflicts with a write, a write with a later change, a change with a later read, and a read
  -- with a later change
  to_write : (d e : Deed) → Contains done d → Contains done e → d.read ≡ false → e.read ≡ false → e.increment ≡ false
      → d.version < e.version → G d.tx e.tx
  to_write d e first second d_is e_is write lt =
      carried d e first second (record {
        reads = λ r. e_is;
        increments = λ i. write;
        before =
            record { read = λ r. omega (arith, lt); change = λ n. lt };
      })

  from_write : (d e : Deed) → Contains done d → Contains done e → d.read ≡ false → d.increment ≡ false
      → e.read ≡ false → d.version < e.version → G d.tx e.tx
  from_write d e first second d_is write e_is lt =
      carried d e first second (record {
        reads = λ r. e_is;
        increments = λ i. absurd (true≢false (sym i ∙ write));
        before = record { read = λ r. omega (arith, lt); change = λ n. lt };
      })

  to_read : (d e : Deed) → Contains done d → Contains done e → d.read ≡ false → e.read ≡ true → d.version < e.version
      → G d.tx e.tx
  to_read d e first second d_is e_is lt =
      carried d e first second (record {
        reads = λ r. absurd (true≢false (sym r ∙ d_is));
        increments =
            λ i. sound e second e_is;
        before = record { read = λ r. omega (arith, lt); change = λ n. lt };
      })

  from_read : (d e : Deed) → Contains done d → Contains done e → d.read ≡ true → e.read ≡ false
      → d.version ≤ e.version → G d.tx e.tx
  from_read d e first second d_is e_is le =
      carried d e first second (record {
        reads = λ r. e_is;
        increments =
            λ i. absurd (true≢false (sym i ∙ sound d first d_is));
        before =
            record { read = λ r. le; change = λ n. absurd (true≢false (sym d_is ∙ n)) };
      })

  -- the change of this version
  one_change : (d e : Deed) → Contains done d → d.read ≡ false → slice_get course.changes.items e.version ≡ Some e
      → d.version ≡ e.version → e ≡ d
  one_change d e has change at same =
      same_Some e d (sym at ∙ (ap (slice_get course.changes.items) (sym same) ∙ is.changed d has change))

  -- the changes in front of a version lead to what those directly in front of it lead to
  pub front : (J : Deed → Type 0) (t v : ℕ) → ((e : Deed) → J e → G e.tx t) → v ≤ length course.changes.items
      → AreFrontNoted J course v → (d : Deed) → Contains done d → d.read ≡ false → d.version < v → G d.tx t
  front J t v turn within noted d has change lt =
      let at = is.changed d has change in
      elim (cases_lt d.version noted.first) [
        | inr late ↦ turn d (noted.noted d.version d late lt at)
        | inl early ↦
            elim noted.turn [
              | inl zero ↦ absurd (omega (arith, early, zero))
              | inr turns ↦
                  let low = turns.0 in
                  let b = within_at course.changes.items noted.first (omega (arith, low, within)) in
                  let known = is.changes noted.first b.0 b.1 in
                  let version = known.2 in
                  let last = turn b.0 (noted.noted noted.first b.0 (omega arith) low b.1) in
                  elim turns.1 [
                    | inl write ↦
                        let inc : b.0.increment ≡ false =
                        ap (λ (x : Deed). x.increment) (same_Some b.0 write.write (sym b.1 ∙ write.at))
                        ∙ write.is in
                        join d.tx b.0.tx t
                        (to_write d b.0 has known.0 change known.1 inc (omega (arith, early, version))) last
                    | inr other ↦
                        elim other [
                          | inl read ↦
                              let r = is.reads noted.first read.row read.read read.at
                              (Contains-from_at read.row.items read.place read.read read.has) in
                              let read_version = r.2 in
                              join d.tx read.read.tx t
                              (to_read d read.read has r.0 change r.1 (omega (arith, early, read_version)))
                              (join read.read.tx b.0.tx t
                              (from_read read.read b.0 r.0 known.0 r.1 known.1
                              (omega (arith, read_version, version))) last)
                          | inr before ↦
                              let w = before.2 in
                              let next = before.1 in
                              let write = is.changes before.0 w.write w.at in
                              let write_version = write.2 in
                              let onward =
                              join w.write.tx b.0.tx t
                              (from_write w.write b.0 write.0 known.0 write.1 w.is known.1
                              (omega (arith, next, version, write_version))) last in
                              elim (cases_lt d.version before.0) [
                                | inl less ↦ join d.tx w.write.tx t
                                    (to_write d w.write has write.0 change write.1 w.is
                                    (omega (arith, less, write_version))) onward
                                | inr more ↦
                                    let same : d.version ≡ before.0 = omega (arith, early, next, more) in
                                    let own : w.write ≡ d =
                                    same_Some w.write d (sym w.at
                                    ∙ (ap (slice_get course.changes.items) (sym same) ∙ at)) in
                                    subst (λ (x : Deed). G x.tx t) own onward
                              ]
                        ]
                  ]
            ]
      ]

  -- the changes behind a version are reached from it
  pub back : (J : Deed → Type 0) (t v : ℕ) → ((e : Deed) → J e → G t e.tx) → AreBackNoted J course v → (d : Deed)
      → Contains done d → d.read ≡ false → v ≤ d.version → G t d.tx
  back J t v turn noted d has change from =
      let at = is.changed d has change in
      let low = slice_get_within course.changes.items d.version d at in
      elim (cases_lt d.version noted.end) [
        | inl early ↦ turn d (noted.noted d.version d from early at)
        | inr late ↦
            elim noted.turn [
              | inl whole ↦ absurd (omega (arith, late, whole, low))
              | inr end ↦
                  let next = end.next in
                  let b = within_at course.changes.items end.last (omega (arith, next, late, low)) in
                  let known = is.changes end.last b.0 b.1 in
                  let version = known.2 in
                  let first = turn b.0 (noted.noted end.last b.0 end.from (omega (arith, next)) b.1) in
                  elim end.which [
                    | inl write ↦
                        let inc : b.0.increment ≡ false =
                        ap (λ (x : Deed). x.increment) (same_Some b.0 write.write (sym b.1 ∙ write.at))
                        ∙ write.is in
                        join t b.0.tx d.tx first
                        (from_write b.0 d known.0 has known.1 inc change (omega (arith, next, late, version)))
                    | inr read ↦
                        let r = is.reads noted.end read.row read.read read.at
                        (Contains-from_at read.row.items read.place read.read read.has) in
                        let read_version = r.2 in
                        join t b.0.tx d.tx first
                        (join b.0.tx read.read.tx d.tx
                        (to_read b.0 read.read known.0 r.0 known.1 r.1
                        (omega (arith, next, version, read_version)))
                        (from_read read.read d r.0 has r.1 change (omega (arith, late, read_version))))
                  ]
            ]
      ]

  -- a read at the present version or an earlier one
  read_low : (d : Deed) → Contains done d → d.read ≡ true → d.version ≤ length course.changes.items
  read_low d has read =
      let row = is.read d has read in
      let low = slice_get_within course.reads.items d.version row.0 row.1 in
      let long = is.shaped.long in
      omega (arith, low, long)

  change_to_write : (J : Deed → Type 0) (t : ℕ) → ((e : Deed) → J e → G e.tx t) → FollowsAsWrite J course → (d : Deed)
      → Contains done d → d.read ≡ false → G d.tx t
  change_to_write J t turn follows d has change =
      let present = length course.changes.items in
      let low = slice_get_within course.changes.items d.version d (is.changed d has change) in
      elim follows.changes [
        | inl read ↦
            let r = is.reads present read.row read.read read.at
            (Contains-from_at read.row.items read.place read.read read.has) in
            let version = r.2 in
            join d.tx read.read.tx t (to_read d read.read has r.0 change r.1 (omega (arith, low, version)))
            (turn read.read (All_in J read.row.items read.read (follows.reads read.row read.at)
            (Contains-from_at read.row.items read.place read.read read.has)))
        | inr noted ↦ front J t present turn (omega arith) noted d has change low
      ]

  -- what is there leads to a write
  pub to_write_next : (J : Deed → Type 0) (t : ℕ) → ((e : Deed) → J e → G e.tx t) → FollowsAsWrite J course
      → (d : Deed) → Contains done d → G d.tx t
  to_write_next J t turn follows d has =
      let present = length course.changes.items in
      elim (cases_Bool d.read) [
        | inr change ↦ change_to_write J t turn follows d has change
        | inl read ↦
            let low = read_low d has read in
            elim (cases_lt d.version present) [
              | inl early ↦
                  let b = within_at course.changes.items d.version early in
                  let known = is.changes d.version b.0 b.1 in
                  let version = known.2 in
                  join d.tx b.0.tx t (from_read d b.0 has known.0 read known.1 (omega (arith, version)))
                  (change_to_write J t turn follows b.0 known.0 known.1)
              | inr late ↦
                  let same : d.version ≡ present = omega (arith, low, late) in
                  let row = is.read d has read in
                  turn d (All_in J row.0.items d (follows.reads row.0 (ap (slice_get course.reads.items) (sym same)
                  ∙ row.1)) row.2)
            ]
      ]

  -- what is there and is no increment leads to an increment
  pub to_increment_next : (J : Deed → Type 0) (t : ℕ) → ((e : Deed) → J e → G e.tx t) → FollowsAsIncrement J course
      → (d : Deed) → Contains done d → d.increment ≡ false → G d.tx t
  to_increment_next J t turn follows d has none =
      let last_write : (v : ℕ) → v < course.written → (j : ℕ) × (b : Deed) × (suc j ≡ course.written)
      × (slice_get course.changes.items j ≡ Some b) = λ v low.
      let inside = is.written in
      let b = within_at course.changes.items (course.written - 1) (omega (arith, low, inside)) in
      (course.written - 1, b.0, omega (arith, low), b.1) in
      elim (cases_Bool d.read) [
        | inr change ↦
            let at = is.changed d has change in
            elim (cases_lt d.version course.written) [
              | inr late ↦ absurd (true≢false (sym (is.added d.version d late at) ∙ none))
              | inl early ↦
                  let w = last_write d.version early in
                  let next = w.2 in
                  let b = w.1 in
                  let known = is.changes w.0 b w.3 in
                  let version = known.2 in
                  let walk = turn b (follows.write w.0 b next w.3) in
                  elim (cases_lt d.version w.0) [
                    | inl less ↦ join d.tx b.tx t (to_write d b has known.0 change known.1 (is.wrote w.0 b next w.3)
                        (omega (arith, less, version))) walk
                    | inr more ↦
                        let same : d.version ≡ w.0 = omega (arith, early, next, more) in
                        let own : b ≡ d =
                        same_Some b d (sym w.3 ∙ (ap (slice_get course.changes.items) (sym same) ∙ at)) in
                        subst (λ (x : Deed). G x.tx t) own walk
                  ]
            ]
        | inl read ↦
            elim (cases_lt d.version course.written) [
              | inl early ↦
                  let w = last_write d.version early in
                  let next = w.2 in
                  let b = w.1 in
                  let known = is.changes w.0 b w.3 in
                  let version = known.2 in
                  join d.tx b.tx t (from_read d b has known.0 read known.1 (omega (arith, early, next, version)))
                  (turn b (follows.write w.0 b next w.3))
              | inr late ↦
                  let top = is.last d has read in
                  let readers = follows.reads (omega (arith, late, top)) in
                  let direct : d.version ≡ course.last_read → G d.tx t = λ same.
                  let row = is.read d has read in
                  turn d (All_in J row.0.items d (readers row.0 (ap (slice_get course.reads.items) (sym same)
                  ∙ row.1)) row.2) in
                  elim is.last_read [
                    | inl zero ↦ direct (omega (arith, top, zero))
                    | inr r ↦
                        let r_version = r.3 in
                        elim (cases_lt d.version course.last_read) [
                          | inr most ↦ direct (omega (arith, top, most))
                          | inl less ↦
                              let low = read_low r.0 r.1 r.2 in
                              let b = within_at course.changes.items d.version (omega (arith, less, r_version, low)) in
                              let known = is.changes d.version b.0 b.1 in
                              let version = known.2 in
                              let row = is.read r.0 r.1 r.2 in
                              let walk =
                              turn r.0 (All_in J row.0.items r.0
                              (readers row.0 (ap (slice_get course.reads.items) (sym r_version) ∙ row.1)) row.2) in
                              join d.tx b.0.tx t (from_read d b.0 has known.0 read known.1 (omega (arith, version)))
                              (join b.0.tx r.0.tx t
                              (to_read b.0 r.0 known.0 r.1 known.1 r.2 (omega (arith, version, less, r_version)))
                              walk)
                        ]
                  ]
            ]
      ]

-- ---- walks

leads_join : (R : ℕ → ℕ → Type 0) (a b c : ℕ) (between : List ℕ) → Leads R a between b → Reaches R b c → Reaches R a c
leads_join R a b c [] h r = (b ∷ r.0, (h, r.1))
leads_join R a b c (d ∷ ds) h r = let rest = leads_join R d b c ds h.1 r in (d ∷ rest.0, (h.0, rest.1))

gets_join : (links : List Link) (last a b c : ℕ) → GetsTo links last a b → GetsTo links last b c → GetsTo links last a c
gets_join links last a b c first second =
    elim first [
      | inl same ↦ subst (λ k. GetsTo links last k c) (sym same) second
      | inr walk ↦
          elim second [
            | inl same ↦ inr (subst (λ k. Reaches (IsHanded links last) a k) same walk)
            | inr more ↦ inr (leads_join (IsHanded links last) a b c walk.0 walk.1 more)
          ]
    ]

gets_wider : (links : List Link) (m n a b : ℕ) → m ≤ n → GetsTo links m a b → GetsTo links n a b
gets_wider links m n a b le gets =
    elim gets [
      | inl same ↦ inl same
      | inr walk ↦ inr (reaches_map (IsHanded links m) (IsHanded links n) (λ c d h. let low = h.4 in
          (h.0, h.1, h.2, h.3, omega (arith, low, le))) a b walk)
    ]

-- ---- the next one

module _ (links : List Link) (done : List Deed) (d : Deed) (course : Course) (is : IsCourse done course)
    (sound : (e : Deed) → Contains done e → IsSound e) (early : (e : Deed) → Contains done e
    → e.number ≤ d.number) (fits : Fits course d)
    (follows : Follows (ComesTo links d) (LeadsTo links d) course d) (carried : AreDeedsCarried links done) where
  all_carried : (x y : Deed) → Contains done x → Contains done y → Precedes x y → GetsTo links d.number x.tx y.tx
  all_carried x y first second precedes =
      gets_wider links (max x.number y.number) d.number x.tx y.tx
      (Rattle.std.proofs.Math.Nat.max-le (early x first) (early y second)) (carried x y first second precedes)

  comes : (e : Deed) → ComesTo links d e → GetsTo links d.number e.tx d.tx
  comes e how = elim how [ inl same ↦ inl same | inr edge ↦ inr ([], edge) ]

  leads : (e : Deed) → LeadsTo links d e → GetsTo links d.number d.tx e.tx
  leads e how = elim how [ inl same ↦ inl (sym same) | inr edge ↦ inr ([], edge) ]

  to_new : (x : Deed) → Contains done x → Precedes x d → GetsTo links d.number x.tx d.tx
  to_new x has precedes =
      let Gs = λ (a b : ℕ). GetsTo links d.number a b in
      elim (cases_Bool d.read) [
        | inl read ↦
            let change : x.read ≡ false =
            elim (cases_Bool x.read) [
              | inl too ↦ absurd (true≢false (sym read ∙ precedes.reads too))
              | inr other ↦ other
            ] in
            front Gs (gets_join links d.number) done course is sound all_carried (ComesTo links d) d.tx d.version
            comes (fits.read read) (follows.front read) x has change (precedes.before.change change)
        | inr change ↦
            elim (cases_Bool d.increment) [
              | inl adds ↦
                  let none : x.increment ≡ false =
                  elim (cases_Bool x.increment)
                  [ inl too ↦ absurd (true≢false (sym adds ∙ precedes.increments too)) | inr other ↦ other ] in
                  to_increment_next Gs (gets_join links d.number) done course is sound all_carried
                  (ComesTo links d) d.tx comes (follows.increment change adds) x has none
              | inr writes ↦ to_write_next Gs (gets_join links d.number) done course is sound all_carried
                  (ComesTo links d) d.tx comes (follows.write change writes) x has
            ]
      ]

  from_new : (y : Deed) → Contains done y → Precedes d y → GetsTo links d.number d.tx y.tx
  from_new y has precedes =
      let Gs = λ (a b : ℕ). GetsTo links d.number a b in
      elim (cases_Bool d.read) [
        | inl read ↦ back Gs (gets_join links d.number) done course is sound all_carried (LeadsTo links d) d.tx
            d.version leads (follows.back read) y has (precedes.reads read) (precedes.before.read read)
        | inr change ↦
            let lt = precedes.before.change change in
            let last = fits.change change in
            elim (cases_Bool y.read) [
              | inl read ↦
                  let row = is.read y has read in
                  let low = slice_get_within course.reads.items y.version row.0 row.1 in
                  let long = is.shaped.long in
                  absurd (omega (arith, lt, last, low, long))
              | inr other ↦
                  let low = slice_get_within course.changes.items y.version y (is.changed y has other) in
                  absurd (omega (arith, lt, last, low))
            ]
      ]

  pub deeds_next : AreDeedsCarried links (done ++ d ∷ [])
  deeds_next x y in_x in_y precedes =
      elim (push_contains done d x in_x) [
        | inl old_x ↦
            elim (push_contains done d y in_y) [
              | inl old_y ↦ carried x y old_x old_y precedes
              | inr last ↦
                  subst (λ (z : Deed). GetsTo links (max x.number z.number) x.tx z.tx) last
                  (gets_wider links d.number (max x.number d.number) x.tx d.tx (le-max_right x.number d.number)
                  (to_new x old_x (subst (λ (z : Deed). Precedes x z) (sym last) precedes)))
            ]
        | inr first ↦
            elim (push_contains done d y in_y) [
              | inl old_y ↦
                  subst (λ (z : Deed). GetsTo links (max z.number y.number) z.tx y.tx) first
                  (gets_wider links d.number (max d.number y.number) d.tx y.tx (le-max_left d.number y.number)
                  (from_new y old_y (subst (λ (z : Deed). Precedes z y) (sym first) precedes)))
              | inr last ↦ inl (ap (λ (z : Deed). z.tx) (sym first ∙ last))
            ]
      ]
