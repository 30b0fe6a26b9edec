-- The touches of one version among all touches in order.
use Rattle.std.proofs.Common.{◌≡◌, ◌≢◌, ℕ, zero, suc, ◌+◌, ◌-◌, ◌<◌, ◌≤◌, Bool, true, false, List, Option, Some, None, length, take, drop, refl, sym, ap, ◌∙◌, subst, arith, inl, inr, ◌⊎◌, All, Contains, get_or, length-drop, length-take}
use Rattle.std.specs.Prelude.{slice_get, ◌↔◌}
use Rattle.std.proofs.lemmas.Bool.{cases_eq, cases_lt, cases_order}
use Rattle.std.proofs.lemmas.Option.{same_Some, slice_get-get_or, slice_get_within}
use Rattle.sgt_names.proofs.Lists.{within_at}
use Rattle.sgt_names.proofs.Places.{Contains_at, Contains-from_at, All-from_at, slice_get-take, slice_get-take_at, slice_get-drop}
use Rattle.sgt_history.specs.Flaws.{IsFaulty, rank_of}
use Rattle.sgt_history.specs.Transaction.{Transaction}
use Rattle.sgt_history.specs.declared.history.Kind.{Kind}
use Rattle.sgt_history.specs.declared.history.Kind.TheVariants.{Read, Write}
use Rattle.sgt_history.specs.declared.named.Flaw.{Flaw}
use Rattle.sgt_history.specs.declared.named.Flaw.TheVariants.{Internal, Duplicate, AbortedRead, Unwritten, IntermediateRead, Value}
use Rattle.sgt_history_faults.specs.declared.fault.Fault.{Fault}
use Rattle.sgt_history_faults.specs.declared.touch.Touch.{Touch}
use Rattle.sgt_history_faults.specs.Group.{AreAllAlike, AreAllCovered, AreAllFaulty, AreAlike, AreCovered, AreFaulty, AreFrontCovered, AreLike, HasFlawBy, HasGroupFlaw, HasTouchFlaw, IsBoundary, IsEarliestBy, IsLike, IsRead, IsWrite, IsWriteAlso, LinesRise}
use Rattle.sgt_history_faults.specs.Noted.{Covers, IsReal}
use Rattle.sgt_history_faults.specs.Order.{reads_of, MayPrecede, AreInOrder}
use Rattle.sgt_history_faults.proofs.Sorted.{may-on}
use Rattle.sgt_history_faults.proofs.Covering.{kinds}

-- ---- a part of a list

pub in_part : {A : Type 0} (xs : List A) (from to k : ℕ) (x : A)
    → slice_get (take (to - from) (drop from xs)) k ≡ Some x
    → (slice_get xs (from + k) ≡ Some x) × (from + k < to)
in_part xs from to k x at =
    let t = slice_get-take (drop from xs) (to - from) k x at in
    (sym (slice_get-drop xs from k) ∙ t.1, omega (arith, t.0))

pub part_at : {A : Type 0} (xs : List A) (from to k : ℕ) (x : A) → from ≤ k → k < to → slice_get xs k ≡ Some x
    → slice_get (take (to - from) (drop from xs)) (k - from) ≡ Some x
part_at xs from to k x le lt at =
    slice_get-take_at (drop from xs) (to - from) (k - from) x (omega (arith, le, lt))
    (slice_get-drop xs from (k - from) ∙ ap (slice_get xs) (omega (arith, le)) ∙ at)

-- ---- other words for the writes

by-other : (W V : Touch → Type 0) (e : Touch) (flaw : Flaw) → ((w : Touch) → W w → V w) → ((w : Touch) → V w → W w)
    → HasFlawBy W e flaw → HasFlawBy V e flaw
by-other W V e Internal f g h = (h.0, h.1, f h.1 h.2, h.3)
by-other W V e Duplicate f g h = (h.0, h.1, h.2, (f h.2 h.3.0, h.3.1), h.4)
by-other W V e AbortedRead f g h = (h.0, h.1, λ w c. h.2 w (g w c.0, c.1), h.3, f h.3 h.4)
by-other W V e Unwritten f g h = (h.0, h.1, λ w c. h.2 w (g w c))
by-other W V e IntermediateRead f g h =
    (h.0, h.1, h.2, record { is = (f h.2 h.3.is.0, h.3.is.1); least = λ u c. h.3.least u (g u c.0, c.1) }, h.4)
by-other W V e Value f g h = h

-- what stands between two of one version is of it, and of a kind that may stand there
between : (a m b : Touch) → MayPrecede a m → MayPrecede m b → a.item ≡ b.item → a.version ≡ b.version
    → (m.item ≡ a.item) × (m.version ≡ a.version) × (reads_of m.kind ≤ reads_of b.kind)
    × (reads_of a.kind ≤ reads_of m.kind)
between a m b (inl x) (inl y) i v = absurd (omega (arith, x, y, i))
between a m b (inl x) (inr (e, y)) i v = absurd (omega (arith, x, e, i))
between a m b (inr (e, x)) (inl y) i v = absurd (omega (arith, e, y, i))
between a m b (inr (e, inl x)) (inr (f, inl y)) i v = absurd (omega (arith, x, y, v))
between a m b (inr (e, inl x)) (inr (f, inr (g, y))) i v = absurd (omega (arith, x, g, v))
between a m b (inr (e, inr (k, x))) (inr (f, inl y)) i v = absurd (omega (arith, k, y, v))
between a m b (inr (e, inr (k, inl x))) (inr (f, inr (g, inl y))) i v =
    (sym e, sym k, omega (arith, y), omega (arith, x))
between a m b (inr (e, inr (k, inl x))) (inr (f, inr (g, inr (n, y)))) i v =
    (sym e, sym k, omega (arith, n), omega (arith, x))
between a m b (inr (e, inr (k, inr (l, x)))) (inr (f, inr (g, inl y))) i v =
    (sym e, sym k, omega (arith, y), omega (arith, l))
between a m b (inr (e, inr (k, inr (l, x)))) (inr (f, inr (g, inr (n, y)))) i v =
    (sym e, sym k, omega (arith, n), omega (arith, l))

-- of one version and kind the lines rise
rise-of : (a b : Touch) → MayPrecede a b → a.item ≡ b.item → a.version ≡ b.version → a.kind ≡ b.kind → a.line ≤ b.line
rise-of a b (inl x) i v k = absurd (omega (arith, x, i))
rise-of a b (inr (e, inl x)) i v k = absurd (omega (arith, x, v))
rise-of a b (inr (e, inr (f, inl x))) i v k = absurd (omega (arith, x, ap reads_of k))
rise-of a b (inr (e, inr (f, inr (g, x)))) i v k = x

module _ (touches : List Touch) (ordered : AreInOrder touches) (like : Touch) (kind : Kind) (from to : ℕ)
    (are : AreLike touches like kind from to) where
  pub lines-rise : LinesRise (take (to - from) (drop from touches))
  lines-rise i j a b le at at' =
      let x = in_part touches from to i a at in
      let y = in_part touches from to j b at' in
      let u = are.each (from + i) a (omega arith) x.1 x.0 in
      let v = are.each (from + j) b (omega arith) y.1 y.0 in
      elim (cases_eq i j) [
        | inl e ↦ omega (
          arith,
          ap (λ (t : Touch). t.line) (same_Some a b (sym x.0 ∙ ap (λ n. slice_get touches (from + n)) e ∙ y.0)),
        )
        | inr apart ↦ rise-of a b (ordered (from + i) (from + j) a b (omega (arith, le, apart)) x.0 y.0)
            (u.item_is ∙ sym v.item_is) (u.version_is ∙ sym v.version_is) (u.kind_is ∙ sym v.kind_is)
      ]

  pub all-of-kind : All (λ e. e.kind ≡ kind) (take (to - from) (drop from touches))
  all-of-kind = All-from_at (λ e. e.kind ≡ kind) (take (to - from) (drop from touches)) (λ k e at.
      let x = in_part touches from to k e at in
      (are.each (from + k) e (omega arith) x.1 x.0).kind_is)

  -- one of the part is one of all, and like
  pub of-part : (e : Touch) → Contains (take (to - from) (drop from touches)) e
      → Contains touches e × IsLike like kind e
  of-part e in_it =
      let at = Contains_at (take (to - from) (drop from touches)) e in_it in
      let x = in_part touches from to at.0 e at.1 in
      (Contains-from_at touches (from + at.0) e x.0, are.each (from + at.0) e (omega arith) x.1 x.0)

module _ (touches : List Touch) (ordered : AreInOrder touches) (like : Touch) (start middle end : ℕ)
    (there : slice_get touches start ≡ Some like) (boundary : IsBoundary touches start)
    (writes : AreLike touches like Write start middle) (reads : AreLike touches like Read middle end) where
  -- one of the same version from the start on stands before the end
  before-end : (j : ℕ) (b : Touch) → start ≤ j → slice_get touches j ≡ Some b → b.item ≡ like.item
      → b.version ≡ like.version → j < end
  before-end j b le at item version =
      elim (cases_lt j end) [
        | inl lt ↦ lt
        | inr past ↦
            let m = within_at touches end (omega (arith, past, slice_get_within touches j b at)) in
            absurd (not m.0 m.1 (same-version m.0 m.1 past))
      ]
    where
      same-version : (m : Touch) → slice_get touches end ≡ Some m → end ≤ j
          → (m.item ≡ like.item) × (m.version ≡ like.version)
      same-version m here past =
          elim (cases_eq end j) [
            | inl e ↦
                let same = same_Some m b (sym here ∙ ap (slice_get touches) e ∙ at) in
                (ap (λ (t : Touch). t.item) same ∙ item, ap (λ (t : Touch). t.version) same ∙ version)
            | inr apart ↦ elim (cases_eq start end) [
              | inl e ↦
                  let same = same_Some m like (sym here ∙ ap (slice_get touches) (sym e) ∙ there) in
                  (ap (λ (t : Touch). t.item) same, ap (λ (t : Touch). t.version) same)
              | inr more ↦
                  let one =
                  ordered start end like m (omega (arith, more, writes.from_most, reads.from_most)) there here in
                  let two = ordered end j m b (omega (arith, past, apart)) here at in
                  let mid = between like m b one two (sym item) (sym version) in
                  (mid.0, mid.1)
            ]
          ]

      not : (m : Touch) → slice_get touches end ≡ Some m → (m.item ≡ like.item) × (m.version ≡ like.version) → ⊥
      not m here same =
          elim (kinds m.kind) [
            | inl read ↦ reads.ends m here (record { item_is = same.0; version_is = same.1; kind_is = read })
            | inr write ↦ elim (cases_eq middle end) [
              | inl e ↦ writes.ends m (ap (slice_get touches) e
                  ∙ here) (record { item_is = same.0; version_is = same.1; kind_is = write })
              | inr more ↦
                  let r = within_at touches middle (omega (arith, more, reads.from_most, reads.within)) in
                  let is = reads.each middle r.0 (omega arith) (omega (arith, more, reads.from_most)) r.1 in
                  let order = ordered middle end r.0 m (omega (arith, more, reads.from_most)) r.1 here in
                  let mid = between r.0 r.0 m (inr (refl, inr (refl, inr (refl, omega arith)))) order (is.item_is
                  ∙ sym same.0) (is.version_is ∙ sym same.1) in
                  absurd (omega (arith, mid.2, ap reads_of is.kind_is, ap reads_of write))
            ]
          ]

  pub boundary-next : IsBoundary touches end
  boundary-next i j a b lt le at at' item version =
      elim (cases_lt i start) [
        | inl before ↦ boundary i j a b before (omega (arith, le, writes.from_most, reads.from_most)) at at' item
            version
        | inr behind ↦
            let a_is : (a.item ≡ like.item) × (a.version ≡ like.version) = elim (cases_lt i middle) [
              | inl w ↦ let x = writes.each i a behind w at in (x.item_is, x.version_is)
              | inr r ↦ let x = reads.each i a r lt at in (x.item_is, x.version_is)
            ] in
            absurd (omega (
              arith,
              le,
              before-end j b (omega (arith, le, writes.from_most, reads.from_most)) at'
                  (sym item ∙ a_is.0) (sym version ∙ a_is.1),
            ))
      ]

  -- the end is past the start
  pub goes-on : start < end
  goes-on = before-end start like (omega arith) there refl refl

  -- the writes of the version are those of the part
  pub write-in_part : (e w : Touch) → e.item ≡ like.item → e.version ≡ like.version → IsWriteAlso touches e w
      → Contains (take (middle - start) (drop start touches)) w
  write-in_part e w item version is =
      let at = Contains_at touches w is.in_it in
      let w_item = is.item_is ∙ item in
      let w_version = is.version_is ∙ version in
      elim (cases_lt at.0 start) [
        | inl before ↦ absurd (boundary at.0 start w like before (omega arith) at.1 there w_item w_version)
        | inr behind ↦ elim (cases_lt at.0 middle) [
          | inl lt ↦ Contains-from_at (take (middle - start) (drop start touches)) (at.0 - start) w
              (part_at touches start middle at.0 w behind lt at.1)
          | inr past ↦
              let lt = before-end at.0 w behind at.1 w_item w_version in
              let r = reads.each at.0 w past lt at.1 in
              let f = sym r.kind_is ∙ is.write in cc
        ]
      ]

  pub part-in_write : (e w : Touch) → e.item ≡ like.item → e.version ≡ like.version
      → Contains (take (middle - start) (drop start touches)) w
      → IsWriteAlso touches e w
  part-in_write e w item version in_it =
      let x = of-part touches ordered like Write start middle writes w in_it in
      record {
        in_it = x.0;
        write = x.1.kind_is;
        item_is = x.1.item_is ∙ sym item;
        version_is = x.1.version_is
            ∙ sym version;
      }

  -- a fault by all touches is one by the part, and the other way round
  pub to-part : (e : Touch) (flaw : Flaw) → e.item ≡ like.item → e.version ≡ like.version → HasTouchFlaw touches e flaw
      → HasGroupFlaw (take (middle - start) (drop start touches)) e flaw
  to-part e flaw item version =
      by-other (IsWriteAlso touches e) (Contains (take (middle - start) (drop start touches))) e flaw
      (λ w. write-in_part e w item version) (λ w. part-in_write e w item version)

  pub from-part : (e : Touch) (flaw : Flaw) → e.item ≡ like.item → e.version ≡ like.version
      → HasGroupFlaw (take (middle - start) (drop start touches)) e flaw → HasTouchFlaw touches e flaw
  from-part e flaw item version =
      by-other (Contains (take (middle - start) (drop start touches))) (IsWriteAlso touches e) e flaw
      (λ w. part-in_write e w item version) (λ w. write-in_part e w item version)

  pub alike-part : AreAllAlike touches → AreAlike (take (middle - start) (drop start touches))
  alike-part alike a b in_a in_b line =
      let x = of-part touches ordered like Write start middle writes a in_a in
      let y = of-part touches ordered like Write start middle writes b in_b in
      alike a b x.0 y.0 x.1.kind_is y.1.kind_is (x.1.item_is ∙ sym y.1.item_is) (x.1.version_is
      ∙ sym y.1.version_is) line

  pub faulty-writes : (h : List (Transaction ℕ ℕ)) → AreAllFaulty h touches
      → AreFaulty h (take (middle - start) (drop start touches)) (take (middle - start) (drop start touches))
  faulty-writes h all e in_it flaw has =
      let x = of-part touches ordered like Write start middle writes e in_it in
      all e flaw x.0 (from-part e flaw x.1.item_is x.1.version_is has)

  pub faulty-reads : (h : List (Transaction ℕ ℕ)) → AreAllFaulty h touches
      → AreFaulty h (take (middle - start) (drop start touches)) (take (end - middle) (drop middle touches))
  faulty-reads h all e in_it flaw has =
      let x = of-part touches ordered like Read middle end reads e in_it in
      all e flaw x.0 (from-part e flaw x.1.item_is x.1.version_is has)

  pub front-covered : (first next : Option Fault) → AreFrontCovered touches start first
      → ((line rank place : ℕ) → Covers first line rank place → Covers next line rank place)
      → AreCovered (take (middle - start) (drop start touches)) (take (middle - start) (drop start touches)) next
      → AreCovered (take (middle - start) (drop start touches)) (take (end - middle) (drop middle touches)) next
      → AreFrontCovered touches end next
  front-covered first next front kept one two k e flaw lt at has =
      elim (cases_lt k start) [
        | inl before ↦ kept e.line (rank_of flaw) e.place (front k e flaw before at has)
        | inr behind ↦ elim (cases_lt k middle) [
          | inl w ↦
              let x = writes.each k e behind w at in
              one e flaw (Contains-from_at (take (middle - start) (drop start touches)) (k - start) e
              (part_at touches start middle k e behind w at))
              (to-part e flaw x.item_is x.version_is has)
          | inr r ↦
              let x = reads.each k e r lt at in
              two e flaw (Contains-from_at (take (end - middle) (drop middle touches)) (k - middle) e
              (part_at touches middle end k e r lt at))
              (to-part e flaw x.item_is x.version_is has)
        ]
      ]
