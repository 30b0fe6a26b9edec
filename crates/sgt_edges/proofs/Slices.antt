-- The neighbours are in one slice of the item's writers, or of its readers, and nobody else is.
use mathlib.Core.Bool.{false≢true}
use Rattle.std.proofs.Common.{◌≡◌, ℕ, suc, true, false, ◌+◌, ◌-◌, ◌<◌, ◌≤◌, ◌⊎◌, List, [], length, get_or, take, drop, Some, refl, sym, ap, ◌∙◌, subst, arith, inl, inr, AllPairs, Contains}
use Rattle.std.specs.Prelude.{slice_get, ◌↔◌, ltb}
use Rattle.std.specs.List.Sorted.{IsPartitionPoint}
use Rattle.std.proofs.lemmas.Bool.{cases_lt, cases_order, cases_Bool, ltb-true, ltb-false}
use Rattle.std.proofs.lemmas.List.{length-take-le}
use Rattle.std.proofs.Math.Seq.{take-length}
use Rattle.std.proofs.lemmas.Option.{get_or_from_slice_get, same_Some, slice_get_within}
use Rattle.sgt_names.specs.Name.{Name}
use Rattle.sgt_names.specs.declared.entry.Change.TheVariants.{Put}
use Rattle.sgt_names.proofs.Lists.{within_at}
use Rattle.sgt_names.proofs.Places.{AllPairs_at, Contains_at, Contains-from_at, slice_get-take, slice_get-take_at, slice_get-drop}
use Rattle.sgt_site.specs.State.{SiteState, IsSite, IsVersionWritten, version_at, writers_of}
use Rattle.sgt_site.specs.declared.cell.Reader.{Reader}
use Rattle.sgt_site.specs.declared.cell.Writer.{Writer}
use Rattle.sgt_edges.specs.Edges.{IsWriter, HasReader}
use Rattle.sgt_edges.specs.Neighbours.{AddsOnly, IsUnread, IsInFront, IsBehind, IsLastWrite, IsLastReader}
use Rattle.sgt_edges.specs.private.Gathered.{IsRunLength, IsBeforeWrite, ReadsBefore}
use Rattle.sgt_edges.proofs.Neighbours.{reader_below}
use Rattle.sgt_edges.proofs.Unlisted.{versions}

module _ (s : SiteState) (x : Name) (us : List Writer) (are : us ≡ writers_of s.installed s.entries x) where
  writer-of : (k : ℕ) (w : Writer) → slice_get us k ≡ Some w → IsWriter s x k w
  writer-of k w at = subst (λ (vs : List Writer). slice_get vs k ≡ Some w) are at

  of-writer : (k : ℕ) (w : Writer) → IsWriter s x k w → slice_get us k ≡ Some w
  of-writer k w is = subst (λ (vs : List Writer). slice_get vs k ≡ Some w) (sym are) is

  -- of the writers before version n: the last one, where it writes
  module _ (n : ℕ) (within : n ≤ length us) where
    front_at : (j : ℕ) (u : Writer) → j < n → IsWriter s x j u → slice_get (take n us) j ≡ Some u
    front_at j u lt is = slice_get-take_at us n j u lt (of-writer j u is)

    abbrev Adds : Type 0
    Adds = (u : Writer) × (slice_get (take n us) (length (take n us) - 1) ≡ Some u) × (u.increment ≡ true)

    -- where it doesn't, each writer in front adds, and where it does, each writes
    front-adds : (k : ℕ) (w : Writer) → IsInFront s x n k w → Adds → w.increment ≡ true
    front-adds k w near adds = by_which near.which
      where
        by_which : (w.increment ≡ true) ⊎ (suc k ≡ n) → w.increment ≡ true
        by_which (inl is) = is
        by_which (inr end) =
            let long = length-take-le n us within in
            let here : k ≡ length (take n us) - 1 = omega (arith, end, long) in
            ap (λ (v : Writer). v.increment) (same_Some w adds.0 (sym (front_at k w near.before near.writer)
            ∙ ap (slice_get (take n us)) here ∙ adds.1)) ∙ adds.2

    front-end : (k : ℕ) (w : Writer) → IsInFront s x n k w → (Adds → ⊥) → suc k ≡ n
    front-end k w near writes = elim (cases_lt (suc k) n) [
      | inr end ↦ let lt = near.before in omega (arith, end, lt)
      | inl less ↦
          let long = length-take-le n us within in
          let u = within_at (take n us) (length (take n us) - 1) (omega (arith, less, long)) in
          absurd (writes (
            u.0,
            u.1,
            near.run (length (take n us) - 1) u.0 (omega (arith, less, long))
                (omega (arith, less, long))
                (writer-of (length (take n us) - 1) u.0 (slice_get-take us n (length (take n us) - 1) u.0 u.1).1),
          ))
    ]

    pub front-writes : (k : ℕ) (w : Writer) → IsInFront s x n k w → (Adds → ⊥) → w.increment ≡ false
    front-writes k w near writes = elim (cases_Bool w.increment) [
      | inr write ↦ write
      | inl is ↦
          let end = front-end k w near writes in
          let long = length-take-le n us within in
          let here : k ≡ length (take n us) - 1 = omega (arith, end, long) in
          absurd (writes (w, ap (slice_get (take n us)) (sym here) ∙ front_at k w near.before near.writer, is))
    ]

    pub front-last : (Adds → ⊥) → (w : Writer) → Contains (drop (length (take n us) - 1) (take n us)) w
        ↔ ((k : ℕ) × IsInFront s x n k w)
    front-last writes w = (
      λ has.
          let at = Contains_at (drop (length (take n us) - 1) (take n us)) w has in
          let there =
          slice_get-take us n (length (take n us) - 1 + at.0) w
          (sym (slice_get-drop (take n us) (length (take n us) - 1) at.0) ∙ at.1) in
          let long = length-take-le n us within in
          let lt = there.0 in (
            length (take n us) - 1 + at.0,
            record {
              writer = writer-of (length (take n us) - 1 + at.0) w there.1;
              before = lt;
              run = λ j u later below is. absurd (omega (arith, later, below, long));
              which = inr (omega (arith, lt, long));
              unread = λ r reads later below. omega (arith, later, below, long);
            },
          ),
      λ near.
          let end = front-end near.0 w near.1 writes in
          let long = length-take-le n us within in
          let place : length (take n us) - 1 + 0 ≡ near.0 = omega (arith, end, long) in
          Contains-from_at (drop (length (take n us) - 1) (take n us)) 0 w
          (slice_get-drop (take n us) (length (take n us) - 1) 0 ∙ ap (slice_get (take n us)) place
          ∙ front_at near.0 w near.1.before near.1.writer),
    )

    -- or the increments since the last write and the last read of an older version
    module _ (from m : ℕ) (adds : Adds) (below : (from ≡ 0) ⊎ (from < n)) (read : (from ≡ 0)
        ⊎ ((r : Reader) × HasReader s x r × (r.version ≡ from))) (unread : IsUnread s x (suc from) n)
        (last : IsVersionWritten (drop from (take n us)) m) where
      run_at : (k : ℕ) (w : Writer) → from ≤ k → k < n → IsWriter s x k w
          → slice_get (drop from (take n us)) (k - from) ≡ Some w
      run_at k w le lt is = let place : from + (k - from) ≡ k = omega (arith, le) in
          slice_get-drop (take n us) from (k - from) ∙ ap (slice_get (take n us)) place ∙ front_at k w lt is

      not-read : (k : ℕ) (w : Writer) → IsInFront s x n k w → k < from → ⊥
      not-read k w near lt = by_read below read
        where
          by_read : (from ≡ 0) ⊎ (from < n) → (from ≡ 0) ⊎ ((r : Reader) × HasReader s x r × (r.version ≡ from)) → ⊥
          by_read (inl none) which = omega (arith, none, lt)
          by_read (inr less) (inl none) = omega (arith, none, lt)
          by_read (inr less) (inr r) = let at = r.2 in
              near.unread r.0 r.1 (omega (arith, at, lt)) (omega (arith, at, less))

      not-early : (k : ℕ) (w : Writer) → IsInFront s x n k w → from ≤ k → k < from + m → ⊥
      not-early k w near le lt =
          let most = last.within in
          let u = within_at (drop from (take n us)) (m - 1) (omega (arith, most, le, lt)) in
          let write = last.write (m - 1) u.0 (omega (arith, le, lt)) u.1 in
          let there = slice_get-take us n (from + (m - 1)) u.0 (sym (slice_get-drop (take n us) from (m - 1)) ∙ u.1) in
          elim (cases_order k (from + (m - 1))) [
            | inl same ↦
                let w_is : u.0 ≡ w = same_Some u.0 w (sym there.1 ∙ ap (slice_get us) (sym same)
                ∙ of-writer k w near.writer) in
                false≢true (sym write ∙ ap (λ (v : Writer). v.increment) w_is ∙ front-adds k w near adds)
            | inr (inl less) ↦ false≢true (sym write
                ∙ near.run (from + (m - 1)) u.0 less there.0 (writer-of (from + (m - 1)) u.0 there.1))
            | inr (inr more) ↦ absurd (omega (arith, more, le, lt))
          ]

      pub front-run : (w : Writer) → Contains (drop m (drop from (take n us))) w ↔ ((k : ℕ) × IsInFront s x n k w)
      front-run w = (
        λ has.
            let at = Contains_at (drop m (drop from (take n us))) w has in
            let here : slice_get (drop from (take n us)) (m + at.0) ≡ Some w =
            sym (slice_get-drop (drop from (take n us)) m at.0) ∙ at.1 in
            let there = slice_get-take us n (from + (m + at.0)) w (sym (slice_get-drop (take n us) from (m + at.0))
            ∙ here) in (
              from + (m + at.0),
              record {
                writer = writer-of (from + (m + at.0)) w there.1;
                before = there.0;
                run = λ j u later less is. last.since (j - from) u (omega (arith, later))
                    (run_at j u (omega (arith, later)) less is);
                which = inl (last.since (m + at.0) w (omega arith) here);
                unread = λ r reads later less. unread r reads (omega (arith, later)) less;
              },
            ),
        λ near. elim (cases_lt near.0 from) [
          | inl lt ↦ absurd (not-read near.0 w near.1 lt)
          | inr le ↦ elim (cases_lt near.0 (from + m)) [
            | inl lt ↦ absurd (not-early near.0 w near.1 le lt)
            | inr more ↦
                let place : m + (near.0 - from - m) ≡ near.0 - from = omega (arith, le, more) in
                Contains-from_at (drop m (drop from (take n us))) (near.0 - from - m) w
                (slice_get-drop (drop from (take n us)) m (near.0 - from - m)
                ∙ ap (slice_get (drop from (take n us))) place ∙ run_at near.0 w le near.1.before near.1.writer)
          ]
        ],
      )

  -- what a write has its edges from: those in front of it, where the present version is unread, or the last of them
  -- writes
  module _ (many : length us ≡ version_at s.entries x) (ins : List Writer) (neighbours : (w : Writer)
      → Contains ins w ↔ ((k : ℕ) × IsInFront s x (length us) k w)) where
    before-all : ((k : ℕ) (w : Writer) → IsInFront s x (length us) k w
        → (w.increment ≡ false) ⊎ IsUnread s x (version_at s.entries x) (suc (version_at s.entries x))) → (w : Writer)
        → Contains ins w ↔ ((k : ℕ) × IsBeforeWrite s x k w)
    before-all which w = (
      λ has. let near = (neighbours w).0 has in
          (near.0, (subst (λ n. IsInFront s x n near.0 w) many near.1, which near.0 w near.1)),
      λ is. (neighbours w).1 (is.0, subst (λ n. IsInFront s x n is.0 w) (sym many) is.1.0),
    )

    pub before-unread : (((r : Reader) × HasReader s x r × (r.version ≡ length us)) → ⊥) → (w : Writer)
        → Contains ins w ↔ ((k : ℕ) × IsBeforeWrite s x k w)
    before-unread none =
        before-all (λ k w near. inr (λ r is from below. none (r, is, omega (arith, many, from, below))))

    pub before-written : (((u : Writer) × (slice_get us (length us - 1) ≡ Some u) × (u.increment ≡ true)) → ⊥)
        → (w : Writer) → Contains ins w ↔ ((k : ℕ) × IsBeforeWrite s x k w)
    before-written writes = before-all (λ k w near. inl (front-writes (length us) (omega arith) k w near (λ adds.
        writes (subst (λ (vs : List Writer). (u : Writer) × (slice_get vs (length vs - 1) ≡ Some u)
        × (u.increment ≡ true)) (take-length us) adds))))

  -- of the writers from version n on, up to the next version that was read: those up to the first write, and it
  module _ (n u r stop : ℕ) (more : n < u) (most : u ≤ length us) (read : (u ≡ length us)
      ⊎ ((q : Reader) × HasReader s x q × (q.version ≡ u))) (unread : IsUnread s x (suc n) u)
      (run : IsRunLength (take (u - n) (drop n us)) r)
      (enough : (k : ℕ) → k ≤ r → k < length (take (u - n) (drop n us)) → k < stop) (few : (k : ℕ) → k < stop
      → k ≤ r) where
    behind_at : (k : ℕ) (w : Writer) → n ≤ k → k < u → IsWriter s x k w
        → slice_get (take (u - n) (drop n us)) (k - n) ≡ Some w
    behind_at k w le lt is = let place : n + (k - n) ≡ k = omega (arith, le) in
        slice_get-take_at (drop n us) (u - n) (k - n) w (omega (arith, le, lt)) (slice_get-drop us n (k - n)
        ∙ ap (slice_get us) place ∙ of-writer k w is)

    at_behind : (k : ℕ) (w : Writer) → slice_get (take (u - n) (drop n us)) k ≡ Some w
        → (n + k < u) × IsWriter s x (n + k) w
    at_behind k w at = let there = slice_get-take (drop n us) (u - n) k w at in let lt = there.0 in
        (omega (arith, lt), writer-of (n + k) w (sym (slice_get-drop us n k) ∙ there.1))

    not-read_behind : (k : ℕ) (w : Writer) → IsBehind s x n k w → k < u
    not-read_behind k w near = elim (cases_lt k u) [
      | inl lt ↦ lt
      | inr le ↦ absurd (by_read read le)
    ]
      where
        by_read : (u ≡ length us) ⊎ ((q : Reader) × HasReader s x q × (q.version ≡ u)) → u ≤ k → ⊥
        by_read (inl end) le = let inside = slice_get_within us k w (of-writer k w near.writer) in
            omega (arith, end, le, inside)
        by_read (inr q) le = let at = q.2 in near.unread q.0 q.1 (omega (arith, at, more)) (omega (arith, at, le))

    not-late : (k : ℕ) (w : Writer) → IsBehind s x n k w → k - n ≤ r
    not-late k w near = elim (cases_lt r (k - n)) [
      | inr le ↦ le
      | inl lt ↦
          let inside =
          slice_get_within (take (u - n) (drop n us)) (k - n) w
          (behind_at k w near.after (not-read_behind k w near) near.writer) in
          let v = within_at (take (u - n) (drop n us)) r (omega (arith, lt, inside)) in
          absurd (false≢true (sym (run.write v.0 v.1)
          ∙ near.run (n + r) v.0 (omega arith) (omega (arith, lt)) (at_behind r v.0 v.1).1))
    ]

    pub behind-slice : (w : Writer) → Contains (take stop (take (u - n) (drop n us))) w ↔ ((k : ℕ) × IsBehind s x n k w)
    behind-slice w = (
      λ has.
          let at = Contains_at (take stop (take (u - n) (drop n us))) w has in
          let there = slice_get-take (take (u - n) (drop n us)) stop at.0 w at.1 in
          let here = at_behind at.0 w there.1 in
          let lt = here.0 in (
            n + at.0,
            record {
              writer = here.1;
              after = omega arith;
              run = λ j v from below is. run.run (j - n) v (let le = few at.0 there.0 in
                  omega (arith, from, below, le)) (behind_at j v from (omega (arith, below, lt)) is);
              unread = λ q reads later below. unread q reads later (omega (arith, below, lt));
            },
          ),
      λ near.
          let at = behind_at near.0 w near.1.after (not-read_behind near.0 w near.1) near.1.writer in
          let inside = slice_get_within (take (u - n) (drop n us)) (near.0 - n) w at in
          Contains-from_at (take stop (take (u - n) (drop n us))) (near.0 - n) w
          (slice_get-take_at (take (u - n) (drop n us)) stop (near.0 - n) w
          (enough (near.0 - n) (not-late near.0 w near.1) inside) at),
    )

  -- the last write stands in front of the version that it made
  module _ (m : ℕ) (last : IsVersionWritten us m) (many : length us ≡ version_at s.entries x) where
    number-is : (k : ℕ) (w : Writer) → IsLastWrite s x k w → suc k ≡ m
    number-is k w is = elim (cases_order (suc k) m) [
      | inl same ↦ same
      | inr (inl less) ↦
          let most = last.within in
          let u = within_at us (m - 1) (omega (arith, most, less)) in
          absurd (false≢true (sym (last.write (m - 1) u.0 (omega (arith, less)) u.1)
          ∙ is.run (m - 1) u.0 (omega (arith, less)) (omega (arith, most, less, many)) (writer-of (m - 1) u.0 u.1)))
      | inr (inr more) ↦ absurd
          (false≢true (sym is.write ∙ last.since k w (omega (arith, more)) (of-writer k w is.writer)))
    ]

    pub last-slice : (w : Writer) → Contains (take (m - (m - 1)) (drop (m - 1) us)) w ↔ ((k : ℕ) × IsLastWrite s x k w)
    last-slice w = (
      λ has.
          let at = Contains_at (take (m - (m - 1)) (drop (m - 1) us)) w has in
          let there = slice_get-take (drop (m - 1) us) (m - (m - 1)) at.0 w at.1 in
          let here : slice_get us (m - 1 + at.0) ≡ Some w = sym (slice_get-drop us (m - 1) at.0) ∙ there.1 in
          let end : suc (m - 1 + at.0) ≡ m = let lt = there.0 in omega (arith, lt) in (
            m - 1 + at.0,
            record {
              writer = writer-of (m - 1 + at.0) w here;
              write = last.write (m - 1 + at.0) w end here;
              run = λ j u from below is. last.since j u (omega (arith, from, end)) (of-writer j u is);
            },
          ),
      λ is.
          let number = number-is is.0 w is.1 in
          let place : m - 1 + 0 ≡ is.0 = omega (arith, number) in
          Contains-from_at (take (m - (m - 1)) (drop (m - 1) us)) 0 w
          (slice_get-take_at (drop (m - 1) us) (m - (m - 1)) 0 w (omega (arith, number))
          (slice_get-drop us (m - 1) 0 ∙ ap (slice_get us) place ∙ of-writer is.0 w is.1.writer)),
    )

    -- what reads since then has seen additions alone, and nobody else has
    since-write : (r : Reader) → (HasReader s x r × (m ≤ r.version))
        ↔ (HasReader s x r × AddsOnly s x r.version (version_at s.entries x))
    since-write r = (
      λ is. (is.0, λ j u from below at. last.since j u (let le = is.1 in omega (arith, le, from)) (of-writer j u at)),
      λ is. (
        is.0,
        elim (cases_lt r.version m) [
          | inr le ↦ le
          | inl lt ↦
              let most = last.within in
              let u = within_at us (m - 1) (omega (arith, most, lt)) in
              absurd (false≢true (sym (last.write (m - 1) u.0 (omega (arith, lt)) u.1)
              ∙ is.1 (m - 1) u.0 (omega (arith, lt)) (omega (arith, most, lt, many)) (writer-of (m - 1) u.0 u.1)))
        ],
      ),
    )

-- of readers by rising version, the last one has the greatest
pub greatest : (rs : List Reader) (q : Reader) → AllPairs (λ a b. a.version ≤ b.version) rs
    → slice_get rs (length rs - 1) ≡ Some q → (r : Reader) → Contains rs r → r.version ≤ q.version
greatest rs q rising end r has =
    let p = Contains_at rs r has in
    let inside = slice_get_within rs p.0 r p.1 in
    elim (cases_lt p.0 (length rs - 1)) [
      | inl lt ↦ AllPairs_at (λ (a b : Reader). a.version ≤ b.version) rs p.0 (length rs - 1) r q rising lt p.1 end
      | inr le ↦
          let here : p.0 ≡ length rs - 1 = omega (arith, inside, le) in
          let same : r.version ≡ q.version =
          ap (λ (d : Reader). d.version) (same_Some r q (sym p.1 ∙ ap (slice_get rs) here ∙ end)) in
          omega (arith, same)
    ]

-- the last one before a version, and the first one from it on
module _ (rs : List Reader) (n at : ℕ) (rising : AllPairs (λ a b. a.version ≤ b.version) rs) (within : at ≤ length rs)
    (point : IsPartitionPoint (λ r. ltb r.version n ≡ true) (λ r. ltb r.version n ≡ false) rs at) where
  older : (k : ℕ) (r : Reader) → k < at → slice_get rs k ≡ Some r → r.version < n
  older k r lt is =
      ltb-true r.version n (subst (λ (q : Reader). ltb q.version n ≡ true) (get_or_from_slice_get rs k r r is)
      (point.0 k r (omega arith) lt))

  newer : (k : ℕ) (r : Reader) → at ≤ k → slice_get rs k ≡ Some r → n ≤ r.version
  newer k r le is =
      ltb-false r.version n (subst (λ (q : Reader). ltb q.version n ≡ false) (get_or_from_slice_get rs k r r is)
      (point.1 k r le (slice_get_within rs k r is)))

  pub last-older : (q : Reader) → slice_get (take at rs) (length (take at rs) - 1) ≡ Some q
      → Contains rs q × (q.version < n) × ((r : Reader) → Contains rs r → suc q.version ≤ r.version → r.version < n → ⊥)
  last-older q is =
      (Contains-from_at rs (length (take at rs) - 1) q there.1, older (length (take at rs) - 1) q there.0 there.1, none)
    where
      there : (length (take at rs) - 1 < at) × (slice_get rs (length (take at rs) - 1) ≡ Some q)
      there = slice_get-take rs at (length (take at rs) - 1) q is

      none : (r : Reader) → Contains rs r → suc q.version ≤ r.version → r.version < n → ⊥
      none r has later below =
          let p = Contains_at rs r has in
          let long = length-take-le at rs within in
          elim (cases_lt p.0 at) [
            | inr le ↦ let new = newer p.0 r le p.1 in omega (arith, new, below)
            | inl lt ↦ elim (cases_order p.0 (length (take at rs) - 1)) [
              | inl same ↦ let e : r.version ≡ q.version =
                  ap (λ (d : Reader). d.version) (same_Some r q (sym p.1 ∙ ap (slice_get rs) same ∙ there.1)) in
                  omega (arith, e, later)
              | inr (inl less) ↦ let rise =
                  AllPairs_at (λ (a b : Reader). a.version ≤ b.version) rs p.0 (length (take at rs) - 1) r q rising
                  less p.1 there.1 in omega (arith, rise, later)
              | inr (inr more) ↦ omega (arith, more, long, lt)
            ]
          ]

  pub none-older : take at rs ≡ [] → (r : Reader) → Contains rs r → n ≤ r.version
  none-older none r has =
      let p = Contains_at rs r has in
      let long = length-take-le at rs within in
      let zero : length (take at rs) ≡ 0 = ap length none in
      newer p.0 r (omega (arith, long, zero)) p.1

  pub first-newer : (q : Reader) → slice_get (drop at rs) 0 ≡ Some q
      → Contains rs q × (n ≤ q.version) × ((r : Reader) → Contains rs r → n ≤ r.version → r.version < q.version → ⊥)
  first-newer q is = (Contains-from_at rs (at + 0) q there, newer (at + 0) q (omega arith) there, none)
    where
      there : slice_get rs (at + 0) ≡ Some q
      there = sym (slice_get-drop rs at 0) ∙ is

      none : (r : Reader) → Contains rs r → n ≤ r.version → r.version < q.version → ⊥
      none r has late below =
          let p = Contains_at rs r has in
          elim (cases_lt p.0 at) [
            | inl lt ↦ let old = older p.0 r lt p.1 in omega (arith, old, late)
            | inr le ↦ elim (cases_lt (at + 0) p.0) [
              | inl less ↦ let rise =
                  AllPairs_at (λ (a b : Reader). a.version ≤ b.version) rs (at + 0) p.0 q r rising less there p.1 in
                  omega (arith, rise, below)
              | inr more ↦
                  let here : p.0 ≡ at + 0 = omega (arith, le, more) in
                  let e : r.version ≡ q.version =
                  ap (λ (d : Reader). d.version) (same_Some r q (sym p.1 ∙ ap (slice_get rs) here ∙ there)) in
                  omega (arith, e, below)
            ]
          ]

module _ (s : SiteState) (x : Name) (site : IsSite s) (v : ℕ) (rs qs : List Reader) (all : (r : Reader)
    → Contains rs r ↔ HasReader s x r) where
  -- no committed reader has read a version that is still to come
  at-present : (r : Reader) → (HasReader s x r × (version_at s.entries x ≤ r.version)) ↔ ReadsBefore s x (Put v) r
  at-present r = (
    λ is. (is.0, let le = reader_below s x site r is.0 in let more = is.1 in omega (arith, le, more)),
    λ is. (is.0, let same = is.1 in omega (arith, same)),
  )

  -- so the readers of the present version are those of that version or a later one, and those since the last write
  -- likewise
  pub reads-present : ((r : Reader) → Contains qs r ↔ (Contains rs r × (version_at s.entries x ≤ r.version)))
      → (r : Reader) → Contains qs r ↔ ReadsBefore s x (Put v) r
  reads-present some r = (
    λ has. let is = (some r).0 has in (at-present r).0 ((all r).0 is.0, is.1),
    λ is. let of = (at-present r).1 is in (some r).1 ((all r).1 of.0, of.1),
  )

  -- the present version was read where the last reader read it
  pub present-read : AllPairs (λ a b. a.version ≤ b.version) rs → (q : Reader) → slice_get rs (length rs - 1) ≡ Some q
      → ((r : Reader) × HasReader s x r × (r.version ≡ version_at s.entries x)) → q.version ≡ version_at s.entries x
  present-read rising q end r =
      let up = greatest rs q rising end r.0 ((all r.0).1 r.1) in
      let most = reader_below s x site q ((all q).0 (Contains-from_at rs (length rs - 1) q end)) in
      let same = r.2 in
      omega (arith, up, most, same)

  -- the last readers are those of the last version that was read, where it was read since the last write
  module _ (rising : AllPairs (λ a b. a.version ≤ b.version) rs) (q : Reader)
      (end : slice_get rs (length rs - 1) ≡ Some q) (m : ℕ)
      (last : IsVersionWritten (writers_of s.installed s.entries x) m) where
    upto_end : (r : Reader) → HasReader s x r → r.version ≤ q.version
    upto_end r is = greatest rs q rising end r ((all r).1 is)

    is_since : (r : Reader) → IsLastReader s x r → m ≤ r.version
    is_since r is =
        ((since-write s x (writers_of s.installed s.entries x) refl m last (versions s site x) r).1 (
          is.reader,
          is.run,
        )).1

    pub none-last : q.version < m → (r : Reader) → IsLastReader s x r → ⊥
    none-last old r is = let since = is_since r is in let le = upto_end r is.reader in omega (arith, old, since, le)

    pub reads-last : m ≤ q.version → ((r : Reader) → Contains qs r ↔ (Contains rs r × (q.version ≤ r.version)))
        → (r : Reader) → Contains qs r ↔ IsLastReader s x r
    reads-last since some r = (
      λ has.
          let is = (some r).0 has in
          let le = is.1 in
          let reads = (all r).0 is.0 in
          record {
            reader = reads;
            run = ((since-write s x (writers_of s.installed s.entries x) refl m last (versions s site x) r).0 (
              reads,
              omega (arith, since, le),
            )).1;
            unread = λ p of later below. let up = upto_end p of in omega (arith, later, le, up);
          },
      λ is. (some r).1 (
        (all r).1 is.reader,
        elim (cases_lt r.version q.version) [
          | inr le ↦ le
          | inl lt ↦
              let reads = (all q).0 (Contains-from_at rs (length rs - 1) q end) in
              let most = reader_below s x site q reads in
              absurd (is.unread q reads (omega (arith, lt)) (omega (arith, most)))
        ],
      ),
    )

-- of readers by rising version: those behind the last one of an older version
module _ (rs : List Reader) (n at : ℕ) (rising : AllPairs (λ a b. a.version ≤ b.version) rs) (within : at < length rs)
    (old : (d : Reader) → (get_or rs at d).version < n) (new : (k : ℕ) (d : Reader) → at + 1 ≤ k → k < length rs
    → n ≤ (get_or rs k d).version) where
  too_old : (k : ℕ) (r : Reader) → slice_get rs k ≡ Some r → n ≤ r.version → k ≤ at → ⊥
  too_old k r is new_enough le =
      let last = within_at rs at within in
      let before = old r in
      elim (cases_order k at) [
        | inl same ↦
            let here : get_or rs at r ≡ r = get_or_from_slice_get rs at r r (ap (slice_get rs) (sym same) ∙ is) in
            let there : (get_or rs at r).version ≡ r.version = ap (λ (q : Reader). q.version) here in
            omega (arith, before, there, new_enough)
        | inr (inl less) ↦
            let rise = AllPairs_at (λ (a b : Reader). a.version ≤ b.version) rs k at r last.0 rising less is last.1 in
            let there : (get_or rs at r).version ≡ last.0.version =
            ap (λ (q : Reader). q.version) (get_or_from_slice_get rs at last.0 r last.1) in
            omega (arith, rise, before, there, new_enough)
        | inr (inr more) ↦ omega (arith, more, le)
      ]

  pub since-slice : (r : Reader) → Contains (drop (at + 1) rs) r ↔ (Contains rs r × (n ≤ r.version))
  since-slice r = (
    λ has.
        let p = Contains_at (drop (at + 1) rs) r has in
        let there : slice_get rs (at + 1 + p.0) ≡ Some r = sym (slice_get-drop rs (at + 1) p.0) ∙ p.1 in
        let lt = slice_get_within rs (at + 1 + p.0) r there in (
          Contains-from_at rs (at + 1 + p.0) r there,
          subst (λ (q : Reader). n ≤ q.version) (get_or_from_slice_get rs (at + 1 + p.0) r r there)
              (new (at + 1 + p.0) r (omega arith) lt),
        ),
    λ is.
        let p = Contains_at rs r is.0 in
        elim (cases_lt at p.0) [
          | inl lt ↦
              let place : at + 1 + (p.0 - (at + 1)) ≡ p.0 = omega (arith, lt) in
              Contains-from_at (drop (at + 1) rs) (p.0 - (at + 1)) r (slice_get-drop rs (at + 1) (p.0 - (at + 1))
              ∙ ap (slice_get rs) place ∙ p.1)
          | inr le ↦ absurd (too_old p.0 r p.1 is.1 le)
        ],
  )

-- nobody has written
pub none-written : (ws : List Writer) → ws ≡ [] → IsVersionWritten ws 0
none-written ws none = subst (λ (us : List Writer). IsVersionWritten us 0) (sym none) record {
  within = omega arith;
  write = λ k w is at. absurd (omega (arith, is));
  since = λ k w le at. absurd cc;
}
