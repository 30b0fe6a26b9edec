-- Each edge is added once.
use Rattle.std.proofs.Common.{◌≡◌, ◌≢◌, ℕ, ◌+◌, ◌<◌, ◌≤◌, ◌⊎◌, List, [], ◌∷◌, ◌++◌, length, take, drop, Some, refl, sym, ap, ◌∙◌, subst, arith, inl, inr, AllPairs, Contains, length-append}
use Rattle.std.specs.Prelude.{slice_get, ◌↔◌, Any}
use Rattle.std.specs.declared.cmp.Ordering.TheVariants.{Less}
use Rattle.std.proofs.lemmas.Bool.{cases_lt, cases_order}
use Rattle.std.proofs.lemmas.Option.{same_Some, slice_get_within}
use Rattle.std.proofs.lemmas.Cmp.{tied_itself}
use Rattle.sgt_names.specs.Name.{Name}
use Rattle.sgt_names.specs.Entry.{tx_of, Repeats}
use Rattle.sgt_names.specs.Draft.{Place, AreRising, place_of, place_cmp}
use Rattle.sgt_names.specs.declared.draft.Touch.{Touch}
use Rattle.sgt_names.specs.declared.entry.Change.TheVariants.{Put, Add}
use Rattle.sgt_names.specs.declared.entry.Kind.{Kind}
use Rattle.sgt_names.specs.declared.entry.Kind.TheVariants.{Wr, Rw, Ww}
use Rattle.sgt_names.proofs.Increments.{change-writes}
use Rattle.sgt_names.proofs.Lists.{Any_at, front_at, middle_at, within_at}
use Rattle.sgt_names.proofs.Places.{AllPairs_at, AllPairs-from_at, Contains-from_at, slice_get-take}
use Rattle.sgt_names.proofs.Touched.{place_total}
use Rattle.sgt_arena.specs.declared.handle.Handle.{Handle}
use Rattle.sgt_site.specs.State.{SiteState, IsSite, IsReader, version_at, writers_of}
use Rattle.sgt_site.specs.declared.cell.Reader.{Reader}
use Rattle.sgt_site.specs.declared.cell.Writer.{Writer}
use Rattle.sgt_site.proofs.Projections.{writer_at}
use Rattle.sgt_site.proofs.Tails.{AllPairs-end}
use Rattle.sgt_edges.specs.Edges.{HaveOwnHandles, AreApart}
use Rattle.sgt_edges.specs.Neighbours.{IsInFront, IsBehind, IsNeighbour, in_front, behind, put_last, add_last, put_read, add_read}
use Rattle.sgt_edges.specs.private.Gathered.{IsNear, IsBetween, AddsAll, AddsOnce, WritersApart, ReadersApart, FromWriter, ToWriter, FromReader, ChangesBefore, ReadsBefore, IsOfRead, IsOfChange}
use Rattle.sgt_edges.specs.declared.edge.Edge.{Edge}
use Rattle.sgt_edges.proofs.Gathers.{one-more, all-taken, saw-one, changes-one}

-- the beginning of a list keeps what holds of each and each later one
pairs-front : {A : Type 0} (R : A → A → Type 0) (xs : List A) (n : ℕ) → AllPairs R xs → AllPairs R (take n xs)
pairs-front R xs n pairs =
    AllPairs-from_at R (take n xs) (λ p q a b lt at_a at_b. AllPairs_at R xs p q a b pairs lt
    (slice_get-take xs n p a at_a).1 (slice_get-take xs n q b at_b).1)

pub writers-take : (ws : List Writer) (n : ℕ) → WritersApart ws → WritersApart (take n ws)
writers-take ws n apart = pairs-front (λ (a b : Writer). a.handle ≢ b.handle) ws n apart

pub writers-drop : (ws : List Writer) (n : ℕ) → WritersApart ws → WritersApart (drop n ws)
writers-drop ws n apart = AllPairs-end (λ (a b : Writer). a.handle ≢ b.handle) ws n apart

pub readers-drop : (rs : List Reader) (n : ℕ) → ReadersApart rs → ReadersApart (drop n rs)
readers-drop rs n apart = AllPairs-end (λ (a b : Reader). a.handle ≢ b.handle) rs n apart

-- no two in an empty list, and none that differ from one more
apart-none : {A : Type 0} (R : A → A → Type 0) (xs : List A) → xs ≡ [] → AllPairs R xs
apart-none R xs none = AllPairs-from_at R xs (λ p q a b lt at_a at_b. let inside = slice_get_within xs p a at_a in
    let long = ap length none in absurd (omega (arith, inside, long)))

pub no-writers : WritersApart []
no-writers = apart-none (λ (a b : Writer). a.handle ≢ b.handle) [] refl

pub no-readers : ReadersApart []
no-readers = apart-none (λ (a b : Reader). a.handle ≢ b.handle) [] refl

pub no-versions : AllPairs (λ (a b : Reader). a.version ≤ b.version) []
no-versions = apart-none (λ (a b : Reader). a.version ≤ b.version) [] refl

pub no-edges : (es : List Edge) → es ≡ [] → AreApart es
no-edges es none = apart-none (λ e f. e ≢ f) es none

from_end : (es : List Edge) (e : Edge) (n : ℕ) (f : Edge) → slice_get (es ++ e ∷ []) n ≡ Some f
    → (slice_get es n ≡ Some f) ⊎ ((n ≡ length es) × (f ≡ e))
from_end es e n f at = elim (cases_lt n (length es)) [
  | inl lt ↦ let u = within_at es n lt in inl (u.1 ∙ sym (front_at es (e ∷ []) n u.0 u.1) ∙ at)
  | inr le ↦
      let inside = slice_get_within (es ++ e ∷ []) n f at in
      let long = length-append es (e ∷ []) in
      let last : n ≡ length es = omega (arith, le, inside, long) in
      inr (last, same_Some f e (sym at ∙ ap (slice_get (es ++ e ∷ [])) last ∙ middle_at es e []))
]

pub apart-more : (es : List Edge) (e : Edge) → AreApart es → (Contains es e → ⊥) → AreApart (es ++ e ∷ [])
apart-more es e apart new = AllPairs-from_at (λ e f. e ≢ f) (es ++ e ∷ []) by_places
  where
    by_places : (p q : ℕ) (a b : Edge) → p < q → slice_get (es ++ e ∷ []) p ≡ Some a
        → slice_get (es ++ e ∷ []) q ≡ Some b → a ≢ b
    by_places p q a b lt at_a at_b = by_side (from_end es e p a at_a) (from_end es e q b at_b)
      where
        by_side : (slice_get es p ≡ Some a) ⊎ ((p ≡ length es) × (a ≡ e))
            → (slice_get es q ≡ Some b) ⊎ ((q ≡ length es) × (b ≡ e)) → a ≢ b
        by_side (inl a_in) (inl b_in) = AllPairs_at (λ e f. e ≢ f) es p q a b apart lt a_in b_in
        by_side (inl a_in) (inr b_last) = λ same. new (Contains-from_at es p e (a_in ∙ ap Some (same ∙ b_last.1)))
        by_side (inr a_last) (inl b_in) = let inside = slice_get_within es q b b_in in let place = a_last.0 in
            absurd (omega (arith, inside, place, lt))
        by_side (inr a_last) (inr b_last) = let one = a_last.0 in let two = b_last.0 in
            absurd (omega (arith, one, two, lt))

-- edges of two sorts are each added once, where none is of both
pub once-both : (P Q R : Edge → Type 0) (old mid new : List Edge) → ((e : Edge) → R e ↔ (P e ⊎ Q e))
    → ((e : Edge) → P e → Q e → ⊥) → AddsAll P old mid → AddsOnce P old mid → AddsOnce Q mid new → AddsOnce R old new
once-both P Q R old mid new are differ all first second apart none =
    second (first apart (λ e has p. none e has ((are e).1 (inl p)))) (λ e has q. by_side e q ((all e).0 has))
  where
    by_side : (e : Edge) → Q e → Contains old e ⊎ P e → ⊥
    by_side e q (inl has) = none e has ((are e).1 (inr q))
    by_side e q (inr p) = differ e p q

-- the edges of the first elements, of one more, and of all
module _ {A : Type 0} (Q : A → Edge → Type 0) (xs : List A) where
  pub once-next : (i : ℕ) (a : A) (old mid new : List Edge) → slice_get xs i ≡ Some a
      → AllPairs (λ a b. (e : Edge) → Q a e → Q b e → ⊥) xs → AddsAll (λ e. Any (λ b. Q b e) (take i xs)) old mid
      → AddsOnce (λ e. Any (λ b. Q b e) (take i xs)) old mid → AddsOnce (Q a) mid new
      → AddsOnce (λ e. Any (λ b. Q b e) (take (i + 1) xs)) old new
  once-next i a old mid new at pairs all first second =
      once-both (λ e. Any (λ b. Q b e) (take i xs)) (Q a) (λ e. Any (λ b. Q b e) (take (i + 1) xs)) old mid new
      (λ e. one-more Q xs i a e at) differ all first second
    where
      differ : (e : Edge) → Any (λ b. Q b e) (take i xs) → Q a e → ⊥
      differ e any q =
          let b = Any_at (λ b. Q b e) (take i xs) any in
          let there = slice_get-take xs i b.0 b.1 b.2 in
          AllPairs_at (λ a b. (e : Edge) → Q a e → Q b e → ⊥) xs b.0 i b.1 a pairs there.0 there.1 at e b.3 q

  pub once-all : (i : ℕ) (old new : List Edge) → length xs ≤ i → AddsOnce (λ e. Any (λ b. Q b e) (take i xs)) old new
      → AddsOnce (λ e. Any (λ b. Q b e) xs) old new
  once-all i old new end so_far apart none = so_far apart (λ e has any. none e has ((all-taken Q xs i e end).0 any))

-- the ends of an edge that is between two handles
from-is : (t : Touch) (kind : Kind) (f h : Handle) (e : Edge) → IsBetween t kind f h e → e.from ≡ f
from-is t kind f h e is = ap (λ (d : Edge). d.from) is.1

to-is : (t : Touch) (kind : Kind) (f h : Handle) (e : Edge) → IsBetween t kind f h e → e.to ≡ h
to-is t kind f h e is = ap (λ (d : Edge). d.to) is.1

kind-is : (t : Touch) (kind : Kind) (f h : Handle) (e : Edge) → IsBetween t kind f h e → e.label.kind ≡ kind
kind-is t kind f h e is = ap (λ (d : Edge). d.label.kind) is.1

-- edges of two elements with different handles differ
module _ (t : Touch) (me : Handle) where
  pub from-writers-differ : (kind : Kind) (ws : List Writer) → WritersApart ws
      → AllPairs (λ a b. (e : Edge) → FromWriter t kind me a e → FromWriter t kind me b e → ⊥) ws
  from-writers-differ kind ws apart = AllPairs-from_at (λ a b. (e : Edge) → FromWriter t kind me a e
      → FromWriter t kind me b e → ⊥) ws (λ p q a b lt at_a at_b e of_a of_b.
      AllPairs_at (λ (a b : Writer). a.handle ≢ b.handle) ws p q a b apart lt at_a at_b
      (sym (from-is t kind a.handle me e of_a) ∙ from-is t kind b.handle me e of_b))

  pub to-writers-differ : (ws : List Writer) → WritersApart ws
      → AllPairs (λ a b. (e : Edge) → ToWriter t me a e → ToWriter t me b e → ⊥) ws
  to-writers-differ ws apart = AllPairs-from_at (λ a b. (e : Edge) → ToWriter t me a e → ToWriter t me b e
      → ⊥) ws (λ p q a b lt at_a at_b e of_a of_b.
      AllPairs_at (λ (a b : Writer). a.handle ≢ b.handle) ws p q a b apart lt at_a at_b
      (sym (to-is t Rw me a.handle e of_a) ∙ to-is t Rw me b.handle e of_b))

  pub from-readers-differ : (rs : List Reader) → ReadersApart rs
      → AllPairs (λ a b. (e : Edge) → FromReader t me a e → FromReader t me b e → ⊥) rs
  from-readers-differ rs apart = AllPairs-from_at (λ a b. (e : Edge) → FromReader t me a e → FromReader t me b e
      → ⊥) rs (λ p q a b lt at_a at_b e of_a of_b.
      AllPairs_at (λ (a b : Reader). a.handle ≢ b.handle) rs p q a b apart lt at_a at_b
      (sym (from-is t Rw a.handle me e of_a) ∙ from-is t Rw b.handle me e of_b))

  -- edges of two kinds differ, and one to me and one from me
  pub wr-rw-differ : (us vs : List Writer) (e : Edge) → Any (λ w. FromWriter t Wr me w e) us
      → Any (λ w. ToWriter t me w e) vs → ⊥
  wr-rw-differ us vs e first second =
      let u = Any_at (λ w. FromWriter t Wr me w e) us first in
      let v = Any_at (λ w. ToWriter t me w e) vs second in
      let same : ◌≡◌ {A = Kind} Wr Rw = sym (kind-is t Wr u.1.handle me e u.3) ∙ kind-is t Rw me v.1.handle e v.3 in
      absurd cc

  pub ww-rw-differ : (us : List Writer) (rs : List Reader) (e : Edge) → Any (λ w. FromWriter t Ww me w e) us
      → Any (λ r. FromReader t me r e) rs → ⊥
  ww-rw-differ us rs e first second =
      let u = Any_at (λ w. FromWriter t Ww me w e) us first in
      let r = Any_at (λ r. FromReader t me r e) rs second in
      let same : ◌≡◌ {A = Kind} Ww Rw = sym (kind-is t Ww u.1.handle me e u.3) ∙ kind-is t Rw r.1.handle me e r.3 in
      absurd cc

  pub read-change-differ : (s : SiteState) (e : Edge) → IsOfRead s t me e → IsOfChange s t me e → ⊥
  read-change-differ s e read change = by_side read.which change.which
    where
      by_side : ((w : Writer) × ((k : ℕ) × IsInFront s t.item read.seen.version k w) × FromWriter t Wr me w e)
          ⊎ ((w : Writer) × ((k : ℕ) × IsBehind s t.item read.seen.version k w) × ToWriter t me w e)
          → ((w : Writer) × ChangesBefore s t.item change.change w × FromWriter t Ww me w e)
          ⊎ ((r : Reader) × ReadsBefore s t.item change.change r × FromReader t me r e) → ⊥
      by_side (inl w) (inl u) = let same : ◌≡◌ {A = Kind} Wr Ww = sym (kind-is t Wr w.0.handle me e w.2)
          ∙ kind-is t Ww u.0.handle me e u.2 in absurd cc
      by_side (inl w) (inr r) = let same : ◌≡◌ {A = Kind} Wr Rw = sym (kind-is t Wr w.0.handle me e w.2)
          ∙ kind-is t Rw r.0.handle me e r.2 in absurd cc
      by_side (inr w) (inl u) = let same : ◌≡◌ {A = Kind} Rw Ww = sym (kind-is t Rw me w.0.handle e w.2)
          ∙ kind-is t Ww u.0.handle me e u.2 in absurd cc
      by_side (inr w) (inr r) = w.2.0 (sym (from-is t Rw me w.0.handle e w.2) ∙ from-is t Rw r.0.handle me e r.2
          ∙ by_to r)
        where
          by_to : (r : (r : Reader) × ReadsBefore s t.item change.change r × FromReader t me r e)
              → r.0.handle ≡ w.0.handle
          by_to r = sym (from-is t Rw r.0.handle me e r.2) ∙ from-is t Rw me w.0.handle e w.2
              ∙ sym (to-is t Rw r.0.handle me e r.2) ∙ to-is t Rw me w.0.handle e w.2

-- edges of two touched items differ
near-item : (s : SiteState) (t : Touch) (me : Handle) (x : Name) (f h : Handle) (k : Kind)
    → IsNeighbour s (t ∷ []) me x f h k → (t.site ≡ s.number) × (t.item ≡ x)
near-item s t me x f h k (in_front n m w saw near) = let one = saw-one s t x n saw in (one.0, one.1)
near-item s t me x f h k (behind n m w saw near) = let one = saw-one s t x n saw in (one.0, one.1)
near-item s t me x f h k (put_last v m w asks near which) = let one = changes-one s t x (Put v) asks in (one.0, one.1)
near-item s t me x f h k (add_last v m w asks near) = let one = changes-one s t x (Add v) asks in (one.0, one.1)
near-item s t me x f h k (put_read v r asks is near) = let one = changes-one s t x (Put v) asks in (one.0, one.1)
near-item s t me x f h k (add_read v r asks near) = let one = changes-one s t x (Add v) asks in (one.0, one.1)

pub touches-differ : (s : SiteState) (me : Handle) (ts : List Touch) → AreRising ts
    → AllPairs (λ t u. (e : Edge) → IsNear s (t ∷ []) me e → IsNear s (u ∷ []) me e → ⊥) ts
touches-differ s me ts rising = AllPairs-from_at (λ t u. (e : Edge) → IsNear s (t ∷ []) me e → IsNear s (u ∷ []) me e
    → ⊥) ts by_places
  where
    place-apart : (p q : Place) → place_cmp p q ≡ Less → p ≡ q → ⊥
    place-apart p q less same =
        absurd (let e : place_cmp p p ≡ Less = subst (λ r. place_cmp p r ≡ Less) (sym same) less in let t =
        tied_itself place_total p in cc)

    by_places : (p q : ℕ) (t u : Touch) → p < q → slice_get ts p ≡ Some t → slice_get ts q ≡ Some u → (e : Edge)
        → IsNear s (t ∷ []) me e → IsNear s (u ∷ []) me e → ⊥
    by_places p q t u lt at_t at_u e of_t of_u =
        let a = near-item s t me e.label.item e.from e.to e.label.kind of_t.2 in
        let b = near-item s u me e.label.item e.from e.to e.label.kind of_u.2 in
        let site : t.site ≡ u.site = a.0 ∙ sym b.0 in
        let item : t.item ≡ u.item = a.1 ∙ sym b.1 in
        place-apart (place_of t) (place_of u)
        (AllPairs_at (λ t u. place_cmp (place_of t) (place_of u) ≡ Less) ts p q t u rising lt at_t at_u)
        (λ i. (site i, item i))

-- of an item no two writers, and no two readers, have the same handle where each handle is of one transaction
module _ (s : SiteState) (own : HaveOwnHandles s) where
  pub writers-apart : IsSite s → (x : Name) → WritersApart (writers_of s.installed s.entries x)
  writers-apart site x = AllPairs-from_at (λ a b. a.handle ≢ b.handle) (writers_of s.installed s.entries x) by_places
    where
      by_places : (p q : ℕ) (a b : Writer) → p < q → slice_get (writers_of s.installed s.entries x) p ≡ Some a
          → slice_get (writers_of s.installed s.entries x) q ≡ Some b → a.handle ≡ b.handle → ⊥
      by_places p q a b lt at_a at_b same =
          let one = writer_at s site x p a at_a in
          let two = writer_at s site x q b at_b in
          let tx : a.tx ≡ b.tx = own a.tx b.tx b.handle (one.is.given ∙ ap Some same) two.is.given in
          let first = change-writes x one.entry one.is.change one.is.changes in
          let second = change-writes x two.entry two.is.change two.is.changes in
          let by : tx_of one.entry ≡ tx_of two.entry = one.is.tx ∙ tx ∙ sym two.is.tx in
          elim (cases_order one.place two.place) [
            | inl at ↦ let same_number : p ≡ q = sym one.number ∙ ap (λ n. version_at (take n s.entries) x) at
                ∙ two.number in absurd (omega (arith, lt, same_number))
            | inr (inl less) ↦ AllPairs_at (λ e f. (y : Name) → Repeats y e f
                → ⊥) s.entries one.place two.place one.entry two.entry site.orderly.once less one.at two.at x (
                  by,
                  inr (first, second),
                )
            | inr (inr more) ↦ AllPairs_at (λ e f. (y : Name) → Repeats y e f
                → ⊥) s.entries two.place one.place two.entry one.entry site.orderly.once more two.at one.at x (
                  sym by,
                  inr (second, first),
                )
          ]

  pub readers-apart : (x : Name) (rs : List Reader)
      → ((r : Reader) → Contains rs r ↔ IsReader s.installed s.entries x r) → AllPairs (λ a b. a.tx ≢ b.tx) rs
      → ReadersApart rs
  readers-apart x rs are once = AllPairs-from_at (λ a b. a.handle ≢ b.handle) rs (λ p q a b lt at_a at_b same.
      let one = (are a).0 (Contains-from_at rs p a at_a) in
      let two = (are b).0 (Contains-from_at rs q b at_b) in
      AllPairs_at (λ (a b : Reader). a.tx ≢ b.tx) rs p q a b once lt at_a at_b (own a.tx b.tx b.handle (one.0
      ∙ ap Some same) two.0))
