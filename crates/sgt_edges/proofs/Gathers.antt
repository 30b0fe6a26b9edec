-- The edges of each touched item together are those of the draft.
use Rattle.std.proofs.Common.{◌≡◌, ◌≢◌, ℕ, ◌+◌, ◌<◌, ◌≤◌, ◌⊎◌, List, [], ◌∷◌, length, take, Some, refl, sym, ap, ◌∙◌, subst, arith, inl, inr, All, Contains}
use Rattle.std.specs.Prelude.{slice_get, ◌↔◌, Any}
use Rattle.std.proofs.lemmas.Bool.{cases_lt}
use Rattle.std.proofs.lemmas.Option.{same_Some, slice_get_within}
use Rattle.sgt_names.specs.Name.{Name}
use Rattle.sgt_names.specs.Draft.{at_site, kept_in}
use Rattle.sgt_names.specs.declared.draft.Seen.{Seen}
use Rattle.sgt_names.specs.declared.draft.Touch.{Touch}
use Rattle.sgt_names.specs.declared.entry.Change.{Change}
use Rattle.sgt_names.specs.declared.entry.Change.TheVariants.{Put, Add}
use Rattle.sgt_names.specs.declared.entry.Kind.{Kind}
use Rattle.sgt_names.specs.declared.entry.Kind.TheVariants.{Wr, Rw, Ww}
use Rattle.sgt_names.proofs.Lists.{Any_at, Any-from_at}
use Rattle.sgt_names.proofs.Places.{Contains_at, Contains-from_at, slice_get-take, slice_get-take_at, All-from_at}
use Rattle.sgt_arena.specs.declared.handle.Handle.{Handle}
use Rattle.sgt_site.specs.State.{SiteState, IsSite, version_at}
use Rattle.sgt_site.specs.declared.cell.Reader.{Reader}
use Rattle.sgt_site.specs.declared.cell.Writer.{Writer}
use Rattle.sgt_site.proofs.Basics.{is_single}
use Rattle.sgt_site.proofs.Pledges.{kept-from, kept-to, change-from, change-to}
use Rattle.sgt_edges.specs.Edges.{SawAt, IsToChange, IsGiven, StandsForAll, SeesTooNew}
use Rattle.sgt_edges.specs.Neighbours.{IsInFront, IsBehind, IsNeighbour, in_front, behind, put_last, add_last, put_read, add_read}
use Rattle.sgt_edges.specs.private.Gathered.{IsTooNew, IsNear, IsBetween, AddsAll, FromWriter, ToWriter, FromReader, ChangesBefore, ReadsBefore, IsOfRead, IsOfChange}
use Rattle.sgt_edges.proofs.Neighbours.{neighbours-carry, neighbour-edge}
use Rattle.sgt_edges.specs.declared.edge.Edge.{Edge}

-- a list of one has it
itself : {A : Type 0} (a : A) → Contains (a ∷ []) a
itself a = Contains-from_at (a ∷ []) 0 a refl

-- nothing is added, or edges of two sorts are
pub adds-nothing : (P : Edge → Type 0) (es : List Edge) → ((e : Edge) → P e → ⊥) → AddsAll P es es
adds-nothing P es none e = (λ has. inl has, λ which. by_side which)
  where
    by_side : Contains es e ⊎ P e → Contains es e
    by_side (inl has) = has
    by_side (inr p) = absurd (none e p)

pub adds-both : (P Q R : Edge → Type 0) (old mid new : List Edge) → ((e : Edge) → R e ↔ (P e ⊎ Q e))
    → AddsAll P old mid → AddsAll Q mid new → AddsAll R old new
adds-both P Q R old mid new are first second e = (λ has. there ((second e).0 has), λ which. back which)
  where
    there_first : Contains old e ⊎ P e → Contains old e ⊎ R e
    there_first (inl has) = inl has
    there_first (inr p) = inr ((are e).1 (inl p))

    there : Contains mid e ⊎ Q e → Contains old e ⊎ R e
    there (inl has) = there_first ((first e).0 has)
    there (inr q) = inr ((are e).1 (inr q))

    back_side : P e ⊎ Q e → Contains new e
    back_side (inl p) = (second e).1 (inl ((first e).1 (inr p)))
    back_side (inr q) = (second e).1 (inr q)

    back : Contains old e ⊎ R e → Contains new e
    back (inl has) = (second e).1 (inl ((first e).1 (inl has)))
    back (inr r) = back_side ((are e).0 r)

-- the same edges, said otherwise
pub adds-same : (P R : Edge → Type 0) (old new : List Edge) → ((e : Edge) → P e ↔ R e) → AddsAll P old new
    → AddsAll R old new
adds-same P R old new same added e = (λ has. there ((added e).0 has), λ which. (added e).1 (back which))
  where
    there : Contains old e ⊎ P e → Contains old e ⊎ R e
    there (inl has) = inl has
    there (inr p) = inr ((same e).0 p)

    back : Contains old e ⊎ R e → Contains old e ⊎ P e
    back (inl has) = inl has
    back (inr r) = inr ((same e).1 r)

-- the edges of the first elements, of one more, and of all
module _ {A : Type 0} (Q : A → Edge → Type 0) (xs : List A) where
  pub each-none : (es : List Edge) → AddsAll (λ e. Any (λ a. Q a e) (take 0 xs)) es es
  each-none es = adds-nothing (λ e. Any (λ a. Q a e) (take 0 xs)) es (λ e any. absurd (omega (arith, any.2)))

  pub one-more : (i : ℕ) (a : A) (e : Edge) → slice_get xs i ≡ Some a → Any (λ b. Q b e) (take (i + 1) xs)
      ↔ (Any (λ b. Q b e) (take i xs) ⊎ Q a e)
  one-more i a e at = (apart, joined)
    where
      apart : Any (λ b. Q b e) (take (i + 1) xs) → Any (λ b. Q b e) (take i xs) ⊎ Q a e
      apart any =
          let b = Any_at (λ b. Q b e) (take (i + 1) xs) any in
          let there = slice_get-take xs (i + 1) b.0 b.1 b.2 in
          elim (cases_lt b.0 i) [
            | inl lt ↦ inl (Any-from_at (λ b. Q b e) (take i xs) b.0 b.1 (slice_get-take_at xs i b.0 b.1 lt there.1)
                b.3)
            | inr le ↦
                let here : b.0 ≡ i = let lt = there.0 in omega (arith, lt, le) in
                inr (subst (λ c. Q c e) (same_Some b.1 a (sym there.1 ∙ ap (slice_get xs) here ∙ at)) b.3)
          ]

      joined : Any (λ b. Q b e) (take i xs) ⊎ Q a e → Any (λ b. Q b e) (take (i + 1) xs)
      joined (inl any) =
          let b = Any_at (λ b. Q b e) (take i xs) any in
          let there = slice_get-take xs i b.0 b.1 b.2 in
          Any-from_at (λ b. Q b e) (take (i + 1) xs) b.0 b.1 (slice_get-take_at xs (i + 1) b.0 b.1 (let lt =
          there.0 in omega (arith, lt)) there.1) b.3
      joined (inr q) =
          Any-from_at (λ b. Q b e) (take (i + 1) xs) i a (slice_get-take_at xs (i + 1) i a (omega arith) at) q

  pub each-next : (i : ℕ) (a : A) (old mid new : List Edge) → slice_get xs i ≡ Some a
      → AddsAll (λ e. Any (λ b. Q b e) (take i xs)) old mid → AddsAll (Q a) mid new
      → AddsAll (λ e. Any (λ b. Q b e) (take (i + 1) xs)) old new
  each-next i a old mid new at so_far added =
      adds-both (λ e. Any (λ b. Q b e) (take i xs)) (Q a) (λ e. Any (λ b. Q b e) (take (i + 1) xs)) old mid new
      (λ e. one-more i a e at) so_far added

  pub all-taken : (i : ℕ) (e : Edge) → length xs ≤ i → Any (λ b. Q b e) (take i xs) ↔ Any (λ b. Q b e) xs
  all-taken i e end = (
    λ any. let b = Any_at (λ b. Q b e) (take i xs) any in
        Any-from_at (λ b. Q b e) xs b.0 b.1 (slice_get-take xs i b.0 b.1 b.2).1 b.3,
    λ any. let b = Any_at (λ b. Q b e) xs any in let lt = slice_get_within xs b.0 b.1 b.2 in
        Any-from_at (λ b. Q b e) (take i xs) b.0 b.1 (slice_get-take_at xs i b.0 b.1 (omega (arith, lt, end)) b.2) b.3,
  )

  pub each-all : (i : ℕ) (old new : List Edge) → length xs ≤ i → AddsAll (λ e. Any (λ b. Q b e) (take i xs)) old new
      → AddsAll (λ e. Any (λ b. Q b e) xs) old new
  each-all i old new end so_far e = (λ has. there ((so_far e).0 has), λ which. (so_far e).1 (back which))
    where
      there : Contains old e ⊎ Any (λ b. Q b e) (take i xs) → Contains old e ⊎ Any (λ b. Q b e) xs
      there (inl has) = inl has
      there (inr any) = inr ((all-taken i e end).0 any)

      back : Contains old e ⊎ Any (λ b. Q b e) xs → Contains old e ⊎ Any (λ b. Q b e) (take i xs)
      back (inl has) = inl has
      back (inr any) = inr ((all-taken i e end).1 any)

module _ (s : SiteState) where
  -- what one touched item keeps, and is to be changed by
  pub saw-one : (t : Touch) (x : Name) (n : ℕ) → SawAt s (t ∷ []) x n → (t.site ≡ s.number) × (t.item ≡ x)
      × ((v : ℕ) × (t.seen ≡ Some (record { value = v; version = n })))
  saw-one t x n saw =
      let k = kept-from s.number (t ∷ []) x saw.0 n saw.1 in
      let same = is_single t k.0 k.1 in (
        ap (λ (u : Touch). u.site) (sym same) ∙ k.2,
        ap (λ (u : Touch). u.item) (sym same)
            ∙ k.3,
        (saw.0, ap (λ (u : Touch). u.seen) (sym same) ∙ k.4),
      )

  one-saw : (t : Touch) (seen : Seen) → t.site ≡ s.number → t.seen ≡ Some seen → SawAt s (t ∷ []) t.item seen.version
  one-saw t seen here some = (seen.value, kept-to s.number (t ∷ []) t seen (itself t) here some)

  pub changes-one : (t : Touch) (x : Name) (c : Change) → IsToChange s (t ∷ []) x c
      → (t.site ≡ s.number) × (t.item ≡ x) × (t.change ≡ Some c)
  changes-one t x c asks =
      let k = change-from s.number (t ∷ []) x c asks in
      let same = is_single t k.0 k.1 in (
        ap (λ (u : Touch). u.site) (sym same) ∙ k.2,
        ap (λ (u : Touch). u.item) (sym same)
            ∙ k.3,
        ap (λ (u : Touch). u.change) (sym same) ∙ k.4,
      )

  one-changes : (t : Touch) (c : Change) → t.site ≡ s.number → t.change ≡ Some c → IsToChange s (t ∷ []) t.item c
  one-changes t c here some = change-to s.number (t ∷ []) t c (itself t) here some

  -- the draft keeps what one of its items keeps, and the other way round
  saw-whole : (ts : List Touch) (t : Touch) (x : Name) (n : ℕ) → Contains ts t → SawAt s (t ∷ []) x n → SawAt s ts x n
  saw-whole ts t x n has saw =
      let k = saw-one t x n saw in (
        k.2.0,
        subst (λ y. Contains (kept_in (at_site s.number ts)) (y, k.2.0, n)) k.1
            (kept-to s.number ts t (record { value = k.2.0; version = n }) has k.0 k.2.1),
      )

  saw-part : (ts : List Touch) (x : Name) (n : ℕ) → SawAt s ts x n → (t : Touch) × Contains ts t × SawAt s (t ∷ []) x n
  saw-part ts x n saw =
      let k = kept-from s.number ts x saw.0 n saw.1 in
      (k.0, k.1, subst (λ y. SawAt s (k.0 ∷ []) y n) k.3 (one-saw k.0 (record { value = saw.0; version = n }) k.2 k.4))

  changes-whole : (ts : List Touch) (t : Touch) (x : Name) (c : Change) → Contains ts t → IsToChange s (t ∷ []) x c
      → IsToChange s ts x c
  changes-whole ts t x c has asks =
      let k = changes-one t x c asks in
      subst (λ y. IsToChange s ts y c) k.1 (change-to s.number ts t c has k.0 k.2)

  changes-part : (ts : List Touch) (x : Name) (c : Change) → IsToChange s ts x c
      → (t : Touch) × Contains ts t × IsToChange s (t ∷ []) x c
  changes-part ts x c asks =
      let k = change-from s.number ts x c asks in
      (k.0, k.1, subst (λ y. IsToChange s (k.0 ∷ []) y c) k.3 (one-changes k.0 c k.2 k.4))

module _ (s : SiteState) (me : Handle) where
  -- so the neighbours of an item's operations are those of the draft's, and the other way round
  neighbour-whole : (ts : List Touch) (t : Touch) (x : Name) (f h : Handle) (k : Kind) → Contains ts t
      → IsNeighbour s (t ∷ []) me x f h k → IsNeighbour s ts me x f h k
  neighbour-whole ts t x f h k has (in_front n m w saw near) = in_front n m w (saw-whole s ts t x n has saw) near
  neighbour-whole ts t x f h k has (behind n m w saw near) = behind n m w (saw-whole s ts t x n has saw) near
  neighbour-whole ts t x f h k has (put_last v m w asks near which) =
      put_last v m w (changes-whole s ts t x (Put v) has asks) near which
  neighbour-whole ts t x f h k has (add_last v m w asks near) =
      add_last v m w (changes-whole s ts t x (Add v) has asks) near
  neighbour-whole ts t x f h k has (put_read v r asks is near) =
      put_read v r (changes-whole s ts t x (Put v) has asks) is near
  neighbour-whole ts t x f h k has (add_read v r asks near) =
      add_read v r (changes-whole s ts t x (Add v) has asks) near

  neighbour-part : (ts : List Touch) (x : Name) (f h : Handle) (k : Kind) → IsNeighbour s ts me x f h k
      → (t : Touch) × Contains ts t × IsNeighbour s (t ∷ []) me x f h k
  neighbour-part ts x f h k (in_front n m w saw near) = let t = saw-part s ts x n saw in
      (t.0, t.1, in_front n m w t.2 near)
  neighbour-part ts x f h k (behind n m w saw near) = let t = saw-part s ts x n saw in (t.0, t.1, behind n m w t.2 near)
  neighbour-part ts x f h k (put_last v m w asks near which) = let t = changes-part s ts x (Put v) asks in
      (t.0, t.1, put_last v m w t.2 near which)
  neighbour-part ts x f h k (add_last v m w asks near) = let t = changes-part s ts x (Add v) asks in
      (t.0, t.1, add_last v m w t.2 near)
  neighbour-part ts x f h k (put_read v r asks is near) = let t = changes-part s ts x (Put v) asks in
      (t.0, t.1, put_read v r t.2 is near)
  neighbour-part ts x f h k (add_read v r asks near) = let t = changes-part s ts x (Add v) asks in
      (t.0, t.1, add_read v r t.2 near)

  pub near-parts : (ts : List Touch) (e : Edge) → Any (λ t. IsNear s (t ∷ []) me e) ts ↔ IsNear s ts me e
  near-parts ts e = (
    λ any.
        let t = Any_at (λ t. IsNear s (t ∷ []) me e) ts any in (
          t.3.0,
          t.3.1,
          neighbour-whole ts t.1 e.label.item e.from e.to e.label.kind (Contains-from_at ts t.0 t.1 t.2)
              t.3.2,
        ),
    λ is.
        let t = neighbour-part ts e.label.item e.from e.to e.label.kind is.2 in
        let at = Contains_at ts t.0 t.1 in
        Any-from_at (λ t. IsNear s (t ∷ []) me e) ts at.0 t.0 at.1 (is.0, is.1, t.2),
  )

module _ (s : SiteState) (t : Touch) (me : Handle) (here : t.site ≡ s.number) where
  -- an edge that is between two handles is near where they are neighbours
  between-near : (kind : Kind) (f h : Handle) (e : Edge) → IsBetween t kind f h e
      → IsNeighbour s (t ∷ []) me t.item f h kind → IsNear s (t ∷ []) me e
  between-near kind f h e is near = subst (IsNear s (t ∷ []) me) (sym is.1) (here, is.0, near)

  read-near : (e : Edge) → IsOfRead s t me e → IsNear s (t ∷ []) me e
  read-near e is = by_side is.which
    where
      by_side : ((w : Writer) × ((k : ℕ) × IsInFront s t.item is.seen.version k w) × FromWriter t Wr me w e)
          ⊎ ((w : Writer) × ((k : ℕ) × IsBehind s t.item is.seen.version k w) × ToWriter t me w e)
          → IsNear s (t ∷ []) me e
      by_side (inl w) =
          between-near Wr w.0.handle me e w.2
          (in_front is.seen.version w.1.0 w.0 (one-saw s t is.seen here is.keeps) w.1.1)
      by_side (inr w) =
          between-near Rw me w.0.handle e w.2
          (behind is.seen.version w.1.0 w.0 (one-saw s t is.seen here is.keeps) w.1.1)

  change-near : (e : Edge) → IsOfChange s t me e → IsNear s (t ∷ []) me e
  change-near e is = by_change is.change (one-changes s t is.change here is.asks) is.which
    where
      by_change : (c : Change) → IsToChange s (t ∷ []) t.item c
          → ((w : Writer) × ChangesBefore s t.item c w × FromWriter t Ww me w e)
          ⊎ ((r : Reader) × ReadsBefore s t.item c r × FromReader t me r e) → IsNear s (t ∷ []) me e
      by_change (Put v) asks (inl w) = between-near Ww w.0.handle me e w.2 (put_last v w.1.0 w.0 asks w.1.1.0 w.1.1.1)
      by_change (Put v) asks (inr r) = between-near Rw r.0.handle me e r.2 (put_read v r.0 asks r.1.0 r.1.1)
      by_change (Add v) asks (inl w) = between-near Ww w.0.handle me e w.2 (add_last v w.1.0 w.0 asks w.1.1)
      by_change (Add v) asks (inr r) = between-near Rw r.0.handle me e r.2 (add_read v r.0 asks r.1)

  near-one : (e : Edge) → IsNear s (t ∷ []) me e → IsOfRead s t me e ⊎ IsOfChange s t me e
  near-one e (site, apart, near) = by_case e.label.item e.from e.to e.label.kind refl refl refl refl apart near
    where
      edge_is : (x : Name) (f h : Handle) (k : Kind) → e.label.item ≡ x → e.from ≡ f → e.to ≡ h → e.label.kind ≡ k
          → t.item ≡ x → e ≡ record { from = f; to = h; label = record { site = t.site; item = t.item; kind = k } }
      edge_is x f h k px pf ph pk item =
          λ i. record {
            from = pf i;
            to = ph i;
            label =
                record { site = (site ∙ sym here) i; item = (px ∙ sym item) i; kind = pk i };
          }

      by_case : (x : Name) (f h : Handle) (k : Kind) → e.label.item ≡ x → e.from ≡ f → e.to ≡ h → e.label.kind ≡ k
          → f ≢ h → IsNeighbour s (t ∷ []) me x f h k → IsOfRead s t me e ⊎ IsOfChange s t me e
      by_case x f h k px pf ph pk far (in_front n m w saw near) =
          let one = saw-one s t x n saw in
          inl record {
            seen = record { value = one.2.0; version = n };
            keeps = one.2.1;
            which = inl (
              w,
              (m, subst (λ y. IsInFront s y n m w) (sym one.1) near),
              (far, edge_is x w.handle me Wr px pf ph pk one.1),
            );
          }
      by_case x f h k px pf ph pk far (behind n m w saw near) =
          let one = saw-one s t x n saw in
          inl record {
            seen = record { value = one.2.0; version = n };
            keeps = one.2.1;
            which = inr (
              w,
              (m, subst (λ y. IsBehind s y n m w) (sym one.1) near),
              (far, edge_is x me w.handle Rw px pf ph pk one.1),
            );
          }
      by_case x f h k px pf ph pk far (put_last v m w asks near which) =
          let one = changes-one s t x (Put v) asks in
          inr record {
            change = Put v;
            asks = one.2;
            which = inl (
              w,
              subst (λ y. ChangesBefore s y (Put v) w) (sym one.1) (m, (near, which)),
              (far, edge_is x w.handle me Ww px pf ph pk one.1),
            );
          }
      by_case x f h k px pf ph pk far (add_last v m w asks near) =
          let one = changes-one s t x (Add v) asks in
          inr record {
            change = Add v;
            asks = one.2;
            which = inl (
              w,
              subst (λ y. ChangesBefore s y (Add v) w) (sym one.1) (m, near),
              (far, edge_is x w.handle me Ww px pf ph pk one.1),
            );
          }
      by_case x f h k px pf ph pk far (put_read v r asks is near) =
          let one = changes-one s t x (Put v) asks in
          inr record {
            change = Put v;
            asks = one.2;
            which = inr (
              r,
              subst (λ y. ReadsBefore s y (Put v) r) (sym one.1) (is, near),
              (far, edge_is x r.handle me Rw px pf ph pk one.1),
            );
          }
      by_case x f h k px pf ph pk far (add_read v r asks near) =
          let one = changes-one s t x (Add v) asks in
          inr record {
            change = Add v;
            asks = one.2;
            which = inr (
              r,
              subst (λ y. ReadsBefore s y (Add v) r) (sym one.1) near,
              (far, edge_is x r.handle me Rw px pf ph pk one.1),
            );
          }

  -- the read's and the change's are all
  pub one-parts : (e : Edge) → IsNear s (t ∷ []) me e ↔ (IsOfRead s t me e ⊎ IsOfChange s t me e)
  one-parts e = (near-one e, by_side)
    where
      by_side : IsOfRead s t me e ⊎ IsOfChange s t me e → IsNear s (t ∷ []) me e
      by_side (inl is) = read-near e is
      by_side (inr is) = change-near e is

-- of one of the listed elements, where the list has all that are so
any-of : {A : Type 0} (P Q : A → Type 0) (xs : List A) → ((a : A) → Contains xs a ↔ P a)
    → Any Q xs ↔ ((a : A) × P a × Q a)
any-of P Q xs all = (
  λ any. let a = Any_at Q xs any in (a.1, (all a.1).0 (Contains-from_at xs a.0 a.1 a.2), a.3),
  λ one. let at = Contains_at xs one.0 ((all one.0).1 one.1) in Any-from_at Q xs at.0 one.0 at.1 one.2,
)

module _ (s : SiteState) (t : Touch) (me : Handle) where
  -- the edges of a read at this version, and of this change
  pub read-parts : (seen : Seen) (us vs : List Writer) → t.seen ≡ Some seen
      → ((w : Writer) → Contains us w ↔ ((k : ℕ) × IsInFront s t.item seen.version k w))
      → ((w : Writer) → Contains vs w ↔ ((k : ℕ) × IsBehind s t.item seen.version k w))
      → (e : Edge) → IsOfRead s t me e ↔ (Any (λ w. FromWriter t Wr me w e) us ⊎ Any (λ w. ToWriter t me w e) vs)
  read-parts seen us vs some fronts backs e = (
    λ is. there is.seen (same_Some is.seen seen (sym is.keeps ∙ some)) is.which,
    λ which. record { seen = seen; keeps = some; which = back which },
  )
    where
      there : (d : Seen) → d ≡ seen
          → ((w : Writer) × ((k : ℕ) × IsInFront s t.item d.version k w) × FromWriter t Wr me w e)
          ⊎ ((w : Writer) × ((k : ℕ) × IsBehind s t.item d.version k w) × ToWriter t me w e)
          → Any (λ w. FromWriter t Wr me w e) us ⊎ Any (λ w. ToWriter t me w e) vs
      there d same (inl w) =
          inl ((any-of (λ w. (k : ℕ) × IsInFront s t.item seen.version k w) (λ w. FromWriter t Wr me w e) us fronts).1
          (w.0, subst (λ (b : Seen). (k : ℕ) × IsInFront s t.item b.version k w.0) same w.1, w.2))
      there d same (inr w) =
          inr ((any-of (λ w. (k : ℕ) × IsBehind s t.item seen.version k w) (λ w. ToWriter t me w e) vs backs).1 (
            w.0,
            subst (λ (b : Seen). (k : ℕ) × IsBehind s t.item b.version k w.0) same w.1,
            w.2,
          ))

      back : Any (λ w. FromWriter t Wr me w e) us ⊎ Any (λ w. ToWriter t me w e) vs
          → ((w : Writer) × ((k : ℕ) × IsInFront s t.item seen.version k w) × FromWriter t Wr me w e)
          ⊎ ((w : Writer) × ((k : ℕ) × IsBehind s t.item seen.version k w) × ToWriter t me w e)
      back (inl any) =
          inl ((any-of (λ w. (k : ℕ) × IsInFront s t.item seen.version k w) (λ w. FromWriter t Wr me w e) us fronts).0
          any)
      back (inr any) =
          inr ((any-of (λ w. (k : ℕ) × IsBehind s t.item seen.version k w) (λ w. ToWriter t me w e) vs backs).0 any)

  pub change-parts : (c : Change) (us : List Writer) (rs : List Reader) → t.change ≡ Some c
      → ((w : Writer) → Contains us w ↔ ChangesBefore s t.item c w)
      → ((r : Reader) → Contains rs r ↔ ReadsBefore s t.item c r)
      → (e : Edge) → IsOfChange s t me e ↔ (Any (λ w. FromWriter t Ww me w e) us ⊎ Any (λ r. FromReader t me r e) rs)
  change-parts c us rs some writers readers e = (
    λ is. there is.change (same_Some is.change c (sym is.asks ∙ some)) is.which,
    λ which. record { change = c; asks = some; which = back which },
  )
    where
      there : (d : Change) → d ≡ c → ((w : Writer) × ChangesBefore s t.item d w × FromWriter t Ww me w e)
          ⊎ ((r : Reader) × ReadsBefore s t.item d r × FromReader t me r e) → Any (λ w. FromWriter t Ww me w e) us
          ⊎ Any (λ r. FromReader t me r e) rs
      there d same (inl w) =
          inl ((any-of (ChangesBefore s t.item c) (λ w. FromWriter t Ww me w e) us writers).1 (
            w.0,
            subst (λ b. ChangesBefore s t.item b w.0) same w.1,
            w.2,
          ))
      there d same (inr r) =
          inr ((any-of (ReadsBefore s t.item c) (λ r. FromReader t me r e) rs readers).1 (
            r.0,
            subst (λ b. ReadsBefore s t.item b r.0) same r.1,
            r.2,
          ))

      back : Any (λ w. FromWriter t Ww me w e) us ⊎ Any (λ r. FromReader t me r e) rs
          → ((w : Writer) × ChangesBefore s t.item c w × FromWriter t Ww me w e)
          ⊎ ((r : Reader) × ReadsBefore s t.item c r × FromReader t me r e)
      back (inl any) = inl ((any-of (ChangesBefore s t.item c) (λ w. FromWriter t Ww me w e) us writers).0 any)
      back (inr any) = inr ((any-of (ReadsBefore s t.item c) (λ r. FromReader t me r e) rs readers).0 any)

module _ (s : SiteState) (ts : List Touch) (me : Handle) where
  -- in the end they are all
  pub gathers-near : (i : ℕ) (edges : List Edge) → length ts ≤ i
      → AddsAll (λ e. Any (λ t. IsNear s (t ∷ []) me e) (take i ts)) [] edges → (e : Edge)
      → Contains edges e ↔ IsNear s ts me e
  gathers-near i edges end so_far e =
      (λ has. there ((all e).0 has), λ is. (all e).1 (inr ((near-parts s me ts e).1 is)))
    where
      all : AddsAll (λ d. Any (λ t. IsNear s (t ∷ []) me d) ts) [] edges
      all = each-all (λ t d. IsNear s (t ∷ []) me d) ts i [] edges end so_far

      there : Contains [] e ⊎ Any (λ t. IsNear s (t ∷ []) me e) ts → IsNear s ts me e
      there (inl has) = absurd (omega (arith, has.1))
      there (inr any) = (near-parts s me ts e).0 any

  -- where they are all the neighbours' and nothing else, each is one of the draft, and they stand for all
  pub near-given : (edges : List Edge) → ((e : Edge) → Contains edges e ↔ IsNear s ts me e)
      → All (IsGiven s ts me) edges
  near-given edges near = All-from_at (IsGiven s ts me) edges (λ n e at.
      let is = (near e).0 (Contains-from_at edges n e at) in
      (is.0, neighbour-edge s ts me e.label.item e.from e.to e.label.kind is.1 is.2))

  pub near-stands : (edges : List Edge) → IsSite s → (SeesTooNew s ts → ⊥)
      → ((e : Edge) → Contains edges e ↔ IsNear s ts me e) → StandsForAll s ts me edges
  near-stands edges site fine near =
      neighbours-carry s ts me edges site fine
      (λ x f h k apart is.
      (near (record { from = f; to = h; label = record { site = s.number; item = x; kind = k } })).1 (refl, apart, is))

  -- a version of an item that is too new is one of the draft
  pub item-new : Any (IsTooNew s) ts → SeesTooNew s ts
  item-new new =
      let t = Any_at (IsTooNew s) ts new in
      let kept = kept-to s.number ts t.1 t.3.1.0 (Contains-from_at ts t.0 t.1 t.2) t.3.0 t.3.1.1 in
      let at = Contains_at (kept_in (at_site s.number ts)) (t.1.item, t.3.1.0.value, t.3.1.0.version) kept in
      Any-from_at (λ (k : Name × ℕ × ℕ). version_at s.entries k.0 < k.2) (kept_in (at_site s.number ts)) at.0
      (t.1.item, t.3.1.0.value, t.3.1.0.version) at.1 t.3.1.2

  pub draft-new : SeesTooNew s ts → Any (IsTooNew s) ts
  draft-new new =
      let k = Any_at (λ (k : Name × ℕ × ℕ). version_at s.entries k.0 < k.2) (kept_in (at_site s.number ts)) new in
      let t = kept-from s.number ts k.1.0 k.1.1 k.1.2 (Contains-from_at (kept_in (at_site s.number ts)) k.0 k.1 k.2) in
      let at = Contains_at ts t.0 t.1 in
      Any-from_at (IsTooNew s) ts at.0 t.0 at.1 (
        t.2,
        (record { value = k.1.1; version = k.1.2 }, t.4, subst (λ y. version_at s.entries y < k.1.2) (sym t.3) k.3),
      )

-- a version that is not too new is one that the item has had
pub seen-known : (s : SiteState) (t : Touch) (seen : Seen) → t.site ≡ s.number → t.seen ≡ Some seen
    → (IsTooNew s t → ⊥) → seen.version ≤ version_at s.entries t.item
seen-known s t seen here some fine = elim (cases_lt (version_at s.entries t.item) seen.version) [
  | inl lt ↦ absurd (fine (here, (seen, some, lt)))
  | inr le ↦ le
]

-- one more that was not read too new, and all of them
pub not-new-next : (s : SiteState) (ts : List Touch) (i : ℕ) (t : Touch) → slice_get ts i ≡ Some t
    → ((n : ℕ) (u : Touch) → n < i → slice_get ts n ≡ Some u → IsTooNew s u → ⊥) → (IsTooNew s t → ⊥)
    → (n : ℕ) (u : Touch) → n < i + 1 → slice_get ts n ≡ Some u → IsTooNew s u → ⊥
not-new-next s ts i t at before fine n u lt there new = elim (cases_lt n i) [
  | inl front ↦ before n u front there new
  | inr back ↦
      let same : n ≡ i = omega (arith, lt, back) in
      fine (subst (IsTooNew s) (same_Some u t (sym there ∙ ap (slice_get ts) same ∙ at)) new)
]

pub none-new : (s : SiteState) (ts : List Touch) (i : ℕ) → length ts ≤ i
    → ((n : ℕ) (u : Touch) → n < i → slice_get ts n ≡ Some u → IsTooNew s u → ⊥) → Any (IsTooNew s) ts → ⊥
none-new s ts i end none new =
    let u = Any_at (IsTooNew s) ts new in
    let lt = slice_get_within ts u.0 u.1 u.2 in
    none u.0 u.1 (omega (arith, lt, end)) u.2 u.3
