-- Each conflict makes its first transaction stand before its second in every order that serves.
use Rattle.std.proofs.Common.{◌≡◌, ◌≢◌, ℕ, ◌+◌, ◌<◌, ◌≤◌, List, [], ◌∷◌, ◌++◌, Some, refl, sym, ap, ◌∙◌, subst, arith}
use Rattle.std.specs.Prelude.{slice_get}
use Rattle.std.proofs.lemmas.Option.{same_Some}
use Rattle.sgt_history.specs.declared.history.Operation.{Operation}
use Rattle.sgt_history.specs.declared.named.Conflict.{Conflict}
use Rattle.sgt_history.specs.declared.named.Conflict.TheVariants.{WriteWrite, WriteRead, ReadWrite}
use Rattle.sgt_history.specs.declared.named.Graph.{Graph}
use Rattle.sgt_history.specs.Transaction.{Transaction}
use Rattle.sgt_history.specs.Serial.{IsOrder, StandOnce, run_of, Has, RunsRight, Serves, IsSerializable}
use Rattle.sgt_history.specs.Conflicts.{Writes, Reads, HaveConflict, ConflictIn, Precedes, IsChain, IsCycle, HasCycle}
use Rattle.sgt_history.proofs.Runs.{written-before, written-behind, writes-rise}
use Rattle.sgt_history.proofs.Standing.{Stands, stands, precedes}

-- what a read finds
read-finds : {I V : Type 0} (h : List (Transaction I V)) (order : List ℕ) → RunsRight (run_of h order)
    → (line : ℕ) (x : I) (v : ℕ)
    → (r : Reads h line x v) → (s : Stands h order line r.t r.place r.o) → Has (run_of h order) s.p x v
read-finds h order right line x v r s =
    let has = (right s.p r.o s.there).read r.read in
    subst (λ y. Has (run_of h order) s.p y v) r.item_is (subst (Has (run_of h order) s.p r.o.item) r.version_is has)

pub goes_forward : {I V : Type 0} (h : List (Transaction I V)) (order : List ℕ) → Serves h order
    → (kind : Conflict) (from to : ℕ) (x : I) (v w : ℕ) → HaveConflict h kind from to x v w → Precedes order from to
goes_forward h order s WriteWrite from to x v w (apart, first, second, next) =
    let a = stands h order s.ordered from first.place first.t first.o first.is in
    let b = stands h order s.ordered to second.place second.t second.o second.is in
    precedes h order from to first.t first.place first.o second.t second.place second.o apart a b (λ lt.
    let rise = writes-rise (run_of h order) s.right b.p a.p second.o first.o x b.there second.writes a.there
    first.writes lt in
    absurd (omega (arith, rise, first.version_is, second.version_is, next.above)))
goes_forward h order s WriteRead from to x v w (apart, first, second, same) =
    let a = stands h order s.ordered from first.place first.t first.o first.is in
    let b = stands h order s.ordered to second.place second.t second.o second.is in
    precedes h order from to first.t first.place first.o second.t second.place second.o apart a b (λ lt.
    let has = read-finds h order s.right to x w second b in
    let above = written-behind (run_of h order) s.right b.p a.p first.o x w a.there first.writes has
    (omega (arith, lt)) in
    absurd (omega (arith, above, first.version_is, same)))
goes_forward h order s ReadWrite from to x v w (apart, first, second, next) =
    let a = stands h order s.ordered from first.place first.t first.o first.is in
    let b = stands h order s.ordered to second.place second.t second.o second.is in
    precedes h order from to first.t first.place first.o second.t second.place second.o apart a b (λ lt.
    let has = read-finds h order s.right from x v first a in
    let most = written-before (run_of h order) s.right a.p b.p second.o x v b.there second.writes has lt in
    absurd (omega (arith, most, second.version_is, next.above)))

-- places in an order rise along a chain of what goes forward in it
module _ (order : List ℕ) (once : StandOnce order) (R : ℕ → ℕ → Type 0) (forward : (a b : ℕ) → R a b
    → Precedes order a b) where
  chain-rises : (between : List ℕ) (a c : ℕ) → IsChain R a (between ++ c ∷ []) → Precedes order a c
  chain-rises [] a c h = forward a c h.0
  chain-rises (b ∷ bs) a c h =
      let first = forward a b h.0 in
      let more = chain-rises bs b c h.1 in
      let same = once first.j more.i b first.second_at more.first_at in
      record {
        i = first.i;
        j = more.j;
        before = omega (arith, first.before, more.before, same);
        first_at =
            first.first_at;
        second_at = more.second_at;
      }

  pub no-cycle : (cycle : List ℕ) → IsCycle R cycle → ⊥
  no-cycle [] h = h
  no-cycle (a ∷ between) h =
      let all = chain-rises between a a h in
      let same = once all.i all.j a all.first_at all.second_at in
      absurd (omega (arith, all.before, same))

pub cycle-excludes : {I V : Type 0} (h : List (Transaction I V)) (g : Graph) → HasCycle h g → IsSerializable h → ⊥
cycle-excludes h g (cycle, is) (order, s) =
    no-cycle order s.ordered.once (ConflictIn h g)
    (λ a b c. goes_forward h order s c.kind a b c.x c.v c.w c.conflict) cycle is
