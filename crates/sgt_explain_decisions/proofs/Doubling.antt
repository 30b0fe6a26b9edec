-- Two decisions on one transaction, of which the second is the least that there is.
use Rattle.std.proofs.Common.{◌≡◌, ◌≢◌, ℕ, ◌+◌, ◌<◌, ◌≤◌, List, [], ◌∷◌, ◌++◌, length, take, Option, Some, None, inl, inr, refl, sym, subst, ap, ◌∙◌, arith, All}
use Rattle.std.specs.Prelude.{slice_get, AllPairs}
use Rattle.std.proofs.lemmas.Bool.{cases_order}
use Rattle.std.proofs.lemmas.List.Elements.{All-take}
use Rattle.std.proofs.lemmas.Option.{same_Some, slice_get_within}
use Rattle.sgt_names.proofs.Lists.{element_at}
use Rattle.sgt_names.proofs.Places.{All_at, All-from_at, AllPairs_at, AllPairs-from_at, slice_get-take, slice_get-take_at}
use Rattle.sgt_bundle.specs.Certificate.{decided_tx, IsDecidedOnce}
use Rattle.sgt_bundle.specs.declared.certificate.Decision.{Decision}
use Rattle.sgt_explain_decisions.specs.Placed.{IsFirstOn, IsUndecided}
use Rattle.sgt_explain_decisions.specs.Twice.{IsTwice, IsFirstTwice}

-- a pair fact of so many first elements and one more
pub pairs-next : {A : Type 0} (R : A → A → Type 0) (xs : List A) (n : ℕ) (x : A) → slice_get xs n ≡ Some x
    → All (λ a. R a x) (take n xs) → AllPairs R (take n xs) → AllPairs R (take (n + 1) xs)
pairs-next R xs n x at all pairs = AllPairs-from_at R (take (n + 1) xs) (λ p q a b less at-p at-q.
    let one = slice_get-take xs (n + 1) p a at-p in
    let other = slice_get-take xs (n + 1) q b at-q in
    elim (cases_order q n) [
      | inl here ↦ (let same = same_Some x b (sym at ∙ ap (slice_get xs) (sym here) ∙ other.1) in
          subst (R a) same
          (All_at (λ y. R y x) (take n xs) p a all (slice_get-take_at xs n p a (omega (arith, here, less)) one.1)))
      | inr (inl earlier) ↦ AllPairs_at R (take n xs) p q a b pairs less
          (slice_get-take_at xs n p a (omega (arith, earlier, less)) one.1) (slice_get-take_at xs n q b earlier other.1)
      | inr (inr later) ↦ (let low = other.0 in absurd (omega (arith, low, later)))
    ])

-- all of a front, where it is one of a longer front that has it
pub undecided-front : (ds : List Decision) (tx m n : ℕ) → n ≤ m → IsUndecided (take m ds) tx
    → IsUndecided (take n ds) tx
undecided-front ds tx m n le all = All-from_at (λ (d : Decision). decided_tx d ≢ tx) (take n ds) (λ k d at.
    let one = slice_get-take ds n k d at in
    let low = one.0 in
    All_at (λ (d : Decision). decided_tx d ≢ tx) (take m ds) k d all
    (slice_get-take_at ds m k d (omega (arith, low, le)) one.1))

pub undecided-all : (ds : List Decision) (tx n : ℕ) → IsUndecided ds tx → IsUndecided (take n ds) tx
undecided-all ds tx n all = All-take (λ (d : Decision). decided_tx d ≢ tx) n ds all

pub first-twice : (ds : List Decision) (m n : ℕ) (d : Decision) → slice_get ds n ≡ Some d → m < n
    → IsFirstOn ds (decided_tx d) m → IsDecidedOnce (take n ds) → IsFirstTwice ds m n
first-twice ds m n d at less first once = record {
  two = record {
    one = first.decision;
    other = d;
    first = first.on.there;
    second = at;
    apart = less;
    same =
        first.on.on;
  };
  before = once;
}

-- where each transaction has one decision, no two are on one
pub twice-none : (ds : List Decision) (m n : ℕ) → IsDecidedOnce ds → IsTwice ds m n → ⊥
twice-none ds m n once two =
    AllPairs_at (λ (d e : Decision). decided_tx d ≢ decided_tx e) ds m n two.one two.other once two.apart two.first
    two.second two.same
