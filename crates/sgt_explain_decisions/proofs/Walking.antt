-- Walks that are cycles, and what is wrong with those that aren't.
use Rattle.std.proofs.Common.{◌≡◌, ◌≢◌, ℕ, suc, ◌+◌, ◌-◌, ◌<◌, ◌≤◌, Bool, true, false, cond, List, [], ◌∷◌, ◌++◌, length, map, take, take_all, Option, Some, None, inl, inr, refl, sym, subst, ap, ◌∙◌, arith, All}
use Rattle.std.specs.Prelude.{slice_get, AllPairs, IfSome, IfNone, is_some, not, ◌==◌}
use Rattle.std.specs.Ordering.{nat_cmp, is_eq}
use Rattle.std.proofs.lemmas.Bool.{cases_order, cases_eq, ne_eqb, false≢true, true≢false}
use Rattle.std.proofs.lemmas.List.{map-append, length-map, length-take-le}
use Rattle.std.proofs.lemmas.Option.{same_Some, slice_get_within}
use Rattle.sgt_names.proofs.Lists.{take_next, map_at, All-next, All-weaken, All-from_map}
use Rattle.sgt_names.proofs.Places.{AllPairs_at, AllPairs-from_at}
use Rattle.sgt_bundle.specs.Certificate.{decided_tx, is_commit, stops, IsCommitted, IsCycle}
use Rattle.sgt_bundle.specs.declared.certificate.Step.{Step}
use Rattle.sgt_bundle.specs.declared.certificate.Decision.{Decision}
use Rattle.sgt_bundle.specs.declared.certificate.Decision.TheVariants.{Commit, Refuse, Withdraw}
use Rattle.sgt_explain_decisions.specs.Placed.{IsFirstOn}
use Rattle.sgt_explain_decisions.specs.Walks.{IsRefusal, IsCommittedBefore, MayBePassed, steps_between, LeadsTo, AreApart, IsFirstAgain, HaveCycles}
use Rattle.sgt_explain_decisions.proofs.Doubling.{pairs-next}
use Rattle.sgt_explain_decisions.proofs.Seeking.{same-number}
use Rattle.sgt_names.proofs.Elements.{ne-same, nat_cmp-same}

commit-of : (d : Decision) → is_commit d ≡ true → (rank : ℕ) × (d ≡ Commit (decided_tx d) rank)
commit-of (Commit tx rank) e = (rank, refl)
commit-of (Refuse tx walk) e = absurd (false≢true e)
commit-of (Withdraw tx) e = absurd (false≢true e)

-- ---- steps that lead to one transaction

-- what is known of the places of so many first steps
pub record ArePassed (between : List Step) (count : ℕ) (passed : ℕ → Option ℕ) : Type 0 where
  pub seen : (a : ℕ) → IfSome (passed a) (λ m. (s : Step) × (m < count) × (slice_get between m ≡ Some s) × (s.to ≡ a))
  pub unseen : (a : ℕ) → IfNone (passed a) (All (λ s. s.to ≢ a) (take count between))
  pub apart : AreApart (take count between)

pub passed-next : (between : List Step) (n : ℕ) (step : Step) (old new : ℕ → Option ℕ)
    → slice_get between n ≡ Some step → old step.to ≡ None
    → ((q : ℕ) → new q ≡ cond (is_eq (nat_cmp step.to q)) (Some n) (old q)) → ArePassed between n old
    → ArePassed between (n + 1) new
passed-next between n step old new at none updated so_far = record {
  seen = λ a. subst (λ o. IfSome o (λ m. (s : Step) × (m < n + 1) × (slice_get between m ≡ Some s) × (s.to ≡ a)))
      (sym (updated a)) (seen-at a (is_eq (nat_cmp step.to a)) refl (old a) refl);
  unseen = λ a. subst (λ o. IfNone o (All (λ (s : Step). s.to ≢ a) (take (n + 1) between))) (sym (updated a))
      (unseen-at a (is_eq (nat_cmp step.to a)) refl (old a) refl);
  apart = pairs-next (λ (a b : Step). a.to ≢ b.to) between n step at
      (unseen-of (old step.to) none (so_far.unseen step.to)) so_far.apart;
}
  where
    unseen-of : (o : Option ℕ) → o ≡ None → IfNone o (All (λ (s : Step). s.to ≢ step.to) (take n between))
        → All (λ (s : Step). s.to ≢ step.to) (take n between)
    unseen-of o e h = subst (λ r. IfNone r (All (λ (s : Step). s.to ≢ step.to) (take n between))) e h

    seen-at : (a : ℕ) (b : Bool) → is_eq (nat_cmp step.to a) ≡ b → (o : Option ℕ) → old a ≡ o
        → IfSome (cond b (Some n) o) (λ m. (s : Step) × (m < n + 1) × (slice_get between m ≡ Some s) × (s.to ≡ a))
    seen-at a true e o is = (step, omega arith, at, same-number step.to a e)
    seen-at a false e (Some m) is =
        let h = subst (λ r. IfSome r (λ m. (s : Step) × (m < n) × (slice_get between m ≡ Some s) × (s.to ≡ a))) is
        (so_far.seen a) in
        let less = h.1 in
        (h.0, omega (arith, less), h.2, h.3)
    seen-at a false e None is = tt

    unseen-at : (a : ℕ) (b : Bool) → is_eq (nat_cmp step.to a) ≡ b → (o : Option ℕ) → old a ≡ o
        → IfNone (cond b (Some n) o) (All (λ (s : Step). s.to ≢ a) (take (n + 1) between))
    unseen-at a true e o is = tt
    unseen-at a false e (Some m) is = tt
    unseen-at a false e None is =
        All-next (λ (s : Step). s.to ≢ a) between n step at (λ same. false≢true (sym e ∙ nat_cmp-same step.to a same))
        (subst (λ r. IfNone r (All (λ (s : Step). s.to ≢ a) (take n between))) is (so_far.unseen a))

-- the transaction was passed before
pub again-of : (between : List Step) (n : ℕ) (step : Step) (passed : ℕ → Option ℕ) (old : Option ℕ)
    → slice_get between n ≡ Some step → old ≡ passed step.to → is_some old ≡ true
    → ArePassed between n passed → IsFirstAgain between step.to
again-of between n step passed old at is some so_far = record {
  place = n;
  step = step;
  there = at;
  to = refl;
  earlier =
      earlier old some
      (subst (λ o. IfSome o (λ m. (s : Step) × (m < n) × (slice_get between m ≡ Some s) × (s.to ≡ step.to))) (sym is)
      (so_far.seen step.to));
  before = so_far.apart;
}
  where
    earlier : (o : Option ℕ) → is_some o ≡ true
        → IfSome o (λ m. (s : Step) × (m < n) × (slice_get between m ≡ Some s) × (s.to ≡ step.to))
        → (m : ℕ) × (s : Step) × (m < n) × (slice_get between m ≡ Some s) × (s.to ≡ step.to)
    earlier (Some m) e h = (m, h.0, h.1, h.2, h.3)
    earlier None e h = absurd (false≢true e)

pub none-of : (o : Option ℕ) → is_some o ≡ false → o ≡ None
none-of (Some m) e = absurd (false≢true (sym e))
none-of None e = refl

-- ---- cycles

pub is-cycle : (ds : List Decision) (number tx : ℕ) (walk : List Step) → LeadsTo walk tx
    → All (λ s. MayBePassed ds number tx s.to) (steps_between walk) → AreApart (steps_between walk)
    → IsCycle ds number tx walk
is-cycle ds number tx walk leads all apart =
    let between = steps_between walk in
    let long = leads.long in
    let size : length between ≡ length walk - 1 = length-take-le (length walk - 1) walk (omega arith) in
    let same : length (map (λ (s : Step). s.to) between) ≡ length between = length-map between (λ (s : Step). s.to) in
    let next : length walk - 1 + 1 ≡ length walk = omega (arith, long) in
    let whole : walk ≡ between ++ leads.last ∷ [] = sym (take_all (length walk - 1 + 1) walk (omega (arith, next)))
    ∙ take_next walk (length walk - 1) leads.last leads.there in
    record {
      between = map (λ (s : Step). s.to) between;
      long = omega (arith, long, size, same);
      closed = ap stops whole ∙ map-append (λ (s : Step). s.to) between (leads.last ∷ [])
          ∙ ap (λ t. map (λ (s : Step). s.to) between ++ t ∷ []) leads.to;
      distinct = AllPairs-from_at (λ (a b : ℕ). a ≢ b) (map (λ (s : Step). s.to) between) (λ p q a b less at at'.
          let one = map_at (λ (s : Step). s.to) between p a at in
          let other = map_at (λ (s : Step). s.to) between q b at' in
          λ e. AllPairs_at (λ (a b : Step). a.to ≢ b.to) between p q one.0 other.0 apart less one.1 other.1 (one.2 ∙ e
          ∙ sym other.2));
      others = All-from_map (λ a. a ≢ tx) (λ (s : Step). s.to) between
          (All-weaken (λ (s : Step). MayBePassed ds number tx s.to) (λ (s : Step). s.to ≢ tx) between (λ s h. h.0) all);
      earlier = All-from_map (λ a. (m : ℕ) × (rank : ℕ) × (m < number) × IsCommitted ds m a rank) (λ (s : Step). s.to)
          between
          (All-weaken (λ (s : Step). MayBePassed ds number tx s.to) (λ (s : Step). IsCommittedBefore ds number s.to)
          between (λ s h. h.1) all);
    }

pub cycles-next : (ds : List Decision) (count : ℕ) → ((tx : ℕ) (walk : List Step) → IsRefusal ds count tx walk
    → IsCycle ds count tx walk) → HaveCycles ds count → HaveCycles ds (count + 1)
cycles-next ds count one before n tx walk less is =
    elim (cases_order n count) [
      | inl same ↦ subst (λ k. IsCycle ds k tx walk) (sym same)
          (one tx walk (subst (λ k. IsRefusal ds k tx walk) same is))
      | inr (inl earlier) ↦ before n tx walk earlier is
      | inr (inr later) ↦ absurd (omega (arith, less, later))
    ]
