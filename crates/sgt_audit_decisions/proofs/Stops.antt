-- Steps whose stops are put into a set one by one.
use Rattle.std.proofs.Common.{◌≡◌, ◌≢◌, inl, inr, ℕ, ◌+◌, ◌<◌, ◌≤◌, true, false, cond, List, [], length, Some, BTreeSet, sym, ap, ◌∙◌, arith, AllPairs}
use Rattle.std.specs.Prelude.{slice_get}
use Rattle.std.specs.Ordering.{nat_cmp, is_eq}
use Rattle.std.specs.BTreeSet.{contains}
use Rattle.std.specs.List.{list_any}
use Rattle.std.proofs.lemmas.Bool.{cases_eq, true≢false, false≢true}
use Rattle.std.proofs.lemmas.Option.{same_Some, slice_get_within}
use Rattle.sgt_names.proofs.Places.{AllPairs_at, AllPairs-from_at}
use Rattle.sgt_bundle.specs.declared.certificate.Step.{Step}
use Rattle.sgt_names.proofs.Elements.{nat_cmp-same, nat_cmp-other}

-- one of the first n steps leads to the transaction
abbrev pub LeadsTo : List Step → ℕ → ℕ → Type 0
LeadsTo walk n tx = (k : ℕ) × (s : Step) × (k < n) × (slice_get walk k ≡ Some s) × (s.to ≡ tx)

-- no two of the first n steps lead to one transaction, and the set has where they lead
pub record LeadApart (walk : List Step) (n : ℕ) (met : BTreeSet ℕ) : Type 0 where
  pub apart : (p q : ℕ) (a b : Step) → p < q → q < n → slice_get walk p ≡ Some a → slice_get walk q ≡ Some b
      → a.to ≢ b.to
  pub listed : (tx : ℕ) → contains nat_cmp met tx ≡ true → LeadsTo walk n tx
  pub has : (tx : ℕ) → LeadsTo walk n tx → contains nat_cmp met tx ≡ true

module _ (walk : List Step) (n : ℕ) (s : Step) (met : BTreeSet ℕ) (so_far : LeadApart walk n met)
    (at : slice_get walk n ≡ Some s) where
  pub leads-twice : contains nat_cmp met s.to ≡ true → AllPairs (λ a b. a.to ≢ b.to) walk → ⊥
  leads-twice hit apart =
      let had = so_far.listed s.to hit in
      AllPairs_at (λ (a b : Step). a.to ≢ b.to) walk had.0 n had.1 s apart had.2 had.3 at had.4

  pub leads-next : (next : BTreeSet ℕ) → contains nat_cmp met s.to ≡ false
      → ((q : ℕ) → contains nat_cmp next q ≡ cond (is_eq (nat_cmp s.to q)) true (contains nat_cmp met q))
      → LeadApart walk (n + 1) next
  leads-next next miss updated = record {
    apart = λ p q a b lt within at_p at_q e.
        elim (cases_eq q n) [
          | inl last ↦
              let one : b ≡ s = same_Some b s (sym at_q ∙ ap (slice_get walk) last ∙ at) in
              let hit : contains nat_cmp met s.to ≡ true =
              so_far.has s.to (p, a, omega arith, at_p, e ∙ ap (λ (x : Step). x.to) one) in
              absurd (true≢false (sym hit ∙ miss))
          | inr ne ↦ so_far.apart p q a b lt (omega arith) at_p at_q e
        ];
    listed = λ tx hit.
        elim (cases_eq s.to tx) [
          | inl same ↦ (n, s, omega arith, at, same)
          | inr ne ↦
              let kept = updated tx ∙ ap (λ b. cond b true (contains nat_cmp met tx)) (nat_cmp-other s.to tx ne) in
              let had = so_far.listed tx (sym kept ∙ hit) in
              (had.0, had.1, omega (arith, had.2), had.3, had.4)
        ];
    has = λ tx (k, a, lt, at_k, to).
        elim (cases_eq s.to tx) [
          | inl same ↦ updated tx ∙ ap (λ b. cond b true (contains nat_cmp met tx)) (nat_cmp-same s.to tx same)
          | inr ne ↦
              elim (cases_eq k n) [
                | inl last ↦
                    let one : a ≡ s = same_Some a s (sym at_k ∙ ap (slice_get walk) last ∙ at) in
                    absurd (ne (ap (λ (x : Step). x.to) (sym one) ∙ to))
                | inr before ↦ updated tx ∙ ap (λ b. cond b true (contains nat_cmp met tx)) (nat_cmp-other s.to tx ne)
                    ∙ so_far.has tx (k, a, omega arith, at_k, to)
              ]
        ];
  }

pub all-apart : (walk : List Step) (n : ℕ) (met : BTreeSet ℕ) → LeadApart walk n met → length walk ≤ n
    → AllPairs (λ a b. a.to ≢ b.to) walk
all-apart walk n met so_far all = AllPairs-from_at (λ (a b : Step). a.to ≢ b.to) walk (λ p q a b lt at_p at_q.
    let within = slice_get_within walk q b at_q in
    so_far.apart p q a b lt (omega arith) at_p at_q)
