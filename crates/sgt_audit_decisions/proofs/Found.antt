-- The one decision on a transaction.
use Rattle.std.proofs.Common.{◌≡◌, ℕ, ◌<◌, ◌≤◌, Bool, true, false, IsTrue, List, Option, Some, None, refl, sym, ap, subst, ◌∙◌, arith}
use Rattle.std.specs.Prelude.{◌↔◌, slice_get}
use Rattle.std.proofs.lemmas.Bool.{true≢false, false≢true}
use Rattle.std.proofs.lemmas.Option.{same_Some}
use Rattle.sgt_names.specs.Entry.{tx_of}
use Rattle.sgt_names.specs.declared.entry.Entry.{Entry}
use Rattle.sgt_bundle.specs.Certificate.{decided_tx, is_commit, rank_in, IsCommitted, Suits}
use Rattle.sgt_bundle.specs.Valid.{IsDecided}
use Rattle.sgt_bundle.specs.declared.certificate.Decision.{Decision}
use Rattle.sgt_bundle.specs.declared.certificate.Decision.TheVariants.{Commit, Refuse, Withdraw}
use Rattle.sgt_audit_decisions.specs.Decided.{Decides, IsFound, IsRulingOn}
use Rattle.sgt_audit_decisions.specs.declared.decided.Ruling.{Ruling}

module _ (ds : List Decision) (tx n : ℕ) (d : Decision) (at : slice_get ds n ≡ Some d) (of : decided_tx d ≡ tx)
    (only : (m : ℕ) → Decides ds m tx → m ≡ n) where
  pub the-commit : (m rank : ℕ) → IsCommitted ds m tx rank → (m ≡ n) × (d ≡ Commit tx rank)
  the-commit m rank by =
      let e = only m (Commit tx rank, by, refl) in
      (e, same_Some d (Commit tx rank) (sym at ∙ ap (slice_get ds) (sym e) ∙ by))

  pub the-suiting : (e : Entry) → tx_of e ≡ tx → (m : ℕ) → IsDecided ds e m → Suits e d
  the-suiting e same m (f, at_m, f-of, suits) =
      let here = only m (f, at_m, f-of ∙ same) in
      subst (Suits e) (same_Some f d (sym at_m ∙ ap (slice_get ds) here ∙ at)) suits

  pub committed-late : (number : ℕ) → number ≤ n → ((m rank : ℕ) × (m < number) × IsCommitted ds m tx rank) → ⊥
  committed-late number le (m, rank, lt, by) = let e = (the-commit m rank by).0 in omega arith

  pub suiting-found : (e : Entry) (b : Bool) (o : Option ℕ) → tx_of e ≡ tx → IsTrue b ↔ Suits e d
      → (IsTrue b → o ≡ Some n) → (b ≡ false → o ≡ None) → IsFound (IsDecided ds e) o
  suiting-found e true o same suits told untold = subst (IsFound (IsDecided ds e)) (sym (told refl)) (
    d,
    at,
    of
        ∙ sym same,
    suits.0 refl,
  )
  suiting-found e false o same suits told untold =
      subst (IsFound (IsDecided ds e)) (sym (untold refl)) (λ m by. false≢true (suits.1 (the-suiting e same m by)))

module _ (ds : List Decision) (tx n : ℕ) where
  pub rank-found : (d : Decision) (o : Option ℕ) → slice_get ds n ≡ Some d → decided_tx d ≡ tx
      → ((m : ℕ) → Decides ds m tx → m ≡ n) → o ≡ rank_in d → IsFound (λ rank. (m : ℕ) × IsCommitted ds m tx rank) o
  rank-found (Commit i k) o at of only is = subst (IsFound (λ rank. (m : ℕ) × IsCommitted ds m tx rank)) (sym is) (
    n,
    at ∙ ap (λ j. Some (Commit j k)) of,
  )
  rank-found (Refuse i walk) o at of only is =
      subst (IsFound (λ rank. (m : ℕ) × IsCommitted ds m tx rank)) (sym is) (λ rank by. let one =
      (the-commit ds tx n (Refuse i walk) at of only by.0 rank by.1).1 in absurd cc)
  rank-found (Withdraw i) o at of only is =
      subst (IsFound (λ rank. (m : ℕ) × IsCommitted ds m tx rank)) (sym is) (λ rank by. let one =
      (the-commit ds tx n (Withdraw i) at of only by.0 rank by.1).1 in absurd cc)

  pub commits-before : (d : Decision) (r : Bool) (number : ℕ) → slice_get ds n ≡ Some d → decided_tx d ≡ tx
      → ((m : ℕ) → Decides ds m tx → m ≡ n) → n < number → r ≡ is_commit d
      → IsTrue r ↔ ((m rank : ℕ) × (m < number) × IsCommitted ds m tx rank)
  commits-before (Commit i rank) r number at of only lt is =
      (λ _. (n, rank, lt, at ∙ ap (λ j. Some (Commit j rank)) of), λ _. is)
  commits-before (Refuse i walk) r number at of only lt is = (
    λ yes. absurd (true≢false (sym yes ∙ is)),
    λ (m, rank, less, by). let one = (the-commit ds tx n (Refuse i walk) at of only m rank by).1 in absurd cc,
  )
  commits-before (Withdraw i) r number at of only lt is = (
    λ yes. absurd (true≢false (sym yes ∙ is)),
    λ (m, rank, less, by). let one = (the-commit ds tx n (Withdraw i) at of only m rank by).1 in absurd cc,
  )

-- a transaction in no decision
pub no-ruling : (ds : List Decision) (e : Entry) (r : Ruling) → ((number : ℕ) → Decides ds number (tx_of e) → ⊥)
    → r ≡ record { number = None; rank = None; suiting = None } → IsRulingOn ds e r
no-ruling ds e r none is = subst (IsRulingOn ds e) (sym is) (record {
  number = none;
  rank = λ rank by. none by.0 (Commit (tx_of e) rank, by.1, refl);
  suiting = λ m by. none m (by.0, by.1, by.2);
})
