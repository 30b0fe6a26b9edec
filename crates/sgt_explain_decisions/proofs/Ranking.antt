-- Entries that stand against the ranks, and those that don't.
use Rattle.std.proofs.Common.{◌≡◌, ◌∙◌, ℕ, All, Option, Some, None, ap, inl, inr, subst, sym, take, arith}
use Rattle.std.proofs.lemmas.Bool.{cases_order}
use Rattle.sgt_names.specs.Name.{Name}
use Rattle.sgt_names.specs.Entry.{tx_of}
use Rattle.sgt_names.specs.declared.entry.Kind.{Kind}
use Rattle.sgt_bundle.specs.Certificate.{IsCommitted, IsDecidedOnce}
use Rattle.sgt_bundle.specs.Valid.{RiseInRank}
use Rattle.sgt_bundle.specs.declared.certificate.Decision.{Decision}
use Rattle.std.specs.Prelude.{List, IfSome, slice_get}
use Rattle.sgt_names.specs.declared.entry.Entry.{Entry}
use Rattle.sgt_explain_lines.specs.declared.section.Logged.{Logged}
use Rattle.sgt_explain_decisions.specs.Against.{StandAgainst, IsAgainst, IsFirstAgainst}
use Rattle.sgt_explain_decisions.specs.declared.order.RanksShown.{RanksShown}
use Rattle.sgt_explain_decisions.specs.declared.order.Ranked.{Ranked}
use Rattle.sgt_explain_decisions.proofs.Placing.{one-rank}

-- entries whose ranks don't stand against each other
pub rise-ranked : (ds : List Decision) (one : Logged) (first second : Ranked) → first.logged ≡ one → IsDecidedOnce ds
    → IsCommitted ds first.number (tx_of first.logged.entry) first.rank
    → IsCommitted ds second.number (tx_of second.logged.entry) second.rank
    → ((kind : Kind) (item : Name) → StandAgainst first second kind item → ⊥)
    → RiseInRank ds one.entry second.logged.entry
rise-ranked ds one first second same once own other none =
    subst (λ (l : Logged). RiseInRank ds l.entry second.logged.entry) same (λ kind x m n r s clash apart is its.
    let a = one-rank ds (tx_of first.logged.entry) m first.number r first.rank once is own in
    let b = one-rank ds (tx_of second.logged.entry) n second.number s second.rank once its other in
    elim (cases_order r s) [
      | inl even ↦ absurd (none kind x (record { clash = clash; apart = apart; falls = omega (arith, a, b, even) }))
      | inr (inl rises) ↦ rises
      | inr (inr falls) ↦ absurd
          (none kind x (record { clash = clash; apart = apart; falls = omega (arith, a, b, falls) }))
    ])

-- the first of these entries that is shown against another
pub first-against : (decisions : List Decision) (entries : List Logged) (k i : ℕ) (one : Logged) (second : Ranked)
    (e : Entry) (shown : Option RanksShown)
    → IfSome shown (IsAgainst decisions k one second) → slice_get entries i ≡ Some one
    → All (λ l. RiseInRank decisions l.entry e) (take i entries)
    → IfSome shown (λ s. IsFirstAgainst decisions entries s.first.logged e)
first-against decisions entries k i one second e None is at before = tt
first-against decisions entries k i one second e (Some s) is at before =
    record { place = i; there = at ∙ ap Some (sym is.own); before = before }
