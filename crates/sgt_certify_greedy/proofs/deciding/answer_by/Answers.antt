use Rattle.std.proofs.Common.{◌≡◌, ℕ, List, [], sym, ap, ◌∙◌, subst, inl, inr, map, Contains}
use Rattle.std.proofs.lemmas.Bool.{eqb-true}
use Rattle.sgt_bundle.specs.Certificate.{decided_tx}
use Rattle.sgt_bundle.specs.Valid.{IsValid}
use Rattle.sgt_bundle.specs.declared.certificate.Decision.{Decision}
use Rattle.sgt_certify_logs.specs.Witness.{IsStuck}
use Rattle.sgt_certify_greedy.specs.Decided.{IsUnpreceded}
use Rattle.sgt_certify_greedy.proofs.Decisions.{left-stuck, positive-length}
use Rattle.sgt_certify_greedy.proofs.Knowing.{conflicts-ordered}
use Rattle.sgt_certify_greedy.proofs.Validity.{committed-decided, valid-from}
use Rattle.sgt_names.proofs.Elements.{contains-none, empty-length}
use Rattle.sgt_certify_greedy.proofs.deciding.answer_by.Goals as goal

pub returns-then-is_empty : goal.returns-then-is_empty
returns-then-is_empty c =
    let sites = c.args.sites.now in
    let known = c.requires.known in
    let order = c.args.known.now.order.items in
    let settled = c.in_ok-settled.ensures in
    let made = c.certificate_of-made.result in
    let none : c.in_ok-settled.settled.left.items ≡ [] =
    sym c.as_slice-rest.ensures.value
    ∙ empty-length c.as_slice-rest.result.now (eqb-true _ 0 (sym c.is_empty.ensures ∙ c.if-is_empty.true)) in
    let valid = valid-from sites c.requires.sound order order c.in_ok-settled.settled.decisions.items known.committed
    known.only known.ordered settled.1.each
    (λ t end.
    elim (settled.1.all t end) [
      | inl rest ↦ absurd (contains-none t (subst (λ (w : List ℕ). Contains w t) none rest))
      | inr done ↦ done
    ]) made.sites in (
      subst (λ (es : List Decision). IsValid (record {
        certificate = record { sites = made.sites; decisions = es };
        sites = sites;
      }))
          (sym c.certificate_of-made.ensures.decisions) valid,
      c.certificate_of-made.ensures.sites,
    )

pub free_one-requires-clause-some : goal.free_one-requires-clause-some
free_one-requires-clause-some c = positive-length c.as_slice-rest.result.now (sym c.is_empty.ensures
    ∙ c.if-is_empty.false)

pub returns : goal.returns
returns c =
    let sites = c.args.sites.now in
    let known = c.requires.known in
    let order = c.args.known.now.order.items in
    let left = c.in_ok-settled.settled.left.items in
    let ds = c.in_ok-settled.settled.decisions.items in
    let settled = c.in_ok-settled.ensures in
    let some = subst (λ (w : List ℕ). Contains w c.in_ok-_free._free × IsUnpreceded sites w c.in_ok-_free._free)
    c.as_slice-rest.ensures.value
    c.in_ok-_free.ensures in (
      subst (IsStuck sites)
          (sym (c.in_ok-txs.ensures ∙ ap (λ (es : List Decision). map decided_tx es) c.as_slice-done.ensures.value))
          (left-stuck sites order left settled.0 ds settled.1 (c.in_ok-_free._free, some.0, some.1) settled.2
          (committed-decided sites c.requires.sound order order ds known.committed known.only known.ordered
          settled.1.each)),
      c.requires.no_cycle,
      conflicts-ordered sites order known.ordered known.committed,
    )
