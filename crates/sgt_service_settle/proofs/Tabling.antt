-- The table of the decisions, as a walk over the calls fills it.
use Rattle.std.proofs.Common.{◌≡◌, ◌↔◌, ◌≤◌, ◌+◌, ℕ, List, [], ◌∷◌, ◌++◌, drop, length, None, Some, refl, sym, ap, ◌∙◌, subst, arith, inl, inr}
use Rattle.std.specs.Prelude.{slice_get}
use Rattle.std.proofs.lemmas.Option.{same_Some, none-some}
use Rattle.std.proofs.lemmas.List.{length_push, append-nil}
use Rattle.sgt_order.proofs.Lists.{get_push_cases}
use Rattle.sgt_certifier.specs.declared.call.Call.{Call}
use Rattle.sgt_certifier.specs.declared.call.Call.TheVariants as call
use Rattle.sgt_certifier.specs.declared.call.Decided.TheVariants as decided
use Rattle.sgt_certifier.specs.Certifier.{Ruling, withdrawn}
use Rattle.sgt_certifier.specs.Kept.{rulings_from, windows_after, ruling_of, tx_at}
use Rattle.sgt_certifier.proofs.Certifying.{windows_few}
use Rattle.sgt_workers.specs.declared.ticket.Ticket.{Ticket}
use Rattle.sgt_service_settle.specs.Settled.{Tells}
use Rattle.sgt_service_settle.specs.declared.decisions.Verdict.{Verdict}
use Rattle.sgt_service_settle.specs.private.Tickets.{AreVerdicts, TellsVerdict, verdict_of}
use Rattle.sgt_service_settle.proofs.Ticketing.{Rules, step_on}
use Rattle.sgt_names.proofs.Elements.{get-push_last}
use Rattle.sgt_names.proofs.Lists.{front_at}

-- a verdict of the table, and the decision of its number
pub record IsRuled (rulings : List Ruling) (n : ℕ) (v : Verdict) : Type 0 where
  pub ruling : Ruling
  pub at : slice_get rulings n ≡ Some ruling
  pub tells : (t : Ticket) → Tells t ruling ↔ TellsVerdict t v

abbrev pub AreRuled : List Ruling → List Verdict → Type 0
AreRuled rulings verdicts = (n : ℕ) (v : Verdict) → slice_get verdicts n ≡ Some v → IsRuled rulings n v

-- the decisions that were met stand in the table
pub record IsTabled (history : List Call) (n begun before : ℕ) (verdicts : List Verdict) : Type 0 where
  pub met : List Ruling
  pub whole : rulings_from 0 0 history ≡ met ++ rulings_from begun before (drop n history)
  pub many : length met ≡ length verdicts
  pub ruled : AreRuled met verdicts
  pub few : begun ≤ n

-- the decision that a call makes
record IsVerdict (before : ℕ) (c : Call) (v : Verdict) : Type 0 where
  ruling : Ruling
  rules : Rules before c ruling
  tells : (t : Ticket) → Tells t ruling ↔ TellsVerdict t v

verdict_is : (before : ℕ) (c : Call) (v : Verdict) → verdict_of before c ≡ Some v → IsVerdict before c v
verdict_is before (call.Begin tx h) v is = absurd (none-some v is)
verdict_is before (call.Decide h edges (decided.Committed number)) v is = record {
  ruling = ruling_of (tx_at before h) (decided.Committed number);
  rules = refl;
  tells = λ t. (
    λ k. subst (TellsVerdict t) (same_Some _ v is) k,
    λ k. subst (TellsVerdict t) (sym (same_Some _ v is)) k,
  );
}
verdict_is before (call.Decide h edges (decided.Refused number walk)) v is = record {
  ruling = ruling_of (tx_at before h) (decided.Refused number walk);
  rules = refl;
  tells = λ t. (
    λ k. subst (TellsVerdict t) (same_Some _ v is) k,
    λ k. subst (TellsVerdict t) (sym (same_Some _ v is)) k,
  );
}
verdict_is before (call.Finish tx) v is = absurd (none-some v is)
verdict_is before (call.Withdraw h number) v is = record {
  ruling = withdrawn (tx_at before h);
  rules = refl;
  tells = λ t. (
    λ k. subst (TellsVerdict t) (same_Some _ v is) k,
    λ k. subst (TellsVerdict t) (sym (same_Some _ v is)) k,
  );
}
verdict_is before (call.Close ranks) v is = absurd (none-some v is)
verdict_is before (call.Installed tx site items) v is = absurd (none-some v is)

no_verdict : (before : ℕ) (c : Call) → verdict_of before c ≡ None → rulings_from 0 before (c ∷ []) ≡ []
no_verdict before (call.Begin tx h) is = refl
no_verdict before (call.Decide h edges reply) is = absurd (none-some _ (sym is))
no_verdict before (call.Finish tx) is = refl
no_verdict before (call.Withdraw h number) is = absurd (none-some _ (sym is))
no_verdict before (call.Close ranks) is = refl
no_verdict before (call.Installed tx site items) is = refl

ruled_push : (met : List Ruling) (verdicts : List Verdict) (r : Ruling) (v : Verdict) → length met ≡ length verdicts
    → ((t : Ticket) → Tells t r ↔ TellsVerdict t v) → AreRuled met verdicts
    → AreRuled (met ++ r ∷ []) (verdicts ++ v ∷ [])
ruled_push met verdicts r v long tells old n w at =
    elim (get_push_cases verdicts v w n at) [
      | inl early ↦ let was = old n w early in
          record { ruling = was.ruling; at = front_at met (r ∷ []) n was.ruling was.at; tells = was.tells }
      | inr last ↦ record {
        ruling = r;
        at = ap (slice_get (met ++ r ∷ [])) (last.0 ∙ sym long) ∙ get-push_last met r;
        tells = λ t. subst (λ x. Tells t r ↔ TellsVerdict t x) last.1 (tells t);
      }
    ]

pub tabled_verdict : (history : List Call) (n begun before : ℕ) (verdicts : List Verdict) (c : Call) (v : Verdict)
    → IsTabled history n begun before verdicts → slice_get history n ≡ Some c → verdict_of before c ≡ Some v
    → IsTabled history (n + 1) (windows_after begun before c).0 (windows_after begun before c).1 (verdicts ++ v ∷ [])
tabled_verdict history n begun before verdicts c v t at is =
    let step = step_on history n begun before t.met c t.whole at in
    let made = verdict_is before c v is in
    let few = windows_few begun before c in
    record {
      met = t.met ++ made.ruling ∷ [];
      whole = step
          ∙ ap (λ xs. (t.met ++ xs) ++ rulings_from (windows_after begun before c).0 (windows_after begun before c).1
          (drop (n + 1) history)) made.rules;
      many = length_push t.met made.ruling ∙ (ap (λ k. k + 1) t.many ∙ sym (length_push verdicts v));
      ruled = ruled_push t.met verdicts made.ruling v t.many made.tells t.ruled;
      few = omega (arith, few, t.few);
    }

pub tabled_on : (history : List Call) (n begun before : ℕ) (verdicts : List Verdict) (c : Call)
    → IsTabled history n begun before verdicts → slice_get history n ≡ Some c → verdict_of before c ≡ None
    → IsTabled history (n + 1) (windows_after begun before c).0 (windows_after begun before c).1 verdicts
tabled_on history n begun before verdicts c t at is =
    let step = step_on history n begun before t.met c t.whole at in
    let few = windows_few begun before c in
    let rest = rulings_from (windows_after begun before c).0 (windows_after begun before c).1 (drop (n + 1) history) in
    record {
      met = t.met;
      whole = step ∙ (ap (λ xs. (t.met ++ xs) ++ rest) (no_verdict before c is)
          ∙ ap (λ xs. xs ++ rest) (append-nil t.met));
      many = t.many;
      ruled = t.ruled;
      few = omega (arith, few, t.few);
    }

-- what stands in the table is so
pub tabled_are : (history : List Call) (n begun before : ℕ) (verdicts : List Verdict)
    → IsTabled history n begun before verdicts → AreVerdicts (rulings_from 0 0 history) verdicts
tabled_are history n begun before verdicts table t v at =
    let r = table.ruled t.number v at in
    let place : slice_get (rulings_from 0 0 history) t.number ≡ Some r.ruling =
    ap (λ xs. slice_get xs t.number) table.whole
    ∙ front_at table.met (rulings_from begun before (drop n history)) t.number r.ruling r.at in (
      λ good. (r.tells t).0 (subst (Tells t) (same_Some good.0 r.ruling (sym good.1 ∙ place)) good.2),
      λ told. (r.ruling, place, (r.tells t).1 told),
    )
