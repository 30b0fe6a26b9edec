use Rattle.std.proofs.Common.{ℕ, List, ◌++◌, ap, ap₂, ◌∙◌, subst, arith}
use Rattle.sgt_bundle.specs.declared.bundle.SiteLog.{SiteLog}
use Rattle.sgt_certify_logs.proofs.Inserted.{logs-one}
use Rattle.sgt_certify.specs.Answer.{Excludes, IsFirst, refusal_text}
use Rattle.sgt_certify.specs.Reasons.{AreNumbered, Holds, Tells}
use Rattle.sgt_certify.proofs.NextEnds.{none-of}
use Rattle.sgt_certify.proofs.Numbered.{numbered}
use Rattle.sgt_certify.specs.Lines.{AreLinesOf}
use Rattle.sgt_certify.proofs.Made.{none-shown}
use Rattle.sgt_certify.proofs.refuting.refused.Goals as goal

pub returns-clause-told : goal.returns-clause-told
returns-clause-told c =
    let logs = rw c.in-Some.is at c.in_ok-bundle.ensures.logs in
    let refusal = c.in-Some-2.told.refusal in
    let shown = subst (λ (sites : List SiteLog). Excludes refusal sites) c.sites.ensures.logs
    (rw c.in-Some-2.is at c.in_ok-told.ensures.shown) in
    record {
      refusal = refusal;
      lines = c.in-Some-2.told.lines.items;
      told = c.in_ok-joined.ensures ∙ ap₂ (λ (h r : List ℕ). h ++ r) c.line_of.ensures c.as_slice.ensures.value;
      sites = c.in-Some.bundle.sites;
      logs = logs;
      faultless = c.requires;
      shown = shown;
      first = subst (λ (sites : List SiteLog). IsFirst refusal sites) c.sites.ensures.logs
          (rw c.in-Some-2.is at c.in_ok-told.ensures.first);
      lines_are =
          subst (λ (sites : List SiteLog). AreLinesOf refusal sites c.in-Some-2.told.lines.items) c.sites.ensures.logs
          (rw c.in-Some-2.is at c.in_ok-told.ensures.lines);
      none = none-shown refusal c.args.text.now c.in-Some.bundle.sites logs shown;
    }

pub returns-clause-by : goal.returns-clause-by
returns-clause-by c =
    let proof = c.args.reason.now.proof in
    let tells =
    subst (λ (sites : List SiteLog). Tells sites proof c.in-Some-2.told.refusal c.in-Some-2.told.lines.items)
    c.sites.ensures.logs (rw c.in-Some-2.is at c.in_ok-told.ensures.tells) in
    record {
      sites = c.in-Some.bundle.sites;
      logs = rw c.in-Some.is at c.in_ok-bundle.ensures.logs;
      many = rw c.in-Some.is at c.in_ok-bundle.ensures.many;
      holds = tells.0;
      lines = c.in-Some-2.told.lines.items;
      lines_are = tells.2;
      told = c.in_ok-joined.ensures
          ∙ ap₂ (λ (h r : List ℕ). h ++ r) (c.line_of.ensures ∙ ap refusal_text tells.1) c.as_slice.ensures.value;
    }

pub returns-in_default-2-clause-none : goal.returns-in_default-2-clause-none
returns-in_default-2-clause-none c passes =
    let logs = rw c.in-Some.is at c.in_ok-bundle.ensures.logs in
    let here = c.in-Some.bundle.sites in
    let never = subst (λ (sites : List SiteLog). AreNumbered sites → Holds sites c.args.reason.now.proof
    → ⊥) c.sites.ensures.logs (none-of _ _ c.in_default-2.not-Some c.in_ok-told.ensures.none) in
    never (numbered c.args.text.now here logs (omega (arith, c.shared_slice_known-1.given)))
    (subst (λ (sites : List SiteLog). Holds sites c.args.reason.now.proof)
    (logs-one c.args.text.now passes.0 here passes.1 logs) passes.3)
