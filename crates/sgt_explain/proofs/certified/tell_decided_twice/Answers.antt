use Rattle.std.proofs.Common.{List, sym, ◌∙◌, subst}
use Rattle.std.specs.Prelude.{OnOk, string_bytes}
use Rattle.sgt_bundle.specs.Certificate.{IsDecidedOnce}
use Rattle.sgt_bundle.specs.declared.certificate.Decision.{Decision}
use Rattle.sgt_audit.specs.Faults.{bytes_of}
use Rattle.sgt_explain_decisions.specs.Twice.{TellsTwice}
use Rattle.sgt_explain.proofs.ShownDecisions.{twice-held, twice-broken, tells-read_certificate, none-read}
use Rattle.sgt_explain.proofs.Telling.{on-all}
use Rattle.sgt_explain.proofs.certified.tell_decided_twice.Goals as goal

pub returns-in-Some : goal.returns-in-Some
returns-in-Some c =
    let told =
    λ (ds : List Decision). TellsTwice ds (string_bytes c.args.out.now)
    (string_bytes c.push_decided_twice.new.out) in
    on-all _ c.push_decided_twice.result (λ first. tells-read_certificate c.push_decided_twice.result c.args.bytes.now
    (bytes_of first.next) c.in-Some.certificate told
    (λ d held. sym c.in-Some.is ∙ c.in_ok-certificate.ensures.only d held)
    (twice-held c.args.bytes.now c.args.number first)
    (subst (λ ds. OnOk c.push_decided_twice.result (told ds)) c.decisions.ensures
    (c.push_decided_twice.ensures.twice
    (λ once. twice-broken c.args.bytes.now c.args.number first c.in-Some.certificate
    (λ d held. sym c.in-Some.is ∙ c.in_ok-certificate.ensures.only d held)
    (subst IsDecidedOnce c.decisions.ensures once)))))

pub returns-in-None : goal.returns-in-None
returns-in-None c =
    λ first. none-read c.args.bytes.now (bytes_of first.next)
    (λ ds. TellsTwice ds (string_bytes c.args.out.now) (string_bytes c.args.out.now))
    (λ d held. sym c.in-None.is ∙ c.in_ok-certificate.ensures.only d held)
    (twice-held c.args.bytes.now c.args.number first)
