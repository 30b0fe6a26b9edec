use Rattle.std.proofs.Common.{ℕ, ◌++◌, ◌∷◌, List, sym, subst, ◌∙◌, ap}
use Rattle.std.proofs.lemmas.Result.{IfOk-weaker}
use Rattle.sgt_bundle.specs.Text.{AreSections}
use Rattle.sgt_audit.specs.Faults.{whole}
use Rattle.sgt_audit.specs.Reading.{lines_read}
use Rattle.sgt_audit_decisions.proofs.Loops.{refuted}
use Rattle.sgt_certify_faults.specs.private.Reading.{Follows}
use Rattle.sgt_certify_faults.proofs.Broken.{line-last, trailing-broken, unread-broken}
use Rattle.sgt_certify_faults.proofs.reading.Reading.next.Goals as goal

pub returns-then-is_complete : goal.returns-then-is_complete
returns-then-is_complete c bytes rest more count are h cut =
    let b = h.sections in
    let all =
    subst (λ n. AreSections n (lines_read b)) h.read.sites
    ((c.is_complete.ensures b h.read.begun h.place).0 c.if-is_complete.true) in
    (b, h.read, trailing-broken c.args.second (lines_read b) (whole c.args.line.now) all (line-last c.args.line.now))

pub returns-in-Some : goal.returns-in-Some
returns-in-Some c =
    IfOk-weaker c.follow.result _ _ (λ fault follows bytes rest more count are h cut.
    let b = h.sections in
    let text = c.in-Some.ensures.1 in
    subst (λ (l : List ℕ). Follows c.args.second c.args.decided.now.decisions bytes count c.args.self.now
    c.follow.new.self rest l more fault) (sym text)
    (follows c.args.second bytes rest more count are h
    (λ all. refuted c.is_complete.result (c.is_complete.ensures b h.read.begun h.place) c.if-is_complete.false
    (subst (λ n. AreSections n (lines_read b)) (sym h.read.sites) all))
    c.in-Some.ensures.0 (cut ∙ ap (λ (l : List ℕ). l ++ 10 ∷ more) text)))
    c.follow.ensures

pub returns-in-None : goal.returns-in-None
returns-in-None c bytes rest more count are h cut =
    let b = h.sections in (
      b,
      h.read,
      unread-broken c.args.second (lines_read b) c.args.line.now
          (λ all. refuted c.is_complete.result (c.is_complete.ensures b h.read.begun h.place) c.if-is_complete.false
          (subst (λ n. AreSections n (lines_read b)) (sym h.read.sites) all))
          c.in-None.ensures,
    )
