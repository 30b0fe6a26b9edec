use Rattle.std.proofs.Common.{arith, length, sym, ap, ◌∙◌, subst}
use Rattle.std.specs.Prelude.{not}
use Rattle.std.proofs.lemmas.List.{nil_from_length}
use Rattle.std.proofs.lemmas.Option.{none-some}
use Rattle.sgt_bundle.specs.Text.{AreSections}
use Rattle.sgt_audit.specs.Reading.{lines_read}
use Rattle.sgt_audit.proofs.Places.{no-open, open-log}
use Rattle.sgt_audit_decisions.proofs.Loops.{empty, not-empty, refuted}
use Rattle.sgt_certify_faults.proofs.Broken.{end-broken, own-sections, some-sections}
use Rattle.sgt_certify_faults.proofs.reading.Reading.end.Goals as goal
use Rattle.sgt_certify_faults.proofs.reading.Reading.end.Goals.{else-is_empty-2-via-then-is_empty-2+then-is_none+else-self-gt0, else-is_empty-2-via-then-is_empty-2+else-is_none, else-is_empty-2-via-else-is_empty-2}
use Rattle.sgt_names.proofs.Elements.{is_some-none, is_some-some}

pub returns-then-self-gt0-clause-none : goal.returns-then-self-gt0-clause-none
returns-then-self-gt0-clause-none c b sites begun place =
    let bare = is_some-none c.args.self.now.place.current (c.is_none.ensures ∙ ap not c.if-is_none.true) in
    let none = no-open b c.args.self.now.place begun place bare in (
      nil_from_length c.args.rest.now (empty _ _ c.is_empty-2.ensures c.if-is_empty-2.true),
      (length b.whole, own-sections b begun none (omega (arith, c.if-self-gt0.true, place.whole))),
    )

pub returns-clause-some : goal.returns-clause-some
returns-clause-some c b second sites begun place =
    let p = c.args.self.now.place in
    end-broken second (lines_read b) c.args.rest.now
    (λ all. refuted c.is_complete.result (c.is_complete.ensures b begun place) c.if-is_complete.false
    (subst (λ n. AreSections n (lines_read b)) (sym sites) all))
    (omega (arith, c.if-rest-gt-MAX_LINE.false))
    (λ none count are.
    let s = some-sections b count are in
    elim c.else-is_empty-2.branch [
      | else-is_empty-2-via-then-is_empty-2+then-is_none+else-self-gt0 w ↦ absurd
          (omega (arith, w.if-self-gt0.false, s.1, place.whole))
      | else-is_empty-2-via-then-is_empty-2+else-is_none w ↦
          let o = is_some-some p.current (w.is_none.ensures ∙ ap not w.if-is_none.false) in
          let log = open-log b p begun place o.0 o.1 in
          none-some log.0 (sym s.0 ∙ log.1)
      | else-is_empty-2-via-else-is_empty-2 w ↦
          let some = not-empty _ _ c.is_empty-2.ensures w.if-is_empty-2.false in
          absurd (omega (arith, some, ap length none))
    ])
