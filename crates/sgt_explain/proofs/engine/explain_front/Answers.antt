use Rattle.std.proofs.Common.{List, ℕ, ◌++◌, ap, ap₂, inr, subst, sym}
use Rattle.std.specs.Prelude.{string_bytes}
use Rattle.std.specs.Io.KnownBytes.{Appends}
use Rattle.sgt_names.specs.Device.{WritesFront}
use Rattle.sgt_audit.specs.Verdict.{IsVerdict}
use Rattle.sgt_explain.specs.Asked.{IsFound}
use Rattle.sgt_explain.specs.Explained.{MeansOf}
use Rattle.sgt_explain.proofs.engine.explain_front.Goals as goal

pub returns-in-Ok-clause-answer : goal.returns-in-Ok-clause-answer
returns-in-Ok-clause-answer g c =
    let answer = c.in_ok-answer.answer in
    let v = c.args.front.now.verdict in
    let meaning = string_bytes answer.meaning in
    let asked = c.args.asked in
    let same = c.as_slice.ensures.value in
    let text = string_bytes answer.line ++ meaning in (
      text,
      (
        meaning,
        subst (λ (t : List ℕ). MeansOf t asked v meaning) same c.in_ok-answer.ensures.meaning,
        subst (λ (t : List ℕ). IsFound t v asked answer.explained.is_found) same
            (c.in_ok-answer.ensures.found (subst (λ (t : List ℕ). IsVerdict t v) (sym same) c.requires)),
        c.in_ok-answer.ensures.outcome,
        ap (λ (l : List ℕ). l ++ meaning) c.in_ok-answer.ensures.line,
      ),
      subst (λ (t : List ℕ). Appends (g.W.Sink.holds c.args.writer.now) (g.W.Sink.holds c.write_both.new.writer) t)
          (ap₂ (λ (a b : List ℕ). a ++ b) c.as_bytes.ensures.value c.as_bytes-2.ensures.value) c.in-Ok.ensures.ok,
    )

pub returns-clause-front : goal.returns-clause-front
returns-clause-front g c =
    let answer = c.in_ok-answer.answer in
    let v = c.args.front.now.verdict in
    let meaning = string_bytes answer.meaning in
    let asked = c.args.asked in
    let same = c.as_slice.ensures.value in
    let text = string_bytes answer.line ++ meaning in
    inr (
      answer.explained,
      text,
      (
        meaning,
        subst (λ (t : List ℕ). MeansOf t asked v meaning) same c.in_ok-answer.ensures.meaning,
        subst (λ (t : List ℕ). IsFound t v asked answer.explained.is_found) same
            (c.in_ok-answer.ensures.found (subst (λ (t : List ℕ). IsVerdict t v) (sym same) c.requires)),
        c.in_ok-answer.ensures.outcome,
        ap (λ (l : List ℕ). l ++ meaning) c.in_ok-answer.ensures.line,
      ),
      subst (λ (t : List ℕ). WritesFront (g.W.Sink.holds c.args.writer.now) (g.W.Sink.holds c.write_both.new.writer) t)
          (ap₂ (λ (a b : List ℕ). a ++ b) c.as_bytes.ensures.value c.as_bytes-2.ensures.value) c.in-Err.ensures.err,
    )
