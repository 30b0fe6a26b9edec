use Rattle.std.proofs.Common.{List, ℕ, [], ◌++◌, ap, ◌∙◌, sym, subst}
use Rattle.std.specs.Prelude.{string_bytes}
use Rattle.sgt_explain.specs.Asked.{TellsAsked}
use Rattle.sgt_explain.proofs.Telling.{means-both}
use Rattle.sgt_explain.proofs.answers.meaning_of.Goals as goal

pub returns-clause-means : goal.returns-clause-means
returns-clause-means c =
    means-both c.args.bytes.now c.args.asked c.args.verdict _
    c.as_str-2.result.now (string_bytes c.in_ok-joined.field-0) c.in_ok-told.ensures.told c.in_ok-told.ensures.cycles
    (subst (λ (t : List ℕ). TellsAsked c.args.bytes.now c.args.verdict c.args.asked [] t)
    (sym c.as_str-2.ensures.value) c.in_ok-dealings.ensures.told)
    (c.in_ok-joined.ensures ∙ ap (λ (t : List ℕ). t ++ c.as_str-2.result.now) c.as_str.ensures.value)
