use Rattle.std.proofs.Common.{◌≡◌, ◌∷◌, ◌∙◌, Some, ap, codes, map, string_bytes}
use Rattle.sgt_command_line.proofs.Told.{asks_run, on_found, only_run}
use Rattle.sgt_command_line.proofs.choice.choice_of.Goals as goal

pub returns-in-Some-Run-clause-some : goal.returns-in-Some-Run-clause-some
returns-in-Some-Run-clause-some c =
    let word : c.in-Some.word.now ≡ codes "run" = rw c.in-Some-Run.field-0-is at c.in-Some-Run.ensures.some in
    let words : map string_bytes c.args.words.now ≡ codes "run" ∷ map string_bytes c.in-Some.options.now =
    c.in-Some.ensures ∙ ap (λ t. t ∷ map string_bytes c.in-Some.options.now) word in
    on_found c.choose_run.result _ _ (asks_run _ _ words) c.choose_run.ensures.some

pub returns-in-Some-Run-clause-all : goal.returns-in-Some-Run-clause-all
returns-in-Some-Run-clause-all c =
    let word : c.in-Some.word.now ≡ codes "run" = rw c.in-Some-Run.field-0-is at c.in-Some-Run.ensures.some in
    let words : map string_bytes c.args.words.now ≡ codes "run" ∷ map string_bytes c.in-Some.options.now =
    c.in-Some.ensures ∙ ap (λ t. t ∷ map string_bytes c.in-Some.options.now) word in
    only_run _ _ c.named.result c.choose_run.result words (c.in-Some-Run.is ∙ ap Some c.in-Some-Run.field-0-is)
    (λ name e. c.named.ensures.all name (word ∙ e)) c.choose_run.ensures.all
