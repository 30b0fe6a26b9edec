use Rattle.std.proofs.Common.{◌≡◌, ◌∷◌, ◌∙◌, [], ap, codes, map, rules, string_bytes}
use Rattle.sgt_command_line.specs.Words.{SaysWorkers}
use Rattle.sgt_command_line.proofs.Told.{no_workers, none_told}
use Rattle.sgt_command_line.proofs.behind.audit_behind.Goals as goal

pub returns-in_err-workers-clause-all : goal.returns-in_err-workers-clause-all
returns-in_err-workers-clause-all c = λ choice is says.
    let first : c.in-Some.word.now ≡ codes "--workers" = search rules in
    let options : map string_bytes c.args.options.now ≡ codes "--workers" ∷ c.in_ok-only_of.field-0.now ∷ [] =
    c.in-Some.ensures ∙ (ap (λ t. t ∷ map string_bytes c.in-Some.behind.now) first ∙ ap (λ l. codes "--workers" ∷ l) c.in_ok-only_of.ensures) in
    absurd (no_workers _ _ options (none_told c.workers_of.result (SaysWorkers c.in_ok-only_of.field-0.now)
    c.in_err-workers.was c.workers_of.ensures.all) choice is says)
