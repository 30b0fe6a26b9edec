use Rattle.sgt_command_line.proofs.Numbers.{not_found}
use Rattle.sgt_command_line.proofs.options.numbers_of.Goals as goal

pub returns-in_err-workers-clause-all : goal.returns-in_err-workers-clause-all
returns-in_err-workers-clause-all c = λ workers tries found.
    absurd (not_found c.number_of.result workers c.in_err-workers.was
    (c.number_of.ensures.all workers found.by_workers found.some_workers.0 found.some_workers.1))

pub returns-in_err-tries-clause-all : goal.returns-in_err-tries-clause-all
returns-in_err-tries-clause-all c = λ workers tries found.
    absurd (not_found c.number_of-2.result tries c.in_err-tries.was
    (c.number_of-2.ensures.all tries found.by_tries found.some_tries.0 found.some_tries.1))
