use Rattle.std.proofs.Common.{Ok, Some, inl, inr, ap, map, string_bytes}
use Rattle.clap.specs.Words.{app_of}
use Rattle.clap.specs.declared.parser.matches.ArgMatches.{ArgMatches}
use Rattle.sgt_command_line.proofs.Numbers.{finds, same_numbers, says, wants_memory}
use Rattle.sgt_command_line.proofs.options.choose_run.Goals as goal

pub returns-in-Err-2-clause-all : goal.returns-in-Err-2-clause-all
returns-in-Err-2-clause-all c = λ workers tries asked.
    let memory =
    c.lacks_memory.ensures.1
    (wants_memory ArgMatches (app_of c.in_ok-line.line) (map string_bytes c.args.words.now) c.in-Err.error
    c.in_ok-line.ensures c.in-Err.ensures.kinds asked.taken) in
    let no = c.if-lacks_memory.false in
    absurd cc

pub returns-in-Some-clause-some : goal.returns-in-Some-clause-some
returns-in-Some-clause-some c =
    says (app_of c.in_ok-line.line) (map string_bytes c.args.words.now) c.in-Ok.matches c.in-Some.workers
    c.in-Some.tries
    c.in_ok-line.ensures c.in-Ok.ensures.ok.2 c.in-Ok.ensures.kinds c.in-Some.ensures.found

pub returns-in-Some-clause-all : goal.returns-in-Some-clause-all
returns-in-Some-clause-all c = λ workers tries asked.
    let found = c.numbers_of.ensures.all workers tries
    (finds (app_of c.in_ok-line.line) (map string_bytes c.args.words.now) c.in-Ok.matches workers tries
    c.in_ok-line.ensures c.in-Ok.ensures.ok.2 asked) in
    inl (ap (λ r. Ok (Some r)) (same_numbers c.numbers_of.result _ _ workers tries c.in-Some.is found))

pub returns-clause-all : goal.returns-clause-all
returns-clause-all c = λ workers tries asked.
    let found = c.numbers_of.ensures.all workers tries
    (finds (app_of c.in_ok-line.line) (map string_bytes c.args.words.now) c.in-Ok.matches workers tries
    c.in_ok-line.ensures c.in-Ok.ensures.ok.2 asked) in
    let none = c.in-None.is in
    absurd cc
