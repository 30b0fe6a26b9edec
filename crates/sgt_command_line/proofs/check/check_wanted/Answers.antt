use Rattle.std.proofs.Common.{◌≡◌, ◌∷◌, ◌++◌, [], List, ℕ, map, string_bytes, subst, sym, take}
use Rattle.sgt_command_line.specs.Check.{IsCheckOption, SaysCheck}
use Rattle.sgt_command_line.proofs.Checking.{no_option, on_none, words_more}
use Rattle.sgt_command_line.proofs.check.check_wanted.Goals as goal

pub returns-in_err-wanted-clause-none : goal.returns-in_err-wanted-clause-none
returns-in_err-wanted-clause-none c =
    on_none c.from_residual.result _
    (no_option c.args.options.now c.loop-option.option-index c.option-item.result c.loop-option-test.true
    c.option-item.is
    (λ is. c.in_err-wanted.ensures.none (subst IsCheckOption (sym c.as_str.ensures.value) is)))

pub loop-option-preserved : goal.loop-option-preserved
loop-option-preserved c =
    let options = map string_bytes (take c.loop-option.option-index c.args.options.now) in
    let one = c.in_ok-wanted.ensures.some options c.loop-option.invariant in
    subst (λ (words : List (List ℕ)). SaysCheck words c.in_ok-wanted.wanted)
    (words_more c.args.options.now c.loop-option.option-index c.option-item.result c.loop-option-test.true
    c.option-item.is)
    (subst (λ (word : List ℕ). SaysCheck (options ++ (word ∷ [])) c.in_ok-wanted.wanted) c.as_str.ensures.value one)
