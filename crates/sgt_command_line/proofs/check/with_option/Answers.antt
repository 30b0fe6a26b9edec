use Rattle.std.proofs.Common.{◌≡◌, codes, rules}
use Rattle.sgt_command_line.proofs.Checking.{neither, with_order, with_real_time, with_sessions}
use Rattle.sgt_command_line.proofs.check.with_option.Goals as goal

pub returns-then-eq-clause-some : goal.returns-then-eq-clause-some
returns-then-eq-clause-some c = λ before says.
    let is : c.args.option.now ≡ codes "--order" = search rules in
    with_order before c.args.wanted c.args.option.now says is

pub returns-then-eq-2-clause-some : goal.returns-then-eq-2-clause-some
returns-then-eq-2-clause-some c = λ before says.
    let is : c.args.option.now ≡ codes "--real-time" = search rules in
    with_real_time before c.args.wanted c.args.option.now says is

pub returns-then-eq-3-clause-some : goal.returns-then-eq-3-clause-some
returns-then-eq-3-clause-some c = λ before says.
    let is : c.args.option.now ≡ codes "--sessions" = search rules in
    with_sessions before c.args.wanted c.args.option.now says is

pub returns-clause-none : goal.returns-clause-none
returns-clause-none c =
    let no_order : c.args.option.now ≡ codes "--order" → ⊥ = search rules in
    let no_real_time : c.args.option.now ≡ codes "--real-time" → ⊥ = search rules in
    let no_sessions : c.args.option.now ≡ codes "--sessions" → ⊥ = search rules in
    neither c.args.option.now no_order no_real_time no_sessions
