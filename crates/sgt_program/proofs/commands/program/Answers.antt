use Rattle.std.proofs.Common.{◌≡◌, ◌<◌, ◌≤◌, ◌∙◌, Err, ap, arith, inl, length, map, refl, rules, string_bytes, subst}
use Rattle.sgt_names.specs.declared.outcome.EngineFail.TheVariants.{Memory}
use Rattle.sgt_program.proofs.Answered.{help-answers, high-stops, help_four, memory-answers, run-memory, usage-answers}
use Rattle.sgt_program.proofs.Chosen.{is_memory, left_unread, names_keeper, no_refusal, of_a_run, same_asked}
use Rattle.sgt_program.proofs.Told.{asks_workers, failed_more, helped, leaves_more, quiet_more, tells-errors}
use Rattle.sgt_program.specs.Commands as comes
use Rattle.sgt_program.specs.Commands.{Answers, LeavesUnread, StopsAtFault}
use Rattle.sgt_program.specs.Ending.{status_of}
use Rattle.sgt_command_line.specs.Words.{AsksFor, TellsHelp}
use Rattle.sgt_program.specs.declared.ending.Ending.TheVariants.{Ran, NoCommand}
use Rattle.sgt_program.proofs.commands.program.Goals as goal

pub returns-in-Ok-clause-asked : goal.returns-in-Ok-clause-asked
returns-in-Ok-clause-asked g c = λ choice asks.
    rw c.finish.ensures.status
    (same_asked c.choose.result _ choice (λ choice. Answers choice (status_of (Ran c.run_choice.result))
    (g.R.Source.tells c.args.reader.now) (g.W.Sink.holds c.args.writer.now) (g.W.Sink.holds c.run_choice.new.writer)) _
    c.in-Ok.is (c.choose.ensures.all choice asks) c.run_choice.ensures.answers)

pub returns-in-Ok-clause-unread : goal.returns-in-Ok-clause-unread
returns-in-Ok-clause-unread g c = λ choice asks.
    same_asked c.choose.result _ choice (λ choice. LeavesUnread choice (c.run_choice.new.reader ≡ c.args.reader.now)) _
    c.in-Ok.is (c.choose.ensures.all choice asks) c.run_choice.ensures.unread

pub returns-in-Err-Help-clause-unread : goal.returns-in-Err-Help-clause-unread
returns-in-Err-Help-clause-unread g c = λ choice asks. left_unread choice _ refl

pub returns-in-Err-Usage-clause-unread : goal.returns-in-Err-Usage-clause-unread
returns-in-Err-Usage-clause-unread g c = λ choice asks. left_unread choice _ refl

pub returns-in-Err-Memory-clause-unread : goal.returns-in-Err-Memory-clause-unread
returns-in-Err-Memory-clause-unread g c = λ choice asks. left_unread choice _ refl

pub returns-in-Ok-clause-chosen : goal.returns-in-Ok-clause-chosen
returns-in-Ok-clause-chosen g c =
    comes.command c.in-Ok.choice c.in-Ok.ensures.only (rw c.finish.ensures.status c.run_choice.ensures.answers)

pub returns-in-Ok-clause-ends : goal.returns-in-Ok-clause-ends
returns-in-Ok-clause-ends g c =
    let finished = c.finish.ensures in (
      Ran c.run_choice.result,
      finished.status,
      leaves_more c.run_choice.result _ _ _ _ _ _
          (quiet_more _ _ _ _ _ _
          (asks_workers (map string_bytes c.args.words.now) c.in-Ok.choice c.in-Ok.ensures.only))
          (failed_more _ _ _ _ _ _ _
          (names_keeper (map string_bytes c.args.words.now) c.in-Ok.choice c.in-Ok.ensures.only))
          c.run_choice.ensures.ends,
      tells-errors c.run_choice.result _ _ finished.silent finished.told,
    )

pub returns-in-Err-Help-clause-asked : goal.returns-in-Err-Help-clause-asked
returns-in-Err-Help-clause-asked g c = λ choice asks.
    let said = c.in-Err-Help in
    absurd (no_refusal c.choose.result choice said.field-0 _ (c.choose.ensures.all choice asks) said.is
    (ap is_memory said.field-0-is))

pub returns-in-Err-Help-clause-chosen : goal.returns-in-Err-Help-clause-chosen
returns-in-Err-Help-clause-chosen g c =
    let said = c.in-Err-Help in
    let shown = c.show_help.ensures in
    let some : 0 < length c.as_str.result.now = search rules in
    comes.other
    (λ choice asks. no_refusal c.choose.result choice said.field-0 _ (c.choose.ensures.all choice asks) said.is
    (ap is_memory said.field-0-is))
    (λ high.
    let status = c.finish-in-Err-Help.ensures.status in (
      status ∙ help_four c.show_help.result _ _ shown.yes shown.fault (subst (λ n. 3 ≤ n) status high),
      rw said.field-0-is at said.ensures.help,
    ))
    refl
    (rw c.finish-in-Err-Help.ensures.status
    (help-answers _ _ _ _ _ c.show_help.result (rw said.field-0-is at said.ensures.help)
    some shown.text shown.front shown.yes))

pub returns-in-Err-Help-clause-ends : goal.returns-in-Err-Help-clause-ends
returns-in-Err-Help-clause-ends g c =
    let finished = c.finish-in-Err-Help.ensures in
    let shown = c.show_help.ensures in (
      Ran c.show_help.result,
      finished.status,
      helped c.show_help.result _ _ _ _ _ _ shown.yes shown.fault,
      tells-errors c.show_help.result _ _ finished.silent finished.told,
    )

pub returns-in-Err-Usage-clause-asked : goal.returns-in-Err-Usage-clause-asked
returns-in-Err-Usage-clause-asked g c = λ choice asks.
    let said = c.in-Err-Usage in
    absurd (no_refusal c.choose.result choice said.field-0 _ (c.choose.ensures.all choice asks) said.is
    (ap is_memory said.field-0-is))

pub returns-in-Err-Usage-clause-chosen : goal.returns-in-Err-Usage-clause-chosen
returns-in-Err-Usage-clause-chosen g c =
    let said = c.in-Err-Usage in
    comes.other
    (λ choice asks. no_refusal c.choose.result choice said.field-0 _ (c.choose.ensures.all choice asks) said.is
    (ap is_memory said.field-0-is))
    (λ high. absurd (omega (arith, high, c.refuse.ensures.status)))
    refl
    (usage-answers _ _ _ _ (rw said.field-0-is at said.ensures.help) c.refuse.ensures.status)

pub returns-in-Err-Usage-clause-ends : goal.returns-in-Err-Usage-clause-ends
returns-in-Err-Usage-clause-ends g c =
    let refused = c.refuse.ensures in (
      NoCommand,
      refused.status,
      ((inl refl, refl), refl),
      (c.as_str-in-Err-Usage.result.now, refused.some, refused.told),
    )

pub returns-in-Err-Bare-clause-asked : goal.returns-in-Err-Bare-clause-asked
returns-in-Err-Bare-clause-asked g c = λ choice asks.
    let said = c.in-Err-Bare in
    absurd (no_refusal c.choose.result choice said.field-0 _ (c.choose.ensures.all choice asks) said.is
    (ap is_memory said.field-0-is))

pub returns-in-Err-Bare-clause-unread : goal.returns-in-Err-Bare-clause-unread
returns-in-Err-Bare-clause-unread g c = λ choice asks. left_unread choice _ refl

pub returns-in-Err-Bare-clause-chosen : goal.returns-in-Err-Bare-clause-chosen
returns-in-Err-Bare-clause-chosen g c =
    let said = c.in-Err-Bare in
    comes.other
    (λ choice asks. no_refusal c.choose.result choice said.field-0 _ (c.choose.ensures.all choice asks) said.is
    (ap is_memory said.field-0-is))
    (λ high. absurd (omega (arith, high, c.refuse-in-Err-Bare.ensures.status)))
    refl
    (usage-answers _ _ _ _ (rw said.field-0-is at said.ensures.help) c.refuse-in-Err-Bare.ensures.status)

pub returns-in-Err-Bare-clause-ends : goal.returns-in-Err-Bare-clause-ends
returns-in-Err-Bare-clause-ends g c =
    let refused = c.refuse-in-Err-Bare.ensures in
    (NoCommand, refused.status, ((inl refl, refl), refl), (_, refused.some, refused.told))

pub returns-in-Err-Memory-clause-asked : goal.returns-in-Err-Memory-clause-asked
returns-in-Err-Memory-clause-asked g c = λ choice asks.
    run-memory choice _ _ _ (of_a_run c.choose.result choice _ (c.choose.ensures.all choice asks)
    (c.in-Err-Memory.is ∙ ap Err c.in-Err-Memory.field-0-is)) c.give_up.ensures.status

pub returns-in-Err-Memory-clause-chosen : goal.returns-in-Err-Memory-clause-chosen
returns-in-Err-Memory-clause-chosen g c =
    comes.memory c.give_up.ensures.status (c.choose.ensures.memory (c.in-Err-Memory.is
    ∙ ap Err c.in-Err-Memory.field-0-is)) refl (memory-answers _ c.give_up.result _ c.give_up.ensures.status)

pub returns-in-Err-Memory-clause-ends : goal.returns-in-Err-Memory-clause-ends
returns-in-Err-Memory-clause-ends g c =
    let gave = c.give_up.ensures in
    (Ran (Err Memory), gave.status, ((inl refl, refl), refl), gave.told)

pub returns-in-Ok-clause-none_behind : goal.returns-in-Ok-clause-none_behind
returns-in-Ok-clause-none_behind g c = λ choice asks.
    rw c.finish.ensures.status
    (same_asked c.choose.result _ choice (λ choice. StopsAtFault choice (status_of (Ran c.run_choice.result))
    (g.R.Source.tells c.args.reader.now) (g.R.Source.tells c.run_choice.new.reader)
    (g.R.Source.last c.run_choice.new.reader)) _
    c.in-Ok.is (c.choose.ensures.all choice asks) c.run_choice.ensures.none_behind)

pub returns-in-Err-Help-clause-none_behind : goal.returns-in-Err-Help-clause-none_behind
returns-in-Err-Help-clause-none_behind g c = λ choice asks.
    let said = c.in-Err-Help in
    absurd (no_refusal c.choose.result choice said.field-0 _ (c.choose.ensures.all choice asks) said.is
    (ap is_memory said.field-0-is))

pub returns-in-Err-Usage-clause-none_behind : goal.returns-in-Err-Usage-clause-none_behind
returns-in-Err-Usage-clause-none_behind g c = λ choice asks.
    let said = c.in-Err-Usage in
    absurd (no_refusal c.choose.result choice said.field-0 _ (c.choose.ensures.all choice asks) said.is
    (ap is_memory said.field-0-is))

pub returns-in-Err-Bare-clause-none_behind : goal.returns-in-Err-Bare-clause-none_behind
returns-in-Err-Bare-clause-none_behind g c = λ choice asks.
    let said = c.in-Err-Bare in
    absurd (no_refusal c.choose.result choice said.field-0 _ (c.choose.ensures.all choice asks) said.is
    (ap is_memory said.field-0-is))

pub returns-in-Err-Memory-clause-none_behind : goal.returns-in-Err-Memory-clause-none_behind
returns-in-Err-Memory-clause-none_behind g c = λ choice asks.
    high-stops choice _ _ _ _ (omega (arith, c.give_up.ensures.status))
