-- What the engines' answers say, by the status.
use Rattle.std.proofs.Common.{◌≡◌, ◌<◌, ◌≤◌, ◌↔◌, ℕ, List, [], ◌∷◌, Option, Some, None, Result, Ok, Err, inl, length, refl, subst, arith}
use Rattle.std.specs.Prelude.{IfErr, IfSome, IfOk, OnErr, OnOk}
use Rattle.std.specs.Io.KnownBytes.{Appends}
use Rattle.sgt_names.specs.declared.outcome.EngineFail.{EngineFail}
use Rattle.sgt_names.specs.declared.outcome.EngineFail.TheVariants.{Memory, ReadFault, WriteFault}
use Rattle.sgt_names.specs.declared.outcome.Outcome.{Outcome}
use Rattle.sgt_names.specs.declared.outcome.Outcome.TheVariants as Outcome_
use Rattle.sgt_names.specs.Device.{WritesFront}
use Rattle.sgt_names.proofs.Devices.{wrote_nothing}
use Rattle.sgt_audit.specs.Verdict as audit
use Rattle.sgt_audit.specs.Verdict.{IsVerdict, SaysHeadline, text_of}
use Rattle.sgt_audit.specs.declared.verdict.Verdict.{Verdict}
use Rattle.sgt_audit.specs.declared.verdict.Verdict.TheVariants.{Yes, No}
use Rattle.sgt_serial.specs.Answer as serial
use Rattle.sgt_explain.specs.Topics.{IsRuleOf, topic_name}
use Rattle.sgt_explain.specs.declared.topics.Topic.{Topic}
use Rattle.sgt_line.specs.declared.name.CommandName.TheVariants as command
use Rattle.sgt_command_line.specs.Words.{AsksHelp, command_of}
use Rattle.sgt_command_line.specs.declared.choice.Choice.{Choice}
use Rattle.sgt_command_line.specs.declared.choice.Choice.TheVariants.{Audit, AuditWith, Certify, Check, Draw, DrawWith, Explain, Replay, Rule, Run, Serial}
use Rattle.sgt_program.specs.Commands.{Answers, AnswersAudit, AnswersRule, AnswersSerial, AnswersOthers, ByStatus, StopsAtFault, outcome}
use Rattle.sgt_program.specs.Ending.{status_of}
use Rattle.sgt_program.specs.declared.ending.Ending.TheVariants.{Ran}

pub verdict-answers : (told old new : Option (List ℕ)) (v : Verdict) → IfSome told (λ bytes. IsVerdict bytes v)
    → IfSome told (λ bytes. SaysHeadline bytes v) → Appends old new (text_of v)
    → AnswersAudit (status_of (Ran (Ok (outcome v)))) told old new
verdict-answers told old new (Yes c r w) is headline wrote = record {
  yes = λ e. (headline, (c, r, w, (is, wrote)));
  no = λ e. absurd (omega arith);
  known = λ e. absurd (omega arith);
  front = λ le. absurd (omega arith);
}
verdict-answers told old new (No line fault) is headline wrote = record {
  yes = λ e. absurd (omega arith);
  no = λ e. (line, fault, (is, wrote));
  known = λ e. absurd (omega arith);
  front = λ le. absurd (omega arith);
}

-- where there is no answer the status is 3 or 4
pub failing : (fail : EngineFail) → 3 ≤ status_of (Ran (Err fail))
failing Memory = omega arith
failing ReadFault = omega arith
failing WriteFault = omega arith

-- what holds of every answer holds where the status is below 3
pub low-answered : (r : Result Outcome EngineFail) (P : Type 0) → IfOk r (λ outcome. P) → status_of (Ran r) < 3 → P
low-answered (Ok outcome) P holds low = holds
low-answered (Err fail) P holds low = absurd (omega (arith, failing fail, low))

-- where there is no answer nothing is said of how far was read
pub high-stops : (choice : Choice) (status given : ℕ) (told left : Option (List ℕ)) → 3 ≤ status
    → StopsAtFault choice status told left given
high-stops Audit status given told left high = λ low. absurd (omega (arith, high, low))
high-stops Serial status given told left high = λ low. absurd (omega (arith, high, low))
high-stops (AuditWith workers) status given told left high = tt
high-stops Replay status given told left high = tt
high-stops Certify status given told left high = tt
high-stops (Check wanted) status given told left high = tt
high-stops (Explain asked) status given told left high = tt
high-stops (Rule topic) status given told left high = tt
high-stops Draw status given told left high = tt
high-stops (DrawWith tx is_dot) status given told left high = tt
high-stops (Run workers tries) status given told left high = tt

pub audit-fails : (told old new : Option (List ℕ)) (fail : EngineFail) → audit.WroteFront told old new
    → AnswersAudit (status_of (Ran (Err fail))) told old new
audit-fails told old new fail front =
    let high = failing fail in
    record {
      yes = λ e. absurd (omega (arith, high, e));
      no = λ e. absurd (omega (arith, high, e));
      known = λ e. omega (arith, high, e);
      front = λ le. front;
    }

pub serial-answers : (told old new : Option (List ℕ)) (r : Result Outcome EngineFail)
    → IfOk r (λ o. serial.WroteAnswer told o old new)
    → OnErr r (serial.WroteAnswerFront told old new) → AnswersSerial (status_of (Ran r)) told old new
serial-answers told old new (Ok Outcome_.Yes) wrote front = record {
  run = λ e. wrote;
  no = λ e. absurd (omega arith);
  known = λ e. absurd (omega arith);
  front = λ le. absurd (omega arith);
}
serial-answers told old new (Ok Outcome_.No) wrote front = record {
  run = λ e. absurd (omega arith);
  no = λ e. (wrote.1.0, wrote.1.1, (wrote.1.2, subst (Appends old new) wrote.1.3 wrote.2));
  known = λ e. absurd (omega arith);
  front = λ le. absurd (omega arith);
}
serial-answers told old new (Ok Outcome_.Unreadable) wrote front = absurd wrote.1
serial-answers told old new (Err fail) wrote front =
    let high = failing fail in
    record {
      run = λ e. absurd (omega (arith, high, e));
      no = λ e. absurd (omega (arith, high, e));
      known = λ e. omega (arith, high, e);
      front = λ le. front;
    }

pub status-answers : (Wrote : Outcome → Type 0) (Front : Type 0) (r : Result Outcome EngineFail) → IfOk r Wrote
    → OnErr r Front
    → ByStatus Wrote Front (status_of (Ran r))
status-answers Wrote Front (Ok Outcome_.Yes) wrote front = record {
  yes = λ e. wrote;
  no = λ e. absurd (omega arith);
  unreadable = λ e. absurd (omega arith);
  front = λ le. absurd (omega arith);
}
status-answers Wrote Front (Ok Outcome_.No) wrote front = record {
  yes = λ e. absurd (omega arith);
  no = λ e. wrote;
  unreadable = λ e. absurd (omega arith);
  front = λ le. absurd (omega arith);
}
status-answers Wrote Front (Ok Outcome_.Unreadable) wrote front = record {
  yes = λ e. absurd (omega arith);
  no = λ e. absurd (omega arith);
  unreadable = λ e. wrote;
  front = λ le. absurd (omega arith);
}
status-answers Wrote Front (Err fail) wrote front =
    let high = failing fail in
    record {
      yes = λ e. absurd (omega (arith, high, e));
      no = λ e. absurd (omega (arith, high, e));
      unreadable = λ e. absurd (omega (arith, high, e));
      front = λ le. front;
    }

-- a yes is 0, and no other answer is
yes_is_zero : (o : Outcome) (status : ℕ) (S : Type 0) → status ≡ status_of (Ran (Ok o)) → o ≡ Outcome_.Yes ↔ S
    → status ≡ 0 ↔ S
yes_is_zero Outcome_.Yes status S is both = (λ zero. both.0 refl, λ s. is)
yes_is_zero Outcome_.No status S is both =
    (λ zero. absurd (omega (arith, is, zero)), λ s. absurd (let bad : Outcome_.No ≡ Outcome_.Yes = both.1 s in cc))
yes_is_zero Outcome_.Unreadable status S is both = (
  λ zero. absurd (omega (arith, is, zero)),
  λ s. absurd (let bad : Outcome_.Unreadable ≡ Outcome_.Yes = both.1 s in
      cc),
)

-- the status of an answer says what the outcome says of both texts
pub exact_status : (r : Result Outcome EngineFail) (status : ℕ) (told order : Option (List ℕ)) (Is : List ℕ → List ℕ
    → Type 0)
    → status ≡ status_of (Ran r)
    → IfOk r (λ o. IfSome told (λ bytes. IfSome order (λ lines. o ≡ Outcome_.Yes ↔ Is lines bytes)))
    → status < 3 → IfSome told (λ bytes. IfSome order (λ lines. status ≡ 0 ↔ Is lines bytes))
exact_status (Ok o) status None order Is is said few = tt
exact_status (Ok o) status (Some bytes) None Is is said few = tt
exact_status (Ok o) status (Some bytes) (Some lines) Is is said few = yes_is_zero o status (Is lines bytes) is said
exact_status (Err fail) status told order Is is said few =
    absurd (let high = failing fail in omega (arith, high, is, few))

-- nothing was written for want of memory
pub memory-answers : (words : List (List ℕ)) (status : ℕ) (held : Option (List ℕ)) → status ≡ 3
    → AnswersOthers words status held held
memory-answers words status held is = record {
  help = λ e. absurd (omega arith);
  usage = λ e. absurd (omega arith);
  known = λ e. absurd (omega arith);
  front = λ le. (0 ∷ [], (0, omega arith, wrote_nothing held));
}

-- of a run too
pub run-memory : (choice : Choice) (status : ℕ) (told held : Option (List ℕ)) → command_of choice ≡ command.Run
    → status ≡ 3 → Answers choice status told held held
run-memory (Run workers tries) status told held is three = record {
  yes = λ e. absurd (omega arith);
  no = λ e. absurd (omega arith);
  unreadable = λ e. absurd (omega arith);
  front = λ le. inl (wrote_nothing held);
}
run-memory choice status told held is three = absurd cc

-- the help was shown, or the writer failed
pub help-answers : (words : List (List ℕ)) (old new : Option (List ℕ)) (text : List ℕ) (Quiet : Type 0)
    (r : Result Outcome EngineFail) → AsksHelp words
    → 0 < length text → OnOk r (Appends old new text) → OnErr r (WritesFront old new text)
    → IfOk r (λ o. (o ≡ Outcome_.Yes) × Quiet)
    → AnswersOthers words (status_of (Ran r)) old new
help-answers words old new text Quiet (Ok Outcome_.Yes) asks some shown front is = record {
  help = λ e. (asks, (text, some, shown));
  usage = λ e. absurd (omega arith);
  known = λ e. absurd (omega arith);
  front = λ le. absurd (omega arith);
}
help-answers words old new text Quiet (Ok Outcome_.No) asks some shown front is =
    absurd (let e : Outcome_.No ≡ Outcome_.Yes = is.0 in cc)
help-answers words old new text Quiet (Ok Outcome_.Unreadable) asks some shown front is =
    absurd (let e : Outcome_.Unreadable ≡ Outcome_.Yes = is.0 in cc)
help-answers words old new text Quiet (Err fail) asks some shown front is =
    let high = failing fail in
    record {
      help = λ e. absurd (omega (arith, high, e));
      usage = λ e. absurd (omega (arith, high, e));
      known = λ e. absurd (omega (arith, high, e));
      front = λ le. (text, front);
    }

-- and so, where there is no help, a write failed
pub help_four : (r : Result Outcome EngineFail) (Quiet Failed : Type 0) → IfOk r (λ o. (o ≡ Outcome_.Yes) × Quiet)
    → IfErr r (λ fail. (fail ≡ WriteFault) × Failed) → 3 ≤ status_of (Ran r) → status_of (Ran r) ≡ 4
help_four (Ok Outcome_.Yes) Quiet Failed is failed high = absurd (omega (arith, high))
help_four (Ok Outcome_.No) Quiet Failed is failed high = absurd (let e : Outcome_.No ≡ Outcome_.Yes = is.0 in cc)
help_four (Ok Outcome_.Unreadable) Quiet Failed is failed high =
    absurd (let e : Outcome_.Unreadable ≡ Outcome_.Yes = is.0 in cc)
help_four (Err Memory) Quiet Failed is failed high = absurd (let e : Memory ≡ WriteFault = failed.0 in cc)
help_four (Err ReadFault) Quiet Failed is failed high = absurd (let e : ReadFault ≡ WriteFault = failed.0 in cc)
help_four (Err WriteFault) Quiet Failed is failed high = refl

-- no help was asked for
pub usage-answers : (words : List (List ℕ)) (status : ℕ) (old new : Option (List ℕ)) → (AsksHelp words → ⊥)
    → status ≡ 2 → AnswersOthers words status old new
usage-answers words status old new no_help is = record {
  help = λ e. absurd (omega arith);
  usage = λ e. no_help;
  known = λ e. absurd (omega arith);
  front = λ le. absurd (omega arith);
}

-- a rule was shown, or the writer failed
pub rule-answers : (topic : Topic) (old new : Option (List ℕ)) (r : Result Outcome EngineFail)
    → IfOk r (λ o. o ≡ Outcome_.Yes)
    → OnOk r ((text : List ℕ) × IsRuleOf (topic_name topic) text × Appends old new text)
    → OnErr r ((text : List ℕ) × WritesFront old new text) → AnswersRule topic (status_of (Ran r)) old new
rule-answers topic old new (Ok Outcome_.Yes) is shown front = record {
  rule = λ e. shown;
  known = (λ e. absurd (omega arith), λ e. absurd (omega arith));
  front = λ le. absurd (omega arith);
}
rule-answers topic old new (Ok Outcome_.No) is shown front = absurd (let e : Outcome_.No ≡ Outcome_.Yes = is in cc)
rule-answers topic old new (Ok Outcome_.Unreadable) is shown front =
    absurd (let e : Outcome_.Unreadable ≡ Outcome_.Yes = is in cc)
rule-answers topic old new (Err fail) is shown front =
    let high = failing fail in
    record {
      rule = λ e. absurd (omega (arith, high, e));
      known = (λ e. absurd (omega (arith, high, e)), λ e. absurd (omega (arith, high, e)));
      front = λ le. front;
    }
