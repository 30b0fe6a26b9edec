use Rattle.std.proofs.Common.{ℕ, arith, subst}
use Rattle.std.specs.Prelude.{string_bytes}
use Rattle.sgt_explain_transaction.specs.Dealings.{IsAnyOwn, TellsAllOwn}
use Rattle.sgt_explain.proofs.Finding.{found-decided, found-entry}
use Rattle.sgt_explain.proofs.SeenLines.{seen-lines}
use Rattle.sgt_explain.proofs.yeses.push_transaction.Goals as goal

pub returns-then-is_decided-clause-told : goal.returns-then-is_decided-clause-told
returns-then-is_decided-clause-told c = record {
  fate = string_bytes c.push_decided.new.out;
  told = c.in_ok-is_decided.ensures.told;
  dealings = c.in_ok-has_entry.ensures.told;
  own = λ lines seen. subst
      (λ (n : ℕ). TellsAllOwn c.args.bytes.now n c.args.tx (string_bytes c.push_decided.new.out)
      (string_bytes c.push_dealings.new.out)) c.end_of-end.ensures c.in_ok-has_entry.ensures.all lines
      (seen-lines c.args.bytes.now c.args.verdict lines (omega arith) seen);
}

pub returns-else-is_decided-clause-told : goal.returns-else-is_decided-clause-told
returns-else-is_decided-clause-told c = record {
  fate = string_bytes c.push_decided.new.out;
  told = c.in_ok-is_decided.ensures.told;
  dealings = c.in_ok-has_entry.ensures.told;
  own = λ lines seen. subst
      (λ (n : ℕ). TellsAllOwn c.args.bytes.now n c.args.tx (string_bytes c.push_decided.new.out)
      (string_bytes c.push_dealings.new.out)) c.end_of-end.ensures c.in_ok-has_entry.ensures.all lines
      (seen-lines c.args.bytes.now c.args.verdict lines (omega arith) seen);
}

pub returns-then-is_decided-clause-found : goal.returns-then-is_decided-clause-found
returns-then-is_decided-clause-found c = λ verdict.
    found-decided c.args.bytes.now c.args.verdict c.args.tx c.in_ok-is_decided.is_decided c.if-is_decided.true
    c.in_ok-is_decided.ensures.decided

pub returns-else-is_decided-clause-found : goal.returns-else-is_decided-clause-found
returns-else-is_decided-clause-found c = λ verdict.
    let any = subst (λ (n : ℕ). IsAnyOwn c.args.bytes.now n c.args.tx c.in_ok-has_entry.has_entry) c.end_of-end.ensures
    c.in_ok-has_entry.ensures.any in
    found-entry c.args.bytes.now c.args.verdict c.args.tx c.in_ok-is_decided.is_decided c.in_ok-has_entry.has_entry
    c.if-is_decided.false c.in_ok-is_decided.ensures.decided
    (λ lines seen. any lines (seen-lines c.args.bytes.now c.args.verdict lines (omega arith) seen)) verdict
