use Rattle.std.proofs.Common.{◌≡◌, ◌∙◌, ◌+◌, length, sym, ap, refl, arith}
use Rattle.std.proofs.lemmas.Bool.{true≢false}
use Rattle.std.proofs.lemmas.List.{length_push}
use Rattle.sgt_service_settle.proofs.course.add_change.Goals as goal

pub returns-then-not-deed : goal.returns-then-not-deed
returns-then-not-deed c =
    let old = c.args.course.now.changes.items in
    let longer : length c.push-2.new.self.items ≡ length old + 1 = ap length c.in_ok-push-2.ensures.items
    ∙ length_push old c.args.deed.now in
    record {
      changes = c.in_ok-push-2.ensures.items;
      none = c.no_reads-none.result;
      is_none = c.no_reads-none.ensures;
      reads = c.in_ok-push.ensures.items;
      last = refl;
      increment = λ i. absurd (true≢false (sym i ∙ c.if-not-deed.true));
      write = λ w. omega (arith, c.len-course.ensures, c.push-2.new.self.ok.0, longer);
    }

pub returns-else-not-deed : goal.returns-else-not-deed
returns-else-not-deed c = record {
  changes = c.in_ok-push-2.ensures.items;
  none = c.no_reads-none.result;
  is_none = c.no_reads-none.ensures;
  reads = c.in_ok-push.ensures.items;
  last = refl;
  increment = λ i. refl;
  write = λ w. absurd (true≢false (sym c.if-not-deed.false ∙ w));
}
