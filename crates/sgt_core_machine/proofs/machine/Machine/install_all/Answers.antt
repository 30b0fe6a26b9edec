use Rattle.std.proofs.Common.{◌+◌, length, refl, sym, ◌∙◌}
use Rattle.std.proofs.lemmas.Bool.{ltb-true, lt-ltb}
use Rattle.std.proofs.lemmas.Option.{slice_get_read}
use Rattle.sgt_core_model.specs.declared.reply.Reply.TheVariants.{Installed}
use Rattle.sgt_core_machine.specs.Machine.{parts_of}
use Rattle.sgt_core_machine.proofs.WholeGoing.{awaited_slot, no_verdict, none_awaited, installing_none, install_may, another_due, installing_on}
use Rattle.sgt_core_machine.proofs.machine.Machine.install_all.Goals as goal

pub returns-in_default : goal.returns-in_default
returns-in_default c =
    none_awaited (parts_of c.args.self.now) c.args.tx c.args.sites.now
    (sym c.verdict.ensures ∙ no_verdict c.verdict.result c.in_default.not-Some)

pub loop-at-init : goal.loop-at-init
loop-at-init c = record {
  slot =
      awaited_slot (parts_of c.args.self.now) c.args.tx c.args.slot c.args.sites.now c.requires.number c.requires.awaits;
  verdict = λ any. sym c.verdict.ensures ∙ c.in-Some.is;
  written = installing_none (parts_of c.args.self.now) c.args.tx c.args.sites.now;
}

pub install_due-requires-clause-allowed : goal.install_due-requires-clause-allowed
install_due-requires-clause-allowed c =
    let sites = c.args.sites.now in
    let i = c.loop-at.at in
    let site = c.index-sites-at.result in
    let at = slice_get_read sites (length sites) i site refl c.loop-at-test.true c.index-sites-at.is in
    install_may (parts_of c.args.self.now) (parts_of c.loop-at.self) c.args.tx sites c.requires.awaits c.args.slot
    (c.loop-at.invariant.slot c.loop-at-test.true) i site at c.loop-at.invariant.written c.in-Some.verdict
    (c.loop-at.invariant.verdict c.loop-at-test.true)

pub install_due-requires-clause-another : goal.install_due-requires-clause-another
install_due-requires-clause-another c = λ more.
    let sites = c.args.sites.now in
    let i = c.loop-at.at in
    let site = c.index-sites-at.result in
    let at = slice_get_read sites (length sites) i site refl c.loop-at-test.true c.index-sites-at.is in
    another_due (parts_of c.args.self.now) (parts_of c.loop-at.self) c.args.tx sites c.requires.awaits c.args.slot
    (c.loop-at.invariant.slot c.loop-at-test.true) i site at c.loop-at.invariant.written
    (ltb-true (i + 1) (length sites) more)

pub loop-at-preserved : goal.loop-at-preserved
loop-at-preserved c =
    let sites = c.args.sites.now in
    let i = c.loop-at.at in
    let site = c.index-sites-at.result in
    let at = slice_get_read sites (length sites) i site refl c.loop-at-test.true c.index-sites-at.is in
    record {
      slot = λ more. c.install_due.ensures.slot (lt-ltb (i + 1) (length sites) more);
      verdict = λ more. c.install_due.ensures.verdict (lt-ltb (i + 1) (length sites) more);
      written =
          installing_on (parts_of c.args.self.now) (parts_of c.loop-at.self) (parts_of c.install_due.new.self) c.args.tx
          sites i site at Installed c.loop-at.invariant.written c.install_due.ensures.goes;
    }
