use Rattle.sgt_certifier.proofs.Judging.{installed_allowed}
use Rattle.sgt_core_machine.proofs.installing.note_install.Goals as goal

pub note-requires : goal.note-requires
note-requires c =
    let awaits = c.requires c.in-Committed.is in
    installed_allowed c.args.certifier.now c.args.tx c.args.site awaits.installing awaits.awaits
