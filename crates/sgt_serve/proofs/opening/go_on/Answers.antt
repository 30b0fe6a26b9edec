use Rattle.std.proofs.Common.{arith, sym}
use Rattle.sgt_serve.proofs.Openings.{any_filled, filled_any, opens_line, opens_read}
use Rattle.sgt_serve.proofs.opening.go_on.Goals as goal

pub returns-in_ok-take_line-in-Line-clause-opens : goal.returns-in_ok-take_line-in-Line-clause-opens
returns-in_ok-take_line-in-Line-clause-opens g c =
    opens_line c.in_ok-take_line-in-Line.field-0 _ c.in-Line.n c.args.sites.now.items c.take_line.new.sites.items
    c.args.pipe.now.history c.args.inbox.now.held
    c.take_line.new.inbox.held c.in-Line.ensures c.requires.has c.in_ok-take_line-in-Line.ensures.takes

pub returns-in-Part-clause-opens : goal.returns-in-Part-clause-opens
returns-in-Part-clause-opens g c =
    opens_read c.read_on.result _ _ c.args.sites.now.items c.args.inbox.now.held c.read_on.new.inbox.held
    c.args.pipe.now.history c.read_on.new.pipe.history
    c.requires.has c.in-Part.ensures
    (any_filled c.args.sites.now.items _ c.is_empty.result (sym c.args.sites.now.ok.0) c.is_empty.ensures)
    (filled_any c.args.sites.now.items _ c.is_empty.result (sym c.args.sites.now.ok.0) c.is_empty.ensures)
    c.read_on.ensures.reads

pub returns-in-Part-clause-notes : goal.returns-in-Part-clause-notes
returns-in-Part-clause-notes g c = omega (arith, c.read_on.ensures.quiet)
