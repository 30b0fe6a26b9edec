use Rattle.std.proofs.Common.{rules, ◌≡◌, ◌≤◌, ◌+◌, ◌∙◌, ◌++◌, List, ℕ, ap, refl, arith, length, subst}
use Rattle.std.specs.Prelude.{IsErr, IsErrOf, IsTrue, Ok}
use Rattle.std.proofs.lemmas.Bool.{false≢true}
use Rattle.sgt_names.specs.declared.outcome.EngineFail.TheVariants.{ReadFault}
use Rattle.sgt_notation.specs.Lines.{coming}
use Rattle.sgt_audit_workers.specs.Cut.{longest}
use Rattle.sgt_audit_workers.specs.declared.cutting.Stop.TheVariants as stop
use Rattle.sgt_audit_workers.proofs.Reading.{fails-on, far-held, far-line, long-left, short-held, short-line, stops-before, stops-cut, stops-end, stops-failed, stops-found, stops-here}
use Rattle.sgt_audit_workers.proofs.cutting.read_piece.Goals as goal

pub returns-in-Some-clause-piece : goal.returns-in-Some-clause-piece
returns-in-Some-clause-piece g c =
    let first = coming c.args.lines.now (g.R.Source.tells c.args.reader.now) in
    let told = g.R.Source.tells c.pieces.reader in
    let before = c.args.section.now.items in
    let section = c.take_held.new.section.items in
    let takes = c.in_ok-stop.ensures.takes in
    let far =
    far-held first c.args.lines.now.reads before c.pieces.lines c.take_held.new.lines told c.pieces.section.items
    section takes.0 c.pieces.invariant.far takes.2 in
    let short = short-held c.args.room.most before c.pieces.section.items section c.pieces.invariant.short
    c.in_ok-stop.ensures.short in
    stops-found first c.args.lines.now.reads c.args.room.most before c.take_held.new.lines told section c.in-Some.stop
    far short (rw c.in-Some.is at c.in_ok-stop.ensures.stops)

pub returns-then-len-room-clause-piece : goal.returns-then-len-room-clause-piece
returns-then-len-room-clause-piece g c =
    let first = coming c.args.lines.now (g.R.Source.tells c.args.reader.now) in
    let told = g.R.Source.tells c.pieces.reader in
    let before = c.args.section.now.items in
    let section = c.take_held.new.section.items in
    let takes = c.in_ok-stop.ensures.takes in
    let far =
    far-held first c.args.lines.now.reads before c.pieces.lines c.take_held.new.lines told c.pieces.section.items
    section takes.0 c.pieces.invariant.far takes.2 in
    let short = short-held c.args.room.most before c.pieces.section.items section c.pieces.invariant.short
    c.in_ok-stop.ensures.short in
    stops-here first c.args.lines.now.reads c.args.room.most before c.take_held.new.lines told section
    (Ok stop.Room) far short (refl, refl)

pub returns-in_err-next_line-clause-piece : goal.returns-in_err-next_line-clause-piece
returns-in_err-next_line-clause-piece g c =
    let first = coming c.args.lines.now (g.R.Source.tells c.args.reader.now) in
    let told = g.R.Source.tells c.pieces.reader in
    let before = c.args.section.now.items in
    let section = c.take_held.new.section.items in
    let takes = c.in_ok-stop.ensures.takes in
    let far =
    far-held first c.args.lines.now.reads before c.pieces.lines c.take_held.new.lines told c.pieces.section.items
    section takes.0 c.pieces.invariant.far takes.2 in
    let short : length section + 1 ≤ c.args.room.most =
    omega (arith, c.len.ensures, c.if-len-room.false, c.requires, c.take_held.new.section.ok.0) in
    let failed : IsErr c.from_residual-in_err-next_line.result = search rules in
    stops-failed first _ c.args.lines.now.reads c.next_line.new.lines.reads c.args.room.most
    (length c.next_line.new.line.items) before c.take_held.new.lines told section section
    c.from_residual-in_err-next_line.result failed far refl short c.next_line.ensures.few
    (omega (arith, c.next_line.ensures.short))

pub returns-in_err-next_line-clause-read_fault : goal.returns-in_err-next_line-clause-read_fault
returns-in_err-next_line-clause-read_fault g c same =
    let first = coming c.args.lines.now (g.R.Source.tells c.args.reader.now) in
    let told = g.R.Source.tells c.pieces.reader in
    let before = c.args.section.now.items in
    let section = c.take_held.new.section.items in
    let takes = c.in_ok-stop.ensures.takes in
    let far =
    far-held first c.args.lines.now.reads before c.pieces.lines c.take_held.new.lines told c.pieces.section.items
    section takes.0 c.pieces.invariant.far takes.2 in
    let was : IsErrOf c.next_line.result ReadFault = search rules in
    fails-on _ _ _ _ _ _ _ _ _ _ (c.next_line.ensures.read_fault was) far.spends
    (omega (arith, ap (λ a. a.reads) takes.2.lines, c.pieces.invariant.asks)) c.pieces.invariant.quiet

pub returns-in_err-append_line-in-Line-clause-piece : goal.returns-in_err-append_line-in-Line-clause-piece
returns-in_err-append_line-in-Line-clause-piece g c =
    let first = coming c.args.lines.now (g.R.Source.tells c.args.reader.now) in
    let told = g.R.Source.tells c.pieces.reader in
    let before = c.args.section.now.items in
    let section = c.take_held.new.section.items in
    let takes = c.in_ok-stop.ensures.takes in
    let far =
    far-held first c.args.lines.now.reads before c.pieces.lines c.take_held.new.lines told c.pieces.section.items
    section takes.0 c.pieces.invariant.far takes.2 in
    let short : length section + 1 ≤ c.args.room.most =
    omega (arith, c.len.ensures, c.if-len-room.false, c.requires, c.take_held.new.section.ok.0) in
    let failed : IsErr c.from_residual-in_err-append_line-in-Line.result = search rules in
    let kept : c.append_line.new.section.items ≡ section = search rules in
    stops-failed first _ c.args.lines.now.reads c.next_line.new.lines.reads c.args.room.most
    (length c.next_line.new.line.items) before c.take_held.new.lines told section c.append_line.new.section.items
    c.from_residual-in_err-append_line-in-Line.result failed far kept short c.next_line.ensures.few
    (omega (arith, c.next_line.ensures.short))

pub returns-then-ends-clause-piece : goal.returns-then-ends-clause-piece
returns-then-ends-clause-piece g c =
    let first = coming c.args.lines.now (g.R.Source.tells c.args.reader.now) in
    let told = g.R.Source.tells c.pieces.reader in
    let before = c.args.section.now.items in
    let section = c.take_held.new.section.items in
    let takes = c.in_ok-stop.ensures.takes in
    let held =
    far-held first c.args.lines.now.reads before c.pieces.lines c.take_held.new.lines told c.pieces.section.items
    section takes.0 c.pieces.invariant.far takes.2 in
    let l = c.next_line.new.line.items in
    let after = c.append_line.new.section.items in
    let gave = rw c.in-Line.is at c.in_ok-next_line.ensures.gave in
    let far = far-line first c.args.lines.now.reads before c.take_held.new.lines c.next_line.new.lines told
    (g.R.Source.tells c.next_line.new.reader) section after l _ held gave.gives
    c.in_ok-append_line-in-Line.ensures.ok c.next_line.ensures.few in
    let short : length before + 2 ≤ longest c.args.room.most → length after + 2 ≤ longest c.args.room.most =
    λ few. short-line c.args.room.most section after l (omega (
      arith,
      c.len.ensures,
      c.if-len-room.false,
      c.requires,
      c.take_held.new.section.ok.0,
    )) (omega (arith, c.next_line.ensures.short))
    c.in_ok-append_line-in-Line.ensures.ok in
    stops-here first c.args.lines.now.reads c.args.room.most before c.next_line.new.lines
    (g.R.Source.tells c.next_line.new.reader) after (Ok stop.Section) far short (refl, refl)

pub pieces-preserved : goal.pieces-preserved
pieces-preserved g c =
    let first = coming c.args.lines.now (g.R.Source.tells c.args.reader.now) in
    let told = g.R.Source.tells c.pieces.reader in
    let before = c.args.section.now.items in
    let section = c.take_held.new.section.items in
    let takes = c.in_ok-stop.ensures.takes in
    let held =
    far-held first c.args.lines.now.reads before c.pieces.lines c.take_held.new.lines told c.pieces.section.items
    section takes.0 c.pieces.invariant.far takes.2 in
    let l = c.next_line.new.line.items in
    let after = c.append_line.new.section.items in
    let gave = rw c.in-Line.is at c.in_ok-next_line.ensures.gave in
    record {
      far = far-line first c.args.lines.now.reads before c.take_held.new.lines c.next_line.new.lines told
          (g.R.Source.tells c.next_line.new.reader) section after l _ held gave.gives
          c.in_ok-append_line-in-Line.ensures.ok c.next_line.ensures.few;
      short = λ few. short-line c.args.room.most section after l (omega (
        arith,
        c.len.ensures,
        c.if-len-room.false,
        c.requires,
        c.take_held.new.section.ok.0,
      )) (omega (arith, c.next_line.ensures.short))
          c.in_ok-append_line-in-Line.ensures.ok;
      asks = omega (arith, ap (λ a. a.reads) takes.2.lines, c.next_line.ensures.asks, c.pieces.invariant.asks);
      quiet = gave.quiet ∙ c.pieces.invariant.quiet;
      ready = λ drained. absurd (false≢true (subst IsTrue c.if-latest.false (c.pieces.invariant.ready drained).0));
    }

pub returns-in_err-append-in-Cut-clause-piece : goal.returns-in_err-append-in-Cut-clause-piece
returns-in_err-append-in-Cut-clause-piece g c =
    let first = coming c.args.lines.now (g.R.Source.tells c.args.reader.now) in
    let told = g.R.Source.tells c.pieces.reader in
    let before = c.args.section.now.items in
    let section = c.take_held.new.section.items in
    let takes = c.in_ok-stop.ensures.takes in
    let far =
    far-held first c.args.lines.now.reads before c.pieces.lines c.take_held.new.lines told c.pieces.section.items
    section takes.0 c.pieces.invariant.far takes.2 in
    let short : length section + 1 ≤ c.args.room.most =
    omega (arith, c.len.ensures, c.if-len-room.false, c.requires, c.take_held.new.section.ok.0) in
    let failed : IsErr c.from_residual-in_err-append-in-Cut.result = search rules in
    let kept : c.append.new.section.items ≡ section = search rules in
    stops-failed first _ c.args.lines.now.reads c.next_line.new.lines.reads c.args.room.most
    (length c.next_line.new.line.items) before c.take_held.new.lines told section c.append.new.section.items
    c.from_residual-in_err-append-in-Cut.result failed far kept short c.next_line.ensures.few
    (omega (arith, c.next_line.ensures.short))

pub returns-in-Cut-clause-piece : goal.returns-in-Cut-clause-piece
returns-in-Cut-clause-piece g c =
    let first = coming c.args.lines.now (g.R.Source.tells c.args.reader.now) in
    let told = g.R.Source.tells c.pieces.reader in
    let before = c.args.section.now.items in
    let section = c.take_held.new.section.items in
    let takes = c.in_ok-stop.ensures.takes in
    let far =
    far-held first c.args.lines.now.reads before c.pieces.lines c.take_held.new.lines told c.pieces.section.items
    section takes.0 c.pieces.invariant.far takes.2 in
    let l = c.next_line.new.line.items in
    let gave = rw c.in-Cut.is at c.in_ok-next_line.ensures.gave in
    let short : length section + 1 ≤ c.args.room.most =
    omega (arith, c.len.ensures, c.if-len-room.false, c.requires, c.take_held.new.section.ok.0) in
    stops-cut first c.args.lines.now.reads c.next_line.new.lines.reads c.args.room.most before c.take_held.new.lines
    told _ section far short _ l c.next_line.ensures.few c.append.new.section.items
    (c.in_ok-append-in-Cut.ensures.ok ∙ ap (λ (t : List ℕ). section ++ t) c.as_slice-in-Cut.ensures.value)
    (omega (arith, c.next_line.ensures.short)) gave.gives

pub returns-in-End-clause-piece : goal.returns-in-End-clause-piece
returns-in-End-clause-piece g c =
    let first = coming c.args.lines.now (g.R.Source.tells c.args.reader.now) in
    let told = g.R.Source.tells c.pieces.reader in
    let before = c.args.section.now.items in
    let section = c.take_held.new.section.items in
    let takes = c.in_ok-stop.ensures.takes in
    let far =
    far-held first c.args.lines.now.reads before c.pieces.lines c.take_held.new.lines told c.pieces.section.items
    section takes.0 c.pieces.invariant.far takes.2 in
    let l = c.next_line.new.line.items in
    let gave = rw c.in-End.is at c.in_ok-next_line.ensures.gave in
    let short : length section + 1 ≤ c.args.room.most =
    omega (arith, c.len.ensures, c.if-len-room.false, c.requires, c.take_held.new.section.ok.0) in
    stops-end first c.args.lines.now.reads c.next_line.new.lines.reads c.args.room.most before c.take_held.new.lines
    told _ section far short _ l c.next_line.ensures.few gave.gives

pub returns-in-TooLong-clause-piece : goal.returns-in-TooLong-clause-piece
returns-in-TooLong-clause-piece g c =
    let first = coming c.args.lines.now (g.R.Source.tells c.args.reader.now) in
    let told = g.R.Source.tells c.pieces.reader in
    let before = c.args.section.now.items in
    let section = c.take_held.new.section.items in
    let takes = c.in_ok-stop.ensures.takes in
    let far =
    far-held first c.args.lines.now.reads before c.pieces.lines c.take_held.new.lines told c.pieces.section.items
    section takes.0 c.pieces.invariant.far takes.2 in
    let l = c.next_line.new.line.items in
    let gave = rw c.in-TooLong.is at c.in_ok-next_line.ensures.gave in
    let short : length section + 1 ≤ c.args.room.most =
    omega (arith, c.len.ensures, c.if-len-room.false, c.requires, c.take_held.new.section.ok.0) in
    stops-before first _ c.args.lines.now.reads c.next_line.new.lines.reads c.args.room.most
    (length l) before c.take_held.new.lines told section (Ok stop.Long) far short c.next_line.ensures.few
    (omega (arith, c.next_line.ensures.short)) (long-left _ _ _ l gave.gives)

pub returns-then-latest-clause-piece : goal.returns-then-latest-clause-piece
returns-then-latest-clause-piece g c =
    let first = coming c.args.lines.now (g.R.Source.tells c.args.reader.now) in
    let told = g.R.Source.tells c.pieces.reader in
    let before = c.args.section.now.items in
    let section = c.take_held.new.section.items in
    let takes = c.in_ok-stop.ensures.takes in
    let far =
    far-held first c.args.lines.now.reads before c.pieces.lines c.take_held.new.lines told c.pieces.section.items
    section takes.0 c.pieces.invariant.far takes.2 in
    let short = short-held c.args.room.most before c.pieces.section.items section c.pieces.invariant.short
    c.in_ok-stop.ensures.short in
    stops-here first c.args.lines.now.reads c.args.room.most before c.take_held.new.lines told section
    (Ok stop.Room) far short (refl, refl)

pub returns-in_err-next_line-clause-ready : goal.returns-in_err-next_line-clause-ready
returns-in_err-next_line-clause-ready g c drained = absurd (false≢true (subst IsTrue c.if-latest.false (c.pieces.invariant.ready drained).0))

pub returns-in_err-append_line-in-Line-clause-ready : goal.returns-in_err-append_line-in-Line-clause-ready
returns-in_err-append_line-in-Line-clause-ready g c drained = absurd (false≢true (subst IsTrue c.if-latest.false (c.pieces.invariant.ready drained).0))

pub returns-then-ends-clause-ready : goal.returns-then-ends-clause-ready
returns-then-ends-clause-ready g c drained = absurd (false≢true (subst IsTrue c.if-latest.false (c.pieces.invariant.ready drained).0))

pub returns-in_err-append-in-Cut-clause-ready : goal.returns-in_err-append-in-Cut-clause-ready
returns-in_err-append-in-Cut-clause-ready g c drained = absurd (false≢true (subst IsTrue c.if-latest.false (c.pieces.invariant.ready drained).0))

pub returns-in-Cut-clause-ready : goal.returns-in-Cut-clause-ready
returns-in-Cut-clause-ready g c drained = absurd (false≢true (subst IsTrue c.if-latest.false (c.pieces.invariant.ready drained).0))

pub returns-in-End-clause-ready : goal.returns-in-End-clause-ready
returns-in-End-clause-ready g c drained = absurd (false≢true (subst IsTrue c.if-latest.false (c.pieces.invariant.ready drained).0))

pub returns-in-TooLong-clause-ready : goal.returns-in-TooLong-clause-ready
returns-in-TooLong-clause-ready g c drained = absurd (false≢true (subst IsTrue c.if-latest.false (c.pieces.invariant.ready drained).0))
