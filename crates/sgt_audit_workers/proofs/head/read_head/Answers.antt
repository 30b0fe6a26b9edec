use Rattle.std.proofs.Common.{◌*◌, ◌∷◌, ◌++◌, [], ◌∙◌, List, Option, ℕ, ap, arith, length, refl, subst, sym}
use Rattle.std.proofs.KnownBytes.{Consumes-nil}
use Rattle.sgt_notation.specs.Lines.{Gives, coming}
use Rattle.sgt_notation.specs.declared.lines.Next.TheVariants.{Line}
use Rattle.sgt_bundle.specs.Text.{certificate_text, format_line}
use Rattle.sgt_audit.specs.Faults.{Breaks, Rule, headed, start, whole}
use Rattle.sgt_audit.specs.Progress.{Stands}
use Rattle.sgt_audit.specs.declared.verdict.Verdict.TheVariants.{No}
use Rattle.sgt_audit_workers.specs.Cut.{longest}
use Rattle.sgt_audit_workers.specs.Reads.{reader}
use Rattle.sgt_audit_workers.specs.private.Begun.{IsMost}
use Rattle.sgt_audit_workers.specs.private.Texts.{IsLeftIn}
use Rattle.sgt_audit_workers.proofs.Answered.{near, text-answer}
use Rattle.sgt_audit_workers.proofs.Heads.{comes-behind, found-fault, front-told, line-told, near-next, rest-headed, rest-start}
use Rattle.sgt_audit_workers.proofs.Left.{going-left, spent-asked}
use Rattle.sgt_audit_workers.proofs.head.read_head.Goals as goal

pub returns-in-Err-clause-begun : goal.returns-in-Err-clause-begun
returns-in-Err-clause-begun g c first is was =
    let old = reader (g.R.Source.tells c.args.source.now) (g.R.Source.failures c.args.source.now)
    (g.R.Source.asked c.args.source.now) in
    let now = reader (g.R.Source.tells c.read_line.new.source) (g.R.Source.failures c.read_line.new.source)
    (g.R.Source.asked c.read_line.new.source) in
    let here = subst (IsLeftIn first c.args.text.now.lines c.args.text.now.most old first.told) c.requires.going is in
    let reads = c.args.text.now.lines.reads in
    let comes = comes-behind _ start _ first.told first.told _ _ _ _ _ c.new-machine.ensures.stands c.limit.ensures
    (rest-start first.told) here.0 c.as_slice.ensures.value c.in_ok-first.ensures.gave c.read_line.ensures.short
    c.in_ok-first.ensures.unlimited in
    near-next c.args.count _ 1 first old now first.told _ [] _ _ _ c.in-Err.verdict c.requires.count
    (spent-asked first old reads reads 0 first.told was.asks here.1 (omega arith)) (Consumes-nil first.told) comes
    (omega (arith, c.read_line.ensures.few, ap length c.as_slice.ensures.value))
    (c.in-Err.ensures.stops first.told first.told _ comes)

pub returns-in-Err-2-clause-begun : goal.returns-in-Err-2-clause-begun
returns-in-Err-2-clause-begun g c first is was =
    let old = reader (g.R.Source.tells c.args.source.now) (g.R.Source.failures c.args.source.now)
    (g.R.Source.asked c.args.source.now) in
    let now = reader (g.R.Source.tells c.read_line.new.source) (g.R.Source.failures c.read_line.new.source)
    (g.R.Source.asked c.read_line.new.source) in
    let here = subst (IsLeftIn first c.args.text.now.lines c.args.text.now.most old first.told) c.requires.going is in
    let reads = c.args.text.now.lines.reads in
    let fault = c.in-Err-2.fault in
    let comes = comes-behind _ start _ first.told first.told _ _ _ _ _ c.new-machine.ensures.stands c.limit.ensures
    (rest-start first.told) here.0 c.as_slice-2.ensures.value c.in_ok-first.ensures.gave c.read_line.ensures.short
    c.in_ok-first.ensures.unlimited in
    let found = found-fault _ first.told first.told 1 _ _ _ comes fault c.in-Ok.ensures.line.0
    (λ s stands. rw c.in-Err-2.is at
    (c.in_ok-second.ensures.fault s (subst (λ m. Stands m.progress s) (sym c.in-Ok.ensures.line.1) stands))) in
    near-next c.args.count _ 1 first old now first.told _ [] _ _ _ (No 1 fault) c.requires.count
    (spent-asked first old reads reads 0 first.told was.asks here.1 (omega arith)) (Consumes-nil first.told) comes
    (omega (arith, c.read_line.ensures.few, ap length c.as_slice-2.ensures.value)) found

pub returns-in-Err-stopped-clause-begun : goal.returns-in-Err-stopped-clause-begun
returns-in-Err-stopped-clause-begun g c first is was =
    let middle = reader (g.R.Source.tells c.read_line.new.source) (g.R.Source.failures c.read_line.new.source)
    (g.R.Source.asked c.read_line.new.source) in
    let now = reader (g.R.Source.tells c.read_line-2.new.source) (g.R.Source.failures c.read_line-2.new.source)
    (g.R.Source.asked c.read_line-2.new.source) in
    let old = reader (g.R.Source.tells c.args.source.now) (g.R.Source.failures c.args.source.now)
    (g.R.Source.asked c.args.source.now) in
    let here = subst (IsLeftIn first c.args.text.now.lines c.args.text.now.most old first.told) c.requires.going is in
    let second = c.in-Ok-2.second in
    let left = coming c.read_line.new.text.lines middle.told in
    let gave = rw c.in-Ok.ensures.line.0 at c.in_ok-first.ensures.gave in
    let gives = subst (λ (o : Option (List ℕ)). Gives c.limit.result o Line c.read_line.new.line.items left)
    (sym here.0) gave in
    let format = rw c.in-Ok-2.is at c.in_ok-second.ensures.format in
    let stands = rw c.in-Ok-2.is at c.in_ok-second.ensures.headed in
    let front = line-told c.limit.result first.told left c.read_line.new.line.items (format_line second)
    (sym c.as_slice-2.ensures.value ∙ format) gives in
    let mid = c.in_ok-first.ensures.left first first.told is c.in-Ok.ensures.line.0 in
    let spent =
    subst (IsLeftIn first c.read_line.new.text.lines c.read_line.new.text.most middle left)
    c.in_ok-first.ensures.going mid in
    let reads = c.read_line.new.text.lines.reads in
    let before = spent-asked first middle reads reads 0 left (c.read_line.ensures.asked first first.told is was).asks
    spent.1 (omega arith) in
    let comes = comes-behind _ (headed second) _ first.told left left _ _ _ _ stands.0 c.limit-2.ensures
    (rest-headed first.told left second front) refl c.as_slice-3.ensures.value c.in_ok-next.ensures.gave
    c.read_line-2.ensures.short c.in_ok-next.ensures.unlimited in
    near-next c.args.count _ 2 first middle now left _ (format_line second ++ 10 ∷ []) _ _ _ c.in-Err-stopped.verdict
    c.requires.count before front comes
    (omega (arith, c.read_line-2.ensures.few, ap length c.as_slice-3.ensures.value))
    (c.in-Err-stopped.ensures.stops first.told left _ comes)

pub returns-in-Ok-3-clause-begun : goal.returns-in-Ok-3-clause-begun
returns-in-Ok-3-clause-begun g c first is was =
    let middle = reader (g.R.Source.tells c.read_line.new.source) (g.R.Source.failures c.read_line.new.source)
    (g.R.Source.asked c.read_line.new.source) in
    let now = reader (g.R.Source.tells c.read_line-2.new.source) (g.R.Source.failures c.read_line-2.new.source)
    (g.R.Source.asked c.read_line-2.new.source) in
    let old = reader (g.R.Source.tells c.args.source.now) (g.R.Source.failures c.args.source.now)
    (g.R.Source.asked c.args.source.now) in
    let here = subst (IsLeftIn first c.args.text.now.lines c.args.text.now.most old first.told) c.requires.going is in
    let line = c.read_line-2.new.line.items in
    let left = coming c.read_line.new.text.lines middle.told in
    let rest = coming c.read_line-2.new.text.lines now.told in
    let gave = rw c.in-Ok.ensures.line.0 at c.in_ok-first.ensures.gave in
    let gives = subst (λ (o : Option (List ℕ)). Gives c.limit.result o Line c.read_line.new.line.items left)
    (sym here.0) gave in
    let format = rw c.in-Ok-2.is at c.in_ok-second.ensures.format in
    let next = rw c.in_default.ensures.line.0 at c.in_ok-next.ensures.gave in
    let said = rw c.in-Ok-3.is at (c.in_ok-begun.ensures.head c.in-Ok-2.second line c.start-judging.ensures) in
    let h = c.in-Ok-3.begun.head in
    let front = front-told first.told left rest h.second h.certificate
    (line-told c.limit.result first.told left c.read_line.new.line.items (format_line h.second)
    (sym c.as_slice-2.ensures.value ∙ format ∙ ap format_line (sym said.1)) gives)
    (line-told c.limit-2.result left rest line (certificate_text h.certificate) said.2 next) in
    let mid = c.in_ok-first.ensures.left first first.told is c.in-Ok.ensures.line.0 in
    let behind = c.in_ok-next.ensures.left first left mid c.in_default.ensures.line.0 in
    record {
      middle = rest;
      front = front;
      sections =
          rw c.in-Ok-3.is at
          (c.in_ok-begun.ensures.ahead first rest
          (going-left first now c.read_line-2.new.text.lines c.read_line-2.new.text.most c.most_of-text.result rest
          c.read_line-2.new.text.state c.in_ok-next.ensures.going behind));
    }

pub returns-in-Err-3-clause-begun : goal.returns-in-Err-3-clause-begun
returns-in-Err-3-clause-begun g c first is was =
    let middle = reader (g.R.Source.tells c.read_line.new.source) (g.R.Source.failures c.read_line.new.source)
    (g.R.Source.asked c.read_line.new.source) in
    let second_now = reader (g.R.Source.tells c.read_line-2.new.source) (g.R.Source.failures c.read_line-2.new.source)
    (g.R.Source.asked c.read_line-2.new.source) in
    let now = reader (g.R.Source.tells c.read_beside.new.source) (g.R.Source.failures c.read_beside.new.source)
    (g.R.Source.asked c.read_beside.new.source) in
    let old = reader (g.R.Source.tells c.args.source.now) (g.R.Source.failures c.args.source.now)
    (g.R.Source.asked c.args.source.now) in
    let here = subst (IsLeftIn first c.args.text.now.lines c.args.text.now.most old first.told) c.requires.going is in
    let second = c.in-Ok-2.second in
    let fault = c.in-Err-3.fault in
    let line = c.read_line-2.new.line.items in
    let left = coming c.read_line.new.text.lines middle.told in
    let rest = coming c.read_line-2.new.text.lines second_now.told in
    let gave = rw c.in-Ok.ensures.line.0 at c.in_ok-first.ensures.gave in
    let gives = subst (λ (o : Option (List ℕ)). Gives c.limit.result o Line c.read_line.new.line.items left)
    (sym here.0) gave in
    let format = rw c.in-Ok-2.is at c.in_ok-second.ensures.format in
    let stands = rw c.in-Ok-2.is at c.in_ok-second.ensures.headed in
    let front = line-told c.limit.result first.told left c.read_line.new.line.items (format_line second)
    (sym c.as_slice-2.ensures.value ∙ format) gives in
    let breaks = rw c.in-Err-3.is at (c.in_ok-begun.ensures.fault second line c.start-judging.ensures) in
    let comes = comes-behind _ (headed second) _ first.told left left _ _ line line stands.0 c.limit-2.ensures
    (rest-headed first.told left second front) refl refl c.in_ok-next.ensures.gave c.read_line-2.ensures.short
    c.in_ok-next.ensures.unlimited in
    let found = found-fault _ first.told left 2 _ line rest comes fault c.in_default.ensures.line.0
    (λ s at. subst (λ t. Breaks (Rule t (whole line)) fault) (sym (stands.1 s at)) breaks) in
    let mid = c.in_ok-first.ensures.left first first.told is c.in-Ok.ensures.line.0 in
    let behind = c.in_ok-next.ensures.left first left mid c.in_default.ensures.line.0 in
    let most = c.most_of-text.result in
    let begins = going-left first second_now c.read_line-2.new.text.lines c.read_line-2.new.text.most most rest
    c.read_line-2.new.text.state c.in_ok-next.ensures.going behind in
    let held = rw c.in-Err-3.is at (c.in_ok-begun.ensures.held first rest begins) in
    let once = c.read_line-2.ensures.asked first left mid (c.read_line.ensures.asked first first.told is was) in
    let asked =
    c.read_beside.ensures.asked first rest begins (record {
      asks = once.asks;
      once = once.once;
      fails =
          once.fails;
    }) in
    let many = 2 * c.args.count in
    let each = longest c.read_beside.new.text.most in
    let answer = text-answer (length line) many first now rest held.0 c.read_beside.new.text (No 2 fault) found held.2
    asked (omega (arith, held.1, c.beside-beside.ensures)) in
    near c.args.count (length line) (many * each) first now (No 2 fault) answer
    (omega (
      arith,
      c.most_of-text.ensures,
      ap (λ m. many * longest m) c.read_beside.ensures.most,
    ))

pub returns-in_err-first-clause-asked : goal.returns-in_err-first-clause-asked
returns-in_err-first-clause-asked g c first is was = c.read_line.ensures.asked first first.told is was

pub returns-in-Err-clause-asked : goal.returns-in-Err-clause-asked
returns-in-Err-clause-asked g c first is was = c.read_line.ensures.asked first first.told is was

pub returns-in_err-second-clause-asked : goal.returns-in_err-second-clause-asked
returns-in_err-second-clause-asked g c first is was = c.read_line.ensures.asked first first.told is was

pub returns-in-Err-2-clause-asked : goal.returns-in-Err-2-clause-asked
returns-in-Err-2-clause-asked g c first is was = c.read_line.ensures.asked first first.told is was

pub returns-in_err-next-clause-asked : goal.returns-in_err-next-clause-asked
returns-in_err-next-clause-asked g c first is was =
    let left = coming c.read_line.new.text.lines (g.R.Source.tells c.read_line.new.source) in
    let mid = c.in_ok-first.ensures.left first first.told is c.in-Ok.ensures.line.0 in
    c.read_line-2.ensures.asked first left mid (c.read_line.ensures.asked first first.told is was)

pub returns-in-Err-stopped-clause-asked : goal.returns-in-Err-stopped-clause-asked
returns-in-Err-stopped-clause-asked g c first is was =
    let left = coming c.read_line.new.text.lines (g.R.Source.tells c.read_line.new.source) in
    let mid = c.in_ok-first.ensures.left first first.told is c.in-Ok.ensures.line.0 in
    c.read_line-2.ensures.asked first left mid (c.read_line.ensures.asked first first.told is was)

pub returns-in_err-begun-clause-asked : goal.returns-in_err-begun-clause-asked
returns-in_err-begun-clause-asked g c first is was =
    let left = coming c.read_line.new.text.lines (g.R.Source.tells c.read_line.new.source) in
    let mid = c.in_ok-first.ensures.left first first.told is c.in-Ok.ensures.line.0 in
    let now = reader (g.R.Source.tells c.read_line-2.new.source) (g.R.Source.failures c.read_line-2.new.source)
    (g.R.Source.asked c.read_line-2.new.source) in
    let rest = coming c.read_line-2.new.text.lines now.told in
    let behind = c.in_ok-next.ensures.left first left mid c.in_default.ensures.line.0 in
    let begins = going-left first now c.read_line-2.new.text.lines c.read_line-2.new.text.most c.most_of-text.result
    rest c.read_line-2.new.text.state c.in_ok-next.ensures.going behind in
    let once = c.read_line-2.ensures.asked first left mid (c.read_line.ensures.asked first first.told is was) in
    c.read_beside.ensures.asked first rest begins (record { asks = once.asks; once = once.once; fails = once.fails })

pub returns-in-Ok-3-clause-asked : goal.returns-in-Ok-3-clause-asked
returns-in-Ok-3-clause-asked g c first is was =
    let left = coming c.read_line.new.text.lines (g.R.Source.tells c.read_line.new.source) in
    let mid = c.in_ok-first.ensures.left first first.told is c.in-Ok.ensures.line.0 in
    let now = reader (g.R.Source.tells c.read_line-2.new.source) (g.R.Source.failures c.read_line-2.new.source)
    (g.R.Source.asked c.read_line-2.new.source) in
    let rest = coming c.read_line-2.new.text.lines now.told in
    let behind = c.in_ok-next.ensures.left first left mid c.in_default.ensures.line.0 in
    let begins = going-left first now c.read_line-2.new.text.lines c.read_line-2.new.text.most c.most_of-text.result
    rest c.read_line-2.new.text.state c.in_ok-next.ensures.going behind in
    let once = c.read_line-2.ensures.asked first left mid (c.read_line.ensures.asked first first.told is was) in
    c.read_beside.ensures.asked first rest begins (record { asks = once.asks; once = once.once; fails = once.fails })

pub returns-in-Err-3-clause-asked : goal.returns-in-Err-3-clause-asked
returns-in-Err-3-clause-asked g c first is was =
    let left = coming c.read_line.new.text.lines (g.R.Source.tells c.read_line.new.source) in
    let mid = c.in_ok-first.ensures.left first first.told is c.in-Ok.ensures.line.0 in
    let now = reader (g.R.Source.tells c.read_line-2.new.source) (g.R.Source.failures c.read_line-2.new.source)
    (g.R.Source.asked c.read_line-2.new.source) in
    let rest = coming c.read_line-2.new.text.lines now.told in
    let behind = c.in_ok-next.ensures.left first left mid c.in_default.ensures.line.0 in
    let begins = going-left first now c.read_line-2.new.text.lines c.read_line-2.new.text.most c.most_of-text.result
    rest c.read_line-2.new.text.state c.in_ok-next.ensures.going behind in
    let once = c.read_line-2.ensures.asked first left mid (c.read_line.ensures.asked first first.told is was) in
    c.read_beside.ensures.asked first rest begins (record { asks = once.asks; once = once.once; fails = once.fails })

pub returns-in-Ok-3-clause-head : goal.returns-in-Ok-3-clause-head
returns-in-Ok-3-clause-head g c =
    let said =
    rw c.in-Ok-3.is at
    (c.in_ok-begun.ensures.head c.in-Ok-2.second c.read_line-2.new.line.items c.start-judging.ensures) in
    said.0

pub returns-in-Ok-3-clause-most : goal.returns-in-Ok-3-clause-most
returns-in-Ok-3-clause-most g c =
    let said =
    rw c.in-Ok-3.is at
    (c.in_ok-begun.ensures.head c.in-Ok-2.second c.read_line-2.new.line.items c.start-judging.ensures) in
    let sized = subst (λ (l : List ℕ). IsMost c.args.count (length l) c.most_of-text.result)
    (c.as_slice-4.ensures.value ∙ said.2) c.most_of-text.ensures in
    subst (IsMost c.args.count (length (certificate_text c.in-Ok-3.begun.head.certificate)))
    (sym c.read_beside.ensures.most) sized
