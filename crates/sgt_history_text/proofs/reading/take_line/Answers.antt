use Rattle.sgt_history_text.proofs.reading.take_line.Goals as goal

pub returns-in-Some : goal.returns-in-Some
returns-in-Some c = λ w lines ids h built moments.
    let taken = c.in_ok-taken.ensures w lines ids h built moments in
    rw c.in-Some.is at taken

pub returns : goal.returns
returns c = λ w lines ids h built moments.
    let left = c.in_ok-taken.ensures w lines ids h built moments in
    c.take_tokens.ensures w lines ids h (rw c.in_default.is at left) moments
