use Rattle.sgt_c.proofs.Wrote.{put-exact, put-room, put-text}
use Rattle.sgt_c.proofs.histories.sgt_check.Goals as goal

pub returns-clause-exact : goal.returns-clause-exact
returns-clause-exact c = λ checked.
    put-exact c.args.bytes.now c.put.result c.check_text.result c.args.out.now c.put.new.out c.put.new.text_len
    c.check_text.ensures.text c.put.ensures.whole c.put.ensures.room
    c.put.ensures.err checked

pub returns-clause-text : goal.returns-clause-text
returns-clause-text c = λ checked.
    put-text c.args.bytes.now c.put.result c.check_text.result c.args.out.now c.put.new.out c.put.new.text_len
    c.check_text.ensures.text c.put.ensures.whole c.put.ensures.room
    c.put.ensures.measured c.put.ensures.err checked

pub returns-clause-room : goal.returns-clause-room
returns-clause-room c = λ room.
    put-room c.args.bytes.now c.put.result c.check_text.result c.args.out.now c.put.new.out c.put.new.text_len
    c.check_text.ensures.text c.put.ensures.whole
    c.put.ensures.measured c.put.ensures.err room
