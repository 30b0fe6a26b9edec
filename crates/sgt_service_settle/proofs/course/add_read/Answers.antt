use Rattle.std.proofs.Common.{◌∙◌, ◌++◌, ◌∷◌, [], ap, refl, inl, inr}
use Rattle.sgt_names.proofs.Lists.{element_at}
use Rattle.sgt_service_settle.proofs.course.add_read.Goals as goal

pub returns-then-course-deed : goal.returns-then-course-deed
returns-then-course-deed c = record {
  changes = refl;
  written = refl;
  before = c.index_mut-reads.result.now;
  after = c.push.new.self;
  was = element_at c.args.course.now.reads.items c.args.deed.now.version c.index_mut-reads.result.now
      c.requires.within c.index_mut-reads.ensures.value;
  now = refl;
  more = c.in_ok-push.ensures.items ∙ ap (λ xs. xs ++ c.args.deed.now ∷ []) c.in_ok-make_room.ensures;
  last = inl (c.if-course-deed.true, refl);
}

pub returns-else-course-deed : goal.returns-else-course-deed
returns-else-course-deed c = record {
  changes = refl;
  written = refl;
  before = c.index_mut-reads.result.now;
  after = c.push.new.self;
  was = element_at c.args.course.now.reads.items c.args.deed.now.version c.index_mut-reads.result.now
      c.requires.within c.index_mut-reads.ensures.value;
  now = refl;
  more = c.in_ok-push.ensures.items ∙ ap (λ xs. xs ++ c.args.deed.now ∷ []) c.in_ok-make_room.ensures;
  last = inr (c.if-course-deed.false, refl);
}
