use Rattle.std.proofs.Common.{◌∙◌, length, ap, sym}
use Rattle.std.specs.Prelude.{slice_get}
use Rattle.std.proofs.lemmas.Bool.{ltb-true}
use Rattle.sgt_names.proofs.Lists.{element_at}
use Rattle.sgt_service_settle.proofs.course.is_read_at.Goals as goal

pub returns-in-Some-get : goal.returns-in-Some-get
returns-in-Some-get c = λ yes.
    let rows = c.deref.result.now in
    let row = c.in-Some.reads.now in
    let found = c.in-Some.ensures.lookup in
    let reads = c.deref-2.result.now in
    let one = c.in-Some-get.field-0.now in
    let first = c.in-Some-get.ensures.lookup in
    record {
      row = row;
      at = ap (λ xs. slice_get xs c.args.version) (sym c.deref.ensures.value)
          ∙ element_at rows c.args.version row (ltb-true c.args.version (length rows) (sym found.0)) found.1;
      place = 0;
      read = one;
      has = ap (λ xs. slice_get xs 0) (sym c.deref-2.ensures.value)
          ∙ element_at reads 0 one (ltb-true 0 (length reads) (sym first.0)) first.1;
    }
