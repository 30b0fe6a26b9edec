use Rattle.std.proofs.Common.{◌≡◌, ℕ, length, refl, arith, ap₂, inr, Some}
use Rattle.std.specs.Prelude.{slice_get, slice_set}
use Rattle.std.proofs.lemmas.Option.{slice_get_read, slice_get_within}
use Rattle.sgt_site.specs.State.{SiteState}
use Rattle.sgt_core_machine.proofs.Known.{read_refusal, why_as, here_at}
use Rattle.sgt_core_machine.proofs.machine.read_at.Goals as goal

pub returns-then-at-len-clause-why : goal.returns-then-at-len-clause-why
returns-then-at-len-clause-why c = inr (
  refl,
  λ is.
      let lt = slice_get_within c.args.places.now.items c.args.site is.0 is.1 in
      let beyond = c.if-at-len.true in
      let same : c.number-at.result ≡ c.args.site = omega arith in
      omega (arith, lt, beyond, same),
)

pub returns-in-Ok-clause-ok : goal.returns-in-Ok-clause-ok
returns-in-Ok-clause-ok c =
    let places = c.args.places.now.items in
    let p = c.index_mut-place.result.now in
    let same : c.number-at.result ≡ c.args.site = omega arith in
    let here : slice_get places c.args.site ≡ Some p =
    slice_get_read places (length places) c.args.site p refl (omega arith)
    (rw same at c.index_mut-place.ensures.value) in
    record {
      place = p;
      was = here;
      value = c.in-Ok.ensures.value;
      version = c.in-Ok.ensures.version;
      is = ap₂ (λ (k : ℕ) (s : SiteState). slice_set places k (record { site = s; part = p.part })) same
          c.in-Ok.ensures.logged;
    }

pub returns-in-Ok-clause-known : goal.returns-in-Ok-clause-known
returns-in-Ok-clause-known c =
    let places = c.args.places.now.items in
    let p = c.index_mut-place.result.now in
    let same : c.number-at.result ≡ c.args.site = omega arith in
    let here : slice_get places c.args.site ≡ Some p =
    slice_get_read places (length places) c.args.site p refl (omega arith)
    (rw same at c.index_mut-place.ensures.value) in
    (p, here, c.in-Ok.ensures.allowed.known)

pub fault_of_read-requires : goal.fault_of_read-requires
fault_of_read-requires c =
    let places = c.args.places.now.items in
    let p = c.index_mut-place.result.now in
    let same : c.number-at.result ≡ c.args.site = omega arith in
    let here : slice_get places c.args.site ≡ Some p =
    slice_get_read places (length places) c.args.site p refl (omega arith)
    (rw same at c.index_mut-place.ensures.value) in
    (read_refusal p.site c.args.tx c.args.item c.in-Err.fault (c.requires p here) c.in-Err.ensures.refused).0

pub returns-in-Err-clause-why : goal.returns-in-Err-clause-why
returns-in-Err-clause-why c =
    let places = c.args.places.now.items in
    let p = c.index_mut-place.result.now in
    let same : c.number-at.result ≡ c.args.site = omega arith in
    let here : slice_get places c.args.site ≡ Some p =
    slice_get_read places (length places) c.args.site p refl (omega arith)
    (rw same at c.index_mut-place.ensures.value) in
    let why = (read_refusal p.site c.args.tx c.args.item c.in-Err.fault (c.requires p here)
    c.in-Err.ensures.refused).1 in
    rw c.fault_of_read.ensures (why_as _ _ _ (λ known. (p, here, known)) (here_at places c.args.site c.args.item p here)
    why)
