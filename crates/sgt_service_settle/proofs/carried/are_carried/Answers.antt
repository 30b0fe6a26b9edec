use Rattle.std.proofs.Common.{ℕ, ◌≡◌, ◌∙◌, sym, ap, subst, arith, inl, inr, refl, length, Some}
use Rattle.std.proofs.lemmas.Option.{slice_get_within, same_Some, none-some}
use Rattle.std.proofs.lemmas.Bool.{true≢false}
use Rattle.sgt_names.specs.Entry.{tx_of, item_of}
use Rattle.sgt_names.specs.declared.entry.Entry.{Entry as AnEntry}
use Rattle.sgt_names.specs.Name.{Name}
use Rattle.sgt_service_settle.specs.declared.link.Cut.{Cut as ACut}
use Rattle.sgt_service_settle.specs.private.Index.{IsIn, IsPlaceCarried}
use Rattle.sgt_service_settle.proofs.Lists.{before_or_here}
use Rattle.sgt_service_settle.proofs.Rowing.{written_back}
use Rattle.sgt_service_settle.proofs.Carrying.{carried_place, places_carried}
use Rattle.sgt_service_settle.proofs.carried.are_carried.Goals as goal
use Rattle.sgt_service_settle.proofs.carried.are_carried.Goals.{in-Some+in_ok-carried+else-not-carried, in_default}
use Rattle.sgt_names.proofs.Lists.{element_at}

pub is_place_carried-requires-clause-commit : goal.is_place_carried-requires-clause-commit
is_place_carried-requires-clause-commit c =
    let k = (c.cut_at.ensures c.in-Some.cut).0 c.in-Some.is in
    let low = slice_get_within c.as_slice.result.now (tx_of c.index-log-place.result) (Some c.in-Some.cut.last) k.1 in
    omega (arith, low, ap length c.as_slice.ensures.value)

pub returns-then-not-carried : goal.returns-then-not-carried
returns-then-not-carried c =
    let index = c.args.index.now in
    let here = element_at c.args.log.now c.loop-place.place c.index-log-place.result c.loop-place-test.true
    c.index-log-place.is in
    let k = (c.cut_at.ensures c.in-Some.cut).0 c.in-Some.is in
    let mine : IsIn index.commits.items (tx_of c.index-log-place.result) c.in-Some.cut.last =
    subst (λ xs. IsIn xs (tx_of c.index-log-place.result) c.in-Some.cut.last) c.as_slice.ensures.value k.1 in (
      λ told. absurd (true≢false (sym told)),
      λ all. absurd
          (true≢false
          (sym (c.in_ok-carried.ensures.1
          (carried_place index c.args.site c.args.log.now c.in-Some.cut c.loop-place.place c.index-log-place.result
          here mine k.2 all)) ∙ c.if-not-carried.true)),
    )

pub loop-place-preserved : goal.loop-place-preserved
loop-place-preserved c =
    let index = c.args.index.now in
    let n = c.loop-place.place in
    let seen : AnEntry = c.index-log-place.result in
    let here = element_at c.args.log.now n seen c.loop-place-test.true c.index-log-place.is in
    let cut_of : (m : ℕ) (e : AnEntry) (x : Name) → seen ≡ e → item_of e ≡ Some x
    → IsIn index.commits.items (tx_of e) m
    → c.cut_at.result ≡ Some (record { site = c.args.site; item = x; last = m }) = λ m e x same item commit.
    (c.cut_at.ensures (record { site = c.args.site; item = x; last = m })).1 (
      ap item_of same
          ∙ item,
      subst (λ xs. IsIn xs (tx_of seen) m) (sym c.as_slice.ensures.value)
          (subst (λ y. IsIn index.commits.items (tx_of y) m) (sym same) commit),
      refl,
    ) in
    elim c.match-cut_at.branch [
      | in-Some+in_ok-carried+else-not-carried w ↦
          let cut : ACut = w.in-Some.cut in
          let mine : IsPlaceCarried index c.args.log.now cut n seen =
          w.in_ok-carried.ensures.0 w.if-not-carried.false in
          let forward : length w.is_place_carried.new.forward ≡ c.len-all.result = w.is_place_carried.auto.forward
          ∙ (ap length w.as_mut_slice.ensures.value ∙ c.loop-place.invariant.forward) in
          let backward : length w.is_place_carried.new.backward ≡ c.len-all.result = w.is_place_carried.auto.backward
          ∙ (ap length w.as_mut_slice-in-Some.ensures.value ∙ c.loop-place.invariant.backward) in
          record {
            forward =
                rw w.forward-is
                (ap length
                (written_back c.loop-place.forward.items w.is_place_carried.new.forward c.loop-place.forward.len
                (omega (arith, c.loop-place.forward.ok.0, c.loop-place.invariant.forward, forward))) ∙ forward);
            backward =
                rw w.backward-is
                (ap length (written_back c.loop-place.backward.items w.is_place_carried.new.backward
                c.loop-place.backward.len (omega (
                  arith,
                  c.loop-place.backward.ok.0,
                  c.loop-place.invariant.backward,
                  backward,
                ))) ∙ backward);
            carried = λ p m e x low at item commit.
                elim (before_or_here c.args.log.now n p seen e here at low) [
                  | inl early ↦ c.loop-place.invariant.carried p m e x early at item commit
                  | inr last ↦
                      let is : cut ≡ record { site = c.args.site; item = x; last = m } =
                      same_Some cut (record { site = c.args.site; item = x; last = m }) (sym w.in-Some.is
                      ∙ cut_of m e x last.1 item commit) in
                      subst (λ k. IsPlaceCarried index c.args.log.now (record {
                        site = c.args.site;
                        item = x;
                        last =
                            m;
                      }) k e) last.0
                      (subst (λ y. IsPlaceCarried index c.args.log.now (record {
                        site = c.args.site;
                        item = x;
                        last =
                            m;
                      }) n y) last.1
                      (subst (λ y. IsPlaceCarried index c.args.log.now y n seen) is mine))
                ];
          }
      | in_default w ↦ record {
        forward = rw w.forward-is c.loop-place.invariant.forward;
        backward = rw w.backward-is c.loop-place.invariant.backward;
        carried = λ p m e x low at item commit.
            elim (before_or_here c.args.log.now n p seen e here at low) [
              | inl early ↦ c.loop-place.invariant.carried p m e x early at item commit
              | inr last ↦ absurd (none-some _ (sym w.in_default.is ∙ cut_of m e x last.1 item commit))
            ];
      }
    ]

pub returns : goal.returns
returns c =
    let index = c.args.index.now in (
      λ told. places_carried index c.args.site c.args.log.now
          (λ p m e x at item commit. c.loop-place.invariant.carried p m e x (let low =
          slice_get_within c.args.log.now p e at in omega (arith, low, c.loop-place-test.false)) at item commit),
      λ all. refl,
    )
