use Rattle.std.proofs.Common.{◌≡◌, ◌∙◌, sym, ap, subst, arith, length, take, [], ◌∷◌, ◌++◌, ◌+◌, ◌-◌}
use Rattle.std.proofs.lemmas.List.{take_all}
use Rattle.sgt_certifier.specs.History.{Replays}
use Rattle.sgt_service_settle.specs.private.Index.{AreNamed}
use Rattle.sgt_service_settle.specs.private.Words.{Pushed}
use Rattle.sgt_service_settle.proofs.Rowing.{written_back}
use Rattle.sgt_service_settle.proofs.Naming.{IsNamingOf, naming_begun, naming_closed, naming_other, naming_opens}
use Rattle.sgt_service_settle.proofs.names.windows.Goals as goal
use Rattle.sgt_service_settle.proofs.names.windows.Goals.{in-Begin+in_ok-push_at-in-Begin, in-Close+in_ok-push-in-Close, in_default}
use Rattle.sgt_names.proofs.Lists.{element_at}

pub loop-call-init : goal.loop-call-init
loop-call-init c =
    naming_opens c.history-history.result.now c.args.certifier.now.state _ _
    (subst (λ h. Replays h c.args.certifier.now.state) (sym c.history-history.ensures.is)
    c.history-history.ensures.replays)
    (c.in_ok-push.ensures.items ∙ ap (λ xs. xs ++ c.new.result ∷ []) c.new-windows.ensures.items) c.new.ensures.items

pub loop-call-preserved : goal.loop-call-preserved
loop-call-preserved c =
    let history = c.history-history.result.now in
    let n = c.loop-call.call-index in
    let here = element_at history n c.call-item.result c.loop-call-test.true c.call-item.is in
    elim c.match-call.branch [
      | in-Begin+in_ok-push_at-in-Begin w ↦
          let rows = w.push_at.new.rows in
          let same : length rows ≡ length w.as_mut_slice.result.now = w.push_at.auto.rows in
          let old : w.as_mut_slice.result.now ≡ c.loop-call.windows.items = w.as_mut_slice.ensures.value in
          let long : length rows ≡ length c.loop-call.windows.items = same ∙ ap length old in
          let fits : c.loop-call.windows.len ≡ length rows = omega (arith, c.loop-call.windows.ok.0, long) in
          let back = written_back c.loop-call.windows.items rows c.loop-call.windows.len fits in
          let pushed : Pushed c.loop-call.windows.items (w.len-last.result - 1) w.in-Begin.tx rows =
          subst (λ xs. Pushed xs (w.len-last.result - 1) w.in-Begin.tx rows) old w.in_ok-push_at-in-Begin.ensures in
          rw w.windows-is (subst (IsNamingOf history (n + 1)) (sym back)
          (naming_begun history n c.loop-call.windows.items rows c.call-item.result w.in-Begin.tx w.in-Begin.handle
          (w.len-last.result - 1) c.loop-call.invariant here w.in-Begin.is
          (omega (arith, c.loop-call.invariant.naming.generations, w.len-last.ensures, c.loop-call.windows.ok.0))
          pushed long))
      | in-Close+in_ok-push-in-Close w ↦
          rw w.windows-is (subst (IsNamingOf history (n + 1)) (sym w.in_ok-push-in-Close.ensures.items)
          (naming_closed history n c.loop-call.windows.items w.new-in-Close.result c.call-item.result w.in-Close.ranks
          c.loop-call.invariant here w.in-Close.is w.new-in-Close.ensures.items))
      | in_default w ↦
          rw w.windows-is (naming_other history n c.loop-call.windows.items c.call-item.result c.loop-call.invariant
          here w.in_default.not-Begin w.in_default.not-Close)
    ]

pub returns : goal.returns
returns c =
    let whole : take c.loop-call.call-index c.history-history.result.now ≡ c.args.certifier.now.history =
    take_all c.loop-call.call-index c.history-history.result.now (omega arith) ∙ c.history-history.ensures.is in
    subst (λ seen. AreNamed seen c.loop-call.windows.items) whole c.loop-call.invariant.naming.names
