use Rattle.std.proofs.Common.{◌≤◌, List, length, sym, subst}
use Rattle.sgt_names.specs.Limits.{max_sites}
use Rattle.sgt_bundle.specs.declared.bundle.SiteLog.{SiteLog}
use Rattle.sgt_certify_logs.specs.Sound.{AreSound}
use Rattle.sgt_certify_greedy.specs.Answer.{IsAnswerTo}
use Rattle.sgt_certify_greedy.specs.declared.deciding.Answer.{Answer}
use Rattle.sgt_certify_greedy.specs.declared.deciding.Answer.TheVariants.{Certificate, Order, Ranks, Stuck}
use Rattle.sgt_certify.specs.Lines.{IsShownBy}
use Rattle.sgt_certify.specs.declared.refuting.Refusal.TheVariants.{Order as RefusedOrder, Ranks as RefusedRanks, Walk as RefusedWalk}
use Rattle.sgt_certify.proofs.Decided.{logs-sound, told-no, told-yes}
use Rattle.sgt_certify.proofs.deciding.sound_answer.Goals as goal

pub decide-requires-clause-sound : goal.decide-requires-clause-sound
decide-requires-clause-sound c =
    subst AreSound (sym c.sites-logs.ensures.logs)
    (logs-sound c.args.text.now _ c.in_ok-bundle.ensures.logs c.requires.sound)

pub decide-requires-clause-few : goal.decide-requires-clause-few
decide-requires-clause-few c =
    subst (λ (logs : List SiteLog). length logs ≤ max_sites) (sym c.sites-logs.ensures.logs)
    c.in_ok-bundle.ensures.logs.shape.few

pub certificate_answer-requires : goal.certificate_answer-requires
certificate_answer-requires c =
    let logs = c.in_ok-bundle.bundle.sites in
    let is = subst (λ (sites : List SiteLog). IsAnswerTo sites c.in_ok-found.found) c.sites-logs.ensures.logs
    c.in_ok-found.ensures in
    let valid : IsAnswerTo logs (Certificate c.in-Certificate.certificate) =
    subst (λ (a : Answer). IsAnswerTo logs a) c.in-Certificate.is is in
    (logs, c.in_ok-bundle.ensures.logs, valid.0, valid.1)

pub returns-in-Order-clause-answer : goal.returns-in-Order-clause-answer
returns-in-Order-clause-answer c =
    let logs = c.in_ok-bundle.bundle.sites in
    let is = subst (λ (sites : List SiteLog). IsAnswerTo sites c.in_ok-found.found) c.sites-logs.ensures.logs
    c.in_ok-found.ensures in
    let ring : IsAnswerTo logs (Order c.in-Order.cycle) = subst (λ (a : Answer). IsAnswerTo logs a) c.in-Order.is is in
    (told-no c.args.text.now _ _ RefusedOrder logs _ c.in_ok-reason_answer-in-Order.ensures c.requires.faultless
    c.in_ok-bundle.ensures.logs
    (subst (IsShownBy RefusedOrder logs) (sym c.as_slice.ensures.value) ring) tt).0

pub returns-in-Order-clause-decided : goal.returns-in-Order-clause-decided
returns-in-Order-clause-decided c =
    let logs = c.in_ok-bundle.bundle.sites in
    let is = subst (λ (sites : List SiteLog). IsAnswerTo sites c.in_ok-found.found) c.sites-logs.ensures.logs
    c.in_ok-found.ensures in
    let ring : IsAnswerTo logs (Order c.in-Order.cycle) = subst (λ (a : Answer). IsAnswerTo logs a) c.in-Order.is is in
    (told-no c.args.text.now _ _ RefusedOrder logs _ c.in_ok-reason_answer-in-Order.ensures c.requires.faultless
    c.in_ok-bundle.ensures.logs
    (subst (IsShownBy RefusedOrder logs) (sym c.as_slice.ensures.value) ring) tt).1

pub returns-in-Ranks-clause-answer : goal.returns-in-Ranks-clause-answer
returns-in-Ranks-clause-answer c =
    let logs = c.in_ok-bundle.bundle.sites in
    let is = subst (λ (sites : List SiteLog). IsAnswerTo sites c.in_ok-found.found) c.sites-logs.ensures.logs
    c.in_ok-found.ensures in
    let ring : IsAnswerTo logs (Ranks c.in-Ranks.cycle) = subst (λ (a : Answer). IsAnswerTo logs a) c.in-Ranks.is is in
    (told-no c.args.text.now _ _ RefusedRanks logs _ c.in_ok-reason_answer-in-Ranks.ensures c.requires.faultless
    c.in_ok-bundle.ensures.logs
    (subst (IsShownBy RefusedRanks logs) (sym c.as_slice-in-Ranks.ensures.value) ring.0) ring.1).0

pub returns-in-Ranks-clause-decided : goal.returns-in-Ranks-clause-decided
returns-in-Ranks-clause-decided c =
    let logs = c.in_ok-bundle.bundle.sites in
    let is = subst (λ (sites : List SiteLog). IsAnswerTo sites c.in_ok-found.found) c.sites-logs.ensures.logs
    c.in_ok-found.ensures in
    let ring : IsAnswerTo logs (Ranks c.in-Ranks.cycle) = subst (λ (a : Answer). IsAnswerTo logs a) c.in-Ranks.is is in
    (told-no c.args.text.now _ _ RefusedRanks logs _ c.in_ok-reason_answer-in-Ranks.ensures c.requires.faultless
    c.in_ok-bundle.ensures.logs
    (subst (IsShownBy RefusedRanks logs) (sym c.as_slice-in-Ranks.ensures.value) ring.0) ring.1).1

pub returns-clause-answer : goal.returns-clause-answer
returns-clause-answer c =
    let logs = c.in_ok-bundle.bundle.sites in
    let is = subst (λ (sites : List SiteLog). IsAnswerTo sites c.in_ok-found.found) c.sites-logs.ensures.logs
    c.in_ok-found.ensures in
    let ring : IsAnswerTo logs (Stuck c.in-Stuck.set) = subst (λ (a : Answer). IsAnswerTo logs a) c.in-Stuck.is is in
    (told-no c.args.text.now _ _ RefusedWalk logs _ c.in_ok-reason_answer-in-Stuck.ensures c.requires.faultless
    c.in_ok-bundle.ensures.logs
    (subst (IsShownBy RefusedWalk logs) (sym c.as_slice-in-Stuck.ensures.value) ring.0) (ring.1, ring.2)).0

pub returns-clause-decided : goal.returns-clause-decided
returns-clause-decided c =
    let logs = c.in_ok-bundle.bundle.sites in
    let is = subst (λ (sites : List SiteLog). IsAnswerTo sites c.in_ok-found.found) c.sites-logs.ensures.logs
    c.in_ok-found.ensures in
    let ring : IsAnswerTo logs (Stuck c.in-Stuck.set) = subst (λ (a : Answer). IsAnswerTo logs a) c.in-Stuck.is is in
    (told-no c.args.text.now _ _ RefusedWalk logs _ c.in_ok-reason_answer-in-Stuck.ensures c.requires.faultless
    c.in_ok-bundle.ensures.logs
    (subst (IsShownBy RefusedWalk logs) (sym c.as_slice-in-Stuck.ensures.value) ring.0) (ring.1, ring.2)).1

pub returns-in-Certificate-clause-answer : goal.returns-in-Certificate-clause-answer
returns-in-Certificate-clause-answer c =
    (told-yes c.args.text.now _ _ c.in_ok-certificate_answer-in-Certificate.ensures).0

pub returns-in-Certificate-clause-decided : goal.returns-in-Certificate-clause-decided
returns-in-Certificate-clause-decided c =
    (told-yes c.args.text.now _ _ c.in_ok-certificate_answer-in-Certificate.ensures).1
