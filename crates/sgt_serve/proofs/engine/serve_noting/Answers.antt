use Rattle.std.proofs.Common.{◌∙◌, ◌+◌, arith, ap, refl, subst, sym, Ok, ℕ, List, [], Option}
use Rattle.sgt_pipe.specs.Acts.{Held}
use Rattle.sgt_serve.specs.declared.opening.Opened.{Opened}
use Rattle.sgt_serve.specs.Ended.{IsUnreadable, Served}
use Rattle.sgt_serve.specs.private.Opening.{OpensSo}
use Rattle.sgt_serve.specs.private.Serving.{TellsFront}
use Rattle.sgt_serve.specs.Place.{kept_at}
use Rattle.sgt_serve.proofs.Openings.{no_sites}
use Rattle.sgt_serve.proofs.Served.{deaf_told, has_opened, served_ended, served_err, served_memory, served_told}
use Rattle.sgt_serve.proofs.Ways.{deaf_as, leaves_then}
use Rattle.sgt_serve.proofs.engine.serve_noting.Goals as goal

pub returns-in_default-clause-served : goal.returns-in_default-clause-served
returns-in_default-clause-served g c =
    let history = c.args.pipe.now.history in
    served_memory _ [] history [] _ _
    (no_sites [] history [] refl refl c.requires.given c.requires.written c.requires.waits)
    (refl, refl, c.note.ensures)

pub returns-in_default-clause-reader : goal.returns-in_default-clause-reader
returns-in_default-clause-reader g c = (_, deaf_as _ _ _ _ _ _ refl refl refl, refl)

pub returns-in-Begun-clause-served : goal.returns-in-Begun-clause-served
returns-in-Begun-clause-served g c =
    let p = subst (λ (o : Opened). OpensSo (Ok o) (g.R.Source.tells c.read_sites.new.pipe.reader)
    c.read_sites.new.sites.items c.read_sites.new.pipe.history c.read_sites.new.inbox.held) c.in-Begun.is
    c.in-Ok-read_sites.ensures.opens in
    served_memory _ c.read_sites.new.sites.items c.read_sites.new.pipe.history c.read_sites.new.inbox.held
    _ _ p.0 (refl, refl, omega (arith, c.in-Ok-read_sites.ensures.notes, c.note-in-Err-server_of.ensures))

pub returns-in-Begun-clause-reader : goal.returns-in-Begun-clause-reader
returns-in-Begun-clause-reader g c = (
  c.read_sites.new.inbox.reads,
  c.in-Ok-read_sites.ensures.hears,
  c.read_sites.ensures.asks ∙ ap (λ (i : Held). g.R.Source.asked c.args.pipe.now.reader + i.reads) c.in-Ok.ensures,
)

pub returns-in-Ok-server_of-clause-served : goal.returns-in-Ok-server_of-clause-served
returns-in-Ok-server_of-clause-served g c =
    let p = subst (λ (o : Opened). OpensSo (Ok o) (g.R.Source.tells c.read_sites.new.pipe.reader)
    c.read_sites.new.sites.items c.read_sites.new.pipe.history c.read_sites.new.inbox.held) c.in-Begun.is
    c.in-Ok-read_sites.ensures.opens in
    let n = c.in-Ok-server_of.server.refusals in
    let h = g.B.Bundles.handed c.args.bundles.now in
    subst (λ (k : ℕ). Served c.serve_talk-told.result.0 (g.R.Source.tells c.serve_talk-told.new.pipe.reader)
    c.serve_talk-told.new.pipe.history.given c.serve_talk-told.new.pipe.history.written (kept_at h k)
    (kept_at (g.B.Bundles.handed c.serve_talk-told.new.bundles) c.serve_talk-told.result.1))
    (omega (arith, c.in-Ok-server_of.ensures.quiet, c.requires.quiet))
    (c.serve_talk-told.ensures.serves c.read_sites.new.sites.items (kept_at h n)
    (has_opened c.read_sites.new.sites.items (kept_at h n) c.in-Ok-server_of.server.core
    c.read_sites.new.pipe.history c.in-Ok-server_of.server.answers.items
    c.read_sites.new.inbox.held p.0 p.1 c.in-Ok-server_of.ensures.stands c.in-Ok-server_of.ensures.none) p.3).0

pub returns-in-Ok-server_of-clause-flushed : goal.returns-in-Ok-server_of-clause-flushed
returns-in-Ok-server_of-clause-flushed g c =
    let p = subst (λ (o : Opened). OpensSo (Ok o) (g.R.Source.tells c.read_sites.new.pipe.reader)
    c.read_sites.new.sites.items c.read_sites.new.pipe.history c.read_sites.new.inbox.held) c.in-Begun.is
    c.in-Ok-read_sites.ensures.opens in
    let kept = kept_at (g.B.Bundles.handed c.args.bundles.now) c.in-Ok-server_of.server.refusals in
    (c.serve_talk-told.ensures.serves c.read_sites.new.sites.items kept
    (has_opened c.read_sites.new.sites.items kept c.in-Ok-server_of.server.core
    c.read_sites.new.pipe.history c.in-Ok-server_of.server.answers.items
    c.read_sites.new.inbox.held p.0 p.1 c.in-Ok-server_of.ensures.stands c.in-Ok-server_of.ensures.none) p.3).1

pub returns-in-Ok-server_of-clause-reader : goal.returns-in-Ok-server_of-clause-reader
returns-in-Ok-server_of-clause-reader g c = (
  c.serve_talk-told.new.inbox.reads,
  leaves_then c.serve_talk-told.result.0 _ _ _ _ _ _ _ _ _ _ c.in-Ok-read_sites.ensures.hears
      c.serve_talk-told.ensures.hears,
  c.serve_talk-told.ensures.asks
      ∙ (c.read_sites.ensures.asks
      ∙ ap (λ (i : Held). g.R.Source.asked c.args.pipe.now.reader + i.reads) c.in-Ok.ensures),
)

pub returns-in-Ended-clause-served : goal.returns-in-Ended-clause-served
returns-in-Ended-clause-served g c =
    let p = subst (λ (o : Opened). OpensSo (Ok o) (g.R.Source.tells c.read_sites.new.pipe.reader)
    c.read_sites.new.sites.items c.read_sites.new.pipe.history c.read_sites.new.inbox.held) c.in-Ended.is
    c.in-Ok-read_sites.ensures.opens in
    served_ended _ c.read_sites.new.sites.items c.read_sites.new.pipe.history c.read_sites.new.inbox.held
    _ _ p.0 p.1 p.2 p.3 (refl, refl, c.in-Ok-read_sites.ensures.notes)

pub returns-in-Ended-clause-reader : goal.returns-in-Ended-clause-reader
returns-in-Ended-clause-reader g c = (
  c.read_sites.new.inbox.reads,
  c.in-Ok-read_sites.ensures.hears,
  c.read_sites.ensures.asks ∙ ap (λ (i : Held). g.R.Source.asked c.args.pipe.now.reader + i.reads) c.in-Ok.ensures,
)

pub returns-in-Ok-read_sites-clause-served : goal.returns-in-Ok-read_sites-clause-served
returns-in-Ok-read_sites-clause-served g c =
    let p = subst (λ (o : Opened). OpensSo (Ok o) (g.R.Source.tells c.read_sites.new.pipe.reader)
    c.read_sites.new.sites.items c.read_sites.new.pipe.history c.read_sites.new.inbox.held) c.in-Unreadable.is
    c.in-Ok-read_sites.ensures.opens in
    (served_told c.tell_unreadable.result _ c.read_sites.new.sites.items c.read_sites.new.pipe.history
    c.tell_unreadable.new.pipe.history c.read_sites.new.inbox.held c.in-Unreadable.fault
    _ _ p.0
    (subst (λ (left : Option (List ℕ)). IsUnreadable c.read_sites.new.sites.items left c.read_sites.new.inbox.held
    c.in-Unreadable.fault) (sym (ap g.R.Source.tells c.tell_unreadable.ensures.reader)) p.1)
    (subst (λ (n : ℕ). TellsFront c.tell_unreadable.result (n + 1) c.in-Unreadable.fault c.read_sites.new.pipe.history
    c.tell_unreadable.new.pipe.history)
    (c.len.ensures ∙ c.read_sites.new.sites.ok.0) c.tell_unreadable.ensures.tells)
    (refl, refl, omega (arith, c.in-Ok-read_sites.ensures.notes, c.tell_unreadable.ensures.notes))).0

pub returns-in-Ok-read_sites-clause-reader : goal.returns-in-Ok-read_sites-clause-reader
returns-in-Ok-read_sites-clause-reader g c = (
  c.read_sites.new.inbox.reads,
  leaves_then c.tell_unreadable.result _ _ _ _ _ _ _ _ _ _ c.in-Ok-read_sites.ensures.hears
      (deaf_told c.tell_unreadable.result _ _ _ _ _ _ _ _ _ c.tell_unreadable.ensures.tells
      (ap g.R.Source.tells c.tell_unreadable.ensures.reader)
      (ap g.R.Source.failures c.tell_unreadable.ensures.reader)),
  ap (λ (n : ℕ). n + c.read_sites.new.inbox.reads) (ap g.R.Source.asked c.tell_unreadable.ensures.reader)
      ∙ (c.read_sites.ensures.asks
      ∙ ap (λ (i : Held). g.R.Source.asked c.args.pipe.now.reader + i.reads) c.in-Ok.ensures),
)

pub returns-clause-served : goal.returns-clause-served
returns-clause-served g c =
    (served_err c.in-Err.fault _ c.read_sites.new.sites.items c.read_sites.new.pipe.history
    c.read_sites.new.inbox.held _ _ c.in-Err.ensures.opens (refl, refl, c.in-Err.ensures.notes)).0
