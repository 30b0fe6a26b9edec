use Rattle.std.proofs.Common.{List, ℕ, refl, string_bytes, subst}
use Rattle.std.specs.Io.KnownBytes.{Appends}
use Rattle.sgt_names.specs.Device.{WritesFront}
use Rattle.sgt_program.proofs.chain.tell_chain.Goals as goal

pub returns-in-Ok-write_all-clause-yes : goal.returns-in-Ok-write_all-clause-yes
returns-in-Ok-write_all-clause-yes g c =
    let wrote = c.in-Ok-write_all.ensures.ok in (
      refl,
      (
        string_bytes c.in-Ok.text,
        subst (λ (text : List ℕ). Appends (g.W.Sink.holds c.args.writer.now) (g.W.Sink.holds c.write_all.new.writer)
            text) c.as_bytes.ensures.value wrote,
        λ told audited. (c.in-Ok.ensures.yes told audited, c.in-Ok.ensures.headline told audited),
      ),
    )

pub returns-clause-front : goal.returns-clause-front
returns-clause-front g c = λ failed.
    let front = c.in-Err.ensures.err in (
      string_bytes c.in-Ok.text,
      subst (λ (text : List ℕ). WritesFront (g.W.Sink.holds c.args.writer.now) (g.W.Sink.holds c.write_all.new.writer)
          text) c.as_bytes.ensures.value front,
      λ told audited. c.in-Ok.ensures.yes told audited,
    )
