-- An input is recovered, or not.
use Rattle.std.proofs.Common.{arith, inl, rules}
use Rattle.std.proofs.lemmas.Grind.{common_steps}
use Rattle.record_run.proofs.Markets.{makes-grid}
use Rattle.stored_journal.specs.Lines.{TellsContents}
use Rattle.stored_journal.proofs.Results.{if-ok, on-ok}
use Rattle.session_run.specs.Recovering.{image_line}
use Rattle.session_run.proofs.Recovered.{err-ends, long-or-short}
use Rattle.session_run.proofs.recovering.recover_input.Goals as goal

pub returns-then-has_long_image-clause-ends : goal.returns-then-has_long_image-clause-ends
returns-then-has_long_image-clause-ends g c = inl (c.has_long_image.ensures.long c.if-has_long_image.true)

pub returns-in-Err-BadSession-clause-ends : goal.returns-in-Err-BadSession-clause-ends
returns-in-Err-BadSession-clause-ends g c = record {
  divided = first_of (search rules, grind (arith, common_steps));
  short = c.has_long_image.ensures.short c.if-has_long_image.false;
}

pub recover_session-requires-clause-joined : goal.recover_session-requires-clause-joined
recover_session-requires-clause-joined g c = (makes-grid image_line c.args.bytes.now c.in-Ok.divided.rest.now c.in-Ok.divided.session c.in-Ok.ensures.good).0

pub recover_session-requires-clause-sound : goal.recover_session-requires-clause-sound
recover_session-requires-clause-sound g c = (makes-grid image_line c.args.bytes.now c.in-Ok.divided.rest.now c.in-Ok.divided.session c.in-Ok.ensures.good).1

pub recover_session-requires-clause-short : goal.recover_session-requires-clause-short
recover_session-requires-clause-short g c =
    long-or-short c.args.bytes.now c.in-Ok.divided.session c.in-Ok.divided.rest.now c.in-Ok.ensures.good (c.has_long_image.ensures.short c.if-has_long_image.false)

pub returns-clause-text : goal.returns-clause-text
returns-clause-text g c =
    let short = long-or-short c.args.bytes.now c.in-Ok.divided.session c.in-Ok.divided.rest.now c.in-Ok.ensures.good (c.has_long_image.ensures.short c.if-has_long_image.false) in
    if-ok c.recover_session.result _ _
    (λ journal text. record {
      session = c.in-Ok.divided.session;
      image = c.in-Ok.divided.rest.now;
      has = record { divided = c.in-Ok.ensures.good; short = short };
      of = text;
    })
    c.recover_session.ensures.text

pub returns-clause-on_disk : goal.returns-clause-on_disk
returns-clause-on_disk g c =
    let short = long-or-short c.args.bytes.now c.in-Ok.divided.session c.in-Ok.divided.rest.now c.in-Ok.ensures.good (c.has_long_image.ensures.short c.if-has_long_image.false) in
    on-ok c.recover_session.result _ _
    (λ held tells. record {
      session = c.in-Ok.divided.session;
      image = c.in-Ok.divided.rest.now;
      has = record { divided = c.in-Ok.ensures.good; short = short };
      of = held tells;
    })
    c.recover_session.ensures.on_disk

pub returns-clause-ends : goal.returns-clause-ends
returns-clause-ends g c =
    let short = long-or-short c.args.bytes.now c.in-Ok.divided.session c.in-Ok.divided.rest.now c.in-Ok.ensures.good (c.has_long_image.ensures.short c.if-has_long_image.false) in
    err-ends (TellsContents (g.D.Disk.contents c.args.disk.now)) c.args.bytes.now c.in-Ok.divided.session c.in-Ok.divided.rest.now
    (record { divided = c.in-Ok.ensures.good; short = short }) c.recover_session.result c.recover_session.ensures.ends
    c.recover_session.ensures.bad_image c.recover_session.ensures.illegal c.recover_session.ensures.too_long
