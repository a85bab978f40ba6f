use Rattle.std.proofs.Common.{◌≡◌, ◌≤◌, ◌++◌, take, ap, sym, ◌∙◌, arith, append_assoc}
use Rattle.std.proofs.lemmas.List.{take-append-drop}
use Rattle.std.proofs.KnownBytes.{Appends-trans}
use Rattle.tests_of_stores.proofs.end_tests.write_whole.Goals as goal

pub loop-rest-preserved : goal.loop-rest-preserved
loop-rest-preserved g c =
    let front = c.loop-rest.invariant.0.0 in
    let more = take c.in_ok-count.count c.loop-rest.rest.now in
    let cut : c.loop-rest.rest.now ≡ more ++ c.split_at.result.1.now = sym (rw (c.split_at.ensures.back) (take-append-drop c.in_ok-count.count c.loop-rest.rest.now)) in
    let counted : g.K.Sink.faults c.args.sink.now ≤ g.K.Sink.faults c.write.new.self = omega (arith, c.loop-rest.invariant.1, c.write.ensures.kept_count) in
    ((front ++ more, c.loop-rest.invariant.0.1 ∙ ap (λ l. front ++ l) cut ∙ sym (append_assoc front more c.split_at.result.1.now), Appends-trans _ _ _ front more c.loop-rest.invariant.0.2 c.in_ok-count.ensures.bytes), counted)
