use Rattle.std.proofs.Common.{◌≡◌, ◌∙◌, ◌+◌, [], ap, arith, get_or, length, refl, replicate, subst, take}
use Rattle.std.proofs.lemmas.List.{length-map}
use Rattle.local_view.specs.Cuts.{AreCutting}
use Rattle.local_view.specs.Moved.{no_order}
use Rattle.local_view.specs.Poured.{row_if}
use Rattle.local_view.specs.Whole.{in_line, rows_shown}
use Rattle.local_view.proofs.Cutting.{first_cutting, first_few, gives_few, gives_more, none-counted, none_given, row-count, row-few, seen_small}
use Rattle.local_view.proofs.cuts.Cuts.begin.Goals as goal
use Rattle.local_view.proofs.cuts.Cuts.begin.Goals.{then-order-gt0, else-order-gt0}

pub loop-place-init : goal.loop-place-init
loop-place-init g c = record {
  given = none_given g.line _ (ap (λ n. replicate 64 n) (ap length c.requires.0 ∙ length-map g.line in_line)) refl;
  few = omega arith;
  of = refl;
  left = refl;
}

pub gives-requires : goal.gives-requires
gives-requires g c = record { zone = seen_small g.line c.args.orders.now c.loop-place.place no_order c.requires.0 c.loop-place-test.true c.requires.1.0 }

pub returns-then-not-gives-clause-cutting : goal.returns-then-not-gives-clause-cutting
returns-then-not-gives-clause-cutting g c =
    first_cutting g.line c.requires.1.0 c.loop-place.place c.loop-place.count c.loop-place.self (omega (arith, c.loop-place-test.true, ap length c.requires.0 ∙ length-map g.line in_line)) c.loop-place.invariant.given

pub returns-then-not-gives-clause-count : goal.returns-then-not-gives-clause-count
returns-then-not-gives-clause-count g c = first_few g.line c.loop-place.place c.loop-place.count c.loop-place.self c.loop-place.invariant.given

pub bounds-self-order : goal.bounds-self-order
bounds-self-order g c = seen_small g.line c.args.orders.now c.loop-place.place no_order c.requires.0 c.loop-place-test.true c.requires.1.0

pub overflow_add-self : goal.overflow_add-self
overflow_add-self g c =
    let few = gives_few g.line c.args.orders.now c.requires.0 c.requires.1.0 c.loop-place.place no_order c.loop-place-test.true c.loop-place.count c.loop-place.self c.loop-place.invariant.given in
    omega (arith, few, c.requires.1.1)

pub bounds-self-order-in-loop-place : goal.bounds-self-order-in-loop-place
bounds-self-order-in-loop-place g c = seen_small g.line c.args.orders.now c.loop-place.place no_order c.requires.0 c.loop-place-test.true c.requires.1.0

pub loop-place-preserved : goal.loop-place-preserved
loop-place-preserved g c =
    let order = get_or c.args.orders.now c.loop-place.place no_order in
    let counted : c.if-order-gt0.count ≡ c.loop-place.count + length (row_if order.price order.lots []) = elim c.if-order-gt0.branch [
      | then-order-gt0 w ↦ omega (arith, w.count-is, row-count order.price order.lots w.if-order-gt0.true)
      | else-order-gt0 w ↦ w.count-is ∙ none-counted order.price order.lots c.loop-place.count w.if-order-gt0.false
    ] in
    record {
      given =
          gives_more g.line c.args.orders.now c.requires.0 c.requires.1.0 c.loop-place.place no_order c.loop-place-test.true c.loop-place.count c.loop-place.self c.loop-place.invariant.given _
          c.if-order-gt0.count refl refl counted;
      few = omega (arith, counted, row-few order.price order.lots, c.loop-place.invariant.few);
      of = c.gives.ensures.of ∙ c.loop-place.invariant.of;
      left = c.gives.ensures.left ∙ c.loop-place.invariant.left;
    }

pub returns-clause-cutting : goal.returns-clause-cutting
returns-clause-cutting g c =
    let size = ap length c.requires.0 ∙ length-map g.line in_line in
    let end : c.loop-place.place ≡ length c.args.orders.now = omega (arith, c.loop-place-test.false, c.loop-place.auto.place-end) in
    subst (λ place. AreCutting g.line place c.loop-place.self (take c.loop-place.count (rows_shown g.line))) end
    (first_cutting g.line c.requires.1.0 c.loop-place.place c.loop-place.count c.loop-place.self (omega (arith, end, size)) c.loop-place.invariant.given)
