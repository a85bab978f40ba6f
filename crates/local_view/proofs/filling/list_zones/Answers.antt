use Rattle.std.proofs.Common.{◌≢◌, ◌∙◌, ◌+◌, ◌<◌, ℕ, [], ap, arith, get_or, inl, inr, length, refl, set, List, subst, sym}
use Rattle.std.proofs.lemmas.Bool.{true≢false}
use Rattle.std.proofs.lemmas.Bool.Decides.{eqb_tells}
use Rattle.std.proofs.lemmas.List.{get_or-set_other, get_or-set_same, get_or_default}
use Rattle.cut_proof.specs.ZoneSet.{holds}
use Rattle.local_view.specs.Boards.{view_of}
use Rattle.local_view.specs.Works.{IsLineWork}
use Rattle.zone_graph.specs.Graph.{Graph, HasZone, border_count, zone_count}
use Rattle.local_view.specs.declared.footing.Certificate.{Certificate}
use Rattle.local_view.specs.declared.whole.WholeLine.{WholeLine}
use Rattle.local_view.specs.declared.work.Work.{Work}
use Rattle.local_view.specs.Drafts.{IsFlow}
use Rattle.local_view.specs.Footing.{RestOn, certificate_at, no_certificate}
use Rattle.market_model.specs.declared.reply.ViewRow.{ViewRow}
use Rattle.local_view.proofs.Bits.{holds-zero}
use Rattle.local_view.proofs.Resting.{AreMade, none_made, one_made}
use Rattle.local_view.proofs.filling.list_zones.Goals as goal
use Rattle.local_view.proofs.filling.list_zones.Goals.{then-is_set+in_ok-is, else-is_set}

less_again : (k place : ℕ) → k < place + 1 → k ≢ place → k < place
less_again k place less apart = omega (arith, less, apart)

pub make_list-requires : goal.make_list-requires
make_list-requires g c =
    let there = subst (λ n. c.loop-zone.zone < n) c.zones-zones.ensures.count c.if-prove.false in (
      c.requires.0,
      (
        there,
        (
          λ is. ap (λ (whole : WholeLine). whole.rows.items) c.loop-zone.invariant.whole ∙ c.requires.1.0 c.loop-zone.zone there (sym c.is_set-is_whole.ensures ∙ is),
          (
            c.loop-zone.invariant.work,
            subst (λ (certificate : Certificate). IsFlow (border_count c.args.grid.now) certificate.flow)
                (sym (get_or_default c.loop-zone.certificates c.loop-zone.zone c.index-certificates-zone.result no_certificate
                (let size = c.loop-zone.invariant.made.size in omega (arith, size, there))))
                (c.loop-zone.invariant.made.flows c.loop-zone.zone there),
          ),
        ),
      ),
    )

pub loop-zone-preserved : goal.loop-zone-preserved
loop-zone-preserved g c =
    let lists = c.loop-zone.lists in
    let place = c.loop-zone.zone in
    let old = c.loop-zone.invariant in
    let within : place < length lists = omega (arith, c.loop-zone-test.true, old.size) in
    let there = subst (λ n. place < n) c.zones-zones.ensures.count c.if-prove.false in
    let Made : List Certificate → List (List ViewRow) → ℕ → Type 0 = AreMade c.args.grid.now c.args.work.now c.args.line.side c.args.made (place + 1) c.args.certificates.now in
    elim c.if-is_set.branch [
      | then-is_set+in_ok-is w ↦
          let held = sym c.is_set.ensures ∙ w.if-is_set.true in
          let listed = w.in_ok-is.ensures in
          record {
            work = subst (IsLineWork g.board c.args.line.part c.args.line.side) (sym w.work-is) w.make_list.ensures.work;
            of_part = ap (λ (work : Work). work.of_part) w.work-is ∙ w.make_list.ensures.same.0 ∙ old.of_part;
            whole = ap (λ (work : Work). work.whole) w.work-is ∙ w.make_list.ensures.same.1 ∙ old.whole;
            size = c.if-is_set.auto.lists ∙ old.size;
            before = λ k less held. elim (eqb_tells k place) [
              | inl same ↦
                  ap (λ ls. get_or ls k []) w.lists-is
                  ∙ ap (λ n. get_or (set lists place w.make_list.new.list) n []) same.1
                  ∙ get_or-set_same lists place w.make_list.new.list [] within
                  ∙ listed.list
                  ∙ ap (view_of g.board c.args.line.part c.args.line.side) (sym same.1)
              | inr apart ↦
                  ap (λ ls. get_or ls k []) w.lists-is
                  ∙ get_or-set_other lists place k w.make_list.new.list [] apart.1
                  ∙ old.before k (less_again k place less apart.1) held
            ];
            made =
                subst (λ certificates. Made certificates c.if-is_set.lists c.if-is_set.resting) (sym w.certificates-is)
                (subst (λ ls. Made (set c.loop-zone.certificates place w.make_list.new.certificate) ls c.if-is_set.resting) (sym w.lists-is)
                (subst (Made (set c.loop-zone.certificates place w.make_list.new.certificate) (set lists place w.make_list.new.list)) (sym w.resting-is)
                (one_made c.args.grid.now c.args.work.now c.args.line.side c.args.made place c.args.certificates.now c.loop-zone.certificates lists c.loop-zone.resting old.made
                w.make_list.new.list w.make_list.new.certificate w.in_ok-is.is' w.with_zone-resting.result within there held w.make_list.ensures.flow
                (λ is.
                subst (λ of_part. RestOn (zone_count c.args.grid.now) c.args.grid.now.borders of_part c.args.line.side place c.args.work.now.whole.orders.items w.make_list.new.certificate w.make_list.new.list)
                (w.make_list.ensures.same.0 ∙ old.of_part)
                (subst (λ (whole : WholeLine). RestOn (zone_count c.args.grid.now) c.args.grid.now.borders w.make_list.new.work.of_part c.args.line.side place whole.orders.items w.make_list.new.certificate w.make_list.new.list)
                (w.make_list.ensures.same.1 ∙ old.whole) (listed.rest is)))
                w.with_zone-resting.ensures)));
          }
      | else-is_set w ↦ record {
        work = subst (IsLineWork g.board c.args.line.part c.args.line.side) (sym w.work-is) old.work;
        of_part = ap (λ (work : Work). work.of_part) w.work-is ∙ old.of_part;
        whole = ap (λ (work : Work). work.whole) w.work-is ∙ old.whole;
        size = c.if-is_set.auto.lists ∙ old.size;
        before = λ k less held. elim (eqb_tells k place) [
          | inl same ↦ absurd (true≢false (sym held ∙ ap (holds c.args.made) same.1 ∙ sym c.is_set.ensures ∙ w.if-is_set.false))
          | inr apart ↦
              ap (λ ls. get_or ls k []) w.lists-is
              ∙ get_or-set_other lists place k (get_or lists place c.index-lists-zone.result) [] apart.1
              ∙ old.before k (less_again k place less apart.1) held
        ];
        made =
            subst (λ certificates. Made certificates c.if-is_set.lists c.if-is_set.resting) (sym w.certificates-is)
            (subst (λ ls. Made c.loop-zone.certificates ls c.if-is_set.resting) (sym w.lists-is)
            (subst (Made c.loop-zone.certificates (set lists place (get_or lists place c.index-lists-zone.result))) (sym w.resting-is)
            (none_made c.args.grid.now c.args.work.now c.args.line.side c.args.made place c.args.certificates.now c.loop-zone.certificates lists c.loop-zone.resting old.made
            (get_or lists place c.index-lists-zone.result))));
      }
    ]

pub loop-zone-init : goal.loop-zone-init
loop-zone-init g c = record {
  work = c.requires.1.1.0;
  of_part = refl;
  whole = refl;
  size = refl;
  before = λ k less held. absurd (omega (arith, less));
  made = record {
    size = c.requires.1.1.1.1.0;
    flows = c.requires.1.1.1.1.1;
    others = λ zone none. refl;
    within = λ zone held. absurd (true≢false (sym held ∙ holds-zero zone));
    rest = λ zone held. absurd (true≢false (sym held ∙ holds-zero zone));
  };
}

pub returns : goal.returns
returns g c =
    let all = c.loop-zone.invariant in
    let ended : (k : ℕ) → HasZone c.args.grid.now k → k < c.loop-zone.zone =
    λ k there. let test = c.loop-zone-test.false in let size = c.requires.1.1.1.0 in omega (arith, there, test, size) in
    record {
      lists = λ zone there held. all.before zone (ended zone (subst (λ (graph : Graph). HasZone graph zone) (sym c.requires.0) there)) held;
      size = all.size;
      work = all.work;
      same = (all.of_part, all.whole);
      certificates = all.made.size;
      flows = all.made.flows;
      others = all.made.others;
      rest = record {
        within = λ zone there held. (all.made.within zone held).1;
        rest = λ zone there held.
            subst (λ of_part. RestOn (zone_count c.args.grid.now) c.args.grid.now.borders of_part c.args.line.side zone c.loop-zone.work.whole.orders.items (certificate_at c.loop-zone.certificates zone) (get_or c.loop-zone.lists zone []))
            (sym all.of_part)
            (subst (λ (whole : WholeLine). RestOn (zone_count c.args.grid.now) c.args.grid.now.borders c.args.work.now.of_part c.args.line.side zone whole.orders.items (certificate_at c.loop-zone.certificates zone) (get_or c.loop-zone.lists zone []))
            (sym all.whole) (all.made.rest zone held));
      };
    }
