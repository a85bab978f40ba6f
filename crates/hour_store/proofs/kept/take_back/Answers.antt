use Rattle.std.proofs.Common.{refl, subst}
use Rattle.zone_graph.specs.Pour.{same_arc}
use Rattle.flow_netting.specs.QuarterSet.{has}
use Rattle.laws_of_hours.specs.Standing.{IsCarried}
use Rattle.hour_store.specs.declared.change.Change.TheVariants as change
use Rattle.hour_store.specs.Inside.{contents_of}
use Rattle.hour_store.specs.TakenBack.{CanTakeBack}
use Rattle.hour_store.proofs.Keeps.{kept-back}
use Rattle.hour_store.proofs.kept.take_back.Goals as goal

pub returns-in-Carried-clause-kept : goal.returns-in-Carried-clause-kept
returns-in-Carried-clause-kept c =
    kept-back (change.Carried c.in-Carried.arc c.in-Carried.set c.in-Carried.lots) (contents_of c.args.kept.now)
    (record { book = c.args.kept.now.book; blocks = c.args.kept.now.blocks; flows = c.grant_in.new.flows })
    (subst (λ ch. CanTakeBack ch (contents_of c.args.kept.now)) c.in-Carried.is c.requires.can) (
      record { book = refl; blocks = refl },
      subst (λ arc. IsCarried (same_arc arc) (has c.in-Carried.set) c.in-Carried.lots c.args.kept.now.flows c.grant_in.new.flows) c.opposite.ensures c.grant_in.ensures,
    )
    c.requires.kept

pub returns-in-Offered-clause-kept : goal.returns-in-Offered-clause-kept
returns-in-Offered-clause-kept c =
    kept-back (change.Offered c.in-Offered.arc c.in-Offered.number c.in-Offered.lots) (contents_of c.args.kept.now)
    (record { book = c.args.kept.now.book; blocks = c.args.kept.now.blocks; flows = c.offer_one.new.flows })
    (subst (λ ch. CanTakeBack ch (contents_of c.args.kept.now)) c.in-Offered.is c.requires.can)
    (record { book = refl; blocks = refl }, c.offer_one.ensures) c.requires.kept
