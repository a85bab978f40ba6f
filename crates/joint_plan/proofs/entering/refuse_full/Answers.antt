use Rattle.std.proofs.Common.{◌≡◌, ◌∙◌, Option, Some, ap}
use Rattle.hour_desk.specs.Desk.{DeskState}
use Rattle.joint_plan.specs.Entering.{full_refusal}
use Rattle.joint_plan.proofs.AskedEntries.{has-none, has-room}
use Rattle.joint_plan.proofs.entering.refuse_full.Goals as goal

-- one desk at one place
one : (a b : DeskState) (o : Option DeskState) → o ≡ Some a → o ≡ Some b → a ≡ b
one a b o here there = cc

pub returns-then-open-lt4096 : goal.returns-then-open-lt4096
returns-then-open-lt4096 g c = λ desk at.
    let own = c.desk.result.now in
    has-room c.args.deal.now own c.open.result c.in-None.is c.open.ensures c.if-open-lt4096.true
    ∙ ap (λ (d : DeskState). full_refusal c.args.deal.now d) (one own desk _ c.desk.ensures at)

pub returns-else-open-lt4096 : goal.returns-else-open-lt4096
returns-else-open-lt4096 g c = λ desk at.
    let own = c.desk.result.now in
    has-none c.args.deal.now own c.open.result c.in-None.is c.open.ensures c.if-open-lt4096.false
    ∙ ap (λ (d : DeskState). full_refusal c.args.deal.now d) (one own desk _ c.desk.ensures at)
