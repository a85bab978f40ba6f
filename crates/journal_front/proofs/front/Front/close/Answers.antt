use Rattle.std.proofs.Common.{◌≡◌, ◌∙◌, ◌++◌, [], ap, arith, inl, length, refl, sym, subst}
use Rattle.std.proofs.lemmas.List.{append-nil}
use Rattle.market_model.specs.declared.who.Who.TheVariants as who
use Rattle.market_model.specs.Concerned.{IsCurrent}
use Rattle.zone_graph.specs.Route.{IsIn}
use Rattle.zone_graph.proofs.Membership.{IsIn-map, IsIn-right}
use Rattle.journal_front.specs.Ruled.{Holds}
use Rattle.journal_front.specs.Fronts.{PassSeatState}
use Rattle.journal_front.proofs.Commits.{standing_of_pass}
use Rattle.journal_front.proofs.Lists.{no_item}
use Rattle.journal_front.proofs.front.Front.close.Goals as goal
use Rattle.journal_front.proofs.front.Front.close.Goals.{After-learn}

pub gather-requires-clause-front : goal.gather-requires-clause-front
gather-requires-clause-front c =
    let inside = subst (IsIn c.in-Some.pass) (sym c.in-Some.ensures.steps.0) (inl refl) in
    let there = subst (IsIn c.in-Some.pass) c.loop-pass.invariant.parts (IsIn-right c.in-Some.pass c.loop-pass.yielded c.loop-pass.pass-iterator.rest.items inside) in
    ap (λ pass. pass.front) c.pass.view_is ∙ (c.requires.passes c.in-Some.pass there).same_front ∙ sym (ap (λ front. front.id) c.self.view_is)

-- at the end each pass's standing fits the journal
all-hold : (c : After-learn) (pass : PassSeatState) → IsIn pass c.args.passes → Holds c.args.journal.setup c.args.journal.entries (standing_of_pass pass)
all-hold c pass there =
    let rest = c.loop-pass.pass-iterator.rest in
    let no_more : rest.items ≡ [] = no_item rest.items (sym rest.ok.0 ∙ c.in-None.ensures.steps.0) in
    let all : c.loop-pass.yielded ≡ c.args.passes =
    sym (append-nil c.loop-pass.yielded) ∙ ap (λ items. c.loop-pass.yielded ++ items) (sym no_more) ∙ c.loop-pass.invariant.parts in
    let hold = subst (λ me. (standing : _) → IsIn standing me.0.standings → Holds me.0.setup me.0.entries standing) c.loop-pass.invariant.lead c.learn.ensures.standings in
    hold (standing_of_pass pass) (IsIn-map standing_of_pass pass c.loop-pass.yielded (subst (IsIn pass) (sym all) there))

pub returns-clause-current : goal.returns-clause-current
returns-clause-current c = λ pass there.
    subst (λ setup. IsCurrent setup (who.Caller pass.caller) pass.entries c.args.journal.entries) c.requires.journal.same_setup
    (all-hold (goal.at.returns-clause-current c).After-learn pass there).current

pub returns-clause-known : goal.returns-clause-known
returns-clause-known c = λ pass there.
    let long = c.learn.ensures.length ∙ ap (λ me. length me.0.entries) c.loop-pass.invariant.lead in
    omega (arith, long, (all-hold (goal.at.returns-clause-known c).After-learn pass there).known)
