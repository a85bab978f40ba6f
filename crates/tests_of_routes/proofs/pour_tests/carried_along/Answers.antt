use Rattle.std.proofs.Common.{◌≡◌, ◌∙◌, ◌&&◌, Bool, true, false, List, [], ◌∷◌, inl, inr, nat_lt, refl, sym, ap, arith}
use Rattle.std.proofs.lemmas.Bool.{and_parts, ltb-true, true≢false}
use Rattle.std.specs.List.{list_all}
use Rattle.zone_graph.specs.declared.route.Arc.{Arc}
use Rattle.zone_graph.specs.Route.{IsIn}
use Rattle.tests_of_routes.proofs.pour_tests.carried_along.Goals as goal

-- an arc of a route passes a test that all its arcs pass
passes : (p : Arc → Bool) (route : List Arc) (arc : Arc) → list_all p route ≡ true → IsIn arc route → p arc ≡ true
passes p [] arc all i = absurd i
passes p (next ∷ arcs) arc all i =
    let parts = and_parts (p next) (list_all p arcs) all in
    elim i [ inl e ↦ ap p e ∙ parts.0 | inr j ↦ passes p arcs arc parts.1 j ]

pub carried-requires : goal.carried-requires
carried-requires c = record {
  arcs = λ arc i.
      let all = sym c.are_of_the_row.ensures ∙ c.if-not-are_of_the_row.false in
      let less = ltb-true arc.border 3 (passes (λ a. nat_lt a.border 3) c.args.route.now arc all i) in
      omega (arith, less, c.requires);
}
