-- How a route is read, arc by arc.
use Rattle.std.proofs.Common.{◌≡◌, ◌∙◌, ◌+◌, ◌-◌, ◌<◌, ℕ, zero, suc, true, List, [], ◌∷◌, ◌++◌, length, set, take, refl, sym, ap, arith, append_assoc}
use Rattle.zone_graph.specs.declared.route.Arc.{Arc}
use Rattle.zone_graph.specs.declared.grid.Neighbour.{Neighbour}
use Rattle.route_choice.specs.Search.{step_at}
use Rattle.route_choice.specs.Tree.{route_along}

-- the items before a place, and one that is put there
take_put : {X : Type 0} (xs : List X) (i : ℕ) (x : X) → i < length xs → take (i + 1) (set xs i x) ≡ take i xs ++ x ∷ []
take_put [] i x within = absurd (omega arith)
take_put (y ∷ xs) zero x within = refl
take_put (y ∷ xs) (suc i) x within =
    let next : suc i + 1 ≡ suc (i + 1) = omega arith in
    ap (λ n. take n (y ∷ set xs i x)) next ∙ ap (λ l. y ∷ l) (take_put xs i x (omega arith))

-- one more arc of a route that leads to a zone
pub read_first : (steps : List Neighbour) (other zone size i : ℕ) (route : List Arc) → i < size → length route ≡ size
    → route_along steps true size other ≡ take i route ++ route_along steps true (size - i) zone
    → route_along steps true size other ≡ take (i + 1) (set route i (step_at steps zone).arc) ++ route_along steps true (size - (i + 1)) (step_at steps zone).zone
read_first steps other zone size i route within same read =
    let more : size - i ≡ suc (size - (i + 1)) = omega (arith, within) in
    read ∙ ap (λ n. take i route ++ route_along steps true n zone) more
    ∙ sym (append_assoc (take i route) ((step_at steps zone).arc ∷ []) (route_along steps true (size - (i + 1)) (step_at steps zone).zone))
    ∙ ap (λ l. l ++ route_along steps true (size - (i + 1)) (step_at steps zone).zone) (sym (take_put route i (step_at steps zone).arc (omega (arith, within, same))))
