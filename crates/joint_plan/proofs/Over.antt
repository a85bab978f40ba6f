-- What is said hour by hour is said desk by desk.
use Rattle.std.proofs.Common.{◌≡◌, ◌∙◌, inl, inr, ℕ, Bool, true, false, find, List, [], ◌∷◌, ◌++◌, flat_map, map, Option, refl, ap}
use Rattle.std.specs.Option.{option_map}
use Rattle.zone_graph.specs.Route.{IsIn}
use Rattle.market_model.specs.declared.event.Event.{Event}
use Rattle.market_model.specs.Sweep.{first_answer, or_else}
use Rattle.hour_desk.specs.Desk.{DeskState}
use Rattle.joint_plan.specs.Rows.{hours_of}

-- the settled events of each desk are those of its hour
abbrev pub Are : (own : ℕ → List Event) → List DeskState → Type 0
Are own desks = (desk : DeskState) → IsIn desk desks → own desk.hour ≡ desk.settled

module _ (own : ℕ → List Event) where
  -- the first hour of which something is true is that of the first desk
  pub find-over : (holds : List Event → ℕ → Bool) (desks : List DeskState) → Are own desks
      → find (λ hour. holds (own hour) hour) (hours_of desks) ≡ option_map (λ desk. desk.hour) (find (λ desk. holds desk.settled desk.hour) desks)
  find-over holds [] are = refl
  find-over holds (desk ∷ desks) are =
      first (holds desk.settled desk.hour) (ap (λ (events : List Event). holds events desk.hour) (are desk (inl refl))) refl (find-over holds desks (λ d i. are d (inr i)))
    where
      first : (b : Bool) → holds (own desk.hour) desk.hour ≡ holds desk.settled desk.hour → holds desk.settled desk.hour ≡ b
          → find (λ hour. holds (own hour) hour) (hours_of desks) ≡ option_map (λ d. d.hour) (find (λ d. holds d.settled d.hour) desks)
          → find (λ hour. holds (own hour) hour) (hours_of (desk ∷ desks)) ≡ option_map (λ d. d.hour) (find (λ d. holds d.settled d.hour) (desk ∷ desks))
      first true same is more = rw (same, is) refl
      first false same is more = rw (same, is) more

  -- so is the first answer
  pub answer-over : {Y : Type 0} (ask : List Event → ℕ → Option Y) (desks : List DeskState) → Are own desks
      → first_answer (λ hour. ask (own hour) hour) (hours_of desks) ≡ first_answer (λ desk. ask desk.settled desk.hour) desks
  answer-over ask [] are = refl
  answer-over {Y = Y} ask (desk ∷ desks) are =
      ap (λ (events : List Event). or_else (ask events desk.hour) (λ _. first_answer (λ hour. ask (own hour) hour) (hours_of desks))) (are desk (inl refl))
      ∙ ap (λ (rest : Option Y). or_else (ask desk.settled desk.hour) (λ _. rest)) (answer-over ask desks (λ d i. are d (inr i)))

  -- and what comes of each
  pub map-over : {Y : Type 0} (says : List Event → ℕ → Y) (desks : List DeskState) → Are own desks
      → map (λ hour. says (own hour) hour) (hours_of desks) ≡ map (λ desk. says desk.settled desk.hour) desks
  map-over says [] are = refl
  map-over {Y = Y} says (desk ∷ desks) are =
      ap (λ (events : List Event). says events desk.hour ∷ map (λ hour. says (own hour) hour) (hours_of desks)) (are desk (inl refl))
      ∙ ap (λ (rest : List Y). says desk.settled desk.hour ∷ rest) (map-over says desks (λ d i. are d (inr i)))

  pub flat_map-over : {Y : Type 0} (says : List Event → ℕ → List Y) (desks : List DeskState) → Are own desks
      → flat_map (λ hour. says (own hour) hour) (hours_of desks) ≡ flat_map (λ desk. says desk.settled desk.hour) desks
  flat_map-over says [] are = refl
  flat_map-over {Y = Y} says (desk ∷ desks) are =
      ap (λ (events : List Event). says events desk.hour ++ flat_map (λ hour. says (own hour) hour) (hours_of desks)) (are desk (inl refl))
      ∙ ap (λ (rest : List Y). says desk.settled desk.hour ++ rest) (flat_map-over says desks (λ d i. are d (inr i)))
