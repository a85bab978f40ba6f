-- What is known of a command that no rule refuses.
use Rattle.std.proofs.Common.{◌≡◌, ◌∙◌, inl, inr, ℕ, ◌&&◌, Bool, true, false, List, [], ◌∷◌, Option, None, refl, ap, nat_lt}
use Rattle.std.specs.List.{list_all}
use Rattle.std.specs.Option.{option_map}
use Rattle.std.proofs.lemmas.Bool.{and_parts}
use Rattle.order_kinds.specs.Contract.{is_known}
use Rattle.order_kinds.specs.Period.{is_within}
use Rattle.order_kinds.specs.Price.{lots_in_range, price_in_range}
use Rattle.zone_graph.specs.Graph.{zone_count}
use Rattle.zone_graph.specs.Route.{IsIn}
use Rattle.zone_graph.proofs.Finding.{map-none}
use Rattle.market_model.specs.declared.command.Command.{Command}
use Rattle.market_model.specs.declared.event.Event.{Event}
use Rattle.market_model.specs.declared.refusal.Refusal.{Refusal}
use Rattle.market_model.specs.declared.refusal.Refusal.TheVariants as refusal
use Rattle.market_model.specs.declared.setup.Setup.{Setup}
use Rattle.market_model.specs.Grid.{graph_of}
use Rattle.market_model.specs.Refusals.{basket_refusal, closed_hour, desk_refusal, gate_refusal, offer_refusal, order_is_known, reduces, refusal_of_command, request_refusal, rules, unfilled_refusal}
use Rattle.market_model.specs.Rules.{basket_is_good, border_is_known, first_broken, has_right, hours_named, naming_refusal, naming_rules, numbers_refusal, numbers_rules, offer_in_range, parts_named, peaks_are_good, period_is_good, prices_named, quantities_named, unless, zones_named}
use Rattle.laws_of_market.proofs.Members.{first_answer-none}

pub unless-none : (b : Bool) (broken : Refusal) → unless b broken ≡ None → b ≡ true
unless-none true broken e = refl
unless-none false broken e = absurd (cc)

-- no rule of several is broken
unbroken : (rules : List (Unit {0} → Option Refusal)) → first_broken rules ≡ None → (rule : Unit {0} → Option Refusal) → IsIn rule rules → rule tt ≡ None
unbroken rules e rule h = first_answer-none (λ (r : Unit {0} → Option Refusal). r tt) rules e rule h

-- all of a list pass
pub all-pass : {X : Type 0} (p : X → Bool) (xs : List X) → list_all p xs ≡ true → (x : X) → IsIn x xs → p x ≡ true
all-pass p [] e x h = absurd h
all-pass p (y ∷ xs) e x h =
    let both = and_parts (p y) (list_all p xs) e in
    elim h [ inl s ↦ ap p s ∙ both.0 | inr i ↦ all-pass p xs both.1 x i ]

-- what a command names is there
pub record NamesWhatIs (setup : Setup) (caller : ℕ) (given : Command) : Type 0 where
  pub right : has_right setup caller given ≡ true
  pub hours : list_all (is_within 1 setup.hours) (hours_named given) ≡ true
  pub parts : list_all is_known (parts_named given) ≡ true
  pub zones : list_all (λ zone. nat_lt zone (zone_count (graph_of setup))) (zones_named given) ≡ true
  pub border : border_is_known (graph_of setup) given ≡ true
  pub period : period_is_good given ≡ true
  pub basket : basket_is_good given ≡ true

pub naming-none : (setup : Setup) (caller : ℕ) (given : Command) → naming_refusal setup caller given ≡ None → NamesWhatIs setup caller given
unfolding naming_refusal
naming-none setup caller given e =
    let holds : (b : Bool) (broken : Refusal) → IsIn (λ _. unless b broken) (naming_rules setup caller given) → b ≡ true =
    λ b broken h. unless-none b broken (unbroken (naming_rules setup caller given) e (λ _. unless b broken) h) in
    record {
      right = holds (has_right setup caller given) refusal.WrongRole (inl refl);
      hours = holds (list_all (is_within 1 setup.hours) (hours_named given)) refusal.UnknownHour (inr (inl refl));
      parts = holds (list_all is_known (parts_named given)) refusal.UnknownContract (inr (inr (inl refl)));
      zones = holds (list_all (λ zone. nat_lt zone (zone_count (graph_of setup))) (zones_named given)) refusal.UnknownZone (inr (inr (inr (inl refl))));
      border = holds (border_is_known (graph_of setup) given) refusal.UnknownBorder (inr (inr (inr (inr (inl refl)))));
      period = holds (period_is_good given) refusal.BadPeriod (inr (inr (inr (inr (inr (inl refl))))));
      basket = holds (basket_is_good given) refusal.BadBasket (inr (inr (inr (inr (inr (inr (inl refl)))))));
    }

-- the numbers of a command are in range
pub record NumbersAreGood (given : Command) : Type 0 where
  pub prices : list_all price_in_range (prices_named given) ≡ true
  pub quantities : list_all lots_in_range (quantities_named given) ≡ true
  pub offer : offer_in_range given ≡ true
  pub peaks : peaks_are_good given ≡ true

pub numbers-none : (given : Command) → numbers_refusal given ≡ None → NumbersAreGood given
unfolding numbers_refusal
numbers-none given e =
    let holds : (b : Bool) (broken : Refusal) → IsIn (λ _. unless b broken) (numbers_rules given) → b ≡ true =
    λ b broken h. unless-none b broken (unbroken (numbers_rules given) e (λ _. unless b broken) h) in
    let lots = and_parts (list_all lots_in_range (quantities_named given)) (offer_in_range given)
    (holds (list_all lots_in_range (quantities_named given) && offer_in_range given) refusal.QuantityOutOfRange (inr (inl refl))) in
    record {
      prices = holds (list_all price_in_range (prices_named given)) refusal.PriceOutOfRange (inl refl);
      quantities = lots.0;
      offer = lots.1;
      peaks = holds (peaks_are_good given) refusal.BadPeak (inr (inr (inl refl)));
    }

-- a command that no rule refuses
pub record IsAdmitted (setup : Setup) (events : List Event) (caller : ℕ) (given : Command) : Type 0 where
  pub names : NamesWhatIs setup caller given
  pub numbers : NumbersAreGood given
  pub reduces : reduces events caller given ≡ true
  pub in_open_hours : closed_hour events given ≡ None
  pub gate : gate_refusal events given ≡ None
  pub known : order_is_known events caller given ≡ true
  pub offer : offer_refusal (graph_of setup) events given ≡ None
  pub request : request_refusal (graph_of setup) events given ≡ None
  pub filled : unfilled_refusal (graph_of setup) events caller given ≡ None
  pub basket : basket_refusal (graph_of setup) events caller given ≡ None
  pub desk : desk_refusal (graph_of setup) events caller given ≡ None

pub refusal-none : (setup : Setup) (events : List Event) (caller : ℕ) (given : Command) → refusal_of_command setup events caller given ≡ None → IsAdmitted setup events caller given
unfolding refusal_of_command
refusal-none setup events caller given e =
    let holds : (rule : Unit {0} → Option Refusal) → IsIn rule (rules setup events caller given) → rule tt ≡ None = unbroken (rules setup events caller given) e in
    record {
      names = naming-none setup caller given (holds (λ _. naming_refusal setup caller given) (inl refl));
      numbers = numbers-none given (holds (λ _. numbers_refusal given) (inr (inl refl)));
      reduces = unless-none (reduces events caller given) refusal.QuantityOutOfRange
          (holds (λ _. unless (reduces events caller given) refusal.QuantityOutOfRange) (inr (inr (inl refl))));
      in_open_hours = map-none (λ hour. refusal.Closed hour) (closed_hour events given)
          (holds (λ _. option_map (λ hour. refusal.Closed hour) (closed_hour events given)) (inr (inr (inr (inl refl)))));
      gate = holds (λ _. gate_refusal events given) (inr (inr (inr (inr (inl refl)))));
      known = unless-none (order_is_known events caller given) refusal.UnknownOrder
          (holds (λ _. unless (order_is_known events caller given) refusal.UnknownOrder) (inr (inr (inr (inr (inr (inl refl)))))));
      offer = holds (λ _. offer_refusal (graph_of setup) events given) (inr (inr (inr (inr (inr (inr (inl refl)))))));
      request = holds (λ _. request_refusal (graph_of setup) events given) (inr (inr (inr (inr (inr (inr (inr (inl refl))))))));
      filled = holds (λ _. unfilled_refusal (graph_of setup) events caller given) (inr (inr (inr (inr (inr (inr (inr (inr (inl refl)))))))));
      basket = holds (λ _. basket_refusal (graph_of setup) events caller given) (inr (inr (inr (inr (inr (inr (inr (inr (inr (inl refl))))))))));
      desk = holds (λ _. desk_refusal (graph_of setup) events caller given) (inr (inr (inr (inr (inr (inr (inr (inr (inr (inr (inl refl)))))))))));
    }
