-- The sweeps of the hours from one to another, hour by hour.
use Rattle.std.proofs.Common.{◌≡◌, ◌∙◌, ℕ, ◌+◌, ◌<◌, ◌≤◌, List, [], ◌++◌, append_assoc, refl, sym, ap}
use Rattle.std.proofs.lemmas.List.{append-nil}
use Rattle.order_kinds.specs.Period.{hours_from}
use Rattle.order_kinds.proofs.Hours.{hours-next, hours-none}
use Rattle.zone_graph.specs.Graph.{Graph}
use Rattle.market_model.specs.declared.event.Event.{Event}
use Rattle.market_model.specs.Sweep.{all_parts, sweep, sweeps}
use Rattle.plain_matching.specs.Grown.{Grew, GrewByPart}

-- the hours before one of them are swept, and what is left to sweep follows
pub record IsSwept (graph : Graph) (first last hour : ℕ) (old now : List Event) : Type 0 where
  pub done : List Event
  pub grew : now ≡ old ++ done
  pub onward : sweeps all_parts graph (hours_from first last) old ≡ done ++ sweeps all_parts graph (hours_from hour last) now

pub nothing-swept : (graph : Graph) (first last : ℕ) (old : List Event) → IsSwept graph first last first old old
nothing-swept graph first last old = record { done = []; grew = sym (append-nil old); onward = refl }

pub more-swept : (graph : Graph) (first last hour : ℕ) (old now after : List Event) → IsSwept graph first last hour old now → hour ≤ last
    → after ≡ now ++ sweep all_parts graph hour now → IsSwept graph first last (hour + 1) old after
more-swept graph first last hour old now after swept h is =
    let legs : List Event = sweep all_parts graph hour now in
    record {
      done = swept.done ++ legs;
      grew = is ∙ ap (λ events. events ++ legs) swept.grew ∙ append_assoc old swept.done legs;
      onward = swept.onward
          ∙ ap (λ hours. swept.done ++ sweeps all_parts graph hours now) (hours-next hour last h)
          ∙ ap (λ events. swept.done ++ (legs ++ sweeps all_parts graph (hours_from (hour + 1) last) events)) (sym is)
          ∙ sym (append_assoc swept.done legs (sweeps all_parts graph (hours_from (hour + 1) last) after));
    }

pub all-swept : (graph : Graph) (first last hour : ℕ) (old now : List Event) → IsSwept graph first last hour old now → last < hour
    → now ≡ old ++ sweeps all_parts graph (hours_from first last) old
all-swept graph first last hour old now swept h =
    swept.grew
    ∙ ap (λ events. old ++ events)
    (sym (swept.onward ∙ ap (λ hours. swept.done ++ sweeps all_parts graph hours now) (hours-none hour last h) ∙ append-nil swept.done))

-- a history that grew, and then by a part of some legs
pub grew-on : (old now after legs : List Event) → (done : List Event) → now ≡ old ++ done → GrewByPart legs now after → Grew old after
grew-on old now after legs done grew part = record {
  more = done ++ part.done;
  grew = part.grew ∙ ap (λ events. events ++ part.done) grew ∙ append_assoc old done part.done;
}
