-- Histories without their last events.
use Rattle.std.proofs.Common.{◌≡◌, ◌∙◌, ◌↔◌, ◌-◌, ◌<◌, List, [], ◌∷◌, ◌++◌, length, take, Option, Some, None, IsSome, sym, ap, arith, true≢false}
use Rattle.std.specs.Option.{option_to_list}
use Rattle.std.proofs.lemmas.List.{append-nil, length-append}
use Rattle.std.proofs.Math.Seq.{take-append_seam}
use Rattle.market_model.specs.declared.event.Event.{Event}

-- a history whose last event is taken off
pub last_off : (old new : List Event) (last : Option Event) → old ≡ new ++ option_to_list last → IsSome last ↔ (0 < length old)
    → new ≡ take (length old - 1) old
last_off [] new None is some = sym (append-nil new) ∙ sym is
last_off (event ∷ old) new None is some = absurd (true≢false (sym (some.1 (omega arith))))
last_off old new (Some event) is some =
    let size : length (new ++ event ∷ []) - 1 ≡ length new = omega (arith, length-append new (event ∷ [])) in
    sym (ap (λ events. take (length events - 1) events) is ∙ ap (λ n. take n (new ++ event ∷ [])) size ∙ take-append_seam new (event ∷ []))
