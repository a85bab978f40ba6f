use Rattle.std.proofs.Common.{◌∙◌}
use Rattle.kept_hour.proofs.dealing.deal_in.Goals as goal

pub returns-clause-noted : goal.returns-clause-noted
returns-clause-noted c = record {
  orders = λ part side zone. c.carry_legs.ensures.noted part side zone ∙ c.take_out.ensures.noted part side zone;
  flows = λ none. c.carry_legs.ensures.no_flow (c.as_slice.ensures ∙ none) ∙ c.take_out.ensures.no_flow;
}
