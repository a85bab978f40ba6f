use Rattle.std.proofs.Common.{◌∙◌, sym, rules}
use Rattle.market_text.proofs.ReadingLemmas.{allowed_caller, caller_added}
use Rattle.market_text.proofs.reader.Reader.read_caller.Goals as goal

pub returns-clause-kept : goal.returns-clause-kept
returns-clause-kept c =
    caller_added c.args.self.now _ _ _ _ _ c.args.role c.requires (sym c.may_add_caller.ensures ∙ search rules)
    c.in_ok-declare.ensures c.in_ok-push.ensures.ok c.in_ok-add_caller.ensures c.in_ok-add_caller-2.ensures

pub declare-requires : goal.declare-requires
declare-requires c = (allowed_caller c.args.self.now _ (sym c.may_add_caller.ensures ∙ search rules)).2
