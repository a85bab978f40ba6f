use Rattle.std.proofs.Common.{◌∙◌, sym, rules}
use Rattle.market_text.proofs.ReadingLemmas.{allowed_zone, zone_added}
use Rattle.market_text.proofs.reader.Reader.read_zone.Goals as goal

pub returns-clause-kept : goal.returns-clause-kept
returns-clause-kept c =
    zone_added c.args.self.now c.declare.new.self _ c.requires (sym c.may_add_zone.ensures ∙ search rules) c.in_ok-declare.ensures

pub declare-requires : goal.declare-requires
declare-requires c = (allowed_zone c.args.self.now _ (sym c.may_add_zone.ensures ∙ search rules)).2
