use Rattle.std.proofs.Common.{map, sym, length, rules}
use Rattle.std.proofs.lemmas.List.{length-map}
use Rattle.command_lines.proofs.Answering.{handed_on}
use Rattle.command_lines.proofs.ItemLemmas.{basket_read, basket_refused, basket_unsized}
use Rattle.command_lines.proofs.commands.read_basket.Goals as goal

pub returns-in-Ok : goal.returns-in-Ok
returns-in-Ok c =
    record {
      is = basket_read c.args.zones.now (map (λ word. word.now) c.args.words.now) (length c.args.words.now) c.in-Some.count c.in-Ok.orders
          (sym (length-map c.args.words.now (λ word. word.now))) (sym c.in-Some.ensures.value) c.in-Ok.ensures.is;
    }

pub returns-in-Err : goal.returns-in-Err
returns-in-Err c =
    handed_on (λ none. basket_refused c.args.zones.now (map (λ word. word.now) c.args.words.now) (length c.args.words.now) c.in-Some.count
    (sym (length-map c.args.words.now (λ word. word.now))) (sym c.in-Some.ensures.value) none) c.in-Err.ensures

pub returns-in_default : goal.returns-in_default
returns-in_default c =
    record {
      is = basket_unsized c.args.zones.now (map (λ word. word.now) c.args.words.now) (length c.args.words.now)
          (sym (length-map c.args.words.now (λ word. word.now))) (search rules);
    }
