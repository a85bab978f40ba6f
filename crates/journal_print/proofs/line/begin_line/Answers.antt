use Rattle.std.proofs.lemmas.Result.{on_ok_weaker}
use Rattle.journal_print.proofs.Joined.{line-begun}
use Rattle.journal_print.proofs.line.begin_line.Goals as goal

pub returns : goal.returns
returns c =
    on_ok_weaker c.write_number.result
    (line-begun c.args.out.now.items c.args.caller.now _ _ _ _ _ c.in_ok-extend_from_slice.ensures.items c.in_ok-write_word.ensures c.in_ok-extend_from_slice-2.ensures.items)
    c.write_number.ensures
