use Rattle.std.proofs.Common.{◌∙◌, get_or, subst, sym}
use Rattle.std.specs.Str.{IsUtf8}
use Rattle.command_words.proofs.Asking.{asking-is-text}
use Rattle.command_words.proofs.matching.texts_of.Goals as goal

-- each word is text
pub unreachable-requires : goal.unreachable-requires
unreachable-requires c =
    let text : IsUtf8 (get_or c.args.words.now c.loop-word.word-index c.word-item.result) =
    asking-is-text c.args.words.now c.requires.asked c.loop-word.word-index c.word-item.result c.loop-word-test.true in
    c.in-Err.ensures.cases.0 (subst IsUtf8 (sym (c.bytes.ensures ∙ c.word-item.is)) text)
