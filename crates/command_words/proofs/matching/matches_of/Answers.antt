use Rattle.std.proofs.Common.{◌∙◌, ap, map}
use Rattle.std.proofs.lemmas.Result.{IfErr-weaker, IfOk-weaker}
use Rattle.clap.specs.Words.{is_simple, subcommand_of, takes}
use Rattle.command_words.specs.Matches.{task_matched}
use Rattle.command_words.proofs.Programs.{parses, program-simple}
use Rattle.command_words.proofs.matching.matches_of.Goals as goal

pub returns-clause-task : goal.returns-clause-task
returns-clause-task c =
    let words = map (λ word. word.now) c.args.words.now in
    let made = c.in_ok-program.ensures in
    let parsed = parses words c.requires.asked in
    IfOk-weaker c.try_get_matches_from.result _ _
    (λ found h. ap task_matched ((h (ap is_simple made ∙ program-simple)).1 ∙ ap (λ app. subcommand_of app words) made) ∙ parsed.1)
    c.try_get_matches_from.ensures.matches

pub returns-clause-error : goal.returns-clause-error
returns-clause-error c =
    let words = map (λ word. word.now) c.args.words.now in
    let made = c.in_ok-program.ensures in
    IfErr-weaker c.try_get_matches_from.result _ _
    (λ error h. h (ap (λ app. takes app words) made ∙ (parses words c.requires.asked).0)) c.try_get_matches_from.ensures.passes
