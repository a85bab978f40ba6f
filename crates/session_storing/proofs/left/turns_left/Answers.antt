-- Turn by turn it is left or not.
use Rattle.std.proofs.Common.{◌≡◌, ◌≤◌, ◌<◌, ◌+◌, ◌∙◌, ◌++◌, ℕ, List, Vec, Global, false, true, drop, get_or, length, nat_eq, nat_lt, slice_index, take, arith, ap, sym, subst}
use Rattle.std.proofs.Math.ListN.{length-set}
use Rattle.std.proofs.lemmas.Bool.{le-ltb, lt-ltb}
use Rattle.session_journal.proofs.Turns.{CountsTurns, CountsTurns-more, count_by-take}
use Rattle.journal_audit.specs.Course.{callers_of}
use Rattle.session_storing.specs.Playing.{turns_of}
use Rattle.session_storing.specs.Recovering.{left_behind, turns_left}
use Rattle.session_storing.proofs.LeftTurns.{left-given, left-more}
use Rattle.session_storing.proofs.left.turns_left.Goals as goal
use Rattle.session_storing.proofs.left.turns_left.Goals.{then-before-of+in_ok-push, else-before-of}

pub count-before-requires-clause-few : goal.count-before-requires-clause-few
count-before-requires-clause-few c =
    let turns = c.args.turns.now in
    let turn = get_or turns c.loop-turn.turn-index 0 in
    let so_far = c.loop-turn.invariant.counted.each turn in
    let most = count_by-take (λ other. nat_eq other turn) c.loop-turn.turn-index turns in
    let few = c.requires.few turn in
    omega (arith, so_far, most, few)

pub loop-turn-preserved : goal.loop-turn-preserved
loop-turn-preserved c =
    let turns = c.args.turns.now in
    let i = c.loop-turn.turn-index in
    let turn = get_or turns i 0 in
    let given : List ℕ = callers_of c.args.entries.now in
    let here = c.requires.known i 0 c.loop-turn-test.true in
    let known : turn < length c.loop-turn.past = omega (arith, here, c.loop-turn.invariant.size) in
    let past : c.count-before.result ≡ turns_of (take i turns) turn = c.count-before.ensures.before ∙ c.loop-turn.invariant.counted.each turn in
    let made : c.of.result ≡ turns_of given turn = c.of.ensures ∙ c.in_ok-given.ensures.each turn in
    record {
      size = ap length c.count-before.ensures.after ∙ length-set c.loop-turn.past turn (slice_index c.loop-turn.past turn + 1) ∙ c.loop-turn.invariant.size;
      counted = subst (λ counts. CountsTurns counts turns (i + 1)) (sym c.count-before.ensures.after)
          (CountsTurns-more c.loop-turn.past turns i c.loop-turn.invariant.counted c.loop-turn-test.true known);
      so_far = elim c.if-before-of.branch [
        | then-before-of+in_ok-push w ↦
            let enough : turns_of given turn ≤ turns_of (take i turns) turn = omega (arith, past, made, w.if-before-of.true) in
            let test : nat_lt (turns_of (take i turns) turn) (turns_of given turn) ≡ false = le-ltb (turns_of (take i turns) turn) (turns_of given turn) enough in
            ap (λ (left : List ℕ). left ++ left_behind (take (i + 1) turns) given (drop (i + 1) turns)) (ap (λ (v : Vec ℕ Global). v.items) w.left-is ∙ w.in_ok-push.ensures.items)
            ∙ left-more given turns i c.loop-turn-test.true c.loop-turn.left.items (turns_left given turns) c.loop-turn.invariant.so_far test
        | else-before-of w ↦
            let less : turns_of (take i turns) turn < turns_of given turn = omega (arith, past, made, w.if-before-of.false) in
            let test : nat_lt (turns_of (take i turns) turn) (turns_of given turn) ≡ true = lt-ltb (turns_of (take i turns) turn) (turns_of given turn) less in
            ap (λ (left : List ℕ). left ++ left_behind (take (i + 1) turns) given (drop (i + 1) turns)) (ap (λ (v : Vec ℕ Global). v.items) w.left-is)
            ∙ left-given given turns i c.loop-turn-test.true c.loop-turn.left.items (turns_left given turns) c.loop-turn.invariant.so_far test
      ];
    }
