-- What is asked for is done where no read and no write fails, unless memory is wanting.
use Rattle.std.proofs.Common.{◌≡◌, ◌≢◌, ◌∙◌, ◌⊎◌, inl, inr, ℕ, ◌<◌, ◌≤◌, ◌++◌, List, Option, Some, None, length, refl, sym, ap, arith}
use Rattle.std.proofs.lemmas.List.{length-append}
use Rattle.std.specs.Io.KnownBytes.{Consumes}
use Rattle.session_io.specs.declared.status.Status.{Status}
use Rattle.session_io.specs.declared.status.Status.TheVariants as status
use Rattle.session_io.specs.Outcomes.{Answers}
use Rattle.session_io.specs.Sources.{ReadsUpTo}

-- what came of known bytes is no more than they are
no-more : (left new : Option (List ℕ)) (input bytes : List ℕ) → Consumes left new input → left ≡ Some bytes → length input ≤ length bytes
no-more None new input bytes came is = absurd (cc)
no-more (Some xs) None input bytes came is = absurd came
no-more (Some xs) (Some ys) input bytes came is =
    let whole : xs ≡ bytes = cc in
    let size : length bytes ≡ length (input ++ ys) = ap length (sym whole ∙ came) in
    omega (arith, size, length-append input ys)

-- an input that is not too long, has no bad line and no illegal entry is answered with its text
pub completes : (most : ℕ) (IsAsked : List ℕ → Type 0) (IsBad IsIllegal : ℕ → Type 0) (bytes : List ℕ) (end : Status) (left new old written : Option (List ℕ))
    → left ≡ Some bytes → length bytes ≤ most → ((line : ℕ) → IsBad line → ⊥) → ((entry : ℕ) → IsIllegal entry → ⊥)
    → Answers IsAsked IsBad IsIllegal end old written → (end ≢ status.NoMemory → ReadsUpTo most left new end)
    → end ≢ status.Usage → end ≢ status.ReadFault → end ≢ status.WriteFault → (end ≡ status.Done) ⊎ (end ≡ status.NoMemory)
completes most IsAsked IsBad IsIllegal bytes status.Done left new old written is short good legal answers reads no_usage no_read no_write = inl refl
completes most IsAsked IsBad IsIllegal bytes status.NoMemory left new old written is short good legal answers reads no_usage no_read no_write = inr refl
completes most IsAsked IsBad IsIllegal bytes status.Usage left new old written is short good legal answers reads no_usage no_read no_write =
    absurd (no_usage refl)
completes most IsAsked IsBad IsIllegal bytes status.ReadFault left new old written is short good legal answers reads no_usage no_read no_write =
    absurd (no_read refl)
completes most IsAsked IsBad IsIllegal bytes status.WriteFault left new old written is short good legal answers reads no_usage no_read no_write =
    absurd (no_write refl)
completes most IsAsked IsBad IsIllegal bytes (status.BadSession line) left new old written is short good legal answers reads no_usage no_read no_write =
    absurd (good line answers)
completes most IsAsked IsBad IsIllegal bytes (status.Illegal entry) left new old written is short good legal answers reads no_usage no_read no_write =
    absurd (legal entry answers)
completes most IsAsked IsBad IsIllegal bytes status.DiskFault left new old written is short good legal answers reads no_usage no_read no_write = absurd answers
completes most IsAsked IsBad IsIllegal bytes (status.BadImage place) left new old written is short good legal answers reads no_usage no_read no_write =
    absurd answers
completes most IsAsked IsBad IsIllegal bytes status.TooLong left new old written is short good legal answers reads no_usage no_read no_write =
    let told = reads (λ e. absurd (cc)) in
    let less : most < length told.input = told.long refl in
    let few = no-more left new told.input bytes told.came is in
    absurd (omega (arith, less, few, short))
