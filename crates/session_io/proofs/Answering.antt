-- What is answered of an input that was read to its end, or of which nothing is to be written.
use Rattle.std.proofs.Common.{◌≡◌, ◌≢◌, inl, ℕ, true≢false, List, Option, Some, IfSome, refl, sym, subst}
use Rattle.std.specs.Io.KnownBytes.{Consumes, IsAtEnd}
use Rattle.std.proofs.KnownBytes.{Appends-nil, Consumes-whole}
use Rattle.session_io.specs.declared.status.Status.{Status}
use Rattle.session_io.specs.declared.status.Status.TheVariants as status
use Rattle.session_io.specs.Outcomes.{Answers, DiskAnswers}
use Rattle.session_io.specs.Sources.{ReadsUpTo, Stops, WasRead}

-- what came of known bytes up to their end is these bytes
pub came-whole : (left new : Option (List ℕ)) (input bytes : List ℕ) → Consumes left new input → IsAtEnd new → left ≡ Some bytes → input ≡ bytes
came-whole left new input bytes came ended is =
    subst (λ known. IfSome known (λ xs. input ≡ xs)) is (Consumes-whole left new input (λ xs. input ≡ xs) came ended refl)

-- so known bytes that were read are what the input is
pub is-known : (most : ℕ) (Is : List ℕ → Type 0) (left new : Option (List ℕ)) (bytes : List ℕ) → WasRead most Is left new → left ≡ Some bytes → Is bytes
is-known most Is left new bytes read is = subst Is (came-whole left new read.input bytes read.came read.ended is) read.is

-- a run that ends behind the reading has read the input
pub has-read : (most : ℕ) (Is : List ℕ → Type 0) (left new : Option (List ℕ)) (end : Status) → WasRead most Is left new → end ≢ status.TooLong → ReadsUpTo most left new end
has-read most Is left new end read not_long =
    record { input = read.input; came = read.came; long = λ e. absurd (not_long e); short = λ _. read.short; ended = λ _. read.ended }

-- where there is nothing to write, this is what is answered
pub answers-nothing : (most : ℕ) (IsAsked : List ℕ → Type 0) (IsBad IsIllegal : List ℕ → ℕ → Type 0) (left new : Option (List ℕ)) (end : Status)
    (bytes : List ℕ) (old : Option (List ℕ)) → Stops most IsBad IsIllegal left new end → left ≡ Some bytes
    → Answers IsAsked (IsBad bytes) (IsIllegal bytes) end old old
answers-nothing most IsAsked IsBad IsIllegal left new status.Done bytes old stops is = absurd (true≢false (sym stops.early))
answers-nothing most IsAsked IsBad IsIllegal left new status.WriteFault bytes old stops is = absurd (true≢false (sym stops.early))
answers-nothing most IsAsked IsBad IsIllegal left new status.NoMemory bytes old stops is = inl (Appends-nil old)
answers-nothing most IsAsked IsBad IsIllegal left new (status.BadSession line) bytes old stops is = stops.bad bytes line refl is
answers-nothing most IsAsked IsBad IsIllegal left new (status.Illegal entry) bytes old stops is = stops.illegal bytes entry refl is
answers-nothing most IsAsked IsBad IsIllegal left new status.DiskFault bytes old stops is = absurd (true≢false (sym stops.early))
answers-nothing most IsAsked IsBad IsIllegal left new (status.BadImage place) bytes old stops is = absurd (true≢false (sym stops.early))
answers-nothing most IsAsked IsBad IsIllegal left new status.Usage bytes old stops is = tt
answers-nothing most IsAsked IsBad IsIllegal left new status.ReadFault bytes old stops is = tt
answers-nothing most IsAsked IsBad IsIllegal left new status.TooLong bytes old stops is = tt

-- what is answered without a disk is answered with one
pub answers-on-disk : (IsAsked : List ℕ → Type 0) (IsBad IsIllegal IsDamaged : ℕ → Type 0) (end : Status) (old new : Option (List ℕ))
    → Answers IsAsked IsBad IsIllegal end old new → DiskAnswers IsAsked IsBad IsIllegal IsDamaged end old new
answers-on-disk IsAsked IsBad IsIllegal IsDamaged status.Done old new answers = answers
answers-on-disk IsAsked IsBad IsIllegal IsDamaged status.Usage old new answers = tt
answers-on-disk IsAsked IsBad IsIllegal IsDamaged (status.BadSession line) old new answers = answers
answers-on-disk IsAsked IsBad IsIllegal IsDamaged status.ReadFault old new answers = tt
answers-on-disk IsAsked IsBad IsIllegal IsDamaged status.WriteFault old new answers = answers
answers-on-disk IsAsked IsBad IsIllegal IsDamaged status.NoMemory old new answers = answers
answers-on-disk IsAsked IsBad IsIllegal IsDamaged status.TooLong old new answers = tt
answers-on-disk IsAsked IsBad IsIllegal IsDamaged (status.Illegal entry) old new answers = answers
answers-on-disk IsAsked IsBad IsIllegal IsDamaged status.DiskFault old new answers = absurd answers
answers-on-disk IsAsked IsBad IsIllegal IsDamaged (status.BadImage place) old new answers = absurd answers
