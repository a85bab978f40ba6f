-- Ranges, one more of them, and ranges that are filled.
use Rattle.std.proofs.Common.{◌≡◌, ◌⊎◌, ℕ, ◌+◌, ◌<◌, ◌≤◌, max, List, [], ◌∷◌, ◌++◌, length, get_or, drop, replicate, refl, sym, ◌∙◌, ap, subst, arith}
use Rattle.std.proofs.lemmas.List.{length-replicate, drop_more}
use Rattle.disk_model.specs.declared.span.Span.{Span}
use Rattle.disk_model.specs.Contents.{Contents, IsImage, AreApart, overwritten, filled, filled_image, greatest_end, most_bytes}
use Rattle.disk_model.specs.RamInside.{BeginWithin, IsSound}
use Rattle.disk_model.proofs.Overwriting.{length-overwritten, get_or-overwritten_apart}

pub end_least : (n : ℕ) (spans : List Span) → n ≤ greatest_end n spans
end_least n [] = omega arith
end_least n (span ∷ spans) = omega (arith, end_least (max n (span.place + span.count)) spans)

-- where it begins matters no further than up to it
end_most : (m n : ℕ) (spans : List Span) → greatest_end n spans ≤ max n (greatest_end m spans)
end_most m n [] = omega arith
end_most m n (span ∷ spans) =
    omega (arith, end_most (max m (span.place + span.count)) (max n (span.place + span.count)) spans, end_least (max m (span.place + span.count)) spans)

pub end_more : (n : ℕ) (spans : List Span) (span : Span) → greatest_end n (spans ++ span ∷ []) ≡ max (greatest_end n spans) (span.place + span.count)
end_more n [] span = refl
end_more n (first ∷ spans) span = end_more (max n (first.place + first.count)) spans span

pub begin_longer : (m n : ℕ) (spans : List Span) → m ≤ n → BeginWithin m spans → BeginWithin n spans
begin_longer m n [] le begin = tt
begin_longer m n (span ∷ spans) le begin = (omega (arith, begin.0), begin_longer m n spans le begin.1)

pub begin_more : (n : ℕ) (spans : List Span) (span : Span) → span.place ≤ n → BeginWithin n spans → BeginWithin n (spans ++ span ∷ [])
begin_more n [] span le begin = (le, tt)
begin_more n (first ∷ spans) span le begin = (begin.0, begin_more n spans span le begin.1)

pub apart_more : (k : ℕ) (spans : List Span) (span : Span) → AreApart k (spans ++ span ∷ []) → AreApart k spans × ((k < span.place) ⊎ (span.place + span.count ≤ k))
apart_more k [] span apart = (tt, apart.0)
apart_more k (first ∷ spans) span apart = let rest = apart_more k spans span apart.1 in ((apart.0, rest.0), rest.1)

-- one range of bytes filled
abbrev one_filled : ℕ → List ℕ → Span → List ℕ
one_filled fill bytes span = overwritten bytes span.place (replicate span.count fill)

length-one_filled : (fill : ℕ) (bytes : List ℕ) (span : Span) → span.place ≤ length bytes → length (one_filled fill bytes span) ≡ max (length bytes) (span.place + span.count)
length-one_filled fill bytes span le =
    omega (arith, length-overwritten bytes (replicate span.count fill) span.place le, length-replicate span.count fill)

pub begin_filled : (fill : ℕ) (bytes : List ℕ) (span : Span) (spans : List Span) → BeginWithin (length bytes) (span ∷ spans) → BeginWithin (length (one_filled fill bytes span)) spans
begin_filled fill bytes span spans begin =
    begin_longer (length bytes) (length (one_filled fill bytes span)) spans (omega (arith, length-one_filled fill bytes span begin.0)) begin.1

length-filled : (fill : ℕ) (bytes : List ℕ) (spans : List Span) → BeginWithin (length bytes) spans → length (filled fill bytes spans) ≡ greatest_end (length bytes) spans
length-filled fill bytes [] begin = refl
length-filled fill bytes (span ∷ spans) begin =
    length-filled fill (one_filled fill bytes span) spans (begin_filled fill bytes span spans begin)
    ∙ ap (λ n. greatest_end n spans) (length-one_filled fill bytes span begin.0)

get_or-filled_apart : (fill : ℕ) (bytes : List ℕ) (spans : List Span) (k : ℕ) → BeginWithin (length bytes) spans → AreApart k spans
    → get_or (filled fill bytes spans) k 0 ≡ get_or bytes k 0
get_or-filled_apart fill bytes [] k begin apart = refl
get_or-filled_apart fill bytes (span ∷ spans) k begin apart =
    let behind : (k < span.place) ⊎ (span.place + length (replicate span.count fill) ≤ k) =
    subst (λ n. (k < span.place) ⊎ (span.place + n ≤ k)) (sym (length-replicate span.count fill)) apart.0 in
    get_or-filled_apart fill (one_filled fill bytes span) spans k (begin_filled fill bytes span spans begin) apart.1
    ∙ get_or-overwritten_apart bytes (replicate span.count fill) span.place k begin.0 behind

-- the filled image is one of a sound disk's images
pub filled_is_image : (fill : ℕ) (contents : Contents) → IsSound contents → IsImage contents (filled_image fill contents)
filled_is_image fill contents sound =
    let long = length-filled fill contents.bytes contents.pending sound.begin in
    let least = end_least (length contents.bytes) contents.pending in
    let most = end_most (length contents.synced) (length contents.bytes) contents.pending in
    record {
      no_shorter = omega (arith, sound.among.no_shorter);
      no_longer = omega (arith, sound.among.no_longer);
      others = λ k within apart. get_or-filled_apart fill contents.bytes contents.pending k sound.begin apart ∙ sound.among.others k within apart;
    }

pub filled_is_small : (fill : ℕ) (contents : Contents) → IsSound contents → length (filled_image fill contents) ≤ most_bytes
filled_is_small fill contents sound = let image = filled_is_image fill contents sound in omega (arith, image.no_longer, sound.small)

-- one more of some ranges is filled
pub fill_more : (fill : ℕ) (spans : List Span) (i : ℕ) (d : Span) (image mid next start piece : List ℕ) → i < length spans → mid ≡ image
    → piece ≡ replicate (get_or spans i d).count fill → next ≡ overwritten mid (get_or spans i d).place piece
    → BeginWithin (length image) (drop i spans) → filled fill image (drop i spans) ≡ filled fill start spans
    → BeginWithin (length next) (drop (i + 1) spans) × (filled fill next (drop (i + 1) spans) ≡ filled fill start spans)
fill_more fill spans i d image mid next start piece within same_image same_piece over begin rest =
    let more = drop_more spans i d within in
    let span = get_or spans i d in
    let is : next ≡ one_filled fill image span = over ∙ (λ j. overwritten (same_image j) span.place (same_piece j)) in
    let begin_first : BeginWithin (length image) (span ∷ drop (i + 1) spans) = subst (λ (l : List Span). BeginWithin (length image) l) more begin in (
      subst (λ (l : List ℕ). BeginWithin (length l) (drop (i + 1) spans)) (sym is) (begin_filled fill image span (drop (i + 1) spans) begin_first),
      ap (λ (l : List ℕ). filled fill l (drop (i + 1) spans)) is ∙ ap (λ (l : List Span). filled fill image l) (sym more) ∙ rest,
    )
