-- A disk in memory stays sound, and keeps what it has to.
use Rattle.std.proofs.Common.{◌≡◌, ℕ, ◌+◌, ◌≤◌, List, [], ◌∷◌, ◌++◌, length, refl, sym, ◌∙◌, ap, subst, arith, length-append}
use Rattle.disk_model.specs.declared.span.Span.{Span}
use Rattle.disk_model.specs.declared.mark.Mark.{Mark}
use Rattle.disk_model.specs.declared.mark.Mark.TheVariants as mark
use Rattle.disk_model.specs.Contents.{Contents, range, settled, written, overwritten, most_bytes}
use Rattle.disk_model.specs.RamDisk.{with_pending}
use Rattle.disk_model.specs.RamInside.{IsSound, IsKept, total_length}
use Rattle.disk_model.proofs.Overwriting.{length-overwritten, get_or-overwritten_apart}
use Rattle.disk_model.proofs.Filling.{end_more, begin_longer, begin_more, apart_more}
use Rattle.disk_model.proofs.Marks.{total_more}

sound_written : (contents : Contents) (place : ℕ) (piece : List ℕ) → IsSound contents → place ≤ length contents.bytes → place + length piece ≤ most_bytes
    → IsSound (written contents place piece)
sound_written contents place piece sound begin end =
    let long = length-overwritten contents.bytes piece place begin in
    let further = end_more (length contents.synced) contents.pending (range place (length piece)) in
    let longer : length contents.bytes ≤ length (overwritten contents.bytes place piece) = omega arith in
    record {
      among = record {
        no_shorter = omega (arith, sound.among.no_shorter);
        no_longer = omega (arith, sound.among.no_longer);
        others = λ k within apart.
            let parts = apart_more k contents.pending (range place (length piece)) apart in
            get_or-overwritten_apart contents.bytes piece place k begin parts.1 ∙ sound.among.others k within parts.0;
      };
      begin = begin_more (length (overwritten contents.bytes place piece)) contents.pending (range place (length piece)) (omega arith)
          (begin_longer (length contents.bytes) (length (overwritten contents.bytes place piece)) contents.pending longer sound.begin);
      small = omega (arith, sound.small);
    }

sound_failed : (contents : Contents) (place count : ℕ) → IsSound contents → place ≤ length contents.bytes → place + count ≤ most_bytes
    → IsSound (with_pending contents place count)
sound_failed contents place count sound begin end =
    let further = end_more (length contents.synced) contents.pending (range place count) in
    record {
      among = record {
        no_shorter = sound.among.no_shorter;
        no_longer = omega (arith, sound.among.no_longer);
        others = λ k within apart. sound.among.others k within (apart_more k contents.pending (range place count) apart).0;
      };
      begin = begin_more (length contents.bytes) contents.pending (range place count) begin sound.begin;
      small = omega (arith, sound.small);
    }

pub sound_settled : (bytes : List ℕ) → length bytes ≤ most_bytes → IsSound (settled bytes)
sound_settled bytes small = record {
  among = record { no_shorter = omega arith; no_longer = omega arith; others = λ k within apart. refl };
  begin = tt;
  small = small;
}

module _ (now next : Contents) (bytes : List ℕ) (pending : List Span) (marks more : List Mark) (pieces : List ℕ) (kept : IsKept now bytes pending marks pieces) where
  pub kept_written : (place : ℕ) (piece bytes' : List ℕ) (pending' : List Span) (pieces' : List ℕ) → next ≡ written now place piece → bytes' ≡ overwritten bytes place piece
      → pending' ≡ pending ++ range place (length piece) ∷ [] → more ≡ marks ++ mark.Written (range place (length piece)) ∷ [] → pieces' ≡ pieces ++ piece
      → place ≤ length now.bytes → place + length piece ≤ most_bytes → IsKept next bytes' pending' more pieces'
  kept_written place piece bytes' pending' pieces' is same_bytes same_pending same_marks same_pieces begin end = record {
    sound = subst IsSound (sym is) (sound_written now place piece kept.sound begin end);
    same_bytes = ap (λ (s : Contents). s.bytes) is ∙ ap (λ (l : List ℕ). overwritten l place piece) kept.same_bytes ∙ sym same_bytes;
    same_pending = ap (λ (s : Contents). s.pending) is ∙ ap (λ (l : List Span). l ++ range place (length piece) ∷ []) kept.same_pending ∙ sym same_pending;
    lengths = omega (arith, kept.lengths, ap length same_pieces, length-append pieces piece, ap total_length same_marks, total_more marks (mark.Written (range place (length piece))));
  }

  pub kept_failed : (place count : ℕ) (pending' : List Span) → next ≡ with_pending now place count
      → pending' ≡ pending ++ range place count ∷ [] → more ≡ marks ++ mark.Failed (range place count) ∷ []
      → place ≤ length now.bytes → place + count ≤ most_bytes → IsKept next bytes pending' more pieces
  kept_failed place count pending' is same_pending same_marks begin end = record {
    sound = subst IsSound (sym is) (sound_failed now place count kept.sound begin end);
    same_bytes = ap (λ (s : Contents). s.bytes) is ∙ kept.same_bytes;
    same_pending = ap (λ (s : Contents). s.pending) is ∙ ap (λ (l : List Span). l ++ range place count ∷ []) kept.same_pending ∙ sym same_pending;
    lengths = omega (arith, kept.lengths, ap total_length same_marks, total_more marks (mark.Failed (range place count)));
  }

  pub kept_synced : (pending' : List Span) → next ≡ settled now.bytes → pending' ≡ [] → more ≡ marks ++ mark.Synced ∷ [] → IsKept next bytes pending' more pieces
  kept_synced pending' is same_pending same_marks = record {
    sound = subst IsSound (sym is) (sound_settled now.bytes (omega (arith, kept.sound.among.no_longer, kept.sound.small)));
    same_bytes = ap (λ (s : Contents). s.bytes) is ∙ kept.same_bytes;
    same_pending = ap (λ (s : Contents). s.pending) is ∙ sym same_pending;
    lengths = omega (arith, kept.lengths, ap total_length same_marks, total_more marks mark.Synced);
  }
