use Rattle.std.proofs.Common.{◌∙◌, ◌<◌, ◌==◌, List, ap, arith, inl, inr, length, sym}
use Rattle.std.proofs.lemmas.Bool.{true≢false}
use Rattle.std.proofs.lemmas.Bool.Decides.{eqb_tells}
use Rattle.std.proofs.lemmas.Nat.Bits.{bit_at_set_other, bit_at_set_same}
use Rattle.std.specs.Int.{w64}
use Rattle.cut_proof.specs.ZoneSet.{holds}
use Rattle.zone_graph.proofs.Places.{at_any}
use Rattle.local_view.specs.declared.footing.Certificate.{Certificate}
use Rattle.local_view.specs.Footing.{certificate_at, no_certificate}
use Rattle.local_view.proofs.footing.Footing.whole_zones.Goals as goal
use Rattle.local_view.proofs.footing.Footing.whole_zones.Goals.{then-certificate, else-certificate}

pub loop-zone-preserved : goal.loop-zone-preserved
loop-zone-preserved c = λ k less is.
    let items = c.deref-certificate-items.result.now in
    let zone = c.loop-zone.zone in
    let small : c.loop-zone.zone < 64 = omega (arith, c.loop-zone-test.true, c.deref-certificate-items.ensures.len, c.requires) in
    elim c.if-certificate.branch [
      | then-certificate w ↦ elim (eqb_tells k zone) [
        | inl same ↦ ap (λ n. holds n k) w.whole-is ∙ ap (holds _) same.1 ∙ ap (λ n. n == 1) (bit_at_set_same w64 c.loop-zone.whole zone small)
        | inr apart ↦
            ap (λ n. holds n k) w.whole-is
            ∙ ap (λ n. n == 1) (bit_at_set_other w64 c.loop-zone.whole zone small k apart.1)
            ∙ c.loop-zone.invariant k (omega (arith, less, apart.1)) is
      ]
      | else-certificate w ↦ elim (eqb_tells k zone) [
        | inl same ↦
            absurd (true≢false (sym is ∙ ap (λ n. (certificate_at c.args.self.now.certificates.items n).is_whole) same.1
            ∙ ap (λ (list : List Certificate). (certificate_at list zone).is_whole) (sym c.deref-certificate-items.ensures.value)
            ∙ ap (λ (certificate : Certificate). certificate.is_whole) (sym (c.certificate-item.is ∙ at_any items zone c.certificate-item.result no_certificate c.loop-zone-test.true))
            ∙ w.if-certificate.false))
        | inr apart ↦ ap (λ n. holds n k) w.whole-is ∙ c.loop-zone.invariant k (omega (arith, less, apart.1)) is
      ]
    ]

pub returns : goal.returns
returns c = λ zone less. c.loop-zone.invariant zone (omega (arith, less, c.loop-zone-test.false, ap length c.deref-certificate-items.ensures.value))
