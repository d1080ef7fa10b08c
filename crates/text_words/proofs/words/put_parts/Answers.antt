-- why `words::put_parts` answers as its contract says
use Rattle.std.proofs.Common.{◌≡◌, ◌==◌, ◌++◌, ℕ, drop, sym, ap, ap₂, ◌∙◌, arith, refl}
use Rattle.std.specs.List.{slice_split}
use Rattle.text_words.specs.Words.{texts}
use Rattle.std.proofs.lemmas.Bool.{eq-eqb, ne_eqb}
use Rattle.text_words.proofs.PartLaws.{parts-more, parts-end, none-more}
use Rattle.text_words.proofs.words.put_parts.Goals.{then-octet-separator+in_ok-push, else-octet-separator}
use Rattle.text_words.proofs.words.put_parts.Goals as goal

pub loop-i-preserved : goal.loop-i-preserved
loop-i-preserved c = elim c.if-octet-separator.branch [
  | then-octet-separator+in_ok-push w ↦ record {
    within = omega (arith, w.start-is);
    none = λ k g h. absurd (omega (arith, w.start-is, g, h));
    parts = parts-more (λ b. b == c.args.separator) c.loop-i.start c.loop-i.i _ c.args.octets.now c.loop-i.parts.items _ _ c.loop-i.invariant.within c.loop-i-test.true c.loop-i.invariant.none (eq-eqb _ _ w.if-octet-separator.true) w.start-is refl (ap (λ v. v.items) w.parts-is ∙ w.in_ok-push.ensures.ok) c.loop-i.invariant.parts;
  }
  | else-octet-separator w ↦ record {
    within = omega (arith, w.start-is, c.loop-i.invariant.within);
    none = λ k g h. none-more (λ b. b == c.args.separator) c.loop-i.start c.loop-i.i c.args.octets.now c.loop-i.invariant.none (ne_eqb _ _ w.if-octet-separator.false) k (omega (arith, g, w.start-is)) h;
    parts = ap₂ (λ v (m : ℕ). texts v.items ++ slice_split (λ b. b == c.args.separator) (drop m c.args.octets.now)) w.parts-is w.start-is ∙ c.loop-i.invariant.parts;
  }
]

pub returns : goal.returns
returns c = parts-end (λ b. b == c.args.separator) c.loop-i.start c.loop-i.i c.args.octets.now c.loop-i.parts.items _ _ (omega (arith, c.loop-i-test.false)) c.loop-i.invariant.none refl c.in_ok-push-2.ensures.ok c.loop-i.invariant.parts
