-- why `parts::Parts::add_path` answers as its contract says
use Rattle.std.proofs.Common.{◌≡◌, ◌||◌, ◌∷◌, ◌+◌, length, take, fold, get_or, Some, is_some, sym, ap, subst, ◌∙◌, arith}
use native.Mathlib.Numerals.{unary_clauses}
use Rattle.std.proofs.lemmas.Bool.{cond-true, cond-false, eq-eqb, ne_eqb}
use Rattle.std.proofs.lemmas.List.Sums.{fold_more}
use Rattle.octet_rows.specs.Hashing.{gathered, nothing}
use Rattle.octet_rows.specs.Found.{place_in}
use Rattle.std.specs.Str.{bytes_eq}
use Rattle.cfg_lines.specs.Keys.{is_among}
use Rattle.cfg_lines.specs.Paths.{above_within}
use Rattle.cfg_lines.specs.Sizes.{edges_within, with_edge}
use Rattle.cfg_nodes.specs.Indexed.{parts_in, last_front, with_part, with_front, IsPlaced}
use Rattle.cfg_nodes.proofs.PartLaws.{part-more, front-more}
use Rattle.cfg_nodes.proofs.parts.Parts.add_path.Goals.{then-octet-eq36+in_ok-add_structure, else-octet-eq36}
use Rattle.cfg_nodes.proofs.parts.Parts.add_path.Goals as goal
use Rattle.list_laws.proofs.Truths.{or-group as assoc}

pub loop-i-preserved : goal.loop-i-preserved
loop-i-preserved c =
    let path = c.args.path.now in
    let i = c.loop-i.i in
    let inv = c.loop-i.invariant in
    let number = c.with-hash.ensures ∙ (ap (λ h. gathered h (get_or path i 0)) inv.number ∙ sym (fold_more gathered nothing path i 0 c.loop-i-test.true)) in
    elim c.if-octet-eq36.branch [
      | then-octet-eq36+in_ok-add_structure w ↦
          let here : last_front (i + 1) path ≡ Some (take i path) = simp unary_clauses (cond-true _ (Some (take i path)) (last_front i path) (eq-eqb _ _ w.if-octet-eq36.true)) in
          let front : above_within (i + 1) path ≡ take i path ∷ above_within i path = simp unary_clauses (cond-true _ (take i path ∷ above_within i path) (above_within i path) (eq-eqb _ _ w.if-octet-eq36.true)) in
          let made = w.in_ok-add_structure.ensures in
          record {
            number = number;
            even = ap (λ p. length p.parts.items) w.self-is ∙ (made.even ∙ sym (ap (λ p. length p.structures) w.self-is));
            among = λ q. ap (λ p. is_among p.structures q) w.self-is ∙ (made.among q ∙ (ap (λ b. bytes_eq q (take i path) || b) (inv.among q)
                ∙ (sym (assoc (bytes_eq q (take i path)) (is_among (above_within i path) q) (is_among c.args.self.now.structures q))
                ∙ sym (ap (λ fs. is_among fs q || is_among c.args.self.now.structures q) front))));
            placed = subst (λ f. IsPlaced c.if-octet-eq36.self f c.if-octet-eq36.above) (sym here)
                (w.above-is ∙ (sym made.place ∙ sym (ap (λ p. place_in p.structures (take i path)) w.self-is)), ap is_some w.above-is);
            parts = λ other. ap (λ p. parts_in p other) w.self-is ∙ (made.parts (last_front i path) inv.placed other
                ∙ (ap (λ ps. with_part other ps (last_front i path) (take i path)) (inv.parts other)
                ∙ (front-more other path i (parts_in c.args.self.now other) c.loop-i.auto.i-end ∙ sym (ap (with_front other (parts_in c.args.self.now other)) here))));
          }
      | else-octet-eq36 w ↦
          let here : last_front (i + 1) path ≡ last_front i path = simp unary_clauses (cond-false _ (Some (take i path)) (last_front i path) (ne_eqb _ _ w.if-octet-eq36.false)) in
          let same : above_within (i + 1) path ≡ above_within i path = simp unary_clauses (cond-false _ (take i path ∷ above_within i path) (above_within i path) (ne_eqb _ _ w.if-octet-eq36.false)) in
          record {
            number = number;
            among = λ q. ap (λ p. is_among p.structures q) w.self-is ∙ (inv.among q ∙ sym (ap (λ fs. is_among fs q || is_among c.args.self.now.structures q) same));
            even = ap (λ p. length p.parts.items) w.self-is ∙ (inv.even ∙ sym (ap (λ p. length p.structures) w.self-is));
            placed = subst (λ f. IsPlaced c.if-octet-eq36.self f c.if-octet-eq36.above) (sym here) (subst (λ a. IsPlaced c.if-octet-eq36.self (last_front i path) a) (sym w.above-is) (subst (λ p. IsPlaced p (last_front i path) c.loop-i.above) (sym w.self-is) inv.placed));
            parts = λ other. ap (λ p. parts_in p other) w.self-is ∙ (inv.parts other ∙ sym (ap (with_front other (parts_in c.args.self.now other)) here));
          }
    ]

pub returns-clause-parts : goal.returns-clause-parts
returns-clause-parts c = λ other.
    let path = c.args.path.now in
    let i = c.loop-i.i in
    let old = parts_in c.args.self.now other in
    let end : i ≡ length path = omega (arith, c.loop-i-test.false, c.loop-i.auto.i-end) in
    c.in_ok-add_part.ensures.parts (last_front i path) c.loop-i.invariant.placed other
    ∙ (ap (λ ps. with_part other ps (last_front i path) path) (c.loop-i.invariant.parts other)
    ∙ (part-more other path path i old c.loop-i.auto.i-end ∙ ap (λ n. fold (with_edge other) old (edges_within n path path)) end))
