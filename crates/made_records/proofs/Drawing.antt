-- Lines that are drawn one after another.
use Rattle.std.proofs.Common.{◌≡◌, ◌≤◌, ◌+◌, ◌*◌, ◌<◌, ◌%◌, ℕ, zero, suc, Bool, true, false, List, [], ◌∷◌, ◌++◌, refl, sym, ap, ◌∙◌, subst, arith, add-one, append_assoc, append-nil}
use Rattle.std.specs.Prelude.{◌==◌, if◌then◌else◌}
use Rattle.std.specs.List.{flat_map}
use Rattle.std.proofs.lemmas.Grind.{flat_map-append}
use Rattle.made_records.specs.declared.draw.Draw.{Draw}
use Rattle.made_records.specs.declared.line.MadeLine.{MadeLine}
use Rattle.made_records.specs.Made.{next_draw, line_by, lines_from, draw_after, choice, rest, next_number}
use Rattle.made_records.specs.Texts.{line_text, lines_text}

pub after-next : (n : ℕ) (d : Draw) → draw_after n (next_draw d) ≡ draw_after (suc n) d
after-next zero d = refl
after-next (suc n) d = ap next_draw (after-next n d)

-- one line more stands after the others
pub lines-more : (n : ℕ) (d : Draw) → lines_from (suc n) d ≡ lines_from n d ++ line_by (draw_after n d) ∷ []
lines-more zero d = refl
lines-more (suc n) d = ap (λ l. line_by d ∷ l) (lines-more n (next_draw d) ∙ ap (λ e. lines_from n (next_draw d) ++ line_by e ∷ []) (after-next n d))

text-more : (n : ℕ) (d : Draw) → lines_text (suc n) d ≡ lines_text n d ++ line_text (line_by (draw_after n d))
text-more n d = ap (flat_map line_text) (lines-more n d) ∙ (flat_map-append line_text (lines_from n d) (line_by (draw_after n d) ∷ []) ∙ ap (λ l. lines_text n d ++ l) (append-nil (line_text (line_by (draw_after n d)))))

-- the lines so far are written after what was there, and the drawing is after them
pub record Pushed (was out : List ℕ) (from now : Draw) (n : ℕ) : Type 0 where
  pub text : out ≡ was ++ lines_text n from
  pub draw : now ≡ draw_after n from
  pub moment : now.moment ≤ from.moment + 499 * n

moment-by : (b : Bool) (r was : ℕ) → r < 500 → (if b then was + r else was) ≤ was + 499
moment-by true r was h = omega (arith, h)
moment-by false r was h = omega arith

pub moment-more : (e f : Draw) → f ≡ next_draw e → f.moment ≤ e.moment + 499
moment-more e f is = subst (λ (g : Draw). g.moment ≤ e.moment + 499) (sym is) (moment-by (choice (next_number e.number) == 5) (rest (next_number e.number) % 500) e.moment (omega arith))

pub push_more : (was out more : List ℕ) (from d e : Draw) (n : ℕ) (line : MadeLine) → Pushed was out from d n → line ≡ line_by d → e ≡ next_draw d → more ≡ out ++ line_text line
    → Pushed was more from e (n + 1)
push_more was out more from d e n line p line-is e-is adds = rw add-one (record {
  text = adds ∙ (ap (λ o. o ++ line_text line) p.text ∙ (append_assoc was (lines_text n from) (line_text line)
      ∙ ap (λ l. was ++ l) (ap (λ k. lines_text n from ++ line_text k) (line-is ∙ ap line_by p.draw) ∙ sym (text-more n from))));
  draw = e-is ∙ ap next_draw p.draw;
  moment = let more : e.moment ≤ d.moment + 499 = moment-more d e e-is in omega (arith, more, p.moment);
})
