-- What is kept of the lines stays so with one more.
use Rattle.std.proofs.Common.{◌≡◌, ℕ, ◌+◌, ◌<◌, ◌≤◌, Bool, ◌||◌, List, [], ◌∷◌, ◌++◌, length, reverse, sym, ap, ◌∙◌, subst, arith}
use Rattle.std.specs.List.{list_any}
use Rattle.std.proofs.lemmas.List.{reverse-append}
use Rattle.std.proofs.lemmas.List.Folds.{list_any-append}
use Rattle.std.specs.Str.{bytes_eq}
use Rattle.cfg_lines.specs.Paths.{clashes}
use Rattle.cfg_lines.specs.Claims.{heads_by, sets_by, claims_by}
use Rattle.cfg_lines.specs.Facts.{Facts, facts_of, after}
use Rattle.cfg_lines.specs.declared.line.Line.{Line}
use Rattle.cfg_lines.specs.declared.line.Line.TheVariants as lines
use Rattle.cfg_lines.proofs.FactLaws.{facts-more}
use Rattle.cfg_reading.specs.Known.{Known, AreFew, Tells, facts_kept}
use Rattle.cfg_reading.specs.declared.known_lines.KnownLines.{KnownLines}

-- the line that is put last is the first of those before the next
pub last-first : (items new : List Line) (line : Line) → new ≡ items ++ line ∷ [] → reverse new ≡ line ∷ reverse items
last-first items new line is = ap reverse is ∙ reverse-append items (line ∷ [])

abbrev all_lines : Facts → ℕ
all_lines f = f.domains + f.nodes + f.attributes + f.sets + f.members + f.blocks + f.controls

-- there are no more of the kinds than lines
pub few-lines : (before : List Line) → all_lines (facts_of before) ≤ length before
few-lines [] = omega arith
few-lines (lines.Skip ∷ before) = omega (arith, few-lines before)
few-lines (line ∷ before) = omega (arith, few-lines before)

-- a test of one more list in front
any-front : (p : List ℕ → Bool) (front new old now : List (List ℕ)) → list_any p new ≡ list_any p (front ++ old) → list_any p old ≡ list_any p now → list_any p new ≡ list_any p (front ++ now)
any-front p front new old now more same = more ∙ (list_any-append p front old ∙ (ap (λ b. list_any p front || b) same ∙ sym (list_any-append p front now)))

-- so each kind has few
pub known-few : (k : KnownLines) → Known (reverse k.lines.items) (facts_kept k) k.heads k.sets k.names → AreFew k.counts
known-few k known =
    let all = few-lines (reverse k.lines.items) in
    let more = known.few in
    let same = known.same_facts in (
      omega (arith, ap (λ (f : Facts). f.domains) same, more, all),
      omega (arith, ap (λ (f : Facts). f.nodes) same, more, all),
      omega (arith, ap (λ (f : Facts). f.attributes) same, more, all),
      omega (arith, ap (λ (f : Facts). f.sets) same, more, all),
      omega (arith, ap (λ (f : Facts). f.members) same, more, all),
      omega (arith, ap (λ (f : Facts). f.blocks) same, more, all),
      omega (arith, ap (λ (f : Facts). f.controls) same, more, all),
    )

-- with one more line
pub known-more : (old new : KnownLines) (line : Line) → Known (reverse old.lines.items) (facts_kept old) old.heads old.sets old.names → length (reverse old.lines.items) < 20000
    → new.lines.items ≡ old.lines.items ++ line ∷ [] → Tells line old new → Known (reverse new.lines.items) (facts_kept new) new.heads new.sets new.names
known-more old new line k few is t = subst (λ b. Known b (facts_kept new) new.heads new.sets new.names) (sym (last-first old.lines.items new.lines.items line is)) (record {
  few = omega (arith, few);
  same_facts = t.facts ∙ (ap (after line) k.same_facts ∙ sym (facts-more line (reverse old.lines.items)));
  same_heads = λ key. any-front (λ k. bytes_eq key k) (heads_by line) new.heads old.heads _ (t.heads key) (k.same_heads key);
  same_sets = λ key. any-front (λ k. bytes_eq key k) (sets_by line) new.sets old.sets _ (t.sets key) (k.same_sets key);
  same_names = λ path. any-front (λ other. clashes path other) (claims_by line) new.names old.names _ (t.names path) (k.same_names path);
})
