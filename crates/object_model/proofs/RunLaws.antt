-- Lines in runs: what they name in a domain, and one run more.
use Rattle.std.proofs.Common.{◌≡◌, ℕ, zero, suc, ◌+◌, ◌<◌, ◌≤◌, Bool, true, false, cond, List, [], ◌∷◌, ◌++◌, flat_map, filter, take, drop, length, get_or, refl, sym, ap, ap₂, ◌∙◌, arith, append_assoc, append-nil, take-append-drop, take_all, ◌-◌, subst}
use Rattle.std.specs.Str.{bytes_eq}
use Rattle.std.proofs.lemmas.Slice.Eq.{bytes_eq-Decides}
use Rattle.std.proofs.lemmas.List.{take_more, length-drop}
use Rattle.std.proofs.lemmas.List.Elements.{filter-append}
use Rattle.std.proofs.lemmas.Grind.{flat_map-append}
use Rattle.list_laws.proofs.Appended.{flat-more}
use Rattle.bay_model.specs.Generated.{Named}
use Rattle.bay_model.specs.NamedLines.{Line}
use Rattle.object_model.specs.declared.runs.Run.{Run}
use Rattle.object_model.specs.Runs.{AreRuns, IsRun, lines_in}

abbrev pub of_domain : List ℕ → List Line → List Line
of_domain domain ls = filter (λ (l : Line). bytes_eq l.domain domain) ls

abbrev pub named_in : List Line → List Named
named_in ls = flat_map (λ (l : Line). l.names) ls

-- all lines of a run are of a domain, or none is
all-or-none : (domain of : List ℕ) (b : Bool) (ls : List Line) → bytes_eq of domain ≡ b → ((k : ℕ) (d : Line) → k < length ls → bytes_eq (get_or ls k d).domain of ≡ true) → of_domain domain ls ≡ cond b ls []
all-or-none domain of true [] e same = refl
all-or-none domain of false [] e same = refl
all-or-none domain of b (l ∷ ls) e same = by b (all-or-none domain of b ls e (λ k d h. same (suc k) d (omega (arith, h))))
    (ap (λ x. bytes_eq x domain) ((bytes_eq-Decides l.domain of).0 (same 0 l (omega arith))) ∙ e)
  where
    by : (b : Bool) → of_domain domain ls ≡ cond b ls [] → bytes_eq l.domain domain ≡ b → cond (bytes_eq l.domain domain) (l ∷ of_domain domain ls) (of_domain domain ls) ≡ cond b (l ∷ ls) []
    by true rest here = ap (λ x. cond x (l ∷ of_domain domain ls) (of_domain domain ls)) here ∙ ap (λ x. l ∷ x) rest
    by false rest here = ap (λ x. cond x (l ∷ of_domain domain ls) (of_domain domain ls)) here ∙ rest

pub run-here : (r : Run) (domain : List ℕ) (old new : List Named) → IsRun r → bytes_eq r.domain.now domain ≡ true → new ≡ old ++ named_in r.lines.now → new ≡ old ++ named_in (of_domain domain r.lines.now)
run-here r domain old new is e n = n ∙ ap (λ l. old ++ named_in l) (sym (all-or-none domain r.domain.now true r.lines.now e is))

pub run-elsewhere : (r : Run) (domain : List ℕ) (old : List Named) → IsRun r → bytes_eq r.domain.now domain ≡ false → old ≡ old ++ named_in (of_domain domain r.lines.now)
run-elsewhere r domain old is e = sym (append-nil old) ∙ ap (λ l. old ++ named_in l) (sym (all-or-none domain r.domain.now false r.lines.now e is))

pub run-at : (rs : List Run) (i : ℕ) (d : Run) → i < length rs → AreRuns rs → IsRun (get_or rs i d)
run-at [] i d h are = absurd (omega (arith, h))
run-at (r ∷ rs) zero d h are = are.0
run-at (r ∷ rs) (suc i) d h are = run-at rs i d (omega (arith, h)) are.1

pub names-more : (rs : List Run) (domain : List ℕ) (i : ℕ) (r : Run) (old new : List Named) → i < length rs → r ≡ get_or rs i r → old ≡ named_in (of_domain domain (lines_in (take i rs)))
    → new ≡ old ++ named_in (of_domain domain r.lines.now) → new ≡ named_in (of_domain domain (lines_in (take (i + 1) rs)))
names-more rs domain i r old new h e o n = n ∙ (ap (λ l. l ++ named_in (of_domain domain r.lines.now)) o
    ∙ (sym (flat_map-append (λ (l : Line). l.names) (of_domain domain (lines_in (take i rs))) (of_domain domain r.lines.now))
    ∙ (ap named_in (sym (filter-append (λ (l : Line). bytes_eq l.domain domain) (lines_in (take i rs)) r.lines.now))
    ∙ ap (λ l. named_in (of_domain domain l)) (sym (ap lines_in (take_more rs i r h ∙ ap (λ x. take i rs ++ x ∷ []) (sym e)) ∙ flat-more (λ (r : Run). r.lines.now) (take i rs) r)))))

-- one run more
pub runs-more : (rs : List Run) (r : Run) → AreRuns rs → IsRun r → AreRuns (rs ++ r ∷ [])
runs-more [] r are is = (is, tt)
runs-more (x ∷ rs) r are is = (are.0, runs-more rs r are.1 is)

behind : (n : ℕ) (xs : List Line) → take (length xs - n) (drop n xs) ≡ drop n xs
behind n xs = take_all (length xs - n) (drop n xs) (omega (arith, length-drop n xs))

pub lines-more : (rs new : List Run) (r : Run) (all rest after : List Line) (n : ℕ) → new ≡ rs ++ r ∷ [] → r.lines.now ≡ take n rest → after ≡ take (length rest - n) (drop n rest) → lines_in rs ++ rest ≡ all → lines_in new ++ after ≡ all
lines-more rs new r all rest after n e t a is = ap₂ (λ l x. lines_in l ++ x) e (a ∙ behind n rest) ∙ (ap (λ l. l ++ drop n rest) (flat-more (λ (r : Run). r.lines.now) rs r) ∙ (append_assoc (lines_in rs) r.lines.now (drop n rest)
    ∙ (ap (λ l. lines_in rs ++ l) (ap (λ l. l ++ drop n rest) t ∙ take-append-drop n rest) ∙ is)))

take-few : (n : ℕ) (xs : List Line) → length (take n xs) ≤ n
take-few zero xs = omega arith
take-few (suc n) [] = omega arith
take-few (suc n) (x ∷ xs) = omega (arith, take-few n xs)

front : (d : Line) (xs : List Line) (n j : ℕ) → j < length (take n xs) → get_or (take n xs) j d ≡ get_or xs j d
front d [] zero j h = refl
front d [] (suc n) j h = refl
front d (x ∷ xs) zero j h = absurd (omega (arith, h))
front d (x ∷ xs) (suc n) zero h = refl
front d (x ∷ xs) (suc n) (suc j) h = front d xs n j (omega (arith, h))

abbrev pub AreOf : List ℕ → List Line → Type 0
AreOf domain ls = (k : ℕ) (d : Line) → k < length ls → bytes_eq (get_or ls k d).domain domain ≡ true

-- a first line, and those after it that are of its domain
first-run : (domain : List ℕ) (first : Line) (more : List Line) (n : ℕ) → first.domain ≡ domain → ((k : ℕ) (d : Line) → k < n → bytes_eq (get_or more k d).domain domain ≡ true) → AreOf domain (first ∷ take n more)
first-run domain first more n e same zero d h = (bytes_eq-Decides first.domain domain).1 e
first-run domain first more n e same (suc k) d h = let lt : k < length (take n more) = omega (arith, h) in ap (λ (l : Line). bytes_eq l.domain domain) (front d more n k lt) ∙ same k d (omega (arith, lt, take-few n more))

pub is-run : (rest more : List Line) (first : Line) (domain : List ℕ) (n : ℕ) → 0 < length rest → first ≡ get_or rest 0 first → first.domain ≡ domain → more ≡ take (length rest - 1) (drop 1 rest)
    → ((k : ℕ) (d : Line) → k < n → bytes_eq (get_or more k d).domain domain ≡ true) → AreOf domain (take (1 + n) rest)
is-run [] more first domain n h i e m same = absurd (omega (arith, h))
is-run (x ∷ xs) more first domain n h i e m same =
    let one : 1 + n ≡ suc n = omega arith in
    subst (λ c. AreOf domain (take c (x ∷ xs))) (sym one) (first-run domain x xs n (sym (ap (λ (l : Line). l.domain) i) ∙ e) (λ k d lt. ap (λ l. bytes_eq (get_or l k d).domain domain) (sym (m ∙ behind 1 (x ∷ xs))) ∙ same k d lt))
