-- A text is read as the configuration that it spells, and as no other.
use Rattle.std.proofs.Common.{◌≡◌, ℕ, zero, suc, ◌<◌, inl, inr, Bool, true, false, cond, ◌&&◌, ◌||◌, not, List, [], ◌∷◌, ◌++◌, length, nat_lt, ◌==◌, append-nil, append_assoc, refl, sym, ap, subst, ◌∙◌, arith}
use Rattle.std.specs.Prelude.{Result, Ok, Err}
use Rattle.std.specs.List.{All, list_all, list_any, join_with_byte}
use Rattle.std.proofs.lemmas.Bool.{and_parts, or_cases, cond-true, eqb-true, eq-eqb, or_left, or_right}
use Rattle.std.proofs.lemmas.Bool.Decides.{nat_tests}
use Rattle.std.proofs.lemmas.List.Splits.{join_with_byte-slice_split}
use Rattle.sv_base.specs.declared.config.Config.{Config}
use Rattle.cfg_parser.specs.declared.fault.Kind.{Kind}
use Rattle.cfg_parser.specs.declared.fault.CfgFault.{CfgFault}
use Rattle.cfg_parser.specs.declared.fault.CfgFault.TheVariants as faults
use Rattle.cfg_parser.specs.declared.fault.Kind.TheVariants as kinds
use Rattle.cfg_lines.specs.declared.line.Line.{Line}
use Rattle.cfg_lines.specs.declared.line.Line.TheVariants as lines
use Rattle.cfg_lines.specs.declared.line.Place.{Place}
use Rattle.cfg_lines.specs.declared.line.Place.TheVariants as places
use Rattle.text_words.specs.Words.{words_of}
use Rattle.cfg_parser.specs.Keywords.{keyword_at}
use Rattle.cfg_lines.specs.Keys.{is_among}
use Rattle.cfg_lines.specs.Before.{number_of, place_of, node_of}
use Rattle.cfg_lines.specs.Claims.{sets}
use Rattle.cfg_lines.specs.Nodes.{is_node, is_member_node}
use Rattle.cfg_lines.specs.Configs.{config_of}
use Rattle.text_words.specs.Octets.{is_printable, is_skipped}
use Rattle.cfg_parser.specs.Judging.{has_long, is_in_node, skip_at, tell_at, line_at}
use Rattle.cfg_parser.specs.Text.{pieces, numbered, is_ended, ended_at, told_at, lines_at}
use Rattle.cfg_parser.specs.Looking.{look_at, looked_at, config_at, ◌>>=◌}
use Rattle.cfg_grammar.specs.Follows.{IsInNode, IsInSet}
use Rattle.cfg_grammar.specs.Texts.{AreLines, IsFound, AreFound, SpellsConfig}
use Rattle.cfg_parser.proofs.TextLaws.{told-line}
use Rattle.text_words.proofs.NameLaws.{name-word}
use Rattle.cfg_text.proofs.SpelledLineLaws.{line-read}
use Rattle.cfg_text.proofs.ReadLineLaws.{HasName, went, passed, line-told}

-- a logical node has a name
abbrev is_inside : Place → Bool
is_inside places.InNode = true
is_inside places.InSet = true
is_inside places.InMembers = true
is_inside _ = false

inside-node : (before : List Line) → IsInNode before → is_inside (place_of before) ≡ true
inside-node before (inl e) = ap is_inside e
inside-node before (inr e) = ap is_inside e

inside-set : (before : List Line) → IsInSet before → is_inside (place_of before) ≡ true
inside-set before (inl e) = ap is_inside e
inside-set before (inr e) = ap is_inside e

named : (text : List ℕ) (before : List Line) → AreLines text before → is_inside (place_of before) ≡ true → 0 < length (node_of before)
named text [] are inside = absurd cc
named text (lines.Skip ∷ before) are inside = named are.0 before are.3 inside
named text (lines.Config ∷ before) are inside = absurd cc
named text (lines.Server vendor model revision ∷ before) are inside = absurd cc
named text (lines.Ld name ∷ before) are inside = absurd cc
named text (lines.Ln node ∷ before) are inside = (name-word node.ln are.4.follows.name).0
named text (lines.Attr attr ∷ before) are inside = named are.0 before are.3 (inside-node before are.4.follows.stands)
named text (lines.Set set ∷ before) are inside = named are.0 before are.3 (inside-node before are.4.follows.stands)
named text (lines.Member reference ∷ before) are inside = named are.0 before are.3 (inside-set before are.4.follows.stands)
named text (lines.Brcb block ∷ before) are inside = named are.0 before are.3 (inside-node before are.4.follows.stands)
named text (lines.Ctl control ∷ before) are inside = named are.0 before are.3 (inside-node before are.4.follows.stands)
named text (lines.Sgcb groups ∷ before) are inside = named are.0 before are.3 (inside-node before are.4.follows.stands.0)
named text (lines.End ∷ before) are inside = absurd cc

in-node-inside : (place : Place) → is_in_node place ≡ true → is_inside place ≡ true
in-node-inside places.InNode e = refl
in-node-inside places.InMembers e = refl
in-node-inside places.Start e = absurd cc
in-node-inside places.Configured e = absurd cc
in-node-inside places.Served e = absurd cc
in-node-inside places.InDomain e = absurd cc
in-node-inside places.InSet e = absurd cc
in-node-inside places.Ended e = absurd cc

pub has-name : (text : List ℕ) (before : List Line) → AreLines text before → HasName before
has-name text before are stands = named text before are (in-node-inside (place_of before) stands)

-- no newline stands in a line
line-printable : (before : List Line) (text : List ℕ) (line : Line) → line_at before text ≡ Ok line → list_all is_printable text ≡ true
unfolding line_at skip_at tell_at
line-printable before text line e = by (is_skipped text) (passed (nat_lt 1000 (length text)) _ _ line e).1
  where
    words : (ws : List (List ℕ)) → tell_at before text ws ≡ Ok line → list_all is_printable text ≡ true
    words [] e = absurd cc e
    words (word ∷ ws) e = (and_parts (list_all is_printable text) (not (list_any (λ w. length w == 0) ws)) (went _ _ _ line (passed (has_long before (keyword_at word) ws) _ _ line e).1).0).0

    by : (b : Bool) → cond b (skip_at before text) (tell_at before text (words_of text)) ≡ Ok line → list_all is_printable text ≡ true
    by true e = (went (list_all is_printable text) _ _ line e).0
    by false e = words (words_of text) e

no-newline : (text : List ℕ) → list_all is_printable text ≡ true → All (λ b. (b == 10) ≡ false) text
no-newline [] e k d lt = absurd (omega (arith, lt))
no-newline (octet ∷ octets) e zero d lt = one octet (and_parts _ _ e).0
  where
    one : (octet : ℕ) → is_printable octet ≡ true → (octet == 10) ≡ false
    one octet e = grind (arith, nat_tests)
no-newline (octet ∷ octets) e (suc k) d lt = no-newline octets (and_parts _ _ e).1 k d (omega (arith, lt))

-- lines that are spelled are read one after another
pub lines-read : (front : List ℕ) (before : List Line) (rest : List ℕ) → AreLines front before → told_at [] (pieces (front ++ rest)) ≡ told_at before (pieces rest)
lines-read front [] rest are = ap (λ f. told_at [] (pieces (f ++ rest))) are
lines-read front (line ∷ before) rest are =
    let read = line-read before are.1 line are.4 in
    ap (λ f. told_at [] (pieces (f ++ rest))) are.2
    ∙ (ap (λ t. told_at [] (pieces t)) (append_assoc are.0 (are.1 ++ 10 ∷ []) rest ∙ ap (λ t. are.0 ++ t) (append_assoc are.1 (10 ∷ []) rest))
    ∙ (lines-read are.0 before (are.1 ++ 10 ∷ rest) are.3
    ∙ (told-line before (are.1 ++ 10 ∷ rest) are.1 rest refl (no-newline are.1 (line-printable before are.1 line read))
    ∙ ap (λ r. numbered (number_of before) r (λ told. told_at (told ∷ before) (pieces rest))) read)))

pub text-read : (text : List ℕ) (told : List Line) → AreLines text told → place_of told ≡ places.Ended → lines_at text ≡ Ok told
unfolding lines_at
text-read text told are ended = ap (λ t. told_at [] (pieces t)) (sym (append-nil text)) ∙ (lines-read text told [] are ∙ cond-true _ _ _ (ap (λ p. is_ended p && true) ended))

-- what is named is found
found-read : (all : List Line) (number : ℕ) (line : Line) → IsFound all line → look_at all number line ≡ Ok tt
unfolding look_at
found-read all number (lines.Brcb block) (inl e) = cond-true _ _ _ (or_left _ _ (eq-eqb (length block.dat_set) 0 (ap length e)))
found-read all number (lines.Brcb block) (inr e) = cond-true _ _ _ (or_right _ _ e)
found-read all number (lines.Member reference) found = cond-true _ _ _ found.0 ∙ cond-true _ _ _ found.1
found-read all number lines.Skip found = refl
found-read all number lines.Config found = refl
found-read all number (lines.Server vendor model revision) found = refl
found-read all number (lines.Ld name) found = refl
found-read all number (lines.Ln node) found = refl
found-read all number (lines.Attr attr) found = refl
found-read all number (lines.Set set) found = refl
found-read all number (lines.Ctl control) found = refl
found-read all number (lines.Sgcb groups) found = refl
found-read all number lines.End found = refl

pub all-found-read : (all before : List Line) → AreFound all before → looked_at all before ≡ Ok tt
all-found-read all [] found = refl
all-found-read all (line ∷ before) found = ap (λ r. r >>= (λ _. look_at all (number_of before) line)) (all-found-read all before found.0) ∙ found-read all (number_of before) line found.1

pub config-read : (text : List ℕ) (config : Config) → SpellsConfig text config → config_at text ≡ Ok config
unfolding config_at
config-read text config is =
    ap (λ r. r >>= (λ told. looked_at told told >>= (λ _. Ok (config_of told)))) (text-read text is.told is.are is.ended)
    ∙ (ap (λ r. r >>= (λ _. Ok (config_of is.told))) (all-found-read is.told is.told is.found)
    ∙ ap (λ c. Ok c) (sym is.makes))

-- what is read is spelled
ok-then : {A B : Type 0} (r : Result A CfgFault) (f : A → Result B CfgFault) (y : B) → (r >>= f) ≡ Ok y → (x : A) × (r ≡ Ok x) × (f x ≡ Ok y)
ok-then (Ok x) f y e = (x, refl, e)
ok-then (Err fault) f y e = absurd cc

abbrev ok_of : {A : Type 0} → A → Result A CfgFault
ok_of x = Ok x

ok_is : {A : Type 0} (x y : A) → ok_of x ≡ ok_of y → x ≡ y
ok_is x y e = cc

numbered-told : (number : ℕ) (read : Result Line Kind) (go : Line → Result (List Line) CfgFault) (told : List Line) → numbered number read go ≡ Ok told → (line : Line) × (read ≡ Ok line) × (go line ≡ Ok told)
numbered-told number (Ok line) go told e = (line, refl, e)
numbered-told number (Err kind) go told e = absurd cc

pub ended-place : (place : Place) → is_ended place ≡ true → place ≡ places.Ended
ended-place places.Ended e = refl
ended-place places.Start e = absurd cc
ended-place places.Configured e = absurd cc
ended-place places.Served e = absurd cc
ended-place places.InDomain e = absurd cc
ended-place places.InNode e = absurd cc
ended-place places.InSet e = absurd cc
ended-place places.InMembers e = absurd cc

pub empty-is : (rest : List ℕ) → (length rest == 0) ≡ true → rest ≡ []
empty-is [] e = refl
empty-is (octet ∷ octets) e = absurd (omega (arith, eqb-true (length (octet ∷ octets)) 0 e))

abbrev Whole : List ℕ → List Line → Type 0
Whole text told = AreLines text told × (place_of told ≡ places.Ended)

ended-told : (front rest : List ℕ) (before told : List Line) → AreLines front before → ended_at before rest ≡ Ok told → Whole (front ++ rest) told
ended-told front rest before told are e = by (is_ended (place_of before) && (length rest == 0)) refl e
  where
    by : (b : Bool) → (is_ended (place_of before) && (length rest == 0)) ≡ b → cond b (Ok before) (Err (faults.Refused (number_of before) kinds.Order)) ≡ Ok told → Whole (front ++ rest) told
    by true is e =
        let both = and_parts (is_ended (place_of before)) (length rest == 0) is in
        let text : front ≡ front ++ rest = sym (append-nil front) ∙ ap (λ r. front ++ r) (sym (empty-is rest both.1)) in
        subst (λ ls. Whole (front ++ rest) ls) (ok_is before told e) (subst (λ t. AreLines t before) text are, ended-place (place_of before) both.0)
    by false is e = absurd cc

pub lines-told : (front : List ℕ) (before : List Line) (ps : List (List ℕ)) (told : List Line) → AreLines front before → told_at before ps ≡ Ok told → Whole (front ++ join_with_byte 10 ps) told
lines-told front before [] told are e = ended-told front [] before told are e
lines-told front before (rest ∷ []) told are e = ended-told front rest before told are e
lines-told front before (text ∷ next ∷ more) told are e =
    let step = numbered-told (number_of before) (line_at before text) _ told e in
    let is = line-told before text step.0 (has-name front before are) step.1 in
    let longer = front ++ (text ++ 10 ∷ []) in
    subst (λ t. Whole t told) (append_assoc front (text ++ 10 ∷ []) (join_with_byte 10 (next ∷ more)) ∙ ap (λ t. front ++ t) (append_assoc text (10 ∷ []) (join_with_byte 10 (next ∷ more))))
    (lines-told longer (step.0 ∷ before) (next ∷ more) told (front, text, refl, are, is) step.2)

abbrev there_is : Result (Unit {0}) CfgFault
there_is = Ok tt

found-told : (all : List Line) (number : ℕ) (line : Line) → look_at all number line ≡ Ok tt → IsFound all line
unfolding look_at
found-told all number (lines.Brcb block) e = by ((length block.dat_set == 0) || is_among (sets all) block.dat_set) refl e
  where
    by : (b : Bool) → ((length block.dat_set == 0) || is_among (sets all) block.dat_set) ≡ b → cond b there_is (Err (faults.Refused number kinds.Unknown)) ≡ there_is → IsFound all (lines.Brcb block)
    by true is e = elim (or_cases (length block.dat_set == 0) (is_among (sets all) block.dat_set) is) [
      | inl none ↦ inl (empty-is block.dat_set none)
      | inr there ↦ inr there
    ]
    by false is e = absurd cc
found-told all number (lines.Member reference) e = by (is_node all reference) refl e
  where
    member : (b : Bool) → is_member_node all reference ≡ b → cond b there_is (Err (faults.Refused number kinds.Member)) ≡ there_is → is_member_node all reference ≡ true
    member true is e = is
    member false is e = absurd cc

    by : (b : Bool) → is_node all reference ≡ b → cond b (cond (is_member_node all reference) there_is (Err (faults.Refused number kinds.Member))) (Err (faults.Refused number kinds.Unknown)) ≡ there_is → IsFound all (lines.Member reference)
    by true is e = (is, member (is_member_node all reference) refl e)
    by false is e = absurd cc
found-told all number lines.Skip e = tt
found-told all number lines.Config e = tt
found-told all number (lines.Server vendor model revision) e = tt
found-told all number (lines.Ld name) e = tt
found-told all number (lines.Ln node) e = tt
found-told all number (lines.Attr attr) e = tt
found-told all number (lines.Set set) e = tt
found-told all number (lines.Ctl control) e = tt
found-told all number (lines.Sgcb groups) e = tt
found-told all number lines.End e = tt

pub all-found-told : (all before : List Line) → looked_at all before ≡ Ok tt → AreFound all before
all-found-told all [] e = tt
all-found-told all (line ∷ before) e = let step = ok-then (looked_at all before) _ tt e in (all-found-told all before step.1, found-told all (number_of before) line step.2)

pub config-told : (text : List ℕ) (config : Config) → config_at text ≡ Ok config → SpellsConfig text config
unfolding config_at lines_at
config-told text config e =
    let lines = ok-then (told_at [] (pieces text)) _ config e in
    let found = ok-then (looked_at lines.0 lines.0) _ config lines.2 in
    let whole = subst (λ t. Whole t lines.0) (join_with_byte-slice_split 10 text) (lines-told [] [] (pieces text) lines.0 refl lines.1) in
    record { told = lines.0; are = whole.0; ended = whole.1; found = all-found-told lines.0 lines.0 found.1; makes = sym (ok_is (config_of lines.0) config found.2) }
