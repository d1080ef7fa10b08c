-- The first line of a text that is refused, and its kind, are those of the format.
use Rattle.std.proofs.Common.{◌≡◌, ℕ, zero, suc, ◌⊎◌, ◌↔◌, inl, inr, Bool, true, false, cond, ◌&&◌, ◌||◌, List, [], ◌∷◌, ◌++◌, length, ◌==◌, append_assoc, refl, sym, ap, subst, ◌∙◌, arith, true≢false}
use Rattle.std.specs.Prelude.{Result, Ok, Err}
use Rattle.std.specs.List.{join_with_byte, onto_first}
use Rattle.std.proofs.lemmas.Bool.{and_parts, and_from, or_parts, or_from, cond-true, cond-false, eq-eqb, false_from_ne_true}
use Rattle.std.proofs.lemmas.List.Splits.{join_with_byte-slice_split}
use Rattle.sv_base.specs.declared.config.Config.{Config}
use Rattle.cfg_parser.specs.declared.fault.Kind.{Kind}
use Rattle.cfg_parser.specs.declared.fault.Kind.TheVariants as kinds
use Rattle.cfg_parser.specs.declared.fault.CfgFault.{CfgFault}
use Rattle.cfg_parser.specs.declared.fault.CfgFault.TheVariants as faults
use Rattle.cfg_parser.specs.Kinds.{number_of}
use Rattle.cfg_parser.specs.Judging.{line_at}
use Rattle.cfg_parser.specs.Text.{pieces, numbered, is_ended, ended_at, told_at, lines_at}
use Rattle.cfg_parser.specs.Looking.{look_at, looked_at, config_at, ◌>>=◌}
use Rattle.cfg_parser.proofs.TextLaws.{told-line, told-rest}
use Rattle.cfg_lines.specs.Keys.{is_among}
use Rattle.cfg_lines.specs.Before.{number_of as number_behind, place_of}
use Rattle.cfg_lines.specs.Claims.{sets}
use Rattle.cfg_lines.specs.Nodes.{is_node, is_member_node}
use Rattle.cfg_lines.specs.Configs.{config_of}
use Rattle.cfg_lines.specs.declared.line.Line.{Line}
use Rattle.cfg_lines.specs.declared.line.Line.TheVariants as lines
use Rattle.cfg_lines.specs.declared.line.Place.TheVariants as places
use Rattle.cfg_grammar.specs.Follows.{IsLine}
use Rattle.cfg_grammar.specs.Texts.{AreLines, AreFound, SpellsConfig}
use Rattle.cfg_text.proofs.SpelledLineLaws.{line-read}
use Rattle.cfg_text.proofs.ReadLineLaws.{line-told}
use Rattle.cfg_text.proofs.WholeLaws.{config-read, config-told, has-name, lines-read, text-read, all-found-read, empty-is, ended-place, lines-told, all-found-told}
use Rattle.cfg_laws.specs.Lines.{IsRefusedLine}
use Rattle.cfg_laws.specs.Texts.{HasNoNewline, HasRefused, EndsEarly, IsLost, NamesLost, IsRefused}
use Rattle.cfg_laws.proofs.NameLaws.{none-is, among-is, node-is, member-is}
use Rattle.cfg_laws.proofs.StepLaws.{same-kind}
use Rattle.cfg_laws.proofs.LineLaws.{line-refused}
use Rattle.cfg_parser.proofs.LookLaws.{more-refused}

abbrev refused : (A : Type 0) → ℕ → Kind → Result A CfgFault
refused A line kind = Err (faults.Refused line kind)

refused-is : {A : Type 0} (line number : ℕ) (kind cause : Kind) → refused A number cause ≡ refused A line kind → (line ≡ number) × (number_of kind ≡ number_of cause)
refused-is line number kind cause e = (cc, cc)

is-refused : (A : Type 0) (line number : ℕ) (kind cause : Kind) → line ≡ number → number_of kind ≡ number_of cause → refused A number cause ≡ refused A line kind
is-refused A line number kind cause same is = ap (λ l. refused A l cause) (sym same) ∙ ap (refused A line) (sym (same-kind kind cause is))

ok-refused : {A Q : Type 0} (x : A) (line : ℕ) (kind : Kind) → Ok x ≡ refused A line kind → Q
ok-refused x line kind e = absurd cc e

-- what stands between newlines has none
abbrev HaveNone : List (List ℕ) → Type 0
HaveNone [] = Unit {0}
HaveNone (piece ∷ more) = HasNoNewline piece × HaveNone more

none-in : HasNoNewline []
none-in k d lt = absurd (omega (arith, lt))

none-more : (octet : ℕ) (octets : List ℕ) → (octet == 10) ≡ false → HasNoNewline octets → HasNoNewline (octet ∷ octets)
none-more octet octets e none zero d lt = e
none-more octet octets e none (suc k) d lt = none k d (omega (arith, lt))

pieces-none : (text : List ℕ) → HaveNone (pieces text)
pieces-none [] = (none-in, tt)
pieces-none (octet ∷ octets) = by (octet == 10) refl (pieces-none octets)
  where
    onto : (ps : List (List ℕ)) → (octet == 10) ≡ false → HaveNone ps → HaveNone (onto_first octet ps)
    onto [] e none = (none-more octet [] e none-in, tt)
    onto (p ∷ ps) e none = (none-more octet p e none.0, none.1)

    by : (b : Bool) → (octet == 10) ≡ b → HaveNone (pieces octets) → HaveNone (cond b ([] ∷ pieces octets) (onto_first octet (pieces octets)))
    by true e none = (none-in, none)
    by false e none = onto (pieces octets) e none

-- lines
abbrev Stops : List ℕ → ℕ → ℕ → Type 0
Stops text line kind = HasRefused text line kind ⊎ EndsEarly text line kind

abbrev IsWhole : List Line → List ℕ → Type 0
IsWhole before rest = (place_of before ≡ places.Ended) × (rest ≡ [])

whole-ended : (before : List Line) (rest : List ℕ) → IsWhole before rest → (is_ended (place_of before) && (length rest == 0)) ≡ true
whole-ended before rest is = and_from _ _ (ap is_ended is.0) (eq-eqb (length rest) 0 (ap length is.1))

ended-whole : (before : List Line) (rest : List ℕ) → (IsWhole before rest → ⊥) → (is_ended (place_of before) && (length rest == 0)) ≡ false
ended-whole before rest early = false_from_ne_true (is_ended (place_of before) && (length rest == 0)) (λ e. let both = and_parts (is_ended (place_of before)) (length rest == 0) e in early (ended-place (place_of before) both.0, empty-is rest both.1))

ended-stops : (front rest : List ℕ) (before : List Line) (line : ℕ) (kind : Kind) → AreLines front before → HasNoNewline rest → ended_at before rest ≡ refused (List Line) line kind → Stops (front ++ rest) line (number_of kind)
ended-stops front rest before line kind are none e = by (is_ended (place_of before) && (length rest == 0)) refl e
  where
    by : (b : Bool) → (is_ended (place_of before) && (length rest == 0)) ≡ b → cond b (Ok before) (Err (faults.Refused (number_behind before) kinds.Order)) ≡ refused (List Line) line kind → Stops (front ++ rest) line (number_of kind)
    by true is e = ok-refused before line kind e
    by false is e =
        let at = refused-is line (number_behind before) kind kinds.Order e in
        inr (record { front = front; rest = rest; before = before; text_ = refl; none = none; are = are; early = λ whole. true≢false (sym (whole-ended before rest whole) ∙ is); number = at.0; cause = at.1 })

lines-stop : (front : List ℕ) (before : List Line) (ps : List (List ℕ)) (line : ℕ) (kind : Kind) → AreLines front before → HaveNone ps → told_at before ps ≡ refused (List Line) line kind → Stops (front ++ join_with_byte 10 ps) line (number_of kind)
lines-stop front before [] line kind are none e = ended-stops front [] before line kind are none-in e
lines-stop front before (rest ∷ []) line kind are none e = ended-stops front rest before line kind are none.0 e
lines-stop front before (text ∷ next ∷ more) line kind are none e = by (line_at before text) refl e (λ told is next-stops.
    further (lines-stop (front ++ (text ++ 10 ∷ [])) (told ∷ before) (next ∷ more) line kind (front, text, refl, are, line-told before text told (has-name front before are) is) none.1 next-stops))
  where
    further : Stops ((front ++ (text ++ 10 ∷ [])) ++ join_with_byte 10 (next ∷ more)) line (number_of kind) → Stops (front ++ (text ++ 10 ∷ join_with_byte 10 (next ∷ more))) line (number_of kind)
    further s = subst (λ t. Stops t line (number_of kind)) (append_assoc front (text ++ 10 ∷ []) (join_with_byte 10 (next ∷ more)) ∙ ap (λ t. front ++ t) (append_assoc text (10 ∷ []) (join_with_byte 10 (next ∷ more)))) s

    by : (r : Result Line Kind) → line_at before text ≡ r → numbered (number_behind before) r (λ told. told_at (told ∷ before) (next ∷ more)) ≡ refused (List Line) line kind
        → ((told : Line) → line_at before text ≡ Ok told → told_at (told ∷ before) (next ∷ more) ≡ refused (List Line) line kind → Stops (front ++ (text ++ 10 ∷ join_with_byte 10 (next ∷ more))) line (number_of kind))
        → Stops (front ++ (text ++ 10 ∷ join_with_byte 10 (next ∷ more))) line (number_of kind)
    by (Ok told) is e go = go told is e
    by (Err cause) is e go =
        let at = refused-is line (number_behind before) kind cause e in
        inl (record {
          front = front;
          last = text;
          rest = join_with_byte 10 (next ∷ more);
          before = before;
          text_ = refl;
          one = none.0;
          are = are;
          number = at.0;
          cause = subst (IsRefusedLine before text) (sym at.1) ((line-refused before text cause).0 is);
        })

stops-read : (text : List ℕ) (line : ℕ) (kind : Kind) → Stops text line (number_of kind) → lines_at text ≡ refused (List Line) line kind
unfolding lines_at
stops-read text line kind (inl s) =
    ap (λ t. told_at [] (pieces t)) s.text_
    ∙ (lines-read s.front s.before (s.last ++ 10 ∷ s.rest) s.are
    ∙ (told-line s.before (s.last ++ 10 ∷ s.rest) s.last s.rest refl s.one
    ∙ (ap (λ r. numbered (number_behind s.before) r (λ told. told_at (told ∷ s.before) (pieces s.rest))) ((line-refused s.before s.last kind).1 s.cause)
    ∙ ap (λ l. refused (List Line) l kind) (sym s.number))))
stops-read text line kind (inr s) =
    ap (λ t. told_at [] (pieces t)) s.text_
    ∙ (lines-read s.front s.before s.rest s.are
    ∙ (told-rest s.before s.rest s.none
    ∙ (cond-false _ _ _ (ended-whole s.before s.rest s.early)
    ∙ is-refused (List Line) line (number_behind s.before) kind kinds.Order s.number s.cause)))

read-stops : (text : List ℕ) (line : ℕ) (kind : Kind) → lines_at text ≡ refused (List Line) line kind → Stops text line (number_of kind)
unfolding lines_at
read-stops text line kind e = subst (λ t. Stops t line (number_of kind)) (join_with_byte-slice_split 10 text) (lines-stop [] [] (pieces text) line kind refl (pieces-none text) e)

-- what is named
abbrev found_it : Result (Unit {0}) CfgFault
found_it = Ok tt

lost : (all : List Line) (number : ℕ) (one : Line) (line : ℕ) (kind : Kind) → look_at all number one ≡ refused (Unit {0}) line kind → (line ≡ number) × IsLost all one (number_of kind)
unfolding look_at
lost all number (lines.Brcb block) line kind e = by ((length block.dat_set == 0) || is_among (sets all) block.dat_set) refl e
  where
    by : (b : Bool) → ((length block.dat_set == 0) || is_among (sets all) block.dat_set) ≡ b → cond b found_it (Err (faults.Refused number kinds.Unknown)) ≡ refused (Unit {0}) line kind → (line ≡ number) × IsLost all (lines.Brcb block) (number_of kind)
    by true is e = ok-refused tt line kind e
    by false is e =
        let at = refused-is line number kind kinds.Unknown e in
        let both = or_parts (length block.dat_set == 0) (is_among (sets all) block.dat_set) is in
        (at.0, (λ none. true≢false (sym (eq-eqb (length block.dat_set) 0 (ap length none)) ∙ both.0), (none-is (is_among (sets all) block.dat_set) _ (among-is (sets all) block.dat_set)).0 both.1, at.1))
lost all number (lines.Member reference) line kind e = by (is_node all reference) (is_member_node all reference) refl refl e
  where
    by : (a b : Bool) → is_node all reference ≡ a → is_member_node all reference ≡ b → cond a (cond b found_it (Err (faults.Refused number kinds.Member))) (Err (faults.Refused number kinds.Unknown)) ≡ refused (Unit {0}) line kind → (line ≡ number) × IsLost all (lines.Member reference) (number_of kind)
    by true true there may e = ok-refused tt line kind e
    by true false there may e = let at = refused-is line number kind kinds.Member e in (at.0, inr ((node-is all reference).0 there, (none-is (is_member_node all reference) _ (member-is all reference)).0 may, at.1))
    by false b there may e = let at = refused-is line number kind kinds.Unknown e in (at.0, inl ((none-is (is_node all reference) _ (node-is all reference)).0 there, at.1))
lost all number lines.Skip line kind e = ok-refused tt line kind e
lost all number lines.Config line kind e = ok-refused tt line kind e
lost all number (lines.Server vendor model revision) line kind e = ok-refused tt line kind e
lost all number (lines.Ld name) line kind e = ok-refused tt line kind e
lost all number (lines.Ln node) line kind e = ok-refused tt line kind e
lost all number (lines.Attr attr) line kind e = ok-refused tt line kind e
lost all number (lines.Set set) line kind e = ok-refused tt line kind e
lost all number (lines.Ctl control) line kind e = ok-refused tt line kind e
lost all number (lines.Sgcb groups) line kind e = ok-refused tt line kind e
lost all number lines.End line kind e = ok-refused tt line kind e

is-lost : (all : List Line) (number : ℕ) (one : Line) (line : ℕ) (kind : Kind) → line ≡ number → IsLost all one (number_of kind) → look_at all number one ≡ refused (Unit {0}) line kind
unfolding look_at
is-lost all number (lines.Brcb block) line kind at is =
    cond-false _ _ _ (or_from _ _ (false_from_ne_true (length block.dat_set == 0) (λ e. is.0 (empty-is block.dat_set e))) ((none-is (is_among (sets all) block.dat_set) _ (among-is (sets all) block.dat_set)).1 is.1)) ∙ is-refused (Unit {0}) line number kind kinds.Unknown at is.2
is-lost all number (lines.Member reference) line kind at (inl is) = cond-false _ _ _ ((none-is (is_node all reference) _ (node-is all reference)).1 is.0) ∙ is-refused (Unit {0}) line number kind kinds.Unknown at is.1
is-lost all number (lines.Member reference) line kind at (inr is) = cond-true _ _ _ ((node-is all reference).1 is.0) ∙ (cond-false _ _ _ ((none-is (is_member_node all reference) _ (member-is all reference)).1 is.1) ∙ is-refused (Unit {0}) line number kind kinds.Member at is.2)
is-lost all number lines.Skip line kind at is = absurd is
is-lost all number lines.Config line kind at is = absurd is
is-lost all number (lines.Server vendor model revision) line kind at is = absurd is
is-lost all number (lines.Ld name) line kind at is = absurd is
is-lost all number (lines.Ln node) line kind at is = absurd is
is-lost all number (lines.Attr attr) line kind at is = absurd is
is-lost all number (lines.Set set) line kind at is = absurd is
is-lost all number (lines.Ctl control) line kind at is = absurd is
is-lost all number (lines.Sgcb groups) line kind at is = absurd is
is-lost all number lines.End line kind at is = absurd is

-- lines among all, of which one is the first that names what isn't there
record Lost (all among : List Line) (line kind : ℕ) : Type 0 where
  later : List Line
  one : Line
  before : List Line
  split : among ≡ later ++ one ∷ before
  found : AreFound all before
  number : line ≡ number_behind before
  cause : IsLost all one kind

looked-lost : (all among : List Line) (line : ℕ) (kind : Kind) → looked_at all among ≡ refused (Unit {0}) line kind → Lost all among line (number_of kind)
looked-lost all [] line kind e = ok-refused tt line kind e
looked-lost all (one ∷ before) line kind e = by (looked_at all before) refl e (λ is. looked-lost all before line kind is)
  where
    by : (r : Result (Unit {0}) CfgFault) → looked_at all before ≡ r → (r >>= (λ u. look_at all (number_behind before) one)) ≡ refused (Unit {0}) line kind
        → (looked_at all before ≡ refused (Unit {0}) line kind → Lost all before line (number_of kind)) → Lost all (one ∷ before) line (number_of kind)
    by (Ok tt) is e go =
        let at = lost all (number_behind before) one line kind e in
        record { later = []; one = one; before = before; split = refl; found = all-found-told all before is; number = at.0; cause = at.1 }
    by (Err fault) is e go =
        let same : Err fault ≡ refused (Unit {0}) line kind = e in
        let l = go (is ∙ same) in
        record { later = one ∷ l.later; one = l.one; before = l.before; split = ap (λ (ls : List Line). one ∷ ls) l.split; found = l.found; number = l.number; cause = l.cause }

lost-looked : (all among : List Line) (line : ℕ) (kind : Kind) → Lost all among line (number_of kind) → looked_at all among ≡ refused (Unit {0}) line kind
lost-looked all among line kind l =
    ap (looked_at all) l.split
    ∙ more-refused all l.later (l.one ∷ l.before) (faults.Refused line kind)
    (ap (λ r. r >>= λ found. look_at all (number_behind l.before) l.one) (all-found-read all l.before l.found) ∙ is-lost all (number_behind l.before) l.one line kind l.number l.cause)

-- the whole
names-lost : (text : List ℕ) (told : List Line) (line kind : ℕ) → AreLines text told → place_of told ≡ places.Ended → Lost told told line kind → NamesLost text line kind
names-lost text told line kind are ended l = record { told = told; are = are; ended = ended; later = l.later; one = l.one; before = l.before; split = l.split; found = l.found; number = l.number; cause = l.cause }

lines-whole : (text : List ℕ) (told : List Line) → lines_at text ≡ Ok told → AreLines text told × (place_of told ≡ places.Ended)
unfolding lines_at
lines-whole text told e = subst (λ t. AreLines t told × (place_of told ≡ places.Ended)) (join_with_byte-slice_split 10 text) (lines-told [] [] (pieces text) told refl e)

looked-then : (text : List ℕ) (told : List Line) (line : ℕ) (kind : Kind) (r : Result (Unit {0}) CfgFault) → looked_at told told ≡ r → (r >>= (λ found. Ok (config_of told))) ≡ refused Config line kind → looked_at told told ≡ refused (Unit {0}) line kind
looked-then text told line kind (Ok x) is e = ok-refused (config_of told) line kind e
looked-then text told line kind (Err fault) is e = let same : fault ≡ faults.Refused line kind = cc in is ∙ ap (λ f. Err f) same

pub config-refused : (text : List ℕ) (line : ℕ) (kind : Kind) → (config_at text ≡ refused Config line kind) ↔ IsRefused text line (number_of kind)
unfolding config_at
config-refused text line kind = (λ e. there (lines_at text) refl e, back)
  where
    stopped : Stops text line (number_of kind) → IsRefused text line (number_of kind)
    stopped (inl s) = inl s
    stopped (inr s) = inr (inl s)

    there : (r : Result (List Line) CfgFault) → lines_at text ≡ r → (r >>= λ told. looked_at told told >>= λ found. Ok (config_of told)) ≡ refused Config line kind → IsRefused text line (number_of kind)
    there (Ok told) is e =
        let whole = lines-whole text told is in
        inr (inr (names-lost text told line (number_of kind) whole.0 whole.1 (looked-lost told told line kind (looked-then text told line kind (looked_at told told) refl e))))
    there (Err fault) is e = let same : fault ≡ faults.Refused line kind = cc in stopped (read-stops text line kind (is ∙ ap (λ f. Err f) same))

    unread : Stops text line (number_of kind) → (lines_at text >>= λ told. looked_at told told >>= λ found. Ok (config_of told)) ≡ refused Config line kind
    unread s = ap (λ r. r >>= λ told. looked_at told told >>= λ found. Ok (config_of told)) (stops-read text line kind s)

    back : IsRefused text line (number_of kind) → (lines_at text >>= λ told. looked_at told told >>= λ found. Ok (config_of told)) ≡ refused Config line kind
    back (inl s) = unread (inl s)
    back (inr (inl s)) = unread (inr s)
    back (inr (inr n)) =
        let l : Lost n.told n.told line (number_of kind) = record { later = n.later; one = n.one; before = n.before; split = n.split; found = n.found; number = n.number; cause = n.cause } in
        ap (λ r. r >>= λ told. looked_at told told >>= λ found. Ok (config_of told)) (text-read text n.told n.are n.ended)
        ∙ ap (λ r. r >>= λ found. Ok (config_of n.told)) (lost-looked n.told n.told line kind l)

pub once : (text : List ℕ) (line other : ℕ) (kind cause : Kind) → IsRefused text line (number_of kind) → IsRefused text other (number_of cause) → (line ≡ other) × (kind ≡ cause)
once text line other kind cause a b =
    let same : refused Config line kind ≡ refused Config other cause = sym ((config-refused text line kind).1 a) ∙ (config-refused text other cause).1 b in
    (cc, cc)

pub not-both : (text : List ℕ) (config : Config) (line : ℕ) (kind : Kind) → SpellsConfig text config → IsRefused text line (number_of kind) → ⊥
not-both text config line kind spells is = ok-refused config line kind (sym (config-read text config spells) ∙ (config-refused text line kind).1 is)

-- nothing but a line is a reason
abbrev IsSomeLine : {A : Type 0} → Result A CfgFault → Type 0
IsSomeLine (Ok x) = Unit {0}
IsSomeLine (Err (faults.Refused line kind)) = Unit {0}
IsSomeLine (Err faults.Memory) = ⊥

ended-some : (before : List Line) (rest : List ℕ) → IsSomeLine (ended_at before rest)
ended-some before rest = by (is_ended (place_of before) && (length rest == 0))
  where
    by : (b : Bool) → IsSomeLine (cond b (Ok before) (Err (faults.Refused (number_behind before) kinds.Order)))
    by true = tt
    by false = tt

told-some : (before : List Line) (ps : List (List ℕ)) → IsSomeLine (told_at before ps)
told-some before [] = ended-some before []
told-some before (rest ∷ []) = ended-some before rest
told-some before (text ∷ next ∷ more) = by (line_at before text) (λ line. told-some (line ∷ before) (next ∷ more))
  where
    by : (r : Result Line Kind) → ((line : Line) → IsSomeLine (told_at (line ∷ before) (next ∷ more))) → IsSomeLine (numbered (number_behind before) r (λ line. told_at (line ∷ before) (next ∷ more)))
    by (Ok line) go = go line
    by (Err kind) go = tt

look-some : (all : List Line) (number : ℕ) (line : Line) → IsSomeLine (look_at all number line)
unfolding look_at
look-some all number (lines.Brcb block) = by ((length block.dat_set == 0) || is_among (sets all) block.dat_set)
  where
    by : (b : Bool) → IsSomeLine (cond b found_it (Err (faults.Refused number kinds.Unknown)))
    by true = tt
    by false = tt
look-some all number (lines.Member reference) = by (is_node all reference) (is_member_node all reference)
  where
    by : (a b : Bool) → IsSomeLine (cond a (cond b found_it (Err (faults.Refused number kinds.Member))) (Err (faults.Refused number kinds.Unknown)))
    by true true = tt
    by true false = tt
    by false b = tt
look-some all number lines.Skip = tt
look-some all number lines.Config = tt
look-some all number (lines.Server vendor model revision) = tt
look-some all number (lines.Ld name) = tt
look-some all number (lines.Ln node) = tt
look-some all number (lines.Attr attr) = tt
look-some all number (lines.Set set) = tt
look-some all number (lines.Ctl control) = tt
look-some all number (lines.Sgcb groups) = tt
look-some all number lines.End = tt

then-some : {A B : Type 0} (r : Result A CfgFault) (f : A → Result B CfgFault) → IsSomeLine r → ((x : A) → IsSomeLine (f x)) → IsSomeLine (r >>= f)
then-some (Ok x) f some go = go x
then-some (Err (faults.Refused line kind)) f some go = tt
then-some (Err faults.Memory) f some go = absurd some

looked-some : (all among : List Line) → IsSomeLine (looked_at all among)
looked-some all [] = tt
looked-some all (line ∷ before) = then-some (looked_at all before) (λ u. look_at all (number_behind before) line) (looked-some all before) (λ u. look-some all (number_behind before) line)

config-some : (text : List ℕ) → IsSomeLine (config_at text)
unfolding config_at lines_at
config-some text = then-some (lines_at text) _ (told-some [] (pieces text)) (λ told. then-some (looked_at told told) (λ found. Ok (config_of told)) (looked-some told told) (λ found. tt))

pub either : (text : List ℕ) → ((config : Config) × SpellsConfig text config) ⊎ ((line : ℕ) × (kind : Kind) × IsRefused text line (number_of kind))
either text = by (config_at text) refl (config-some text)
  where
    by : (r : Result Config CfgFault) → config_at text ≡ r → IsSomeLine r → ((config : Config) × SpellsConfig text config) ⊎ ((line : ℕ) × (kind : Kind) × IsRefused text line (number_of kind))
    by (Ok config) is some = inl (config, config-told text config is)
    by (Err (faults.Refused line kind)) is some = inr (line, kind, (config-refused text line kind).0 is)
    by (Err faults.Memory) is some = absurd some

-- one line more
abbrev LineOr : List Line → List ℕ → Type 0
LineOr before text = ((line : Line) × IsLine before text line) ⊎ ((kind : Kind) × IsRefusedLine before text (number_of kind))

pub line-or : (front : List ℕ) (before : List Line) (text : List ℕ) → AreLines front before → LineOr before text
line-or front before text are = by (line_at before text) refl
  where
    by : (r : Result Line Kind) → line_at before text ≡ r → LineOr before text
    by (Ok line) is = inl (line, line-told before text line (has-name front before are) is)
    by (Err kind) is = inr (kind, (line-refused before text kind).0 is)

pub line-not-both : (before : List Line) (text : List ℕ) (line : Line) (kind : Kind) → IsLine before text line → IsRefusedLine before text (number_of kind) → ⊥
line-not-both before text line kind is other = absurd cc (sym (line-read before text line is) ∙ (line-refused before text kind).1 other)

abbrev MayBe : ℕ → Type 0
MayBe kind = (kind ≡ 10) ⊎ ((kind ≡ 1) ⊎ ((kind ≡ 2) ⊎ (kind ≡ 11)))

full-kind : (before : List Line) (text : List ℕ) (kind : ℕ) → length before ≡ 20000 → IsRefusedLine before text kind → MayBe kind
full-kind before text kind full (inl x) = inl x.1
full-kind before text kind full (inr (never, inl x)) = inr (inl x.1)
full-kind before text kind full (inr (never, inr (form, is, inl x))) = inr (inr (inl x.1))
full-kind before text kind full (inr (never, inr (form, is, inr (stands, inl x)))) = inr (inr (inr x.1))
full-kind before text kind full (inr (never, inr (form, is, inr (stands, inr (room, wrong))))) = absurd (omega (arith, full, room.0))

pub one-line-more : (front last rest : List ℕ) (before : List Line) → AreLines front before → length before ≡ 20000 → HasNoNewline last → (kind : ℕ) × IsRefused (front ++ (last ++ 10 ∷ rest)) 20001 kind × MayBe kind
one-line-more front last rest before are full one = by (line-or front before last are)
  where
    by : LineOr before last → (kind : ℕ) × IsRefused (front ++ (last ++ 10 ∷ rest)) 20001 kind × MayBe kind
    by (inl line) = absurd (omega (arith, full, line.1.room))
    by (inr x) = (number_of x.0, inl (record { front = front; last = last; rest = rest; before = before; text_ = refl; one = one; are = are; number = omega (arith, full); cause = x.1 }), full-kind before last (number_of x.0) full x.1)

pub octets-more : (front rest : List ℕ) (before : List Line) → AreLines front before → length before ≡ 20000 → HasNoNewline rest → (rest ≡ [] → ⊥) → IsRefused (front ++ rest) 20001 2
octets-more front rest before are full none some = inr (inl (record { front = front; rest = rest; before = before; text_ = refl; none = none; are = are; early = λ whole. some whole.1; number = omega (arith, full); cause = refl }))
