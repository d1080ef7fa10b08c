-- A line that is spelled, and may stand there, is read.
use Rattle.std.proofs.Common.{◌≡◌, ℕ, zero, suc, ◌<◌, ◌≤◌, Bool, true, false, List, [], ◌∷◌, length, nat_lt, ◌==◌, refl, ap, ◌∙◌, arith, ◌+◌, ◌^◌, ◌⊎◌, inl, inr, cond, length-append, nat_le, sym, subst}
use Rattle.std.specs.Prelude.{Some, Result, Option, Ok, codes, if◌then◌else◌, unwrap_or}
use Rattle.std.specs.List.{list_any, join_with_byte}
use Rattle.std.proofs.lemmas.Bool.{and_from, cond-true, cond-false, or_from, not_from_false, and_right, le-ltb, lt-ltb, lt-leb, eq-eqb}
use Rattle.std.proofs.lemmas.Bool.Decides.{nat_tests}
use Rattle.cfg_parser.specs.declared.fault.Kind.{Kind}
use Rattle.cfg_lines.specs.declared.line.Line.{Line}
use Rattle.cfg_parser.specs.declared.keyword.Keyword.{Keyword}
use Rattle.text_words.specs.Words.{words_of}
use Rattle.cfg_parser.specs.Keywords.{keyword_at}
use Rattle.text_words.specs.Octets.{is_skipped, IsSkipped}
use Rattle.cfg_parser.specs.Judging.{has_long, counts, may_stand, is_full, has_many, content_at, keyed_at, known_at, tell_at, line_at, is_long_item, control_octets, attribute_counts, has_groups, is_in_node, is_open, is_in_domain, is_in_set, is_start, is_configured, skip_at}
use Rattle.std.specs.Fmt.{digits, decimal}
use Rattle.std.specs.Str.{bytes_eq}
use Rattle.std.proofs.lemmas.Slice.Eq.{bytes_eq-Decides}
use Rattle.sv_base.proofs.RowLaws.{row-values}
use Rattle.sv_base.specs.Same.{values_of}
use Rattle.sv_base.specs.declared.types.TypeOf.{TypeOf}
use Rattle.sv_base.specs.declared.types.TypeOf.TheVariants as types
use Rattle.sv_base.specs.declared.config.LnDef.{LnDef}
use Rattle.sv_base.specs.declared.config.AttrDef.{AttrDef}
use Rattle.sv_base.specs.declared.config.SetDef.{SetDef}
use Rattle.sv_base.specs.declared.config.BlockDef.{BlockDef}
use Rattle.sv_base.specs.declared.config.CtlDef.{CtlDef}
use Rattle.sv_base.specs.declared.config.SgDef.{SgDef}
use Rattle.cfg_lines.specs.declared.line.Line.TheVariants as lines
use Rattle.cfg_parser.specs.declared.keyword.Keyword.TheVariants as keywords
use Rattle.text_words.specs.Types.{type_at}
use Rattle.cfg_parser.specs.Reader.{◌>>=◌, given}
use Rattle.text_words.specs.Numbers.{number_within}
use Rattle.cfg_lines.specs.Paths.{below, is_taken}
use Rattle.cfg_lines.specs.Before.{number_of, place_of, domain_of, node_of, groups_of}
use Rattle.cfg_lines.specs.Claims.{control_keys, claims}
use Rattle.cfg_parser.specs.Contents.{domain_at, node_at, set_at, typed_at, attribute_at, block_texts_at, block_options_at, block_triggers_at, block_fields_at, block_at, control_type_at, control_fields_at, control_at, group_fields_at, groups_at}
use Rattle.cfg_lines.specs.Spelled.{words}
use Rattle.text_words.specs.Spelled.{text_word, bits_word, type_word, flags_word}
use Rattle.text_words.specs.Grammar.{IsType, SpellsType}
use Rattle.cfg_grammar.specs.Follows.{IsInNode, IsBetween, IsInDomain, IsInSet, IsIdentity, value_count, longest_part, IsBlock, IsLine}
use Rattle.text_words.proofs.WordLaws.{IsWord, AreWords, split-joined, joined-printable, none-empty}
use Rattle.text_words.proofs.SpelledWordLaws.{number-within, decimal-word, type-read, flags-read, bits-read, text-read}
use Rattle.text_words.proofs.NameLaws.{name-word, path-word, member-word, fc-word, type-is-word, flags-is-word, bits-is-word, text-is-word, values-read, values-are-words, values-as-many}

-- a line of words is told by its keyword
pub line-keyed : (before : List Line) (key : List ℕ) (words : List (List ℕ)) (keyword : Keyword) (told : Result Line Kind) → AreWords (key ∷ words) → keyword_at key ≡ Some keyword
    → length (join_with_byte 32 (key ∷ words)) ≤ 1000 → is_skipped (join_with_byte 32 (key ∷ words)) ≡ false → has_long before (Some keyword) words ≡ false → keyed_at before keyword words ≡ told
    → line_at before (join_with_byte 32 (key ∷ words)) ≡ told
unfolding line_at tell_at
line-keyed before key words keyword told are is short real long keyed =
    let text = join_with_byte 32 (key ∷ words) in
    cond-false _ _ _ (le-not (length text) short)
    ∙ (cond-false _ _ _ real
    ∙ (ap (tell_at before text) (split-joined key words are)
    ∙ (cond-false _ _ _ (ap (λ k. has_long before k words) is ∙ long)
    ∙ (cond-true _ _ _ (and_from _ _ (joined-printable (key ∷ words) are) (not_from_false _ (none-empty words are.1)))
    ∙ (ap (λ k. known_at before k words) is ∙ keyed)))))
  where
    le-not : (n : ℕ) → n ≤ 1000 → nat_lt 1000 n ≡ false
    le-not n le = grind (arith, nat_tests)

keyed : (before : List Line) (keyword : Keyword) (words : List (List ℕ)) (told : Result Line Kind) → counts before keyword words ≡ true → may_stand before keyword words ≡ true
    → is_full before ≡ false → has_many before keyword words ≡ false → content_at before keyword words ≡ told → keyed_at before keyword words ≡ told
unfolding keyed_at
keyed before keyword words told count stands room few is = cond-true _ _ _ count ∙ (cond-true _ _ _ stands ∙ (cond-false _ _ _ (or_from _ _ room few) ∙ is))

room-left : (before : List Line) → length before < 20000 → is_full before ≡ false
room-left before lt = lt-leb 20000 (length before) lt

from-words : (before : List Line) (text key : List ℕ) (ws : List (List ℕ)) (keyword : Keyword) (line : Line) → text ≡ join_with_byte 32 (key ∷ ws) → length text ≤ 1000 → length before < 20000 → AreWords (key ∷ ws)
    → keyword_at key ≡ Some keyword → is_skipped (join_with_byte 32 (key ∷ ws)) ≡ false → has_long before (Some keyword) ws ≡ false → counts before keyword ws ≡ true → may_stand before keyword ws ≡ true
    → has_many before keyword ws ≡ false → content_at before keyword ws ≡ Ok line → line_at before text ≡ Ok line
from-words before text key ws keyword line is short room are key_is real long count stands few content =
    ap (line_at before) is ∙ line-keyed before key ws keyword (Ok line) are key_is (subst (λ t. length t ≤ 1000) is short) real long (keyed before keyword ws (Ok line) count stands (room-left before room) few content)

given-then : {A B : Type 0} (kind : Kind) (o : Option A) (x : A) (f : A → Result B Kind) → o ≡ Some x → (given kind o >>= f) ≡ f x
given-then kind o x f e = ap (λ o. given kind o >>= f) e

-- places
pub in-node : (before : List Line) → IsInNode before → is_in_node (place_of before) ≡ true
in-node before (inl e) = ap is_in_node e
in-node before (inr e) = ap is_in_node e

pub between : (before : List Line) → IsBetween before → is_open (place_of before) ≡ true
between before (inl e) = ap is_open e
between before (inr (inl e)) = ap is_open e
between before (inr (inr e)) = ap is_open e

pub in-domain : (before : List Line) → IsInDomain before → is_in_domain (place_of before) ≡ true
in-domain before (inl e) = ap is_in_domain e
in-domain before (inr (inl e)) = ap is_in_domain e
in-domain before (inr (inr e)) = ap is_in_domain e

pub in-set : (before : List Line) → IsInSet before → is_in_set (place_of before) ≡ true
in-set before (inl e) = ap is_in_set e
in-set before (inr e) = ap is_in_set e

-- lengths
not-long : (before : List Line) (behind : ℕ) → length (node_of before) + behind ≤ 63 → is_long_item before behind ≡ false
not-long before behind le = and_right _ _ (le-ltb 63 _ le)

pub item-length : (node fc path : List ℕ) → length (below (below node fc) path) ≡ length node + (length fc + 1 + length path) + 1
item-length node fc path = omega (arith, length-append (below node fc) (36 ∷ path), length-append node (36 ∷ fc))

pub below-length : (front name : List ℕ) → length (below front name) ≡ length front + length name + 1
below-length front name = omega (arith, length-append front (36 ∷ name))

config-read : (before : List Line) (text : List ℕ) → IsLine before text lines.Config → line_at before text ≡ Ok lines.Config
unfolding has_long counts may_stand has_many content_at words digits
config-read before text is = from-words before text (codes "config") (codes "1" ∷ []) keywords.Config lines.Config (is.spelled.1 ∙ ap (join_with_byte 32) is.spelled.2) is.short is.room
    ((omega arith, refl), ((omega arith, refl), tt)) refl refl refl refl (ap is_start is.follows) refl
    (given-then _ (number_within 1 1 (codes "1")) 1 _ (number-within 1 1 1 (omega arith) (omega arith) (omega arith)))

end-read : (before : List Line) (text : List ℕ) → IsLine before text lines.End → line_at before text ≡ Ok lines.End
unfolding has_long counts may_stand has_many content_at words
end-read before text is = from-words before text (codes "end") [] keywords.End lines.End (is.spelled.1 ∙ ap (join_with_byte 32) is.spelled.2) is.short is.room
    ((omega arith, refl), tt) refl refl refl refl (between before is.follows) refl refl

identity-word : (word : List ℕ) → IsIdentity word → IsWord word
identity-word word is = (is.0, is.2)

server-read : (before : List Line) (text vendor model revision : List ℕ) → IsLine before text (lines.Server vendor model revision) → line_at before text ≡ Ok (lines.Server vendor model revision)
unfolding has_long counts may_stand has_many content_at words
server-read before text vendor model revision is = let f = is.follows in
    from-words before text (codes "server") (vendor ∷ model ∷ revision ∷ []) keywords.Server (lines.Server vendor model revision) (is.spelled.1 ∙ ap (join_with_byte 32) is.spelled.2) is.short is.room
    ((omega arith, refl), (identity-word vendor f.1, (identity-word model f.2, (identity-word revision f.3, tt)))) refl refl
    (or_from _ _ (le-ltb 64 (length vendor) f.1.1) (or_from _ _ (le-ltb 64 (length model) f.2.1) (or_from _ _ (le-ltb 64 (length revision) f.3.1) refl)))
    refl (ap is_configured f.0) refl refl

domain-read : (before : List Line) (text name : List ℕ) → IsLine before text (lines.Ld name) → line_at before text ≡ Ok (lines.Ld name)
unfolding has_long counts may_stand has_many content_at words domain_at
domain-read before text name is = let f = is.follows in
    from-words before text (codes "ld") (name ∷ []) keywords.Ld (lines.Ld name) (is.spelled.1 ∙ ap (join_with_byte 32) is.spelled.2) is.short is.room
    ((omega arith, refl), (name-word name f.2, tt)) refl refl refl refl (between before f.0) (lt-leb 16 _ f.1)
    (cond-true _ _ _ f.2 ∙ cond-false _ _ _ f.3)

node-read : (before : List Line) (text : List ℕ) (node : LnDef) → IsLine before text (lines.Ln node) → line_at before text ≡ Ok (lines.Ln node)
unfolding has_long counts may_stand has_many content_at words node_at
node-read before text node is = let f = is.follows in
    from-words before text (codes "ln") (node.ln ∷ []) keywords.Ln (lines.Ln node) (is.spelled.1 ∙ ap (join_with_byte 32) is.spelled.2) is.short is.room
    ((omega arith, refl), (name-word node.ln f.name, tt)) refl refl refl refl (in-domain before f.stands) (lt-leb 256 _ f.few)
    (cond-true _ _ _ f.name ∙ (cond-false _ _ _ f.new ∙ ap (λ n. Ok (lines.Ln n)) (sym f.here)))

set-read : (before : List Line) (text : List ℕ) (set : SetDef) → IsLine before text (lines.Set set) → line_at before text ≡ Ok (lines.Set set)
unfolding has_long counts may_stand has_many content_at words set_at
set-read before text set is = let f = is.follows in
    from-words before text (codes "set") (set.name ∷ []) keywords.Set (lines.Set set) (is.spelled.1 ∙ ap (join_with_byte 32) is.spelled.2) is.short is.room
    ((omega arith, refl), (name-word set.name f.name, tt)) refl refl (not-long before (length set.name) (omega (arith, f.short, below-length (node_of before) set.name))) refl
    (in-node before f.stands) (lt-leb 128 _ f.few)
    (cond-true _ _ _ f.name ∙ (cond-false _ _ _ f.new ∙ ap (λ s. Ok (lines.Set s)) (sym f.here)))

member-read : (before : List Line) (text reference : List ℕ) → IsLine before text (lines.Member reference) → line_at before text ≡ Ok (lines.Member reference)
unfolding has_long counts may_stand has_many content_at words
member-read before text reference is = let f = is.follows in
    from-words before text (codes "member") (reference ∷ []) keywords.Member (lines.Member reference) (is.spelled.1 ∙ ap (join_with_byte 32) is.spelled.2) is.short is.room
    ((omega arith, refl), (member-word reference f.name, tt)) refl refl (or_from _ _ (le-ltb 129 _ f.short.0) (le-ltb 64 _ f.short.1)) refl
    (in-set before f.stands) (or_from _ _ (lt-leb 256 _ f.few) (le-ltb 9 _ f.names))
    (cond-true _ _ _ f.name)

groups-read : (before : List Line) (text : List ℕ) (groups : SgDef) → IsLine before text (lines.Sgcb groups) → line_at before text ≡ Ok (lines.Sgcb groups)
unfolding has_long counts may_stand has_many content_at words groups_at group_fields_at
groups-read before text groups is = let f = is.follows in
    let count : groups.count < 2 ^ 64 = omega (arith, f.count.1) in
    let active : groups.active < 2 ^ 64 = omega (arith, f.count.1, f.active.1) in
    from-words before text (codes "sgcb") (decimal groups.count ∷ decimal groups.active ∷ []) keywords.Sgcb (lines.Sgcb groups) (is.spelled.1 ∙ ap (join_with_byte 32) is.spelled.2) is.short is.room
    ((omega arith, refl), (decimal-word groups.count count, (decimal-word groups.active active, tt))) refl refl refl refl
    (and_from _ _ (and_from _ _ (in-node before f.stands.0) ((bytes_eq-Decides (node_of before) (codes "LLN0")).1 f.stands.1)) (not_from_false _ f.early)) refl
    (cond-false _ _ _ f.new
    ∙ (given-then _ _ groups.count _ (number-within 1 16 groups.count f.count.0 f.count.1 count)
    ∙ (given-then _ _ groups.active _ (number-within 1 groups.count groups.active f.active.0 f.active.1 active)
    ∙ ap (λ g. Ok (lines.Sgcb g)) (sym f.here))))

-- the words of an attribute
attr-counts : (fc : List ℕ) (groups n : ℕ) (ws : List (List ℕ)) → n ≡ (if bytes_eq fc (codes "SG") then groups else 1) → 1 ≤ n → length ws ≡ n + 3 → attribute_counts groups (fc ∷ ws) ≡ true
attr-counts fc groups n ws is some as_many = by (bytes_eq fc (codes "SG")) is
  where
    by : (b : Bool) → n ≡ cond b groups 1 → cond b (cond (groups == 0) (nat_le 4 (length ws)) (length ws == groups + 3)) (length ws == 4) ≡ true
    by true e = let no : (groups == 0) ≡ false = grind (arith, nat_tests, e, some) in cond-false _ _ _ no ∙ eq-eqb _ _ (omega (arith, e, as_many))
    by false e = eq-eqb _ _ (omega (arith, e, as_many))

attr-groups : (fc : List ℕ) (groups n : ℕ) (ws : List (List ℕ)) → n ≡ (if bytes_eq fc (codes "SG") then groups else 1) → 1 ≤ n → has_groups groups (fc ∷ ws) ≡ true
attr-groups fc groups n ws is some = by (bytes_eq fc (codes "SG")) is
  where
    by : (b : Bool) → n ≡ cond b groups 1 → cond b (nat_lt 0 groups) true ≡ true
    by true e = lt-ltb 0 groups (omega (arith, e, some))
    by false e = refl

pub spelled-type : (word : List ℕ) (kind : TypeOf) → IsType kind → SpellsType word kind → type_at word ≡ Some kind
unfolding type_at
spelled-type word kind is (inl e) = ap type_at e ∙ type-read kind is
spelled-type word kind is (inr (inl e)) = ap type_at e.0 ∙ ap (λ k. Some k) (sym e.1)
spelled-type word kind is (inr (inr e)) = ap type_at e.0 ∙ ap (λ k. Some k) (sym e.1)

spelled-type-word : (word : List ℕ) (kind : TypeOf) → IsType kind → SpellsType word kind → IsWord word
spelled-type-word word kind is (inl e) = subst IsWord (sym e) (type-is-word kind is)
spelled-type-word word kind is (inr (inl e)) = subst IsWord (sym e.0) (omega arith, refl)
spelled-type-word word kind is (inr (inr e)) = subst IsWord (sym e.0) (omega arith, refl)

attribute-read : (before : List Line) (text : List ℕ) (attr : AttrDef) → IsLine before text (lines.Attr attr) → line_at before text ≡ Ok (lines.Attr attr)
unfolding has_long counts may_stand has_many content_at words attribute_at typed_at
attribute-read before text attr is =
    let f = is.follows in
    let kind = is.spelled.2.0 in
    let vs = is.spelled.2.1 in
    let of_type = is.spelled.2.2 in
    let of_values = is.spelled.2.3 in
    let flags = flags_word attr.dchg attr.qchg attr.dupd in
    from-words before text (codes "attr") (attr.fc ∷ attr.path ∷ kind ∷ flags ∷ vs) keywords.Attr (lines.Attr attr) (is.spelled.1 ∙ ap (join_with_byte 32) is.spelled.2.4) is.short is.room
    ((omega arith, refl), (fc-word attr.fc f.constraint, (path-word attr.path f.path.0, (spelled-type-word kind attr.kind f.type_ of_type, (flags-is-word attr.dchg attr.qchg attr.dupd, values-are-words attr.kind vs (values_of attr.values) f.type_ f.values of_values)))))
    refl refl
    (not-long before (length attr.fc + 1 + length attr.path) (omega (arith, f.short, item-length (node_of before) attr.fc attr.path)))
    (attr-counts attr.fc (groups_of before) (value_count before attr.fc) (attr.path ∷ kind ∷ flags ∷ vs) refl f.count.0 (omega (arith, values-as-many vs (values_of attr.values) of_values, f.count.1)))
    (and_from _ _ (in-node before f.stands) (attr-groups attr.fc (groups_of before) (value_count before attr.fc) (attr.path ∷ kind ∷ flags ∷ vs) refl f.count.0))
    (or_from _ _ (lt-leb 10000 _ f.few) (le-ltb 7 _ f.path.1))
    (cond-true _ _ _ f.constraint ∙ (cond-true _ _ _ f.path.0 ∙ (cond-false _ _ _ f.new
    ∙ (given-then _ _ attr.kind _ (spelled-type kind attr.kind f.type_ of_type)
    ∙ (given-then _ _ _ _ (flags-read attr.dchg attr.qchg attr.dupd)
    ∙ (given-then _ _ (values_of attr.values) _ (values-read attr.kind vs (values_of attr.values) f.values of_values)
    ∙ (ap (λ r. Ok (lines.Attr (record attr { line = number_of before; domain = domain_of before; ln = node_of before; values = r }))) (row-values attr.values) ∙ ap (λ a. Ok (lines.Attr a)) (sym f.here))))))))

ok-then : {A B : Type 0} (r : Result A Kind) (x : A) (f : A → Result B Kind) → r ≡ Ok x → (r >>= f) ≡ f x
ok-then r x f e = ap (λ r. r >>= f) e

joined-first : (word : List ℕ) (more : List (List ℕ)) → length word ≤ length (join_with_byte 32 (word ∷ more))
joined-first word [] = omega arith
joined-first word (next ∷ more) = omega (arith, length-append word (32 ∷ join_with_byte 32 (next ∷ more)))

joined-behind : (word next : List ℕ) (more : List (List ℕ)) → length (join_with_byte 32 (next ∷ more)) ≤ length (join_with_byte 32 (word ∷ next ∷ more))
joined-behind word next more = omega (arith, length-append word (32 ∷ join_with_byte 32 (next ∷ more)))

texts-read : (before : List Line) (block : BlockDef) → IsBlock before block → length block.dat_set ≤ 1000 → block_texts_at (text_word block.rpt_id) (text_word block.dat_set) ≡ Ok (block.rpt_id, block.dat_set)
texts-read before block f short = given-then _ _ block.rpt_id _ (text-read 129 block.rpt_id f.rpt_id.0 f.rpt_id.1) ∙ given-then _ _ block.dat_set _ (text-read 1000 block.dat_set short f.dat_set)

options-read : (before : List Line) (block : BlockDef) → IsBlock before block → block_options_at (decimal block.conf_rev) (bits_word block.opt_flds) (decimal block.buf_tm) ≡ Ok (block.conf_rev, block.opt_flds, block.buf_tm)
options-read before block f =
    given-then _ _ block.conf_rev _ (number-within 1 4294967295 block.conf_rev f.conf_rev.0 f.conf_rev.1 (omega (arith, f.conf_rev.1)))
    ∙ (given-then _ _ block.opt_flds _ (bits-read 10 block.opt_flds f.bits.0)
    ∙ given-then _ _ block.buf_tm _ (number-within 0 4294967295 block.buf_tm (omega arith) f.times.0 (omega (arith, f.times.0))))

triggers-read : (before : List Line) (block : BlockDef) → IsBlock before block → block_triggers_at (bits_word block.trg_ops) (decimal block.intg_pd) (decimal block.capacity) ≡ Ok (block.trg_ops, block.intg_pd, block.capacity)
triggers-read before block f =
    given-then _ _ block.trg_ops _ (bits-read 6 block.trg_ops f.bits.1)
    ∙ (given-then _ _ block.intg_pd _ (number-within 0 4294967295 block.intg_pd (omega arith) f.times.1 (omega (arith, f.times.1)))
    ∙ given-then _ _ block.capacity _ (number-within 1 1048576 block.capacity f.capacity.0 f.capacity.1 (omega (arith, f.capacity.1))))

fields-read : (before : List Line) (block : BlockDef) → IsBlock before block → length block.dat_set ≤ 1000
    → block_fields_at before block.name (text_word block.rpt_id) (text_word block.dat_set) (decimal block.conf_rev) (bits_word block.opt_flds) (decimal block.buf_tm) (bits_word block.trg_ops) (decimal block.intg_pd) (decimal block.capacity)
    ≡ Ok (lines.Brcb block)
unfolding block_fields_at
fields-read before block f short =
    ok-then _ (block.rpt_id, block.dat_set) _ (texts-read before block f short)
    ∙ (ok-then _ (block.conf_rev, block.opt_flds, block.buf_tm) _ (options-read before block f)
    ∙ (ok-then _ (block.trg_ops, block.intg_pd, block.capacity) _ (triggers-read before block f)
    ∙ ap (λ b. Ok (lines.Brcb b)) (sym f.here)))

abbrev block_words : BlockDef → List (List ℕ)
block_words block =
    text_word block.rpt_id ∷ text_word block.dat_set ∷ decimal block.conf_rev ∷ bits_word block.opt_flds ∷ decimal block.buf_tm ∷ bits_word block.trg_ops ∷ decimal block.intg_pd ∷ decimal block.capacity ∷ []

dat_set-short : (block : BlockDef) (text : List ℕ) → text ≡ join_with_byte 32 (codes "brcb" ∷ block.name ∷ block_words block) → length text ≤ 1000 → length block.dat_set ≤ 1000
dat_set-short block text is short =
    let rest = decimal block.conf_rev ∷ bits_word block.opt_flds ∷ decimal block.buf_tm ∷ bits_word block.trg_ops ∷ decimal block.intg_pd ∷ decimal block.capacity ∷ [] in
    let whole : length (join_with_byte 32 (codes "brcb" ∷ block.name ∷ block_words block)) ≤ 1000 = subst (λ t. length t ≤ 1000) is short in
    omega (
      arith,
      joined-first (text_word block.dat_set) rest,
      joined-behind (text_word block.rpt_id) (text_word block.dat_set) rest,
      joined-behind block.name (text_word block.rpt_id) (text_word block.dat_set ∷ rest),
      joined-behind (codes "brcb") block.name (text_word block.rpt_id ∷ text_word block.dat_set ∷ rest),
      whole,
    )

block-read : (before : List Line) (text : List ℕ) (block : BlockDef) → IsLine before text (lines.Brcb block) → line_at before text ≡ Ok (lines.Brcb block)
unfolding has_long counts may_stand has_many content_at words block_at
block-read before text block is =
    let f = is.follows in
    let spelled = is.spelled.1 ∙ ap (join_with_byte 32) is.spelled.2 in
    from-words before text (codes "brcb") (block.name ∷ block_words block)
    keywords.Brcb (lines.Brcb block) spelled is.short is.room (
      (omega arith, refl),
      (
        name-word block.name f.name,
        (
          text-is-word block.rpt_id f.rpt_id.1,
          (
            text-is-word block.dat_set f.dat_set,
            (
              decimal-word block.conf_rev (omega (arith, f.conf_rev.1)),
              (
                bits-is-word block.opt_flds (omega (arith, f.bits.0)),
                (decimal-word block.buf_tm (omega (arith, f.times.0)), (bits-is-word block.trg_ops (omega (arith, f.bits.1)), (decimal-word block.intg_pd (omega (arith, f.times.1)), (decimal-word block.capacity (omega (arith, f.capacity.1)), tt)))),
              ),
            ),
          ),
        ),
      ),
    )
    refl refl
    (not-long before (length block.name + 15) (omega (arith, f.short, item-length (node_of before) (codes "BR") (below block.name (codes "TimeofEntry")), below-length block.name (codes "TimeofEntry"))))
    refl (in-node before f.stands) (lt-leb 32 _ f.few)
    (cond-true _ _ _ f.name ∙ (cond-false _ _ _ f.new ∙ fields-read before block f (dat_set-short block text spelled is.short)))

pub longest : (model : ℕ) → model ≤ 4 → control_octets (decimal model) ≡ 4 + length (longest_part model)
unfolding digits
longest zero le = refl
longest (suc zero) le = refl
longest (suc (suc zero)) le = refl
longest (suc (suc (suc zero))) le = refl
longest (suc (suc (suc (suc zero)))) le = refl
longest (suc (suc (suc (suc (suc n))))) le = absurd (omega (arith, le))

control-type : (kind : TypeOf) → (kind ≡ types.Bool) ⊎ (kind ≡ types.Int 32) → (IsType kind) × (control_type_at (type_word kind) ≡ Some kind)
unfolding type_word digits
control-type kind (inl e) = subst (λ k. (IsType k) × (control_type_at (type_word k) ≡ Some k)) (sym e) (tt, refl)
control-type kind (inr e) = subst (λ k. (IsType k) × (control_type_at (type_word k) ≡ Some k)) (sym e) (inr (inr (inl refl)), refl)

control-read : (before : List Line) (text : List ℕ) (control : CtlDef) → IsLine before text (lines.Ctl control) → line_at before text ≡ Ok (lines.Ctl control)
unfolding has_long counts may_stand has_many content_at words control_at control_fields_at
control-read before text control is =
    let f = is.follows in
    let kind = control-type control.kind f.type_ in
    let model : number_within 0 4 (decimal control.model) ≡ Some control.model = number-within 0 4 control.model (omega arith) f.model (omega (arith, f.model)) in
    let part = longest_part control.model in
    from-words before text (codes "ctl") (control.path ∷ decimal control.model ∷ decimal control.timeout ∷ decimal control.class ∷ type_word control.kind ∷ [])
    keywords.Ctl (lines.Ctl control) (is.spelled.1 ∙ ap (join_with_byte 32) is.spelled.2) is.short is.room
    ((omega arith, refl), (path-word control.path f.path.0, (decimal-word control.model (omega (arith, f.model)), (decimal-word control.timeout (omega (arith, f.timeout.1)), (decimal-word control.class (omega (arith, f.class)), (type-is-word control.kind kind.0, tt))))))
    refl refl
    (not-long before (length control.path + control_octets (decimal control.model))
    (omega (arith, longest control.model f.model, f.short, item-length (node_of before) (codes "CO") (below control.path part), below-length control.path part)))
    refl (in-node before f.stands) (or_from _ _ (lt-leb 64 _ f.few) (le-ltb 7 _ f.path.1))
    (cond-true _ _ _ f.path.0
    ∙ (cond-false _ _ _ (ap (λ o. list_any (λ key. is_taken (claims before) key) (control_keys (domain_of before) (node_of before) control.path (unwrap_or o 0))) model ∙ f.new)
    ∙ (given-then _ _ control.model _ model
    ∙ (given-then _ _ control.timeout _ (number-within 1 4294967295 control.timeout f.timeout.0 f.timeout.1 (omega (arith, f.timeout.1)))
    ∙ (given-then _ _ control.class _ (number-within 0 1 control.class (omega arith) f.class (omega (arith, f.class)))
    ∙ (given-then _ _ control.kind _ kind.1 ∙ ap (λ d. Ok (lines.Ctl d)) (sym f.here)))))))

skip-read : (before : List Line) (text : List ℕ) → IsLine before text lines.Skip → line_at before text ≡ Ok lines.Skip
unfolding line_at skip_at
skip-read before text is = cond-false _ _ _ (le-ltb 1000 (length text) is.short) ∙ by text is.spelled
  where
    by : (text : List ℕ) → IsSkipped text → cond (is_skipped text) (skip_at before text) (tell_at before text (words_of text)) ≡ Ok lines.Skip
    by text (inl e) = subst (λ t. cond (is_skipped t) (skip_at before t) (tell_at before t (words_of t)) ≡ Ok lines.Skip) (sym e) (cond-false _ _ _ (room-left before is.room))
    by text (inr r) = subst (λ t. cond (is_skipped t) (skip_at before t) (tell_at before t (words_of t)) ≡ Ok lines.Skip) (sym r.1) (cond-true _ _ _ r.2 ∙ cond-false _ _ _ (room-left before is.room))

pub line-read : (before : List Line) (text : List ℕ) (line : Line) → IsLine before text line → line_at before text ≡ Ok line
line-read before text lines.Skip is = skip-read before text is
line-read before text lines.Config is = config-read before text is
line-read before text (lines.Server vendor model revision) is = server-read before text vendor model revision is
line-read before text (lines.Ld name) is = domain-read before text name is
line-read before text (lines.Ln node) is = node-read before text node is
line-read before text (lines.Attr attr) is = attribute-read before text attr is
line-read before text (lines.Set set) is = set-read before text set is
line-read before text (lines.Member reference) is = member-read before text reference is
line-read before text (lines.Brcb block) is = block-read before text block is
line-read before text (lines.Ctl control) is = control-read before text control is
line-read before text (lines.Sgcb groups) is = groups-read before text groups is
line-read before text lines.End is = end-read before text is
