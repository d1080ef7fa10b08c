-- A line that is read is spelled, and may stand there.
use Rattle.std.proofs.Common.{◌≡◌, ℕ, ◌+◌, ◌<◌, ◌≤◌, ◌⊎◌, inl, inr, Bool, true, false, cond, ◌&&◌, ◌||◌, not, List, [], ◌∷◌, length, nat_lt, nat_le, ◌==◌, refl, sym, ap, ap₂, subst, ◌∙◌, arith}
use Rattle.std.specs.Prelude.{Option, Some, None, Result, Ok, Err, codes, if◌then◌else◌, unwrap_or}
use Rattle.std.specs.Fmt.{digits, decimal}
use Rattle.std.specs.List.{list_all, list_any, count_by, join_with_byte}
use Rattle.std.specs.Str.{bytes_eq}
use Rattle.std.proofs.lemmas.Bool.{and_parts, cond-false, and_cases, or_parts, not-true, ltb-true, ltb-false, leb-false, eqb-true}
use Rattle.std.proofs.lemmas.Bool.Decides.{nat_tests}
use Rattle.std.proofs.lemmas.List.Splits.{join_with_byte-slice_split}
use Rattle.std.proofs.lemmas.Slice.Eq.{bytes_eq-Decides}
use Rattle.sv_base.proofs.RowLaws.{values-row}
use Rattle.sv_base.specs.declared.config.BlockDef.{BlockDef}
use Rattle.sv_base.specs.declared.config.CtlDef.{CtlDef}
use Rattle.sv_base.specs.declared.types.TypeOf.{TypeOf}
use Rattle.sv_base.specs.declared.types.TypeOf.TheVariants as types
use Rattle.cfg_parser.specs.declared.fault.Kind.{Kind}
use Rattle.cfg_lines.specs.declared.line.Line.{Line}
use Rattle.cfg_lines.specs.declared.line.Line.TheVariants as lines
use Rattle.cfg_lines.specs.declared.line.Place.{Place}
use Rattle.cfg_lines.specs.declared.line.Place.TheVariants as places
use Rattle.cfg_parser.specs.declared.keyword.Keyword.{Keyword}
use Rattle.cfg_parser.specs.declared.keyword.Keyword.TheVariants as keywords
use Rattle.text_words.specs.Types.{type_at, flags_at}
use Rattle.cfg_parser.specs.Reader.{◌>>=◌, given}
use Rattle.cfg_parser.specs.Keywords.{keyword_at}
use Rattle.text_words.specs.Words.{words_of}
use Rattle.text_words.specs.Names.{is_dollar, is_name, is_path, is_member, item_of, is_fc}
use Rattle.text_words.specs.Numbers.{number_within}
use Rattle.text_words.specs.Values.{is_graphic, text_at, bits_at, values_at}
use Rattle.cfg_lines.specs.Paths.{below, node_key, item_key, is_taken}
use Rattle.cfg_lines.specs.Keys.{is_among}
use Rattle.cfg_lines.specs.Before.{number_of, place_of, domain_of, node_of, groups_of, has_settings, domains, nodes, attributes, sets, blocks, controls, members}
use Rattle.cfg_lines.specs.Claims.{heads, set_key, control_keys, group_key, claims}
use Rattle.cfg_lines.specs.Claims as claimed
use Rattle.cfg_parser.specs.Contents.{attr_of, domain_at, node_at, set_at, typed_at, attribute_at, block_texts_at, block_options_at, block_triggers_at, block_fields_at, block_at, control_type_at, model_of, control_fields_at, control_at, group_fields_at, groups_at}
use Rattle.text_words.specs.Octets.{is_printable, is_skipped, IsSkipped}
use Rattle.cfg_parser.specs.Judging.{is_long_item, control_octets, attribute_counts, has_groups, has_long, counts, is_in_node, is_open, is_in_domain, is_in_set, is_start, is_configured, may_stand, is_full, has_many, content_at, keyed_at, known_at, skip_at, tell_at, line_at}
use Rattle.cfg_lines.specs.Spelled.{words}
use Rattle.text_words.specs.Spelled.{text_word, bits_word, type_word}
use Rattle.text_words.specs.Grammar.{AreOfType, SpellValues}
use Rattle.cfg_grammar.specs.Follows.{longest_part, IsLine}
use Rattle.text_words.proofs.WordLaws.{AreWords, split-words, are-words}
use Rattle.text_words.proofs.ReadWordLaws.{by-word, none-some, number-tells, type-tells, flags-tell, bits-tell, text-tells, values-tell}
use Rattle.text_words.proofs.NameLaws.{values-as-many}
use Rattle.cfg_text.proofs.SpelledLineLaws.{item-length, below-length, longest}

abbrev ok_of : {A : Type 0} → A → Result A Kind
ok_of x = Ok x

ok_is : {A : Type 0} (x y : A) → ok_of x ≡ ok_of y → x ≡ y
ok_is x y e = cc

-- steps that may refuse
pub went : {A : Type 0} (b : Bool) (r : Result A Kind) (kind : Kind) (x : A) → cond b r (Err kind) ≡ Ok x → (b ≡ true) × (r ≡ Ok x)
went true r kind x e = (refl, e)
went false r kind x e = absurd cc

pub passed : {A : Type 0} (b : Bool) (r : Result A Kind) (kind : Kind) (x : A) → cond b (Err kind) r ≡ Ok x → (b ≡ false) × (r ≡ Ok x)
passed true r kind x e = absurd cc
passed false r kind x e = (refl, e)

given-then : {A B : Type 0} (kind : Kind) (o : Option A) (f : A → Result B Kind) (y : B) → (given kind o >>= f) ≡ Ok y → (x : A) × (o ≡ Some x) × (f x ≡ Ok y)
given-then kind None f y e = absurd cc
given-then kind (Some x) f y e = (x, refl, e)

ok-then : {A B : Type 0} (r : Result A Kind) (f : A → Result B Kind) (y : B) → (r >>= f) ≡ Ok y → (x : A) × (r ≡ Ok x) × (f x ≡ Ok y)
ok-then (Ok x) f y e = (x, refl, e)
ok-then (Err kind) f y e = absurd cc

-- places
pub node-place : (place : Place) → is_in_node place ≡ true → (place ≡ places.InNode) ⊎ (place ≡ places.InMembers)
node-place places.InNode e = inl refl
node-place places.InMembers e = inr refl
node-place places.Start e = absurd cc
node-place places.Configured e = absurd cc
node-place places.Served e = absurd cc
node-place places.InDomain e = absurd cc
node-place places.InSet e = absurd cc
node-place places.Ended e = absurd cc

pub open-place : (place : Place) → is_open place ≡ true → (place ≡ places.Served) ⊎ ((place ≡ places.InNode) ⊎ (place ≡ places.InMembers))
open-place places.Served e = inl refl
open-place places.InNode e = inr (inl refl)
open-place places.InMembers e = inr (inr refl)
open-place places.Start e = absurd cc
open-place places.Configured e = absurd cc
open-place places.InDomain e = absurd cc
open-place places.InSet e = absurd cc
open-place places.Ended e = absurd cc

pub domain-place : (place : Place) → is_in_domain place ≡ true → (place ≡ places.InDomain) ⊎ ((place ≡ places.InNode) ⊎ (place ≡ places.InMembers))
domain-place places.InDomain e = inl refl
domain-place places.InNode e = inr (inl refl)
domain-place places.InMembers e = inr (inr refl)
domain-place places.Start e = absurd cc
domain-place places.Configured e = absurd cc
domain-place places.Served e = absurd cc
domain-place places.InSet e = absurd cc
domain-place places.Ended e = absurd cc

pub set-place : (place : Place) → is_in_set place ≡ true → (place ≡ places.InSet) ⊎ (place ≡ places.InMembers)
set-place places.InSet e = inl refl
set-place places.InMembers e = inr refl
set-place places.Start e = absurd cc
set-place places.Configured e = absurd cc
set-place places.Served e = absurd cc
set-place places.InDomain e = absurd cc
set-place places.InNode e = absurd cc
set-place places.Ended e = absurd cc

pub start-place : (place : Place) → is_start place ≡ true → place ≡ places.Start
start-place places.Start e = refl
start-place places.Configured e = absurd cc
start-place places.Served e = absurd cc
start-place places.InDomain e = absurd cc
start-place places.InNode e = absurd cc
start-place places.InSet e = absurd cc
start-place places.InMembers e = absurd cc
start-place places.Ended e = absurd cc

pub configured-place : (place : Place) → is_configured place ≡ true → place ≡ places.Configured
configured-place places.Configured e = refl
configured-place places.Start e = absurd cc
configured-place places.Served e = absurd cc
configured-place places.InDomain e = absurd cc
configured-place places.InNode e = absurd cc
configured-place places.InSet e = absurd cc
configured-place places.InMembers e = absurd cc
configured-place places.Ended e = absurd cc

-- the first word
abbrev pub word_of : Keyword → List ℕ
word_of keywords.Config = codes "config"
word_of keywords.Server = codes "server"
word_of keywords.Ld = codes "ld"
word_of keywords.Ln = codes "ln"
word_of keywords.Attr = codes "attr"
word_of keywords.Set = codes "set"
word_of keywords.Member = codes "member"
word_of keywords.Brcb = codes "brcb"
word_of keywords.Ctl = codes "ctl"
word_of keywords.Sgcb = codes "sgcb"
word_of keywords.End = codes "end"

abbrev Spelled : List ℕ → Keyword → Type 0
Spelled word key = word ≡ word_of key

pub key-is : (word : List ℕ) (key : Keyword) → keyword_at word ≡ Some key → word ≡ word_of key
key-is word key =
    by-word (Spelled word) word (codes "config") keywords.Config key _ (λ e. e)
    (by-word (Spelled word) word (codes "server") keywords.Server key _ (λ e. e)
    (by-word (Spelled word) word (codes "ld") keywords.Ld key _ (λ e. e)
    (by-word (Spelled word) word (codes "ln") keywords.Ln key _ (λ e. e)
    (by-word (Spelled word) word (codes "attr") keywords.Attr key _ (λ e. e)
    (by-word (Spelled word) word (codes "set") keywords.Set key _ (λ e. e)
    (by-word (Spelled word) word (codes "member") keywords.Member key _ (λ e. e)
    (by-word (Spelled word) word (codes "brcb") keywords.Brcb key _ (λ e. e)
    (by-word (Spelled word) word (codes "ctl") keywords.Ctl key _ (λ e. e)
    (by-word (Spelled word) word (codes "sgcb") keywords.Sgcb key _ (λ e. e)
    (by-word (Spelled word) word (codes "end") keywords.End key _ (λ e. e)
    (none-some key (word ≡ word_of key))))))))))))

-- a line of words that was told
pub record Told (before : List Line) (text : List ℕ) (key : Keyword) (ws : List (List ℕ)) (line : Line) : Type 0 where
  pub is : text ≡ join_with_byte 32 (word_of key ∷ ws)
  pub are : AreWords ws
  pub short : length text ≤ 1000
  pub room : length before < 20000
  pub long : has_long before (Some key) ws ≡ false
  pub count : counts before key ws ≡ true
  pub stands : may_stand before key ws ≡ true
  pub few : has_many before key ws ≡ false
  pub content : content_at before key ws ≡ Ok line

-- a logical node has a name
abbrev pub HasName : List Line → Type 0
HasName before = is_in_node (place_of before) ≡ true → 0 < length (node_of before)

not-long : (before : List Line) (behind : ℕ) → 0 < length (node_of before) → is_long_item before behind ≡ false → length (node_of before) + behind ≤ 63
not-long before behind some e = by (and_cases _ _ e)
  where
    by : (nat_lt 0 (length (node_of before)) ≡ false) ⊎ (nat_lt 63 (length (node_of before) + behind) ≡ false) → length (node_of before) + behind ≤ 63
    by (inl none) = absurd (omega (arith, some, ltb-false 0 (length (node_of before)) none))
    by (inr short) = ltb-false 63 (length (node_of before) + behind) short

same-block : (name a b d e f g h i a2 b2 d2 e2 f2 g2 h2 i2 : List ℕ) → a ≡ a2 → b ≡ b2 → d ≡ d2 → e ≡ e2 → f ≡ f2 → g ≡ g2 → h ≡ h2 → i ≡ i2
    → codes "brcb" ∷ name ∷ a ∷ b ∷ d ∷ e ∷ f ∷ g ∷ h ∷ i ∷ [] ≡ codes "brcb" ∷ name ∷ a2 ∷ b2 ∷ d2 ∷ e2 ∷ f2 ∷ g2 ∷ h2 ∷ i2 ∷ []
same-block name a b d e f g h i a2 b2 d2 e2 f2 g2 h2 i2 p q r s t u v w = cc

abbrev Controls : List ℕ → TypeOf → Type 0
Controls word kind = ((kind ≡ types.Bool) ⊎ (kind ≡ types.Int 32)) × (word ≡ type_word kind)

control-type-told : (word : List ℕ) (kind : TypeOf) → control_type_at word ≡ Some kind → Controls word kind
unfolding type_word digits
control-type-told word kind =
    by-word (Controls word) word (codes "bool") types.Bool kind _ (λ e. (inl refl, e))
    (by-word (Controls word) word (codes "int32") (types.Int 32) kind _ (λ e. (inr refl, e))
    (none-some kind (Controls word kind)))

module _ (before : List Line) (text : List ℕ) (line : Line) (named : HasName before) where
  abbrev pub Goes : Keyword → List (List ℕ) → Type 0
  Goes key ws = Told before text key ws line → IsLine before text line

  config-told : (ws : List (List ℕ)) → Goes keywords.Config ws
  unfolding may_stand content_at digits words
  config-told [] t = absurd cc t.content
  config-told (version ∷ []) t =
      let n = given-then _ (number_within 1 1 version) _ line t.content in
      let told = number-tells 1 1 version n.0 n.1 in
      let one : n.0 ≡ 1 = omega (arith, told.1, told.2) in
      let start = start-place (place_of before) t.stands in
      subst (λ l. IsLine before text l) (ok_is lines.Config line n.2)
      (record { short = t.short; room = t.room; spelled = (codes "config" ∷ version ∷ [], t.is, ap (λ w. codes "config" ∷ w ∷ []) (told.0 ∙ ap decimal one)); follows = start })
  config-told (a ∷ b ∷ ws) t = absurd cc t.content

  end-told : (ws : List (List ℕ)) → Goes keywords.End ws
  unfolding may_stand content_at words
  end-told [] t = subst (λ l. IsLine before text l) (ok_is lines.End line t.content)
      (record { short = t.short; room = t.room; spelled = (codes "end" ∷ [], t.is, refl); follows = open-place (place_of before) t.stands })
  end-told (a ∷ ws) t = absurd cc t.content

  server-told : (ws : List (List ℕ)) → Goes keywords.Server ws
  unfolding has_long may_stand content_at words
  server-told (vendor ∷ model ∷ revision ∷ []) t =
      let first = or_parts (nat_lt 64 (length vendor)) _ t.long in
      let second = or_parts (nat_lt 64 (length model)) _ first.1 in
      let third = or_parts (nat_lt 64 (length revision)) _ second.1 in
      let a = t.are in
      subst (λ l. IsLine before text l) (ok_is (lines.Server vendor model revision) line t.content)
      (record {
        short = t.short;
        room = t.room;
        spelled = (codes "server" ∷ vendor ∷ model ∷ revision ∷ [], t.is, refl);
        follows = (configured-place (place_of before) t.stands, (a.0.0, ltb-false 64 (length vendor) first.0, a.0.1), (a.1.0.0, ltb-false 64 (length model) second.0, a.1.0.1), (a.1.1.0.0, ltb-false 64 (length revision) third.0, a.1.1.0.1));
      })
  server-told [] t = absurd cc t.content
  server-told (a ∷ []) t = absurd cc t.content
  server-told (a ∷ b ∷ []) t = absurd cc t.content
  server-told (a ∷ b ∷ d ∷ e ∷ ws) t = absurd cc t.content

  domain-told : (ws : List (List ℕ)) → Goes keywords.Ld ws
  unfolding may_stand has_many content_at words domain_at
  domain-told (name ∷ []) t =
      let first = went (is_name name) _ _ line t.content in
      let second = passed (is_among (heads before) name) _ _ line first.1 in
      subst (λ l. IsLine before text l) (ok_is (lines.Ld name) line second.1)
      (record { short = t.short; room = t.room; spelled = (codes "ld" ∷ name ∷ [], t.is, refl); follows = (open-place (place_of before) t.stands, leb-false 16 (domains before) t.few, first.0, second.0) })
  domain-told [] t = absurd cc t.content
  domain-told (a ∷ b ∷ ws) t = absurd cc t.content

  node-told : (ws : List (List ℕ)) → Goes keywords.Ln ws
  unfolding may_stand has_many content_at words node_at
  node-told (name ∷ []) t =
      let first = went (is_name name) _ _ line t.content in
      let second = passed (is_among (heads before) (node_key (domain_of before) name)) _ _ line first.1 in
      subst (λ l. IsLine before text l) (ok_is (lines.Ln (record { line = number_of before; domain = domain_of before; ln = name })) line second.1)
      (record { short = t.short; room = t.room; spelled = (codes "ln" ∷ name ∷ [], t.is, refl); follows = record { here = refl; stands = domain-place (place_of before) t.stands; few = leb-false 256 (nodes before) t.few; name = first.0; new = second.0 } })
  node-told [] t = absurd cc t.content
  node-told (a ∷ b ∷ ws) t = absurd cc t.content

  set-told : (ws : List (List ℕ)) → Goes keywords.Set ws
  unfolding has_long may_stand has_many content_at words set_at
  set-told (name ∷ []) t =
      let first = went (is_name name) _ _ line t.content in
      let second = passed (is_among (claimed.sets before) (set_key (domain_of before) (node_of before) name)) _ _ line first.1 in
      subst (λ l. IsLine before text l) (ok_is (lines.Set (record { line = number_of before; domain = domain_of before; ln = node_of before; name = name; members = [] })) line second.1)
      (record {
        short = t.short;
        room = t.room;
        spelled = (codes "set" ∷ name ∷ [], t.is, refl);
        follows = record {
          here = refl;
          stands = node-place (place_of before) t.stands;
          few = leb-false 128 (sets before) t.few;
          name = first.0;
          short = omega (arith, below-length (node_of before) name, not-long before (length name) (named t.stands) t.long);
          new = second.0;
        };
      })
  set-told [] t = absurd cc t.content
  set-told (a ∷ b ∷ ws) t = absurd cc t.content

  member-told : (ws : List (List ℕ)) → Goes keywords.Member ws
  unfolding has_long may_stand has_many content_at words
  member-told (reference ∷ []) t =
      let first = went (is_member reference) _ _ line t.content in
      let long = or_parts (nat_lt 129 (length reference)) (nat_lt 64 (length (item_of reference))) t.long in
      let few = or_parts (nat_le 256 (members before)) (nat_lt 9 (count_by is_dollar (item_of reference))) t.few in
      subst (λ l. IsLine before text l) (ok_is (lines.Member reference) line first.1)
      (record {
        short = t.short;
        room = t.room;
        spelled = (codes "member" ∷ reference ∷ [], t.is, refl);
        follows = record {
          stands = set-place (place_of before) t.stands;
          few = leb-false 256 (members before) few.0;
          name = first.0;
          names = ltb-false 9 _ few.1;
          short = (ltb-false 129 _ long.0, ltb-false 64 _ long.1);
        };
      })
  member-told [] t = absurd cc t.content
  member-told (a ∷ b ∷ ws) t = absurd cc t.content

  groups-told : (ws : List (List ℕ)) → Goes keywords.Sgcb ws
  unfolding may_stand content_at words groups_at group_fields_at
  groups-told (count ∷ active ∷ []) t =
      let new = passed (is_taken (claims before) (group_key (domain_of before) (codes "LLN0"))) _ _ line t.content in
      let c = given-then _ (number_within 1 16 count) _ line new.1 in
      let a = given-then _ (number_within 1 c.0 active) _ line c.2 in
      let counted = number-tells 1 16 count c.0 c.1 in
      let acted = number-tells 1 c.0 active a.0 a.1 in
      let stands = and_parts (is_in_node (place_of before) && bytes_eq (node_of before) (codes "LLN0")) (not (has_settings before)) t.stands in
      let there = and_parts (is_in_node (place_of before)) (bytes_eq (node_of before) (codes "LLN0")) stands.0 in
      subst (λ l. IsLine before text l) (ok_is (lines.Sgcb (record { line = number_of before; domain = domain_of before; count = c.0; active = a.0 })) line a.2)
      (record {
        short = t.short;
        room = t.room;
        spelled = (codes "sgcb" ∷ count ∷ active ∷ [], t.is, ap₂ (λ x y. codes "sgcb" ∷ x ∷ y ∷ []) counted.0 acted.0);
        follows = record {
          here = refl;
          stands = (node-place (place_of before) there.0, (bytes_eq-Decides (node_of before) (codes "LLN0")).0 there.1);
          early = not-true (has_settings before) stands.1;
          new = new.0;
          count = (counted.1, counted.2);
          active = (acted.1, acted.2);
        };
      })
  groups-told [] t = absurd cc t.content
  groups-told (a ∷ []) t = absurd cc t.content
  groups-told (a ∷ b ∷ d ∷ ws) t = absurd cc t.content

  -- how many values an attribute has
  counted : (fc : List ℕ) (groups : ℕ) (ws : List (List ℕ)) → attribute_counts groups (fc ∷ ws) ≡ true → has_groups groups (fc ∷ ws) ≡ true
      → (1 ≤ (if bytes_eq fc (codes "SG") then groups else 1)) × (length ws ≡ (if bytes_eq fc (codes "SG") then groups else 1) + 3)
  counted fc groups ws count has = by (bytes_eq fc (codes "SG")) count has
    where
      by : (b : Bool) → cond b (cond (groups == 0) (nat_le 4 (length ws)) (length ws == groups + 3)) (length ws == 4) ≡ true → cond b (nat_lt 0 groups) true ≡ true → (1 ≤ cond b groups 1) × (length ws ≡ cond b groups 1 + 3)
      by true count has = let some : 0 < groups = ltb-true 0 groups has in let no : (groups == 0) ≡ false = grind (arith, nat_tests, some) in
          (some, eqb-true (length ws) (groups + 3) (sym (cond-false (groups == 0) (nat_le 4 (length ws)) (length ws == groups + 3) no) ∙ count))
      by false count has = (omega arith, eqb-true (length ws) 4 count)

  attribute-told : (ws : List (List ℕ)) → Goes keywords.Attr ws
  unfolding has_long counts may_stand has_many content_at words attribute_at typed_at
  attribute-told (fc ∷ path ∷ kind ∷ options ∷ vs) t =
      let constraint = went (is_fc fc) _ _ line t.content in
      let joined = went (is_path path) _ _ line constraint.1 in
      let new = passed (is_taken (claims before) (item_key (domain_of before) (node_of before) fc path)) _ _ line joined.1 in
      let k = given-then _ (type_at kind) _ line new.1 in
      let f = given-then _ (flags_at options) _ line k.2 in
      let v = given-then _ (values_at k.0 vs) _ line f.2 in
      let of_type = type-tells kind k.0 k.1 in
      let of_values = values-tell k.0 vs v.0 v.1 in
      let same = values-row v.0 in
      let few = or_parts (nat_le 10000 (attributes before)) (nat_lt 7 (count_by is_dollar path)) t.few in
      let stands = and_parts (is_in_node (place_of before)) (has_groups (groups_of before) (fc ∷ path ∷ kind ∷ options ∷ vs)) t.stands in
      let many = counted fc (groups_of before) (path ∷ kind ∷ options ∷ vs) t.count stands.1 in
      subst (λ l. IsLine before text l) (ok_is (lines.Attr (attr_of before fc path k.0 f.0 v.0)) line v.2)
      (record {
        short = t.short;
        room = t.room;
        spelled = (codes "attr" ∷ fc ∷ path ∷ kind ∷ options ∷ vs, t.is, (kind, vs, of_type.1, subst (SpellValues vs) (sym same) of_values.1, ap (λ w. codes "attr" ∷ fc ∷ path ∷ kind ∷ w ∷ vs) (flags-tell options f.0 f.1)));
        follows = record {
          here = refl;
          stands = node-place (place_of before) stands.0;
          few = leb-false 10000 (attributes before) few.0;
          constraint = constraint.0;
          path = (joined.0, ltb-false 7 _ few.1);
          short = omega (arith, item-length (node_of before) fc path, not-long before (length fc + 1 + length path) (named stands.0) t.long);
          new = new.0;
          type_ = of_type.0;
          values = subst (AreOfType k.0) (sym same) of_values.0;
          count = (many.0, ap length same ∙ omega (arith, many.1, values-as-many vs v.0 of_values.1));
        };
      })
  attribute-told [] t = absurd cc t.content
  attribute-told (a ∷ []) t = absurd cc t.content
  attribute-told (a ∷ b ∷ []) t = absurd cc t.content
  attribute-told (a ∷ b ∷ d ∷ []) t = absurd cc t.content

  -- a report control block
  texts-told : (rpt_id dat_set : List ℕ) (x : List ℕ × List ℕ) → block_texts_at rpt_id dat_set ≡ Ok x
      → (rpt_id ≡ text_word x.0) × (dat_set ≡ text_word x.1) × ((length x.0 ≤ 129) × (list_all is_graphic x.0 ≡ true)) × (list_all is_graphic x.1 ≡ true)
  texts-told rpt_id dat_set x e =
      let i = given-then _ (text_at 129 rpt_id) _ x e in
      let d = given-then _ (text_at 1000 dat_set) _ x i.2 in
      let it = text-tells 129 rpt_id i.0 i.1 in
      let dt = text-tells 1000 dat_set d.0 d.1 in
      let same : (i.0, d.0) ≡ x = ok_is _ x d.2 in
      subst (λ (x : List ℕ × List ℕ). (rpt_id ≡ text_word x.0) × (dat_set ≡ text_word x.1) × ((length x.0 ≤ 129) × (list_all is_graphic x.0 ≡ true)) × (list_all is_graphic x.1 ≡ true)) same (it.0, dt.0, (it.1, it.2), dt.2)

  abbrev Options : List ℕ → List ℕ → List ℕ → ℕ × List Bool × ℕ → Type 0
  Options conf_rev opt_flds buf_tm x = (conf_rev ≡ decimal x.0) × (opt_flds ≡ bits_word x.1) × (buf_tm ≡ decimal x.2) × ((1 ≤ x.0) × (x.0 ≤ 4294967295)) × (length x.1 ≡ 10) × (x.2 ≤ 4294967295)

  options-told : (conf_rev opt_flds buf_tm : List ℕ) (x : ℕ × List Bool × ℕ) → block_options_at conf_rev opt_flds buf_tm ≡ Ok x → Options conf_rev opt_flds buf_tm x
  options-told conf_rev opt_flds buf_tm x e =
      let r = given-then _ (number_within 1 4294967295 conf_rev) _ x e in
      let o = given-then _ (bits_at 10 opt_flds) _ x r.2 in
      let b = given-then _ (number_within 0 4294967295 buf_tm) _ x o.2 in
      let rt = number-tells 1 4294967295 conf_rev r.0 r.1 in
      let ot = bits-tell 10 opt_flds o.0 o.1 in
      let bt = number-tells 0 4294967295 buf_tm b.0 b.1 in
      subst (Options conf_rev opt_flds buf_tm) (ok_is (r.0, o.0, b.0) x b.2) (rt.0, ot.0, bt.0, (rt.1, rt.2), ot.1, bt.2)

  abbrev Triggers : List ℕ → List ℕ → List ℕ → List Bool × ℕ × ℕ → Type 0
  Triggers trg_ops intg_pd capacity x = (trg_ops ≡ bits_word x.0) × (intg_pd ≡ decimal x.1) × (capacity ≡ decimal x.2) × (length x.0 ≡ 6) × (x.1 ≤ 4294967295) × ((1 ≤ x.2) × (x.2 ≤ 1048576))

  triggers-told : (trg_ops intg_pd capacity : List ℕ) (x : List Bool × ℕ × ℕ) → block_triggers_at trg_ops intg_pd capacity ≡ Ok x → Triggers trg_ops intg_pd capacity x
  triggers-told trg_ops intg_pd capacity x e =
      let o = given-then _ (bits_at 6 trg_ops) _ x e in
      let p = given-then _ (number_within 0 4294967295 intg_pd) _ x o.2 in
      let c = given-then _ (number_within 1 1048576 capacity) _ x p.2 in
      let ot = bits-tell 6 trg_ops o.0 o.1 in
      let pt = number-tells 0 4294967295 intg_pd p.0 p.1 in
      let ct = number-tells 1 1048576 capacity c.0 c.1 in
      subst (Triggers trg_ops intg_pd capacity) (ok_is (o.0, p.0, c.0) x c.2) (ot.0, pt.0, ct.0, ot.1, pt.2, (ct.1, ct.2))

  block-told : (ws : List (List ℕ)) → Goes keywords.Brcb ws
  unfolding has_long may_stand has_many content_at words block_at block_fields_at
  block-told (name ∷ rpt_id ∷ dat_set ∷ conf_rev ∷ opt_flds ∷ buf_tm ∷ trg_ops ∷ intg_pd ∷ capacity ∷ []) t =
      let first = went (is_name name) _ _ line t.content in
      let new = passed (is_taken (claims before) (item_key (domain_of before) (node_of before) (codes "BR") name)) _ _ line first.1 in
      let i = ok-then (block_texts_at rpt_id dat_set) _ line new.1 in
      let o = ok-then (block_options_at conf_rev opt_flds buf_tm) _ line i.2 in
      let g = ok-then (block_triggers_at trg_ops intg_pd capacity) _ line o.2 in
      let it = texts-told rpt_id dat_set i.0 i.1 in
      let ot = options-told conf_rev opt_flds buf_tm o.0 o.1 in
      let gt = triggers-told trg_ops intg_pd capacity g.0 g.1 in
      let block : BlockDef = record { line = number_of before; domain = domain_of before; ln = node_of before; name = name; rpt_id = i.0.0; dat_set = i.0.1; conf_rev = o.0.0; opt_flds = o.0.1; buf_tm = o.0.2; trg_ops = g.0.0; intg_pd = g.0.1; capacity = g.0.2 } in
      subst (λ l. IsLine before text l) (ok_is (lines.Brcb block) line g.2)
      (record {
        short = t.short;
        room = t.room;
        spelled = (codes "brcb" ∷ name ∷ rpt_id ∷ dat_set ∷ conf_rev ∷ opt_flds ∷ buf_tm ∷ trg_ops ∷ intg_pd ∷ capacity ∷ [], t.is, same-block name rpt_id dat_set conf_rev opt_flds buf_tm trg_ops intg_pd capacity _ _ _ _ _ _ _ _ it.0 it.1 ot.0 ot.1 ot.2 gt.0 gt.1 gt.2);
        follows = record {
          here = refl;
          stands = node-place (place_of before) t.stands;
          few = leb-false 32 (blocks before) t.few;
          name = first.0;
          short = omega (arith, item-length (node_of before) (codes "BR") (below name (codes "TimeofEntry")), below-length name (codes "TimeofEntry"), not-long before (length name + 15) (named t.stands) t.long);
          new = new.0;
          rpt_id = it.2;
          dat_set = it.3;
          bits = (ot.4, gt.3);
          conf_rev = ot.3;
          times = (ot.5, gt.4);
          capacity = gt.5;
        };
      })
  block-told [] t = absurd cc t.content
  block-told (a ∷ []) t = absurd cc t.content
  block-told (a ∷ b ∷ []) t = absurd cc t.content
  block-told (a ∷ b ∷ d ∷ []) t = absurd cc t.content
  block-told (a ∷ b ∷ d ∷ e ∷ []) t = absurd cc t.content
  block-told (a ∷ b ∷ d ∷ e ∷ f ∷ []) t = absurd cc t.content
  block-told (a ∷ b ∷ d ∷ e ∷ f ∷ g ∷ []) t = absurd cc t.content
  block-told (a ∷ b ∷ d ∷ e ∷ f ∷ g ∷ h ∷ []) t = absurd cc t.content
  block-told (a ∷ b ∷ d ∷ e ∷ f ∷ g ∷ h ∷ i ∷ []) t = absurd cc t.content
  block-told (a ∷ b ∷ d ∷ e ∷ f ∷ g ∷ h ∷ i ∷ j ∷ k ∷ ws) t = absurd cc t.content

  control-told : (ws : List (List ℕ)) → Goes keywords.Ctl ws
  unfolding has_long may_stand has_many content_at words control_at control_fields_at
  control-told (path ∷ model ∷ timeout ∷ class ∷ kind ∷ []) t =
      let first = went (is_path path) _ _ line t.content in
      let new = passed (list_any (λ key. is_taken (claims before) key) (control_keys (domain_of before) (node_of before) path (model_of model))) _ _ line first.1 in
      let m = given-then _ (number_within 0 4 model) _ line new.1 in
      let s = given-then _ (number_within 1 4294967295 timeout) _ line m.2 in
      let c = given-then _ (number_within 0 1 class) _ line s.2 in
      let k = given-then _ (control_type_at kind) _ line c.2 in
      let mt = number-tells 0 4 model m.0 m.1 in
      let st = number-tells 1 4294967295 timeout s.0 s.1 in
      let ct = number-tells 0 1 class c.0 c.1 in
      let kt = control-type-told kind k.0 k.1 in
      let few = or_parts (nat_le 64 (controls before)) (nat_lt 7 (count_by is_dollar path)) t.few in
      let part = longest_part m.0 in
      let long = not-long before (length path + control_octets model) (named t.stands) t.long in
      let size : control_octets model ≡ 4 + length part = ap control_octets mt.0 ∙ longest m.0 mt.2 in
      let control : CtlDef = record { line = number_of before; domain = domain_of before; ln = node_of before; path = path; model = m.0; timeout = s.0; class = c.0; kind = k.0 } in
      subst (λ l. IsLine before text l) (ok_is (lines.Ctl control) line k.2)
      (record {
        short = t.short;
        room = t.room;
        spelled = (codes "ctl" ∷ path ∷ model ∷ timeout ∷ class ∷ kind ∷ [], t.is, ap₂ (λ a b. codes "ctl" ∷ path ∷ a ∷ b ∷ class ∷ kind ∷ []) mt.0 st.0 ∙ ap₂ (λ a b. codes "ctl" ∷ path ∷ decimal m.0 ∷ decimal s.0 ∷ a ∷ b ∷ []) ct.0 kt.1);
        follows = record {
          here = refl;
          stands = node-place (place_of before) t.stands;
          few = leb-false 64 (controls before) few.0;
          path = (first.0, ltb-false 7 _ few.1);
          short = omega (arith, item-length (node_of before) (codes "CO") (below path part), below-length path part, long, size);
          new = ap (λ o. list_any (λ key. is_taken (claims before) key) (control_keys (domain_of before) (node_of before) path (unwrap_or o 0))) (sym m.1) ∙ new.0;
          model = mt.2;
          timeout = (st.1, st.2);
          class = ct.2;
          type_ = kt.0;
        };
      })
  control-told [] t = absurd cc t.content
  control-told (a ∷ []) t = absurd cc t.content
  control-told (a ∷ b ∷ []) t = absurd cc t.content
  control-told (a ∷ b ∷ d ∷ []) t = absurd cc t.content
  control-told (a ∷ b ∷ d ∷ e ∷ []) t = absurd cc t.content
  control-told (a ∷ b ∷ d ∷ e ∷ f ∷ g ∷ ws) t = absurd cc t.content

  pub each-told : (key : Keyword) (ws : List (List ℕ)) → Goes key ws
  each-told keywords.Config ws t = config-told ws t
  each-told keywords.Server ws t = server-told ws t
  each-told keywords.Ld ws t = domain-told ws t
  each-told keywords.Ln ws t = node-told ws t
  each-told keywords.Attr ws t = attribute-told ws t
  each-told keywords.Set ws t = set-told ws t
  each-told keywords.Member ws t = member-told ws t
  each-told keywords.Brcb ws t = block-told ws t
  each-told keywords.Ctl ws t = control-told ws t
  each-told keywords.Sgcb ws t = groups-told ws t
  each-told keywords.End ws t = end-told ws t

  keyed-told : (key : Keyword) (ws : List (List ℕ)) → text ≡ join_with_byte 32 (word_of key ∷ ws) → AreWords ws → length text ≤ 1000 → has_long before (Some key) ws ≡ false → keyed_at before key ws ≡ Ok line → IsLine before text line
  unfolding keyed_at
  keyed-told key ws is are short long keyed =
      let count = went (counts before key ws) _ _ line keyed in
      let stands = went (may_stand before key ws) _ _ line count.1 in
      let few = passed (is_full before || has_many before key ws) _ _ line stands.1 in
      let room = or_parts (is_full before) (has_many before key ws) few.0 in
      each-told key ws (record { is = is; are = are; short = short; room = leb-false 20000 (length before) room.0; long = long; count = count.0; stands = stands.0; few = room.1; content = few.1 })

  words-told : (ws : List (List ℕ)) → words_of text ≡ ws → length text ≤ 1000 → tell_at before text ws ≡ Ok line → IsLine before text line
  unfolding tell_at
  words-told [] is short e = absurd cc e
  words-told (word ∷ ws) is short e =
      let long = passed (has_long before (keyword_at word) ws) _ _ line e in
      let clean = went (list_all is_printable text && not (list_any (λ w. length w == 0) ws)) _ _ line long.1 in
      let both = and_parts (list_all is_printable text) (not (list_any (λ w. length w == 0) ws)) clean.0 in
      let visible = and_parts (list_all is_graphic word) (list_all (λ word. list_all is_graphic word) ws) (ap (λ w. list_all (λ word. list_all is_graphic word) w) (sym is) ∙ split-words text both.0) in
      by (keyword_at word) refl (sym (join_with_byte-slice_split 32 text) ∙ ap (join_with_byte 32) is) (are-words ws visible.1 (not-true _ both.1)) long.0 clean.1
    where
      by : (o : Option Keyword) → keyword_at word ≡ o → text ≡ join_with_byte 32 (word ∷ ws) → AreWords ws → has_long before o ws ≡ false → known_at before o ws ≡ Ok line → IsLine before text line
      by None key is are long known = absurd cc known
      by (Some key) found is are long known = keyed-told key ws (is ∙ ap (λ w. join_with_byte 32 (w ∷ ws)) (key-is word key found)) are short long known

  skip-told : (t : List ℕ) → text ≡ t → is_skipped t ≡ true → length text ≤ 1000 → skip_at before text ≡ Ok line → IsLine before text line
  unfolding skip_at
  skip-told t is skipped short e =
      let clean = went (list_all is_printable text) _ _ line e in
      let room = passed (is_full before) _ _ line clean.1 in
      subst (λ l. IsLine before text l) (ok_is lines.Skip line room.1)
      (record { short = short; room = leb-false 20000 (length before) room.0; spelled = by t is skipped (ap (list_all is_printable) (sym is) ∙ clean.0); follows = tt })
    where
      by : (t : List ℕ) → text ≡ t → is_skipped t ≡ true → list_all is_printable t ≡ true → IsSkipped text
      by [] is skipped all = inl is
      by (octet ∷ rest) is skipped all = inr (rest, is ∙ ap (λ (o : ℕ). o ∷ rest) (eqb-true octet 35 skipped), (and_parts _ _ all).1)

  pub line-told : line_at before text ≡ Ok line → IsLine before text line
  unfolding line_at
  line-told e =
      let first = passed (nat_lt 1000 (length text)) _ _ line e in
      let short = ltb-false 1000 (length text) first.0 in
      by (is_skipped text) refl short first.1
    where
      by : (b : Bool) → is_skipped text ≡ b → length text ≤ 1000 → cond b (skip_at before text) (tell_at before text (words_of text)) ≡ Ok line → IsLine before text line
      by true skipped short e = skip-told text refl skipped short e
      by false skipped short e = words-told (words_of text) refl short e
