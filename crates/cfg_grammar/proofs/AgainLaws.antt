-- Each line may stand where it is written anew, and the lines make the same.
use Rattle.std.proofs.Common.{◌≡◌, ℕ, ◌+◌, ◌≤◌, ◌<◌, ◌⊎◌, inl, inr, false, List, [], ◌∷◌, length, length-append, map, refl, sym, ap, ap₂, subst, ◌∙◌, arith}
use Rattle.std.specs.Prelude.{codes, if◌then◌else◌}
use Rattle.std.specs.Fmt.{digits}
use Rattle.std.specs.List.{list_any, join_with_byte}
use Rattle.std.specs.Str.{bytes_eq}
use Rattle.sv_base.specs.Same.{values_of}
use Rattle.sv_base.specs.declared.config.LnDef.{LnDef}
use Rattle.sv_base.specs.declared.config.AttrDef.{AttrDef}
use Rattle.sv_base.specs.declared.config.SetDef.{SetDef}
use Rattle.sv_base.specs.declared.config.BlockDef.{BlockDef}
use Rattle.sv_base.specs.declared.config.CtlDef.{CtlDef}
use Rattle.sv_base.specs.declared.config.SgDef.{SgDef}
use Rattle.sv_base.specs.declared.types.TypeOf.{TypeOf}
use Rattle.sv_base.specs.declared.value.Value.{Value}
use Rattle.cfg_lines.specs.declared.line.Line.{Line}
use Rattle.cfg_lines.specs.declared.line.Line.TheVariants as lines
use Rattle.cfg_lines.specs.declared.line.Place.{Place}
use Rattle.cfg_lines.specs.declared.line.Place.TheVariants as places
use Rattle.cfg_lines.specs.Paths.{below, node_key, item_key, is_taken}
use Rattle.cfg_lines.specs.Keys.{is_among}
use Rattle.cfg_lines.specs.Before.{number_of, domain_of, node_of}
use Rattle.cfg_lines.specs.Claims.{heads, set_key, control_keys, group_key, claims}
use Rattle.cfg_lines.specs.Claims as claimed
use Rattle.text_words.specs.Spelled.{type_word, value_word, flags_word}
use Rattle.cfg_lines.specs.Spelled.{words, spelled}
use Rattle.text_words.specs.Grammar.{SpellsType, SpellsValue, SpellValues}
use Rattle.cfg_grammar.specs.Grammar.{Spells}
use Rattle.cfg_grammar.specs.Follows.{IsInNode, IsBetween, IsInDomain, IsInSet, IsItem, longest_part, Follows, IsLine}
use Rattle.cfg_grammar.proofs.FreshLaws.{renumbered, fresh, place-fresh, domain-fresh, node-fresh, groups-fresh, settings-fresh, domains-fresh, nodes-fresh, attributes-fresh, sets-fresh, blocks-fresh, controls-fresh, members-fresh, heads-fresh, set-keys-fresh, claims-fresh, length-fresh}

-- places
again-in-node : (before : List Line) → IsInNode before → IsInNode (fresh before)
again-in-node before is = subst (λ (p : Place). (p ≡ places.InNode) ⊎ (p ≡ places.InMembers)) (sym (place-fresh before)) is

again-between : (before : List Line) → IsBetween before → IsBetween (fresh before)
again-between before is = subst (λ (p : Place). (p ≡ places.Served) ⊎ ((p ≡ places.InNode) ⊎ (p ≡ places.InMembers))) (sym (place-fresh before)) is

again-in-domain : (before : List Line) → IsInDomain before → IsInDomain (fresh before)
again-in-domain before is = subst (λ (p : Place). (p ≡ places.InDomain) ⊎ ((p ≡ places.InNode) ⊎ (p ≡ places.InMembers))) (sym (place-fresh before)) is

again-in-set : (before : List Line) → IsInSet before → IsInSet (fresh before)
again-in-set before is = subst (λ (p : Place). (p ≡ places.InSet) ⊎ (p ≡ places.InMembers)) (sym (place-fresh before)) is

again-item : (before : List Line) (fc path : List ℕ) → IsItem (node_of before) fc path → IsItem (node_of (fresh before)) fc path
again-item before fc path is = subst (λ n. IsItem n fc path) (sym (node-fresh before)) is

again-free : (before : List Line) (fc path : List ℕ) → is_taken (claims before) (item_key (domain_of before) (node_of before) fc path) ≡ false → is_taken (claims (fresh before)) (item_key (domain_of (fresh before)) (node_of (fresh before)) fc path) ≡ false
again-free before fc path is = ap (λ cs. is_taken cs (item_key (domain_of (fresh before)) (node_of (fresh before)) fc path)) (claims-fresh before)
    ∙ (ap₂ (λ d n. is_taken (claims before) (item_key d n fc path)) (domain-fresh before) (node-fresh before) ∙ is)

pub again-follows : (before : List Line) (line : Line) → Follows before line → Follows (fresh before) (renumbered (number_of (fresh before)) line)
again-follows before lines.Skip f = tt
again-follows before lines.Config f = place-fresh before ∙ f
again-follows before (lines.Server vendor model revision) f = (place-fresh before ∙ f.0, f.1, f.2, f.3)
again-follows before (lines.Ld name) f = (again-between before f.0, subst (λ n. n < 16) (sym (domains-fresh before)) f.1, f.2, ap (λ hs. is_among hs name) (heads-fresh before) ∙ f.3)
again-follows before (lines.Ln node) f = record {
  here = ap (λ d. record node { line = number_of (fresh before); domain = d }) (ap (λ (n : LnDef). n.domain) f.here ∙ sym (domain-fresh before));
  stands = again-in-domain before f.stands;
  few = subst (λ n. n < 256) (sym (nodes-fresh before)) f.few;
  name = f.name;
  new = ap₂ (λ hs d. is_among hs (node_key d node.ln)) (heads-fresh before) (domain-fresh before) ∙ f.new;
}
again-follows before (lines.Attr attr) f = record {
  here = ap₂ (λ d l. record attr { line = number_of (fresh before); domain = d; ln = l }) (ap (λ (a : AttrDef). a.domain) f.here ∙ sym (domain-fresh before)) (ap (λ (a : AttrDef). a.ln) f.here ∙ sym (node-fresh before));
  stands = again-in-node before f.stands;
  few = subst (λ n. n < 10000) (sym (attributes-fresh before)) f.few;
  constraint = f.constraint;
  path = f.path;
  short = again-item before attr.fc attr.path f.short;
  new = again-free before attr.fc attr.path f.new;
  type_ = f.type_;
  values = f.values;
  count = subst (λ g. (1 ≤ (if bytes_eq attr.fc (codes "SG") then g else 1)) × (length (values_of attr.values) ≡ (if bytes_eq attr.fc (codes "SG") then g else 1))) (sym (groups-fresh before)) f.count;
}
again-follows before (lines.Set set) f = record {
  here = ap₂ (λ d l. record set { line = number_of (fresh before); domain = d; ln = l }) (ap (λ (s : SetDef). s.domain) f.here ∙ sym (domain-fresh before)) (ap (λ (s : SetDef). s.ln) f.here ∙ sym (node-fresh before))
      ∙ ap (λ ms. record set { line = number_of (fresh before); domain = domain_of (fresh before); ln = node_of (fresh before); members = ms }) (ap (λ (s : SetDef). s.members) f.here);
  stands = again-in-node before f.stands;
  few = subst (λ n. n < 128) (sym (sets-fresh before)) f.few;
  name = f.name;
  short = subst (λ n. length (below n set.name) ≤ 64) (sym (node-fresh before)) f.short;
  new = ap (λ ks. is_among ks (set_key (domain_of (fresh before)) (node_of (fresh before)) set.name)) (set-keys-fresh before)
      ∙ (ap₂ (λ d n. is_among (claimed.sets before) (set_key d n set.name)) (domain-fresh before) (node-fresh before) ∙ f.new);
}
again-follows before (lines.Member reference) f = record { stands = again-in-set before f.stands; few = subst (λ n. n < 256) (sym (members-fresh before)) f.few; name = f.name; names = f.names; short = f.short }
again-follows before (lines.Brcb block) f = record {
  here = ap₂ (λ d l. record block { line = number_of (fresh before); domain = d; ln = l }) (ap (λ (b : BlockDef). b.domain) f.here ∙ sym (domain-fresh before)) (ap (λ (b : BlockDef). b.ln) f.here ∙ sym (node-fresh before));
  stands = again-in-node before f.stands;
  few = subst (λ n. n < 32) (sym (blocks-fresh before)) f.few;
  name = f.name;
  short = again-item before (codes "BR") (below block.name (codes "TimeofEntry")) f.short;
  new = again-free before (codes "BR") block.name f.new;
  rpt_id = f.rpt_id;
  dat_set = f.dat_set;
  bits = f.bits;
  conf_rev = f.conf_rev;
  times = f.times;
  capacity = f.capacity;
}
again-follows before (lines.Ctl control) f = record {
  here = ap₂ (λ d l. record control { line = number_of (fresh before); domain = d; ln = l }) (ap (λ (c : CtlDef). c.domain) f.here ∙ sym (domain-fresh before)) (ap (λ (c : CtlDef). c.ln) f.here ∙ sym (node-fresh before));
  stands = again-in-node before f.stands;
  few = subst (λ n. n < 64) (sym (controls-fresh before)) f.few;
  path = f.path;
  short = again-item before (codes "CO") (below control.path (longest_part control.model)) f.short;
  new = ap (λ cs. list_any (λ key. is_taken cs key) (control_keys (domain_of (fresh before)) (node_of (fresh before)) control.path control.model)) (claims-fresh before)
      ∙ (ap₂ (λ d n. list_any (λ key. is_taken (claims before) key) (control_keys d n control.path control.model)) (domain-fresh before) (node-fresh before) ∙ f.new);
  model = f.model;
  timeout = f.timeout;
  class = f.class;
  type_ = f.type_;
}
again-follows before (lines.Sgcb groups) f = record {
  here = ap (λ d. record groups { line = number_of (fresh before); domain = d }) (ap (λ (g : SgDef). g.domain) f.here ∙ sym (domain-fresh before));
  stands = (again-in-node before f.stands.0, node-fresh before ∙ f.stands.1);
  early = settings-fresh before ∙ f.early;
  new = ap₂ (λ cs d. is_taken cs (group_key d (codes "LLN0"))) (claims-fresh before) (domain-fresh before) ∙ f.new;
  count = f.count;
  active = f.active;
}
again-follows before lines.End f = again-between before f

-- what is written is no longer
type-shorter : (word : List ℕ) (kind : TypeOf) → SpellsType word kind → length (type_word kind) ≤ length word
unfolding type_word digits
type-shorter word kind (inl e) = omega (arith, ap length e)
type-shorter word kind (inr (inl e)) = subst (λ k. length (type_word k) ≤ length word) (sym e.1) (omega (arith, ap length e.0))
type-shorter word kind (inr (inr e)) = subst (λ k. length (type_word k) ≤ length word) (sym e.1) (omega (arith, ap length e.0))

value-shorter : (word : List ℕ) (value : Value) → SpellsValue word value → length (value_word value) ≤ length word
unfolding value_word digits
value-shorter word value (inl e) = omega (arith, ap length e)
value-shorter word value (inr e) = subst (λ v. length (value_word v) ≤ length word) (sym e.1) (omega (arith, ap length e.0))

join-length : (word next : List ℕ) (more : List (List ℕ)) → length (join_with_byte 32 (word ∷ next ∷ more)) ≡ length word + length (join_with_byte 32 (next ∷ more)) + 1
join-length word next more = omega (arith, length-append word (32 ∷ join_with_byte 32 (next ∷ more)))

values-shorter : (least word : List ℕ) (ws : List (List ℕ)) (vs : List Value) → length least ≤ length word → SpellValues ws vs → length (join_with_byte 32 (least ∷ map value_word vs)) ≤ length (join_with_byte 32 (word ∷ ws))
values-shorter least word [] [] le spelled = le
values-shorter least word [] (v ∷ vs) le spelled = absurd spelled
values-shorter least word (w ∷ ws) [] le spelled = absurd spelled
values-shorter least word (w ∷ ws) (v ∷ vs) le spelled =
    omega (arith, le, join-length least (value_word v) (map value_word vs), join-length word w ws, values-shorter (value_word v) w ws vs (value-shorter w v spelled.0) spelled.1)

same-length : (text : List ℕ) (line : Line) → text ≡ spelled line → length (spelled line) ≤ length text
same-length text line e = omega (arith, ap length e)

pub shorter : (text : List ℕ) (line : Line) → Spells text line → length (spelled line) ≤ length text
unfolding words
shorter text lines.Skip is = omega arith
shorter text lines.Config is = same-length text lines.Config (is.1 ∙ ap (join_with_byte 32) is.2)
shorter text (lines.Server vendor model revision) is = same-length text (lines.Server vendor model revision) (is.1 ∙ ap (join_with_byte 32) is.2)
shorter text (lines.Ld name) is = same-length text (lines.Ld name) (is.1 ∙ ap (join_with_byte 32) is.2)
shorter text (lines.Ln node) is = same-length text (lines.Ln node) (is.1 ∙ ap (join_with_byte 32) is.2)
shorter text (lines.Attr attr) is =
    let kind = is.2.0 in
    let vs = is.2.1 in
    let flags = flags_word attr.dchg attr.qchg attr.dupd in
    let whole = is.1 ∙ ap (join_with_byte 32) is.2.4 in
    let written = map value_word (values_of attr.values) in
    omega (
      arith,
      ap length whole,
      type-shorter kind attr.kind is.2.2,
      values-shorter flags flags vs (values_of attr.values) (omega arith) is.2.3,
      join-length (codes "attr") attr.fc (attr.path ∷ kind ∷ flags ∷ vs),
      join-length attr.fc attr.path (kind ∷ flags ∷ vs),
      join-length attr.path kind (flags ∷ vs),
      join-length kind flags vs,
      join-length (codes "attr") attr.fc (attr.path ∷ type_word attr.kind ∷ flags ∷ written),
      join-length attr.fc attr.path (type_word attr.kind ∷ flags ∷ written),
      join-length attr.path (type_word attr.kind) (flags ∷ written),
      join-length (type_word attr.kind) flags written,
    )
shorter text (lines.Set set) is = same-length text (lines.Set set) (is.1 ∙ ap (join_with_byte 32) is.2)
shorter text (lines.Member reference) is = same-length text (lines.Member reference) (is.1 ∙ ap (join_with_byte 32) is.2)
shorter text (lines.Brcb block) is = same-length text (lines.Brcb block) (is.1 ∙ ap (join_with_byte 32) is.2)
shorter text (lines.Ctl control) is = same-length text (lines.Ctl control) (is.1 ∙ ap (join_with_byte 32) is.2)
shorter text (lines.Sgcb groups) is = same-length text (lines.Sgcb groups) (is.1 ∙ ap (join_with_byte 32) is.2)
shorter text lines.End is = same-length text lines.End (is.1 ∙ ap (join_with_byte 32) is.2)

values-spelled : (vs : List Value) → SpellValues (map value_word vs) vs
values-spelled [] = tt
values-spelled (v ∷ vs) = (inl refl, values-spelled vs)

spells-itself : (n : ℕ) (line : Line) → Spells (spelled line) (renumbered n line)
unfolding words
spells-itself n lines.Skip = inl refl
spells-itself n lines.Config = (_, refl, refl)
spells-itself n (lines.Server vendor model revision) = (_, refl, refl)
spells-itself n (lines.Ld name) = (_, refl, refl)
spells-itself n (lines.Ln node) = (_, refl, refl)
spells-itself n (lines.Attr attr) = (_, refl, (type_word attr.kind, map value_word (values_of attr.values), inl refl, values-spelled (values_of attr.values), refl))
spells-itself n (lines.Set set) = (_, refl, refl)
spells-itself n (lines.Member reference) = (_, refl, refl)
spells-itself n (lines.Brcb block) = (_, refl, refl)
spells-itself n (lines.Ctl control) = (_, refl, refl)
spells-itself n (lines.Sgcb groups) = (_, refl, refl)
spells-itself n lines.End = (_, refl, refl)

pub again : (before : List Line) (text : List ℕ) (line : Line) → IsLine before text line → IsLine (fresh before) (spelled line) (renumbered (number_of (fresh before)) line)
again before text line is = record {
  short = omega (arith, is.short, shorter text line is.spelled);
  room = omega (arith, is.room, length-fresh before);
  spelled = spells-itself (number_of (fresh before)) line;
  follows = again-follows before line is.follows;
}
