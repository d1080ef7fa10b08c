-- What the words after the first are refused for is the kind of the first that isn't right.
use Rattle.std.proofs.Common.{◌≡◌, ℕ, ◌<◌, ◌≤◌, ◌^◌, ◌↔◌, inl, inr, Bool, false, List, refl, sym, ap, subst, ◌∙◌, arith}
use Rattle.std.specs.Prelude.{Option, Some, None, Result, Ok, codes, unwrap_or}
use Rattle.std.specs.Fmt.{decimal}
use Rattle.std.specs.List.{list_any}
use Rattle.sv_base.specs.declared.types.TypeOf.{TypeOf}
use Rattle.sv_base.specs.declared.types.TypeOf.TheVariants as types
use Rattle.sv_base.specs.declared.value.Value.{Value}
use Rattle.text_words.specs.Names.{is_name, is_path, is_member, is_fc}
use Rattle.text_words.specs.Numbers.{number_within}
use Rattle.text_words.specs.Types.{type_at, flags_at, flags}
use Rattle.text_words.specs.Values.{text_at, bits_at, values_at}
use Rattle.text_words.proofs.ReadWordLaws.{by-word, none-some, number-tells, type-tells, flags-tell, bits-tell, text-tells, values-tell}
use Rattle.text_words.proofs.SpelledWordLaws.{number-within, flags-read, bits-read, text-read}
use Rattle.text_words.proofs.NameLaws.{values-read}
use Rattle.list_laws.proofs.Options.{some_is}
use Rattle.cfg_lines.specs.Keys.{is_among}
use Rattle.cfg_lines.specs.Paths.{node_key, item_key, is_taken}
use Rattle.cfg_lines.specs.Before.{domain_of, node_of}
use Rattle.cfg_lines.specs.Claims.{heads, sets, set_key, control_keys, group_key, claims}
use Rattle.cfg_lines.specs.declared.line.Line.{Line}
use Rattle.cfg_parser.specs.declared.fault.Kind.{Kind}
use Rattle.cfg_parser.specs.declared.fault.Kind.TheVariants as kinds
use Rattle.cfg_parser.specs.Kinds.{number_of}
use Rattle.cfg_parser.specs.Reader.{◌>>=◌, given}
use Rattle.cfg_parser.specs.Contents.{config_at, domain_at, node_at, set_at, member_at, typed_at, attribute_at, block_texts_at, block_options_at, block_triggers_at, block_fields_at, block_at, control_type_at, model_of, control_fields_at, control_at, group_fields_at, groups_at}
use Rattle.cfg_text.proofs.SpelledLineLaws.{spelled-type}
use Rattle.cfg_laws.specs.Words.{Else, IsNumber, IsTextValue, IsBits, IsTypeWord, IsFlags, AreValues, IsControlType, IsModel, IsFreeControl, IsActive, IsWrong}
use Rattle.cfg_laws.specs.Forms as forms
use Rattle.cfg_laws.specs.Kinds as numbers
use Rattle.cfg_laws.proofs.NameLaws.{any-is, none-is, among-is, constraint-is, name-is, path-is, reference-is, taken-is}
use Rattle.cfg_laws.specs.Names.{AnyIs, IsTaken}
use Rattle.cfg_laws.proofs.StepLaws.{err_of, nothing, if-right, if-wrong, Reads, given-right}

-- words
number-reads : (least most : ℕ) (word : List ℕ) → most < 2 ^ 64 → Reads (number_within least most word) (IsNumber least most word)
number-reads least most word small = (λ n e. let t = number-tells least most word n e in (n, t.0, t.1, t.2), by)
  where
    by : IsNumber least most word → (n : ℕ) × (number_within least most word ≡ Some n)
    by is = (is.0, ap (number_within least most) is.1 ∙ number-within least most is.0 is.2 is.3 (omega (arith, is.3, small)))

text-reads : (most : ℕ) (word : List ℕ) → Reads (text_at most word) (IsTextValue most word)
text-reads most word = (λ octets e. let t = text-tells most word octets e in (octets, t.0, t.1, t.2), λ is. (is.0, ap (text_at most) is.1 ∙ text-read most is.0 is.2 is.3))

bits-reads : (count : ℕ) (word : List ℕ) → Reads (bits_at count word) (IsBits count word)
bits-reads count word = (λ bits e. let t = bits-tell count word bits e in (bits, t.0, t.1), λ is. (is.0, ap (bits_at count) is.1 ∙ bits-read count is.0 is.2))

type-reads : (word : List ℕ) → Reads (type_at word) (IsTypeWord word)
type-reads word = (λ kind e. let t = type-tells word kind e in (kind, t.0, t.1), λ is. (is.0, spelled-type word is.0 is.1 is.2))

flags-reads : (word : List ℕ) → Reads (flags_at word) (IsFlags word)
flags-reads word = (λ f e. (f.dchg, f.qchg, f.dupd, flags-tell word f e), λ is. (flags is.0 is.1 is.2, ap flags_at is.3 ∙ flags-read is.0 is.1 is.2))

values-reads : (word : List ℕ) (words : List (List ℕ)) (kind : TypeOf) → type_at word ≡ Some kind → Reads (values_at kind words) (AreValues word words)
values-reads word words kind typed = (there, back)
  where
    there : (vs : List Value) → values_at kind words ≡ Some vs → AreValues word words
    there vs e = let t = type-tells word kind typed in let v = values-tell kind words vs e in (kind, vs, t.0, t.1, v.0, v.1)

    back : AreValues word words → (vs : List Value) × (values_at kind words ≡ Some vs)
    back is =
        let same : is.0 ≡ kind = some_is is.0 kind (sym (spelled-type word is.0 is.2 is.3) ∙ typed) in
        (is.1, ap (λ k. values_at k words) (sym same) ∙ values-read is.0 words is.1 is.4 is.5)

control-type-reads : (word : List ℕ) → Reads (control_type_at word) (IsControlType word)
control-type-reads word = (there, back)
  where
    there : (kind : TypeOf) → control_type_at word ≡ Some kind → IsControlType word
    there kind =
        by-word (λ k. IsControlType word) word (codes "bool") types.Bool kind _ (λ e. inl e)
        (by-word (λ k. IsControlType word) word (codes "int32") (types.Int 32) kind _ (λ e. inr e)
        (none-some kind (IsControlType word)))

    back : IsControlType word → (kind : TypeOf) × (control_type_at word ≡ Some kind)
    back (inl e) = (types.Bool, ap control_type_at e)
    back (inr e) = (types.Int 32, ap control_type_at e)

active-reads : (count active : List ℕ) (c : ℕ) → number_within 1 16 count ≡ Some c → Reads (number_within 1 c active) (IsActive count active)
active-reads count active c is = (there, back)
  where
    told : (count ≡ decimal c) × (1 ≤ c) × (c ≤ 16)
    told = number-tells 1 16 count c is

    there : (a : ℕ) → number_within 1 c active ≡ Some a → IsActive count active
    there a e = let t = number-tells 1 c active a e in (c, told.0, told.2, (a, t.0, t.1, t.2))

    back : IsActive count active → (a : ℕ) × (number_within 1 c active ≡ Some a)
    back has =
        let n = has.0 in
        let a = has.3 in
        let read = ap (number_within 1 16) has.1 ∙ number-within 1 16 n (omega (arith, a.2, a.3)) has.2 (omega (arith, has.2)) in
        let same : n ≡ c = some_is n c (sym read ∙ is) in
        (number-reads 1 c active (omega (arith, told.2))).1 (subst (λ m. IsNumber 1 m active) same a)

-- the names of a control
model-is : (word : List ℕ) (model : ℕ) → IsModel word model → model_of word ≡ model
model-is word model (inl is) = ap (λ o. unwrap_or o 0) (ap (number_within 0 4) is.0 ∙ number-within 0 4 model (omega arith) is.1 (omega (arith, is.1)))
model-is word model (inr none) = by (number_within 0 4 word) refl ∙ sym none.1
  where
    by : (o : Option ℕ) → number_within 0 4 word ≡ o → unwrap_or o 0 ≡ 0
    by None e = refl
    by (Some n) e = absurd (none.0 ((number-reads 0 4 word (omega arith)).0 n e))

is-model : (word : List ℕ) → IsModel word (model_of word)
is-model word = by (number_within 0 4 word) refl
  where
    none : number_within 0 4 word ≡ None → IsNumber 0 4 word → ⊥
    none e is = let n = (number-reads 0 4 word (omega arith)).1 is in absurd cc (sym e ∙ n.1)

    by : (o : Option ℕ) → number_within 0 4 word ≡ o → IsModel word (unwrap_or o 0)
    by None e = inr (none e, refl)
    by (Some n) e = let told = number-tells 0 4 word n e in inl (told.0, told.2)

abbrev has_control : List Line → List ℕ → ℕ → Bool
has_control before path model = list_any (λ key. is_taken (claims before) key) (control_keys (domain_of before) (node_of before) path model)

free-keys : (before : List Line) (path : List ℕ) (model : ℕ) → (has_control before path model ≡ false) ↔ (AnyIs (IsTaken (claims before)) (control_keys (domain_of before) (node_of before) path model) → ⊥)
free-keys before path model = none-is (has_control before path model) _ (any-is (λ key. is_taken (claims before) key) (IsTaken (claims before)) (taken-is (claims before)) (control_keys (domain_of before) (node_of before) path model))

free-control : (before : List Line) (path word : List ℕ) → (has_control before path (model_of word) ≡ false) ↔ IsFreeControl before path word
free-control before path word = (λ e. (model_of word, is-model word, (free-keys before path (model_of word)).0 e), λ is. ap (has_control before path) (model-is word is.0 is.1) ∙ (free-keys before path is.0).1 is.2)

-- lines
abbrev Judges : List Line → forms.Form → Kind → Result Line Kind → Type 0
Judges before form kind read = (read ≡ err_of Line kind) ↔ IsWrong before form (number_of kind)

abbrev same_line : Result Line Kind → Result Line Kind
same_line r = r

module _ (before : List Line) (kind : Kind) where
  pub config-wrong : (version : List ℕ) → Judges before (forms.Config version) kind (config_at version)
  config-wrong version = given-right (number_within 1 1 version) _ same_line kinds.Number kind _ ⊥ (λ k. refl) (number-reads 1 1 version (omega arith)) (λ n e. nothing _ kind)

  pub domain-wrong : (name : List ℕ) → Judges before (forms.Ld name) kind (domain_at before name)
  unfolding domain_at
  domain-wrong name = if-right (is_name name) _ kinds.Name kind _ _ (name-is name) (λ e. if-wrong (is_among (heads before) name) _ kinds.Duplicate kind _ ⊥ (none-is (is_among (heads before) name) _ (among-is (heads before) name)) (λ f. nothing _ kind))

  pub node-wrong : (name : List ℕ) → Judges before (forms.Ln name) kind (node_at before name)
  unfolding node_at
  node-wrong name = if-right (is_name name) _ kinds.Name kind _ _ (name-is name)
      (λ e. if-wrong (is_among (heads before) (node_key (domain_of before) name)) _ kinds.Duplicate kind _ ⊥ (none-is (is_among (heads before) (node_key (domain_of before) name)) _ (among-is (heads before) (node_key (domain_of before) name))) (λ f. nothing _ kind))

  pub set-wrong : (name : List ℕ) → Judges before (forms.Set name) kind (set_at before name)
  unfolding set_at
  set-wrong name = if-right (is_name name) _ kinds.Name kind _ _ (name-is name)
      (λ e. if-wrong (is_among (sets before) (set_key (domain_of before) (node_of before) name)) _ kinds.Duplicate kind _ ⊥ (none-is (is_among (sets before) (set_key (domain_of before) (node_of before) name)) _ (among-is (sets before) (set_key (domain_of before) (node_of before) name))) (λ f. nothing _ kind))

  pub member-wrong : (reference : List ℕ) → Judges before (forms.Member reference) kind (member_at reference)
  member-wrong reference = if-right (is_member reference) _ kinds.Name kind _ ⊥ (reference-is reference) (λ e. nothing _ kind)

  pub attribute-wrong : (fc path type_ flags : List ℕ) (values : List (List ℕ)) → Judges before (forms.Attr fc path type_ flags values) kind (attribute_at before fc path type_ flags values)
  unfolding attribute_at typed_at
  attribute-wrong fc path type_ flags values =
      if-right (is_fc fc) _ kinds.Name kind _ _ (constraint-is fc)
      (λ a. if-right (is_path path) _ kinds.Name kind _ _ (path-is path)
      (λ b. if-wrong (is_taken (claims before) (item_key (domain_of before) (node_of before) fc path)) _ kinds.Duplicate kind _ _ (none-is (is_taken (claims before) (item_key (domain_of before) (node_of before) fc path)) _ (taken-is (claims before) (item_key (domain_of before) (node_of before) fc path)))
      (λ d. given-right (type_at type_) _ same_line kinds.TypeName kind _ _ (λ k. refl) (type-reads type_)
      (λ t typed. given-right (flags_at flags) _ same_line kinds.Flags kind _ _ (λ k. refl) (flags-reads flags)
      (λ f e. given-right (values_at t values) _ same_line kinds.Value kind _ ⊥ (λ k. refl) (values-reads type_ values t typed)
      (λ v g. nothing _ kind))))))

  texts-wrong : (rpt_id dat_set : List ℕ) (f : List ℕ × List ℕ → Result Line Kind) (After : Type 0) → ((x : List ℕ × List ℕ) → (f x ≡ err_of Line kind) ↔ After)
      → ((block_texts_at rpt_id dat_set >>= f) ≡ err_of Line kind) ↔ Else (number_of kind) numbers.value (IsTextValue 129 rpt_id) (Else (number_of kind) numbers.value (IsTextValue 1000 dat_set) After)
  texts-wrong rpt_id dat_set f After step =
      given-right (text_at 129 rpt_id) (λ i. given kinds.Value (text_at 1000 dat_set) >>= λ d. Ok (i, d)) (λ r. r >>= f) kinds.Value kind _ _ (λ k. refl) (text-reads 129 rpt_id)
      (λ i a. given-right (text_at 1000 dat_set) (λ d. Ok (i, d)) (λ r. r >>= f) kinds.Value kind _ After (λ k. refl) (text-reads 1000 dat_set)
      (λ d b. step (i, d)))

  options-wrong : (conf_rev opt_flds buf_tm : List ℕ) (f : ℕ × List Bool × ℕ → Result Line Kind) (After : Type 0) → ((x : ℕ × List Bool × ℕ) → (f x ≡ err_of Line kind) ↔ After)
      → ((block_options_at conf_rev opt_flds buf_tm >>= f) ≡ err_of Line kind)
      ↔ Else (number_of kind) numbers.number (IsNumber 1 4294967295 conf_rev) (Else (number_of kind) numbers.value (IsBits 10 opt_flds) (Else (number_of kind) numbers.number (IsNumber 0 4294967295 buf_tm) After))
  options-wrong conf_rev opt_flds buf_tm f After step =
      given-right (number_within 1 4294967295 conf_rev) (λ r. given kinds.Value (bits_at 10 opt_flds) >>= λ o. given kinds.Number (number_within 0 4294967295 buf_tm) >>= λ b. Ok (r, o, b)) (λ r. r >>= f) kinds.Number kind _ _ (λ k. refl)
      (number-reads 1 4294967295 conf_rev (omega arith))
      (λ r a. given-right (bits_at 10 opt_flds) (λ o. given kinds.Number (number_within 0 4294967295 buf_tm) >>= λ b. Ok (r, o, b)) (λ r. r >>= f) kinds.Value kind _ _ (λ k. refl) (bits-reads 10 opt_flds)
      (λ o d. given-right (number_within 0 4294967295 buf_tm) (λ b. Ok (r, o, b)) (λ r. r >>= f) kinds.Number kind _ After (λ k. refl) (number-reads 0 4294967295 buf_tm (omega arith))
      (λ b e. step (r, o, b))))

  triggers-wrong : (trg_ops intg_pd capacity : List ℕ) (f : List Bool × ℕ × ℕ → Result Line Kind) (After : Type 0) → ((x : List Bool × ℕ × ℕ) → (f x ≡ err_of Line kind) ↔ After)
      → ((block_triggers_at trg_ops intg_pd capacity >>= f) ≡ err_of Line kind)
      ↔ Else (number_of kind) numbers.value (IsBits 6 trg_ops) (Else (number_of kind) numbers.number (IsNumber 0 4294967295 intg_pd) (Else (number_of kind) numbers.number (IsNumber 1 1048576 capacity) After))
  triggers-wrong trg_ops intg_pd capacity f After step =
      given-right (bits_at 6 trg_ops) (λ t. given kinds.Number (number_within 0 4294967295 intg_pd) >>= λ p. given kinds.Number (number_within 1 1048576 capacity) >>= λ c. Ok (t, p, c)) (λ r. r >>= f) kinds.Value kind _ _ (λ k. refl)
      (bits-reads 6 trg_ops)
      (λ t a. given-right (number_within 0 4294967295 intg_pd) (λ p. given kinds.Number (number_within 1 1048576 capacity) >>= λ c. Ok (t, p, c)) (λ r. r >>= f) kinds.Number kind _ _ (λ k. refl) (number-reads 0 4294967295 intg_pd (omega arith))
      (λ p d. given-right (number_within 1 1048576 capacity) (λ c. Ok (t, p, c)) (λ r. r >>= f) kinds.Number kind _ After (λ k. refl) (number-reads 1 1048576 capacity (omega arith))
      (λ c e. step (t, p, c))))

  pub block-wrong : (name rpt_id dat_set conf_rev opt_flds buf_tm trg_ops intg_pd capacity : List ℕ)
      → Judges before (forms.Brcb name rpt_id dat_set conf_rev opt_flds buf_tm trg_ops intg_pd capacity) kind (block_at before name rpt_id dat_set conf_rev opt_flds buf_tm trg_ops intg_pd capacity)
  unfolding block_at block_fields_at
  block-wrong name rpt_id dat_set conf_rev opt_flds buf_tm trg_ops intg_pd capacity =
      if-right (is_name name) _ kinds.Name kind _ _ (name-is name)
      (λ a. if-wrong (is_taken (claims before) (item_key (domain_of before) (node_of before) (codes "BR") name)) _ kinds.Duplicate kind _ _ (none-is (is_taken (claims before) (item_key (domain_of before) (node_of before) (codes "BR") name)) _ (taken-is (claims before) (item_key (domain_of before) (node_of before) (codes "BR") name)))
      (λ b. texts-wrong rpt_id dat_set _ _ (λ ids. options-wrong conf_rev opt_flds buf_tm _ _ (λ options. triggers-wrong trg_ops intg_pd capacity _ ⊥ (λ triggers. nothing _ kind)))))

  pub control-wrong : (path model timeout class type_ : List ℕ) → Judges before (forms.Ctl path model timeout class type_) kind (control_at before path model timeout class type_)
  unfolding control_at control_fields_at
  control-wrong path model timeout class type_ =
      if-right (is_path path) _ kinds.Name kind _ _ (path-is path)
      (λ a. if-wrong (has_control before path (model_of model)) _ kinds.Duplicate kind _ _ (free-control before path model)
      (λ b. given-right (number_within 0 4 model) _ same_line kinds.Number kind _ _ (λ k. refl) (number-reads 0 4 model (omega arith))
      (λ m d. given-right (number_within 1 4294967295 timeout) _ same_line kinds.Number kind _ _ (λ k. refl) (number-reads 1 4294967295 timeout (omega arith))
      (λ t e. given-right (number_within 0 1 class) _ same_line kinds.Number kind _ _ (λ k. refl) (number-reads 0 1 class (omega arith))
      (λ c f. given-right (control_type_at type_) _ same_line kinds.TypeName kind _ ⊥ (λ k. refl) (control-type-reads type_)
      (λ k g. nothing _ kind))))))

  pub groups-wrong : (count active : List ℕ) → Judges before (forms.Sgcb count active) kind (groups_at before count active)
  unfolding groups_at group_fields_at
  groups-wrong count active =
      if-wrong (is_taken (claims before) (group_key (domain_of before) (codes "LLN0"))) _ kinds.Duplicate kind _ _ (none-is (is_taken (claims before) (group_key (domain_of before) (codes "LLN0"))) _ (taken-is (claims before) (group_key (domain_of before) (codes "LLN0"))))
      (λ a. given-right (number_within 1 16 count) _ same_line kinds.Number kind _ _ (λ k. refl) (number-reads 1 16 count (omega arith))
      (λ c b. given-right (number_within 1 c active) _ same_line kinds.Number kind _ ⊥ (λ k. refl) (active-reads count active c b)
      (λ n d. nothing _ kind)))
