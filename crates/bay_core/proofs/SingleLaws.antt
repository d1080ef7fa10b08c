-- Single writes: what the store and the blocks answer is what the definitions have.
use Rattle.std.proofs.Common.{◌≡◌, ◌<◌, ◌∙◌, ℕ, zero, suc, Bool, true, false, not, List, [], ◌∷◌, ◌++◌, map, take, None, Some, Result, Ok, Err, length, refl, ap, ap₂, sym, subst, arith, unwrap_or, if◌then◌else◌, inl, inr, flat_map, ◌+◌}
use Rattle.std.specs.Prelude.{slice_get, slice_set, ◌&&◌, ◌==◌, ◌||◌, codes}
use Rattle.std.specs.Option.{option_map}
use Rattle.std.specs.Str.{bytes_eq}
use Rattle.std.proofs.lemmas.List.{length-set, map-append}
use Rattle.std.proofs.Common.{append_assoc, length-append}
use Rattle.std.proofs.lemmas.Bool.Decides.{eqb_tells}
use Rattle.std.specs.List.{All}
use Rattle.std.proofs.lemmas.List.Elements.{All-nil, All-cons, All-append, All-head, All-tail}
use Rattle.list_laws.proofs.Options.{some_is}
use Rattle.list_laws.proofs.Places.{at_own, same-number}
use Rattle.name_leaves.specs.declared.what.What.{What}
use Rattle.name_leaves.specs.Seen.{role_seen}
use Rattle.sv_base.specs.declared.numbers.NodeId.{NodeId}
use Rattle.bay_model.specs.declared.request.Write.{Write}
use Rattle.sv_base.specs.declared.config.Config.{Config}
use Rattle.sv_base.specs.declared.config.AttrDef.{AttrDef}
use Rattle.sv_base.specs.declared.config.CtlDef.{CtlDef}
use Rattle.sv_base.specs.Same.{is_same}
use Rattle.sv_base.specs.declared.numbers.AssocNo.{AssocNo}
use Rattle.sv_base.specs.declared.value.Value.{Value}
use Rattle.sv_base.specs.Kinds.{is_kind, is_in_range, kind_of}
use Rattle.sv_base.specs.declared.components.Comp.{Comp}
use Rattle.sv_base.specs.declared.config.SgDef.{SgDef}
use Rattle.setting_groups.specs.Opened.{IsGrouped}
use Rattle.setting_groups.specs.Frames.{IsFramed}
use Rattle.setting_groups.specs.Grouped.{Grouped}
use Rattle.setting_groups.proofs.FirstLaws.{groups-there, settings-count, generated-count, lines-count}
use Rattle.bay_replies.specs.Given.{copies_from}
use Rattle.bay_replies.specs.Plain.{HasGroups, IsPlainRole}
use Rattle.bay_replies.proofs.NodeLaws.{node-plain}
use Rattle.bay_model.specs.declared.flags.Change.{Change}
use Rattle.bay_model.specs.declared.tables.NodeRow.{NodeRow}
use Rattle.bay_model.specs.Attributes.{access_of, attributes, attr_defined, attrs_defined, attrs_generated, twins}
use Rattle.bay_model.specs.Generated.{Parameter, parameters}
use Rattle.bay_model.specs.BlockWrites.{write_component}
use Rattle.bay_model.specs.Lookups.{attr_of, node_of, no_attr}
use Rattle.bay_model.specs.Model as model
use Rattle.bay_model.specs.Model.{Model, Access, Attr, Role}
use Rattle.bay_model.specs.Named.{configured_model}
use Rattle.bay_model.specs.NamedLines.{domain_number, generated}
use Rattle.bay_model.specs.Outcomes.{Outcome, did, refused, deed_of, code_of}
use Rattle.bay_model.specs.Points.{Deed, Past, put}
use Rattle.bay_model.specs.Settings.{set_to}
use Rattle.bay_model.specs.Writes.{write_node, write_role}
use Rattle.bay_model.specs.SettingWrites.{attribute_refusals, write_attribute}
use Rattle.bay_model.specs.Outcomes.{first_code}
use Rattle.bay_model.specs.Singles.{Single, writes, write_of, writes_of, arrival, outcome_at, outcome_of, outcomes, after_single, after_singles}
use Rattle.value_store.specs.declared.fault.SetFault.{SetFault}
use Rattle.value_store.specs.declared.fault.SetFault.TheVariants as faults
use Rattle.value_store.specs.declared.store.Changed.{Changed}
use Rattle.value_store.specs.Opened.{is_writable}
use Rattle.value_store.specs.Stored.{Stored, attribute, no_attribute, outcome, with_value}
use Rattle.window_core.specs.Points.{at}
use Rattle.bay_config.specs.Servable.{IsServable}
use Rattle.bay_core.specs.Asked.{IsKept, IsWrite, AreWrites, node_numbers, set_code}
use Rattle.bay_values.specs.Changed.{given, last_set, change_from, without_change, AreMade, AreTyped, IsTyped}
use Rattle.assoc_table.specs.Tables.{IsNumber}
use Rattle.bay_core.specs.Put.{AreGeneral, IsOpenAt, answer_at, general_at, written_at}
use Rattle.bay_core.specs.Written.{named_by}
use Rattle.object_model.specs.Fits.{is_sound}
use Rattle.report_block.specs.declared.block.ReportBlock.{ReportBlock}
use Rattle.report_block.specs.Writes.{without_effect}
use Rattle.trigger_core.specs.Noted.{change_of}
use Rattle.bay_core.specs.Standing.{StandsAt}
use Rattle.block_watch.specs.Served.{AreServedSets}
use Rattle.bay_core.specs.State.{State}
use Rattle.bay_values.specs.Held.{AreHeld}
use Rattle.bay_values.proofs.FirstValues.{kind-told}
use Rattle.bay_core.proofs.MoveLaws.{again, groups-quiet}
use Rattle.bay_core.proofs.ArriveLaws.{HaveMembers}
use Rattle.bay_values.proofs.ChangeLaws.{IsThere, held-after}
use Rattle.bay_core.proofs.WriteLaws.{component-wrote}
use Rattle.bay_core.proofs.SettingLaws.{one_set, client-sets, set_at, stands-set}
use Rattle.list_laws.proofs.Among.{each-of}

-- ---- the attribute of a line or of a control doesn't stand under SE

abbrev pub IsOwn : Access → Type 0
IsOwn model.edited = ⊥
IsOwn _ = Unit {0}

own-access : (fc : List ℕ) → IsOwn (access_of fc)
own-access fc = by (bytes_eq fc (codes "SG")) (bytes_eq fc (codes "CF") || bytes_eq fc (codes "DC") || bytes_eq fc (codes "SP") || bytes_eq fc (codes "SV")) where
  by : (s t : Bool) → IsOwn (if s then model.active else (if t then model.writable else model.reported))
  by true t = tt
  by false true = tt
  by false false = tt

abbrev IsOwnAttr : Attr → Type 0
IsOwnAttr a = IsOwn a.access

own-lines : (c : Config) (y : ℕ) (ls : List AttrDef) → All IsOwnAttr (attrs_defined c y ls)
own-lines c y [] = All-nil IsOwnAttr
own-lines c y (a ∷ ls) = All-cons IsOwnAttr (attr_defined c y a) (attrs_defined c (1 + y) ls) (own-access a.fc) (own-lines c (1 + y) ls)

abbrev generated_as : Config → CtlDef → Parameter → Attr
generated_as c k p = record { access = model.reported; kind = kind_of p.kind; dchg = false; qchg = false; dupd = false; initial = p.value ∷ []; domain = domain_number c k.domain; original = 0 }

own-parameters : (c : Config) (k : CtlDef) (ps : List Parameter) → All IsOwnAttr (map (generated_as c k) ps)
own-parameters c k [] = All-nil IsOwnAttr
own-parameters c k (p ∷ ps) = All-cons IsOwnAttr (generated_as c k p) (map (generated_as c k) ps) tt (own-parameters c k ps)

own-generated : (c : Config) (ks : List CtlDef) → All IsOwnAttr (flat_map (attrs_generated c) ks)
own-generated c [] = All-nil IsOwnAttr
own-generated c (k ∷ ks) = All-append IsOwnAttr (attrs_generated c k) (flat_map (attrs_generated c) ks) (own-parameters c k (parameters k)) (own-generated c ks)

own-among : (xs ys : List Attr) (x : ℕ) → x < length xs → All IsOwnAttr xs → IsOwn (unwrap_or (slice_get (xs ++ ys) x) no_attr).access
own-among [] ys x below all = absurd (omega (arith, below))
own-among (a ∷ xs) ys zero below all = All-head IsOwnAttr a xs all
own-among (a ∷ xs) ys (suc x) below all = own-among xs ys x (omega (arith, below)) (All-tail IsOwnAttr a xs all)

-- where the edit copies begin
pub copies-from : (c : Config) (stored : List Stored) (groups : Grouped) → AreHeld c stored → IsFramed c groups → copies_from stored groups ≡ length c.attrs + length (generated c)
copies-from c stored groups held framed = omega (arith, held.count, settings-count c groups framed)

pub own-at : (c : Config) (stored : List Stored) (groups : Grouped) → AreHeld c stored → IsFramed c groups → (x : ℕ) → x < copies_from stored groups → IsOwn (attr_of (configured_model c) x).access
own-at c stored groups held framed x below =
    let lines : List Attr = attrs_defined c 0 c.attrs in
    let controls : List Attr = flat_map (attrs_generated c) c.controls in
    subst (λ (l : List Attr). IsOwn (unwrap_or (slice_get l x) no_attr).access) (append_assoc lines controls (twins c 0 c.attrs))
    (own-among (lines ++ controls) (twins c 0 c.attrs) x
    (omega (arith, below, copies-from c stored groups held framed, length-append lines controls, lines-count c 0 c.attrs, generated-count c c.controls))
    (All-append IsOwnAttr lines controls (own-lines c 0 c.attrs) (own-generated c c.controls)))

-- ---- what comes of a client's write of an attribute

-- as the store answers it
abbrev pub comes_by : ℕ → ℕ → Value → Result (Unit {0}) SetFault → Outcome
comes_by a x v (Ok u) = did (put a x v)
comes_by a x v (Err fault) = refused (set_code fault)

abbrev stored_by : (k w r : Bool) → Changed → Result Changed SetFault
stored_by k w r ch = if k then (if true && not w then Err faults.ReadOnly else (if r then Ok ch else Err faults.TooLong)) else Err faults.Kind

writable-told : (a x : ℕ) (v : Value) (k w r : Bool) (ch : Changed) → w ≡ true → first_code ((not k, 7) ∷ (false, 2) ∷ (not r, 11) ∷ []) (put a x v) ≡ comes_by a x v (without_change (stored_by k w r ch))
writable-told a x v true true true ch is = refl
writable-told a x v true true false ch is = refl
writable-told a x v true false r ch is = cc
writable-told a x v false w r ch is = refl

denied-told : (a x : ℕ) (v : Value) (k w r : Bool) (ch : Changed) → w ≡ false → ◌≡◌ {A = Outcome} (refused (if k then 3 else 7)) (comes_by a x v (without_change (stored_by k w r ch)))
denied-told a x v true false r ch is = refl
denied-told a x v true true r ch is = cc
denied-told a x v false w r ch is = refl

attribute-told : (m : Model) (a x : ℕ) (v : Value) (s : Stored) (access : Access) (past : Past) → (attr_of m x).kind ≡ s.held.kind → s.is_writable ≡ is_writable access → IsOwn access
    → write_attribute m a x v access past ≡ comes_by a x v (without_change (outcome s v true))
attribute-told m a x v s model.writable past kind may own =
    subst (λ k. first_code (attribute_refusals k v false) (put a x v) ≡ comes_by a x v (without_change (outcome s v true))) (sym kind)
    (writable-told a x v (is_kind s.held.kind v) s.is_writable (is_in_range s.held.kind v) (record { differs = not (is_same v s.held.value) }) may)
attribute-told m a x v s model.edited past kind may own = absurd own
attribute-told m a x v s model.reported past kind may own =
    subst (λ k. ◌≡◌ {A = Outcome} (refused (if is_kind k v then 3 else 7)) (comes_by a x v (without_change (outcome s v true)))) (sym kind)
    (denied-told a x v (is_kind s.held.kind v) s.is_writable (is_in_range s.held.kind v) (record { differs = not (is_same v s.held.value) }) may)
attribute-told m a x v s model.active past kind may own =
    subst (λ k. ◌≡◌ {A = Outcome} (refused (if is_kind k v then 3 else 7)) (comes_by a x v (without_change (outcome s v true)))) (sym kind)
    (denied-told a x v (is_kind s.held.kind v) s.is_writable (is_in_range s.held.kind v) (record { differs = not (is_same v s.held.value) }) may)

-- an accepted value is of the attribute's kind and within its range
accepted-by : (k w r : Bool) (ch : Changed) → Ok tt ≡ without_change (stored_by k w r ch) → (k ≡ true) × (r ≡ true)
accepted-by true w true ch is = (refl, refl)
accepted-by true true false ch is = cc
accepted-by true false false ch is = cc
accepted-by false w r ch is = cc

pub accepted : (s : Stored) (v : Value) → Ok tt ≡ without_change (outcome s v true) → (is_kind s.held.kind v ≡ true) × (is_in_range s.held.kind v ≡ true)
accepted s v is = accepted-by (is_kind s.held.kind v) s.is_writable (is_in_range s.held.kind v) (record { differs = not (is_same v s.held.value) }) is

-- ---- a refused write

pub refused-write : (z : State) (code : ℕ) → IsWrite z z (λ m past. refused code) (Err code)
refused-write z code = λ c n t past here. (refl, again z c n t (arrival n t) past (omega arith) here)

-- the same by another word for what comes
pub by-outcome : (z u : State) (f g : Model → Past → Outcome) (code : Result (Unit {0}) ℕ)
    → ((c : Config) (n t : ℕ) (past : Past) → StandsAt z c n (arrival n t ∷ past) → f (configured_model c) (arrival n t ∷ past) ≡ g (configured_model c) (arrival n t ∷ past))
    → IsWrite z u g code → IsWrite z u f code
by-outcome z u f g code same is = λ c n t past here.
    subst (λ (o : Outcome). (code ≡ code_of o) × StandsAt u c n (arrival n t ∷ at n t (deed_of o) ∷ past)) (sym (same c n t past here)) (is c n t past here)

-- ---- an attribute

abbrev pub attribute_comes : ℕ → ℕ → Value → Model → Past → Outcome
attribute_comes a x v m past = write_attribute m a x v (attr_of m x).access past

module _ (z : State) (served : IsServable z.config) (held : AreHeld z.config z.stored) (x : ℕ) (v : Value) (there : x < length z.stored) where
  comes : IsOwn (attr_of (configured_model z.config) x).access → (a : ℕ) (c : Config) (n t : ℕ) (past : Past) → StandsAt z c n (arrival n t ∷ past)
      → attribute_comes a x v (configured_model c) (arrival n t ∷ past) ≡ comes_by a x v (without_change (outcome (attribute z.stored x) v true))
  comes own a c n t past here =
      subst (λ (d : Config). attribute_comes a x v (configured_model d) (arrival n t ∷ past) ≡ comes_by a x v (without_change (outcome (attribute z.stored x) v true))) here.is_config
      (attribute-told (configured_model z.config) a x v (attribute z.stored x) (attr_of (configured_model z.config) x).access (arrival n t ∷ past) (kind-told z.config z.stored x served held there) (held.writable x there) own)

  pub attribute-refused : IsOwn (attr_of (configured_model z.config) x).access → (fault : SetFault) (a : ℕ) → Err fault ≡ without_change (outcome (attribute z.stored x) v true) → IsWrite z z (attribute_comes a x v) (Err (set_code fault))
  attribute-refused own fault a is =
      by-outcome z z (attribute_comes a x v) (λ m past. refused (set_code fault)) (Err (set_code fault))
      (λ c n t past here. comes own a c n t past here ∙ ap (comes_by a x v) (sym is)) (refused-write z (set_code fault))

  -- what becomes of the values is what one setting makes of them
  pub one-set-values : (y : ℕ) → attribute (slice_set z.stored x (with_value v (attribute z.stored x))) y ≡ last_set (one_set x v) y (attribute z.stored y)
  one-set-values y = at_own (with_value v) z.stored x y no_attribute there ∙ by (x == y) where
    by : (b : Bool) → (if b then with_value v (attribute z.stored y) else attribute z.stored y) ≡ given (if b then Some v else None) (attribute z.stored y)
    by true = refl
    by false = refl

  pub one-made : AreMade z.config z.stored (one_set x v) (change_from z.config z.stored x v ∷ [])
  one-made y = elim (eqb_tells x y) [
    | inl i ↦ subst (λ k. change_of (change_from z.config z.stored x v ∷ []) (record { 0 = k }) ≡ option_map (change_from z.config z.stored k) (set_to k (one_set x v))) i.1 (rw (same-number x) refl)
    | inr i ↦ rw i.0 refl
  ]

  pub one-typed : is_sound v ≡ true → Ok tt ≡ without_change (outcome (attribute z.stored x) v true) → AreTyped z.config (one_set x v)
  one-typed sound is =
      let right = accepted (attribute z.stored x) v is in
      let kind = held.kinds x there in
      All-cons (IsTyped z.config) (record { attr = record { 0 = x }; value = v }) [] (record {
        there = omega (arith, there, held.count);
        typed = record { kind = ap (λ k. is_kind k v) (sym kind) ∙ right.0; range = ap (λ k. is_in_range k v) (sym kind) ∙ right.1; sound = sound };
      }) (All-nil (IsTyped z.config))

  pub one-held : (stored : List Stored) → stored ≡ slice_set z.stored x (with_value v (attribute z.stored x)) → is_sound v ≡ true → Ok tt ≡ without_change (outcome (attribute z.stored x) v true) → AreHeld z.config stored
  one-held stored is sound ok = subst (AreHeld z.config) (sym is)
      (held-after z.config z.stored (slice_set z.stored x (with_value v (attribute z.stored x))) (one_set x v) held (one-typed sound ok) one-set-values (length-set z.stored x (with_value v (attribute z.stored x))))

  pub attribute-set : IsOwn (attr_of (configured_model z.config) x).access → (u : State) (rows : List NodeRow) (stored : List Stored) (changes : List Change) (a : ℕ) → AreServedSets z.config z.book → HaveMembers rows z.book z.config z.parts → is_sound v ≡ true
      → Ok tt ≡ without_change (outcome (attribute z.stored x) v true) → stored ≡ slice_set z.stored x (with_value v (attribute z.stored x)) → changes ≡ change_from z.config z.stored x v ∷ []
      → u ≡ set_at rows z stored z.groups changes → IsWrite z u (attribute_comes a x v) (Ok tt)
  attribute-set own u rows stored changes a booked has sound ok values are is = by-outcome z u (attribute_comes a x v) (λ m past. did (put a x v)) (Ok tt)
      (λ c n t past here. comes own a c n t past here ∙ ap (comes_by a x v) (sym ok)) (λ c n t past here. (
        refl,
        let same = here.is_config in
            let set = subst (λ l. (y : ℕ) → attribute l y ≡ last_set (one_set x v) y (attribute z.stored y)) (sym values) one-set-values in
            let count = ap (λ (l : List Stored). length l) values ∙ length-set z.stored x (with_value v (attribute z.stored x)) in
            let made = subst (AreMade z.config z.stored (one_set x v)) (sym are) one-made in
            let stands = stands-set rows z c n t (put a x v) (one_set x v) past stored z.groups changes (subst IsServable same served) (subst (λ q. AreServedSets q z.book) same booked) (subst (λ q. AreHeld q stored) same (one-held stored values sound ok))
            (client-sets (configured_model c) n t a x v past) (All-cons (IsThere z.stored) (record { attr = record { 0 = x }; value = v }) [] there (All-nil (IsThere z.stored)))
            (subst (λ q. HaveMembers rows z.book q z.parts) same has) set count (subst (λ q. AreMade q z.stored (one_set x v) changes) same made) (groups-quiet z c n t (put a x v) past tt here) here in
            again u c n t (at n t (put a x v)) past (omega arith) (subst (λ w. StandsAt w c n (at n t (put a x v) ∷ past)) (sym is) stands),
      ))

-- ---- a component of a block

pub component-write : (z u : State) (a : AssocNo) (b : ℕ) (comp : Comp) (v : Value) (part : ReportBlock) (code : Result (Unit {0}) ℕ) → IsNumber a.0 → IsOpenAt z a.0 → slice_get z.parts b ≡ Some part → AreGeneral a b comp v part z
    → code ≡ without_effect (answer_at a comp v part z) → u ≡ written_at a b comp v part z → IsWrite z u (λ m past. write_component m a.0 b comp v past) code
component-write z u a b comp v part code number open_ there general answer is = λ c n t past here.
    let named = named_by comp v z.book in
    let d : Deed = deed_of (write_component (configured_model c) a.0 b comp v (arrival n t ∷ past)) in
    let wrote = component-wrote z c n t b a comp v named (general_at part z) past part number open_ refl there (general c n t past here) here in
    (answer ∙ wrote.0, again u c n t (at n t d) past (omega arith) (subst (λ w. StandsAt w c n (at n t d ∷ past)) (sym is) wrote.1))

-- ---- a node

pub by-role : (z u : State) (a n : ℕ) (v : Value) (r : Role) (code : Result (Unit {0}) ℕ) → r ≡ (node_of (configured_model z.config) n).role → IsWrite z u (λ m past. write_role m a r v past) code
    → IsWrite z u (λ m past. write_node m a n v past) code
by-role z u a n v r code is write = by-outcome z u (λ m past. write_node m a n v past) (λ m past. write_role m a r v past) code
    (λ c k t past here. ap (λ (q : Role). write_role (configured_model c) a q v (arrival k t ∷ past)) (sym (is ∙ ap (λ (d : Config). (node_of (configured_model d) n).role) here.is_config))) write

-- ---- several, each after those before it

pub outcomes-more : (m : Model) (a n t : ℕ) (ss : List Single) (s : Single) (past : Past) → outcomes m a n t (ss ++ s ∷ []) past ≡ outcomes m a n t ss past ++ outcome_at m a n t s (after_singles m a n t ss past) ∷ []
outcomes-more m a n t [] s past = refl
outcomes-more m a n t (x ∷ ss) s past = ap (λ l. outcome_at m a n t x past ∷ l) (outcomes-more m a n t ss s (after_single m a n t x past))

pub after-more : (m : Model) (a n t : ℕ) (ss : List Single) (s : Single) (past : Past) → after_singles m a n t (ss ++ s ∷ []) past ≡ after_single m a n t s (after_singles m a n t ss past)
after-more m a n t [] s past = refl
after-more m a n t (x ∷ ss) s past = after-more m a n t ss s (after_single m a n t x past)

pub no-writes : (z : State) (a : ℕ) → AreWrites z z a [] []
no-writes z a = λ c n t past here. (refl, here)

pub one-write-more : (z y u : State) (a : ℕ) (ss : List Single) (s : Single) (codes_ : List (Result (Unit {0}) ℕ)) (code : Result (Unit {0}) ℕ)
    → AreWrites z y a ss codes_ → IsWrite y u (λ m past. outcome_of m a s past) code → AreWrites z u a (ss ++ s ∷ []) (codes_ ++ code ∷ [])
one-write-more z y u a ss s codes_ code before own = λ c n t past here.
    let m = configured_model c in
    let was = before c n t past here in
    let next = own c n t (after_singles m a n t ss past) was.1 in (
      ap₂ (λ (l : List (Result (Unit {0}) ℕ)) (k : Result (Unit {0}) ℕ). l ++ k ∷ []) was.0 next.0
          ∙ (sym (map-append code_of (outcomes m a n t ss past) (outcome_at m a n t s (after_singles m a n t ss past) ∷ [])) ∙ ap (map code_of) (sym (outcomes-more m a n t ss s past))),
      subst (λ q. StandsAt u c n (arrival n t ∷ q)) (sym (after-more m a n t ss s past)) next.1,
    )

-- ---- what stands at a node

pub role-told : (c : Config) (n : ℕ) (w : What) → IsGrouped c → role_seen w ≡ (node_of (configured_model c) n).role → IsPlainRole (length (attributes c)) (length c.blocks) (length c.controls) (HasGroups c) (role_seen w)
role-told c n w grouped is = subst (IsPlainRole (length (attributes c)) (length c.blocks) (length c.controls) (HasGroups c)) (sym is)
    (node-plain c (HasGroups c) (each-of (λ (g : SgDef). HasGroups c (domain_number c g.domain)) c.groups (groups-there c grouped)) n).role

-- ---- one member more

pub variables-more : (ws : List Write) (i : ℕ) (w : Write) → slice_get ws i ≡ Some w → map write_of (take (suc i) ws) ≡ map write_of (take i ws) ++ write_of w ∷ []
variables-more [] i w is = cc
variables-more (x ∷ ws) zero w is = ap (λ (v : Write). write_of v ∷ []) (some_is x w is)
variables-more (x ∷ ws) (suc i) w is = ap (λ l. write_of x ∷ l) (variables-more ws i w is)

pub members-more : (ns : List NodeId) (vs : List Value) (i : ℕ) (n : NodeId) (v : Value) → slice_get ns i ≡ Some n → slice_get vs i ≡ Some v
    → writes_of (node_numbers (take (suc i) ns)) (take (suc i) vs) ≡ writes_of (node_numbers (take i ns)) (take i vs) ++ writes n.0 v ∷ []
members-more [] vs i n v is own = cc
members-more (m ∷ ns) [] i n v is own = cc
members-more (m ∷ ns) (w ∷ vs) zero n v is own = ap₂ (λ (k : NodeId) (u : Value). writes k.0 u ∷ []) (some_is m n is) (some_is w v own)
members-more (m ∷ ns) (w ∷ vs) (suc i) n v is own = ap (λ l. writes m.0 w ∷ l) (members-more ns vs i n v is own)

pub kept-on : (x y z : State) → IsKept x y → IsKept y z → IsKept x z
kept-on x y z one two = record { config = two.config ∙ one.config; steps = two.steps ∙ one.steps; rows = two.rows ∙ one.rows }
