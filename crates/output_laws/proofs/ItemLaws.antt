-- The names of which the items of a domain's lines are made.
use Rattle.std.proofs.Common.{◌≡◌, ℕ, zero, suc, ◌+◌, ◌<◌, ◌≤◌, ◌==◌, Bool, true, false, ◌⊎◌, inl, inr, List, [], ◌∷◌, ◌++◌, length, map, refl, sym, ap, subst, ◌∙◌, arith, true≢false, append_assoc, length-append}
use Rattle.std.specs.Prelude.{codes, if◌then◌else◌}
use Rattle.std.specs.List.{count_by, filter}
use Rattle.std.specs.Str.{bytes_eq}
use Rattle.std.proofs.lemmas.Bool.{ne_eqb}
use Rattle.list_laws.proofs.Among.{Among, Each, at-among, mapped, left, right, either, ending, each-both, source, passed, gathered, spread}
use Rattle.list_laws.proofs.Distinct.{octets_equal}
use Rattle.sv_base.specs.ComponentTable.{components, comp_name, setting_components, setting_comp_name, comp_type}
use Rattle.sv_base.specs.CallParts.{part_name}
use Rattle.sv_base.specs.declared.call_parts.CallPart.{CallPart}
use Rattle.sv_base.specs.declared.call_parts.CallPart.TheVariants.{CtlVal, OrCat, OrIdent, CtlNum, T, Test, Check}
use Rattle.sv_base.specs.declared.components.Comp.{Comp}
use Rattle.sv_base.specs.declared.components.Comp.TheVariants as comps
use Rattle.sv_base.specs.declared.components.SettingComp.{SettingComp}
use Rattle.sv_base.specs.declared.components.SettingComp.TheVariants as settings
use Rattle.sv_base.specs.declared.config.Config.{Config}
use Rattle.sv_base.specs.declared.config.AttrDef.{AttrDef}
use Rattle.sv_base.specs.declared.config.BlockDef.{BlockDef}
use Rattle.sv_base.specs.declared.config.CtlDef.{CtlDef}
use Rattle.sv_base.specs.declared.config.LnDef.{LnDef}
use Rattle.sv_base.specs.declared.config.SgDef.{SgDef}
use Rattle.sv_base.specs.declared.types.TypeOf.{TypeOf}
use Rattle.sv_base.specs.declared.types.TypeOf.TheVariants as types
use Rattle.bay_model.specs.Generated.{Named, within, end_named, structure_named, setting_named, setting_names, part_named, parts_of_call, command_names, is_selected, sbo_names, sbow_names, oper_names, cancel_names, control_names, Parameter, parameters, selection, parameter_names}
use Rattle.bay_model.specs.Model as model
use Rattle.bay_model.specs.Model.{Role, Call, select, operate, cancel, single, selecting, calling, several}
use Rattle.bay_model.specs.NameTree.{first_name, rest_of, is_itself}
use Rattle.bay_model.specs.NamedLines.{Line, is_setting, path_item, attribute_names, attribute_lines, node_line, block_line, block_lines, control_line, control_lines, group_line, domain_number, generated, lines, names_in, in_order}
use Rattle.text_words.specs.Names.{is_name, is_path, is_dollar, is_fc}
use Rattle.cfg_lines.specs.Configs.{config_of}
use Rattle.cfg_lines.specs.declared.line.Line.{Line as TextLine}
use Rattle.cfg_lines.specs.declared.line.Line.TheVariants as told_lines
use Rattle.cfg_grammar.specs.Texts.{AreLines}
use Rattle.text_configs.proofs.AttrLaws.{attrs-read}
use Rattle.text_configs.proofs.ControlLaws.{controls-read}
use Rattle.text_configs.proofs.JoinedLaws.{IsPlain, ArePlain, joined, joined-some, first, rest, joined-behind, first-joined, rest-joined}
use Rattle.text_configs.proofs.OrderLaws.{attribute-line, block-line, from-ordered}
use Rattle.text_configs.proofs.PathLaws as paths
use Rattle.text_configs.proofs.PathLaws.{name-plain, fc-plain, fc-of-command, path-plain, path-joined, path-count, behind-two}
use Rattle.text_configs.proofs.SetLaws.{blocks-read}
use Rattle.text_configs.proofs.StandLaws.{nodes-read}
use Rattle.output_laws.proofs.TreeLaws.{HasNames, IsEnd, IsUnder}

abbrev CO : List ℕ
CO = codes "CO"

abbrev pub second : Named → List ℕ
second n = first_name (rest_of n)

-- ---- what a line names

-- so many names, and not under CO; or under CO, where it ends or something of the line stands under it
abbrev pub IsBeside : ℕ → Named → Type 0
IsBeside m n = HasNames m n.item × (second n ≡ codes "CO" → ⊥)

pub record IsCommand (names : List Named) (n : Named) : Type 0 where
  pub second_is : second n ≡ codes "CO"
  pub longer : is_itself n ≡ false
  pub further : is_itself (rest_of n) ≡ false
  pub ends : IsEnd n.role ⊎ ((w : Named) × Among w names × IsUnder n w)

-- a name under CO of the same logical node
pub record HasCommand (names : List Named) (n : Named) : Type 0 where
  pub other : Named
  pub there : Among other names
  pub same : first_name other ≡ first_name n
  pub is : IsCommand names other

abbrev pub Class : List Named → Named → Type 0
Class names n = IsBeside 10 n ⊎ ((IsBeside 11 n × HasCommand names n) ⊎ IsCommand names n)

abbrev pub IsClassed : List Named → Type 0
IsClassed names = (n : Named) → Among n names → Class names n

-- ---- items

differs : (a : List ℕ) → bytes_eq a (codes "CO") ≡ false → a ≡ codes "CO" → ⊥
differs a h e = true≢false (sym (octets_equal a (codes "CO") e) ∙ h)

module _ (n : Named) (a b : List ℕ) (more : List (List ℕ)) (plain : ArePlain (a ∷ b ∷ more)) (is : n.item ≡ joined (a ∷ b ∷ more)) where
  first-is : first_name n ≡ a
  first-is = ap first is ∙ first-joined a (b ∷ more) plain.0.1

  rest-is : (rest_of n).item ≡ joined (b ∷ more)
  rest-is = ap rest is ∙ rest-joined a (b ∷ more) plain.0.1

  second-is : second n ≡ b
  second-is = ap first rest-is ∙ first-joined b more plain.1.0.1

not-empty : (a : List ℕ) (more : List (List ℕ)) (item : List ℕ) → IsPlain a → item ≡ joined (a ∷ more) → (length item == 0) ≡ false
not-empty a more item plain is = by (length item) (omega (arith, ap length is, joined-some a more plain.0))
  where
    by : (k : ℕ) → 0 < k → (k == 0) ≡ false
    by zero h = absurd (omega (arith, h))
    by (suc k) h = ne_eqb (suc k) 0 (λ e. omega (arith, e))

-- an item of these names, whose second isn't CO
beside : (m : ℕ) (n : Named) (a b : List ℕ) (more : List (List ℕ)) → ArePlain (a ∷ b ∷ more) → n.item ≡ joined (a ∷ b ∷ more) → length (a ∷ b ∷ more) ≤ m → (b ≡ codes "CO" → ⊥) → IsBeside m n
beside m n a b more plain is few other = (record { names = a ∷ b ∷ more; plain = plain; is = is; few = few }, λ e. other (sym (second-is n a b more plain is) ∙ e))

names-some : (path : List ℕ) → 0 < length (paths.names_in path)
names-some path = omega (arith, path-count path)

path-names : (ln fc path : List ℕ) → path_item ln fc path ≡ joined (ln ∷ fc ∷ paths.names_in path)
path-names ln fc path = behind-two ln fc (paths.names_in path) path (path-joined path) (names-some path)

-- one name more
further-names : (ln fc path q : List ℕ) → within (path_item ln fc path) q ≡ joined (ln ∷ fc ∷ (paths.names_in path ++ q ∷ []))
further-names ln fc path q = ap (λ i. i ++ 36 ∷ q) (path-names ln fc path) ∙ sym (joined-behind (ln ∷ fc ∷ paths.names_in path) q [] (omega arith))

plain-more : (names more : List (List ℕ)) → ArePlain names → ArePlain more → ArePlain (names ++ more)
plain-more names more h k = each-both IsPlain names more h k

-- ---- attributes

fc-not : (fc : List ℕ) → is_fc fc ≡ true → fc ≡ codes "CO" → ⊥
fc-not fc h e = fc-of-command fc h e

plain-SE : IsPlain (codes "SE")
plain-SE = (omega arith, (refl, (refl, tt)))

plain-CF : IsPlain (codes "CF")
plain-CF = (omega arith, (refl, (refl, tt)))

plain-CO : IsPlain (codes "CO")
plain-CO = (omega arith, (refl, (refl, tt)))

plain-BR : IsPlain (codes "BR")
plain-BR = (omega arith, (refl, (refl, tt)))

module _ (a : AttrDef) (ln : is_name a.ln ≡ true) (fc : is_fc a.fc ≡ true) (path : is_path a.path ≡ true) (few : count_by is_dollar a.path ≤ 7) where
  attribute-item : (fc : List ℕ) (r : Role) (k : TypeOf) → IsPlain fc → (fc ≡ codes "CO" → ⊥) → IsBeside 10 (record { item = path_item a.ln fc a.path; role = r; kind = k })
  attribute-item fc r k plain other = beside 10 (record { item = path_item a.ln fc a.path; role = r; kind = k }) a.ln fc (paths.names_in a.path) (name-plain a.ln ln, (plain, path-plain a.path path)) (path-names a.ln fc a.path) (omega (arith, few, path-count a.path)) other

  attribute-classed : (x twin : ℕ) → IsClassed (attribute_names x twin a)
  attribute-classed x twin n i = by (is_setting a) i
    where
      by : (t : Bool) → Among n (end_named (path_item a.ln a.fc a.path) (model.attribute x) a.kind ∷ (if t then end_named (path_item a.ln (codes "SE") a.path) (model.attribute twin) a.kind ∷ [] else [])) → Class (attribute_names x twin a) n
      by t (inl e) = inl (subst (IsBeside 10) (sym e) (attribute-item a.fc (single (model.attribute x)) a.kind (fc-plain a.fc fc) (fc-not a.fc fc)))
      by true (inr (inl e)) = inl (subst (IsBeside 10) (sym e) (attribute-item (codes "SE") (single (model.attribute twin)) a.kind plain-SE (differs (codes "SE") refl)))
      by true (inr (inr j)) = absurd j
      by false (inr j) = absurd j

-- ---- logical nodes, blocks and setting groups

node-classed : (n : LnDef) → is_name n.ln ≡ true → IsClassed (node_line n).names
node-classed d ln n (inr j) = absurd j
node-classed d ln n (inl e) = inl (
  record { names = d.ln ∷ []; plain = (name-plain d.ln ln, tt); is = ap (λ (x : Named). x.item) e; few = omega arith },
  λ s. differs [] refl (sym (ap first (ap rest (ap (λ (x : Named). x.item) e) ∙ rest-joined d.ln [] (name-plain d.ln ln).1)) ∙ s),
)

comp-plain : (k : Comp) → is_name (comp_name k) ≡ true
comp-plain comps.RptID = refl
comp-plain comps.RptEna = refl
comp-plain comps.DatSet = refl
comp-plain comps.ConfRev = refl
comp-plain comps.OptFlds = refl
comp-plain comps.BufTm = refl
comp-plain comps.SqNum = refl
comp-plain comps.TrgOps = refl
comp-plain comps.IntgPd = refl
comp-plain comps.GI = refl
comp-plain comps.PurgeBuf = refl
comp-plain comps.EntryID = refl
comp-plain comps.TimeofEntry = refl
comp-plain comps.ResvTms = refl
comp-plain comps.Owner = refl

block-item : (ln name q : List ℕ) → within (path_item ln (codes "BR") name) q ≡ joined (ln ∷ codes "BR" ∷ name ∷ q ∷ [])
block-item ln name q = append_assoc (within ln (codes "BR")) (36 ∷ name) (36 ∷ q) ∙ append_assoc ln (36 ∷ codes "BR") (36 ∷ (name ++ 36 ∷ q))

block-classed : (d : BlockDef) (b : ℕ) → is_name d.ln ≡ true → is_name d.name ≡ true → IsClassed (block_line b d).names
block-classed d b ln name n i =
    let s = source (λ k. end_named (within (path_item d.ln (codes "BR") d.name) (comp_name k)) (model.component b k) (comp_type k)) n components i in
    inl (beside 10 n d.ln (codes "BR") (d.name ∷ comp_name s.0 ∷ []) (name-plain d.ln ln, (plain-BR, (name-plain d.name name, (name-plain (comp_name s.0) (comp-plain s.0), tt))))
    (ap (λ (x : Named). x.item) s.2 ∙ block-item d.ln d.name (comp_name s.0)) (omega arith) (differs (codes "BR") refl))

setting-plain : (k : SettingComp) → is_name (setting_comp_name k) ≡ true
setting-plain settings.NumOfSG = refl
setting-plain settings.ActSG = refl
setting-plain settings.EditSG = refl
setting-plain settings.CnfEdit = refl
setting-plain settings.LActTm = refl

group-classed : (d : ℕ) → IsClassed (setting_names d)
group-classed d n i =
    let s = source (setting_named d) n setting_components i in
    inl (beside 10 n (codes "LLN0") (codes "SP") (codes "SGCB" ∷ setting_comp_name s.0 ∷ [])
    ((omega arith, (refl, (refl, (refl, (refl, tt))))), ((omega arith, (refl, (refl, tt))), ((omega arith, (refl, (refl, (refl, (refl, tt))))), (name-plain (setting_comp_name s.0) (setting-plain s.0), tt))))
    (ap (λ (x : Named). x.item) s.2 ∙ refl) (omega arith) (differs (codes "SP") refl))

-- ---- controls

module _ (k : CtlDef) (ln : is_name k.ln ≡ true) (path : is_path k.path ≡ true) (few : count_by is_dollar k.path ≤ 7) where
  abbrev item : List ℕ
  item = path_item k.ln (codes "CO") k.path

  base-plain : ArePlain (k.ln ∷ codes "CO" ∷ paths.names_in k.path)
  base-plain = (name-plain k.ln ln, (plain-CO, path-plain k.path path))

  -- a name under CO, of these more names
  command-of : (names : List Named) (n : Named) (more : List (List ℕ)) → ArePlain more → n.item ≡ joined (k.ln ∷ codes "CO" ∷ (paths.names_in k.path ++ more)) → IsEnd n.role ⊎ ((w : Named) × Among w names × IsUnder n w) → IsCommand names n
  command-of names n more plain is ends =
      let all : ArePlain (k.ln ∷ codes "CO" ∷ (paths.names_in k.path ++ more)) = (name-plain k.ln ln, (plain-CO, plain-more (paths.names_in k.path) more (path-plain k.path path) plain)) in
      record {
        second_is = second-is n k.ln (codes "CO") (paths.names_in k.path ++ more) all is;
        longer = not-empty k.ln (codes "CO" ∷ (paths.names_in k.path ++ more)) n.item (name-plain k.ln ln) is;
        further = not-empty (codes "CO") (paths.names_in k.path ++ more) (rest_of n).item plain-CO (rest-is n k.ln (codes "CO") (paths.names_in k.path ++ more) all is);
        ends = ends;
      }

  -- items of one and of two names more
  one-names : (q : List ℕ) → within item q ≡ joined (k.ln ∷ codes "CO" ∷ (paths.names_in k.path ++ q ∷ []))
  one-names q = further-names k.ln (codes "CO") k.path q

  two-names : (q : List ℕ) (r : List (List ℕ)) (i : List ℕ) → 0 < length r → i ≡ joined r → within (within item q) i ≡ joined (k.ln ∷ codes "CO" ∷ (paths.names_in k.path ++ q ∷ r))
  two-names q [] i some is = absurd (omega (arith, some))
  two-names q (a ∷ r) i some is =
      ap (λ x. within (within item q) x) is ∙ (ap (λ x. x ++ 36 ∷ joined (a ∷ r)) (one-names q)
      ∙ (sym (joined-behind (k.ln ∷ codes "CO" ∷ (paths.names_in k.path ++ q ∷ [])) a r (omega arith))
      ∙ ap (λ l. joined (k.ln ∷ codes "CO" ∷ l)) (append_assoc (paths.names_in k.path) (q ∷ []) (a ∷ r))))

  -- a part's name is made of one or two
  abbrev IsPartOf : CallPart → Type 0
  IsPartOf p = (r : List (List ℕ)) × ArePlain r × (part_name p ≡ joined r) × (0 < length r)

  part-command : (names : List Named) (q : List ℕ) (p : CallPart) → IsPlain q → IsPartOf p → IsCommand names (part_named k.kind (within item q) p)
  part-command names q p plain is = command-of names (part_named k.kind (within item q) p) (q ∷ is.0) (plain, is.1) (two-names q is.0 (part_name p) is.3 is.2) (inl tt)

  -- SBOw, Oper or Cancel, and its parts
  own-command : (names : List Named) (c : ℕ) (q : List ℕ) (call : Call) (p : CallPart) → IsPlain q → IsPartOf p → Among (part_named k.kind (within item q) p) names → IsCommand names (structure_named (within item q) (calling c call))
  own-command names c q call p plain is there =
      command-of names (structure_named (within item q) (calling c call)) (q ∷ []) (plain, tt) (one-names q)
      (inr (part_named k.kind (within item q) p, there, under is.0 is.1 is.2 is.3))
    where
      under : (r : List (List ℕ)) → ArePlain r → part_name p ≡ joined r → 0 < length r → IsUnder (structure_named (within item q) (calling c call)) (part_named k.kind (within item q) p)
      under [] h e some = absurd (omega (arith, some))
      under (a ∷ r) h e some = record {
        fore = k.ln ∷ codes "CO" ∷ (paths.names_in k.path ++ q ∷ []);
        name = a;
        behind = r;
        plain = (name-plain k.ln ln, (plain-CO, plain-more (paths.names_in k.path ++ q ∷ []) (a ∷ r) (plain-more (paths.names_in k.path) (q ∷ []) (path-plain k.path path) (plain, tt)) h));
        low = one-names q;
        high = two-names q (a ∷ r) (part_name p) some e ∙ ap (λ l. joined (k.ln ∷ codes "CO" ∷ l)) (sym (append_assoc (paths.names_in k.path) (q ∷ []) (a ∷ r)));
      }

  part-of : (p : CallPart) → IsPartOf p
  part-of CtlVal = (codes "ctlVal" ∷ [], (name-plain (codes "ctlVal") refl, tt), refl, omega arith)
  part-of OrCat = (codes "origin" ∷ codes "orCat" ∷ [], (name-plain (codes "origin") refl, (name-plain (codes "orCat") refl, tt)), refl, omega arith)
  part-of OrIdent = (codes "origin" ∷ codes "orIdent" ∷ [], (name-plain (codes "origin") refl, (name-plain (codes "orIdent") refl, tt)), refl, omega arith)
  part-of CtlNum = (codes "ctlNum" ∷ [], (name-plain (codes "ctlNum") refl, tt), refl, omega arith)
  part-of T = (codes "T" ∷ [], (name-plain (codes "T") refl, tt), refl, omega arith)
  part-of Test = (codes "Test" ∷ [], (name-plain (codes "Test") refl, tt), refl, omega arith)
  part-of Check = (codes "Check" ∷ [], (name-plain (codes "Check") refl, tt), refl, omega arith)

  value-there : (call : Call) → Among CtlVal (parts_of_call call)
  value-there select = inl refl
  value-there operate = inl refl
  value-there cancel = inl refl

  commands : (names : List Named) (c : ℕ) (q : List ℕ) (call : Call) → IsPlain q → ((n : Named) → Among n (command_names c k.kind (within item q) call) → Among n names)
      → (n : Named) → Among n (command_names c k.kind (within item q) call) → IsCommand names n
  commands names c q call plain all n (inl e) = subst (IsCommand names) (sym e)
      (own-command names c q call CtlVal plain (part-of CtlVal) (all (part_named k.kind (within item q) CtlVal) (inr (mapped (part_named k.kind (within item q)) CtlVal (parts_of_call call) (value-there call)))))
  commands names c q call plain all n (inr j) = let s = source (part_named k.kind (within item q)) n (parts_of_call call) j in subst (IsCommand names) (sym s.2) (part-command names q s.0 plain (part-of s.0))

  if-there : (b : Bool) (ns : List Named) (n : Named) → Among n (if b then ns else []) → Among n ns
  if-there true ns n i = i
  if-there false ns n i = absurd i

  -- what is named under CO, among these
  control-commands : (names : List Named) (c : ℕ) → ((n : Named) → Among n (control_names c k item) → Among n names) → (n : Named) → Among n (control_names c k item) → IsCommand names n
  control-commands names c all n i = by (either n (sbo_names c k item) (sbow_names c k item ++ (oper_names c k item ++ cancel_names c k item)) i)
    where
      sbo : (b : Bool) → Among n (if b then record { item = within item (codes "SBO"); role = selecting c; kind = types.Text 129 } ∷ [] else []) → IsCommand names n
      sbo true (inl e) = subst (IsCommand names) (sym e) (command-of names (record { item = within item (codes "SBO"); role = selecting c; kind = types.Text 129 }) (codes "SBO" ∷ []) (name-plain (codes "SBO") refl, tt) (one-names (codes "SBO")) (inl tt))
      sbo true (inr j) = absurd j
      sbo false j = absurd j

      sbow : (b : Bool) → ((n : Named) → Among n (if b then command_names c k.kind (within item (codes "SBOw")) select else []) → Among n names) → Among n (if b then command_names c k.kind (within item (codes "SBOw")) select else []) → IsCommand names n
      sbow true sub j = commands names c (codes "SBOw") select (name-plain (codes "SBOw") refl) sub n j
      sbow false sub j = absurd j

      cancels : (b : Bool) → ((n : Named) → Among n (if b then command_names c k.kind (within item (codes "Cancel")) cancel else []) → Among n names) → Among n (if b then command_names c k.kind (within item (codes "Cancel")) cancel else []) → IsCommand names n
      cancels true sub j = commands names c (codes "Cancel") cancel (name-plain (codes "Cancel") refl) sub n j
      cancels false sub j = absurd j

      last : Among n (oper_names c k item) ⊎ Among n (cancel_names c k item) → IsCommand names n
      last (inl j) = commands names c (codes "Oper") operate (name-plain (codes "Oper") refl) (λ m i. all m (right m (sbo_names c k item) _ (right m (sbow_names c k item) _ (left m (oper_names c k item) (cancel_names c k item) i)))) n j
      last (inr j) = cancels (is_selected k) (λ m i. all m (right m (sbo_names c k item) _ (right m (sbow_names c k item) _ (right m (oper_names c k item) (cancel_names c k item) i)))) j

      more : Among n (sbow_names c k item) ⊎ Among n (oper_names c k item ++ cancel_names c k item) → IsCommand names n
      more (inl j) = sbow (k.model == 4) (λ m i. all m (right m (sbo_names c k item) _ (left m (sbow_names c k item) _ i))) j
      more (inr j) = last (either n (oper_names c k item) (cancel_names c k item) j)

      by : Among n (sbo_names c k item) ⊎ Among n (sbow_names c k item ++ (oper_names c k item ++ cancel_names c k item)) → IsCommand names n
      by (inl j) = sbo (k.model == 2) j
      by (inr j) = more (either n (sbow_names c k item) (oper_names c k item ++ cancel_names c k item) j)

  -- Oper
  abbrev oper : ℕ → Named
  oper c = structure_named (within item (codes "Oper")) (calling c operate)

  oper-there : (c : ℕ) → Among (oper c) (control_names c k item)
  oper-there c = right (oper c) (sbo_names c k item) _ (right (oper c) (sbow_names c k item) _ (left (oper c) (oper_names c k item) (cancel_names c k item) (inl refl)))

  parameters-named : Each (λ (p : Parameter). is_name p.name ≡ true) (parameters k)
  parameters-named = (refl, by (is_selected k))
    where
      by : (b : Bool) → Each (λ (p : Parameter). is_name p.name ≡ true) (if b then selection k else [])
      by true = (refl, (refl, tt))
      by false = tt

  parameter-of : (x : ℕ) (ps : List Parameter) (n : Named) → Each (λ (p : Parameter). is_name p.name ≡ true) ps → Among n (parameter_names x (path_item k.ln (codes "CF") k.path) ps)
      → (p : Parameter) × (is_name p.name ≡ true) × (n.item ≡ within (path_item k.ln (codes "CF") k.path) p.name)
  parameter-of x [] n h i = absurd i
  parameter-of x (p ∷ ps) n h (inl e) = (p, h.0, ap (λ (q : Named). q.item) e)
  parameter-of x (p ∷ ps) n h (inr i) = parameter-of (x + 1) ps n h.1 i

  control-classed : (c x : ℕ) → IsClassed (control_line c x k).names
  control-classed c x n i = by (either n (control_names c k item) (parameter_names x (path_item k.ln (codes "CF") k.path) (parameters k)) i)
    where
      by : Among n (control_names c k item) ⊎ Among n (parameter_names x (path_item k.ln (codes "CF") k.path) (parameters k)) → Class (control_line c x k).names n
      by (inl j) = inr (inr (control-commands (control_line c x k).names c (λ m i. left m (control_names c k item) (parameter_names x (path_item k.ln (codes "CF") k.path) (parameters k)) i) n j))
      by (inr j) =
          let p = parameter-of x (parameters k) n parameters-named j in
          let plain : ArePlain (k.ln ∷ codes "CF" ∷ (paths.names_in k.path ++ p.0.name ∷ [])) = (name-plain k.ln ln, (plain-CF, plain-more (paths.names_in k.path) (p.0.name ∷ []) (path-plain k.path path) (name-plain p.0.name p.1, tt))) in
          let is : n.item ≡ joined (k.ln ∷ codes "CF" ∷ (paths.names_in k.path ++ p.0.name ∷ [])) = p.2 ∙ further-names k.ln (codes "CF") k.path p.0.name in
          let there = left (oper c) (control_names c k item) (parameter_names x (path_item k.ln (codes "CF") k.path) (parameters k)) (oper-there c) in
          let command = control-commands (control_line c x k).names c (λ m i. left m (control_names c k item) (parameter_names x (path_item k.ln (codes "CF") k.path) (parameters k)) i) (oper c) (oper-there c) in
          inr (inl (
            beside 11 n k.ln (codes "CF") (paths.names_in k.path ++ p.0.name ∷ []) plain is (omega (arith, few, path-count k.path, length-append (paths.names_in k.path) (p.0.name ∷ []))) (differs (codes "CF") refl),
            record {
              other = oper c;
              there = there;
              same = first-is (oper c) k.ln (codes "CO") (paths.names_in k.path ++ codes "Oper" ∷ []) (name-plain k.ln ln, (plain-CO, plain-more (paths.names_in k.path) (codes "Oper" ∷ []) (path-plain k.path path) (name-plain (codes "Oper") refl, tt))) (one-names (codes "Oper"))
                  ∙ sym (first-is n k.ln (codes "CF") (paths.names_in k.path ++ p.0.name ∷ []) plain is);
              is = command;
            },
          ))

-- ---- all lines of a configuration

-- what its lines have
pub record IsTold (c : Config) : Type 0 where
  pub nodes : (n : LnDef) → Among n c.nodes → is_name n.ln ≡ true
  pub attrs : (a : AttrDef) → Among a c.attrs → (is_name a.ln ≡ true) × (is_fc a.fc ≡ true) × (is_path a.path ≡ true) × (count_by is_dollar a.path ≤ 7)
  pub blocks : (b : BlockDef) → Among b c.blocks → (is_name b.ln ≡ true) × (is_name b.name ≡ true)
  pub controls : (k : CtlDef) → Among k c.controls → (is_name k.ln ≡ true) × (is_path k.path ≡ true) × (count_by is_dollar k.path ≤ 7)

paths-short : (told : List TextLine) (text : List ℕ) → AreLines text told → (a : AttrDef) → Among a (config_of told).attrs → count_by is_dollar a.path ≤ 7
paths-short [] text h a i = absurd i
paths-short (told_lines.Attr attr ∷ before) text h a i = by (ending a (config_of before).attrs attr i) (paths-short before h.0 h.3 a)
  where
    by : Among a (config_of before).attrs ⊎ (a ≡ attr) → (Among a (config_of before).attrs → count_by is_dollar a.path ≤ 7) → count_by is_dollar a.path ≤ 7
    by (inl j) go = go j
    by (inr e) go = subst (λ (x : AttrDef). count_by is_dollar x.path ≤ 7) (sym e) h.4.follows.path.1
paths-short (line ∷ before) text h a i = paths-short before h.0 h.3 a i

pub is-told : (told : List TextLine) (text : List ℕ) → AreLines text told → IsTold (config_of told)
is-told told text are = record {
  nodes = λ n i. (nodes-read told text are n i).0;
  attrs = λ a i. let r = attrs-read told text are a i in (r.node.ln_name, r.constraint, r.path.0, paths-short told text are a i);
  blocks = λ b i. let r = blocks-read told text are b i in (r.ln, r.name);
  controls = λ k i. let r = controls-read told text are k i in (r.node.ln_name, r.path.0, r.path.1);
}

control-of : (ks : List CtlDef) (k x : ℕ) (l : Line) → Among l (control_lines k x ks) → (d : CtlDef) × (j : ℕ) × (y : ℕ) × Among d ks × (l ≡ control_line j y d)
control-of [] k x l i = absurd i
control-of (c ∷ ks) k x l (inl e) = (c, k, x, inl refl, e)
control-of (c ∷ ks) k x l (inr i) = let r = control-of ks (k + 1) (x + length (parameters c)) l i in (r.0, r.1, r.2, inr r.3, r.4)

module _ (c : Config) (t : IsTold c) where
  line-classed : (l : Line) → Among l (lines c) → IsClassed l.names
  line-classed l i = by (either l (map node_line c.nodes) _ i)
    where
      last : Among l (control_lines 0 (length c.attrs) c.controls) ⊎ Among l (map (λ (g : SgDef). group_line (domain_number c g.domain) g) c.groups) → IsClassed l.names
      last (inl j) = let r = control-of c.controls 0 (length c.attrs) l j in let f = t.controls r.0 r.3 in subst (λ (x : Line). IsClassed x.names) (sym r.4) (control-classed r.0 f.0 f.1 f.2 r.1 r.2)
      last (inr j) = let s = source (λ (g : SgDef). group_line (domain_number c g.domain) g) l c.groups j in subst (λ (x : Line). IsClassed x.names) (sym s.2) (group-classed (domain_number c s.0.domain))

      third : Among l (block_lines 0 c.blocks) ⊎ Among l (control_lines 0 (length c.attrs) c.controls ++ map (λ (g : SgDef). group_line (domain_number c g.domain) g) c.groups) → IsClassed l.names
      third (inl j) = let r = block-line c.blocks 0 l j in let f = t.blocks r.0 r.2 in subst (λ (x : Line). IsClassed x.names) (sym r.3) (block-classed r.0 r.1 f.0 f.1)
      third (inr j) = last (either l (control_lines 0 (length c.attrs) c.controls) _ j)

      next : Among l (attribute_lines 0 (length c.attrs + length (generated c)) c.attrs) ⊎ Among l (block_lines 0 c.blocks ++ (control_lines 0 (length c.attrs) c.controls ++ map (λ (g : SgDef). group_line (domain_number c g.domain) g) c.groups)) → IsClassed l.names
      next (inl j) = let r = attribute-line c.attrs 0 (length c.attrs + length (generated c)) l j in let f = t.attrs r.attr (at-among r.at r.attr c.attrs r.there) in
          subst (λ (x : Line). IsClassed x.names) (sym r.is) (attribute-classed r.attr f.0 f.1 f.2 f.3 (0 + r.at) r.twin)
      next (inr j) = third (either l (block_lines 0 c.blocks) _ j)

      by : Among l (map node_line c.nodes) ⊎ Among l (attribute_lines 0 (length c.attrs + length (generated c)) c.attrs ++ (block_lines 0 c.blocks ++ (control_lines 0 (length c.attrs) c.controls ++ map (λ (g : SgDef). group_line (domain_number c g.domain) g) c.groups))) → IsClassed l.names
      by (inl j) = let s = source node_line l c.nodes j in subst (λ (x : Line). IsClassed x.names) (sym s.2) (node-classed s.0 (t.nodes s.0 s.1))
      by (inr j) = next (either l (attribute_lines 0 (length c.attrs + length (generated c)) c.attrs) _ j)

  command-more : (names others : List Named) → ((m : Named) → Among m names → Among m others) → (n : Named) → IsCommand names n → IsCommand others n
  command-more names others all n h = record { second_is = h.second_is; longer = h.longer; further = h.further; ends = by h.ends }
    where
      by : IsEnd n.role ⊎ ((w : Named) × Among w names × IsUnder n w) → IsEnd n.role ⊎ ((w : Named) × Among w others × IsUnder n w)
      by (inl e) = inl e
      by (inr (w, i, u)) = inr (w, all w i, u)

  class-more : (names others : List Named) → ((m : Named) → Among m names → Among m others) → (n : Named) → Class names n → Class others n
  class-more names others all n (inl h) = inl h
  class-more names others all n (inr (inl (b, h))) = inr (inl (b, record { other = h.other; there = all h.other h.there; same = h.same; is = command-more names others all h.other h.is }))
  class-more names others all n (inr (inr h)) = inr (inr (command-more names others all n h))

  pub names-classed : (domain : List ℕ) → IsClassed (names_in c domain)
  names-classed domain n i =
      let kept_lines : List Line = filter (λ (l : Line). bytes_eq l.domain domain) (in_order (lines c)) in
      let g = gathered (λ (l : Line). l.names) n kept_lines i in
      let p = passed (λ (l : Line). bytes_eq l.domain domain) g.0 (in_order (lines c)) g.1 in
      class-more g.0.names (names_in c domain) (λ m j. spread (λ (l : Line). l.names) g.0 m kept_lines g.1 j) n (line-classed g.0 (from-ordered (lines c) g.0 p.0) n g.2)
