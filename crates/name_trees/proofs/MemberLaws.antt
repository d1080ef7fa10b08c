-- A node of the lines is one that a data set may have exactly where the model allows it.
use Rattle.std.proofs.Common.{◌≡◌, ℕ, ◌≤◌, ◌⊎◌, inl, inr, Bool, true, false, List, [], ◌∷◌, ◌++◌, length, refl, sym, ap, subst, ◌∙◌, append_assoc, arith, length-append, if◌then◌else◌}
use Rattle.std.specs.Prelude.{codes}
use Rattle.std.specs.List.{list_any}
use Rattle.std.specs.Str.{bytes_eq}
use Rattle.sv_base.specs.declared.config.Config.{Config}
use Rattle.sv_base.specs.declared.config.AttrDef.{AttrDef}
use Rattle.bay_model.specs.Generated.{within}
use Rattle.bay_model.specs.NamedLines.{path_item, is_setting}
use Rattle.bay_model.specs.Places.{constraint, member_constraints}
use Rattle.cfg_lines.specs.Nodes.{block_parts, group_parts, operation_parts}
use Rattle.cfg_lines.specs.Claims.{operations, settings}
use Rattle.cfg_lines.specs.Configs.{config_of}
use Rattle.cfg_grammar.specs.Follows.{Follows}
use Rattle.cfg_grammar.specs.Texts.{AreLines}
use Rattle.cfg_lines.specs.declared.line.Line.{Line}
use Rattle.cfg_lines.specs.declared.line.Line.TheVariants as lines
use Rattle.list_laws.proofs.Among.{Among, either, source, each-both}
use Rattle.text_configs.proofs.JoinedLaws.{NoDollar, IsPlain, ArePlain, joined, first, first-before, rest-before, joined-behind}
use Rattle.text_configs.proofs.PathLaws.{name-plain, fc-plain, fc-member, names_in, path-plain, path-joined, path-count, item-joined, behind-two}
use Rattle.name_trees.proofs.FrontLaws.{IsFront, front-trans}
use Rattle.name_trees.proofs.ToldLaws.{IsHome, home}
use Rattle.name_trees.proofs.ItemLaws.{leaf_items, closed_items, with_items, operation_items}
use Rattle.name_trees.proofs.FormLaws.{IsTyped}
use Rattle.name_trees.proofs.ClaimLaws.{setting-plain}

-- ---- the second name of an item

-- an item below a functional constraint
pub constraint-of : (ln fc path item : List ℕ) → NoDollar ln → NoDollar fc → IsFront (path_item ln fc path) item → constraint item ≡ fc
constraint-of ln fc path item p q (inl e) = ap constraint (e ∙ append_assoc ln (36 ∷ fc) (36 ∷ path)) ∙ (ap first (rest-before ln (fc ++ 36 ∷ path) p) ∙ first-before fc path q)
constraint-of ln fc path item p q (inr h) =
    ap constraint (h.1 ∙ (ap (λ x. x ++ 36 ∷ h.0) (append_assoc ln (36 ∷ fc) (36 ∷ path)) ∙ (append_assoc ln (36 ∷ (fc ++ 36 ∷ path)) (36 ∷ h.0) ∙ ap (λ x. ln ++ 36 ∷ x) (append_assoc fc (36 ∷ path) (36 ∷ h.0)))))
    ∙ (ap first (rest-before ln (fc ++ 36 ∷ (path ++ 36 ∷ h.0)) p) ∙ first-before fc (path ++ 36 ∷ h.0) q)

pub with-front : (item i : List ℕ) (parts : List (List ℕ)) → Among i (with_items item parts) → IsFront item i
with-front item i parts (inl e) = inl e
with-front item i parts (inr j) = let s = source (within item) i parts j in inr (s.0, s.2)

operation-front : (item i : List ℕ) (names : List (List ℕ)) → Among i (operation_items item names) → IsFront item i
operation-front item i [] j = absurd j
operation-front item i (n ∷ ns) j = by (either i (with_items (within item n) (operation_parts n)) (operation_items item ns) j) (operation-front item i ns)
  where
    by : Among i (with_items (within item n) (operation_parts n)) ⊎ Among i (operation_items item ns) → (Among i (operation_items item ns) → IsFront item i) → IsFront item i
    by (inl k) go = front-trans item (within item n) i (inr (n, refl)) (with-front (within item n) i (operation_parts n) k)
    by (inr k) go = go k

abbrev if_edited : AttrDef → Bool → List (List ℕ)
if_edited a b = if b then path_item a.ln (codes "SE") a.path ∷ [] else []

abbrev pub closed_constraint : Line → List ℕ
closed_constraint (lines.Attr a) = codes "SE"
closed_constraint (lines.Brcb b) = codes "BR"
closed_constraint (lines.Ctl k) = codes "CO"
closed_constraint line = codes "SP"

abbrev leaf_constraint : Line → List ℕ
leaf_constraint (lines.Attr a) = a.fc
leaf_constraint line = codes "CF"

-- what follows says of a line
pub follows-of : (told : List Line) (text : List ℕ) (line : Line) → AreLines text told → Among line told → (before : List Line) × Follows before line
follows-of [] text line h i = absurd i
follows-of (l ∷ before) text line h (inl e) = (before, subst (Follows before) (sym e) h.4.follows)
follows-of (l ∷ before) text line h (inr i) = follows-of before h.0 line h.3 i

module _ (text : List ℕ) (told : List Line) (are : AreLines text told) where
  abbrev c : Config
  c = config_of told

  pub closed-under : (line : Line) (i : List ℕ) → Among line told → Among i (closed_items line) → constraint i ≡ closed_constraint line
  closed-under line i there j = by line (home told text line are there) j
    where
      edited_item : (a : AttrDef) (b : Bool) → Among i (if_edited a b) → i ≡ path_item a.ln (codes "SE") a.path
      edited_item a true (inl e) = e
      edited_item a true (inr k) = absurd k
      edited_item a false k = absurd k

      by : (line : Line) → IsHome c.nodes line → Among i (closed_items line) → constraint i ≡ closed_constraint line
      by (lines.Attr a) h k = constraint-of a.ln (codes "SE") a.path i (name-plain a.ln h.ln_name).1 (refl, (refl, tt)) (inl (edited_item a (is_setting a) k))
      by (lines.Brcb b) h k = constraint-of b.ln (codes "BR") b.name i (name-plain b.ln h.ln_name).1 (refl, (refl, tt)) (with-front (path_item b.ln (codes "BR") b.name) i block_parts k)
      by (lines.Ctl m) h k = constraint-of m.ln (codes "CO") m.path i (name-plain m.ln h.ln_name).1 (refl, (refl, tt)) (operation-front (path_item m.ln (codes "CO") m.path) i (operations m.model) k)
      by (lines.Sgcb g) h k = constraint-of (codes "LLN0") (codes "SP") (codes "SGCB") i (name-plain (codes "LLN0") refl).1 (refl, (refl, tt)) (with-front (codes "LLN0$SP$SGCB") i group_parts k)
      by line h k = absurd k

  -- a leaf's item: its names, few and plain, after a functional constraint that members may have
  pub record IsLeafItem (i : List ℕ) : Type 0 where
    pub names : List (List ℕ)
    pub is : i ≡ joined names
    pub plain : ArePlain names
    pub few : length names ≤ 11
    pub constrained : list_any (bytes_eq (constraint i)) member_constraints ≡ true

  pub leaf-item : (line : Line) (i : List ℕ) → Among line told → Among i (leaf_items line) → IsLeafItem i
  leaf-item line i there j = by line (home told text line are there) (follows-of told text line are there) j
    where
      by : (line : Line) → IsHome c.nodes line → (before : List Line) × Follows before line → Among i (leaf_items line) → IsLeafItem i
      by (lines.Attr a) h f (inl e) = record {
        names = a.ln ∷ a.fc ∷ names_in a.path;
        is = e ∙ item-joined a;
        plain = (name-plain a.ln h.ln_name, (fc-plain a.fc f.1.constraint, path-plain a.path f.1.path.0));
        few = omega (arith, path-count a.path, f.1.path.1);
        constrained = ap (λ x. list_any (bytes_eq x) member_constraints) (constraint-of a.ln a.fc a.path i (name-plain a.ln h.ln_name).1 (fc-plain a.fc f.1.constraint).1 (inl e)) ∙ fc-member a.fc f.1.constraint;
      }
      by (lines.Attr a) h f (inr k) = absurd k
      by (lines.Ctl m) h f k =
          let s = source (within (path_item m.ln (codes "CF") m.path)) i (settings m.model) k in
          let front : List (List ℕ) = m.ln ∷ codes "CF" ∷ names_in m.path in
          record {
            names = front ++ s.0 ∷ [];
            is = s.2 ∙ (ap (λ x. within x s.0) (behind-two m.ln (codes "CF") (names_in m.path) m.path (path-joined m.path) (omega (arith, path-count m.path))) ∙ sym (joined-behind front s.0 [] (omega arith)));
            plain = each-both IsPlain front (s.0 ∷ []) (name-plain m.ln h.ln_name, (name-plain (codes "CF") refl, path-plain m.path f.1.path.0)) (setting-plain m.model s.0 s.1, tt);
            few = omega (arith, length-append front (s.0 ∷ []), path-count m.path, f.1.path.1);
            constrained = ap (λ x. list_any (bytes_eq x) member_constraints) (constraint-of m.ln (codes "CF") m.path i (name-plain m.ln h.ln_name).1 (refl, (refl, tt)) (inr (s.0, s.2)));
          }
      by line h f k = absurd k

  pub typed-line : (line : Line) → Among line told → IsTyped line
  typed-line line there = by line (follows-of told text line are there)
    where
      by : (line : Line) → (before : List Line) × Follows before line → IsTyped line
      by (lines.Attr a) f = f.1.type_
      by line f = tt
