-- What the lines of a text take stands beside what others take: no leaf is counted twice, and none is above another.
use Rattle.std.proofs.Common.{◌≡◌, ℕ, zero, suc, ◌<◌, ◌==◌, ◌⊎◌, inl, inr, Bool, true, false, List, [], ◌∷◌, ◌++◌, map, length, refl, sym, ap, subst, ◌∙◌, arith, append_assoc, length-append, true≢false, if◌then◌else◌}
use Rattle.std.specs.Prelude.{codes}
use Rattle.std.specs.List.{list_any}
use Rattle.std.proofs.lemmas.List.{append_cancel_left}
use Rattle.sv_base.specs.declared.config.AttrDef.{AttrDef}
use Rattle.sv_base.specs.declared.config.BlockDef.{BlockDef}
use Rattle.sv_base.specs.declared.config.CtlDef.{CtlDef}
use Rattle.sv_base.specs.declared.config.SgDef.{SgDef}
use Rattle.cfg_lines.specs.Paths.{below, item_key, is_taken}
use Rattle.cfg_lines.specs.Before.{domain_of, node_of}
use Rattle.cfg_lines.specs.Claims.{operations, settings, control_keys, group_key, claims_by, claims}
use Rattle.cfg_lines.specs.Nodes.{leaves_by, leaves, setting_leaf, setting_octets}
use Rattle.cfg_grammar.specs.Follows.{Follows}
use Rattle.cfg_grammar.specs.Texts.{AreLines}
use Rattle.cfg_lines.specs.declared.leaf.Leaf.{Leaf}
use Rattle.cfg_lines.specs.declared.line.Line.{Line}
use Rattle.cfg_lines.specs.declared.line.Line.TheVariants as lines
use Rattle.list_laws.proofs.Among.{Among, At, at-among, among-at, at-same, left, right, mapped, source, of-each, passes, tails}
use Rattle.text_configs.proofs.JoinedLaws.{NoDollar, IsPlain}
use Rattle.text_configs.proofs.AttrLaws.{AreBeside, beside-turned, beside, not-taken}
use Rattle.text_configs.proofs.PathLaws.{name-plain}
use Rattle.text_configs.proofs.PlaceLaws.{dollar-within}
use Rattle.name_trees.proofs.ToldLaws.{told-of}

-- ---- a line and those before it

claimed : (told : List Line) (line : Line) (k : List ℕ) → Among line told → Among k (claims_by line) → Among k (claims told)
claimed [] line k i j = absurd i
claimed (l ∷ before) line k (inl e) j = left k (claims_by l) (claims before) (subst (λ m. Among k (claims_by m)) e j)
claimed (l ∷ before) line k (inr i) j = right k (claims_by l) (claims before) (claimed before line k i j)

none-passes : (p : List ℕ → Bool) (xs : List (List ℕ)) (x : List ℕ) → list_any p xs ≡ false → Among x xs → p x ≡ false
none-passes p xs x h i = by (p x) refl
  where
    by : (b : Bool) → p x ≡ b → b ≡ false
    by true e = absurd (true≢false (sym (passes p x xs i e) ∙ h))
    by false e = refl

free : (before : List Line) (line : Line) (k : List ℕ) → Follows before line → Among k (claims_by line) → is_taken (claims before) k ≡ false
free before (lines.Attr a) k f (inl e) = ap (is_taken (claims before)) (e ∙ (ap (λ d. item_key d a.ln a.fc a.path) (ap (λ (x : AttrDef). x.domain) f.here) ∙ ap (λ l. item_key (domain_of before) l a.fc a.path) (ap (λ (x : AttrDef). x.ln) f.here))) ∙ f.new
free before (lines.Attr a) k f (inr i) = absurd i
free before (lines.Brcb b) k f (inl e) = ap (is_taken (claims before)) (e ∙ (ap (λ d. item_key d b.ln (codes "BR") b.name) (ap (λ (x : BlockDef). x.domain) f.here) ∙ ap (λ l. item_key (domain_of before) l (codes "BR") b.name) (ap (λ (x : BlockDef). x.ln) f.here))) ∙ f.new
free before (lines.Brcb b) k f (inr i) = absurd i
free before (lines.Ctl c) k f i =
    let e : control_keys c.domain c.ln c.path c.model ≡ control_keys (domain_of before) (node_of before) c.path c.model =
    ap (λ d. control_keys d c.ln c.path c.model) (ap (λ (x : CtlDef). x.domain) f.here) ∙ ap (λ l. control_keys (domain_of before) l c.path c.model) (ap (λ (x : CtlDef). x.ln) f.here) in
    none-passes (is_taken (claims before)) (control_keys (domain_of before) (node_of before) c.path c.model) k f.new (subst (Among k) e i)
free before (lines.Sgcb g) k f (inl e) = ap (is_taken (claims before)) (e ∙ ap (λ d. group_key d (codes "LLN0")) (ap (λ (x : SgDef). x.domain) f.here)) ∙ f.new
free before (lines.Sgcb g) k f (inr i) = absurd i
free before line k f i = absurd i

abbrev Apart : Line → Line → Type 0
Apart l m = (p q : List ℕ) → Among p (claims_by l) → Among q (claims_by m) → AreBeside p q

in-order : (told : List Line) (text : List ℕ) → AreLines text told → (x y : ℕ) (l m : Line) → At x l told → At y m told → x < y → Apart l m
in-order [] text h x y l m i j lt p q a b = absurd i
in-order (t ∷ before) text h x zero l m i j lt p q a b = absurd (omega (arith, lt))
in-order (t ∷ before) text h zero (suc y) l m i j lt p q a b =
    beside p q (not-taken (claims before) p q (free before t p h.4.follows (subst (λ z. Among p (claims_by z)) i a)) (claimed before m q (at-among y m before j) b))
in-order (t ∷ before) text h (suc x) (suc y) l m i j lt p q a b = in-order before h.0 h.3 x y l m i j (omega (arith, lt)) p q a b

pub lines-apart : (told : List Line) (text : List ℕ) → AreLines text told → (l m : Line) → Among l told → Among m told → (l ≡ m) ⊎ Apart l m
lines-apart told text h l m i j = let x = among-at l told i in let y = among-at m told j in by x.0 y.0 x.1 y.1 (compare x.0 y.0)
  where
    compare : (x y : ℕ) → (x ≡ y) ⊎ ((x < y) ⊎ (y < x))
    compare zero zero = inl refl
    compare zero (suc y) = inr (inl (omega arith))
    compare (suc x) zero = inr (inr (omega arith))
    compare (suc x) (suc y) = next (compare x y)
      where
        next : (x ≡ y) ⊎ ((x < y) ⊎ (y < x)) → (suc x ≡ suc y) ⊎ ((suc x < suc y) ⊎ (suc y < suc x))
        next (inl e) = inl (ap suc e)
        next (inr (inl k)) = inr (inl (omega (arith, k)))
        next (inr (inr k)) = inr (inr (omega (arith, k)))

    by : (x y : ℕ) → At x l told → At y m told → (x ≡ y) ⊎ ((x < y) ⊎ (y < x)) → (l ≡ m) ⊎ Apart l m
    by x y a b (inl e) = inl (at-same y l m told (subst (λ n. At n l told) e a) b)
    by x y a b (inr (inl k)) = inr (in-order told text h x y l m a b k)
    by x y a b (inr (inr k)) = inr (λ p q c d. beside-turned q p (in-order told text h y x m l b a k q p d c))

-- ---- leaves

pub leaf-claimed : (line : Line) (leaf : Leaf) → Among leaf (leaves_by line) → Among leaf.name (claims_by line)
leaf-claimed (lines.Attr a) leaf (inl e) = inl (ap (λ (x : Leaf). x.name) e)
leaf-claimed (lines.Attr a) leaf (inr i) = absurd i
leaf-claimed (lines.Ctl c) leaf i =
    let s = source (setting_leaf (item_key c.domain c.ln (codes "CF") c.path)) leaf (settings c.model) i in
    right leaf.name (map (λ part. below (item_key c.domain c.ln (codes "CO") c.path) part) (operations c.model)) _
    (subst (λ k. Among k (map (λ part. below (item_key c.domain c.ln (codes "CF") c.path) part) (settings c.model))) (sym (ap (λ (x : Leaf). x.name) s.2)) (mapped (λ part. below (item_key c.domain c.ln (codes "CF") c.path) part) s.0 (settings c.model) s.1))
leaf-claimed line leaf i = absurd i

pub setting-plain : (model : ℕ) (q : List ℕ) → Among q (settings model) → IsPlain q
setting-plain model q i = by (model == 2) (model == 4) i
  where
    known : (x : List ℕ) → Among x (codes "ctlModel" ∷ codes "sboTimeout" ∷ codes "sboClass" ∷ []) → IsPlain x
    known x j = of-each IsPlain (codes "ctlModel" ∷ codes "sboTimeout" ∷ codes "sboClass" ∷ []) x (name-plain (codes "ctlModel") refl, (name-plain (codes "sboTimeout") refl, (name-plain (codes "sboClass") refl, tt))) j

    one : (x : List ℕ) → Among x (codes "ctlModel" ∷ []) → Among x (codes "ctlModel" ∷ codes "sboTimeout" ∷ codes "sboClass" ∷ [])
    one x (inl e) = inl e
    one x (inr j) = absurd j

    by : (two four : Bool) → Among q (if two then codes "ctlModel" ∷ codes "sboTimeout" ∷ codes "sboClass" ∷ [] else if four then codes "ctlModel" ∷ codes "sboTimeout" ∷ codes "sboClass" ∷ [] else codes "ctlModel" ∷ []) → IsPlain q
    by true four j = known q j
    by false true j = known q j
    by false false j = known q (one q j)

never-longer : (p more : List ℕ) → p ≡ p ++ 36 ∷ more → ⊥
never-longer p more e = absurd (omega (arith, ap length e, length-append p (36 ∷ more)))

same-part : (front p q : List ℕ) → below front p ≡ below front q → p ≡ q
same-part front p q e = tails 36 36 p q (append_cancel_left front (36 ∷ p) (36 ∷ q) e)

same-in-line : (line : Line) (a b : Leaf) → Among a (leaves_by line) → Among b (leaves_by line) → a.name ≡ b.name → a.octets ≡ b.octets
same-in-line (lines.Attr x) a b (inl e) (inl f) is = ap (λ (l : Leaf). l.octets) (e ∙ sym f)
same-in-line (lines.Attr x) a b (inr i) j is = absurd i
same-in-line (lines.Attr x) a b (inl e) (inr j) is = absurd j
same-in-line (lines.Ctl c) a b i j is =
    let front : List ℕ = item_key c.domain c.ln (codes "CF") c.path in
    let s = source (setting_leaf front) a (settings c.model) i in
    let t = source (setting_leaf front) b (settings c.model) j in
    ap (λ (l : Leaf). l.octets) s.2 ∙ (ap setting_octets (same-part front s.0 t.0 (sym (ap (λ (l : Leaf). l.name) s.2) ∙ (is ∙ ap (λ (l : Leaf). l.name) t.2))) ∙ sym (ap (λ (l : Leaf). l.octets) t.2))
same-in-line line a b i j is = absurd i

apart-in-line : (line : Line) (a b : Leaf) (more : List ℕ) → Among a (leaves_by line) → Among b (leaves_by line) → b.name ≡ a.name ++ 36 ∷ more → ⊥
apart-in-line (lines.Attr x) a b more (inl e) (inl f) is = never-longer a.name more (ap (λ (l : Leaf). l.name) (e ∙ sym f) ∙ is)
apart-in-line (lines.Attr x) a b more (inr i) j is = absurd i
apart-in-line (lines.Attr x) a b more (inl e) (inr j) is = absurd j
apart-in-line (lines.Ctl c) a b more i j is =
    let front : List ℕ = item_key c.domain c.ln (codes "CF") c.path in
    let s = source (setting_leaf front) a (settings c.model) i in
    let t = source (setting_leaf front) b (settings c.model) j in
    let whole : below front t.0 ≡ below front (s.0 ++ 36 ∷ more) = sym (ap (λ (l : Leaf). l.name) t.2) ∙ (is ∙ (ap (λ (l : Leaf). l.name ++ 36 ∷ more) s.2 ∙ append_assoc front (36 ∷ s.0) (36 ∷ more))) in
    dollar-within s.0 more (subst NoDollar (same-part front t.0 (s.0 ++ 36 ∷ more) whole) (setting-plain c.model t.0 t.1).1)
apart-in-line line a b more i j is = absurd i

module _ (text : List ℕ) (told : List Line) (are : AreLines text told) where
  pub leaves-same : (a b : Leaf) → Among a (leaves told) → Among b (leaves told) → a.name ≡ b.name → a.octets ≡ b.octets
  leaves-same a b i j is =
      let s = told-of leaves leaves_by refl (λ line before. refl) told a i in
      let t = told-of leaves leaves_by refl (λ line before. refl) told b j in
      by s.0 t.0 s.2 t.2 (lines-apart told text are s.0 t.0 s.1 t.1)
    where
      by : (l m : Line) → Among a (leaves_by l) → Among b (leaves_by m) → (l ≡ m) ⊎ Apart l m → a.octets ≡ b.octets
      by l m p q (inl e) = same-in-line m a b (subst (λ x. Among a (leaves_by x)) e p) q is
      by l m p q (inr h) = absurd ((h a.name b.name (leaf-claimed l a p) (leaf-claimed m b q)).other is)

  pub leaves-apart : (a b : Leaf) (more : List ℕ) → Among a (leaves told) → Among b (leaves told) → b.name ≡ a.name ++ 36 ∷ more → ⊥
  leaves-apart a b more i j is =
      let s = told-of leaves leaves_by refl (λ line before. refl) told a i in
      let t = told-of leaves leaves_by refl (λ line before. refl) told b j in
      by s.0 t.0 s.2 t.2 (lines-apart told text are s.0 t.0 s.1 t.1)
    where
      by : (l m : Line) → Among a (leaves_by l) → Among b (leaves_by m) → (l ≡ m) ⊎ Apart l m → ⊥
      by l m p q (inl e) = apart-in-line m a b more (subst (λ x. Among a (leaves_by x)) e p) q is
      by l m p q (inr h) = (h a.name b.name (leaf-claimed l a p) (leaf-claimed m b q)).above more is
