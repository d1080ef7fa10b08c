-- What a text says of its data sets: their references differ, their domains are names, and each DatSet names one.
use Rattle.std.proofs.Common.{◌≡◌, ◌<◌, ◌≤◌, ◌+◌, ℕ, zero, suc, Bool, true, false, ◌&&◌, ◌||◌, ◌⊎◌, inl, inr, List, [], ◌∷◌, ◌++◌, length, map, is_some, refl, sym, ap, ap₂, subst, ◌∙◌, arith, true≢false, if◌then◌else◌, slice_index_or, length-append, Option, Some}
use Rattle.std.specs.Prelude.{◌==◌, nat_le}
use Rattle.std.specs.List.{All, find, list_any, list_all}
use Rattle.std.specs.Str.{bytes_eq}
use Rattle.std.proofs.lemmas.Bool.{and_parts}
use Rattle.std.proofs.lemmas.Bool.Decides.{eqb_tells}
use Rattle.std.proofs.lemmas.List.{length-map}
use Rattle.sv_base.specs.declared.config.Config.{Config}
use Rattle.sv_base.specs.declared.config.SetDef.{SetDef}
use Rattle.sv_base.specs.declared.config.BlockDef.{BlockDef}
use Rattle.sv_base.specs.declared.config.LnDef.{LnDef}
use Rattle.bay_model.specs.Configured.{block_defined}
use Rattle.bay_model.specs.Generated.{within}
use Rattle.bay_model.specs.Lookups.{reference_of}
use Rattle.bay_model.specs.Model.{Model, DataSet, Block}
use Rattle.bay_model.specs.Named.{nodes, set_defined, configured_model}
use Rattle.bay_model.specs.Sets.{set_referred}
use Rattle.text_words.specs.Names.{is_letter, is_name_octet, is_name}
use Rattle.cfg_lines.specs.Before.{domain_of, blocks}
use Rattle.cfg_lines.specs.Claims.{set_key, sets}
use Rattle.cfg_lines.specs.Configs.{with_member, config_of}
use Rattle.cfg_lines.specs.declared.line.Line.{Line}
use Rattle.cfg_lines.specs.declared.line.Line.TheVariants as lines
use Rattle.cfg_grammar.specs.Texts.{AreLines, AreFound, IsFound, SpellsConfig}
use Rattle.list_laws.proofs.Among.{Among, all-of, ending, source, mapped, left, right}
use Rattle.list_laws.proofs.Distinct.{Distinct, Differ, differ, distinct-more}
use Rattle.data_sets.specs.Standing.{IsPlain}
use Rattle.data_sets.specs.Opening.{AreNamed, IsReferred, set_reference}

-- the reference of a data set's definition
abbrev pub ref : SetDef → List ℕ
ref s = reference_of s.domain (within s.ln s.name)

-- ---- the references are those that the lines take

joined : (d l n : List ℕ) → set_key d l n ≡ reference_of d (within l n)
joined [] l n = refl
joined (o ∷ d) l n = ap (λ x. o ∷ x) (joined d l n)

member-keeps : (all : List SetDef) (r : List ℕ) → map ref (with_member all r) ≡ map ref all
member-keeps [] r = refl
member-keeps (s ∷ []) r = refl
member-keeps (s ∷ t ∷ all) r = ap (λ l. ref s ∷ l) (member-keeps (t ∷ all) r)

any-end : (p : List ℕ → Bool) (all : List SetDef) (s : SetDef) → list_any p (map ref (all ++ s ∷ [])) ≡ (p (ref s) || list_any p (map ref all))
any-end p [] s = refl
any-end p (t ∷ all) s = ap (λ x. p (ref t) || x) (any-end p all s) ∙ turn (p (ref t)) (p (ref s)) (list_any p (map ref all))
  where
    turn : (x y z : Bool) → (x || (y || z)) ≡ (y || (x || z))
    turn true true z = refl
    turn true false z = refl
    turn false y z = refl

any-told : (p : List ℕ → Bool) (told : List Line) → list_any p (sets told) ≡ list_any p (map ref (config_of told).sets)
any-told p [] = refl
any-told p (lines.Set set ∷ before) = ap₂ (λ x y. p x || y) (joined set.domain set.ln set.name) (any-told p before) ∙ sym (any-end p (config_of before).sets set)
any-told p (lines.Member reference ∷ before) = any-told p before ∙ ap (list_any p) (sym (member-keeps (config_of before).sets reference))
any-told p (line ∷ before) = any-told p before

map-end : (all : List SetDef) (s : SetDef) → map ref (all ++ s ∷ []) ≡ map ref all ++ ref s ∷ []
map-end [] s = refl
map-end (t ∷ all) s = ap (λ l. ref t ∷ l) (map-end all s)

refs-differ : (told : List Line) (text : List ℕ) → AreLines text told → Distinct (map ref (config_of told).sets)
refs-differ [] text h = tt
refs-differ (lines.Set set ∷ before) text h =
    let f = h.4.follows in
    let is : ref set ≡ set_key (domain_of before) set.ln set.name = sym (joined set.domain set.ln set.name) ∙ ap (λ d. set_key d set.ln set.name) (ap (λ (s : SetDef). s.domain) f.here) in
    let key : ref set ≡ _ = is ∙ ap (λ l. set_key (domain_of before) l set.name) (ap (λ (s : SetDef). s.ln) f.here) in
    subst Distinct (sym (map-end (config_of before).sets set))
    (distinct-more (ref set) (map ref (config_of before).sets) (refs-differ before h.0 h.3)
    (ap (λ k. list_any (bytes_eq k) (map ref (config_of before).sets)) key ∙ (sym (any-told (bytes_eq (set_key (domain_of before) _ set.name)) before) ∙ f.new)))
refs-differ (lines.Member reference ∷ before) text h = subst Distinct (sym (member-keeps (config_of before).sets reference)) (refs-differ before h.0 h.3)
refs-differ (line ∷ before) text h = refs-differ before h.0 h.3

-- ---- domains

no-slash : (p : ℕ → Bool) (o : ℕ) → p 47 ≡ false → p o ≡ true → (o == 47) ≡ false
no-slash p o not is = elim (eqb_tells o 47) [ inl t ↦ absurd (true≢false (sym (ap p (sym t.1) ∙ is) ∙ not)) | inr t ↦ t.0 ]

octets-plain : (os : List ℕ) → list_all is_name_octet os ≡ true → IsPlain os
octets-plain [] h = refl
octets-plain (o ∷ os) h = let b = and_parts (is_name_octet o) (list_all is_name_octet os) h in ap₂ (λ x y. x || y) (no-slash is_name_octet o refl b.0) (octets-plain os b.1)

pub name-plain : (name : List ℕ) → is_name name ≡ true → IsPlain name
name-plain [] h = refl
name-plain (o ∷ os) h =
    let b = and_parts (is_letter o && list_all is_name_octet os) (nat_le (length os) 31) h in
    let d = and_parts (is_letter o) (list_all is_name_octet os) b.0 in
    ap₂ (λ x y. x || y) (no-slash is_letter o refl d.0) (octets-plain os d.1)

domain-plain : (told : List Line) (text : List ℕ) → AreLines text told → IsPlain (domain_of told)
domain-plain [] text h = refl
domain-plain (lines.Ld name ∷ before) text h = name-plain name h.4.follows.2
domain-plain (line ∷ before) text h = domain-plain before h.0 h.3

-- with one more member the domains are those that were there
same-domain : (all : List SetDef) (r : List ℕ) (s : SetDef) → Among s (with_member all r) → (t : SetDef) × Among t all × (s.domain ≡ t.domain)
same-domain [] r s i = absurd i
same-domain (t ∷ []) r s (inl e) = (t, inl refl, ap (λ (x : SetDef). x.domain) e)
same-domain (t ∷ []) r s (inr i) = absurd i
same-domain (t ∷ u ∷ all) r s (inl e) = (t, inl refl, ap (λ (x : SetDef). x.domain) e)
same-domain (t ∷ u ∷ all) r s (inr i) = let g = same-domain (u ∷ all) r s i in (g.0, inr g.1, g.2)

sets-plain : (told : List Line) (text : List ℕ) → AreLines text told → (s : SetDef) → Among s (config_of told).sets → IsPlain s.domain
sets-plain [] text h s i = absurd i
sets-plain (lines.Set set ∷ before) text h s i = by (ending s (config_of before).sets set i) (sets-plain before h.0 h.3 s)
  where
    by : Among s (config_of before).sets ⊎ (s ≡ set) → (Among s (config_of before).sets → IsPlain s.domain) → IsPlain s.domain
    by (inl j) go = go j
    by (inr e) go = subst IsPlain (sym (ap (λ (x : SetDef). x.domain) e ∙ ap (λ (x : SetDef). x.domain) h.4.follows.here)) (domain-plain before h.0 h.3)
sets-plain (lines.Member reference ∷ before) text h s i =
    let g = same-domain (config_of before).sets reference s i in
    subst IsPlain (sym g.2) (sets-plain before h.0 h.3 g.0 g.1)
sets-plain (line ∷ before) text h s i = sets-plain before h.0 h.3 s i

-- ---- DatSets

abbrev IsTold : List Line → BlockDef → Type 0
IsTold all b = (b.dat_set ≡ []) ⊎ (list_any (bytes_eq b.dat_set) (sets all) ≡ true)

blocks-told : (all told : List Line) → AreFound all told → (b : BlockDef) → Among b (config_of told).blocks → IsTold all b
blocks-told all [] f b i = absurd i
blocks-told all (lines.Brcb block ∷ before) f b i = by (ending b (config_of before).blocks block i) (blocks-told all before f.0 b)
  where
    by : Among b (config_of before).blocks ⊎ (b ≡ block) → (Among b (config_of before).blocks → IsTold all b) → IsTold all b
    by (inl j) go = go j
    by (inr e) go = subst (IsTold all) (sym e) f.1
blocks-told all (line ∷ before) f b i = blocks-told all before f.0 b i

some-found : (p : DataSet → Bool) (all : List DataSet) → is_some (find p all) ≡ list_any p all
some-found p [] = refl
some-found p (s ∷ all) = by (p s) (some-found p all)
  where
    by : (t : Bool) → is_some (find p all) ≡ list_any p all → is_some (if t then Some s else find p all) ≡ (t || list_any p all)
    by true later = refl
    by false later = later

module _ (c : Config) where
  any-defined : (d : List ℕ) (all : List SetDef) → list_any (λ (s : DataSet). bytes_eq d (reference_of s.domain s.item)) (map (set_defined (nodes c)) all) ≡ list_any (bytes_eq d) (map ref all)
  any-defined d [] = refl
  any-defined d (s ∷ all) = ap (λ x. bytes_eq d (ref s) || x) (any-defined d all)

  is-referred : (d : List ℕ) (told : List Line) → c ≡ config_of told → (d ≡ []) ⊎ (list_any (bytes_eq d) (sets told) ≡ true) → IsReferred (configured_model c).sets d
  is-referred d told makes (inl e) = inl e
  is-referred d told makes (inr any) = inr (some-found (λ (s : DataSet). bytes_eq d (reference_of s.domain s.item)) (configured_model c).sets
      ∙ (any-defined d c.sets ∙ (ap (λ (k : Config). list_any (bytes_eq d) (map ref k.sets)) makes ∙ (sym (any-told (bytes_eq d) told) ∙ any))))

  -- references that differ stand at one place each
  ref-among : (all : List SetDef) (k : ℕ) (d : DataSet) → k < length all → Among (set_reference (slice_index_or (map (set_defined (nodes c)) all) k d)) (map ref all)
  ref-among [] k d below = absurd (omega (arith, below))
  ref-among (s ∷ all) zero d below = inl refl
  ref-among (s ∷ all) (suc k) d below = inr (ref-among all k d (omega (arith, below)))

  one-place : (all : List SetDef) → Differ (map ref all) → (j k : ℕ) (d : DataSet) → j < length all → k < length all
      → set_reference (slice_index_or (map (set_defined (nodes c)) all) j d) ≡ set_reference (slice_index_or (map (set_defined (nodes c)) all) k d) → j ≡ k
  one-place [] differ j k d lj lk e = absurd (omega (arith, lj))
  one-place (s ∷ all) differ zero zero d lj lk e = refl
  one-place (s ∷ all) differ zero (suc k) d lj lk e = absurd (differ.0 (subst (λ r. Among r (map ref all)) (sym e) (ref-among all k d (omega (arith, lk)))))
  one-place (s ∷ all) differ (suc j) zero d lj lk e = absurd (differ.0 (subst (λ r. Among r (map ref all)) e (ref-among all j d (omega (arith, lj)))))
  one-place (s ∷ all) differ (suc j) (suc k) d lj lk e = ap suc (one-place all differ.1 j k d (omega (arith, lj)) (omega (arith, lk)) e)

pub sets-named : (text : List ℕ) (c : Config) → SpellsConfig text c → AreNamed (configured_model c)
sets-named text c h =
    let count : length (configured_model c).sets ≡ length c.sets = length-map c.sets (set_defined (nodes c)) in
    record {
      apart = λ j k d lj lk e. one-place c c.sets (differ (map ref c.sets) (subst (λ (x : Config). Distinct (map ref x.sets)) (sym h.makes) (refs-differ h.told text h.are))) j k d (omega (arith, lj, count)) (omega (arith, lk, count)) e;
      plain = all-of (λ (s : DataSet). IsPlain s.domain) (configured_model c).sets (λ s i. let o = source (set_defined (nodes c)) s c.sets i in
          subst (λ (x : DataSet). IsPlain x.domain) (sym o.2) (sets-plain h.told text h.are o.0 (subst (λ (x : Config). Among o.0 x.sets) h.makes o.1)));
      named = all-of (λ (b : Block). IsReferred (configured_model c).sets b.initial.dat_set) (configured_model c).blocks (λ b i. let o = source block_defined b c.blocks i in
          subst (λ (x : Block). IsReferred (configured_model c).sets x.initial.dat_set) (sym o.2) (is-referred c o.0.dat_set h.told h.makes (blocks-told h.told h.told h.found o.0 (subst (λ (x : Config). Among o.0 x.blocks) h.makes o.1))));
    }

pub few-told : (told : List Line) (text : List ℕ) → AreLines text told → (length (config_of told).blocks ≡ blocks told) × (blocks told ≤ 32)
few-told [] text h = (refl, omega arith)
few-told (lines.Brcb block ∷ before) text h = let go = few-told before h.0 h.3 in (omega (arith, length-append (config_of before).blocks (block ∷ []), go.0), omega (arith, h.4.follows.few))
few-told (line ∷ before) text h = few-told before h.0 h.3

pub few-blocks : (text : List ℕ) (c : Config) → SpellsConfig text c → length (configured_model c).blocks ≤ 32
few-blocks text c h = let f = few-told h.told text h.are in omega (arith, length-map c.blocks block_defined, ap (λ (x : Config). length x.blocks) h.makes, f.0, f.1)
