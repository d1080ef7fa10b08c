-- The book goes as a history goes.
use Rattle.std.proofs.Common.{◌≡◌, ◌<◌, ◌+◌, ℕ, zero, suc, Bool, true, false, List, [], ◌∷◌, ◌++◌, length, map, filter, refl, sym, ap, ap₂, subst, ◌∙◌, arith, inl, inr, Option, None, Some, slice_index_or, slice_set, append_assoc}
use Rattle.std.specs.Prelude.{◌==◌, if◌then◌else◌}
use Rattle.std.specs.Option.{option_map}
use Rattle.std.specs.List.{find}
use Rattle.std.specs.Str.{bytes_eq}
use Rattle.std.proofs.lemmas.Bool.Decides.{eqb_tells}
use Rattle.sv_base.specs.declared.value.Value.TheVariants as kinds
use Rattle.bay_model.specs.declared.answer.Output.{Output}
use Rattle.bay_model.specs.declared.request.SetName.{SetName}
use Rattle.bay_model.specs.declared.request.Target.{Target}
use Rattle.bay_model.specs.declared.request.Target.TheVariants as targets
use Rattle.sv_base.specs.declared.components.Comp.TheVariants as comps
use Rattle.bay_model.specs.Definitions.{number_of}
use Rattle.bay_model.specs.Model.{Model, DataSet, Block, Parameters}
use Rattle.bay_model.specs.Parameters.{parameters_at, written_to}
use Rattle.bay_model.specs.Points.{Past, answered, defined, wrote}
use Rattle.bay_model.specs.Sets.{sets, dynamic}
use Rattle.data_sets.specs.Books.{Booked, Book, place_of, number_named, number_referred, no_set, node_in, defined_set, items_in, after_define, after_hold, after_release}
use Rattle.data_sets.specs.Standing.{Stands, StandsFor, IsPlain, data_set, dat_sets, dat_sets_from, at}
use Rattle.data_sets.proofs.BookLaws.{defines, holds_more, holds_less}

-- ---- what is found

found-next : (b : Booked) (bs : List Booked) (o : Option ℕ) → option_map (λ k. data_set (slice_index_or (b ∷ bs) k no_set)) (option_map suc o) ≡ option_map (λ k. data_set (slice_index_or bs k no_set)) o
found-next b bs None = refl
found-next b bs (Some k) = refl

pub found : (p : Booked → Bool) (q : DataSet → Bool) → ((s : Booked) → p s ≡ q (data_set s)) → (bs : List Booked) → option_map (λ k. data_set (slice_index_or bs k no_set)) (place_of p bs) ≡ find q (map data_set bs)
found p q same [] = refl
found p q same (b ∷ bs) = by (p b) (q (data_set b)) (same b) (found p q same bs)
  where
    by : (x y : Bool) → x ≡ y → option_map (λ k. data_set (slice_index_or bs k no_set)) (place_of p bs) ≡ find q (map data_set bs)
        → option_map (λ k. data_set (slice_index_or (b ∷ bs) k no_set)) (if x then Some 0 else option_map suc (place_of p bs)) ≡ (if y then Some (data_set b) else find q (map data_set bs))
    by true true e later = refl
    by false false e later = found-next b bs (place_of p bs) ∙ later
    by true false e later = cc
    by false true e later = cc

pub items : (domain : List ℕ) (bs : List Booked) → items_in domain bs ≡ map (λ (s : DataSet). s.item) (filter (λ (s : DataSet). bytes_eq s.domain domain) (map data_set bs))
items domain [] = refl
items domain (b ∷ bs) = by (bytes_eq b.name.domain domain) (items domain bs)
  where
    by : (t : Bool) → items_in domain bs ≡ map (λ (s : DataSet). s.item) (filter (λ (s : DataSet). bytes_eq s.domain domain) (map data_set bs))
        → map (λ (s : Booked). s.name.item) (if t then b ∷ filter (λ (s : Booked). bytes_eq s.name.domain domain) bs else filter (λ (s : Booked). bytes_eq s.name.domain domain) bs)
        ≡ map (λ (s : DataSet). s.item) (if t then data_set b ∷ filter (λ (s : DataSet). bytes_eq s.domain domain) (map data_set bs) else filter (λ (s : DataSet). bytes_eq s.domain domain) (map data_set bs))
    by true later = ap (λ l. b.name.item ∷ l) later
    by false later = later

-- ---- a set is defined

nodes_same : (ts : List Target) → map (λ n. n.0) (map node_in ts) ≡ map number_of ts
nodes_same [] = refl
nodes_same (targets.Node n name ∷ ts) = ap (λ l. n.0 ∷ l) (nodes_same ts)
nodes_same (targets.Missing name ∷ ts) = ap (λ l. 0 ∷ l) (nodes_same ts)
nodes_same (targets.Alternate name ∷ ts) = ap (λ l. 0 ∷ l) (nodes_same ts)

unwritten : (c : Model) (a n m : ℕ) (o : Output) (name : SetName) (nodes : List ℕ) (before : Past) (b : ℕ) (ks : List Block) → dat_sets_from c (at n m (answered a o (defined name nodes)) ∷ before) b ks ≡ dat_sets_from c before b ks
unwritten c a n m o name nodes before b [] = refl
unwritten c a n m o name nodes before b (k ∷ ks) = ap (λ l. (parameters_at c b before).dat_set ∷ l) (unwritten c a n m o name nodes before (suc b) ks)

pub book_defines : (b : Book) (c : Model) (a n m : ℕ) (o : Output) (name : SetName) (ts : List Target) (before : Past) → Stands b c before → number_named name b ≡ None → IsPlain name.domain
    → Stands (after_define name ts b) c (at n m (answered a o (defined name (map number_of ts))) ∷ before)
book_defines b c a n m o name ts before h none plain =
    let one : DataSet = record { domain = name.domain; item = name.item; nodes = map number_of ts } in
    let all : sets c before ++ data_set (defined_set name ts) ∷ [] ≡ c.sets ++ (dynamic before ++ one ∷ [])
    = ap (λ l. sets c before ++ record { domain = name.domain; item = name.item; nodes = l } ∷ []) (nodes_same ts) ∙ append_assoc c.sets (dynamic before) (one ∷ []) in
    subst (λ l. StandsFor (after_define name ts b) (length c.sets) l (dat_sets c (at n m (answered a o (defined name (map number_of ts))) ∷ before))) all
    (subst (λ u. StandsFor (after_define name ts b) (length c.sets) (sets c before ++ data_set (defined_set name ts) ∷ []) u) (sym (unwritten c a n m o name (map number_of ts) before 0 c.blocks))
    (defines b (length c.sets) (sets c before) (dat_sets c before) h name ts none plain))

-- ---- a DatSet is written

pub dat_at : (c : Model) (past : Past) (b j : ℕ) (ks : List Block) → j < length ks → slice_index_or (dat_sets_from c past b ks) j [] ≡ (parameters_at c (b + j) past).dat_set
dat_at c past b j [] below = absurd (omega (arith, below))
dat_at c past b zero (k ∷ ks) below = ap (λ x. (parameters_at c x past).dat_set) (omega arith)
dat_at c past b (suc j) (k ∷ ks) below = dat_at c past (suc b) j ks (omega (arith, below)) ∙ ap (λ x. (parameters_at c x past).dat_set) (omega arith)

pub dat_count : (c : Model) (past : Past) (b : ℕ) (ks : List Block) → length (dat_sets_from c past b ks) ≡ length ks
dat_count c past b [] = refl
dat_count c past b (k ∷ ks) = ap suc (dat_count c past (suc b) ks)

module _ (c : Model) (a n m : ℕ) (t : List ℕ) (before : Past) where
  parameters_if : (x : Bool) (was : Parameters) → (if x then written_to comps.DatSet (kinds.Text t) was else was).dat_set ≡ (if x then t else was.dat_set)
  parameters_if true was = refl
  parameters_if false was = refl

  -- those of the blocks from number b on, where block i is written, which lies before them
  later : (i b : ℕ) (ks : List Block) → i < b → dat_sets_from c (at n m (wrote a i comps.DatSet (kinds.Text t)) ∷ before) b ks ≡ dat_sets_from c before b ks
  later i b [] below = refl
  later i b (k ∷ ks) below = ap₂ (λ d l. d ∷ l)
      (parameters_if (i == b) (parameters_at c b before) ∙ elim (eqb_tells i b) [ inl u ↦ absurd (omega (arith, u.1, below)) | inr u ↦ ap (λ x. if x then t else (parameters_at c b before).dat_set) u.0 ])
      (later i (suc b) ks (omega (arith, below)))

  pub written : (b j : ℕ) (ks : List Block) → j < length ks → dat_sets_from c (at n m (wrote a (b + j) comps.DatSet (kinds.Text t)) ∷ before) b ks ≡ slice_set (dat_sets_from c before b ks) j t
  written b j [] below = absurd (omega (arith, below))
  written b zero (k ∷ ks) below = ap₂ (λ d l. d ∷ l)
      (parameters_if (b + 0 == b) (parameters_at c b before) ∙ elim (eqb_tells (b + 0) b) [ inl u ↦ ap (λ x. if x then t else (parameters_at c b before).dat_set) u.0 | inr u ↦ absurd (u.1 (omega arith)) ])
      (later (b + 0) (suc b) ks (omega arith))
  written b (suc j) (k ∷ ks) below = ap₂ (λ d l. d ∷ l)
      (parameters_if (b + suc j == b) (parameters_at c b before) ∙ elim (eqb_tells (b + suc j) b) [ inl u ↦ absurd (omega (arith, u.1)) | inr u ↦ ap (λ x. if x then t else (parameters_at c b before).dat_set) u.0 ])
      (ap (λ i. dat_sets_from c (at n m (wrote a i comps.DatSet (kinds.Text t)) ∷ before) (suc b) ks) (omega arith) ∙ written (suc b) j ks (omega (arith, below)))

  block_written : (j : ℕ) → j < length c.blocks → dat_sets c (at n m (wrote a j comps.DatSet (kinds.Text t)) ∷ before) ≡ slice_set (dat_sets c before) j t
  block_written j below = ap (λ i. dat_sets_from c (at n m (wrote a i comps.DatSet (kinds.Text t)) ∷ before) 0 c.blocks) (omega arith) ∙ written 0 j c.blocks below

  block_at : (j : ℕ) → j < length c.blocks → slice_index_or (dat_sets c before) j [] ≡ (parameters_at c j before).dat_set
  block_at j below = dat_at c before 0 j c.blocks below ∙ ap (λ x. (parameters_at c x before).dat_set) (omega arith)

pub book_names : (b : Book) (c : Model) (a k j n m : ℕ) (t : List ℕ) (before : Past) → Stands b c before → j < length c.blocks → (parameters_at c j before).dat_set ≡ [] → number_referred t b ≡ Some k
    → Stands (after_hold k b) c (at n m (wrote a j comps.DatSet (kinds.Text t)) ∷ before)
book_names b c a k j n m t before h below empty is =
    subst (λ u. StandsFor (after_hold k b) (length c.sets) (sets c before) u) (sym (block_written c a n m t before j below))
    (holds_more b (length c.sets) (sets c before) (dat_sets c before) h j k t (omega (arith, below, dat_count c before 0 c.blocks)) (block_at c a n m t before j below ∙ empty) is)

pub book_empties : (b : Book) (c : Model) (a k j n m : ℕ) (before : Past) → Stands b c before → j < length c.blocks → number_referred (parameters_at c j before).dat_set b ≡ Some k
    → Stands (after_release k b) c (at n m (wrote a j comps.DatSet (kinds.Text [])) ∷ before)
book_empties b c a k j n m before h below is =
    subst (λ u. StandsFor (after_release k b) (length c.sets) (sets c before) u) (sym (block_written c a n m [] before j below))
    (holds_less b (length c.sets) (sets c before) (dat_sets c before) h j k (omega (arith, below, dat_count c before 0 c.blocks)) (ap (λ d. number_referred d b) (block_at c a n m [] before j below) ∙ is))
