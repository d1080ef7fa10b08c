-- The data sets that a bay serves: the members of a block are there, and have the shapes of their nodes.
use Rattle.std.proofs.Common.{◌≡◌, ◌<◌, ℕ, List, [], ◌∷◌, length, map, get_or, refl, sym, subst, ap, ◌∙◌, arith}
use Rattle.std.specs.List.{All}
use Rattle.std.proofs.lemmas.List.Elements.{All-nil, All-cons, All-head, All-tail, All-map}
use Rattle.std.proofs.lemmas.Option.{slice_get-get_or}
use Rattle.sv_base.specs.declared.config.Config.{Config}
use Rattle.sv_base.specs.declared.numbers.NodeId.{NodeId}
use Rattle.bay_model.specs.declared.tables.MemberShape.{MemberShape}
use Rattle.bay_model.specs.Named.{configured_model, nodes}
use Rattle.bay_model.specs.Points.{Past}
use Rattle.bay_model.specs.Parameters.{parameters_at}
use Rattle.bay_model.specs.Sets.{sets, members}
use Rattle.data_sets.specs.Books.{Book}
use Rattle.object_model.specs.Nodes.{node_rows}
use Rattle.object_model.specs.Tables.{node_id}
use Rattle.object_model.proofs.TableLaws.{count-rows, rows-are-nodes}
use Rattle.set_view.specs.Shapes.{HasNumber, no_row, node_numbers, shape_of}
use Rattle.data_sets.proofs.SetLaws.{numbers_of_shapes}
use Rattle.block_reports.specs.Blanks.{AreShort, IsShortSet}
use Rattle.block_reports.specs.Again.{AreNodes}
use Rattle.bay_config.specs.Servable.{IsMember}
use Rattle.block_watch.specs.Served.{AreServedSets}
use Rattle.block_watch.proofs.ShapeLaws.{nodes_named, served_members, served-set, members-named, sets_in}

all-of : {A : Type 0} (P Q : A → Type 0) → ((x : A) → P x → Q x) → (xs : List A) → All P xs → All Q xs
all-of P Q f [] all = All-nil Q
all-of P Q f (x ∷ xs) all = All-cons Q x xs (f x (All-head P x xs all)) (all-of P Q f xs (All-tail P x xs all))

module _ (c : Config) (book : Book) (are : AreServedSets c book) (reference : List ℕ) where
  abbrev IsThere : ℕ → Type 0
  IsThere n = n < length (nodes c)

  abbrev mine : List ℕ
  mine = nodes_named (sets_in book) reference

  pub members-there : All IsThere mine
  members-there = all-of (IsMember c) IsThere (λ n h. h.there) mine (served-set c book reference are).members

  -- the row of a node has its number
  row-number : (n : ℕ) → n < length (nodes c) → HasNumber (node_rows c) (node_id n)
  row-number n h = (rows-are-nodes c n (get_or (node_rows c) n no_row) (slice_get-get_or (node_rows c) n no_row (omega (arith, h, count-rows c)))).node

  ids-same : (ns : List ℕ) → map (λ (n : NodeId). n.0) (map node_id ns) ≡ ns
  ids-same [] = refl
  ids-same (n ∷ ns) = ap (λ l. n ∷ l) (ids-same ns)

  -- the shapes of the members have their nodes
  served-nodes : node_numbers (served_members c book reference) ≡ mine
  served-nodes = numbers_of_shapes (node_rows c) (map node_id mine) (All-map (HasNumber (node_rows c)) node_id mine (all-of IsThere (λ n. HasNumber (node_rows c) (node_id n)) row-number mine members-there)) ∙ ids-same mine

  -- the references of the members are short
  pub shapes-short : IsShortSet (configured_model c) (served_members c book reference)
  shapes-short = subst (AreShort (configured_model c)) (sym served-nodes) (served-set c book reference are).short

  -- each shape is that of a node that is there
  pub shapes-there : AreNodes c (served_members c book reference)
  shapes-there = All-map (λ (s : MemberShape). s.node.0 < length (nodes c)) (shape_of (node_rows c)) (map node_id mine)
      (All-map (λ (n : NodeId). (shape_of (node_rows c) n).node.0 < length (nodes c)) node_id mine (all-of IsThere (λ n. (shape_of (node_rows c) (node_id n)).node.0 < length (nodes c)) (λ n h. omega (arith, h, row-number n h)) mine members-there))

  -- the members of a block whose DatSet is the reference
  pub served-now : (b : ℕ) (past : Past) (shapes : List MemberShape) → shapes ≡ served_members c book reference → reference ≡ (parameters_at (configured_model c) b past).dat_set → sets_in book ≡ sets (configured_model c) past
      → node_numbers shapes ≡ members (configured_model c) b past
  served-now b past shapes is dat_set same = ap node_numbers is ∙ (served-nodes ∙ sym (members-named (configured_model c) b past book reference dat_set same))
