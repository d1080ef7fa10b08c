-- The book of the configured data sets alone.
use Rattle.std.proofs.Common.{◌≡◌, ◌<◌, ℕ, zero, suc, List, [], ◌∷◌, map, length, refl, ap, ap₂, sym, ◌∙◌, subst, arith, slice_index_or, inl, inr}
use Rattle.std.specs.Prelude.{is_some}
use Rattle.std.specs.List.{All}
use Rattle.std.proofs.lemmas.List.{length-map}
use Rattle.std.proofs.lemmas.List.Elements.{All-head, All-tail}
use Rattle.sv_base.specs.declared.config.Config.{Config}
use Rattle.bay_model.specs.Model.{DataSet}
use Rattle.bay_model.specs.Named.{configured_model}
use Rattle.bay_model.specs.Sets.{set_referred}
use Rattle.object_model.specs.Tables.{node_id, set_row, set_rows}
use Rattle.data_sets.specs.Books.{Book, booked, no_set, opened}
use Rattle.data_sets.specs.Standing.{IsNamed, data_set}
use Rattle.bay_config.specs.Servable.{IsReferred, IsServable, IsServedSet}
use Rattle.block_watch.specs.Served.{AreServedSets}
use Rattle.block_watch.proofs.BookLaws.{known-booked}

-- ---- its sets are those of the model

back : (ns : List ℕ) → map (λ n. n.0) (map node_id ns) ≡ ns
back [] = refl
back (n ∷ ns) = ap (λ l. n ∷ l) (back ns)

set-back : (s : DataSet) → data_set (booked (set_row s)) ≡ s
set-back s = ap (λ l. record { domain = s.domain; item = s.item; nodes = l }) (back s.nodes)

same-sets : (ss : List DataSet) → map data_set (map booked (map set_row ss)) ≡ ss
same-sets [] = refl
same-sets (s ∷ ss) = ap₂ (λ (d : DataSet) (ds : List DataSet). d ∷ ds) (set-back s) (same-sets ss)

pub sets-back : (c : Config) → map data_set (opened (set_rows c)).sets ≡ (configured_model c).sets
sets-back c = same-sets (configured_model c).sets

pub count-back : (c : Config) → (opened (set_rows c)).configured ≡ length (configured_model c).sets
count-back c = length-map (configured_model c).sets set_row

-- ---- each can be served

served-at : (c : Config) (ss : List DataSet) (k : ℕ) → All (IsServedSet c) ss → k < length (map booked (map set_row ss)) → IsServedSet c (data_set (slice_index_or (map booked (map set_row ss)) k no_set))
served-at c [] k all below = absurd (omega (arith, below))
served-at c (s ∷ ss) zero all below = subst (IsServedSet c) (sym (set-back s)) (All-head (IsServedSet c) s ss all)
served-at c (s ∷ ss) (suc k) all below = served-at c ss k (All-tail (IsServedSet c) s ss all) (omega (arith, below))

pub opened-served : (c : Config) → IsServable c → AreServedSets c (opened (set_rows c))
opened-served c served = λ k below. served-at c (configured_model c).sets k served.sets below

-- ---- a DatSet

pub referred-first : (c : Config) (book : Book) (d : List ℕ) → book ≡ opened (set_rows c) → IsReferred c d → IsNamed book d
referred-first c book d is (inl e) = inl e
referred-first c book d is (inr some) = inr (known-booked d book ∙ (ap (λ all. is_some (set_referred d all)) (ap (λ (b : Book). map data_set b.sets) is ∙ sets-back c) ∙ some))
