-- All members of a block's data set for one reason, as they are in the model.
use Rattle.std.proofs.Common.{◌≡◌, ◌∙◌, ◌∷◌, ◌++◌, ℕ, suc, Bool, true, false, List, [], map, refl, sym, ap, subst, if◌then◌else◌}
use Rattle.sv_base.specs.Data.{data_of}
use Rattle.sv_base.specs.declared.config.Config.{Config}
use Rattle.bay_model.specs.declared.note.Mention.{Mention}
use Rattle.bay_model.specs.declared.report.Reasons.{Reasons}
use Rattle.bay_model.specs.declared.tables.MemberShape.{MemberShape}
use Rattle.bay_model.specs.Lookups.{node_of}
use Rattle.bay_model.specs.Model.{Model}
use Rattle.bay_model.specs.Named.{configured_model}
use Rattle.bay_model.specs.Notes.{Kept, all_members, is_any, noted}
use Rattle.bay_model.specs.Parameters.{parameters_at}
use Rattle.bay_model.specs.Points.{Past}
use Rattle.bay_model.specs.Sets.{sets}
use Rattle.data_sets.specs.Books.{Book}
use Rattle.bay_model.specs.Values.{whole}
use Rattle.trigger_core.specs.Points.{mention}
use Rattle.value_store.specs.Stored.{Stored}
use Rattle.value_store.specs.Wholes.{Stands as ValuesStand}
use Rattle.report_block.specs.Alls.{all_from, all_pieces}
use Rattle.report_block.specs.Coming.{AreOf}
use Rattle.report_block.specs.Events.{pieces_of}
use Rattle.bay_config.specs.Servable.{IsServable}
use Rattle.block_watch.specs.Served.{AreServedSets}
use Rattle.bay_values.specs.Held.{AreHeld}
use Rattle.block_events.proofs.EventLaws.{note-kept, note-readable}
use Rattle.block_watch.proofs.ShapeLaws.{AreServed, node_shapes, nodes_named, served_members, served-set, sets_in, members-named}

-- each member is mentioned, with the reason
all-mentioned : (c : Config) (r : Reasons) → is_any r ≡ true → (m : Model) (past : Past) (i : ℕ) (ns : List ℕ) → map mention (noted m (λ n. r) past i ns) ≡ all_from r i (node_shapes c ns)
all-mentioned c r some m past i [] = refl
all-mentioned c r some m past i (n ∷ ns) = by (is_any r) some (noted m (λ n. r) past (suc i) ns) (all-mentioned c r some m past (suc i) ns)
  where
    octets : List ℕ
    octets = data_of (whole m past (node_of m n).tree)

    by : (t : Bool) → t ≡ true → (ks : List Kept) → map mention ks ≡ all_from r (suc i) (node_shapes c ns)
        → map mention ((if t then record { number = i; reasons = r; octets = octets } ∷ [] else []) ++ ks) ≡ all_from r i (node_shapes c (n ∷ ns))
    by true is ks same = ap (λ (l : List Mention). record { member = record { 0 = i }; reasons = r } ∷ l) same
    by false is ks same = cc

-- what is kept of all members of a block's data set are those of the model, with the values after past
pub all-are : (c : Config) (b : ℕ) (r : Reasons) → is_any r ≡ true → (before past : Past) (stored : List Stored) (book : Book) (shapes : List MemberShape) (reference : List ℕ) → IsServable c → AreServedSets c book → AreHeld c stored
    → ValuesStand stored (configured_model c) past → shapes ≡ served_members c book reference → reference ≡ (parameters_at (configured_model c) b before).dat_set → sets_in book ≡ sets (configured_model c) before
    → AreOf (all_pieces stored shapes r) (all_members (configured_model c) b r before past)
all-are c b r some before past stored book shapes reference served booked held values has is same =
    let m = configured_model c in
    let named = members-named m b before book reference is same in
    let are : AreServed c (nodes_named (sets_in book) reference) = served-set c book reference booked in
    subst (λ ns. AreOf (all_pieces stored shapes r) (noted m (λ n. r) past 1 ns)) (sym named) (record {
      are = ap (λ l. all_pieces stored l r) has
          ∙ (ap (pieces_of stored (served_members c book reference)) (sym (all-mentioned c r some m past 1 (nodes_named (sets_in book) reference)))
          ∙ note-kept c stored past (nodes_named (sets_in book) reference) served held values are (λ n. r));
      readable = note-readable c stored past (nodes_named (sets_in book) reference) served held values are (λ n. r);
    })
