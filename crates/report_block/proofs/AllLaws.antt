-- The octets that are kept of all members, and of each member of a note.
use Rattle.std.proofs.Common.{◌≡◌, ◌∙◌, ◌<◌, ◌≤◌, ◌+◌, ◌++◌, ◌∷◌, ◌-◌, ◌*◌, ℕ, suc, List, [], map, drop, take, length, slice_index_or, append_assoc, refl, sym, ap, ap₂, arith}
use Rattle.std.specs.List.{All, concat}
use Rattle.std.proofs.lemmas.List.{drop_more, take_more, map-append, length-append}
use Rattle.std.proofs.lemmas.List.Folds.{concat-append}
use Rattle.std.proofs.lemmas.List.Elements.{All-head, All-tail, All-get_or}
use Rattle.bay_model.specs.declared.note.Mention.{Mention}
use Rattle.bay_model.specs.declared.report.Reasons.{Reasons}
use Rattle.bay_model.specs.declared.tables.MemberShape.{MemberShape}
use Rattle.bay_model.specs.Notes.{Kept}
use Rattle.bay_model.specs.Retained.{kept_octets_of}
use Rattle.set_view.specs.Shapes.{no_shape}
use Rattle.value_store.specs.Stored.{Stored}
use Rattle.window_core.specs.Pieces.{Piece, pieces, AreRow}
use Rattle.report_block.specs.Alls.{all_from}
use Rattle.report_block.specs.EntryOctets.{note_octets, kept_of, kept_with, IsKeepable}
use Rattle.report_block.specs.Events.{pieces_of, AreInOrder}

module _ (stored : List Stored) (shapes : List MemberShape) where
  -- the octets of the member at a place, and of those after it
  all-next : (r : Reasons) (place : ℕ) → place < length shapes
      → note_octets stored shapes (all_from r (suc place) (drop place shapes))
      ≡ kept_octets_of (kept_with stored (slice_index_or shapes place no_shape) (record { member = record { 0 = place + 1 }; reasons = r })) ++ note_octets stored shapes (all_from r (suc (place + 1)) (drop (place + 1) shapes))
  all-next r place below =
      let at : suc place - 1 ≡ place = omega arith in
      let one : suc place ≡ place + 1 = omega arith in
      ap (λ l. note_octets stored shapes (all_from r (suc place) l)) (drop_more shapes place no_shape below)
      ∙ ap₂ (λ (j k : ℕ). kept_octets_of (kept_with stored (slice_index_or shapes j no_shape) (record { member = record { 0 = k }; reasons = r })) ++ note_octets stored shapes (all_from r (suc k) (drop (place + 1) shapes))) at one

  -- one member more was put
  pub all-more : (r : Reasons) (place : ℕ) (all items more : List ℕ) (shape : MemberShape) → place < length shapes → shape ≡ slice_index_or shapes place no_shape
      → more ≡ items ++ kept_octets_of (kept_with stored shape (record { member = record { 0 = place + 1 }; reasons = r }))
      → all ≡ items ++ note_octets stored shapes (all_from r (suc place) (drop place shapes)) → all ≡ more ++ note_octets stored shapes (all_from r (suc (place + 1)) (drop (place + 1) shapes))
  all-more r place all items more shape below is put so_far =
      let rest = note_octets stored shapes (all_from r (suc (place + 1)) (drop (place + 1) shapes)) in
      let own : MemberShape → List ℕ = λ s. kept_octets_of (kept_with stored s (record { member = record { 0 = place + 1 }; reasons = r })) in
      so_far ∙ (ap (λ l. items ++ l) (all-next r place below) ∙ (ap (λ s. items ++ (own s ++ rest)) (sym is) ∙ (sym (append_assoc items (own shape) rest) ∙ ap (λ l. l ++ rest) (sym put))))

  abbrev pub each_of : List Mention → List (List ℕ)
  each_of note = map (λ (m : Mention). kept_octets_of (kept_of stored shapes m)) note

  -- the pieces of a note by its octets
  pub pieces-same : (note : List Mention) → pieces note (each_of note) ≡ pieces_of stored shapes note
  pieces-same [] = refl
  pieces-same (m ∷ note) = ap (λ (ps : List Piece). record { number = m.member.0; octets = kept_octets_of (kept_of stored shapes m) } ∷ ps) (pieces-same note)

  -- four octets stand before a member's Data
  pub few-kept : (m : Mention) → IsKeepable stored shapes m → length (kept_octets_of (kept_of stored shapes m)) ≤ 504
  few-kept m is = omega (arith, is.writable.small)

  pub row-of : (members above : ℕ) (note : List Mention) → length shapes ≤ members → AreInOrder above note → All (IsKeepable stored shapes) note → AreRow members above (pieces note (each_of note))
  row-of members above [] within order all = tt
  row-of members above (m ∷ note) within order all =
      let first = All-head (IsKeepable stored shapes) m note all in
      (order.0, omega (arith, first.there, within), few-kept m first, row-of members m.member.0 note within order.1 (All-tail (IsKeepable stored shapes) m note all))

  -- the octets of one member more of a note were put
  pub each-step : (note : List Mention) (i : ℕ) (d : Mention) (each : List (List ℕ)) (shape : MemberShape) (blank octets : List ℕ) → i < length note → All (IsKeepable stored shapes) note
      → shape ≡ slice_index_or shapes ((slice_index_or note i d).member.0 - 1) no_shape → blank ≡ [] → octets ≡ blank ++ kept_octets_of (kept_with stored shape (slice_index_or note i d))
      → each ≡ each_of (take i note) → length (concat each) ≤ 504 * i → (each ++ octets ∷ [] ≡ each_of (take (i + 1) note)) × (length (concat (each ++ octets ∷ [])) ≤ 504 * (i + 1))
  each-step note i d each shape blank octets below all at none put so_far short =
      let m = slice_index_or note i d in
      let own : octets ≡ kept_octets_of (kept_of stored shapes m) = put ∙ ap₂ (λ (l : List ℕ) (s : MemberShape). l ++ kept_octets_of (kept_with stored s m)) none at in
      let few = few-kept m (All-get_or (IsKeepable stored shapes) note i d below all) in
      let long : length octets ≤ 504 = omega (arith, few, ap length own) in (
        ap₂ (λ (xs : List (List ℕ)) (o : List ℕ). xs ++ o ∷ []) so_far own
            ∙ (sym (map-append (λ (k : Mention). kept_octets_of (kept_of stored shapes k)) (take i note) (m ∷ [])) ∙ ap each_of (sym (take_more note i d below))),
        omega (arith, ap length (concat-append each (octets ∷ [])), length-append (concat each) (octets ++ []), length-append octets [], long, short),
      )

-- four octets stand before a member's Data
pub put-few : (items more : List ℕ) (k : Kept) (n : ℕ) → more ≡ items ++ kept_octets_of k → length k.octets ≤ 500 → length items ≤ 504 * n → length more ≤ 504 * (n + 1)
put-few items more k n put few short = omega (arith, ap length put, length-append items (kept_octets_of k), few, short)
