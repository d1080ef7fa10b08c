-- Until when time brings nothing to the blocks of a bay.
use Rattle.std.proofs.Common.{◌≡◌, ◌<◌, ◌≤◌, ◌∙◌, ◌∷◌, ℕ, suc, List, [], get_or, length, map, refl, sym, ap, ap₂, subst, arith, inl, inr}
use Rattle.std.specs.Prelude.{Option, None, Some, replicate, slice_get, slice_set}
use Rattle.std.proofs.lemmas.List.{get_or-replicate, length-map, length-replicate, length-set}
use Rattle.std.proofs.lemmas.Option.{get_or_from_slice_get, slice_get-get_or, slice_get_within}
use Rattle.list_laws.proofs.Places.{all-at, got-map, got-set}
use Rattle.bay_model.specs.declared.tables.NodeRow.{NodeRow}
use Rattle.data_sets.specs.Books.{Book}
use Rattle.value_store.specs.Stored.{Stored}
use Rattle.report_block.specs.declared.block.ReportBlock.{ReportBlock}
use Rattle.report_block.specs.Alls.{all_pieces, for_integrity}
use Rattle.window_core.specs.Windows.{end_of}
use Rattle.report_block.specs.Due.{due_at, next_integrity, IsBefore}
use Rattle.report_block.proofs.DueLaws.{idle-before, due-stays}
use Rattle.block_watch.specs.Dues.{AreBefore}
use Rattle.block_events.specs.Timed.{arrived_part, arrived_all, IsQuietUntil, AreQuietUntil}
use Rattle.block_watch.specs.Watched.{members_in}
use Rattle.block_watch.proofs.DueLaws.{before-second}

-- ---- a moment at which nothing is due

module _ (was now : ℕ) (later : was ≤ now) where
  -- time leaves a block as it is
  pub one-arrives : (due : Option ℕ) (part : ReportBlock) → IsBefore now due → IsQuietUntil was due part → (rows : List NodeRow) (book : Book) (stored : List Stored) (step : ℕ)
      → arrived_part rows book stored was now step part ≡ part
  one-arrives due part before quiet rows book stored step = idle-before was now part step (all_pieces stored (members_in rows book part) for_integrity) (quiet now before)

  -- and it stays so
  pub one-stays : (due : Option ℕ) (part : ReportBlock) → IsBefore now due → IsQuietUntil was due part → IsQuietUntil now due part
  one-stays due part before quiet = λ at h. subst (IsBefore at) (sym (due-stays was now part later (quiet now before))) (quiet at h)

  -- of all blocks
  module _ (dues : List (Option ℕ)) (before : AreBefore now dues) where
    pub none-arrives : (rows : List NodeRow) (book : Book) (stored : List Stored) (step : ℕ) (parts : List ReportBlock) → AreQuietUntil was dues parts → arrived_all rows book stored was now step parts ≡ parts
    none-arrives rows book stored step parts quiet = by parts (λ b part there.
        let below : b < length dues = omega (arith, slice_get_within parts b part there, quiet.count) in
        one-arrives (get_or dues b None) part (before b None below) (quiet.each b (get_or dues b None) part (slice_get-get_or dues b None below) there) rows book stored step)
      where
        by : (l : List ReportBlock) → ((b : ℕ) (part : ReportBlock) → slice_get l b ≡ Some part → arrived_part rows book stored was now step part ≡ part) → arrived_all rows book stored was now step l ≡ l
        by [] stays = refl
        by (p ∷ l) stays = ap₂ (λ (x : ReportBlock) (xs : List ReportBlock). x ∷ xs) (stays 0 p refl) (by l (λ b part there. stays (suc b) part there))

    pub stays-quiet : (parts : List ReportBlock) → AreQuietUntil was dues parts → AreQuietUntil now dues parts
    stays-quiet parts quiet = record {
      count = quiet.count;
      each = λ b due part at there. one-stays due part (all-at (IsBefore now) dues b due before at) (quiet.each b due part at there);
    }

-- ---- one block is another

pub quiet-set : (at : ℕ) (dues : List (Option ℕ)) (parts : List ReportBlock) (i : ℕ) (due : Option ℕ) (q : ReportBlock) → IsQuietUntil at due q → AreQuietUntil at dues parts
    → AreQuietUntil at (slice_set dues i due) (slice_set parts i q)
quiet-set at dues parts i due q own quiet = record {
  count = length-set dues i due ∙ (quiet.count ∙ sym (length-set parts i q));
  each = λ b d p at_b there. elim (got-set dues i b due d at_b) [
    | inl e ↦ elim (got-set parts i b q p there) [
      | inl f ↦ subst (λ x. IsQuietUntil at x p) (sym e.1) (subst (IsQuietUntil at due) (sym f.1) own)
      | inr f ↦ absurd (f.0 e.0)
    ]
    | inr e ↦ elim (got-set parts i b q p there) [
      | inl f ↦ absurd (e.0 f.0)
      | inr f ↦ quiet.each b d p e.1 f.1
    ]
  ];
}

-- a block that gathers nothing, and counts the same periods
pub quiet-idle : (at : ℕ) (dues : List (Option ℕ)) (parts : List ReportBlock) (i : ℕ) (p q : ReportBlock) → slice_get parts i ≡ Some p → q.window.gathered ≡ None → q.block ≡ p.block → q.origin ≡ p.origin → AreQuietUntil at dues parts
    → AreQuietUntil at dues (slice_set parts i q)
quiet-idle at dues parts i p q at_i none block origin quiet =
    let ends : due_at at q ≡ next_integrity at q = rw none refl in
    let same : next_integrity at q ≡ next_integrity at p = rw (block, origin) refl in
    record {
      count = quiet.count ∙ sym (length-set parts i q);
      each = λ b d part due there. elim (got-set parts i b q part there) [
        | inl e ↦ subst (IsQuietUntil at d) (sym e.1) (λ now before. subst (IsBefore now) (sym (ends ∙ same)) (before-second now (end_of p.window) (next_integrity at p) (quiet.each b d p due (ap (slice_get parts) e.0 ∙ at_i) now before)))
        | inr e ↦ quiet.each b d part due e.1
      ];
    }

-- a block that has the same due
pub quiet-same : (at : ℕ) (dues : List (Option ℕ)) (parts : List ReportBlock) (i : ℕ) (p q : ReportBlock) → slice_get parts i ≡ Some p → due_at at q ≡ due_at at p → AreQuietUntil at dues parts → AreQuietUntil at dues (slice_set parts i q)
quiet-same at dues parts i p q at_i same quiet = record {
  count = quiet.count ∙ sym (length-set parts i q);
  each = λ b d part due there. elim (got-set parts i b q part there) [
    | inl e ↦ subst (IsQuietUntil at d) (sym e.1) (λ now before. subst (IsBefore now) (sym same) (quiet.each b d p due (ap (slice_get parts) e.0 ∙ at_i) now before))
    | inr e ↦ quiet.each b d part due e.1
  ];
}

-- blocks that have the same due
pub quiet-map : (at : ℕ) (dues : List (Option ℕ)) (f : ReportBlock → ReportBlock) → ((p : ReportBlock) → due_at at (f p) ≡ due_at at p) → (parts new : List ReportBlock) → new ≡ map f parts → AreQuietUntil at dues parts → AreQuietUntil at dues new
quiet-map at dues f same parts new is quiet = record {
  count = quiet.count ∙ (sym (length-map parts f) ∙ ap length (sym is));
  each = λ b d part due there.
      (let was = got-map f parts b part (ap (λ l. slice_get l b) (sym is) ∙ there) in
      subst (IsQuietUntil at d) was.2 (λ now before. subst (IsBefore now) (sym (same was.0)) (quiet.each b d was.0 due was.1 now before)));
}

-- ---- at first

replicated : (n b : ℕ) (due : Option ℕ) → slice_get (replicate n (Some 0)) b ≡ Some due → due ≡ Some 0
replicated n b due there =
    let first : Option ℕ = Some 0 in
    let below : b < n = omega (arith, slice_get_within (replicate n first) b due there, length-replicate n first) in
    sym (get_or_from_slice_get (replicate n first) b due None there) ∙ get_or-replicate n b first None below

-- a moment that has always come will do for any block
pub quiet-first : (at : ℕ) (dues : List (Option ℕ)) (parts : List ReportBlock) → dues ≡ replicate (length parts) (Some 0) → AreQuietUntil at dues parts
quiet-first at dues parts is = record {
  count = (let first : Option ℕ = Some 0 in ap length is ∙ length-replicate (length parts) first);
  each = λ b due part there at_b. subst (λ d. IsQuietUntil at d part) (sym (replicated (length parts) b due (ap (λ l. slice_get l b) (sym is) ∙ there))) (λ now before. absurd (omega (arith, before)));
}
