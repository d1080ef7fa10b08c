-- The notes of a point become the entries of the blocks.
use Rattle.std.proofs.Common.{◌≡◌, ◌≢◌, ◌<◌, ℕ, List, [], ◌∷◌, length, refl, ap, ap₂, sym, ◌∙◌, subst, arith, ◌⊎◌, inl, inr, Some}
use Rattle.std.specs.Prelude.{slice_get, slice_set}
use Rattle.std.proofs.lemmas.Bool.{cases_eq}
use Rattle.std.proofs.lemmas.List.{get_or-set_same, get_or-set_other}
use Rattle.std.proofs.lemmas.List.Elements.{All-nil}
use Rattle.std.proofs.lemmas.Option.{slice_get_within}
use Rattle.sv_base.specs.Filled.{Filled}
use Rattle.bay_model.specs.declared.flags.Change.{Change}
use Rattle.bay_model.specs.declared.flags.Trg.{Trg}
use Rattle.bay_model.specs.declared.note.Mention.{Mention}
use Rattle.bay_model.specs.declared.tables.MemberShape.{MemberShape}
use Rattle.bay_model.specs.declared.tables.NodeRow.{NodeRow}
use Rattle.data_sets.specs.Books.{Book}
use Rattle.brcb_state.specs.Components.{trg_of}
use Rattle.trigger_core.specs.Noted.{noted}
use Rattle.value_store.specs.Stored.{Stored}
use Rattle.touch_index.specs.Gathered.{IsSetOf}
use Rattle.touch_index.specs.Gathering.{no_note, note_at, trg_at, with_items, AreEmpty}
use Rattle.report_block.specs.declared.block.ReportBlock.{ReportBlock}
use Rattle.report_block.specs.EntryOctets.{IsKeepable}
use Rattle.report_block.specs.Events.{after_noting, pieces_of}
use Rattle.block_watch.specs.declared.watch.Watch.{Watch}
use Rattle.block_watch.specs.Watched.{IsWatching, IsLent, IsNoteOf, members_in}
use Rattle.block_watch.proofs.WatchLaws.{got-here, got-there, option-at}
use Rattle.block_events.specs.Events.{mentions_of, IsReady}
use Rattle.block_events.proofs.MentionLaws.{noted-keepable, noted-order, length-noted}
use Rattle.list_laws.proofs.Options.{some_is}

module _ (rows : List NodeRow) (book : Book) where
  abbrev shapes : ReportBlock → List MemberShape
  shapes = members_in rows book

  -- ---- the notes of a point

  -- the note that a walk over the touches made of each part is the one of the definition
  pub made : (n : ℕ) (parts : List ReportBlock) (w : Watch) (trgs : List Trg) (changes : List Change) (notes : List (Filled Mention)) → IsWatching rows book n parts w → trgs ≡ w.options.items
      → ((b : ℕ) (ms : List MemberShape) → b < length w.index.blocks → IsSetOf w.index.blocks b ms → (note_at notes b).items ≡ noted changes (trg_at trgs b) 1 ms)
      → (b : ℕ) (part : ReportBlock) → slice_get parts b ≡ Some part → (note_at notes b).items ≡ mentions_of changes (shapes part) part
  made n parts w trgs changes notes is same gathered b part at =
      let below = slice_get_within parts b part at in
      let used = ap (λ (l : List Trg). trg_at l b) (same ∙ is.options) ∙ option-at parts b part at in
      gathered b (shapes part) (omega (arith, below, is.index.count)) (is.index.touches b part at) ∙ ap (λ (g : Trg). noted changes g 1 (shapes part)) used

  -- the note of a part whose data set the index has
  pub note-of : (stored : List Stored) (changes : List Change) (part : ReportBlock) (note : List Mention) → IsReady rows book stored part → note ≡ mentions_of changes (shapes part) part → IsNoteOf rows book stored part note
  note-of stored changes part note ready is =
      let trg = trg_of part.block.options.trg_ops in
      subst (IsNoteOf rows book stored part) (sym is) (record {
        lent = ready.lent;
        members = noted-keepable stored changes trg (shapes part) ready.few ready.writable;
        few = omega (arith, length-noted changes trg 1 (shapes part), ready.few);
        order = noted-order changes trg 0 1 (shapes part) (omega arith);
        within = ready.within;
        gathers = ready.gathers;
      })

  module _ (stored : List Stored) (moment step : ℕ) where
    -- a part with the event of a note
    abbrev pub noting : List Mention → ReportBlock → ReportBlock
    noting ms p = after_noting moment step (pieces_of stored (shapes p) ms) p

    -- part k, with what is left of its note, is to become this
    abbrev pub Left : List ReportBlock → List (Filled Mention) → ℕ → ReportBlock → Type 0
    Left parts notes k target = (now : ReportBlock) × (slice_get parts k ≡ Some now) × IsNoteOf rows book stored now (note_at notes k).items × (noting (note_at notes k).items now ≡ target)

    -- its data set stays
    lent-stays : (ms : List Mention) (p : ReportBlock) → IsLent rows book p → IsLent rows book (noting ms p)
    lent-stays ms p is = record { set = is.set; there = is.there }

    -- and the memory of what it gathers
    pub room-stays-after : (ms : List Mention) (p : ReportBlock) → (noting ms p).window.members ≡ p.window.members
    room-stays-after [] p = refl
    room-stays-after (m ∷ ms) p = refl

    -- the note of part b was kept
    pub left-next : (parts : List ReportBlock) (notes : List (Filled Mention)) (b : ℕ) (part : ReportBlock) (k : ℕ) (target : ReportBlock) → slice_get parts b ≡ Some part → b < length notes
        → Left parts notes k target → Left (slice_set parts b (noting (note_at notes b).items part)) (with_items b [] notes) k target
    left-next parts notes b part k target at below was = by (cases_eq k b) where
      after : ReportBlock
      after = noting (note_at notes b).items part

      by : (k ≡ b) ⊎ (k ≢ b) → Left (slice_set parts b after) (with_items b [] notes) k target
      by (inl e) =
          let none : (note_at (with_items b [] notes) k).items ≡ [] = ap (λ j. (note_at (with_items b [] notes) j).items) e ∙ ap (λ (f : Filled Mention). f.items) (get_or-set_same notes b (record { items = []; room = (note_at notes b).room }) no_note below) in
          let same : part ≡ was.0 = some_is part was.0 (sym at ∙ (ap (slice_get parts) (sym e) ∙ was.1)) in
          let mine = subst (λ (p : ReportBlock). IsNoteOf rows book stored p (note_at notes k).items) (sym same) was.2 in
          let lent = lent-stays (note_at notes b).items part mine.lent in (
            after,
            ap (slice_get (slice_set parts b after)) e ∙ got-here parts b part after at,
            subst (IsNoteOf rows book stored after) (sym none) (record {
              lent = lent;
              members = All-nil (IsKeepable stored (shapes after));
              few = omega arith;
              order = tt;
              within = omega (arith, mine.within, room-stays-after (note_at notes b).items part);
              gathers = omega (arith, mine.gathers, room-stays-after (note_at notes b).items part);
            }),
            ap (λ ms. noting ms after) none ∙ (ap₂ (λ (p : ReportBlock) j. noting (note_at notes j).items p) same (sym e) ∙ was.3),
          )
      by (inr e) =
          let same : (note_at (with_items b [] notes) k).items ≡ (note_at notes k).items = ap (λ (f : Filled Mention). f.items) (get_or-set_other notes b k (record { items = []; room = (note_at notes b).room }) no_note e) in (
            was.0,
            got-there parts b k was.0 after e was.1,
            subst (IsNoteOf rows book stored was.0) (sym same) was.2,
            ap (λ ms. noting ms was.0) same ∙ was.3,
          )

    pub left-none : (parts : List ReportBlock) (notes : List (Filled Mention)) (k : ℕ) (target : ReportBlock) → AreEmpty notes → k < length notes → Left parts notes k target → slice_get parts k ≡ Some target
    left-none parts notes k target empty below was = was.1 ∙ ap Some (sym (ap (λ ms. noting ms was.0) (empty k no_note below)) ∙ was.3)

    pub left-first : (parts : List ReportBlock) (notes : List (Filled Mention)) (k : ℕ) (part : ReportBlock) → slice_get parts k ≡ Some part → IsNoteOf rows book stored part (note_at notes k).items → Left parts notes k (noting (note_at notes k).items part)
    left-first parts notes k part at is = (part, at, is, refl)
