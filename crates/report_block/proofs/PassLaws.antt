-- What the calls of time, of events and of writes make of a block, one after the other, is what comes of a point.
use Rattle.std.proofs.Common.{◌≡◌, ◌∙◌, ◌++◌, ◌∷◌, ℕ, Bool, true, false, List, [], length, refl, sym, ap, ap₂, append-nil, if◌then◌else◌}
use Rattle.std.specs.Prelude.{◌==◌, Option, None, Some, Ok}
use Rattle.std.proofs.lemmas.Bool.{eq-eqb}
use Rattle.sv_base.specs.declared.numbers.AssocNo.{AssocNo}
use Rattle.sv_base.specs.declared.value.Value.{Value}
use Rattle.sv_base.specs.declared.components.Comp.{Comp}
use Rattle.bay_model.specs.declared.note.Mention.{Mention}
use Rattle.bay_model.specs.declared.tables.MemberShape.{MemberShape}
use Rattle.bay_model.specs.Points.{Deed, wrote}
use Rattle.brcb_state.specs.Changes.{written}
use Rattle.brcb_state.specs.Standing.{after_deed, is_general}
use Rattle.brcb_state.specs.declared.block.Block.{Block}
use Rattle.brcb_state.specs.declared.told.Effect.{Effect}
use Rattle.brcb_state.specs.declared.told.Effect.TheVariants as effects
use Rattle.entry_ring.specs.Ringed.{Ringed, after_entry}
use Rattle.value_store.specs.Stored.{Stored}
use Rattle.window_core.specs.Pieces.{Piece, octets_of}
use Rattle.window_core.specs.Windows.{Gathered, Windowed, closed, closed_by, after_event, after_time, over_at, told, empty as empty_window}
use Rattle.window_core.specs.Standing.{Body, body_of}
use Rattle.report_block.specs.declared.block.ReportBlock.{ReportBlock}
use Rattle.report_block.specs.Coming.{after_bodies, purged_if, body_at, arrived, arrived_if, is_due, origin_after, came, noting, after_note, closed_at_note}
use Rattle.report_block.specs.Components.{after_writing, brought, coming_by}
use Rattle.report_block.specs.Events.{after_noting, pieces_of}
use Rattle.report_block.specs.Writes.{settled, set_after}

pub after-append : (r : Ringed) (xs ys : List Body) → after_bodies r (xs ++ ys) ≡ after_bodies (after_bodies r xs) ys
after-append r [] ys = refl
after-append r (x ∷ xs) ys = after-append (after_entry r (record { moment = x.moment; step = x.step; kept = x.kept })) xs ys

-- ---- time

module _ (was now step : ℕ) (all : List Piece) (part : ReportBlock) where
  -- what is gathered closes, and the entry of all members follows
  abbrev pub entered : ReportBlock → ReportBlock
  entered p = record p { ring = after_bodies p.ring (body_at now step all ∷ []) }

  abbrev pub begun : ReportBlock → ReportBlock
  begun p = record p { origin = origin_after now p }

  pub passed-due : (p q r : ReportBlock) → is_due was now part ≡ true → p ≡ record part { window = closed part.window; ring = after_bodies part.ring (body_of step part.window.gathered) }
      → q ≡ entered p → r ≡ begun q → r ≡ arrived was now step all part
  passed-due p q r due shut kept is = is ∙ (ap begun (kept ∙ ap entered shut)
      ∙ (ap (λ x. record part { window = closed part.window; ring = x; origin = origin_after now part }) (sym (after-append part.ring (body_of step part.window.gathered) (body_at now step all ∷ [])))
      ∙ ap (λ t. arrived_if t now step all part) (sym due)))

  pub passed-else : (p r : ReportBlock) → is_due was now part ≡ false → p ≡ record part { window = after_time now part.window; ring = after_bodies part.ring (body_of step (over_at now part.window)) }
      → r ≡ begun p → r ≡ arrived was now step all part
  passed-else p r due shut is = is ∙ (ap begun shut ∙ ap (λ t. arrived_if t now step all part) (sym due))

-- ---- an event

pub event-came : (b : ℕ) (d : Deed) (now step : ℕ) (ps : List Piece) (part : ReportBlock) → after_deed b d part.ring.front now [] part.block ≡ part.block → came b d now step (noting ps) part ≡ after_noting now step ps part
event-came b d now step ps part same =
    ap₂ (λ (x : Block) (bs : List Body). record part { block = x; ring = after_bodies part.ring bs; window = after_note now ps part.window }) same (append-nil (body_of step (closed_at_note now ps part.window)))

-- what is told of what closed is its entry
pub told-some : (r : Ringed) (step moment : ℕ) (octets : List ℕ) (g : Option Gathered) → told g ≡ Some (moment, octets) → after_entry r (record { moment = moment; step = step; kept = octets }) ≡ after_bodies r (body_of step g)
told-some r step moment octets None is = cc
told-some r step moment octets (Some g) is =
    let same : ◌≡◌ {A = ℕ × List ℕ} (g.moment, octets_of g.pieces) (moment, octets) = cc in
    ap (λ (p : ℕ × List ℕ). after_entry r (record { moment = p.0; step = step; kept = p.1 })) (sym same)

pub told-none : (r : Ringed) (step : ℕ) (g : Option Gathered) → told g ≡ None → r ≡ after_bodies r (body_of step g)
told-none r step None is = refl
told-none r step (Some g) is = cc

-- an event that mentions a member
module _ (stored : List Stored) (shapes : List MemberShape) (now step : ℕ) (part : ReportBlock) where
  abbrev adding : Ringed → Windowed → ReportBlock
  adding r w = record part { ring = r; window = w }

  pub added : (note : List Mention) (ps : List Piece) (r : Ringed) (w : Windowed) → (length note == 0) ≡ false → ps ≡ pieces_of stored shapes note → w ≡ after_event now ps part.window
      → r ≡ after_bodies part.ring (body_of step (closed_by now ps part.window)) → adding r w ≡ after_noting now step (pieces_of stored shapes note) part
  added [] ps r w some are left kept = cc
  added (m ∷ note) ps r w some are left kept =
      ap₂ adding (kept ∙ ap (λ l. after_bodies part.ring (body_of step (closed_by now l part.window))) are) (left ∙ ap (λ l. after_event now l part.window) are)

-- ---- a write

module _ (now step : ℕ) (all : List Piece) (part : ReportBlock) where
  nothing-more : (t : Bool) (w : Windowed) (o : Option ℕ) (bs : List Body) → record part { ring = purged_if t (after_bodies part.ring bs); window = w; origin = o } ≡ record part { ring = purged_if t (after_bodies part.ring (bs ++ [])); window = w; origin = o }
  nothing-more t w o bs = ap (λ (l : List Body). record part { ring = purged_if t (after_bodies part.ring l); window = w; origin = o }) (sym (append-nil bs))

  pub settled-brought : (e : Effect) → is_general e ≡ false → settled now step e part ≡ brought now step all e part
  settled-brought effects.Purge is = nothing-more true (empty_window part.window.members part.block.options.buf_tm) part.origin (body_of step part.window.gathered)
  settled-brought effects.PurgingChange is = nothing-more true (empty_window part.window.members part.block.options.buf_tm) (Some now) (body_of step part.window.gathered)
  settled-brought effects.General is = cc
  settled-brought effects.Nothing is = refl
  settled-brought effects.Enabled is = refl
  settled-brought effects.Disabled is = refl

  pub interrogated-brought : (p q r : ReportBlock) → p ≡ record part { window = closed part.window; ring = after_bodies part.ring (body_of step part.window.gathered) }
      → q ≡ record p { ring = after_bodies p.ring (body_at now step all ∷ []) } → r ≡ record q { window = empty_window q.window.members q.block.options.buf_tm }
      → r ≡ record part { window = empty_window part.window.members part.block.options.buf_tm; ring = after_bodies part.ring (body_of step part.window.gathered ++ body_at now step all ∷ []) }
  interrogated-brought p q r shut kept is =
      is ∙ (ap (λ (x : ReportBlock). record x { window = empty_window x.window.members x.block.options.buf_tm }) (kept ∙ ap (λ (x : ReportBlock). record x { ring = after_bodies x.ring (body_at now step all ∷ []) }) shut)
      ∙ ap (λ x. record part { window = empty_window part.window.members part.block.options.buf_tm; ring = x }) (sym (after-append part.ring (body_of step part.window.gathered) (body_at now step all ∷ []))))

pub write-came : (b : ℕ) (a : AssocNo) (owner : List ℕ) (comp : Comp) (v : Value) (named : Option ℕ) (now step : ℕ) (all : List Piece) (part : ReportBlock) (e : Effect)
    → record (came b (wrote a.0 b comp v) now step (coming_by all owner e) part) { set = set_after comp named part.set } ≡ after_writing a owner comp v named now step all part (Ok e)
write-came b a owner comp v named now step all part e = ap (λ (x : Block). record (brought now step all e (record part { block = x })) { set = set_after comp named part.set }) own
  where
    own : after_deed b (wrote a.0 b comp v) part.ring.front now owner part.block ≡ written a owner now comp v part.ring.front part.block
    own = ap (λ t. if t then written a owner now comp v part.ring.front part.block else part.block) (eq-eqb b b refl)
