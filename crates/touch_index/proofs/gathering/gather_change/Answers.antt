-- why `gathering::gather_change` answers as its contract says
use Rattle.std.proofs.Common.{◌≡◌, ◌≢◌, ◌<◌, ◌+◌, ◌∙◌, inl, inr, ℕ, ap, ap₂, sym, refl, arith, length, get_or, drop, true, false}
use Rattle.std.proofs.lemmas.Bool.{cases_eq}
use Rattle.std.proofs.lemmas.List.{length-set}
use Rattle.sv_base.specs.Filled.{Filled}
use Rattle.bay_model.specs.declared.flags.Trg.{Trg}
use Rattle.bay_model.specs.declared.note.Mention.{Mention}
use Rattle.bay_model.specs.Mentions.{add}
use Rattle.bay_model.specs.Notes.{is_any}
use Rattle.trigger_core.specs.Noted.{reasons_by}
use Rattle.touch_index.specs.Spread.{no_touch}
use Rattle.touch_index.specs.Gathering.{Gathered, note_at, trg_at, with_items, add_touched}
use Rattle.touch_index.proofs.GatheringLaws.{trg_there, touched_step, other_touched, own_touched, fits_on, fits_more, room_for, items_here, items_there, room_same}
use Rattle.touch_index.proofs.gathering.gather_change.Goals as goal
use Rattle.touch_index.proofs.gathering.gather_change.Goals.{then-is_any, else-is_any}

pub add-requires-clause-room : goal.add-requires-clause-room
add-requires-clause-room c =
    let k = c.loop-touch.touch-index in
    let t = get_or c.args.touches.now k no_touch in
    let there : t.block.0 < length c.args.out.now.notes = c.requires.within k no_touch c.loop-touch-test.true in
    room_for t.block.0 k c.reasons_by-reasons.result c.args.touches.now (note_at c.loop-touch.out.notes t.block.0) c.loop-touch-test.true (c.loop-touch.invariant.fits t.block.0 there) refl (sym c.is_any.ensures ∙ c.if-is_any.true)

pub loop-touch-preserved : goal.loop-touch-preserved
loop-touch-preserved c =
    let k = c.loop-touch.touch-index in
    let t = get_or c.args.touches.now k no_touch in
    let old = c.loop-touch.out.notes in
    let ts = c.args.touches.now in
    let ch = c.args.change in
    let there : t.block.0 < length c.args.out.now.notes = c.requires.within k no_touch c.loop-touch-test.true in
    let below : t.block.0 < length old = omega (arith, there, c.loop-touch.invariant.count) in
    let trgs : t.block.0 < length c.args.trgs.now = omega (arith, there, c.requires.trgs) in
    let reasons : c.reasons_by-reasons.result ≡ reasons_by (trg_at c.args.trgs.now t.block.0) ch = c.reasons_by-reasons.ensures ∙ ap (λ (g : Trg). reasons_by g ch) (trg_there c.args.trgs.now t.block.0 _ trgs) in
    elim c.if-is_any.branch [
      | then-is_any w ↦
          let any : is_any c.reasons_by-reasons.result ≡ true = sym c.is_any.ensures ∙ w.if-is_any.true in
          let ms = add t.member.0 c.reasons_by-reasons.result (note_at old t.block.0).items in
          let now : c.if-is_any.out.notes ≡ with_items t.block.0 ms old = ap (λ (g : Gathered). g.notes) w.out-is ∙ w.add.ensures in
          let room : (b : ℕ) → (note_at c.if-is_any.out.notes b).room ≡ (note_at old b).room = λ b. ap (λ l. (note_at l b).room) now ∙ room_same old t.block.0 ms below b in
          let here : (b : ℕ) → b ≡ t.block.0 → (note_at c.if-is_any.out.notes b).items ≡ ms = λ b e. ap (λ l. (note_at l b).items) now ∙ items_here old t.block.0 ms below b e in
          let apart : (b : ℕ) → b ≢ t.block.0 → (note_at c.if-is_any.out.notes b).items ≡ (note_at old b).items = λ b e. ap (λ l. (note_at l b).items) now ∙ items_there old t.block.0 ms below b e in
          record {
            count = ap length now ∙ (length-set old t.block.0 (record { items = ms; room = (note_at old t.block.0).room }) ∙ c.loop-touch.invariant.count);
            rooms = λ b. room b ∙ c.loop-touch.invariant.rooms b;
            rest = λ b h. ap (add_touched b (trg_at c.args.trgs.now b) ch (drop (k + 1) ts)) (elim (cases_eq b t.block.0) [
              | inl e ↦ here b e ∙ (ap₂ (λ r l. add t.member.0 r l) reasons (ap (λ j. (note_at old j).items) (sym e))
                  ∙ (ap (λ j. add t.member.0 (reasons_by (trg_at c.args.trgs.now j) ch) (note_at old b).items) (sym e)
                  ∙ sym (own_touched b (trg_at c.args.trgs.now b) ch t (note_at old b).items true e (ap (λ j. is_any (reasons_by (trg_at c.args.trgs.now j) ch)) e ∙ (ap is_any (sym reasons) ∙ any)))))
              | inr e ↦ apart b e ∙ sym (other_touched b (trg_at c.args.trgs.now b) ch t (note_at old b).items e)
            ]) ∙ (sym (touched_step b (trg_at c.args.trgs.now b) ch ts k (note_at old b).items c.loop-touch-test.true) ∙ c.loop-touch.invariant.rest b h);
            fits = λ b h. elim (cases_eq b t.block.0) [
              | inl e ↦ fits_more b k c.reasons_by-reasons.result ts (note_at old b) (note_at c.if-is_any.out.notes b) c.loop-touch-test.true (c.loop-touch.invariant.fits b h) (sym e) any
                  (here b e ∙ ap (λ j. add t.member.0 c.reasons_by-reasons.result (note_at old j).items) (sym e)) (room b)
              | inr e ↦ fits_on b k ts (note_at old b) (note_at c.if-is_any.out.notes b) c.loop-touch-test.true (c.loop-touch.invariant.fits b h) (apart b e) (room b)
            ];
          }
      | else-is_any w ↦
          let none : is_any c.reasons_by-reasons.result ≡ false = sym c.is_any.ensures ∙ w.if-is_any.false in
          let now : c.if-is_any.out.notes ≡ old = ap (λ (g : Gathered). g.notes) w.out-is in
          let same : (b : ℕ) → note_at c.if-is_any.out.notes b ≡ note_at old b = λ b. ap (λ l. note_at l b) now in
          record {
            count = ap length now ∙ c.loop-touch.invariant.count;
            rooms = λ b. ap (λ (n : Filled Mention). n.room) (same b) ∙ c.loop-touch.invariant.rooms b;
            rest = λ b h. ap (add_touched b (trg_at c.args.trgs.now b) ch (drop (k + 1) ts)) (elim (cases_eq b t.block.0) [
              | inl e ↦ ap (λ (n : Filled Mention). n.items) (same b) ∙ sym (own_touched b (trg_at c.args.trgs.now b) ch t (note_at old b).items false e (ap (λ j. is_any (reasons_by (trg_at c.args.trgs.now j) ch)) e ∙ (ap is_any (sym reasons) ∙ none)))
              | inr e ↦ ap (λ (n : Filled Mention). n.items) (same b) ∙ sym (other_touched b (trg_at c.args.trgs.now b) ch t (note_at old b).items e)
            ]) ∙ (sym (touched_step b (trg_at c.args.trgs.now b) ch ts k (note_at old b).items c.loop-touch-test.true) ∙ c.loop-touch.invariant.rest b h);
            fits = λ b h. fits_on b k ts (note_at old b) (note_at c.if-is_any.out.notes b) c.loop-touch-test.true (c.loop-touch.invariant.fits b h) (ap (λ (n : Filled Mention). n.items) (same b)) (ap (λ (n : Filled Mention). n.room) (same b));
          }
    ]
