-- What plain deeds make of a block: one that doesn't touch its entries, an event where BufTm is 0, and an accepted write.
use Rattle.std.proofs.Common.{rules, ◌≡◌, ℕ, max, true, false, List, [], ◌∷◌, ◌++◌, refl, sym, subst, ap, ◌∙◌, None, Some, Ok}
use Rattle.std.specs.Prelude.{◌==◌, Option}
use Rattle.std.proofs.lemmas.List.Elements.{All-nil}
use Rattle.std.proofs.lemmas.Bool.{eq-eqb}
use Rattle.sv_base.specs.declared.numbers.AssocNo.{AssocNo}
use Rattle.sv_base.specs.declared.value.Value.{Value}
use Rattle.sv_base.specs.declared.components.Comp.{Comp}
use Rattle.bay_model.specs.declared.note.Mention.{Mention}
use Rattle.bay_model.specs.declared.step.Setting.{Setting}
use Rattle.bay_model.specs.declared.tables.MemberShape.{MemberShape}
use Rattle.bay_model.specs.Model.{Model}
use Rattle.bay_model.specs.Points.{Deed, wrote, valued, Past, now}
use Rattle.bay_model.specs.Parameters.{is_interrogation, purges}
use Rattle.bay_model.specs.Notes.{note, all_members, no_reason}
use Rattle.bay_model.specs.Breaks.{cuts}
use Rattle.bay_model.specs.Retained.{kept_octets_of}
use Rattle.bay_model.specs.Associations.{address}
use Rattle.bay_model.specs.Singles.{arrival}
use Rattle.brcb_state.specs.Changes.{effect_of}
use Rattle.brcb_state.specs.Standing.{Stands as AttributesStand, after_deed, writers_address, OpensNoEnabler, is_general, is_purging, is_change, Tells}
use Rattle.brcb_state.specs.declared.block.Block.{Block}
use Rattle.brcb_state.specs.declared.told.Effect.{Effect}
use Rattle.value_store.specs.Stored.{Stored}
use Rattle.window_core.specs.Pieces.{Piece, octets_of}
use Rattle.window_core.specs.Windows.{Windowed}
use Rattle.window_core.specs.Points.{at}
use Rattle.window_core.proofs.DeedLaws.{unbroken-unchanged}
use Rattle.report_block.specs.declared.block.ReportBlock.{ReportBlock}
use Rattle.report_block.specs.EntryOctets.{kept_of, note_octets}
use Rattle.report_block.specs.Standing.{IsMemberKept, Stands}
use Rattle.report_block.specs.Coming.{came, untouched, noting, AreOf}
use Rattle.report_block.specs.Events.{pieces_of, with_note}
use Rattle.report_block.specs.Writes.{set_after}
use Rattle.report_block.specs.Components.{after_writing, coming_by}
use Rattle.report_block.proofs.PassLaws.{write-came}
use Rattle.report_block.proofs.StandLaws.{deed-stands}
use Rattle.list_laws.proofs.Truths.{never as off, or-right, or-left}

none-kept : AreOf [] []
none-kept = record { are = refl; readable = All-nil IsMemberKept }

module _ (c : Model) (b m n : ℕ) (before : Past) (part : ReportBlock) where
  -- what a deed doesn't touch it leaves as it is
  pub left-alone : (d : Deed) → [] ≡ writers_address d before → OpensNoEnabler b d before → note c b (at n m d) before ≡ [] → cuts c b d before ≡ false → Stands part c b (arrival n m ∷ before)
      → Stands (record part { block = after_deed b d part.ring.front (max m (now before)) [] part.block }) c b (at n m d ∷ before)
  left-alone d from opens none plain s = deed-stands c b m n d before part untouched s (record {
    address = from;
    opens = opens;
    note = subst (AreOf []) (sym none) none-kept;
    general = sym (or-left (is_interrogation b d) (purges c b d before) plain);
    all = λ is. off (sym (or-left (is_interrogation b d) (purges c b d before) plain) ∙ is);
    purge = sym (or-right (is_interrogation b d) (purges c b d before) plain);
    change = sym (unbroken-unchanged c b m n before d plain);
  })

-- ---- an event

pub octets-noted : (stored : List Stored) (shapes : List MemberShape) (ms : List Mention) → octets_of (pieces_of stored shapes ms) ≡ note_octets stored shapes ms
octets-noted stored shapes [] = refl
octets-noted stored shapes (m ∷ ms) = ap (λ l. kept_octets_of (kept_of stored shapes m) ++ l) (octets-noted stored shapes ms)

module _ (b moment n : ℕ) (settings : List Setting) (stored : List Stored) (shapes : List MemberShape) (part : ReportBlock) where
  noted-by : (w : Windowed) (g : _) → w.gathered ≡ g → g ≡ None → w.buf_tm ≡ 0 → (m : Mention) (ms : List Mention)
      → came b (valued settings) moment n (noting (pieces_of stored shapes (m ∷ ms))) (record part { window = w }) ≡ with_note stored shapes moment n (m ∷ ms) (record part { window = w })
  noted-by w (Some g) is none time m ms = cc
  noted-by w None is none time m ms =
      let all : List Mention = m ∷ ms in
      let ps = pieces_of stored shapes all in
      let zero : (w.buf_tm == 0) ≡ true = eq-eqb w.buf_tm 0 time in
      rw (zero, is, octets-noted stored shapes all) refl

  pub noted-at-once : part.window.buf_tm ≡ 0 → part.window.gathered ≡ None → (ms : List Mention) → came b (valued settings) moment n (noting (pieces_of stored shapes ms)) part ≡ with_note stored shapes moment n ms part
  noted-at-once time none [] = refl
  noted-at-once time none (m ∷ ms) = noted-by part.window part.window.gathered refl none time m ms

-- ---- a write

tells : (c : Model) (a : AssocNo) (b : ℕ) (comp : Comp) (v : Value) (n m : ℕ) (before : Past) (s : Block) → AttributesStand s c b (arrival n m ∷ before) → Tells (effect_of comp v s) c b (at n m (wrote a.0 b comp v)) before
tells c a b comp v n m before s st = search rules

-- the number of its data set is no part of what a block stands for
with-set : (part : ReportBlock) (set : Option ℕ) (c : Model) (b : ℕ) (past : Past) → Stands part c b past → Stands (record part { set = set }) c b past
with-set part set c b past s = record { block = s.block; ring = s.ring; window = s.window; origin = s.origin; readable = s.readable; group = s.group }

-- an accepted write of any component; these are all members, with their values, where it is a general interrogation
pub write-any-stands : (c : Model) (b m n : ℕ) (before : Past) (part : ReportBlock) (a : AssocNo) (owner : List ℕ) (comp : Comp) (v : Value) (named : Option ℕ) (e : Effect) (all : List Piece) → owner ≡ address a.0 before → e ≡ effect_of comp v part.block
    → (is_interrogation b (wrote a.0 b comp v) ≡ true → AreOf all (all_members c b (record no_reason { gi = true }) before (at n m (wrote a.0 b comp v) ∷ before)))
    → Stands part c b (arrival n m ∷ before) → Stands (after_writing a owner comp v named (max m (now before)) n all part (Ok e)) c b (at n m (wrote a.0 b comp v) ∷ before)
write-any-stands c b m n before part a owner comp v named e all from is members s =
    let d = wrote a.0 b comp v in
    let t = tells c a b comp v n m before part.block s.block in
    subst (λ x. Stands x c b (at n m d ∷ before)) (write-came b a owner comp v named (max m (now before)) n all part e)
    (with-set (came b d (max m (now before)) n (coming_by all owner e) part) (set_after comp named part.set) c b (at n m d ∷ before)
    (deed-stands c b m n d before part (coming_by all owner e) s (record {
      address = from;
      opens = tt;
      note = none-kept;
      general = ap is_general is ∙ t.general;
      all = members;
      purge = ap is_purging is ∙ t.purge;
      change = ap is_change is ∙ t.change;
    })))
