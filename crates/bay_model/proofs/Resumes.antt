-- After an accepted EntryID the reports are of its successors.
use Rattle.std.proofs.Common.{◌≡◌, ℕ, suc, max, ◌≤◌, Bool, true, false, not, List, [], ◌∷◌, ◌++◌, length, refl, ap, ◌∙◌, subst}
use Rattle.std.specs.Prelude.{Some, ◌==◌, ◌&&◌, nat_lt}
use Rattle.std.proofs.lemmas.Bool.Decides.{Decides-eqb}
use Rattle.sv_base.specs.declared.value.Value.TheVariants as kinds
use Rattle.sv_base.specs.declared.components.Comp.TheVariants.{EntryID}
use Rattle.bay_model.specs.Model.{Model}
use Rattle.bay_model.specs.Points.{Deed, wrote, reported, Point, Past}
use Rattle.bay_model.specs.Entries.{selected}
use Rattle.bay_model.specs.Retained.{front}
use Rattle.bay_model.specs.Blocks.{cursor, cursor_after, entry_id, next, next_number}
use Rattle.bay_model.specs.Singles.{arrival}
use Rattle.bay_model.specs.Answers.{History, points}
use Rattle.bay_model.specs.Successors.{IsNext, AllNext, is_resumption, none_resumes, sent_number, last_sent, IsSuccessor, AreSuccessors}
use Rattle.bay_model.proofs.Reported.{reports_are_next, next-is}

kept : (b : ℕ) (d : Deed) (f was : ℕ) → is_resumption b d ≡ false → cursor_after b d f was ≡ sent_number b d was
kept b (wrote a k EntryID (kinds.Octets o)) f was h = rw h refl
kept b _ f was h = refl

both : (x y : Bool) → (not x && y) ≡ true → (x ≡ false) × (y ≡ true)
both false true h = (refl, refl)
both false false h = (refl, h)
both true y h = cc

module _ (c : Model) (b k : ℕ) (from : Past) (starts : cursor c b from ≡ k) where
  cursor-since : (ps : List Point) → none_resumes b ps ≡ true → cursor c b (ps ++ from) ≡ last_sent b k ps
  cursor-since [] h = starts
  cursor-since (p ∷ ps) h = kept b p.deed (front c b (p ∷ (ps ++ from))) (cursor c b (ps ++ from)) (both (is_resumption b p.deed) (none_resumes b ps) h).0
      ∙ ap (sent_number b p.deed) (cursor-since ps (both (is_resumption b p.deed) (none_resumes b ps) h).1)

  successor : (p : Point) (ps : List Point) (d : Deed) → cursor c b (ps ++ from) ≡ last_sent b k ps → IsNext c p (ps ++ from) d → IsSuccessor c b p (last_sent b k ps) (ps ++ from) d
  successor p ps (reported a j n) is h = λ e. let f : (n ≡ next_number c b (arrival p.step p.moment ∷ (ps ++ from))) × (n ≤ length (selected c b (arrival p.step p.moment ∷ (ps ++ from)))) =
      next-is c b (arrival p.step p.moment ∷ (ps ++ from)) n (subst (λ j. next c j (arrival p.step p.moment ∷ (ps ++ from)) ≡ Some n) e h)
      in (
        f.0 ∙ ap (λ w. suc (max w (front c b (arrival p.step p.moment ∷ (ps ++ from))))) is,
        f.1,
        ap (λ w. nat_lt w (front c b (arrival p.step p.moment ∷ (ps ++ from)))) is,
      )
  successor p ps _ is h = tt

  successors : (ps : List Point) → none_resumes b ps ≡ true → AllNext c (ps ++ from) → AreSuccessors c b k from ps
  successors [] h all = tt
  successors (p ∷ ps) h all = (
    successors ps (both (is_resumption b p.deed) (none_resumes b ps) h).1 all.0,
    successor p ps p.deed (cursor-since ps (both (is_resumption b p.deed) (none_resumes b ps) h).1) all.1,
  )

pub resumes_after : (c : Model) (h : History) (b a m n : ℕ) (octets : List ℕ) (ps : List Point) (before : Past)
    → points c h ≡ ps ++ record { moment = m; step = n; deed = wrote a b EntryID (kinds.Octets octets) } ∷ before
    → (entry_id octets == 0) ≡ false → none_resumes b ps ≡ true
    → AreSuccessors c b (entry_id octets) (record { moment = m; step = n; deed = wrote a b EntryID (kinds.Octets octets) } ∷ before) ps
resumes_after c h b a m n octets ps before e z none = successors c b (entry_id octets) (record { moment = m; step = n; deed = wrote a b EntryID (kinds.Octets octets) } ∷ before)
    (rw ((Decides-eqb b b).1 refl, z) refl) ps none (subst (AllNext c) e (reports_are_next c h))
