-- One line more: what was read so far goes on, or stops.
use Rattle.std.proofs.Common.{◌≡◌, ℕ, suc, Bool, List, [], ◌∷◌, ◌++◌, refl, sym, ap, ◌∙◌, append_assoc, append-nil}
use Rattle.std.specs.Prelude.{Option, None, Some}
use Rattle.record_outcome.specs.Moves.{Place, opening, Move, goes, stops}
use Rattle.record_outcome.specs.Records.{Outcome, behind, pieces, run, moved, has_begun, ended, line_at, NoNewline}
use Rattle.record_session.specs.Sessions.{IsAt, Advances, AdvancesOn, Reads, Moves, MovesTo, Fed}
use Rattle.record_outcome.proofs.LineLaws.{run-line, run-rest}
use Rattle.record_session.specs.declared.session.Session.{Session}
use Rattle.record_session.specs.declared.reader.Reader.{Reader}
use Rattle.record_outcome.specs.declared.status.Status.{Status}

line-split : (so_far line more : List ℕ) → (so_far ++ (line ++ 10 ∷ [])) ++ more ≡ so_far ++ (line ++ 10 ∷ more)
line-split so_far line more = append_assoc so_far (line ++ 10 ∷ []) more ∙ ap (λ o. so_far ++ o) (append_assoc line (10 ∷ []) more)

-- the octets so far come to this, whatever follows
abbrev pub ComesTo : List ℕ → List ℕ → ℕ → Place → Type 0
ComesTo octets written count place = (long : Bool) (more : List ℕ) → run long 0 opening (pieces (octets ++ more)) ≡ behind written (run long count place (pieces more))

pub reads-line : (written so_far line : List ℕ) (count : ℕ) (place : Place) (m : Move) → NoNewline line → line_at (suc count) place line ≡ m → ComesTo so_far written count place
    → (long : Bool) (more : List ℕ) → run long 0 opening (pieces ((so_far ++ (line ++ 10 ∷ [])) ++ more)) ≡ behind written (moved m (λ to. run long (suc count) to (pieces more)))
reads-line written so_far line count place m none is same long more =
    ap (λ o. run long 0 opening (pieces o)) (line-split so_far line more)
    ∙ (same long (line ++ 10 ∷ more)
    ∙ ap (behind written) (run-line long count place line more none ∙ ap (λ m. moved m (λ to. run long (suc count) to (pieces more))) is))

behind-both : (first second : List ℕ) (o : Outcome) → behind first (behind second o) ≡ behind (first ++ second) o
behind-both first second o = ap (λ t. record { status = o.status; text = t }) (sym (append_assoc first second o.text))

-- a line is read
pub reads-on : (stop : Option Status) (old new : Session) (line before now : List ℕ) → NoNewline line → new.lines ≡ suc old.lines
    → AdvancesOn stop old.stage new.stage (λ place. line_at (suc old.lines) place line) before now → Moves stop old new (line ++ 10 ∷ []) before now
reads-on stop old new line before now none count on = λ so_far written r. by stop so_far written r (line_at (suc old.lines) r.place line) refl (on r.place r.is_at)
  where
    by : (stop : Option Status) (so_far written : List ℕ) (r : Reads old so_far written) (m : Move) → line_at (suc old.lines) r.place line ≡ m → Advances stop new.stage m before now
        → MovesTo stop new (so_far ++ (line ++ 10 ∷ [])) written before now
    by None so_far written r (goes to text) is a = record {
      added = text;
      out = a.1;
      on = record {
        place = to;
        is_at = a.0;
        same = λ long more. reads-line written so_far line old.lines r.place (goes to text) none is r.same long more
            ∙ (behind-both written text (run long (suc old.lines) to (pieces more)) ∙ ap (λ n. behind (written ++ text) (run long n to (pieces more))) (sym count));
      };
    }
    by None so_far written r (stops status text) is a = absurd a
    by (Some status) so_far written r (goes to text) is a = absurd a
    by (Some status) so_far written r (stops told text) is a = record {
      added = text;
      out = a.1;
      on = λ long more. reads-line written so_far line old.lines r.place (stops told text) none is r.same long more ∙ ap (λ s. record { status = s; text = written ++ text }) (sym a.0);
    }

-- nothing was read yet
pub reads-none : (session : Session) → IsAt session.stage opening → session.lines ≡ 0 → Reads session [] []
reads-none session is count = record { place = opening; is_at = is; same = λ long more. ap (λ n. run long n opening (pieces more)) (sym count) }

-- no line is left after those that were read
pub fed-ends : (reader : Reader) (octets written : List ℕ) (long : Bool) (status : Status) → Fed reader octets written → NoNewline reader.held.items
    → ((place : Place) → IsAt reader.session.stage place → status ≡ ended long (has_begun reader.held.items) (suc reader.session.lines) place) → run long 0 opening (pieces octets) ≡ record { status = status; text = written }
fed-ends reader octets written long status f part is =
    ap (λ o. run long 0 opening (pieces o)) f.split
    ∙ (f.reads.same long reader.held.items
    ∙ (ap (behind written) (run-rest long reader.session.lines f.reads.place reader.held.items part)
    ∙ (ap (λ t. record { status = ended long (has_begun reader.held.items) (suc reader.session.lines) f.reads.place; text = t }) (append-nil written)
    ∙ ap (λ s. record { status = s; text = written }) (sym (is f.reads.place f.reads.is_at)))))
