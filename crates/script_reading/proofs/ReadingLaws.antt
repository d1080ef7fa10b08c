-- Lines that were read one after another.
use Rattle.std.proofs.Common.{◌≡◌, ℕ, suc, Bool, List, ◌∷◌, ◌++◌, length, take, refl, sym, ap, subst, ◌∙◌, inl, inr, arith}
use Rattle.std.specs.Prelude.{min, Result, Ok, Err, nat_lt}
use Rattle.std.proofs.Math.Nat.{min_comm, min-eq_left}
use Rattle.std.proofs.lemmas.Bool.Decides.{leb_tells}
use Rattle.std.proofs.lemmas.List.{take_all}
use Rattle.record_outcome.specs.Records.{limit, NoNewline, pieces, has_begun}
use Rattle.record_outcome.specs.declared.status.Status.{Status}
use Rattle.script_plans.specs.Moves.{opening, Move, goes, stops, ends}
use Rattle.script_plans.specs.Inputs.{line_at, Outcome, refused, ready, ended, moved, run, outcome}
use Rattle.script_reading.specs.Readings.{plan_seen, place_of, Moved, Reads, HasPlan, LinesRead, EndsBetween, Concludes}
use Rattle.script_plans.proofs.WholeLaws.{comes}
use Rattle.script_plans.proofs.PlanLaws.{plans-are}
use Rattle.script_reading.specs.declared.plan.Plan.{Plan as Held}
use Rattle.script_reading.specs.declared.next.Next.{Next}
use Rattle.script_reading.specs.declared.next.Next.TheVariants as nexts
use Rattle.script_reading.specs.declared.session.Session.{Session}
use Rattle.script_reading.specs.declared.stage.Stage.TheVariants as stages
use Rattle.script_reading.proofs.RunLaws.{run-line, run-rest}

abbrev run-at : Bool → Session → List ℕ → Outcome
run-at long x octets = run long x.lines (place_of x.stage) (pieces octets)

-- of the octets the lines before the rest were read
abbrev pub HasRead : Session → Session → List ℕ → List ℕ → Type 0
HasRead old now octets rest = (long : Bool) → run-at long old octets ≡ run-at long now rest

module _ (old mid : Session) (octets rest line after : List ℕ) (read : HasRead old mid octets rest) (is : rest ≡ line ++ 10 ∷ after) (whole : NoNewline line) where
  then-line : (long : Bool) (m : Move) → line_at (suc mid.lines) (place_of mid.stage) line ≡ m → run-at long old octets ≡ moved m (λ to. run long (suc mid.lines) to (pieces after))
  then-line long m does =
      read long
      ∙ (ap (run-at long mid) is
      ∙ (run-line long mid.lines (place_of mid.stage) line after whole ∙ ap (λ m. moved m (λ to. run long (suc mid.lines) to (pieces after))) does))

  -- it goes on
  pub read-on : (next : Next) (new : Session) → next ≡ nexts.On → new.lines ≡ suc mid.lines → Moved next (place_of new.stage) (line_at (suc mid.lines) (place_of mid.stage) line) → HasRead old new octets after
  read-on next new on lines does = λ long.
      let goes-on : line_at (suc mid.lines) (place_of mid.stage) line ≡ goes (place_of new.stage) = subst (λ n. Moved n (place_of new.stage) (line_at (suc mid.lines) (place_of mid.stage) line)) on does in
      then-line long (goes (place_of new.stage)) goes-on ∙ ap (λ n. run long n (place_of new.stage) (pieces after)) (sym lines)

  -- it stops, or has come to the last line
  pub read-end : (next : Next) (new : Session) → (next ≡ nexts.On → ⊥) → Moved next (place_of new.stage) (line_at (suc mid.lines) (place_of mid.stage) line) → LinesRead next after old new octets
  read-end nexts.On new off does = absurd (off refl)
  read-end (nexts.Stop status) new off does = λ long. then-line long (stops status) does
  read-end nexts.End new off does = (does.0, does.1, λ long. then-line long (ends does.0) does.2)

-- ---- the whole

pub take-min : (n : ℕ) (xs : List ℕ) → take (min (length xs) n) xs ≡ take n xs
take-min n xs = elim (leb_tells (length xs) n) [
  | inl t ↦ ap (λ m. take m xs) (min-eq_left t.1) ∙ (take_all (length xs) xs (omega arith) ∙ sym (take_all n xs t.1))
  | inr t ↦ ap (λ m. take m xs) (min_comm (length xs) n ∙ min-eq_left (omega (arith, t.1)))
]

pub ends-between : (next : Next) (rest : List ℕ) (old new : Session) (octets : List ℕ) → LinesRead next rest old new octets → EndsBetween next (place_of new.stage)
ends-between nexts.On rest old new octets read = tt
ends-between (nexts.Stop status) rest old new octets read = tt
ends-between nexts.End rest old new octets read = (read.0, read.1)

-- of an input whose octets within the limit were read from the beginning
pub concludes : (r : Result Held Status) (next : Next) (rest octets : List ℕ) (old new : Session) (long begun : Bool) → old ≡ record { lines = 0; stage = stages.Opening } → LinesRead next rest old new (take limit octets)
    → long ≡ nat_lt limit (length octets) → begun ≡ has_begun rest → Concludes r new long next begun → Reads r (outcome octets)
unfolding outcome
concludes r next rest octets old new long begun first read is-long is-begun made = subst (Reads r) start (told next read made) where
  whole : Outcome
  whole = run-at long old (take limit octets)

  start : whole ≡ run (nat_lt limit (length octets)) 0 opening (pieces (take limit octets))
  start = (λ i. run (is-long i) (first i).lines (place_of (first i).stage) (pieces (take limit octets)))

  told : (next : Next) → LinesRead next rest old new (take limit octets) → Concludes r new long next begun → Reads r whole
  told nexts.On read made = subst (Reads r) (sym (read.1 long ∙ (run-rest long new.lines (place_of new.stage) rest read.0 ∙ ap (λ b. refused (ended long b (suc new.lines) (place_of new.stage))) (sym is-begun)))) made
  told (nexts.Stop status) read made = subst (Reads r) (sym (read long)) made
  told nexts.End read made = subst (Reads r) (sym (read.2 long)) (made read.0 read.1)

-- what is read of the octets is what they are by the grammar
pub read-plan : (r : Result Held Status) (octets : List ℕ) → Reads r (outcome octets) → HasPlan r octets
read-plan (Ok x) octets reads = plans-are octets (plan_seen x) reads
read-plan (Err status) octets reads = λ p is. let never : ready p ≡ refused status = sym (comes octets p is) ∙ reads in absurd cc
