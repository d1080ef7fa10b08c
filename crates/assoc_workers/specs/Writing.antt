-- What a side that writes does: it takes what waits for its association, and writes what it is given.
use Rattle.std.specs.Prelude.{◌≡◌, ◌≢◌, ◌≤◌, ℕ, List, [], ◌∷◌, ◌++◌, Option, length, take, ◌⊎◌}
use Rattle.std.specs.List.{flat_map, AllByRecursion}
use Rattle.std.specs.Io.KnownBytes.{Appends}
use Rattle.sv_base.specs.declared.config.Config.{Config}
use Rattle.sv_base.specs.declared.numbers.AssocNo.{AssocNo}
use Rattle.bay_model.specs.declared.step.Step.TheVariants as steps
use Rattle.bay_model.specs.declared.answer.Answer.{Answer}
use Rattle.bay_model.specs.declared.answer.Answer.TheVariants as answers
use Rattle.bay_model.specs.declared.answer.Output.{Output}
use Rattle.osi_stack.specs.declared.events.Line.{Line}
use Rattle.osi_stack.specs.Framed.{framed}
use Rattle.bay_answers.specs.Replies.{output_pdus}
use Rattle.bay_histories.specs.Rules.{Rules}
use Rattle.history_lock.specs.Passes.{Known}
use Rattle.assoc_workers.specs.declared.ends.WriteEnd.{WriteEnd}
use Rattle.assoc_workers.specs.declared.ends.WriteEnd.TheVariants as ends
use Rattle.assoc_workers.specs.Made.{MadeStep, Moved, AreAt, HasGivenUp}

-- the octets of an output on a line
abbrev pub octets_of : Config → Line → Output → List ℕ
octets_of c line output = flat_map (framed line) (output_pdus c line.size output)

-- those of what a take is answered
abbrev pub octets_given : Config → Line → Answer → List ℕ
octets_given c line (answers.Taken output) = octets_of c line output
octets_given c line _ = []

-- those of what takes were answered, in order
abbrev pub sent : Config → Line → List MadeStep → List ℕ
sent c line made = flat_map (λ (m : MadeStep). octets_given c line m.answer) made

abbrev pub AreTakes : AssocNo → List MadeStep → Type 0
AreTakes a made = AllByRecursion (λ (m : MadeStep). m.step ≡ steps.Take a) made

-- the association was open at each
abbrev pub AreOpen : List MadeStep → Type 0
AreOpen made = AllByRecursion (λ (m : MadeStep). m.answer ≢ answers.Closed) made

-- it was open at each but the last
abbrev pub IsClosedAfter : List MadeStep → Type 0
IsClosedAfter made = (before : List MadeStep) × (last : MadeStep) × (made ≡ before ++ last ∷ []) × AreOpen before × (last.answer ≡ answers.Closed)

-- all that was given is written
abbrev pub IsWritten : Config → Line → List MadeStep → Option (List ℕ) → Option (List ℕ) → Type 0
IsWritten c line made old new = Appends old new (sent c line made)

-- all but the last output is written, and of that one a front
abbrev pub IsCutShort : Config → Line → List MadeStep → Option (List ℕ) → Option (List ℕ) → Type 0
IsCutShort c line made old new = (before : List MadeStep) × (last : MadeStep) × (output : Output) × (made ≡ before ++ last ∷ [])
    × (last.answer ≡ answers.Taken output) × (n : ℕ) × (n ≤ length (octets_of c line output))
    × Appends old new (sent c line before ++ take n (octets_of c line output))

-- what is written of what takes were given, by how the side ends
abbrev pub HasWritten : Config → Line → WriteEnd → List MadeStep → Option (List ℕ) → Option (List ℕ) → Type 0
HasWritten c line ends.Closed made old new = IsClosedAfter made × IsWritten c line made old new
HasWritten c line ends.WriteFault made old new = AreOpen made × IsCutShort c line made old new
HasWritten c line ends.Memory made old new = AreOpen made × (IsWritten c line made old new ⊎ IsCutShort c line made old new)
HasWritten c line _ made old new = AreOpen made × IsWritten c line made old new

-- then the association is given up where the sink failed, or when out of memory
abbrev pub HasLeft : Rules → AssocNo → WriteEnd → List MadeStep → Known → Type 0
HasLeft rules a ends.WriteFault made q = HasGivenUp rules a made q
HasLeft rules a ends.Memory made q = HasGivenUp rules a made q
HasLeft rules a _ made q = made ≡ []

-- the pass p has become q by takes, whose outputs are written in order, and perhaps a loss
pub record Writes (rules : Rules) (c : Config) (a : AssocNo) (line : Line) (clock : Option ℕ) (end : WriteEnd) (p q : Known) (old new : Option (List ℕ)) : Type 0 where
  pub takes : List MadeStep
  pub last : List MadeStep
  pub moved : Moved rules p (takes ++ last) q
  pub are_takes : AreTakes a takes
  pub written : HasWritten c line end takes old new
  pub has_left : HasLeft rules a end last q
  pub moments : AreAt clock (takes ++ last)
