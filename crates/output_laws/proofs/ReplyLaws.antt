-- A reply can be sent.
use Rattle.std.proofs.Common.{◌≡◌, ℕ, Bool, true, false, List, [], ◌∷◌, map, length, subst, arith}
use Rattle.std.specs.Prelude.{◌==◌, Option, None, Some, Result, Ok, Err, is_none, nat_lt, nat_le, if◌then◌else◌}
use Rattle.std.specs.Option.{option_map_or}
use Rattle.std.specs.List.{All, filter_map}
use Rattle.std.proofs.lemmas.Bool.{and_parts, leb-true, ltb-true}
use Rattle.std.proofs.lemmas.List.Elements.{All-nil, All-cons}
use Rattle.list_laws.proofs.Among.{Each}
use Rattle.sv_base.specs.Same.{values_of}
use Rattle.sv_base.specs.Tree.{Row}
use Rattle.sv_base.specs.declared.config.Config.{Config}
use Rattle.sv_base.specs.declared.rejections.TheConstants.{UNKNOWN_PDU, INVALID_PDU, INVALID_ARGUMENT}
use Rattle.sv_base.specs.declared.value.Value.{Value}
use Rattle.bay_model.specs.declared.answer.Answer.TheVariants as answers
use Rattle.bay_model.specs.declared.answer.Output.{Output}
use Rattle.bay_model.specs.declared.answer.Output.TheVariants as outputs
use Rattle.bay_model.specs.declared.control.ApplError.{ApplError}
use Rattle.bay_model.specs.declared.reply.Asked.{Asked}
use Rattle.bay_model.specs.declared.reply.Asked.TheVariants as asked
use Rattle.bay_model.specs.declared.reply.Reply.{Reply}
use Rattle.bay_model.specs.declared.reply.Reply.TheVariants as replies
use Rattle.bay_model.specs.declared.request.Service.{Service}
use Rattle.bay_model.specs.declared.request.Service.TheVariants as services
use Rattle.bay_model.specs.declared.request.SetName.{SetName}
use Rattle.bay_model.specs.declared.request.Target.{Target}
use Rattle.bay_model.specs.declared.request.Target.TheVariants as targets
use Rattle.bay_model.specs.declared.step.Step.{Step}
use Rattle.bay_model.specs.declared.step.Step.TheVariants as steps
use Rattle.bay_model.specs.declared.service_errors.TheConstants.{SERVICE, PDU_SIZE}
use Rattle.bay_model.specs.Answers.{Turn, History, points, answer_at, outcomes_of}
use Rattle.bay_model.specs.Associations.{ends}
use Rattle.bay_model.specs.Definitions.{definition_error}
use Rattle.bay_model.specs.Model.{DataSet}
use Rattle.bay_model.specs.Named.{configured_model}
use Rattle.bay_model.specs.Names.{is_unknown}
use Rattle.bay_model.specs.Outcomes.{Outcome, result_of, code_of, error_in}
use Rattle.bay_model.specs.Points.{Past, nothing}
use Rattle.bay_model.specs.Reports.{Offer, first_offer}
use Rattle.bay_model.specs.Services.{reply, type_reply, node_number, set_reply, read_reply, read_set_reply, write_set_reply, set_found, set_name, singles_of}
use Rattle.bay_model.specs.Sets.{sets, is_named}
use Rattle.bay_model.specs.Singles.{arrival}
use Rattle.bay_model.specs.Sizes.{are_too_long, size_of}
use Rattle.bay_model.specs.Takes.{taken, given_by, given_report}
use Rattle.bay_model.specs.Waiting as queue
use Rattle.bay_model.specs.Waiting.{Waiting, ending, waiting}
use Rattle.bay_config.specs.Servable.{IsServable}
use Rattle.object_model.proofs.TableLaws.{count-rows}
use Rattle.object_model.specs.Fits.{service_fits, name_fits, target_fits}
use Rattle.object_model.specs.Nodes.{node_rows}
use Rattle.output_shapes.specs.Shapes.{IsShortError, IsNode, IsWritable, CanBeReplied, CanBeSent}
use Rattle.output_laws.specs.Legal.{IsLegal}
use Rattle.output_laws.specs.Names.{HasShortNames}
use Rattle.bay_model.specs.Lookups.{node_of}
use Rattle.output_laws.proofs.DepthLaws.{IsFlat}
use Rattle.output_laws.proofs.ShallowLaws.{IsLow}
use Rattle.output_laws.proofs.DeedLaws.{AreFine, are-fine, fine-singles}
use Rattle.output_laws.proofs.ReadLaws.{HasData, IsGood, outcomes-good, errors-short, results-data, results-low}
use Rattle.output_laws.proofs.SetLaws.{IsSetMember, IsFoundSet, sets-sound, found-sound}
use Rattle.output_laws.proofs.WaitingLaws.{IsPut, RepliesAre, are-put}

all-each : {X : Type 0} (P : X → Type 0) (xs : List X) → Each P xs → All P xs
all-each P [] h = All-nil P
all-each P (x ∷ xs) h = All-cons P x xs h.0 (all-each P xs h.1)

writable : (r : Result Value ℕ) → HasData r → IsLow 10 r → IsWritable r
writable (Ok v) h s = (h.0, s, h.1)
writable (Err n) h s = tt

all-writable : (rs : List (Result Value ℕ)) → Each HasData rs → Each (IsLow 10) rs → All IsWritable rs
all-writable [] h s = All-nil IsWritable
all-writable (r ∷ rs) h s = All-cons IsWritable r rs (writable r h.0 s.0) (all-writable rs h.1 s.1)

-- it can be replied
abbrev IsSaid : Config → Reply → Type 0
IsSaid c r = CanBeReplied c r

member-nodes : (c : Config) (ns : List ℕ) → Each (IsSetMember c) ns → All (IsNode c) (map node_number ns)
member-nodes c [] h = All-nil (IsNode c)
member-nodes c (n ∷ ns) h = All-cons (IsNode c) (node_number n) (map node_number ns) h.0.0.there (member-nodes c ns h.1)

module _ (c : Config) (served : IsServable c) (past : Past) (fine : AreFine c past) where
  read-said : (size : ℕ) (spec : Asked) (os : List Outcome) → Each IsGood os → IsSaid c (read_reply size spec (map result_of os))
  read-said size spec os good = by (are_too_long size (map result_of os))
    where
      by : (b : Bool) → IsSaid c (if b then replies.Error SERVICE PDU_SIZE else replies.Read spec (map result_of os))
      by true = tt
      by false = all-writable (map result_of os) (results-data os good) (results-low os good)

  read-set-said : (size : ℕ) (n : SetName) (spec : Bool) (os : List Outcome) (o : Option DataSet) → Each IsGood os → IsSaid c (read_set_reply size n spec os o)
  read-set-said size n spec os None good = tt
  read-set-said size n spec os (Some s) good = read-said size (if spec then asked.Set n else asked.No) os good

  write-set-said : (r : Row) (os : List Outcome) (o : Option DataSet) → IsSaid c (write_set_reply r os o)
  write-set-said r os None = tt
  write-set-said r os (Some s) = by (length s.nodes == length (values_of r))
    where
      by : (b : Bool) → IsSaid c (if b then replies.Wrote (map code_of os) else replies.Reject INVALID_ARGUMENT)
      by true = tt
      by false = (omega arith, omega arith)

  set-said : (n : SetName) (o : Option DataSet) → IsFoundSet c o → IsSaid c (set_reply (configured_model c) n o)
  set-said n None h = tt
  set-said n (Some s) h = member-nodes c s.nodes h.members

  type-said : (t : Target) → target_fits (record { nodes = length (node_rows c); blocks = length c.blocks; controls = length c.controls }) t ≡ true → IsSaid c (type_reply t)
  type-said (targets.Node n name) h = omega (arith, ltb-true n.0 (length (node_rows c)) (and_parts (nat_lt n.0 (length (node_rows c))) (name_fits name) h).0, count-rows c)
  type-said (targets.Missing name) h = tt
  type-said (targets.Alternate name) h = tt

  defined-said : (o : Option (ℕ × ℕ)) → IsSaid c (option_map_or (λ e. replies.Error e.0 e.1) o replies.Defined)
  defined-said None = tt
  defined-said (Some e) = tt

  deleted-said : (b : Bool) (m n : ℕ) (x y : ℕ) → IsSaid c (if b then replies.Deleted m n else replies.Error x y)
  deleted-said true m n x y = tt
  deleted-said false m n x y = tt

  names-said : (b : Bool) (ns : List (List ℕ)) (x y : ℕ) → IsSaid c (if b then replies.Error x y else replies.Names ns)
  names-said true ns x y = tt
  names-said false ns x y = tt

  reply-said : (size : ℕ) (s : Service) (os : List Outcome) → service_fits (record { nodes = length (node_rows c); blocks = length c.blocks; controls = length c.controls }) s ≡ true → Each IsGood os
      → IsSaid c (reply (configured_model c) past size s os)
  reply-said size services.Status os fit good = tt
  reply-said size services.Identify os fit good = tt
  reply-said size services.Conclude os fit good = tt
  reply-said size (services.Names class scope after) os fit good = names-said (is_unknown (configured_model c) scope) _ _ _
  reply-said size (services.TypeOfNode t) os fit good = type-said t fit
  reply-said size (services.Read ts spec) os fit good = read-said size (if spec then asked.Vars ts else asked.No) os good
  reply-said size (services.ReadSet domain item spec) os fit good = read-set-said size (set_name domain item) spec os (set_found (configured_model c) past (set_name domain item)) good
  reply-said size (services.WriteVars ws) os fit good = tt
  reply-said size (services.WriteSet domain item vs) os fit good = write-set-said vs os (set_found (configured_model c) past (set_name domain item))
  reply-said size (services.Define domain item members) os fit good = defined-said (definition_error (configured_model c) past (set_name domain item) members)
  reply-said size (services.SetOf domain item) os fit good = set-said (set_name domain item) (set_found (configured_model c) past (set_name domain item)) (found-sound c (is_named (set_name domain item)) (sets (configured_model c) past) (sets-sound c served past fine))
  reply-said size (services.Delete scope names) os fit good = deleted-said _ _ _ _ _
  reply-said size (services.Reject n) os fit good = let b = and_parts (nat_le UNKNOWN_PDU n) (nat_le n INVALID_PDU) fit in (leb-true UNKNOWN_PDU n b.0, leb-true n INVALID_PDU b.1)

-- ---- what waits

abbrev pub IsSaidOutput : Config → Output → Type 0
IsSaidOutput c (outputs.Reply before invoke r) = All IsShortError before × CanBeReplied c r
IsSaidOutput c (outputs.Report r) = ⊥
IsSaidOutput c (outputs.Termination t) = ⊥

module _ (c : Config) (served : IsServable c) (names : HasShortNames c) (flat : (n : ℕ) → IsFlat (node_of (configured_model c) n).tree) where
  pub replies-said : (a : ℕ) → RepliesAre (IsSaidOutput c) c a
  replies-said a h t e r fit f =
      let past = points (configured_model c) h in
      let fine = are-fine c served h fit in
      let asks = (and_parts _ (service_fits (record { nodes = length (node_rows c); blocks = length c.blocks; controls = length c.controls }) r.service) f).1 in
      let good = outcomes-good c served names flat e.0 (length h) t.moment (singles_of (configured_model c) past r.service) past (fine-singles c past r.service asks) fine in (
        all-each IsShortError (filter_map error_in (outcomes_of (configured_model c) (length h) t.moment e.0 r past)) (errors-short (outcomes_of (configured_model c) (length h) t.moment e.0 r past) good),
        reply-said c served past fine (size_of e.0 past) r.service (outcomes_of (configured_model c) (length h) t.moment e.0 r past) asks good,
      )

-- ---- what a Take gives

taken-same : (o p : Output) → answers.Taken o ≡ answers.Taken p → o ≡ p
taken-same o p e = cc

module _ (c : Config) (served : IsServable c) (names : HasShortNames c) (flat : (n : ℕ) → IsFlat (node_of (configured_model c) n).tree) (h : History) (legal : IsLegal c h) (before : List ApplError) (invoke : ℕ) (r : Reply) where
  said-sent : IsSaidOutput c (outputs.Reply before invoke r) → CanBeSent c (outputs.Reply before invoke r)
  said-sent s = s

  take-sent : (a m : ℕ) → (taken (configured_model c) a (arrival (length h) m ∷ points (configured_model c) h)).answer ≡ answers.Taken (outputs.Reply before invoke r) → CanBeSent c (outputs.Reply before invoke r)
  take-sent a m given = either (is_none (ends a (points (configured_model c) h))) (waiting (configured_model c) a (points (configured_model c) h)) (are-put (IsSaidOutput c) c a (replies-said c served names flat a) h legal.fit) given
    where
      report : (o : Option Offer) → (given_report (configured_model c) a (arrival (length h) m ∷ points (configured_model c) h) o).answer ≡ answers.Taken (outputs.Reply before invoke r) → CanBeSent c (outputs.Reply before invoke r)
      report None is = absurd (cc is)
      report (Some o) is = absurd (cc is)

      either : (x : Bool) (ws : List Waiting) → Each (IsPut (IsSaidOutput c)) ws
          → (if x then record { answer = answers.Closed; deed = nothing } else given_by (configured_model c) a (arrival (length h) m ∷ points (configured_model c) h) ws).answer ≡ answers.Taken (outputs.Reply before invoke r)
          → CanBeSent c (outputs.Reply before invoke r)
      either true ws put is = absurd (cc is)
      either false [] put is = report (first_offer (configured_model c) a (arrival (length h) m ∷ points (configured_model c) h) 0 (configured_model c).blocks) is
      either false (queue.reply o ∷ ws) put is = said-sent (subst (IsSaidOutput c) (taken-same o (outputs.Reply before invoke r) is) put.0)
      either false (ending k good ∷ ws) put is = absurd (cc is)

  pub step-sent : (t : Turn) (s : Step) → answer_at (configured_model c) (length h) t (points (configured_model c) h) s ≡ answers.Taken (outputs.Reply before invoke r) → CanBeSent c (outputs.Reply before invoke r)
  step-sent t (steps.Take a) is = take-sent a.0 t.moment is
  step-sent t (steps.Open a size writer owner) is = absurd (cc is)
  step-sent t (steps.Ask a q) is = absurd (cc is)
  step-sent t (steps.Write a b comp v) is = absurd (cc is)
  step-sent t (steps.Lost a) is = absurd (cc is)
  step-sent t (steps.Value settings) is = absurd (cc is)
  step-sent t (steps.Done k good) is = absurd (cc is)
  step-sent t (steps.Block k flag) is = absurd (cc is)
  step-sent t steps.Tick is = absurd (cc is)
