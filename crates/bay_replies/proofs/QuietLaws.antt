-- Nothing comes of the single reads of a request that reads no variable, where the members of data sets may be members.
use Rattle.std.proofs.Common.{◌≡◌, ℕ, zero, suc, Bool, true, false, List, [], ◌∷◌, length, map, refl, ap, ap₂, ◌∙◌}
use Rattle.std.specs.Prelude.{Some, if◌then◌else◌}
use Rattle.std.specs.Option.{option_map_or}
use Rattle.std.specs.List.{All, find}
use Rattle.std.proofs.lemmas.List.Elements.{All-head, All-tail}
use Rattle.sv_base.specs.declared.config.Config.{Config}
use Rattle.sv_base.specs.declared.config.SgDef.{SgDef}
use Rattle.bay_model.specs.declared.request.Service.{Service}
use Rattle.bay_model.specs.declared.request.Service.TheVariants as services
use Rattle.bay_model.specs.Lookups.{node_of}
use Rattle.bay_model.specs.Model.{Model, DataSet, Role, single, selecting, calling, several, Tree}
use Rattle.bay_model.specs.Named.{configured_model}
use Rattle.bay_model.specs.NamedLines.{domain_number}
use Rattle.bay_model.specs.Outcomes.{deed_of}
use Rattle.bay_model.specs.Points.{Deed, nothing, Past}
use Rattle.bay_model.specs.Reads.{read_tree, read_role}
use Rattle.bay_model.specs.Services.{singles_of, set_name}
use Rattle.bay_model.specs.Sets.{is_named, sets}
use Rattle.bay_model.specs.Singles.{Single, reads, writes, fails, outcome_at, after_single, after_singles, outcomes}
use Rattle.bay_replies.specs.Asking.{IsReading}
use Rattle.bay_replies.specs.Plain.{SelectsNothing}
use Rattle.bay_replies.specs.Points.{arrivals, AreAllowed}
use Rattle.bay_replies.proofs.NodeLaws.{node-plain}
use Rattle.bay_replies.proofs.PointLaws.{ReadsOnly, nothing-read, rest-only}
use Rattle.list_laws.proofs.Among.{each-of}

-- whatever domain
abbrev IsAny : ℕ → Type 0
IsAny d = Unit {0}

module _ (c : Config) (a n m : ℕ) where
  abbrev cm : Model
  cm = configured_model c

  abbrev IsQuiet : ℕ → Type 0
  IsQuiet x = SelectsNothing (node_of cm x).role

  role-quiet : (role : Role) (tree : Tree) (past : Past) → SelectsNothing role → deed_of (read_role cm a role tree past) ≡ nothing
  role-quiet (single l) tree past h = nothing-read (read_tree cm past tree)
  role-quiet (selecting k) tree past h = absurd h
  role-quiet (calling k call) tree past h = absurd h
  role-quiet several tree past h = nothing-read (read_tree cm past tree)

  single-quiet : (s : Single) (ss : List Single) (past : Past) → ReadsOnly IsQuiet (s ∷ ss) → deed_of (outcome_at cm a n m s past) ≡ nothing
  single-quiet (reads x) ss past h = role-quiet (node_of cm x).role (node_of cm x).tree _ h.0
  single-quiet (writes x v) ss past h = absurd h
  single-quiet (fails code) ss past h = refl

  after-quiet : (s : Single) (ss : List Single) (past : Past) → ReadsOnly IsQuiet (s ∷ ss) → after_single cm a n m s past ≡ arrivals n m (suc zero) past
  after-quiet s ss past h = ap (λ (d : Deed). record { moment = m; step = n; deed = d } ∷ past) (single-quiet s ss past h)

  all-quiet : (ss : List Single) (past : Past) → ReadsOnly IsQuiet ss → map deed_of (outcomes cm a n m ss past) ≡ map (λ o. nothing) ss
  all-quiet [] past h = refl
  all-quiet (s ∷ ss) past h = ap₂ (λ d ds. d ∷ ds) (single-quiet s ss past h) (all-quiet ss (after_single cm a n m s past) (rest-only IsQuiet s ss h))

  arrivals-more : (k : ℕ) (past : Past) → arrivals n m k (arrivals n m (suc zero) past) ≡ arrivals n m (suc k) past
  arrivals-more zero past = refl
  arrivals-more (suc k) past = ap (λ p. record { moment = m; step = n; deed = nothing } ∷ p) (arrivals-more k past)

  all-arrivals : (ss : List Single) (past : Past) → ReadsOnly IsQuiet ss → after_singles cm a n m ss past ≡ arrivals n m (length ss) past
  all-arrivals [] past h = refl
  all-arrivals (s ∷ ss) past h = ap (after_singles cm a n m ss) (after-quiet s ss past h) ∙ (all-arrivals ss (arrivals n m (suc zero) past) (rest-only IsQuiet s ss h) ∙ arrivals-more (length ss) past)

  -- members select nothing
  abbrev IsAllowed : ℕ → Type 0
  IsAllowed x = (node_of cm x).allowed ≡ true

  nodes-only : (ns : List ℕ) → All IsAllowed ns → ReadsOnly IsQuiet (map reads ns)
  nodes-only [] h = tt
  nodes-only (x ∷ ns) h = ((node-plain c IsAny (each-of (λ (g : SgDef). IsAny (domain_number c g.domain)) c.groups (λ g i. tt)) x).member (All-head IsAllowed x ns h), nodes-only ns (All-tail IsAllowed x ns h))

  set-only : (p : DataSet → Bool) (ss : List DataSet) → All (λ (s : DataSet). All IsAllowed s.nodes) ss → ReadsOnly IsQuiet (option_map_or (λ (s : DataSet). map reads s.nodes) (find p ss) [])
  set-only p [] h = tt
  set-only p (s ∷ ss) h = by (p s) (set-only p ss (All-tail (λ (s : DataSet). All IsAllowed s.nodes) s ss h))
    where
      by : (t : Bool) → ReadsOnly IsQuiet (option_map_or (λ (s : DataSet). map reads s.nodes) (find p ss) []) → ReadsOnly IsQuiet (option_map_or (λ (s : DataSet). map reads s.nodes) (if t then Some s else find p ss) [])
      by true go = nodes-only s.nodes (All-head (λ (s : DataSet). All IsAllowed s.nodes) s ss h)
      by false go = go

  reading-only : (past : Past) (s : Service) → AreAllowed c past → IsReading s → ReadsOnly IsQuiet (singles_of cm past s)
  reading-only past services.Status allowed h = tt
  reading-only past services.Identify allowed h = tt
  reading-only past services.Conclude allowed h = tt
  reading-only past (services.Names class scope after) allowed h = tt
  reading-only past (services.TypeOfNode t) allowed h = tt
  reading-only past (services.Read ts spec) allowed h = absurd h
  reading-only past (services.ReadSet domain item spec) allowed h = set-only (is_named (set_name domain item)) (sets cm past) allowed
  reading-only past (services.WriteVars ws) allowed h = absurd h
  reading-only past (services.WriteSet domain item vs) allowed h = absurd h
  reading-only past (services.Define domain item members) allowed h = absurd h
  reading-only past (services.SetOf domain item) allowed h = tt
  reading-only past (services.Delete scope names) allowed h = absurd h
  reading-only past (services.Reject x) allowed h = tt

  pub reads-come-to-nothing : (past : Past) (s : Service) → AreAllowed c past → IsReading s → map deed_of (outcomes cm a n m (singles_of cm past s) past) ≡ map (λ o. nothing) (singles_of cm past s)
  reads-come-to-nothing past s allowed reading = all-quiet (singles_of cm past s) past (reading-only past s allowed reading)

  pub points-are-arrivals : (past : Past) (s : Service) → AreAllowed c past → IsReading s → after_singles cm a n m (singles_of cm past s) past ≡ arrivals n m (length (singles_of cm past s)) past
  points-are-arrivals past s allowed reading = all-arrivals (singles_of cm past s) past (reading-only past s allowed reading)
