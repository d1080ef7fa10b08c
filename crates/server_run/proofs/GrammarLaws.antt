-- What the octets of an input are by the grammar.
use Rattle.std.proofs.Common.{◌≡◌, ◌≤◌, ◌-◌, ℕ, List, [], ◌++◌, length, take, drop, sym, ap, ◌∙◌, inl, inr, append_assoc, arith, take-append-drop}
use Rattle.std.specs.Prelude.{Option}
use Rattle.list_laws.proofs.Appended.{take-front}
use Rattle.record_outcome.specs.Histories.{octets_of}
use Rattle.record_outcome.specs.Records.{limit}
use Rattle.record_outcome.specs.declared.status.Status.{Status}
use Rattle.record_outcome.specs.declared.status.Status.TheVariants as statuses
use Rattle.script_plans.specs.Plans.{Plan}
use Rattle.script_plans.specs.Grammar.{rehearsal_lines, IsRehearsal, IsNoRehearsal}
use Rattle.script_plans.specs.Inputs.{outcome, refused, ready}
use Rattle.script_plans.proofs.WholeLaws.{comes}
use Rattle.script_plans.proofs.PlanLaws.{plans-are}
use Rattle.server_run.specs.Rehearsals.{most, Rehearses, IsOfRehearsal}

-- what follows the last line is of no account
with-more : (n : ℕ) (b : List ℕ) (p : Plan) → IsRehearsal (take n b) p → IsRehearsal b p
with-more n b p r = record {
  remarks = r.remarks;
  inner = r.inner;
  items = r.items;
  rest = r.rest ++ drop n b;
  octets_ = sym (take-append-drop n b) ∙ (ap (λ (o : List ℕ). o ++ drop n b) r.octets_ ∙ append_assoc (octets_of (rehearsal_lines r.remarks r.inner r.items [])) r.rest (drop n b));
  are_remarks = r.are_remarks;
  are_inner = r.are_inner;
  text = r.text;
  configuration = r.configuration;
  are_items = r.are_items;
  some = r.some;
  lines = r.lines;
  short = r.short;
}

with-less : (n : ℕ) (b : List ℕ) (p : Plan) → limit ≤ n → IsRehearsal b p → IsRehearsal (take n b) p
with-less n b p low r =
    let all : List ℕ = octets_of (rehearsal_lines r.remarks r.inner r.items []) in
    record {
      remarks = r.remarks;
      inner = r.inner;
      items = r.items;
      rest = take (n - length all) r.rest;
      octets_ = ap (take n) r.octets_ ∙ take-front n all r.rest (omega (arith, low, r.short));
      are_remarks = r.are_remarks;
      are_inner = r.are_inner;
      text = r.text;
      configuration = r.configuration;
      are_items = r.are_items;
      some = r.some;
      lines = r.lines;
      short = r.short;
    }

plan-of : (b : List ℕ) (p : Plan) → outcome (take most b) ≡ ready p → IsRehearsal b p
plan-of b p is = with-more most b p (plans-are (take most b) p is)

none-of : (b : List ℕ) (status : Status) → outcome (take most b) ≡ refused status → IsNoRehearsal b
none-of b status is = λ p r. let never : ready p ≡ refused status = sym (comes (take most b) p (with-less most b p (omega arith) r)) ∙ is in absurd cc

pub of-rehearsal : (b : List ℕ) (status : Status) (old new : Option (List ℕ)) → Rehearses (outcome (take most b)) status old new → IsOfRehearsal b status old new
of-rehearsal b statuses.Ok old new r = (r.0, r.1, plan-of b r.0 r.2, r.3, r.4)
of-rehearsal b statuses.WriteFault old new r = (r.0, r.1, plan-of b r.0 r.2, r.3, r.4)
of-rehearsal b (statuses.Record line kind) old new r = none-of b (statuses.Record line kind) r.0
of-rehearsal b (statuses.Config line kind) old new r = none-of b (statuses.Config line kind) r.0
of-rehearsal b (statuses.Limit which line) old new r = elim r.0 [
  | inl is ↦ inl (none-of b (statuses.Limit which line) is)
  | inr is ↦ inr (is.0, plan-of b is.0 is.1, is.2, is.3)
]
of-rehearsal b statuses.Memory old new r = tt
of-rehearsal b statuses.ReadFault old new r = tt
of-rehearsal b statuses.Words old new r = tt
