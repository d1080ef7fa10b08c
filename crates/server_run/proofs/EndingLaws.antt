-- How a rehearsal ends is known from its octets.
use Rattle.std.proofs.Common.{◌≡◌, ℕ, List, refl, sym, ap, subst, ◌∙◌, inl, inr}
use Rattle.record_outcome.specs.declared.status.Status.{Status}
use Rattle.record_outcome.specs.declared.status.Status.TheVariants as statuses
use Rattle.script_plans.specs.Plans.{Plan}
use Rattle.script_plans.specs.Inputs.{Outcome, refused}
use Rattle.race_records.proofs.BoundLaws.{none-of}
use Rattle.race_settling.specs.Settled.{Goes, MeetsFull}
use Rattle.server_run.specs.Rehearsals.{ends_at, EndsAs, IsStatusOf, EndingsAreKnown}

refused-so : (o : Outcome) (status : Status) → o ≡ refused status → IsStatusOf o status
refused-so o status is = subst (λ x. IsStatusOf x status) (sym is) refl

went-so : (p : Plan) (octets : List ℕ) → Goes p octets → EndsAs p statuses.Ok
went-so p octets goes = record { known = inl refl; room = λ none. refl; exact = λ idle. sym (ap ends_at (goes.room idle)) }

full-so : (p : Plan) (which line : ℕ) → which ≡ 2 → MeetsFull p line → EndsAs p (statuses.Limit which line)
full-so p which line is full = record {
  known = inr (line, ap (λ w. statuses.Limit w line) is, full.beyond);
  room = λ none. absurd (none-of p line none full.beyond);
  exact = λ idle. ap (λ w. statuses.Limit w line) is ∙ sym (ap ends_at (full.first idle));
}

pub endings_are_known : EndingsAreKnown
endings_are_known o statuses.Ok old new r end = subst (λ x. IsStatusOf x statuses.Ok) (sym r.2) (went-so r.0 r.1 r.3)
endings_are_known o (statuses.Record line kind) old new r end = refused-so o (statuses.Record line kind) r.0
endings_are_known o (statuses.Config line kind) old new r end = refused-so o (statuses.Config line kind) r.0
endings_are_known o (statuses.Limit which line) old new r end = elim r.0 [
  | inl is ↦ refused-so o (statuses.Limit which line) is
  | inr is ↦ subst (λ x. IsStatusOf x (statuses.Limit which line)) (sym is.1) (full-so is.0 which line is.2 is.3)
]
endings_are_known o statuses.Memory old new r end = absurd end
endings_are_known o statuses.ReadFault old new r end = absurd end
endings_are_known o statuses.WriteFault old new r end = absurd end
endings_are_known o statuses.Words old new r end = absurd r
