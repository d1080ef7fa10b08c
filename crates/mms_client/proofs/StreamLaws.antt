-- How a stream stands for the octets read.
use Rattle.std.proofs.Common.{◌≡◌, ℕ, inl, List, [], ◌∷◌, ◌++◌, Some, sym, ap, subst, ◌∙◌, append_assoc, append-nil}
use Rattle.std.specs.Io.KnownBytes.{Consumes}
use Rattle.osi_stack.specs.declared.caller.Caller.{Caller}
use Rattle.osi_stack.specs.declared.events.Event.{Event}
use Rattle.osi_stack.specs.declared.fault.StackFault.{StackFault}
use Rattle.osi_stack.specs.declared.fault.StackFault.TheVariants.{Memory, Refused}
use Rattle.osi_stack.specs.Stream.{calling}
use Rattle.osi_stack.specs.Standing.{IsRefusedAt}
use Rattle.osi_stack.specs.Sides.{CallsFor}
use Rattle.mms_client.specs.declared.stream.Stream.{Stream}
use Rattle.mms_client.specs.declared.fault.ClientFault.{ClientFault}
use Rattle.mms_client.specs.declared.meaning.Awaited.{Awaited}
use Rattle.mms_client.specs.Faults.{of_stack}
use Rattle.mms_client.specs.Following.{Ends, CameTo, HasCome, Pops, HasNone, FailsBy, Failure, CannotRead}

-- the same octets, with the events taken otherwise
pub come_as : (old new : Stream) (read : List ℕ) (taken now : List Event) → new.caller ≡ old.caller → new.stopped ≡ old.stopped → now ++ new.waiting.items ≡ taken ++ old.waiting.items
    → HasCome old read taken → HasCome new read now
come_as old new read taken now c s w h = record {
  came = subst (CameTo read) (sym w) h.came;
  stands = λ e. subst (λ (es : List Event). CallsFor new.caller 65000 read es) (sym w) (subst (λ (x : Caller). CallsFor x 65000 read (taken ++ old.waiting.items)) (sym c) (h.stands (sym s ∙ e)));
  stops = λ f e. subst (λ (es : List Event). IsRefusedAt f (calling 65000) read es) (sym w) (h.stops f (sym s ∙ e));
}

pub come_popped : (old new : Stream) (e : Event) (read : List ℕ) (taken : List Event) → Pops old new e → HasCome old read taken → HasCome new read (taken ++ e ∷ [])
come_popped old new e read taken (w, c, s) h = come_as old new read taken (taken ++ e ∷ []) c s (append_assoc taken (e ∷ []) new.waiting.items ∙ ap (λ (es : List Event). taken ++ es) (sym w)) h

pub come_none : (old new : Stream) (read : List ℕ) (taken : List Event) → HasNone old new → HasCome old read taken → HasCome new read taken
come_none old new read taken (w, v, c, s) h = come_as old new read taken taken c s (ap (λ (es : List Event). taken ++ es) (v ∙ sym w)) h

-- ---- no more can be read

pub fails_now : (f : ClientFault) (a b : Ends) (read : List ℕ) (w : Awaited) → Consumes a.left b.left [] → FailsBy f a b read w → Failure f a b read w
fails_now f a b read w none h = record { more = []; consumes = none; by = subst (λ (o : List ℕ). FailsBy f a b o w) (sym (append-nil read)) h }

stopped_by : (f : StackFault) (a b : Ends) (read : List ℕ) (es : List Event) (w : Awaited) → IsRefusedAt f (calling 65000) read es → FailsBy (of_stack f) a b read w
stopped_by Memory a b read es w h = tt
stopped_by (Refused layer code n) a b read es w h = inl (es, n, h)

pub cannot_go_on : (old : Stream) (a b : Ends) (f : StackFault) → old.stopped ≡ Some f → Consumes a.left b.left [] → CannotRead old a b (of_stack f)
cannot_go_on old a b f s none read taken h w = fails_now (of_stack f) a b read w none (stopped_by f a b read (taken ++ old.waiting.items) w (h.stops f s))
