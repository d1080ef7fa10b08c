-- What pieces of a stream come to: their events as a stack gives them, and how many events and steps these are.
use Rattle.std.proofs.Common.{◌≡◌, ◌≤◌, ◌<◌, ◌+◌, ℕ, zero, suc, Bool, true, false, List, [], ◌∷◌, ◌++◌, length, take, drop, refl, sym, ap, subst, ◌∙◌, arith, inl, inr, ◌⊎◌, length-append}
use Rattle.std.specs.Prelude.{Option, None, Some, Result, Ok, Err, if◌then◌else◌}
use Rattle.std.specs.Option.{option_map}
use Rattle.std.specs.List.{AllByRecursion, flat_map}
use Rattle.std.proofs.Math.Seq.{take-append_seam, drop-append_seam}
use Rattle.std.proofs.lemmas.List.{take-append-le}
use Rattle.sv_base.specs.declared.config.Config.{Config}
use Rattle.sv_base.specs.declared.numbers.AssocNo.{AssocNo}
use Rattle.bay_model.specs.declared.request.Request.{Request}
use Rattle.object_model.specs.Fits.{fits}
use Rattle.ber_grammar.specs.Octets.{IsBytes}
use Rattle.ber_grammar.proofs.OctetLaws.{IsBytes-append, IsBytes-back}
use Rattle.tpkt_cotp.specs.declared.fault.TpFault.{TpFault}
use Rattle.tpkt_cotp.specs.Packet.{packet, packet_at}
use Rattle.tpkt_cotp.proofs.PacketLaws.{packet_whole, packet_again, partial_again}
use Rattle.tpkt_cotp.proofs.StreamLaws.{after_fits}
use Rattle.osi_stack.specs.declared.cause.Cause.{Cause}
use Rattle.osi_stack.specs.declared.events.Event.{Event}
use Rattle.osi_stack.specs.declared.events.Event.TheVariants.{Answer, Connected, Pdu, Released, Aborted}
use Rattle.osi_stack.specs.declared.fault.StackFault.{StackFault}
use Rattle.osi_stack.specs.declared.fault.StackFault.TheVariants as faults
use Rattle.osi_stack.specs.declared.upper.Upper.{Upper}
use Rattle.osi_stack.specs.Lines.{HasLine}
use Rattle.osi_stack.specs.Running.{Came, run, run_within, left_at, after_step, after_packet, further_from}
use Rattle.osi_stack.specs.Sides.{StandsFor, GoesOn, Refuses}
use Rattle.osi_stack.specs.Stream.{Stand, called, has_ended, step_at, count_of}
use Rattle.osi_stack.proofs.RunLaws.{came}
use Rattle.osi_stack.proofs.RunSideLaws.{kept_run, stopped_run, further_run}
use Rattle.osi_stack.proofs.StreamLaws.{Ends}
use Rattle.record_steps.specs.declared.heard.Heard.{Heard}
use Rattle.record_steps.specs.declared.heard.Heard.TheVariants.{Tells, Makes}
use Rattle.record_steps.specs.declared.heard.Wired.{Wired}
use Rattle.record_steps.specs.declared.heard.Wired.TheVariants.{Dialling, On, Off}
use Rattle.record_steps.specs.Asks.{asked_by}
use Rattle.record_steps.specs.Own.{IsFittingPart}
use Rattle.record_steps.specs.Streams.{events_behind, refusal_behind, IsWired, lost_by, asked_heard, heard_by, heard_fault, heard_through, wired_by, wired_through, made}

-- ---- how many steps there are

made-append : (xs ys : List Heard) → made (xs ++ ys) ≡ made xs + made ys
made-append [] ys = omega arith
made-append (Tells text ∷ xs) ys = made-append xs ys
made-append (Makes actor step ∷ xs) ys = omega (arith, made-append xs ys)

made-lost : (a : AssocNo) (w : Wired) → made (lost_by a w) ≤ 1
made-lost a Dialling = omega arith
made-lost a (On line) = omega arith
made-lost a Off = omega arith

made-asked : (a : AssocNo) (o : Option Request) → made (asked_heard a o) ≤ 1
made-asked a None = omega arith
made-asked a (Some r) = omega arith

made-by : (c : Config) (a : AssocNo) (w : Wired) (e : Event) → made (heard_by c a w e) ≤ 1
made-by c a w (Answer octets) = omega arith
made-by c a w (Connected line octets) = omega arith
made-by c a w (Pdu octets) = made-asked a (asked_by c octets)
made-by c a w (Released octets) = made-lost a w
made-by c a w Aborted = made-lost a w

made-fault : (a : AssocNo) (w : Wired) (f : StackFault) → made (heard_fault a w f) ≤ 1
made-fault a w faults.Memory = omega arith
made-fault a w (faults.Refused layer code octets) = made-lost a w

pub made-through : (c : Config) (a : AssocNo) (es : List Event) (f : Option StackFault) (w : Wired) → made (heard_through c a es f w) ≤ suc (length es)
made-through c a [] None w = omega arith
made-through c a [] (Some f) w = made-fault a w f
made-through c a (e ∷ es) f w = omega (arith, made-append (heard_by c a w e) (heard_through c a es f (wired_by e w)), made-by c a w e, made-through c a es f (wired_by e w))

-- ---- events one after another

-- of all events these are left; the association is this, and this was heard
pub record Going (c : Config) (a : AssocNo) (fault : Option StackFault) (all : List Event) (from : Wired) (rest : List Event) (w : Wired) (before now : List Heard) : Type 0 where
  pub heard : now ++ heard_through c a rest fault w ≡ before ++ heard_through c a all fault from
  pub wired : wired_through rest fault w ≡ wired_through all fault from
  pub agreed : IsWired w
  pub lines : AllByRecursion HasLine rest
  pub fits_ : AllByRecursion (IsFittingPart c) (heard_through c a rest fault w) → AllByRecursion (IsFittingPart c) (heard_through c a all fault from)

-- ---- how many events a piece has

-- octets with a whole TPKT have more than what follows it
after-shorter : (octets tpdu after : List ℕ) → IsBytes octets → packet_at octets ≡ Ok (Some (tpdu, after)) → length after < length octets
after-shorter octets tpdu after fits one =
    let w = packet_whole octets tpdu after fits one in
    omega (arith, ap (λ (x : List ℕ). length x) w.1, length-append (packet tpdu) after)

events-step : (go : Stand → List ℕ → Came) (s : Stand) (octets after : List ℕ) (r : Result (Stand × Option Event) Cause) (n : ℕ) → ((t : Stand) → length (go t after).events ≤ n) → length (after_step go s octets after r).events ≤ suc n
events-step go s octets after (Ok (t, None)) n few = omega (arith, few t)
events-step go s octets after (Ok (t, Some e)) n few = omega (arith, few t)
events-step go s octets after (Err c) n few = omega arith

events-packet : (go : Stand → List ℕ → Came) (s : Stand) (octets : List ℕ) (r : Result (Option (List ℕ × List ℕ)) TpFault) (n : ℕ)
    → ((tpdu after : List ℕ) → r ≡ Ok (Some (tpdu, after)) → (length after < n) × ((t : Stand) → length (go t after).events ≤ length after)) → length (after_packet go s octets r).events ≤ n
events-packet go s octets (Ok None) n few = omega arith
events-packet go s octets (Ok (Some (tpdu, after))) n few =
    let f = few tpdu after refl in
    omega (arith, f.0, events-step go s octets after (step_at s tpdu) (length after) f.1)
events-packet go s octets (Err f) n few = omega arith

events-phase : (b : Bool) (x y : Came) (n : ℕ) → length x.events ≤ n → length y.events ≤ n → length (if b then x else y).events ≤ n
events-phase true x y n p q = p
events-phase false x y n p q = q

run-few : (n : ℕ) (s : Stand) (octets : List ℕ) → IsBytes octets → length (run_within n s octets).events ≤ length octets
run-few zero s octets fits = omega arith
run-few (suc n) s octets fits = events-phase (has_ended s.phase) (left_at s octets None) (after_packet (run_within n) s octets (packet_at octets)) (length octets) (omega arith)
    (events-packet (run_within n) s octets (packet_at octets) (length octets) (λ tpdu after is. (after-shorter octets tpdu after fits is, λ t. run-few n t after (after_fits octets tpdu after fits is))))

-- a TPKT that isn't whole is made so by the piece, so what follows it is a part of that
either : (m n : ℕ) → (m < n) ⊎ (n ≤ m)
either m zero = inr (omega arith)
either zero (suc n) = inl (omega arith)
either (suc m) (suc n) = elim (either m n) [ inl h ↦ inl (omega (arith, h)) | inr h ↦ inr (omega (arith, h)) ]

split-at : (k : ℕ) (xs : List ℕ) → k ≤ length xs → xs ≡ take k xs ++ drop k xs
split-at zero xs h = refl
split-at (suc k) [] h = absurd (omega (arith, h))
split-at (suc k) (x ∷ xs) h = ap (λ ys. x ∷ ys) (split-at k xs (omega (arith, h)))

first-shorter : (rest piece tpdu after : List ℕ) → IsBytes (rest ++ piece) → packet_at rest ≡ Ok None → packet_at (rest ++ piece) ≡ Ok (Some (tpdu, after)) → length after < length piece
first-shorter rest piece tpdu after fits none one = elim (either (length after) (length piece)) [
  | inl h ↦ h
  | inr h ↦
      let w = packet_whole (rest ++ piece) tpdu after fits one in
      let k : ℕ = length (packet tpdu) in
      let within : k ≤ length rest = omega (arith, h, ap (λ (x : List ℕ). length x) w.1, length-append rest piece, length-append (packet tpdu) after) in
      let front : take k rest ≡ packet tpdu = sym (take-append-le k rest piece within) ∙ (ap (take k) w.1 ∙ take-append_seam (packet tpdu) after) in
      let whole : rest ≡ packet tpdu ++ drop k rest = split-at k rest within ∙ ap (λ p. p ++ drop k rest) front in
      let there : packet_at rest ≡ Ok (Some (tpdu, drop k rest)) = ap packet_at whole ∙ packet_again tpdu (drop k rest) w.0 in
      let both = sym none ∙ there in
      absurd cc
]

piece-few : (n : ℕ) (s : Stand) (rest piece : List ℕ) → IsBytes (rest ++ piece) → packet_at rest ≡ Ok None → length (run_within n s (rest ++ piece)).events ≤ length piece
piece-few zero s rest piece fits none = omega arith
piece-few (suc n) s rest piece fits none = events-phase (has_ended s.phase) (left_at s (rest ++ piece) None) (after_packet (run_within n) s (rest ++ piece) (packet_at (rest ++ piece))) (length piece) (omega arith)
    (events-packet (run_within n) s (rest ++ piece) (packet_at (rest ++ piece)) (length piece)
    (λ tpdu after is. (first-shorter rest piece tpdu after fits none is, λ t. run-few n t after (after_fits (rest ++ piece) tpdu after fits is))))

-- after the end nothing comes
ended-none : (n : ℕ) (s : Stand) (octets : List ℕ) → has_ended s.phase ≡ true → length (run_within n s octets).events ≤ 0
ended-none zero s octets over = omega arith
ended-none (suc n) s octets over = subst (λ b. length (if b then left_at s octets None else after_packet (run_within n) s octets (packet_at octets)).events ≤ 0) (sym over) (omega arith)

left-few : (s : Stand) (rest piece : List ℕ) → IsBytes rest → IsBytes piece → Ends s rest None → length (run s (rest ++ piece)).events ≤ length piece
unfolding run
left-few s rest piece fits bytes ends = elim ends [
  | inl e ↦ piece-few (length (rest ++ piece)) s rest piece (IsBytes-append rest piece fits bytes) (partial_again rest fits e.1)
  | inr e ↦ omega (arith, ended-none (length (rest ++ piece)) s (rest ++ piece) e)
]

-- ---- what a stack gives for a piece

-- the events of a stream with a piece, after those without it
behind-is : (before piece : List ℕ) (es more : List Event) → (run called before).events ≡ es → (run called (before ++ piece)).events ≡ es ++ more → more ≡ events_behind before piece
behind-is before piece es more was is =
    sym (ap (λ (o : List Event). drop (length (run called before).events) o) is ∙ (ap (λ (o : List Event). drop (length o) (es ++ more)) was ∙ drop-append_seam es more))

pub fed-on : (u v : Upper) (before piece : List ℕ) (es now : List Event) → StandsFor u before es → GoesOn v (before ++ piece) es [] now
    → (now ≡ events_behind before piece) × (refusal_behind before piece ≡ None) × StandsFor v (before ++ piece) (es ++ now)
fed-on u v before piece es now was on =
    let k = (kept_run u.connection called before es).0 was in
    let h = (kept_run v.connection called (before ++ piece) (es ++ on.0)).0 on.2 in
    let same : now ≡ on.0 = on.1 in (
      same ∙ behind-is before piece es on.0 k.1 h.1,
      ap (option_map (λ (c : Cause). faults.Refused c.layer c.code (count_of (before ++ piece) (run called (before ++ piece)).rest))) h.2.1,
      subst (λ (o : List Event). StandsFor v (before ++ piece) (es ++ o)) (sym same) on.2,
    )

pub fed-refused : (u : Upper) (layer code count : ℕ) (before piece : List ℕ) (es now : List Event) → StandsFor u before es → Refuses (faults.Refused layer code count) (before ++ piece) es [] now
    → (now ≡ events_behind before piece) × (refusal_behind before piece ≡ Some (faults.Refused layer code count))
fed-refused u layer code count before piece es now was refused =
    let k = (kept_run u.connection called before es).0 was in
    let h = (stopped_run called layer code count (before ++ piece) es [] now).0 refused in
    (h.2 ∙ behind-is before piece es h.1 k.1 h.3, h.4)

-- as many events as a piece has octets, at most
few-from : (x : Came) (piece : List ℕ) (e : Option Cause) → e ≡ None → IsBytes x.rest → IsBytes piece → Ends x.stand x.rest e → length (drop (length x.events) (further_from x piece e).events) ≤ length piece
few-from x piece None none fits bytes ends =
    subst (λ (o : List Event). length o ≤ length piece) (sym (drop-append_seam x.events (run x.stand (x.rest ++ piece)).events)) (left-few x.stand x.rest piece fits bytes ends)
few-from x piece (Some c) none fits bytes ends = absurd cc

pub events-few : (u : Upper) (before piece : List ℕ) (es : List Event) → StandsFor u before es → IsBytes piece → length (events_behind before piece) ≤ length piece
events-few u before piece es was bytes =
    let k = (kept_run u.connection called before es).0 was in
    let x : Came = run called before in
    let at = came called before k.0 in
    let rest : IsBytes x.rest = IsBytes-back (flat_map packet at.0.tpdus) x.rest (subst IsBytes at.0.whole k.0) in
    let on = further_run called before piece k.0 bytes in
    subst (λ (y : Came). length (drop (length x.events) y.events) ≤ length piece) (sym on) (few-from x piece x.cause k.2.1 rest bytes at.1)
