-- What a piece of a stream comes to, by what its stack gives for it.
use Rattle.std.proofs.Common.{◌≡◌, ◌≤◌, ℕ, suc, List, [], ◌∷◌, ◌++◌, length, sym, ap, subst, ◌∙◌, refl, arith}
use Rattle.std.specs.Prelude.{Option, None, Some, Result, Ok, Err, IfOk}
use Rattle.ber_grammar.specs.Octets.{IsBytes}
use Rattle.osi_stack.specs.Sides.{StandsFor}
use Rattle.osi_stack.specs.declared.events.Event.{Event}
use Rattle.osi_stack.specs.declared.fault.StackFault.{StackFault}
use Rattle.osi_stack.specs.declared.upper.Upper.{Upper}
use Rattle.sv_base.specs.declared.config.Config.{Config}
use Rattle.sv_base.specs.declared.numbers.AssocNo.{AssocNo}
use Rattle.text_words.specs.Values.{hex_at}
use Rattle.text_words.proofs.ReadWordLaws.{hex-tells}
use Rattle.record_steps.specs.Fed.{IsFed}
use Rattle.record_steps.specs.Forms.{Stands, form_of, fed_form}
use Rattle.record_steps.specs.Streams.{some_octets, piece_at, events_behind, refusal_behind, heard_through, wired_through, wired_by, made}
use Rattle.record_steps.specs.declared.form.Form as programs
use Rattle.record_steps.specs.declared.heard.Heard.{Heard}
use Rattle.record_steps.specs.declared.heard.Wired.{Wired}
use Rattle.record_steps.specs.declared.heard.Wired.TheVariants.{Off}
use Rattle.record_steps.proofs.StreamLaws.{made-through, events-few}

-- ---- the octets of a piece

-- it has no more octets than digits
pub piece-few : (hex octets : List ℕ) → Some octets ≡ piece_at hex → length octets ≤ length hex
piece-few hex octets is = by (hex_at hex) refl is where
  by : (o : Option (List ℕ)) → hex_at hex ≡ o → Some octets ≡ some_octets o → length octets ≤ length hex
  by None e is = absurd cc
  by (Some []) e is = absurd cc
  by (Some (x ∷ xs)) e is =
      let same : octets ≡ x ∷ xs = cc in
      let told = hex-tells hex (x ∷ xs) e in
      omega (arith, told.1, ap (λ (o : List ℕ). length o) same)

-- ---- a piece that was fed

-- a stream that is refused is gone
off-behind : (es : List Event) (fault : StackFault) (w : Wired) → wired_through es (Some fault) w ≡ Off
off-behind [] fault w = refl
off-behind (e ∷ es) fault w = off-behind es fault (wired_by e w)

module _ (v : Upper) (before piece : List ℕ) (es now : List Event) where
  fed-given : (fault : Option StackFault) → IsFed v before piece es now fault → (now ≡ events_behind before piece) × (fault ≡ refusal_behind before piece)
  fed-given None h = (h.0, sym h.1)
  fed-given (Some fault) h = (h.0, sym h.1)

  pub fed-heard : (c : Config) (a : AssocNo) (fault : Option StackFault) (w : Wired) (old new : List Heard) → IsFed v before piece es now fault → old ≡ [] → new ≡ old ++ heard_through c a now fault w
      → new ≡ heard_through c a (events_behind before piece) (refusal_behind before piece) w
  fed-heard c a fault w old new h none grew =
      let given = fed-given fault h in
      grew ∙ (ap (λ (o : List Heard). o ++ heard_through c a now fault w) none
      ∙ (ap (λ (o : List Event). heard_through c a o fault w) given.0 ∙ ap (λ (f : Option StackFault). heard_through c a (events_behind before piece) f w) given.1))

  -- what its association is then, by what is known of it where the stack stands for the octets, and where the stream is refused
  stands-then : (fault : Option StackFault) (w after : Wired) (p : programs.Form) → IsFed v before piece es now fault → after ≡ wired_through now fault w
      → ((octets : List ℕ) (events : List Event) → StandsFor v octets events → Stands p (form_of after octets)) → ((octets : List ℕ) → after ≡ Off → Stands p (form_of after octets)) → Stands p (form_of after (before ++ piece))
  stands-then None w after p h is stood off = stood (before ++ piece) (es ++ now) h.2
  stands-then (Some fault) w after p h is stood off = off (before ++ piece) (is ∙ off-behind now fault w)

  pub fed-stands : (fault : Option StackFault) (w after : Wired) (p : programs.Form) → IsFed v before piece es now fault → after ≡ wired_through now fault w
      → ((octets : List ℕ) (events : List Event) → StandsFor v octets events → Stands p (form_of after octets)) → ((octets : List ℕ) → after ≡ Off → Stands p (form_of after octets)) → Stands p (fed_form w before (Some piece))
  fed-stands fault w after p h is stood off =
      let given = fed-given fault h in
      subst (λ (x : Wired). Stands p (form_of x (before ++ piece)))
      (is ∙ (ap (λ (o : List Event). wired_through o fault w) given.0 ∙ ap (λ (f : Option StackFault). wired_through (events_behind before piece) f w) given.1))
      (stands-then fault w after p h is stood off)

-- at most one step for each octet, and one
pub fed-few : (c : Config) (a : AssocNo) (w : Wired) (u : Upper) (before piece : List ℕ) (es : List Event) (heard : List Heard) → StandsFor u before es → IsBytes piece
    → heard ≡ heard_through c a (events_behind before piece) (refusal_behind before piece) w → made heard ≤ suc (length piece)
fed-few c a w u before piece es heard was bytes is =
    let most = made-through c a (events_behind before piece) (refusal_behind before piece) w in
    subst (λ (hs : List Heard). made hs ≤ suc (length piece)) (sym is) (omega (arith, most, events-few u before piece es was bytes))

-- ---- what a result has by two clauses

pub both-ok : {A E : Type 0} → (r : Result A E) (P Q R : A → Type 0) → ((a : A) → P a → Q a → R a) → IfOk r P → IfOk r Q → IfOk r R
both-ok (Ok a) P Q R h p q = h a p q
both-ok (Err e) P Q R h p q = tt
