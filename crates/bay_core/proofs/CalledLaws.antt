-- The single writes of a request, commands among them: what is heard of each, and the bay stands for its point.
use Rattle.std.proofs.Common.{◌≡◌, ◌<◌, ◌∙◌, ◌∷◌, ◌++◌, ℕ, Bool, List, [], Result, Err, length, refl, ap, ap₂, sym, subst, arith, length-append}
use Rattle.std.proofs.lemmas.List.{length-map}
use Rattle.sv_base.specs.declared.config.Config.{Config}
use Rattle.sv_base.specs.declared.numbers.CtlNo.{CtlNo}
use Rattle.sv_base.specs.declared.value.Value.{Value}
use Rattle.bay_model.specs.Calls.{Went, went, accepted, mistyped, barred}
use Rattle.bay_model.specs.Configured.{control_defined}
use Rattle.bay_model.specs.Controls.{is_enhanced}
use Rattle.bay_model.specs.Lookups.{node_of}
use Rattle.bay_model.specs.Model.{Model, Call, Role, calling}
use Rattle.bay_model.specs.Named.{configured_model}
use Rattle.bay_model.specs.Outcomes.{Outcome, refused, code_of, deed_of}
use Rattle.bay_model.specs.Points.{Past, called}
use Rattle.bay_model.specs.Singles.{Single, arrival, outcome_at, outcome_of, outcomes, after_singles}
use Rattle.bay_model.specs.Writes.{outcome_of_call, write_node, write_role}
use Rattle.control_core.specs.Tables.{after_deed}
use Rattle.bay_queues.specs.Calling.{AreTests, enhanced_in, outcome_at as call_outcome}
use Rattle.bay_queues.specs.Heard.{Heard, heard_all, heard_with}
use Rattle.bay_queues.specs.Queued.{Queued}
use Rattle.bay_queues.proofs.StandLaws as waits
use Rattle.window_core.specs.Points.{at}
use Rattle.bay_core.specs.Asked.{IsKept, IsWrite}
use Rattle.bay_core.specs.Commanded.{AreSingles, AreTestsOf, IsNoCommand, IsSingle}
use Rattle.bay_core.specs.Standing.{StandsAt}
use Rattle.bay_core.specs.State.{State}
use Rattle.bay_queues.proofs.HeardLaws.{IsQuiet, heard-same, quiet-heard}
use Rattle.bay_core.proofs.MoveLaws.{again, came-of, groups-quiet, queued, queues-stand}
use Rattle.block_events.proofs.PartLaws.{parts-left}
use Rattle.bay_core.proofs.SingleLaws.{after-more, kept-on, outcomes-more, refused-write}
use Rattle.bay_core.proofs.UncalledLaws.{quiet-refused, quiet-role}

-- ---- a write that is no command

tests-kept : (z u : State) (a : ℕ) (ks : List CtlNo) → u.rows ≡ z.rows → u.controls ≡ z.controls → AreTestsOf z a ks → AreTestsOf u a ks
tests-kept z u a ks rows controls are = subst (λ (q : Queued). AreTests q a ks) (sym (ap₂ {C = Queued} (λ r t. record { rows = r; table = t }) rows controls)) are

-- it is heard by its code alone
pub written-single : (z u : State) (a : ℕ) (comes : Model → Past → Outcome) (code : Result (Unit {0}) ℕ) (before : Heard) → IsKept z u → u.controls ≡ z.controls
    → ((c : Config) (past : Past) → z.config ≡ c → IsQuiet (comes (configured_model c) past)) → IsWrite z u comes code → IsSingle z u a before (record before { codes = before.codes ++ code ∷ [] }) comes
written-single z u a comes code before kept controls quiet write = record {
  kept = kept;
  counted = (omega (arith, length-append before.codes (code ∷ [])), refl);
  tests = tests-kept z u a before.tests kept.rows controls;
  heard = λ c n t past here. quiet-heard (is_enhanced (configured_model c)) (comes (configured_model c) (arrival n t ∷ past)) before code (quiet c (arrival n t ∷ past) here.is_config) (write c n t past here).0;
  stands = λ c n t past here. (write c n t past here).1;
}

-- as that of a name that no node has
pub refused-single : (z : State) (a code : ℕ) (before : Heard) → IsSingle z z a before (record before { codes = before.codes ++ Err code ∷ [] }) (λ m past. refused code)
refused-single z a code before = written-single z z a (λ m past. refused code) (Err code) before (record { config = refl; steps = refl; rows = refl }) refl (λ c past is. quiet-refused code) (refused-write z code)

-- and that of a node
pub node-single : (z u : State) (a n : ℕ) (v : Value) (code : Result (Unit {0}) ℕ) (before after : Heard) → IsKept z u → u.controls ≡ z.controls → IsNoCommand (node_of (configured_model z.config) n).role
    → IsWrite z u (λ m past. write_node m a n v past) code → after ≡ record before { codes = before.codes ++ code ∷ [] } → IsSingle z u a before after (λ m past. write_node m a n v past)
node-single z u a n v code before after kept controls plain write is = subst (λ (h : Heard). IsSingle z u a before h (λ m past. write_node m a n v past)) (sym is)
    (written-single z u a (λ m past. write_node m a n v past) code before kept controls
    (λ c past same. quiet-role (configured_model c) a (node_of (configured_model c) n).role v past (subst (λ (d : Config). IsNoCommand (node_of (configured_model d) n).role) same plain)) write)

-- ---- a command

-- the bay after what it comes to
called-at : (z : State) (c : Config) (n t a k : ℕ) (call : Call) (v : Value) (past : Past) (w : Went) → StandsAt z c n (arrival n t ∷ past)
    → StandsAt (record z { controls = after_deed (deed_of (outcome_of_call (configured_model c) a k call v w)) z.controls }) c n (at n t (deed_of (outcome_of_call (configured_model c) a k call v w)) ∷ past)
called-at z c n t a k call v past accepted here =
    came-of z c n t (called a k call v) past z.stored z.parts z.groups (record { number = tt; puts = λ e. refl; sets = refl }) here.values
    (parts-left (configured_model c) n t (called a k call v) past z.parts z.parts (record { address = refl; opens = λ b. tt; note = λ b. refl; cuts = λ b. refl }) (λ b q there. (q, there, refl)) here.blocks) (groups-quiet z c n t (called a k call v) past tt here) here
called-at z c n t a k call v past mistyped here = here
called-at z c n t a k call v past (barred cause) here = here

module _ (z u : State) (a n k : ℕ) (call : Call) (v : Value) (before after : Heard) (role : calling k call ≡ (node_of (configured_model z.config) n).role) (below : k < length z.config.controls)
    (heard : after ≡ heard_with (enhanced_in z.controls) (call_outcome z.controls a k call v) before)
    (left : u ≡ record z { controls = after_deed (deed_of (call_outcome z.controls a k call v)) z.controls }) where
  -- what the definitions have
  comes : (c : Config) (m t : ℕ) (past : Past) → StandsAt z c m (arrival m t ∷ past) → outcome_of_call (configured_model c) a k call v (went (configured_model c) k call a v (arrival m t ∷ past)) ≡ write_node (configured_model c) a n v (arrival m t ∷ past)
  comes c m t past here = ap (λ (r : Role). write_role (configured_model c) a r v (arrival m t ∷ past)) (role ∙ ap (λ (d : Config). (node_of (configured_model d) n).role) here.is_config)

  there : (c : Config) (m : ℕ) (past : Past) → StandsAt z c m past → k < length (configured_model c).controls
  there c m past here = omega (arith, below, ap (λ (d : Config). length d.controls) here.is_config, length-map c.controls control_defined)

  pub called-single : (AreTestsOf z a before.tests → AreTestsOf u a after.tests) → IsSingle z u a before after (λ m past. write_node m a n v past)
  called-single tests = record {
    kept = record { config = ap (λ (s : State). s.config) left; steps = ap (λ (s : State). s.steps) left; rows = ap (λ (s : State). s.rows) left };
    counted = (
      omega (arith, ap (λ (h : Heard). length h.codes) heard, length-append before.codes (code_of (call_outcome z.controls a k call v) ∷ [])),
      ap (λ (h : Heard). h.room) heard,
    );
    tests = tests;
    heard = λ c m t past here.
        (let e = is_enhanced (configured_model c) in
        let w = went (configured_model c) k call a v (arrival m t ∷ past) in
        let stand = queues-stand z c m (arrival m t ∷ past) here in
        heard ∙ (ap (λ (o : Outcome). heard_with (enhanced_in z.controls) o before) (waits.call-comes (configured_model c) a k call v (arrival m t ∷ past) (queued z) stand (there c m (arrival m t ∷ past) here))
        ∙ (heard-same (enhanced_in z.controls) e (configured_model c) a k call v w before (waits.enhanced-is (configured_model c) k (arrival m t ∷ past) (queued z) stand (there c m (arrival m t ∷ past) here))
        ∙ ap (λ (o : Outcome). heard_with e o before) (comes c m t past here))));
    stands = λ c m t past here.
        (let w = went (configured_model c) k call a v (arrival m t ∷ past) in
        let o = outcome_of_call (configured_model c) a k call v w in
        let on = write_node (configured_model c) a n v (arrival m t ∷ past) in
        let is : call_outcome z.controls a k call v ≡ o = waits.call-comes (configured_model c) a k call v (arrival m t ∷ past) (queued z) (queues-stand z c m (arrival m t ∷ past) here) (there c m (arrival m t ∷ past) here) in
        again u c m t (at m t (deed_of on)) past (omega arith)
        (subst (λ (s : State). StandsAt s c m (at m t (deed_of on) ∷ past)) (sym (left ∙ ap (λ (p : Outcome). record z { controls = after_deed (deed_of p) z.controls }) is))
        (subst (λ (p : Outcome). StandsAt (record z { controls = after_deed (deed_of o) z.controls }) c m (at m t (deed_of p) ∷ past)) (comes c m t past here) (called-at z c m t a k call v past w here))));
  }

-- ---- several, each after those before it

pub no-singles : (z : State) (a : ℕ) (h : Heard) → AreSingles z z a [] h h
no-singles z a h = record {
  kept = record { config = refl; steps = refl; rows = refl };
  counted = (omega arith, refl);
  tests = λ are. are;
  heard = λ c n t past here. refl;
  stands = λ c n t past here. here;
}

heard-more : (e : ℕ → Bool) (os : List Outcome) (o : Outcome) (h : Heard) → heard_all e (os ++ o ∷ []) h ≡ heard_with e o (heard_all e os h)
heard-more e [] o h = refl
heard-more e (p ∷ os) o h = heard-more e os o (heard_with e p h)

pub one-single-more : (z y u : State) (a : ℕ) (ss : List Single) (s : Single) (h1 h2 h3 : Heard) → AreSingles z y a ss h1 h2 → IsSingle y u a h2 h3 (λ m past. outcome_of m a s past) → AreSingles z u a (ss ++ s ∷ []) h1 h3
one-single-more z y u a ss s h1 h2 h3 more one = record {
  kept = kept-on z y u more.kept one.kept;
  counted = (omega (arith, one.counted.0, more.counted.0, length-append ss (s ∷ [])), one.counted.1 ∙ more.counted.1);
  tests = λ are. one.tests (more.tests are);
  heard = λ c n t past here.
      (let m = configured_model c in
      let e = is_enhanced m in
      let os = outcomes m a n t ss past in
      let o = outcome_at m a n t s (after_singles m a n t ss past) in
      one.heard c n t (after_singles m a n t ss past) (more.stands c n t past here)
      ∙ (ap (heard_with e o) (more.heard c n t past here) ∙ (sym (heard-more e os o h1) ∙ ap (λ l. heard_all e l h1) (sym (outcomes-more m a n t ss s past)))));
  stands = λ c n t past here.
      (let m = configured_model c in
      subst (λ q. StandsAt u c n (arrival n t ∷ q)) (sym (after-more m a n t ss s past)) (one.stands c n t (after_singles m a n t ss past) (more.stands c n t past here)));
}
