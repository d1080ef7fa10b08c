-- Reads of variables in their turn come to what the definitions have.
use Rattle.std.proofs.Common.{◌≡◌, ◌≤◌, ◌<◌, ◌∙◌, ◌+◌, ℕ, zero, suc, List, [], ◌∷◌, ◌++◌, map, length, take, drop, refl, sym, ap, ap₂, subst, arith, length-append}
use Rattle.std.specs.Prelude.{Bool, true, false, if◌then◌else◌, nat_lt, Option, None, Some, Result, Ok, slice_get, slice_set, unwrap_or}
use Rattle.std.specs.Int.{to_be_bytes, w32}
use Rattle.std.specs.List.{flat_map}
use Rattle.std.proofs.lemmas.Bool.{lt-ltb}
use Rattle.std.proofs.lemmas.List.{length-map}
use Rattle.sv_base.specs.Data.{length_field, without_zeros}
use Rattle.sv_base.specs.declared.config.Config.{Config}
use Rattle.sv_base.specs.declared.config.CtlDef.{CtlDef}
use Rattle.sv_base.specs.declared.value.Value.{Value}
use Rattle.sv_base.specs.declared.value.Value.TheVariants as kinds
use Rattle.bay_model.specs.declared.reply.Asked.{Asked}
use Rattle.bay_model.specs.declared.reply.Reply.TheVariants as replies
use Rattle.bay_model.specs.declared.request.Target.{Target}
use Rattle.bay_model.specs.declared.request.Target.TheVariants as targets
use Rattle.bay_model.specs.Calls.{can_select}
use Rattle.bay_model.specs.Configured.{control_defined}
use Rattle.bay_model.specs.Lookups.{control_of, node_of}
use Rattle.bay_model.specs.Model.{Model, Role, Tree, selecting}
use Rattle.bay_model.specs.Named.{configured_model}
use Rattle.bay_model.specs.Outcomes.{gave, deed_of, result_of}
use Rattle.bay_model.specs.Points.{Deed, Past, nothing, selected_control}
use Rattle.bay_model.specs.Reads.{read_tree, read_role, read_node, outcome_of_read}
use Rattle.bay_model.specs.Services.{read_reply}
use Rattle.bay_model.specs.Singles.{arrival, outcome_at, outcomes, after_single, read_of}
use Rattle.bay_model.specs.Sizes.{access_result}
use Rattle.control_core.specs.Controls.{ControlState, can_select_at}
use Rattle.control_core.specs.Standing.{Stands as ControlsStand}
use Rattle.control_core.specs.Tables.{Table, after_deed, no_control}
use Rattle.control_core.proofs.StandLaws as tables
use Rattle.bay_queues.specs.Queued.{configs}
use Rattle.bay_replies.specs.declared.replies.Replies.{Replies}
use Rattle.bay_replies.specs.Given.{node_read, target_read}
use Rattle.bay_replies.specs.Reading.{selecting_of, selecting_in, reference_read, early_read, early_len, early_reads, least_len, IsReadBy}
use Rattle.window_core.specs.Points.{at}
use Rattle.bay_core.specs.Turned.{after_turn, after_turns, empty_text, in_turn, in_turns, reply_of, selects, with_turn}
use Rattle.bay_queues.proofs.ControlLaws.{configs-deed}
use Rattle.bay_core.proofs.IdleLaws.{IsIdle, idle-target, tree-idle}
use Rattle.bay_replies.proofs.PointLaws.{nothing-read, result-read}

-- ---- the controls are configured as before
pub turn-configs : (a : ℕ) (o : Option ℕ) (t : Table) → configs (after_turn a o t) ≡ configs t
turn-configs a None t = refl
turn-configs a (Some k) t = by (selects t k) where
  by : (b : Bool) → configs (if b then after_deed (selected_control a k) t else t) ≡ configs t
  by true = configs-deed (selected_control a k) t
  by false = refl

pub turns-configs : (a : ℕ) (c : Config) (xs : List Target) (t : Table) → configs (after_turns a c xs t) ≡ configs t
turns-configs a c [] t = refl
turns-configs a c (x ∷ xs) t = turns-configs a c xs (after_turn a (selecting_in c x) t) ∙ turn-configs a (selecting_in c x) t

-- ---- results at their places

none-behind : (a : ℕ) (c : Config) (xs : List Target) (t : Table) → in_turns a c xs t [] ≡ []
none-behind a c [] t = refl
none-behind a c (x ∷ xs) t = refl

turn-none : (i : ℕ) (o : Option ℕ) (t : Table) → with_turn i o t [] ≡ []
turn-none i None t = refl
turn-none i (Some k) t = by (selects t k) where
  by : (b : Bool) → (if b then [] else slice_set [] i empty_text) ≡ []
  by true = refl
  by false = refl

turn-first : (o : Option ℕ) (t : Table) (r : Result Value ℕ) (rs : List (Result Value ℕ)) → with_turn 0 o t (r ∷ rs) ≡ in_turn o t r ∷ rs
turn-first None t r rs = refl
turn-first (Some k) t r rs = by (selects t k) where
  by : (b : Bool) → (if b then r ∷ rs else slice_set (r ∷ rs) 0 empty_text) ≡ (if b then r else empty_text) ∷ rs
  by true = refl
  by false = refl

turn-later : (i : ℕ) (o : Option ℕ) (t : Table) (r : Result Value ℕ) (rs : List (Result Value ℕ)) → with_turn (suc i) o t (r ∷ rs) ≡ r ∷ with_turn i o t rs
turn-later i None t r rs = refl
turn-later i (Some k) t r rs = by (selects t k) where
  by : (b : Bool) → (if b then r ∷ rs else slice_set (r ∷ rs) (suc i) empty_text) ≡ r ∷ (if b then rs else slice_set rs i empty_text)
  by true = refl
  by false = refl

-- those before this place were read in their turn, and the one there is
pub place-next : (a : ℕ) (c : Config) (i : ℕ) (x : Target) (xs : List Target) (t : Table) (rs : List (Result Value ℕ))
    → take (suc i) (with_turn i (selecting_in c x) t rs) ++ in_turns a c xs (after_turn a (selecting_in c x) t) (drop (suc i) (with_turn i (selecting_in c x) t rs)) ≡ take i rs ++ in_turns a c (x ∷ xs) t (drop i rs)
place-next a c i x xs t [] = rw (turn-none i (selecting_in c x) t, none-behind a c xs (after_turn a (selecting_in c x) t)) (by i) where
  by : (i : ℕ) → [] ≡ take i [] ++ in_turns a c (x ∷ xs) t (drop i [])
  by zero = refl
  by (suc i) = refl
place-next a c zero x xs t (r ∷ rs) = rw (turn-first (selecting_in c x) t r rs) refl
place-next a c (suc i) x xs t (r ∷ rs) = rw (turn-later i (selecting_in c x) t r rs) (ap (λ l. r ∷ l) (place-next a c i x xs t rs))

-- ---- one in its turn

module _ (c : Config) (a n t : ℕ) (there : (x k : ℕ) → selecting_of (node_of (configured_model c) x).role ≡ Some k → k < length c.controls) where
  abbrev m : Model
  m = configured_model c

  module _ (tb : Table) (past : Past) (st : ControlsStand tb m (arrival n t ∷ past)) where
    pub select-told : (k : ℕ) → k < length c.controls → selects tb k ≡ can_select m k (arrival n t ∷ past)
    select-told k below = ap₂ (λ (w : ℕ) (s : ControlState). can_select_at w s) st.moment (st.each k (omega (arith, below, length-map c.controls control_defined)))

    role-turn : (role : Role) (tree : Tree) → ((k : ℕ) → selecting_of role ≡ Some k → k < length c.controls) → after_turn a (selecting_of role) tb ≡ after_deed (deed_of (read_role m a role tree (arrival n t ∷ past))) tb
    role-turn (selecting k) tree within =
        subst (λ b. (if selects tb k then after_deed (selected_control a k) tb else tb) ≡ after_deed (deed_of (if b then gave (kinds.Text (control_of m k).reference) (selected_control a k) else gave (kinds.Text []) nothing)) tb)
        (select-told k (within k refl)) (by (selects tb k))
      where
        by : (b : Bool) → (if b then after_deed (selected_control a k) tb else tb) ≡ after_deed (deed_of (if b then gave (kinds.Text (control_of m k).reference) (selected_control a k) else gave (kinds.Text []) nothing)) tb
        by true = refl
        by false = refl
    role-turn _ tree within = ap (λ d. after_deed d tb) (sym (nothing-read (read_tree m (arrival n t ∷ past) tree)))

    -- the controls are as its point leaves them
    pub target-turn : (x : Target) → after_turn a (selecting_in c x) tb ≡ after_deed (deed_of (outcome_at m a n t (read_of x) past)) tb
    target-turn (targets.Node id name) = role-turn (node_of m id.0).role (node_of m id.0).tree (there id.0)
    target-turn (targets.Missing name) = refl
    target-turn (targets.Alternate name) = refl

    pub turn-stands : (x : Target) → ControlsStand (after_turn a (selecting_in c x) tb) m (arrival n t ∷ after_single m a n t (read_of x) past)
    turn-stands x =
        let d : Deed = deed_of (outcome_at m a n t (read_of x) past) in
        subst (λ u. ControlsStand u m (arrival n t ∷ at n t d ∷ past)) (sym (target-turn x))
        (tables.stands-again m n t (at n t d) past (after_deed d tb) (omega arith) (tables.stands-deed m n t d past tb st))

-- ---- what SBO gives

reference-told : (cs : List CtlDef) (k : ℕ) → k < length cs → reference_read (slice_get cs k) ≡ Ok (kinds.Text (unwrap_or (slice_get (map control_defined cs) k) no_control).reference)
reference-told [] k below = absurd (omega (arith, below))
reference-told (c ∷ cs) zero below = refl
reference-told (c ∷ cs) (suc k) below = reference-told cs k (omega (arith, below))

-- a text has an identifier and a length at least
field-long : (k : ℕ) → 1 ≤ length (length_field k)
field-long k = by (nat_lt k 128) where
  by : (b : Bool) → 1 ≤ length (if b then k ∷ [] else (128 + length (without_zeros (to_be_bytes w32 k))) ∷ without_zeros (to_be_bytes w32 k))
  by true = omega arith
  by false = omega arith

text-long : (s : List ℕ) → 2 ≤ length (access_result (Ok (kinds.Text s)))
text-long s = omega (arith, field-long (length s), length-append (length_field (length s)) s)

module _ (r : Replies) (a n t : ℕ) (there : (x k : ℕ) → selecting_of (node_of (configured_model r.model.now) x).role ≡ Some k → k < length r.model.now.controls) where
  abbrev own : Model
  own = configured_model r.model.now

  -- what is lent reads as it does after these points
  abbrev pub IsTold : Past → Type 0
  IsTold past = (x : ℕ) → selecting_of (node_of own x).role ≡ None → read_node own a x (arrival n t ∷ past) ≡ outcome_of_read (node_read r x)

  role-later : (d : Deed) (past : Past) → IsIdle d → (role : Role) (tree : Tree) → selecting_of role ≡ None → read_role own a role tree (arrival n t ∷ at n t d ∷ past) ≡ read_role own a role tree (arrival n t ∷ past)
  role-later d past is (selecting k) tree none = cc
  role-later d past is _ tree none = ap outcome_of_read (tree-idle own n t d past is tree)

  told-later : (x : Target) (past : Past) → IsTold past → IsTold (after_single own a n t (read_of x) past)
  told-later x past told = λ y none.
      role-later (deed_of (outcome_at own a n t (read_of x) past)) past (idle-target own a n t x past) (node_of own y).role (node_of own y).tree none ∙ told y none

  -- ---- its result

  module _ (tb : Table) (past : Past) (st : ControlsStand tb own (arrival n t ∷ past)) (told : IsTold past) where
    role-result : (x : Target) (one : Result Value ℕ) (role : Role) (tree : Tree) → ((k : ℕ) → selecting_of role ≡ Some k → k < length r.model.now.controls) → target_read r x ≡ one
        → (selecting_of role ≡ None → read_role own a role tree (arrival n t ∷ past) ≡ outcome_of_read one)
        → (in_turn (selecting_of role) tb (early_read r x (selecting_of role)) ≡ result_of (read_role own a role tree (arrival n t ∷ past)))
        × (early_len r x (selecting_of role) ≤ length (access_result (result_of (read_role own a role tree (arrival n t ∷ past)))))
    role-result x one (selecting k) tree within same reads =
        subst (λ b. ((if selects tb k then reference_read (slice_get r.model.now.controls k) else empty_text) ≡ result_of (if b then gave (kinds.Text (control_of own k).reference) (selected_control a k) else gave (kinds.Text []) nothing))
        × (2 ≤ length (access_result (result_of (if b then gave (kinds.Text (control_of own k).reference) (selected_control a k) else gave (kinds.Text []) nothing)))))
        (select-told r.model.now a n t there tb past st k (within k refl)) (by (selects tb k))
      where
        by : (b : Bool) → ((if b then reference_read (slice_get r.model.now.controls k) else empty_text) ≡ result_of (if b then gave (kinds.Text (control_of own k).reference) (selected_control a k) else gave (kinds.Text []) nothing))
            × (2 ≤ length (access_result (result_of (if b then gave (kinds.Text (control_of own k).reference) (selected_control a k) else gave (kinds.Text []) nothing))))
        by true = (reference-told r.model.now.controls k (within k refl), text-long (control_of own k).reference)
        by false = (refl, text-long [])
    role-result x one _ tree within same reads =
        let is = ap result_of (reads refl) ∙ (result-read one ∙ sym same) in
        (sym is, omega (arith, ap (λ y. length (access_result y)) is))

    target-result : (x : Target) → (in_turn (selecting_in r.model.now x) tb (early_read r x (selecting_in r.model.now x)) ≡ result_of (outcome_at own a n t (read_of x) past))
        × (early_len r x (selecting_in r.model.now x) ≤ length (access_result (result_of (outcome_at own a n t (read_of x) past))))
    target-result (targets.Node id name) = role-result (targets.Node id name) (node_read r id.0) (node_of own id.0).role (node_of own id.0).tree (there id.0) refl (told id.0)
    target-result (targets.Missing name) = (refl, omega arith)
    target-result (targets.Alternate name) = (refl, omega arith)

  -- ---- all

  pub results-told : (ts : List Target) (tb : Table) (past : Past) → ControlsStand tb own (arrival n t ∷ past) → IsTold past
      → in_turns a r.model.now ts tb (early_reads r ts) ≡ map result_of (outcomes own a n t (map read_of ts) past)
  results-told [] tb past st told = refl
  results-told (x ∷ ts) tb past st told = ap₂ (λ (y : Result Value ℕ) (ys : List (Result Value ℕ)). y ∷ ys) (target-result tb past st told x).0
      (results-told ts (after_turn a (selecting_in r.model.now x) tb) (after_single own a n t (read_of x) past) (turn-stands r.model.now a n t there tb past st x) (told-later x past told))

  pub least-told : (ts : List Target) (tb : Table) (past : Past) → ControlsStand tb own (arrival n t ∷ past) → IsTold past
      → least_len r ts ≤ length (flat_map access_result (map result_of (outcomes own a n t (map read_of ts) past)))
  least-told [] tb past st told = omega arith
  least-told (x ∷ ts) tb past st told =
      let P : Past = after_single own a n t (read_of x) past in
      omega (
        arith,
        (target-result tb past st told x).1,
        least-told ts (after_turn a (selecting_in r.model.now x) tb) P (turn-stands r.model.now a n t there tb past st x) (told-later x past told),
        length-append (access_result (result_of (outcome_at own a n t (read_of x) past))) (flat_map access_result (map result_of (outcomes own a n t (map read_of ts) P))),
      )

  -- and the reply
  pub reply-told : (size : ℕ) (asked : Asked) (ts : List Target) (tb : Table) (past : Past) (results : List (Result Value ℕ)) (is_cut : Bool) → ControlsStand tb own (arrival n t ∷ past) → IsTold past → IsReadBy r size ts results is_cut
      → reply_of size asked is_cut (in_turns a r.model.now ts tb results) ≡ read_reply size asked (map result_of (outcomes own a n t (map read_of ts) past))
  reply-told size asked ts tb past results false st told is = ap (λ rs. read_reply size asked (in_turns a r.model.now ts tb rs)) is ∙ ap (read_reply size asked) (results-told ts tb past st told)
  reply-told size asked ts tb past results true st told is =
      let all = map result_of (outcomes own a n t (map read_of ts) past) in
      ap (λ b. if b then replies.Error 4 3 else replies.Read asked all) (sym (lt-ltb size (length (flat_map access_result all)) (omega (arith, is, least-told ts tb past st told))))
