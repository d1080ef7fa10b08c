-- The reply to a request, and the bay at the arrival of its point.
use Rattle.std.proofs.Common.{◌≡◌, ◌<◌, ◌∙◌, ℕ, Bool, true, false, List, [], ◌∷◌, map, length, Option, None, Some, Result, refl, ap, sym, subst, arith}
use Rattle.std.specs.Prelude.{◌==◌, nat_lt}
use Rattle.std.specs.Option.{option_map, option_map_or}
use Rattle.std.specs.List.{All, list_all}
use Rattle.std.proofs.lemmas.Bool.{and_parts}
use Rattle.std.proofs.lemmas.Bool.Decides.{nat_tests}
use Rattle.std.proofs.lemmas.List.{length-map}
use Rattle.list_laws.proofs.Options.{some_is}
use Rattle.std.proofs.lemmas.List.Elements.{All-nil, All-cons, All-head, All-tail}
use Rattle.sv_base.proofs.RowLaws.{seen-value}
use Rattle.sv_base.specs.Same.{value_of, values_of}
use Rattle.sv_base.specs.Tree.{Row, none, more}
use Rattle.sv_base.specs.declared.config.Config.{Config}
use Rattle.sv_base.specs.declared.numbers.AssocNo.{AssocNo}
use Rattle.sv_base.specs.declared.numbers.NodeId.{NodeId}
use Rattle.sv_base.specs.declared.value.Value.{Value}
use Rattle.bay_model.specs.declared.reply.Reply.{Reply}
use Rattle.bay_model.specs.declared.reply.Reply.TheVariants as replies
use Rattle.bay_model.specs.declared.request.Request.{Request}
use Rattle.bay_model.specs.declared.request.Service.{Service}
use Rattle.bay_model.specs.declared.request.Service.TheVariants as services
use Rattle.bay_model.specs.declared.request.SetName.{SetName}
use Rattle.bay_model.specs.declared.request.Target.{Target}
use Rattle.bay_model.specs.declared.request.Target.TheVariants as targets
use Rattle.bay_model.specs.declared.request.Write.{Write}
use Rattle.bay_model.specs.declared.step.Step.TheVariants as steps
use Rattle.bay_model.specs.Model.{DataSet}
use Rattle.bay_model.specs.Named.{configured_model, nodes}
use Rattle.bay_model.specs.Points.{Past}
use Rattle.bay_model.specs.Services.{set_found, set_name, write_set_reply, written_set}
use Rattle.bay_model.specs.Sets.{set_named, is_named}
use Rattle.bay_model.specs.Singles.{Single, arrival, outcomes, after_singles, writes_of}
use Rattle.object_model.specs.Fits.{Counts, is_association, is_sound_seen, are_sound, fits, is_sound, service_fits, set_fits, target_fits, write_fits, name_fits}
use Rattle.object_model.specs.Nodes.{node_rows}
use Rattle.object_model.proofs.TableLaws.{count-rows}
use Rattle.data_sets.specs.Books.{Booked, Book, is_name, number_named, set_at}
use Rattle.data_sets.specs.Standing.{data_set}
use Rattle.data_sets.proofs.HistoryLaws as history
use Rattle.bay_config.specs.Servable.{IsServedSet}
use Rattle.bay_replies.specs.Asking.{IsFitting, IsReading}
use Rattle.bay_core.specs.Asked.{AreFit, AreMembersFit, AreWrites, AreWritten, IsAnswered, IsFit, IsReplyAt, node_numbers, set_members}
use Rattle.bay_core.specs.Standing.{StandsAt}
use Rattle.block_watch.specs.Served.{AreServedSets}
use Rattle.bay_core.specs.State.{State}
use Rattle.bay_core.specs.Commanded.{AreNoCommands, CallsNothing}
use Rattle.bay_core.proofs.AskLaws.{reads-stand, served-sets}
use Rattle.block_watch.proofs.ShapeLaws.{all-served, found, sets_in}
use Rattle.bay_core.proofs.UncalledLaws.{IsPlainMember, members-plain}

-- ---- a request that fits

abbrev counts_of : Config → Counts
counts_of c = record { nodes = length (node_rows c); blocks = length c.blocks; controls = length c.controls }

pub fitting : (c : Config) (a : AssocNo) (r : Request) → fits c (steps.Ask a r) ≡ true → IsFitting c r.service
fitting c a r is = (and_parts (is_association a.0) (service_fits (counts_of c) r.service) is).1

fit-target : (c : Config) (t : Target) (v : Value) → target_fits (counts_of c) t ≡ true → is_sound v ≡ true → IsFit c t v
fit-target c (targets.Node n name) v is sound =
    let below : nat_lt n.0 (length (node_rows c)) ≡ true = (and_parts (nat_lt n.0 (length (node_rows c))) (name_fits name) is).0 in
    let there : n.0 < length (node_rows c) = grind (arith, nat_tests, below) in
    (omega (arith, there, count-rows c), sound)
fit-target c (targets.Missing name) v is sound = tt
fit-target c (targets.Alternate name) v is sound = tt

abbrev IsWriteFit : Config → Write → Type 0
IsWriteFit c w = IsFit c w.target w.value

fit-writes : (c : Config) (ws : List Write) → list_all (write_fits (counts_of c)) ws ≡ true → All (IsWriteFit c) ws
fit-writes c [] is = All-nil (IsWriteFit c)
fit-writes c (w ∷ ws) is =
    let parts = and_parts (write_fits (counts_of c) w) (list_all (write_fits (counts_of c)) ws) is in
    let own = and_parts (target_fits (counts_of c) w.target) (is_sound w.value) parts.0 in
    All-cons (IsWriteFit c) w ws (fit-target c w.target w.value own.0 own.1) (fit-writes c ws parts.1)

pub writes-fit : (c : Config) (ws : List Write) → IsFitting c (services.WriteVars ws) → AreFit c ws
writes-fit c ws is = fit-writes c ws is

sound-values : (r : Row) → are_sound r ≡ true → All (λ v. is_sound v ≡ true) (values_of r)
sound-values none is = All-nil (λ v. is_sound v ≡ true)
sound-values (more s r) is =
    let parts = and_parts (is_sound_seen s) (are_sound r) is in
    All-cons (λ v. is_sound v ≡ true) (value_of s) (values_of r) (ap is_sound_seen (seen-value s) ∙ parts.0) (sound-values r parts.1)

-- ---- the data set of a name

-- the model's set after the members that were found in the book
set-told : (book : Book) (name : SetName) → option_map (λ k. data_set (set_at book k)) (number_named name book) ≡ set_named name (sets_in book)
set-told book name = history.found (λ (s : Booked). is_name name s.name) (is_named name) (λ s. refl) book.sets

none-named : (book : Book) (o : Option ℕ) (f : Option DataSet) → option_map (λ k. data_set (set_at book k)) o ≡ f → option_map (λ k. (set_at book k).nodes) o ≡ None → f ≡ None
none-named book None f same is = sym same
none-named book (Some k) f same is = cc

some-named : (book : Book) (o : Option ℕ) (f : Option DataSet) (ns : List NodeId) → option_map (λ k. data_set (set_at book k)) o ≡ f → option_map (λ k. (set_at book k).nodes) o ≡ Some ns
    → (s : DataSet) × (f ≡ Some s) × (s.nodes ≡ node_numbers ns)
some-named book None f ns same is = cc
some-named book (Some k) f ns same is = (data_set (set_at book k), sym same, ap (map (λ (n : NodeId). n.0)) (some_is (set_at book k).nodes ns is))

count-named : (s : DataSet) (ns : List NodeId) → s.nodes ≡ node_numbers ns → length s.nodes ≡ length ns
count-named s ns same = ap (λ (l : List ℕ). length l) same ∙ length-map ns (λ (n : NodeId). n.0)

-- ---- the replies

module _ (old : State) (domain item : List ℕ) where
  -- the set that is found
  found-told : (c : Config) (n : ℕ) (past : Past) (o : Option DataSet) → set_named (set_name domain item) (sets_in old.book) ≡ o → StandsAt old c n past → set_found (configured_model c) past (set_name domain item) ≡ o
  found-told c n past o is st = ap (set_named (set_name domain item)) (sym st.sets) ∙ is

  -- none, and one of these members
  pub none-told : set_members old.book domain item ≡ None → set_named (set_name domain item) (sets_in old.book) ≡ None
  none-told is = none-named old.book (number_named (set_name domain item) old.book) (set_named (set_name domain item) (sets_in old.book)) (set-told old.book (set_name domain item)) is

  pub some-told : (ns : List NodeId) → set_members old.book domain item ≡ Some ns → (s : DataSet) × (set_named (set_name domain item) (sets_in old.book) ≡ Some s) × (s.nodes ≡ node_numbers ns)
  some-told ns is = some-named old.book (number_named (set_name domain item) old.book) (set_named (set_name domain item) (sets_in old.book)) ns (set-told old.book (set_name domain item)) is

module _ (old new : State) (moment a : ℕ) (arrived : (c : Config) (n : ℕ) (past : Past) → StandsAt old c n past → StandsAt new c n (arrival n moment ∷ past)) where
  pub read-answered : (service : Service) (r : Reply) → AreServedSets old.config old.book → IsReading service → IsReplyAt old moment a service r → IsAnswered old new moment a service r
  read-answered service r served reading is = (
    is,
    λ c n past st. reads-stand c past (served-sets old c n past served st) new a n moment service reading (arrived c n past st),
  )

  module _ (domain item : List ℕ) (vs : Row) where
    abbrev service : Service
    service = services.WriteSet domain item vs

    -- nothing is written
    unwritten : (r : Reply) (o : Option DataSet) → set_named (set_name domain item) (sets_in old.book) ≡ o → option_map_or (λ (s : DataSet). written_set s vs) o [] ≡ [] → r ≡ write_set_reply vs [] o
        → IsAnswered old new moment a service r
    unwritten r o is empty same = (
      (λ c n past st.
          let m = configured_model c in
          subst (λ p. r ≡ write_set_reply vs (outcomes m a n moment (option_map_or (λ (s : DataSet). written_set s vs) p []) past) p) (sym (found-told old domain item c n past o is st))
          (subst (λ ss. r ≡ write_set_reply vs (outcomes m a n moment ss past) o) (sym empty) same)),
      (λ c n past st.
          let m = configured_model c in
          subst (λ p. StandsAt new c n (arrival n moment ∷ after_singles m a n moment (option_map_or (λ (s : DataSet). written_set s vs) p []) past)) (sym (found-told old domain item c n past o is st))
          (subst (λ ss. StandsAt new c n (arrival n moment ∷ after_singles m a n moment ss past)) (sym empty) (arrived c n past st))),
    )

    pub no-set : set_members old.book domain item ≡ None → IsAnswered old new moment a service (replies.Error 7 2)
    no-set none_ = unwritten (replies.Error 7 2) None (none-told old domain item none_) refl refl

    pub other-count : (ns : List NodeId) → set_members old.book domain item ≡ Some ns → (length ns == length (values_of vs)) ≡ false → IsAnswered old new moment a service (replies.Reject 3)
    other-count ns some differs =
        let s = some-told old domain item ns some in
        let test : (length s.0.nodes == length (values_of vs)) ≡ false = ap (λ k. k == length (values_of vs)) (count-named s.0 ns s.2) ∙ differs in
        unwritten (replies.Reject 3) (Some s.0) s.1 (rw test refl) (rw test refl)

module _ (old new : State) (moment a : ℕ) (domain item : List ℕ) (vs : Row) where
  pub members-answered : (ns : List NodeId) (codes : List (Result (Unit {0}) ℕ)) → set_members old.book domain item ≡ Some ns → (length ns == length (values_of vs)) ≡ true
      → AreWritten old new moment a (writes_of (node_numbers ns) (values_of vs)) codes → IsAnswered old new moment a (services.WriteSet domain item vs) (replies.Wrote codes)
  members-answered ns codes some count written =
      let s = some-told old domain item ns some in
      let test : (length s.0.nodes == length (values_of vs)) ≡ true = ap (λ k. k == length (values_of vs)) (count-named s.0 ns s.2) ∙ count in
      let numbers : node_numbers ns ≡ s.0.nodes = sym s.2 in
      let singles : written_set s.0 vs ≡ writes_of (node_numbers ns) (values_of vs) = rw test (ap (λ l. writes_of l (values_of vs)) (sym numbers)) in (
        (λ c n past st.
            let m = configured_model c in
            subst (λ p. replies.Wrote codes ≡ write_set_reply vs (outcomes m a n moment (option_map_or (λ (s : DataSet). written_set s vs) p []) past) p) (sym (found-told old domain item c n past (Some s.0) s.1 st))
            (subst (λ ss. replies.Wrote codes ≡ write_set_reply vs (outcomes m a n moment ss past) (Some s.0)) (sym singles) (rw test (ap replies.Wrote (written c n past st).0)))),
        (λ c n past st.
            let m = configured_model c in
            subst (λ p. StandsAt new c n (arrival n moment ∷ after_singles m a n moment (option_map_or (λ (s : DataSet). written_set s vs) p []) past)) (sym (found-told old domain item c n past (Some s.0) s.1 st))
            (subst (λ ss. StandsAt new c n (arrival n moment ∷ after_singles m a n moment ss past)) (sym singles) (written c n past st).1)),
      )

-- ---- the members of a set can be written

numbered : (P : ℕ → Type 0) (ns : List NodeId) → All P (node_numbers ns) → All (λ (n : NodeId). P n.0) ns
numbered P [] all = All-nil (λ (n : NodeId). P n.0)
numbered P (n ∷ ns) all = All-cons (λ (n : NodeId). P n.0) n ns (All-head P n.0 (node_numbers ns) all) (numbered P ns (All-tail P n.0 (node_numbers ns) all))

members-there : (c : Config) (s : DataSet) → IsServedSet c s → All (λ n. n < length (nodes c)) s.nodes
members-there c s served = λ k d below. (served.members k d below).there

pub members-fit : (s : State) (domain item : List ℕ) (vs : Row) (ns : List NodeId) → AreServedSets s.config s.book → IsFitting s.config (services.WriteSet domain item vs) → set_members s.book domain item ≡ Some ns → (length ns == length (values_of vs)) ≡ true
    → AreMembersFit s.config ns (values_of vs)
members-fit s domain item vs ns served fit some count =
    let c = s.config in
    let t = some-told s domain item ns some in
    record {
      count = grind (arith, nat_tests, count);
      nodes = numbered (λ n. n < length (nodes c)) ns (subst (All (λ n. n < length (nodes c))) t.2 (members-there c t.0 (found (IsServedSet c) (is_named (set_name domain item)) (sets_in s.book) (all-served c s.book served) t.0 t.1)));
      sound = sound-values vs (and_parts (set_fits domain item) (are_sound vs) fit).1;
    }

-- and they are no commands
pub members-uncalled : (s : State) (domain item : List ℕ) (ns : List NodeId) → AreServedSets s.config s.book → set_members s.book domain item ≡ Some ns → AreNoCommands s.config ns
members-uncalled s domain item ns served some =
    let c = s.config in
    let t = some-told s domain item ns some in
    numbered (IsPlainMember c) ns (subst (All (IsPlainMember c)) t.2 (members-plain c t.0.nodes (found (IsServedSet c) (is_named (set_name domain item)) (sets_in s.book) (all-served c s.book served) t.0 t.1).members))

-- a service that reads and writes no variable, and defines and deletes no data set
pub reading-of : (s : Service) → CallsNothing s → ((ts : List Target) (spec : Bool) → s ≡ services.Read ts spec → ⊥) → ((domain item : List ℕ) (vs : Row) → s ≡ services.WriteSet domain item vs → ⊥)
    → ((domain item : List ℕ) (members : List Target) → s ≡ services.Define domain item members → ⊥) → ((scope : ℕ) (names : List SetName) → s ≡ services.Delete scope names → ⊥) → IsReading s
reading-of (services.WriteVars ws) calls one two three four = absurd calls
reading-of (services.Read ts spec) calls one two three four = absurd (one ts spec refl)
reading-of (services.WriteSet domain item vs) calls one two three four = absurd (two domain item vs refl)
reading-of (services.Define domain item members) calls one two three four = absurd (three domain item members refl)
reading-of (services.Delete scope names) calls one two three four = absurd (four scope names refl)
reading-of _ calls one two three four = tt

-- ---- writes of a request, from its arrival

pub writes-written : (old z new : State) (moment a : ℕ) (ss : List Single) (codes : List (Result (Unit {0}) ℕ)) → ((c : Config) (n : ℕ) (past : Past) → StandsAt old c n past → StandsAt z c n (arrival n moment ∷ past))
    → AreWrites z new a ss codes → AreWritten old new moment a ss codes
writes-written old z new moment a ss codes arrived writes = λ c n past st. writes c n moment past (arrived c n past st)
